-- Laws of a word's bits: one that is set, all of them counted, and the lowest that is not set. Assumes nothing.
use mathlib.Core.Path.{◌≡◌, refl, sym, ap, ap₂, ◌∙◌, subst}
use mathlib.Core.Logic.{◌≢◌, ◌⊎◌, inl, inr, ⊎_elim}
use Prim.Native.Nat.{ℕ, zero, suc, ◌+◌, ◌-◌, ◌*◌, ◌/◌, ◌%◌, ◌^◌, ◌≤◌, ◌<◌}
use native.Mathlib.Nat.{mod-lt, zero-div, div-eq_of_lt, div_self, div-one, one-mul, zero-mul, pow-suc}
use native.Mathlib.Decide.{ℕ_discrete, dec_lt}
use native.Mathlib.Numerals.{add-one}
use native.Mathlib.Omega.{arith}
use lib.Bits.{bit_and, bit_or, and_high, or_add_and, or_shr, or_mod, shifted_even, or_zero_r, or_lt}
use lib.Pow.{high_ones, shl_exact, pow_pos, pow-lt, pow-add, shl-shr, shr-shr, shr_lt}
use lib.Count.{ones, ones_step, count_trailing_zeros, under}
use lib.Dec.{lit<}
use lib.Arith.{lt_of_le-ne}
use Rattle.laws.specs.Bits.{bit, with_bit, ones_in}

zero_or_one : (x : ℕ) → x < 2 → (x ≡ 0) ⊎ (x ≡ 1)
zero_or_one zero h = inl refl
zero_or_one (suc zero) h = inr refl
zero_or_one (suc (suc x)) h = absurd (let z : ⊥ = omega arith in z)

pub bit_cases : (w k : ℕ) → (bit w k ≡ 0) ⊎ (bit w k ≡ 1)
bit_cases w k = zero_or_one (bit w k) (mod-lt (w / 2 ^ k) (lit< tt))

-- ---- a shift, a mask and an or, as code has them

pub one_shifted : (k : ℕ) → k < 16 → (1 * 2 ^ k) % 2 ^ 16 ≡ 2 ^ k
one_shifted k h = shl_exact {a = 1} 1 k 16 (lit< tt) (omega arith) ∙ one-mul (2 ^ k)

pub mask_is : (w k : ℕ) → bit_and w (2 ^ k) ≡ bit w k * 2 ^ k
mask_is w k = ap (λ (m : ℕ). bit_and w m) (sym (high_ones 1 k ∙ one-mul (2 ^ k))) ∙ and_high w 1 k

pub or_is : (w k : ℕ) → bit_or w (2 ^ k) ≡ with_bit w k
unfolding with_bit
or_is w k = ⊎_elim none some (bit_cases w k)
  where
    none : bit w k ≡ 0 → bit_or w (2 ^ k) ≡ w + (1 - bit w k) * 2 ^ k
    none e = rw e (omega (arith, or_add_and w (2 ^ k), mask_is w k ∙ ap (λ (d : ℕ). d * 2 ^ k) e ∙ zero-mul (2 ^ k)))

    some : bit w k ≡ 1 → bit_or w (2 ^ k) ≡ w + (1 - bit w k) * 2 ^ k
    some e = rw e (omega (arith, or_add_and w (2 ^ k), mask_is w k ∙ ap (λ (d : ℕ). d * 2 ^ k) e ∙ one-mul (2 ^ k)))

-- ---- each bit of a word with one bit set

pow-same : (k : ℕ) → bit (2 ^ k) k ≡ 1
pow-same k = ap (λ (x : ℕ). x % 2) (div_self (pow_pos k))

pow_below : (j k : ℕ) → j < k → bit (2 ^ j) k ≡ 0
pow_below j k h = ap (λ (x : ℕ). x % 2) (div-eq_of_lt (pow-lt h))

pow_above : (k d : ℕ) → bit (2 ^ (suc d + k)) k ≡ 0
pow_above k d =
    ap (λ (x : ℕ). x / 2 ^ k % 2) (pow-add 2 (suc d) k)
    ∙ ap (λ (x : ℕ). x % 2) (shl-shr (2 ^ suc d) k)
    ∙ ap (λ (x : ℕ). x % 2) (sym (one-mul (2 ^ suc d)))
    ∙ shifted_even 1 d

pow-other : (j k : ℕ) → j ≢ k → bit (2 ^ j) k ≡ 0
pow-other j k n = go (dec_lt j k)
  where
    go : Dec (j < k) → bit (2 ^ j) k ≡ 0
    go (yes l) = pow_below j k l
    go (no l) =
        let m : k < j = lt_of_le-ne (omega arith) (λ e. n (sym e)) in
        let e : suc (j - suc k) + k ≡ j = omega arith in
        ap (λ (x : ℕ). bit (2 ^ x) k) (sym e) ∙ pow_above k (j - suc k)

or_bit : (a b k : ℕ) → bit (bit_or a b) k ≡ bit_or (bit a k) (bit b k)
or_bit a b k = ap (λ (x : ℕ). x % 2) (or_shr a b k) ∙ or_mod (a / 2 ^ k) (b / 2 ^ k) 1

or_one : (x : ℕ) → (x ≡ 0) ⊎ (x ≡ 1) → bit_or x 1 ≡ 1
or_one x (inl e) = ap (λ (y : ℕ). bit_or y 1) e
or_one x (inr e) = ap (λ (y : ℕ). bit_or y 1) e

pub bit-set : (w k : ℕ) → bit (with_bit w k) k ≡ 1
bit-set w k =
    ap (λ (x : ℕ). bit x k) (sym (or_is w k)) ∙ or_bit w (2 ^ k) k ∙ ap (λ (x : ℕ). bit_or (bit w k) x) (pow-same k) ∙ or_one (bit w k) (bit_cases w k)

-- setting one leaves the others
pub bit_kept : (w j k : ℕ) → j ≢ k → bit (with_bit w j) k ≡ bit w k
bit_kept w j k n =
    ap (λ (x : ℕ). bit x k) (sym (or_is w j)) ∙ or_bit w (2 ^ j) k ∙ ap (λ (x : ℕ). bit_or (bit w k) x) (pow-other j k n) ∙ or_zero_r (bit w k)

-- setting one that is set changes nothing
pub bit_again : (w k : ℕ) → bit w k ≡ 1 → with_bit w k ≡ w
unfolding with_bit
bit_again w k e = rw e (omega (arith, zero-mul (2 ^ k)))

-- a word of n bits stays one
pub with_bit_small : (n w k : ℕ) → w < 2 ^ n → k < n → with_bit w k < 2 ^ n
with_bit_small n w k h l = rw (← or_is w k) (or_lt n w (2 ^ k) h (pow-lt l))

-- two may be set in either order
pub with_bit_swap : (p q w : ℕ) → with_bit (with_bit w q) p ≡ with_bit (with_bit w p) q
unfolding with_bit
with_bit_swap p q w = go (ℕ_discrete p q)
  where
    both : (a b : ℕ) → a ≢ b → with_bit (with_bit w a) b ≡ w + (1 - bit w a) * 2 ^ a + (1 - bit w b) * 2 ^ b
    both a b n = ap (λ (y : ℕ). with_bit w a + (1 - y) * 2 ^ b) (bit_kept w a b n)

    swapped : (x y z : ℕ) → x + y + z ≡ x + z + y
    swapped x y z = omega arith

    go : Dec (p ≡ q) → with_bit (with_bit w q) p ≡ with_bit (with_bit w p) q
    go (yes e) = rw e
    go (no n) = both q p (λ e. n (sym e)) ∙ swapped w ((1 - bit w q) * 2 ^ q) ((1 - bit w p) * 2 ^ p) ∙ sym (both p q n)

-- ---- the count

bit_half : (w k : ℕ) → bit w (suc k) ≡ bit (w / 2) k
bit_half w k = ap (λ (x : ℕ). x % 2) (ap (λ (x : ℕ). w / 2 ^ x) (omega arith) ∙ sym (shr-shr w 1 k))

low_first : (n w : ℕ) → ones_in (suc n) w ≡ w % 2 + ones_in n (w / 2)
unfolding ones_in
low_first zero w = ap (λ (x : ℕ). x % 2 + 0) (div-one w)
low_first (suc n) w = omega (arith, bit_half w n, low_first n w)

pub ones_are : (n w : ℕ) → w < 2 ^ n → ones w ≡ ones_in n w
unfolding ones_in ones
ones_are zero w h = let e : w ≡ 0 = omega arith in ap ones e
ones_are (suc n) w h =
    ones_step w ∙ ap (λ (x : ℕ). w % 2 + x) (ones_are n (w / 2) (shr_lt n 1 (subst (λ (x : ℕ). w < 2 ^ x) (sym (add-one n)) h)))
    ∙ sym (low_first n w)

-- a bit that is set counts once more; one that was set already does not
pub ones_with : (n w k : ℕ) → k < n → ones_in n (with_bit w k) ≡ ones_in n w + (1 - bit w k)
unfolding ones_in
ones_with zero w k l = absurd (let z : ⊥ = omega arith in z)
ones_with (suc n) w k l = go (ℕ_discrete k n) (λ m. ones_with n w k m)
  where
    below : (m : ℕ) → m ≤ k → ones_in m (with_bit w k) ≡ ones_in m w
    below zero h = refl
    below (suc m) h = ap₂ ◌+◌ (bit_kept w k m (λ e. absurd (let z : ⊥ = omega arith in z))) (below m (omega arith))

    go : Dec (k ≡ n) → (k < n → ones_in n (with_bit w k) ≡ ones_in n w + (1 - bit w k))
        → bit (with_bit w k) n + ones_in n (with_bit w k) ≡ bit w n + ones_in n w + (1 - bit w k)
    go (yes e) ih = ⊎_elim here there (bit_cases w k)
      where
        last : bit (with_bit w k) n ≡ 1
        last = rw (← e) (bit-set w k)

        same : bit w n ≡ bit w k
        same = rw e

        here : bit w k ≡ 0 → bit (with_bit w k) n + ones_in n (with_bit w k) ≡ bit w n + ones_in n w + (1 - bit w k)
        here z = omega (arith, last, same, below n (omega arith))

        there : bit w k ≡ 1 → bit (with_bit w k) n + ones_in n (with_bit w k) ≡ bit w n + ones_in n w + (1 - bit w k)
        there z = omega (arith, last, same, below n (omega arith))
    go (no e) ih = omega (arith, bit_kept w k n e, ih (omega arith))

-- 0 has none
pub bit-none : (k : ℕ) → bit 0 k ≡ 0
bit-none k = ap (λ (x : ℕ). x % 2) (zero-div (2 ^ k))

pub ones_none : (n : ℕ) → ones_in n 0 ≡ 0
unfolding ones_in
ones_none zero = refl
ones_none (suc n) = omega (arith, bit-none n, ones_none n)

-- n of n are all of them
ones_most : (n w : ℕ) → ones_in n w ≤ n
unfolding ones_in
ones_most zero w = omega arith
ones_most (suc n) w = let b : bit w n < 2 = mod-lt (w / 2 ^ n) (lit< tt) in omega (arith, ones_most n w)

pub all_set_is : (n w : ℕ) → ones_in n w ≡ n → (k : ℕ) → k < n → bit w k ≡ 1
unfolding ones_in
all_set_is zero w e k l = absurd (let z : ⊥ = omega arith in z)
all_set_is (suc n) w e k l = go (bit_cases w n) (ℕ_discrete k n) (λ f. all_set_is n w f k)
  where
    go : (bit w n ≡ 0) ⊎ (bit w n ≡ 1) → Dec (k ≡ n) → (ones_in n w ≡ n → k < n → bit w k ≡ 1) → bit w k ≡ 1
    go (inl z) d ih = absurd (let f : ⊥ = omega (arith, ones_most n w) in f)
    go (inr o) (yes d) ih = rw d o
    go (inr o) (no d) ih = ih (omega arith) (omega arith)

pub all_set_if : (n w : ℕ) → ((k : ℕ) → k < n → bit w k ≡ 1) → ones_in n w ≡ n
unfolding ones_in
all_set_if zero w h = refl
all_set_if (suc n) w h = omega (arith, h n (omega arith), all_set_if n w (λ k l. h k (omega arith)))

-- ---- the lowest bit that is not set

-- t bits from the lowest on are set, and of k the next is not
abbrev pub Gap : ℕ → ℕ → ℕ → Type 0
Gap k w t = (t ≤ k) × ((i : ℕ) → i < t → bit w i ≡ 1) × (t < k → bit w t ≡ 0)

gap_set : (k w t : ℕ) → w % 2 ≡ 1 → Gap k (w / 2) t → Gap (suc k) w (suc t)
gap_set k w t e g = (omega arith, all, λ h. bit_half w t ∙ g.2 (omega arith))
  where
    all : (i : ℕ) → i < suc t → bit w i ≡ 1
    all zero h = ap (λ (x : ℕ). x % 2) (div-one w) ∙ e
    all (suc i) h = bit_half w i ∙ g.1 i (omega arith)

gap_none : (k w : ℕ) → w % 2 ≡ 0 → Gap (suc k) w 0
gap_none k w e = (omega arith, λ i h. absurd (let z : ⊥ = omega arith in z), λ h. ap (λ (x : ℕ). x % 2) (div-one w) ∙ e)

step : (k w : ℕ) → w / 2 < 2 ^ k → Gap k (w / 2) (count_trailing_zeros k (2 ^ k - 1 - w / 2)) → Gap (suc k) w (count_trailing_zeros (suc k) (2 ^ suc k - 1 - w))
unfolding count_trailing_zeros
step k w below ih = ⊎_elim clear full (zero_or_one (w % 2) (mod-lt w (lit< tt)))
  where
    rest : (2 ^ suc k - 1 - w) / 2 ≡ 2 ^ k - 1 - w / 2
    rest = omega (arith, pow-suc 2 k, below)

    clear : w % 2 ≡ 0 → Gap (suc k) w (under ((2 ^ suc k - 1 - w) % 2) (count_trailing_zeros k ((2 ^ suc k - 1 - w) / 2)))
    clear e =
        let odd : (2 ^ suc k - 1 - w) % 2 ≡ 1 = omega (arith, pow-suc 2 k, below) in
        rw odd (gap_none k w e)

    full : w % 2 ≡ 1 → Gap (suc k) w (under ((2 ^ suc k - 1 - w) % 2) (count_trailing_zeros k ((2 ^ suc k - 1 - w) / 2)))
    full e =
        let even : (2 ^ suc k - 1 - w) % 2 ≡ 0 = omega (arith, pow-suc 2 k, below) in
        rw (even, rest) (gap_set k w _ e ih)

-- the trailing zeros of a k-bit word's complement are its trailing ones
pub trailing_ones : (k w : ℕ) → w < 2 ^ k → Gap k w (count_trailing_zeros k (2 ^ k - 1 - w))
unfolding count_trailing_zeros
trailing_ones zero w h = (omega arith, λ i l. absurd (let z : ⊥ = omega arith in z), λ l. absurd (let z : ⊥ = omega arith in z))
trailing_ones (suc k) w h = step k w below (trailing_ones k (w / 2) below)
  where
    below : w / 2 < 2 ^ k
    below = shr_lt k 1 (subst (λ (x : ℕ). w < 2 ^ x) (sym (add-one k)) h)
