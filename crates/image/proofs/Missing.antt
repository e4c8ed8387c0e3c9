-- What the lowest missing part is, and that a word's trailing ones give it. Assumes nothing.
use mathlib.Core.Path.{◌≡◌, refl, sym, ap}
use mathlib.Core.Logic.{◌≢◌, ◌⊎◌, inl, inr}
use mathlib.Core.Bool.{not}
use Prim.Native.Nat.{ℕ, zero, suc, ◌+◌, ◌-◌, ◌^◌, ◌%◌, ◌≤◌, ◌<◌}
use native.Mathlib.Nat.{div-eq_of_lt}
use native.Mathlib.Decide.{ℕ_discrete, dec_lt}
use native.Mathlib.Omega.{arith}
use lib.Arith.{lt_of_le-ne}
use lib.Dec.{eqb}
use borrow.Author.Tests.{eq-eqb, ne_eqb}
use Rattle.std.specs.Prelude.{unwrap_or}
use Rattle.std.specs.Bool.{then_some}
use Rattle.laws.specs.Bits.{bit}
use Rattle.laws.proofs.Bits.{bit_cases, Gap}
use Rattle.image.specs.Held.{missing_from, lowest_missing}

-- n bits are set from the lowest on
abbrev pub Full : ℕ → ℕ → Type 0
Full w n = (i : ℕ) → i < n → bit w i ≡ 1

-- of n parts, p is the lowest that is missing: 0 where all are held, else bit p - 1 is the lowest that is not set
abbrev pub Lowest : ℕ → ℕ → ℕ → Type 0
Lowest n w p = ((p ≡ 0) × Full w n) ⊎ ((0 < p) × (p ≤ n) × (bit w (p - 1) ≡ 0) × Full w (p - 1))

full_more : (w n : ℕ) → Full w n → bit w n ≡ 1 → Full w (suc n)
full_more w n h e i l = go (ℕ_discrete i n)
  where
    go : Dec (i ≡ n) → bit w i ≡ 1
    go (yes f) = rw f e
    go (no f) = h i (omega arith)

missing_from_lem : (n w k m : ℕ) → k + m ≡ n → Full w k → Lowest n w (missing_from w (suc k) m)
unfolding missing_from
missing_from_lem n w k zero e h = inl (refl, λ i l. h i (omega arith))
missing_from_lem n w k (suc m) e h = go (bit_cases w k) (λ f. missing_from_lem n w (suc k) m (omega arith) f)
  where
    here : suc k - 1 ≡ k
    here = omega arith

    go : (bit w k ≡ 0) ⊎ (bit w k ≡ 1) → (Full w (suc k) → Lowest n w (missing_from w (suc (suc k)) m)) → Lowest n w (missing_from w (suc k) (suc m))
    go (inl z) ih = rw (here, z) (inr (omega arith, omega arith, rw here z, rw here h))
    go (inr o) ih = rw (here, o) (ih (full_more w k h o))

pub lowest_missing_is : (w : ℕ) → Lowest 11 w (lowest_missing w)
unfolding lowest_missing
lowest_missing_is w = missing_from_lem 11 w 0 11 refl (λ i l. absurd (let z : ⊥ = omega arith in z))

-- there is one
pub one_lowest : (n w p q : ℕ) → Lowest n w p → Lowest n w q → p ≡ q
one_lowest n w p q (inl a) (inl b) = omega arith
one_lowest n w p q (inl a) (inr b) = absurd (let z : ⊥ = omega (arith, a.1 (q - 1) (omega arith)) in z)
one_lowest n w p q (inr a) (inl b) = absurd (let z : ⊥ = omega (arith, b.1 (p - 1) (omega arith)) in z)
one_lowest n w p q (inr a) (inr b) = go (dec_lt p q) (dec_lt q p)
  where
    go : Dec (p < q) → Dec (q < p) → p ≡ q
    go (yes l) d = absurd (let z : ⊥ = omega (arith, b.3 (p - 1) (omega arith)) in z)
    go (no l) (yes g) = absurd (let z : ⊥ = omega (arith, a.3 (q - 1) (omega arith)) in z)
    go (no l) (no g) = omega arith

-- ---- from the trailing ones of a table's word

module _ (w t : ℕ) (small : w < 2 ^ 11) (gap : Gap 16 w t) where
  ones_most : t ≤ 11
  ones_most = go (dec_lt 11 t)
    where
      go : Dec (11 < t) → t ≤ 11
      go (yes l) =
          let e : bit w 11 ≡ 0 = ap (λ (x : ℕ). x % 2) (div-eq_of_lt small) in
          absurd (let z : ⊥ = omega (arith, gap.1 11 l) in z)
      go (no l) = omega arith

  pub none_missing : t ≡ 11 → lowest_missing w ≡ 0
  none_missing e = one_lowest 11 w _ _ (lowest_missing_is w) (inl (refl, λ i l. gap.1 i (omega arith)))

  pub one_missing : t ≢ 11 → lowest_missing w ≡ t + 1
  one_missing n =
      let l : t < 11 = lt_of_le-ne ones_most n in
      let e : t + 1 - 1 ≡ t = omega arith in
      one_lowest 11 w _ _ (lowest_missing_is w) (inr (omega arith, omega arith, rw e (gap.2 (omega arith)), rw e gap.1))

  -- as code has it: one more than the ones, save where they are all eleven
  pub missing_is : unwrap_or (then_some (not (eqb t 11)) (t + 1)) 0 ≡ lowest_missing w
  missing_is = go (ℕ_discrete t 11)
    where
      go : Dec (t ≡ 11) → unwrap_or (then_some (not (eqb t 11)) (t + 1)) 0 ≡ lowest_missing w
      go (yes e) = rw (eq-eqb t 11 e) (sym (none_missing e))
      go (no n) = rw (ne_eqb t 11 n) (sym (one_missing n))
