-- Digits told and read by a table, and two halves put together by a shift. Assumes nothing.
use mathlib.Core.Path.{◌≡◌, refl, sym, ap, ◌∙◌}
use mathlib.Core.List.{List, [], ◌∷◌}
use mathlib.Core.Bool.{Bool, true, false, cond, ◌&&◌, and_assoc, and-true, and-false}
use Prim.Native.Nat.{ℕ, zero, suc, ◌+◌, ◌*◌, ◌%◌, ◌^◌, ◌≤◌, ◌<◌}
use native.Mathlib.Decide.{dec_lt}
use native.Mathlib.Omega.{arith}
use lib.ListN.{length, get_or, drop}
use lib.Seq.{get_or-take, get_or-drop}
use lib.Bits.{bit_or, or_add_and, and_le_l, and_le_r, or_lt, or_shifted}
use lib.Pow.{shl_exact}
use lib.Dec.{ltb, leb, eqb}
use borrow.Author.Tests.{lt-ltb, le-ltb, leb-true, eqb-true}
use Rattle.std.specs.Simd.{first_chunks}
use Rattle.laws.specs.Checks.{all}
use Rattle.laws.proofs.Tests.{every_at}
use Rattle.laws.proofs.Walks.{next2}
use Rattle.frame.specs.Digits.{is_digit, all_digits, value_of, bytes_of}
use Rattle.frame.specs.Read.{reads_at, reads_digits}
use Rattle.frame.proofs.Chars.{value_half, digit_at, all_done, bytes_next}

-- ---- an entry

module _ (t : List ℕ) (ok : reads_digits t ≡ true) (c : ℕ) (h : c < 256) where
  entry : (d : Bool) → is_digit c ≡ d → cond d (eqb (get_or t c 0) (value_of c)) (leb 16 (get_or t c 0)) ≡ true
  unfolding reads_digits reads_at
  entry d e = rw e at (every_at (reads_at t) 256 c ok h)

  entry_value : is_digit c ≡ true → get_or t c 0 ≡ value_of c
  entry_value e = eqb-true _ _ (entry true e)

  pub entry_tells : ltb (get_or t c 0) 16 ≡ is_digit c
  entry_tells = go (is_digit c) refl
    where
      go : (d : Bool) → is_digit c ≡ d → ltb (get_or t c 0) 16 ≡ is_digit c
      go true e = rw (entry_value e, e) (lt-ltb (value_of c) 16 (value_half c e))
      go false e = rw e (le-ltb (get_or t c 0) 16 (leb-true 16 (get_or t c 0) (entry false e)))

-- ---- bits

-- an or is below 16 where both are
or_below : (a b : ℕ) → ltb (bit_or a b) 16 ≡ (ltb a 16 && ltb b 16)
or_below a b = go (dec_lt a 16) (dec_lt b 16)
  where
    go : Dec (a < 16) → Dec (b < 16) → ltb (bit_or a b) 16 ≡ (ltb a 16 && ltb b 16)
    go (yes p) (yes q) = rw (lt-ltb a 16 p, lt-ltb b 16 q) (lt-ltb (bit_or a b) 16 (or_lt 4 a b p q))
    go (yes p) (no q) = rw (le-ltb b 16 (omega arith), and-false) (le-ltb (bit_or a b) 16 (omega (arith, or_add_and a b, and_le_l a b)))
    go (no p) q = rw (le-ltb a 16 (omega arith)) (le-ltb (bit_or a b) 16 (omega (arith, or_add_and a b, and_le_r a b)))

halves_join : (h l : ℕ) → h < 16 → l < 16 → bit_or (h * 2 ^ 4 % 2 ^ 8) l ≡ 16 * h + l
halves_join h l p q =
    let e : h * 2 ^ 4 % 2 ^ 8 ≡ h * 2 ^ 4 = shl_exact {a = h} 4 4 8 p (omega arith) in
    rw e (or_shifted h 4 l q ∙ omega arith)

-- the byte of two digits
byte_read : (t : List ℕ) → reads_digits t ≡ true → (a b : ℕ) → a < 256 → b < 256 → is_digit a ≡ true → is_digit b ≡ true
    → 16 * value_of a + value_of b ≡ bit_or (get_or t a 0 * 2 ^ 4 % 2 ^ 8) (get_or t b 0)
byte_read t ok a b p q d e =
    rw (entry_value t ok a p d, entry_value t ok b q e) (sym (halves_join (value_of a) (value_of b) (value_half a d) (value_half b e)))

-- ---- a pair of characters

module _ (n : ℕ) (s : List ℕ) where
  pair : (k j : ℕ) → k < n → j < 2 → get_or (get_or (first_chunks 2 n s) k []) j 0 ≡ get_or s (2 * k + j) 0
  pair k j h low = at n k s h
    where
      at : (n k : ℕ) (s : List ℕ) → k < n → get_or (get_or (first_chunks 2 n s) k []) j 0 ≡ get_or s (2 * k + j) 0
      at zero k s h = absurd (omega arith)
      at (suc n) zero s h = let e : j ≡ 2 * 0 + j = omega arith in get_or-take 2 s j 0 low ∙ ap (λ (i : ℕ). get_or s i 0) e
      at (suc n) (suc k) s h =
          let e : 2 + (2 * k + j) ≡ 2 * suc k + j = omega arith in
          at n k (drop 2 s) (omega arith) ∙ get_or-drop 2 s (2 * k + j) 0 ∙ ap (λ (i : ℕ). get_or s i 0) e

  pub pair_first : (k : ℕ) → k < n → get_or (get_or (first_chunks 2 n s) k []) 0 0 ≡ get_or s (2 * k) 0
  pair_first k h = let e : 2 * k + 0 ≡ 2 * k = omega arith in pair k 0 h (omega arith) ∙ ap (λ (i : ℕ). get_or s i 0) e

  pub pair_second : (k : ℕ) → k < n → get_or (get_or (first_chunks 2 n s) k []) 1 0 ≡ get_or s (2 * k + 1) 0
  pair_second k h = pair k 1 h (omega arith)

-- ---- a turn of the loop

module _ (s : List ℕ) (i : ℕ) (more : i + 1 < length s) where
  pub told_next : (seen h l : ℕ) → ltb h 16 ≡ is_digit (get_or s i 0) → ltb l 16 ≡ is_digit (get_or s (i + 1) 0)
      → (ltb (bit_or (bit_or seen h) l) 16 && all_digits (drop (i + 2) s)) ≡ (ltb seen 16 && all_digits (drop i s))
  unfolding all
  told_next seen h l e f =
      let x = ltb seen 16 in
      let c = is_digit (get_or s i 0) in
      let d = is_digit (get_or s (i + 1) 0) in
      let rest = all_digits (drop (i + 2) s) in
      rw (or_below (bit_or seen h) l, or_below seen h, e, f, next2 s i more) (and_assoc (x && c) d rest ∙ and_assoc x c (d && rest))

  -- the byte that a turn lays
  pub byte_next : (t : List ℕ) → reads_digits t ≡ true → get_or s i 0 < 256 → get_or s (i + 1) 0 < 256 → all_digits s ≡ true
      → bytes_of (drop i s) ≡ bit_or (get_or t (get_or s i 0) 0 * 2 ^ 4 % 2 ^ 8) (get_or t (get_or s (i + 1) 0) 0) ∷ bytes_of (drop (i + 2) s)
  byte_next t ok p q d =
      let read = byte_read t ok (get_or s i 0) (get_or s (i + 1) 0) p q (digit_at s i d (omega arith)) (digit_at s (i + 1) d more) in
      bytes_next s i more ∙ ap (λ (n : ℕ). n ∷ bytes_of (drop (i + 2) s)) read

pub all_told : (s : List ℕ) (i seen : ℕ) → length s ≤ i → (ltb seen 16 && all_digits (drop i s)) ≡ all_digits s → ltb seen 16 ≡ all_digits s
all_told s i seen h e = sym (rw (all_done s i h) (and-true (ltb seen 16))) ∙ e
