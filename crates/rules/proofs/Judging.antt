-- What the code that judges a body cites: reserve bytes and rising rows, as the code meets them. Assumes nothing.
use mathlib.Core.Path.{◌≡◌, refl, ap, ◌∙◌}
use mathlib.Core.Bool.{Bool, true, ◌&&◌}
use mathlib.Core.List.{List, [], ◌∷◌}
use Prim.Native.Nat.{ℕ, zero, suc, ◌+◌, ◌-◌, ◌≤◌, ◌<◌}
use native.Mathlib.Decide.{dec_lt}
use native.Mathlib.Numerals.{add-one}
use native.Mathlib.Omega.{arith}
use lib.ListN.{length, get_or, take, drop, length-take, length-drop, get_or-eq_default}
use lib.Dec.{eqb}
use lib.Signed.{lt_z}
use Rattle.std.proofs.lemmas.List.{get_or-take, take_all}
use Rattle.laws.specs.Checks.{all}
use Rattle.laws.proofs.Walks.{next, next2, none_left}
use Rattle.rules.specs.Rules.{zero_from, blank, degrees, rises}

-- ---- reserve

module _ (c : List ℕ) where
  -- past its end a body reads as 0, so that no byte there decides
  zero_past : (n b : ℕ) → length c < b → zero_from c b n ≡ true
  unfolding zero_from
  zero_past zero b h = refl
  zero_past (suc n) b h =
      let g : length c ≤ b - 1 = omega arith in
      rw (get_or-eq_default c 0 g, zero_past n (suc b) (omega arith))

  -- of its first bytes those from index k on
  zero_kept : (to n k : ℕ) → n ≡ to - k → all (λ x. eqb x 0) (drop k (take to c)) ≡ zero_from c (suc k) n
  unfolding all zero_from
  zero_kept to zero k e = rw (none_left (take to c) k (omega (arith, length-take to c)))
  zero_kept to (suc n) k e = go (dec_lt k (length c)) (zero_kept to n (k + 1) (omega arith))
    where
      go : Dec (k < length c) → all (λ x. eqb x 0) (drop (k + 1) (take to c)) ≡ zero_from c (suc (k + 1)) n
          → all (λ x. eqb x 0) (drop k (take to c)) ≡ zero_from c (suc k) (suc n)
      go (yes l) h =
          let i : k < length (take to c) = omega (arith, length-take to c) in
          let b : k < to = omega arith in
          let j : suc k - 1 ≡ k = omega arith in
          rw (next (take to c) k i, get_or-take to c k 0 b, h, j, add-one)
      go (no l) h = rw (none_left (take to c) k (omega (arith, length-take to c)), zero_past (suc n) (suc k) (omega arith))

  pub blank_kept : (from to : ℕ) → 1 ≤ from → all (λ x. eqb x 0) (drop (from - 1) (take to c)) ≡ blank c from to
  unfolding blank
  blank_kept from to h =
      let f : suc (from - 1) ≡ from = omega arith in
      let n : to - (from - 1) ≡ to + 1 - from = omega arith in
      zero_kept to (to - (from - 1)) (from - 1) refl ∙ rw (f, n)

  pub blank_short : (from to : ℕ) → 1 ≤ from → length c ≤ to → all (λ x. eqb x 0) (drop (from - 1) c) ≡ blank c from to
  blank_short from to h l = rw (take_all to c l) at (blank_kept from to h)

-- ---- rows

few_rows : (l : List ℕ) → length l ≤ 3 → rises l ≡ true
unfolding rises
few_rows [] h = refl
few_rows (t ∷ []) h = refl
few_rows (t ∷ (x ∷ [])) h = refl
few_rows (t ∷ (x ∷ (y ∷ []))) h = refl
few_rows (t ∷ (x ∷ (y ∷ (u ∷ rows)))) h = absurd (let z : ⊥ = omega arith in z)

module _ (s : List ℕ) (i : ℕ) where
  -- two rows: four bytes and what follows
  four : i + 3 < length s → drop i s ≡ get_or s i 0 ∷ (get_or s (i + 1) 0 ∷ (get_or s (i + 2) 0 ∷ (get_or s (i + 3) 0 ∷ drop (i + 4) s)))
  four h =
      let h1 : i + 1 < length s = omega arith in
      let h2 : i + 2 + 1 < length s = omega arith in
      let e : i + 2 + 1 ≡ i + 3 = omega arith in
      let f : i + 2 + 2 ≡ i + 4 = omega arith in
      next2 s i h1 ∙ ap (λ (l : List ℕ). get_or s i 0 ∷ (get_or s (i + 1) 0 ∷ l)) (rw (← e, ← f) (next2 s (i + 2) h2))

  -- the temperature at index i means fewer degrees than that of the next row
  abbrev pub colder : Bool
  colder = lt_z (degrees (get_or s i 0)) (degrees (get_or s (i + 3) 0))

  pub rises_by : i + 3 < length s → rises (drop i s) ≡ (colder && rises (drop (i + 3) s))
  unfolding rises
  rises_by h =
      let f : i + 3 + 1 ≡ i + 4 = omega arith in
      let n : drop (i + 3) s ≡ get_or s (i + 3) 0 ∷ drop (i + 4) s = rw (← f) (next s (i + 3) h) in
      rw (four h, n)

  pub rises-done : length s ≤ i + 3 → rises (drop i s) ≡ true
  rises-done h = few_rows (drop i s) (omega (arith, length-drop i s))
