-- Cutting as a loop does it: where the piece that begins at an index ends, and what is left to be cut from there on. Assumes nothing.
use mathlib.Core.Path.{◌≡◌, refl, ap}
use mathlib.Core.List.{List, [], ◌∷◌}
use mathlib.Core.Bool.{Bool, true, false, cond, not}
use Prim.Native.Nat.{ℕ, suc, ◌+◌, ◌-◌, ◌<◌, ◌≤◌, min}
use native.Mathlib.Decide.{dec_le}
use native.Mathlib.Omega.{arith}
use lib.ListN.{length, get_or, take, drop, length-drop}
use lib.Seq.{drop-drop}
use lib.Dec.{eqb, ltb}
use Rattle.std.proofs.lemmas.Bool.Decides.{nat_tests}
use borrow.Author.Tests.{eq-eqb, ne_eqb}
use Rattle.std.specs.Prelude.{Some, None, position}
use Rattle.std.specs.List.{position_or_len}
use Rattle.laws.specs.Bytes.{slice}
use Rattle.laws.proofs.Walks.{next, none_left}
use Rattle.laws.proofs.Bytes.{length-slice}
use Rattle.text.specs.Cut.{begun, pieces, ends, piece_end}

-- ---- the end of a piece, a character at a time

module _ (s : List ℕ) (i : ℕ) where
  pub end_here : i < length s → get_or s i 0 ≡ 10 → piece_end i s ≡ i + 1
  unfolding piece_end ends
  end_here h e = rw (next s i h, eq-eqb _ 10 e) (omega arith)

  pub end_later : i < length s → ¬ (get_or s i 0 ≡ 10) → piece_end (i + 1) s ≡ piece_end i s
  unfolding piece_end ends
  end_later h n = rw (next s i h, ne_eqb _ 10 n) (omega arith)

  pub end_none : length s ≤ i → piece_end i s ≡ length s
  unfolding piece_end ends
  end_none h = rw (none_left s i h) (omega arith)

-- ---- the end of a piece, by the place of the first 0Ah

ends_at : (s : List ℕ) → ends s ≡ min (length s) (position_or_len (λ b. eqb b 10) s + 1)
unfolding ends
ends_at [] = refl
ends_at (b ∷ s) = go (eqb b 10) (ends_at s)
  where
    go : (t : Bool) → ends s ≡ min (length s) (position_or_len (λ b. eqb b 10) s + 1)
        → cond t 1 (suc (ends s)) ≡ min (suc (length s)) (cond (not t) (1 + position_or_len (λ b. eqb b 10) s) 0 + 1)
    go true h = omega arith
    go false h = omega arith

-- what an answer says of the place that was looked for
place : (k n i : ℕ) → cond (ltb k n) (Some k) None ≡ Some i → (k ≡ i) × (k < n)
place k n i e = (grind (arith, nat_tests), grind (arith, nat_tests))

no_place : (k n : ℕ) → cond (ltb k n) (Some k) None ≡ None → n ≤ k
no_place k n e = grind (arith, nat_tests)

module _ (s : List ℕ) (from start : ℕ) (begins : start ≡ min from (length s)) where
  -- past the end nothing is left, as at the end
  rest_is : drop from s ≡ drop start s
  rest_is = go (dec_le from (length s))
    where
      go : Dec (from ≤ length s) → drop from s ≡ drop start s
      go (yes h) = let e : from ≡ start = omega arith in ap (λ (k : ℕ). drop k s) e
      go (no h) = rw (none_left s from (omega arith), none_left s start (omega arith))

  pub end_found : (i : ℕ) → position (λ b. eqb b 10) (drop start s) ≡ Some i → piece_end from s ≡ start + i + 1
  unfolding piece_end
  end_found i e =
      let p = place _ _ i e in
      rw (rest_is, ends_at (drop start s)) (omega (arith, length-drop start s))

  pub end_nowhere : position (λ b. eqb b 10) (drop start s) ≡ None → piece_end from s ≡ length s
  unfolding piece_end
  end_nowhere e =
      let p = no_place _ _ e in
      rw (rest_is, ends_at (drop start s)) (omega (arith, length-drop start s))

-- ---- the first piece

ends_most : (s : List ℕ) → ends s ≤ length s
unfolding ends
ends_most [] = omega arith
ends_most (b ∷ s) = go (eqb b 10) (ends_most s)
  where
    go : (t : Bool) → ends s ≤ length s → cond t 1 (suc (ends s)) ≤ suc (length s)
    go true h = omega arith
    go false h = omega arith

ends_some : (s : List ℕ) → 0 < length s → 0 < ends s
unfolding ends
ends_some [] h = absurd (let z : ⊥ = omega arith in z)
ends_some (b ∷ s) h = go (eqb b 10)
  where
    go : (t : Bool) → 0 < cond t 1 (suc (ends s))
    go true = omega arith
    go false = omega arith

first_piece : (s : List ℕ) → 0 < length s → pieces s ≡ take (ends s) s ∷ pieces (drop (ends s) s)
unfolding pieces ends
first_piece [] h = absurd (let z : ⊥ = omega arith in z)
first_piece (b ∷ s) h = go s (eqb b 10) (λ g. first_piece s g)
  where
    go : (s : List ℕ) (t : Bool) → (0 < length s → pieces s ≡ take (ends s) s ∷ pieces (drop (ends s) s))
        → begun b t (pieces s) ≡ take (cond t 1 (suc (ends s))) (b ∷ s) ∷ pieces (drop (cond t 1 (suc (ends s))) (b ∷ s))
    go s true ih = refl
    go [] false ih = refl
    go (x ∷ s) false ih = rw (ih (omega arith))

-- ---- from an index on

-- the piece that begins there
abbrev pub piece_at : ℕ → List ℕ → List ℕ
piece_at from s = slice from (piece_end from s - from) s

module _ (s : List ℕ) (from : ℕ) where
  pub end_most : piece_end from s ≤ length s
  unfolding piece_end
  end_most = omega arith

  pub end_past : from < length s → from < piece_end from s
  unfolding piece_end
  end_past h = omega (arith, ends_some (drop from s) (omega (arith, length-drop from s)))

  -- what was found as the piece's end lies behind its beginning, and in the list
  pub end_inside : (e : ℕ) → e ≡ piece_end from s → from < length s → (from < e) × (e ≤ length s)
  end_inside e is h = rw is (end_past h, end_most)

  -- the piece reaches to its end
  pub piece_reaches : from < length s → from + length (piece_at from s) ≡ piece_end from s
  piece_reaches h = omega (arith, end_past h, end_most, length-slice from (piece_end from s - from) s (omega (arith, end_past h, end_most)))

  -- what is left to be cut is the piece up to its end, and what is left from there on
  pub pieces-from : from < length s → pieces (drop from s) ≡ piece_at from s ∷ pieces (drop (piece_end from s) s)
  unfolding piece_end slice
  pieces-from h =
      let n : min (length s) (from + ends (drop from s)) ≡ from + ends (drop from s) = omega (arith, ends_most (drop from s), length-drop from s) in
      let d : from + ends (drop from s) - from ≡ ends (drop from s) = omega arith in
      rw (n, d, ← drop-drop (ends (drop from s)) from s) (first_piece (drop from s) (omega (arith, length-drop from s)))
