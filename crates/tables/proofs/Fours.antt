-- A table's bytes cut into rows of four, as a walk goes through them. Assumes nothing.
use mathlib.Core.Path.{◌≡◌, refl, sym, ap, ◌∙◌}
use mathlib.Core.List.{List}
use mathlib.Core.Bool.{Bool, true, false, ◌&&◌}
use Prim.Native.Nat.{ℕ, zero, suc, ◌+◌, ◌*◌, ◌<◌}
use native.Mathlib.Omega.{arith}
use lib.Dec.{leb}
use lib.ListN.{length, get_or, take, drop}
use lib.Seq.{get_or-take, get_or-drop}
use Rattle.std.specs.Simd.{first_chunks}
use Rattle.std.specs.List.{IsAllAdjacentAnswer}
use Rattle.std.proofs.lemmas.List.{drop-drop}
use Rattle.laws.specs.Bytes.{word_at}
use Rattle.laws.proofs.Tests.{every_of, every_fails}
use Rattle.tables.specs.Rows.{level, volume, climbs, never_fall}

length_fours : (n k : ℕ) (s : List ℕ) → length (first_chunks n k s) ≡ k
length_fours n zero s = refl
length_fours n (suc k) s = ap (λ (j : ℕ). suc j) (length_fours n k (drop n s))

four_is : (k i : ℕ) (s d : List ℕ) → i < k → get_or (first_chunks 4 k s) i d ≡ take 4 (drop (4 * i) s)
four_is zero i s d l = absurd (omega arith)
four_is (suc k) zero s d l = refl
four_is (suc k) (suc i) s d l = let e : 4 + 4 * i ≡ 4 * suc i = omega arith in rw (four_is k i (drop 4 s) d (omega arith), drop-drop, e)

-- neither falls from one row's bytes to another's
abbrev pub no_fall : List ℕ → List ℕ → Bool
no_fall x y = leb (word_at x 0) (word_at y 0) && leb (word_at x 2) (word_at y 2)

-- the rows of a table, of which there are k
module _ (s : List ℕ) (rows : List (List ℕ)) (k : ℕ) (e : rows ≡ first_chunks 4 k s) (all : k ≡ 352) where
  long : length rows ≡ 352
  long = ap length e ∙ length_fours 4 k s ∙ all

  -- each has its level, and then its volume
  word_in : (i j : ℕ) (d : List ℕ) → i < 352 → j < 3 → word_at (get_or rows i d) j ≡ word_at s (4 * i + j)
  unfolding word_at
  word_in i j d l m =
      let here : get_or rows i d ≡ take 4 (drop (4 * i) s) = rw e (four_is k i s d (omega arith)) in
      let next : 4 * i + (j + 1) ≡ 4 * i + j + 1 = omega arith in
      rw (
        here,
        get_or-take 4 (drop (4 * i) s) j 0 (omega arith),
        get_or-take 4 (drop (4 * i) s) (j + 1) 0 (omega arith),
        get_or-drop,
        get_or-drop,
        next,
      )

  level_in : (i : ℕ) (d : List ℕ) → i < 352 → word_at (get_or rows i d) 0 ≡ level s i
  level_in i d l = let start : 4 * i + 0 ≡ 4 * i = omega arith in rw start at (word_in i 0 d l (omega arith))

  -- what a walk over each and the next tells
  pub neighbours_tell : (r : Bool) → IsAllAdjacentAnswer (λ x y b. b ≡ no_fall x y) rows r → r ≡ never_fall s
  unfolding never_fall climbs
  neighbours_tell r h = go r h
    where
      step : (i : ℕ) → i < 351 → no_fall (get_or rows i s) (get_or rows (i + 1) s) ≡ climbs (level s) (volume s) i
      step i l =
          let m : i < 352 = omega arith in
          let n : i + 1 < 352 = omega arith in
          rw (level_in i s m, level_in (i + 1) s n, word_in i 2 s m (omega arith), word_in (i + 1) 2 s n (omega arith)) refl

      go : (r : Bool) → IsAllAdjacentAnswer (λ x y b. b ≡ no_fall x y) rows r → r ≡ never_fall s
      go true h = sym (every_of (climbs (level s) (volume s)) 351 (λ i l. sym (step i l) ∙ sym (h i s (omega (arith, long)))))
      go false (i, l, h) =
          let below : i < 351 = omega (arith, long) in
          sym (every_fails (climbs (level s) (volume s)) 351 i below (sym (step i below) ∙ sym (h s)))
