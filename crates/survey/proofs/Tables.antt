-- The table that a file sends, part by part: 1,408 bytes whose eleven parts are those of the file are that table, and its rows are those of the frames.
-- Assumes nothing.
use mathlib.Core.Path.{◌≡◌, refl, sym, ap₂, ◌∙◌}
use mathlib.Core.List.{List, ◌++◌}
use Prim.Native.Nat.{ℕ, zero, suc, ◌+◌, ◌-◌, ◌*◌, ◌≤◌}
use native.Mathlib.Omega.{arith}
use lib.ListN.{length, take, drop}
use lib.Seq.{take-add, take_all}
use Rattle.laws.specs.Bytes.{slice}
use Rattle.survey.specs.File.{contents_with, rows_to, table_sent}

-- part p of a table's bytes
abbrev pub part_of : ℕ → List ℕ → List ℕ
part_of p s = slice (128 * (p - 1)) 128 s

-- each part of s is that of the file
abbrev pub PartByPart : List ℕ → List (List ℕ) → Type 0
PartByPart s cs = (p : ℕ) → 1 ≤ p → p ≤ 11 → part_of p s ≡ drop 4 (contents_with p cs)

module _ (s : List ℕ) (cs : List (List ℕ)) (each : PartByPart s cs) where
  up_to : (n : ℕ) → n ≤ 11 → take (128 * n) s ≡ rows_to n cs
  unfolding rows_to slice
  up_to zero l = refl
  up_to (suc n) l =
      let e : 128 * suc n ≡ 128 * n + 128 = omega arith in
      let k : suc n - 1 ≡ n = omega arith in
      rw e (take-add (128 * n) 128 s ∙ ap₂ ◌++◌ (up_to n (omega arith)) (rw k at (each (suc n) (omega arith) l)))

  pub part_by_part : length s ≡ 1408 → s ≡ table_sent cs
  unfolding table_sent
  part_by_part long = sym (take_all 1408 s (omega arith)) ∙ up_to 11 (omega arith)
