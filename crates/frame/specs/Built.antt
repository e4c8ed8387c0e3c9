-- Building a frame (document 01, "The frame" and "Refusal numbers"): for every input the number, the length and the whole output. Assumes
-- nothing.
use Rattle.std.specs.Prelude.{List, [], ◌∷◌, ◌++◌, ℕ, ◌+◌, ◌*◌, length, leb}
use Rattle.laws.specs.Checks.{Check, check, judged, within}
use Rattle.output.specs.Output.{OutputAfter, refuse, written}
use Rattle.frame.specs.Digits.{chars_of, checksum_of}

unfoldable pub frame_of : List ℕ → List ℕ
frame_of c = 58 ∷ (chars_of (c ++ (checksum_of c ∷ [])) ++ (13 ∷ (10 ∷ [])))

-- building alone checks 3 before 2
abbrev pub build_checks : List ℕ → List ℕ → List Check
build_checks c out = check 3 (within 2 132 (length c)) ∷ (check 2 (leb (2 * length c + 5) (length out)) ∷ [])

unfoldable pub built : List ℕ → List ℕ → OutputAfter
built c out = judged (refuse out) (build_checks c out) (written out (frame_of c))
