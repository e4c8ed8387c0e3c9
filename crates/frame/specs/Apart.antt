-- Taking a frame apart (document 01, "The frame" and "Refusal numbers"): for every input the number, the length and the whole output. Assumes
-- nothing.
use Rattle.std.specs.Prelude.{List, [], ◌∷◌, Bool, ◌&&◌, ℕ, ◌-◌, ◌%◌, length, get_or, leb, eqb}
use Rattle.laws.specs.Bytes.{slice}
use Rattle.laws.specs.Checks.{Check, check, judged, within}
use Rattle.output.specs.Output.{OutputAfter, refuse, written}
use Rattle.frame.specs.Digits.{all_digits, bytes_of, checksum_of}

-- a body of 3 to 133 bytes makes an odd length from 9 to 269
unfoldable pub length_ok : ℕ → Bool
length_ok n = within 9 269 n && eqb (n % 2) 1

-- 3Ah first, 0Dh 0Ah last
unfoldable pub ends_ok : List ℕ → Bool
ends_ok f = eqb (get_or f 0 0) 58 && (eqb (get_or f (length f - 2) 0) 13 && eqb (get_or f (length f - 1) 0) 10)

-- the characters between them
unfoldable pub inner : List ℕ → List ℕ
inner f = slice 1 (length f - 3) f

unfoldable pub body_of : List ℕ → List ℕ
body_of f = bytes_of (inner f)

-- the body without its checksum, which is its last byte
unfoldable pub contents_of : List ℕ → List ℕ
contents_of f = slice 0 (length (body_of f) - 1) (body_of f)

-- the last byte is the checksum of those before it
unfoldable pub sum_ok : List ℕ → Bool
sum_ok f = eqb (get_or (body_of f) (length (body_of f) - 1) 0) (checksum_of (contents_of f))

-- checks 3 to 6, which whoever receives a frame makes
unfoldable pub frame_checks : List ℕ → List Check
frame_checks f = check 3 (length_ok (length f)) ∷ (check 4 (ends_ok f) ∷ (check 5 (all_digits (inner f)) ∷ (check 6 (sum_ok f) ∷ [])))

-- taking apart makes check 2 before them
abbrev pub apart_checks : List ℕ → List ℕ → List Check
apart_checks f out = check 2 (leb 132 (length out)) ∷ frame_checks f

unfoldable pub apart : List ℕ → List ℕ → OutputAfter
apart f out = judged (refuse out) (apart_checks f out) (written out (contents_of f))
