-- The line that the desk program prints for a piece (document 01, end of "Frames to hold the block to"). Assumes nothing.
use Rattle.std.specs.Prelude.{List, [], ◌∷◌, ◌++◌, cond, ℕ, ◌-◌, length, eqb}
use Rattle.laws.specs.Bytes.{slice}
use Rattle.text.specs.Decimal.{decimal}

-- for number 0 a space and the reply without its last two bytes, which end a frame
unfoldable pub shown : ℕ → List ℕ → List ℕ
shown n reply = cond (eqb n 0) (32 ∷ slice 0 (length reply - 2) reply) []

unfoldable pub line_of : ℕ → List ℕ → List ℕ
line_of n reply = decimal n ++ (shown n reply ++ (10 ∷ []))
