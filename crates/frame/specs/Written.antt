-- Writing a frame, as code does it: what each step lays, and where the writer that it hands back stands with which total. Assumes nothing.
use Rattle.std.specs.Prelude.{◌≡◌, List, [], ◌∷◌, ◌++◌, ℕ, ◌+◌, ◌%◌}
use Rattle.laws.specs.Bytes.{sum_of}
use Rattle.output.specs.Cursor.{Laid}
use Rattle.frame.specs.declared.writer.Writer.{Writer}
use Rattle.frame.specs.Digits.{chars_of, check_of}

pub record Begins (old : List ℕ) (to : Writer) (new : List ℕ) : Type 0 where
  pub opened : Laid 0 to.at old new (58 ∷ [])
  pub total_is : to.total ≡ 0

pub record Spells (from : Writer) (old bytes : List ℕ) (to : Writer) (new : List ℕ) : Type 0 where
  pub spelt : Laid from.at to.at old new (chars_of bytes)
  pub total_is : to.total ≡ (from.total + sum_of bytes) % 256

-- the checksum of the total stands behind the bytes, and the two last characters behind that; the frame is as long as all that then stands there
pub record Ends (from : Writer) (old : List ℕ) (len : ℕ) (new : List ℕ) : Type 0 where
  pub closed : Laid from.at len old new (chars_of (check_of from.total ∷ []) ++ (13 ∷ (10 ∷ [])))
