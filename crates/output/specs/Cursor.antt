-- What a write cursor's method promises, whatever it lays. Assumes nothing.
use Rattle.std.specs.Prelude.{◌≡◌, List, ℕ, ◌+◌, length}
use Rattle.laws.specs.Bytes.{lay}

-- a cursor has moved from one offset to another, past the bytes that were laid there
pub record Laid (from to : ℕ) (old new bytes : List ℕ) : Type 0 where
  pub past : to ≡ from + length bytes
  pub laid : new ≡ lay old from bytes
