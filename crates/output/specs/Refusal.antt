-- The documents' numbers and values for what a function returns (document 01, "Refusal numbers"; document 02, requests 3, 10 and 11). Assumes nothing.
use Rattle.std.specs.Prelude.{ℕ, Result, Ok, Err}
use Rattle.output.specs.declared.refusal.Refusal.{Refusal}
use Rattle.output.specs.declared.refusal.Refusal.TheVariants as R

abbrev pub number_of : Refusal → ℕ
number_of R.Image = 1
number_of R.Room = 2
number_of R.Length = 3
number_of R.Ends = 4
number_of R.Digit = 5
number_of R.Checksum = 6
number_of R.Address = 7
number_of R.Command = 8
number_of R.BodyLength = 9
number_of R.Place = 10
number_of R.Value = 11
number_of R.Missing = 12
number_of R.Falls = 13
number_of R.Level = 14
number_of R.Sealed = 16
number_of R.Frames = 17
number_of R.Table = 18
number_of R.Parts = 19
number_of R.Rows = 20

-- 0 is done
abbrev pub number_in : {T : Type 0} → Result T Refusal → ℕ
number_in (Ok x) = 0
number_in (Err e) = number_of e

-- what was answered, and d where that was refused
abbrev pub value_in : {T : Type 0} → T → Result T Refusal → T
value_in d (Ok x) = x
value_in d (Err e) = d
