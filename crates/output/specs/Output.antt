-- What is reported of an output, and left in it. Assumes nothing.
use Rattle.std.specs.Prelude.{◌≡◌, List, ℕ, length, Result}
use Rattle.laws.specs.Bytes.{lay}
use Rattle.output.specs.declared.refusal.Refusal.{Refusal}
use Rattle.output.specs.Refusal.{number_in, value_in}

-- the number, and how many bytes of the output were written
pub record Answer : Type 0 where
  pub number : ℕ
  pub len : ℕ

-- a refusal writes none
abbrev pub answer_of : Result ℕ Refusal → Answer
answer_of r = record { number = number_in r; len = value_in 0 r }

-- done, with so many bytes written
abbrev pub of_length : ℕ → Answer
of_length n = record { number = 0; len = n }

-- document 01's number, how many bytes were written, and the whole output afterwards
pub record OutputAfter : Type 0 where
  pub number : ℕ
  pub len : ℕ
  pub out : List ℕ

-- a refusal reports length 0 and alters nothing
abbrev pub refuse : List ℕ → ℕ → OutputAfter
refuse out n = record { number = n; len = 0; out = out }

-- what is written stands at the start of the output; the rest is unchanged
abbrev pub written : List ℕ → List ℕ → OutputAfter
written out bytes = record { number = 0; len = length bytes; out = lay out 0 bytes }

-- a function that answered r and left out has done what a says
pub record Does (a : OutputAfter) (r : Answer) (left : List ℕ) : Type 0 where
  pub number_is : r.number ≡ a.number
  pub len_is : r.len ≡ a.len
  pub out_is : left ≡ a.out
