-- What was answered is what the definition says, and only one answer is. Assumes nothing.
use mathlib.Core.Path.{◌≡◌, sym, ap₂, ◌∙◌}
use mathlib.Core.List.{List}
use Prim.Native.Nat.{ℕ, ◌≤◌}
use native.Mathlib.Omega.{arith}
use lib.ListN.{length, take}
use lib.Seq.{take-length}
use Rattle.laws.specs.Bytes.{lay}
use Rattle.laws.proofs.Bytes.{lay-take}
use Rattle.output.specs.Output.{Answer, OutputAfter, refuse, written, Does}

-- ---- an answer that was given

pub refused : (a : OutputAfter) (r : Answer) (out : List ℕ) (n : ℕ) → a ≡ refuse out n → r.number ≡ n → r.len ≡ 0 → Does a r out
refused a r out n e h g = record { number_is = rw e h; len_is = rw e g; out_is = rw e }

pub filled : (a : OutputAfter) (r : Answer) (out left bytes : List ℕ) → a ≡ written out bytes → r.number ≡ 0 → r.len ≡ length bytes
    → left ≡ lay out 0 bytes → Does a r left
filled a r out left bytes e h g l = record { number_is = rw e h; len_is = rw e g; out_is = rw e l }

-- what was written is what stands in the output, as far as the answer's length says
pub stands_there : (out left bytes : List ℕ) (r : Answer) → length bytes ≤ length out → Does (written out bytes) r left → take r.len left ≡ bytes
stands_there out left bytes r h d = rw (d.len_is, d.out_is) (lay-take out bytes h (length bytes) (omega arith) ∙ take-length bytes)

-- ---- one outcome: two answers that do what the definition says, with what they leave, are the same

pub alike : (r s : Answer) → r.number ≡ s.number → r.len ≡ s.len → r ≡ s
alike r s e f = ap₂ {C = Answer} (λ (n l : ℕ). record { number = n; len = l }) e f

pub one_outcome : (a : OutputAfter) (r s : Answer) (o p : List ℕ) → Does a r o → Does a s p → (r ≡ s) × (o ≡ p)
one_outcome a r s o p d e = (alike r s (d.number_is ∙ sym e.number_is) (d.len_is ∙ sym e.len_is), d.out_is ∙ sym e.out_is)
