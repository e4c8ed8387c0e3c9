-- What is answered is told by its number and its value: no two refusals have one number, and none has 0. Assumes nothing.
use mathlib.Core.Path.{◌≡◌, refl, sym, ap, ◌∙◌}
use Prim.Native.Nat.{ℕ, ◌<◌}
use native.Mathlib.Omega.{arith}
use Rattle.std.specs.Prelude.{cond, eqb, Result, Ok, Err}
use Rattle.output.specs.declared.refusal.Refusal.{Refusal}
use Rattle.output.specs.declared.refusal.Refusal.TheVariants as R
use Rattle.output.specs.Refusal.{number_of, number_in, value_in}
use Rattle.output.specs.Output.{answer_of}

-- ---- a number leads back to its refusal

refusal_with : ℕ → Refusal
refusal_with n =
    cond (eqb n 1) R.Image
    (cond (eqb n 2) R.Room
    (cond (eqb n 3) R.Length
    (cond (eqb n 4) R.Ends
    (cond (eqb n 5) R.Digit
    (cond (eqb n 6) R.Checksum
    (cond (eqb n 7) R.Address
    (cond (eqb n 8) R.Command
    (cond (eqb n 9) R.BodyLength
    (cond (eqb n 10) R.Place
    (cond (eqb n 11) R.Value
    (cond (eqb n 12) R.Missing
    (cond (eqb n 13) R.Falls
    (cond (eqb n 14) R.Level
    (cond (eqb n 16) R.Sealed
    (cond (eqb n 17) R.Frames
    (cond (eqb n 18) R.Table
    (cond (eqb n 19) R.Parts
    R.Rows)))))))))))))))))

back : (e : Refusal) → refusal_with (number_of e) ≡ e
unfolding refusal_with
back R.Image = refl
back R.Room = refl
back R.Length = refl
back R.Ends = refl
back R.Digit = refl
back R.Checksum = refl
back R.Address = refl
back R.Command = refl
back R.BodyLength = refl
back R.Place = refl
back R.Value = refl
back R.Missing = refl
back R.Falls = refl
back R.Level = refl
back R.Sealed = refl
back R.Frames = refl
back R.Table = refl
back R.Parts = refl
back R.Rows = refl

pub one_refusal : (e f : Refusal) → number_of e ≡ number_of f → e ≡ f
one_refusal e f h = sym (back e) ∙ (ap refusal_with h ∙ back f)

pub above_0 : (e : Refusal) → 0 < number_of e
above_0 R.Image = omega arith
above_0 R.Room = omega arith
above_0 R.Length = omega arith
above_0 R.Ends = omega arith
above_0 R.Digit = omega arith
above_0 R.Checksum = omega arith
above_0 R.Address = omega arith
above_0 R.Command = omega arith
above_0 R.BodyLength = omega arith
above_0 R.Place = omega arith
above_0 R.Value = omega arith
above_0 R.Missing = omega arith
above_0 R.Falls = omega arith
above_0 R.Level = omega arith
above_0 R.Sealed = omega arith
above_0 R.Frames = omega arith
above_0 R.Table = omega arith
above_0 R.Parts = omega arith
above_0 R.Rows = omega arith

-- ---- two results with one number and one value are the same

pub one_result : {T : Type 0} (d : T) (r s : Result T Refusal) → number_in r ≡ number_in s → value_in d r ≡ value_in d s → r ≡ s
one_result {T = T} d (Ok x) (Ok y) h g = ap (λ z. Ok z) g
one_result d (Ok x) (Err f) h g = absurd (let p = above_0 f in omega arith)
one_result d (Err e) (Ok y) h g = absurd (let p = above_0 e in omega arith)
one_result {T = T} d (Err e) (Err f) h g = ap (λ z. Err z) (one_refusal e f h)

-- so a promise that fixes these leaves one result
pub one_answer : (r s : Result ℕ Refusal) → answer_of r ≡ answer_of s → r ≡ s
one_answer r s h = one_result 0 r s (ap (λ a. a.number) h) (ap (λ a. a.len) h)
