-- Each early return is the refusal of the check it stands for, and past them the work array has the body. Assumes nothing.
use mathlib.Core.Path.{◌≡◌, sym, ◌∙◌}
use mathlib.Core.List.{List}
use mathlib.Core.Bool.{Bool, true, false, cond}
use Prim.Native.Nat.{ℕ, ◌%◌}
use lib.ListN.{length}
use lib.Dec.{eqb, lit<}
use borrow.Author.Tests.{eq-eqb, ne_eqb}
use Rattle.std.proofs.lemmas.Result.{err_from_is_err_and}
use Rattle.laws.specs.Bytes.{sum_of}
use Rattle.laws.specs.Checks.{judged}
use Rattle.output.specs.declared.refusal.Refusal.TheVariants as R
use Rattle.frame.specs.Digits.{all_digits}
use Rattle.frame.specs.Apart.{length_ok, ends_ok, inner, body_of, frame_checks}
use Rattle.frame.proofs.Body.{chars_are, length_contents, work_contents}
use Rattle.frame.proofs.Answers.{told_some, told_none, length_fails, ends_fail, digits_fail, sum_decides, refused_read, passed_read}
use Rattle.frame.proofs.Totals.{sum_by_total}
use Rattle.frame.proofs.read.read_into.Goals.{Else-not-length_ok, Else-not-ends_ok, In_ok-total}
use Rattle.frame.proofs.read.read_into.Goals as goal

-- ---- what is known past each test

right-length : (c : Else-not-length_ok) → length_ok (length c.args.frame.now) ≡ true
right-length c = sym c.length_ok.ensures.is ∙ c.if-not-length_ok.false

right-ends : (c : Else-not-ends_ok) → ends_ok c.args.frame.now ≡ true
right-ends c = sym c.ends_ok.ensures ∙ c.if-not-ends_ok.false

-- where the checks come to the sum, the total decides
decided : (f : List ℕ) (total : ℕ) → length_ok (length f) ≡ true → ends_ok f ≡ true → all_digits (inner f) ≡ true → total ≡ sum_of (body_of f) % 256
    → (t : Bool) → eqb total 0 ≡ t → (A : Type 0) (no : ℕ → A) (after : A) → judged no (frame_checks f) after ≡ cond t after (no 6)
unfolding inner body_of
decided f total long ends digits is t e A refusal after = sum_decides refusal after _ t long ends digits (sum_by_total _ digits ∙ rw (← is) e)

-- the total is that of the body, whose characters are digits
digits-right : (c : In_ok-total) → (all_digits (inner c.args.frame.now) ≡ true) × (c.in_ok-total.total ≡ sum_of (body_of c.args.frame.now) % 256)
unfolding body_of
digits-right c =
    let is = chars_are c.args.frame.now (c.length_ok.ensures.bounds c.if-not-length_ok.false).0 in
    let p = told_some _ _ c.decode.ensures.total_is c.in_ok-total.total c.in_ok-total.ensures.ok_part in
    rw (← is) p

-- ---- the answers

pub returns-then-not-length_ok : goal.returns-then-not-length_ok
returns-then-not-length_ok c =
    let wrong = sym c.length_ok.ensures.is ∙ c.if-not-length_ok.true in
    refused_read _ _ 3 (lit< tt) (λ A refusal after. length_fails refusal after _ wrong)

pub returns-then-not-ends_ok : goal.returns-then-not-ends_ok
returns-then-not-ends_ok c =
    let long = right-length (goal.at.returns-then-not-ends_ok c).Else-not-length_ok in
    let wrong = sym c.ends_ok.ensures ∙ c.if-not-ends_ok.true in
    refused_read _ _ 4 (lit< tt) (λ A refusal after. ends_fail refusal after _ long wrong)

pub returns-in_err-total : goal.returns-in_err-total
returns-in_err-total c =
    let e = err_from_is_err_and c.from_residual.result c.from_residual.ensures.1 in
    let is = chars_are c.args.frame.now (c.length_ok.ensures.bounds c.if-not-length_ok.false).0 in
    let wrong = rw is at (told_none _ _ c.decode.ensures.total_is c.in_err-total.ensures.ok_part) in
    let value = rw c.in_err-total.ensures.ok_part at c.in_err-total.ensures.value in
    let digit : c.in_err-total.field-0.0 ≡ R.Digit = cc value in
    let p = goal.at.returns-in_err-total c in
    rw (e.1, e.2, digit)
    (refused_read _ _ 5 (lit< tt) (λ A refusal after. digits_fail refusal after _ (right-length p.Else-not-length_ok) (right-ends p.Else-not-ends_ok) wrong))

pub returns-then-total-ne0 : goal.returns-then-total-ne0
returns-then-total-ne0 c =
    let p = goal.at.returns-then-total-ne0 c in
    let d = digits-right p.In_ok-total in
    refused_read _ _ 6 (lit< tt)
    (decided _ _ (right-length p.Else-not-length_ok) (right-ends p.Else-not-ends_ok) d.0 d.1 false (ne_eqb _ 0 c.if-total-ne0.true))

pub returns : goal.returns
returns c =
    let p = goal.at.returns c in
    let d = digits-right p.In_ok-total in
    let n = c.length_ok.ensures.bounds c.if-not-length_ok.false in
    let told = (told_some _ _ c.decode.ensures.total_is c.in_ok-total.total c.in_ok-total.ensures.ok_part).0 in
    passed_read _ _ _
    (decided _ _ (right-length p.Else-not-length_ok) (right-ends p.Else-not-ends_ok) d.0 d.1 true (eq-eqb _ 0 c.if-total-ne0.false))
    (sym (length_contents _ n.0))
    (work_contents _ n.0 n.1 _ _ c.requires (c.decode.ensures.laid told))
