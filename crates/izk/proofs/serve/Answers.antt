-- `izk::serve` meets its contract: each early return is the check that the definition has there, and what the contents' verdict is answered is
-- what is served. Assumes nothing.
use mathlib.Core.Path.{◌≡◌, refl, sym, ◌∙◌}
use mathlib.Core.Bool.{true}
use native.Mathlib.Omega.{arith}
use Rattle.std.proofs.lemmas.Result.{err_from_is_err_and}
use Rattle.output.proofs.Refusals.{above_0}
use Rattle.frame.proofs.Passing.{read_long}
use Rattle.image.specs.Version.{current}
use Rattle.image.specs.Usable.{usable}
use Rattle.image.proofs.UsableFacts.{facts}
use Rattle.command.proofs.Replying.{body_given}
use Rattle.izk.specs.Heard.{heard}
use Rattle.izk.proofs.Serving.{unusable_is_1, no_room_is_2}
use Rattle.izk.proofs.Taking.{refused_serves, read_serves_refusal, read_serves}
use Rattle.izk.proofs.serve.Goals.{Else-not-is_usable}
use Rattle.izk.proofs.serve.Goals as goal

good : (e : Else-not-is_usable) → usable current e.args.m.now ≡ true
good e = sym e.is_usable.ensures ∙ e.if-not-is_usable.false

pub returns-then-not-is_usable : goal.returns-then-not-is_usable
returns-then-not-is_usable c = refused_serves _ _ _ _ 1 (unusable_is_1 (heard _) current _ _ _ (sym c.is_usable.ensures ∙ c.if-not-is_usable.true))

pub returns-then-out-lt269 : goal.returns-then-out-lt269
returns-then-out-lt269 c =
    let u = good (goal.at.returns-then-out-lt269 c).Else-not-is_usable in
    refused_serves _ _ _ _ 2 (no_room_is_2 (heard _) current _ _ _ u c.if-out-lt269.true)

pub returns-in_err-n : goal.returns-in_err-n
returns-in_err-n c =
    let p = err_from_is_err_and c.from_residual.result c.from_residual.ensures.1 in
    let u = good (goal.at.returns-in_err-n c).Else-not-is_usable in
    rw (p.1, p.2) (read_serves_refusal c.in_err-n.ensures _ _ _ (λ z. let q = above_0 c.in_err-n.field-0.0 in omega arith) u c.if-out-lt269.false)

pub slice_bounds-work-end : goal.slice_bounds-work-end
slice_bounds-work-end c = omega (arith, read_long c.in_ok-n.ensures refl)

pub slice_bounds-body-end : goal.slice_bounds-body-end
slice_bounds-body-end c = sym (read_long c.in_ok-n.ensures refl).2

pub bounds-m-5 : goal.bounds-m-5
bounds-m-5 c =
    omega (arith, (facts current _ (good (goal.at.bounds-m-5 c).Else-not-is_usable)).long_is)

pub recognise-verdict-requires : goal.recognise-verdict-requires
recognise-verdict-requires c = omega (arith, read_long c.in_ok-n.ensures refl)

pub reply_to-requires : goal.reply_to-requires
reply_to-requires c = (good (goal.at.reply_to-requires c).Else-not-is_usable, c.if-out-lt269.false)

pub returns : goal.returns
returns c =
    let given = body_given current c.recognise-verdict.result _ c.args.m.now c.recognise-verdict.ensures.body in
    let answer = rw (given, c.recognise-verdict.ensures.verdict) at c.reply_to.ensures in
    read_serves c.in_ok-n.ensures refl _ _ _ _ _ _ (good (goal.at.returns c).Else-not-is_usable) c.if-out-lt269.false answer
