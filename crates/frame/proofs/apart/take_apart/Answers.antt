-- What reading found is the refusal or the contents that the definition has. Assumes nothing.
use mathlib.Core.Path.{◌≡◌, refl, ap, sym, ◌∙◌}
use native.Mathlib.Omega.{arith}
use lib.ListN.{length}
use Rattle.std.proofs.lemmas.Result.{err_from_is_err_and}
use Rattle.laws.specs.Bytes.{lay}
use Rattle.output.proofs.Outcomes.{refused, filled}
use Rattle.frame.specs.Apart.{contents_of}
use Rattle.frame.proofs.Answers.{apart_room, apart_checked}
use Rattle.frame.proofs.Passing.{apart_passed, read_err, read_passes, read_long}
use Rattle.frame.proofs.apart.take_apart.Goals as goal

pub returns-then-out-lt132 : goal.returns-then-out-lt132
returns-then-out-lt132 c = refused _ _ _ 2 (apart_room _ _ c.if-out-lt132.true) refl refl

pub returns-in_err-taken : goal.returns-in_err-taken
returns-in_err-taken c =
    let e = err_from_is_err_and c.from_residual.result c.from_residual.ensures.1 in
    rw (e.1, e.2)
    (refused _ _ _ _ (apart_checked _ _ c.if-out-lt132.false ∙ read_err c.in_err-taken.field-0.0 c.in_err-taken.ensures _ _ _) refl refl)

pub slice_bounds-work-end : goal.slice_bounds-work-end
slice_bounds-work-end c = omega (arith, read_long c.in_ok-taken.ensures refl)

pub slice_bounds-put_all-end : goal.slice_bounds-put_all-end
slice_bounds-put_all-end c = sym (read_long c.in_ok-taken.ensures refl).2

pub put_all-end-requires : goal.put_all-end-requires
put_all-end-requires c = omega (arith, read_long c.in_ok-taken.ensures refl)

pub returns : goal.returns
returns c =
    let a = c.args in
    let is = c.in_ok-taken.ensures.contents_are refl in
    let k : c.put_all-end.result.at ≡ length (contents_of a.frame.now) = omega (arith, c.put_all-end.ensures.past, ap length is) in
    filled _ _ _ _ _ (apart_passed _ _ c.if-out-lt132.false (read_passes c.in_ok-taken.ensures refl)) refl k
    (c.put_all-end.ensures.laid ∙ ap (lay a.out.now 0) is)
