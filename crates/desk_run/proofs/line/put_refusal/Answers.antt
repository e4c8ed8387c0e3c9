-- A refusal's number is not 0, so that its line is the number and the line's end. Assumes nothing.
use mathlib.Core.List.{[], ◌∷◌}
use native.Mathlib.Omega.{arith}
use Rattle.output.specs.Refusal.{number_of}
use Rattle.output.proofs.Refusals.{above_0}
use Rattle.output.proofs.Laying.{laid_then}
use Rattle.desk_run.proofs.Lines.{line_refused, length-refused}
use Rattle.desk_run.proofs.line.put_refusal.Goals as goal

pub put_decimal-digits-requires : goal.put_decimal-digits-requires
put_decimal-digits-requires c =
    rw (c.from-2.ensures, c.from.ensures) (omega (arith, length-refused (number_of c.args.refusal) (above_0 c.args.refusal)))

pub put-requires : goal.put-requires
put-requires c =
    let digits = rw (c.from-2.ensures, c.from.ensures) at c.put_decimal-digits.ensures in
    omega (arith, length-refused (number_of c.args.refusal) (above_0 c.args.refusal), digits.past)

pub returns : goal.returns
returns c =
    let digits = rw (c.from-2.ensures, c.from.ensures) at c.put_decimal-digits.ensures in
    let line = line_refused (number_of c.args.refusal) (above_0 c.args.refusal) in
    rw line (laid_then _ _ _ _ _ _ _ (10 ∷ []) digits c.put.ensures)
