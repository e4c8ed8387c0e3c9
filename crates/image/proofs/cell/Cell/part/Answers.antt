-- A number names a table's place, or nothing, and a part's number lies in 1..11, below or above it. Assumes nothing.
use mathlib.Core.Path.{sym}
use mathlib.Core.Bool.{and-false}
use native.Mathlib.Omega.{arith}
use Rattle.laws.proofs.Tests.{within_in, within_below, within_above}
use Rattle.image.specs.Cell.{when, part_named}
use Rattle.image.proofs.Indices.{index_is, no_index}
use Rattle.image.proofs.cell.Cell.part.Goals as goal

pub returns-in_err-k : goal.returns-in_err-k
unfolding part_named when
returns-in_err-k c =
    rw (c.from_residual.ensures, no_index c.args.number (rw c.from.ensures at (sym c.in_err-k.ensures)))

pub returns-in-1-to-11 : goal.returns-in-1-to-11
unfolding part_named when
returns-in-1-to-11 c =
    let p = index_is c.args.number (rw c.from.ensures at (sym c.in_ok-k.ensures)) in
    rw (p.0, ← p.1, within_in 1 11 c.args.part (omega arith) (omega arith))

pub returns-in_default : goal.returns-in_default
unfolding part_named when
returns-in_default c = rw (within_below 1 11 c.args.part (omega arith), and-false)

pub returns-in_default-2 : goal.returns-in_default-2
unfolding part_named when
returns-in_default-2 c = rw (within_above 1 11 c.args.part (omega arith), and-false)
