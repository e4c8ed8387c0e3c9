-- A number lies in 1..8, below or above it. Assumes nothing.
use native.Mathlib.Omega.{arith}
use Rattle.laws.proofs.Tests.{within_in, within_below, within_above}
use Rattle.image.specs.Cell.{when, errors_named}
use Rattle.image.proofs.cell.Cell.errors.Goals as goal

pub returns-in-1-to-8 : goal.returns-in-1-to-8
unfolding errors_named when
returns-in-1-to-8 c = rw (within_in 1 8 c.args.number (omega arith) (omega arith))

pub returns-in_default : goal.returns-in_default
unfolding errors_named when
returns-in_default c = rw (within_below 1 8 c.args.number (omega arith))

pub returns-in_default-2 : goal.returns-in_default-2
unfolding errors_named when
returns-in_default-2 c = rw (within_above 1 8 c.args.number (omega arith))
