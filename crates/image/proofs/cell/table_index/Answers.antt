-- A number lies in one of the two ranges that tables have, or in one of the three around them. Assumes nothing.
use native.Mathlib.Omega.{arith}
use Rattle.laws.proofs.Tests.{within_below, within_above}
use Rattle.image.specs.Cell.{index_named}
use Rattle.image.proofs.Indices.{main_stands, additional_stands, none_stands}
use Rattle.image.proofs.cell.table_index.Goals as goal

pub returns-in-1-to-8 : goal.returns-in-1-to-8
unfolding index_named
returns-in-1-to-8 c = let t = main_stands c.args.number (omega arith) (omega arith) in rw (t.0, t.1)

pub returns-in-11-to-18 : goal.returns-in-11-to-18
unfolding index_named
returns-in-11-to-18 c = let t = additional_stands c.args.number (omega arith) (omega arith) in rw (t.0, t.1)

pub returns-in_default : goal.returns-in_default
unfolding index_named
returns-in_default c = rw (none_stands c.args.number (within_below 1 8 c.args.number (omega arith)) (within_below 11 18 c.args.number (omega arith)))

pub returns-in_default-2 : goal.returns-in_default-2
unfolding index_named
returns-in_default-2 c = rw (none_stands c.args.number (within_above 1 8 c.args.number (omega arith)) (within_below 11 18 c.args.number (omega arith)))

pub returns-in_default-3 : goal.returns-in_default-3
unfolding index_named
returns-in_default-3 c = rw (none_stands c.args.number (within_above 1 8 c.args.number (omega arith)) (within_above 11 18 c.args.number (omega arith)))
