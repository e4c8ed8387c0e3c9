-- The two tests of the definition. Assumes nothing.
use native.Mathlib.Omega.{arith}
use borrow.Author.Tests.{lt-ltb, le-ltb}
use Rattle.image.specs.Cell.{item_at}
use Rattle.image.proofs.cell.Cell.item.Goals as goal

pub returns-in-0-to-15 : goal.returns-in-0-to-15
unfolding item_at
returns-in-0-to-15 c = rw (lt-ltb c.args.i 16 (omega arith))

pub returns-in-16-to-23 : goal.returns-in-16-to-23
unfolding item_at
returns-in-16-to-23 c = rw (le-ltb c.args.i 16 (omega arith), lt-ltb c.args.i 24 (omega arith))

pub returns-in_default : goal.returns-in_default
unfolding item_at
returns-in_default c = rw (le-ltb c.args.i 16 (omega arith), le-ltb c.args.i 24 (omega arith))
