-- A number names a table's place, or nothing. Assumes nothing.
use native.Mathlib.Omega.{arith}
use Rattle.std.proofs.lemmas.Grind.{common_steps}
use Rattle.image.specs.Cell.{when, table_named, index_named}
use Rattle.image.proofs.cell.Cell.table.Goals as goal

pub returns : goal.returns
unfolding table_named when index_named
returns c = grind (arith, common_steps)
