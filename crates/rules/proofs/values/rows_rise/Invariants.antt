-- The answer so far and the rows that remain decide as all did. Assumes nothing.
use mathlib.Core.Path.{◌≡◌}
use mathlib.Core.Bool.{◌&&◌}
use lib.ListN.{length, drop}
use Rattle.rules.specs.Rules.{rises}
use Rattle.rules.proofs.values.rows_rise.Given as goal

abbrev pub invariant-loop-rows : goal.invariant-loop-rows
invariant-loop-rows l = (l.ok && rises l.rows) ≡ rises (drop 4 l.body)

abbrev pub decreases-loop-rows : goal.decreases-loop-rows
decreases-loop-rows l = length l.rows
