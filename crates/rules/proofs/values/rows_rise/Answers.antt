-- The answer so far and the rows that remain decide as all did. Assumes nothing.
use mathlib.Core.Bool.{and_assoc, and-true}
use native.Mathlib.Omega.{arith}
use Rattle.rules.proofs.Judging.{rises_by, rises-done}
use Rattle.rules.proofs.values.rows_rise.Goals as goal

pub loop-rows-preserved : goal.loop-rows-preserved
loop-rows-preserved c =
    let next = rises_by c.loop-rows.rows.now 0 (omega arith) in
    rw (c.is_colder-ok.ensures, c.behind-rows-in-len4-up.ensures, and_assoc, ← next) c.loop-rows.invariant

pub returns : goal.returns
returns c =
    rw (rises-done c.loop-rows.rows.now 0 (omega arith), and-true) at c.loop-rows.invariant
