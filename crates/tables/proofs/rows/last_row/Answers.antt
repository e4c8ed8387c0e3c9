-- The invariant: row low is at or below the level asked, and every row from high on is above it. Assumes nothing.
use mathlib.Core.Path.{sym}
use native.Mathlib.Omega.{arith}
use Rattle.tables.proofs.LastRow.{last_is, never_fall_is}
use Rattle.tables.proofs.rows.last_row.Goals as goal

pub loop-low-preserved : goal.loop-low-preserved
loop-low-preserved c =
    let h = never_fall_is _ c.requires.climbing in
    (omega arith, omega arith, c.loop-low.invariant.2, λ j a b. omega (arith, (h _ j a b).0))

pub returns : goal.returns
returns c =
    sym (last_is _ 351 _ _ (record { most = omega arith; below = c.loop-low.invariant.2; above = λ j a b. c.loop-low.invariant.3 j (omega arith) b }))
