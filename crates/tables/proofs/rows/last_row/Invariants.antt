-- The invariant: row low is at or below the level asked, and every row from high on is above it. Assumes nothing.
use Prim.Native.Nat.{ℕ, ◌-◌, ◌≤◌, ◌<◌}
use Rattle.tables.specs.Rows.{level}
use Rattle.tables.proofs.rows.last_row.Given as goal

abbrev pub invariant-loop-low : goal.invariant-loop-low
invariant-loop-low l = (l.low < l.high) × (l.high ≤ 352) × (level l.s l.low ≤ l.asked) × ((j : ℕ) → l.high ≤ j → j ≤ 351 → l.asked < level l.s j)

abbrev pub decreases-loop-low : goal.decreases-loop-low
decreases-loop-low l = l.high - l.low
