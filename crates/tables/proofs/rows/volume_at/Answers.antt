-- Of row 352 its own volume is the answer; of any other row the next one's level is above the one asked. Assumes nothing.
use mathlib.Core.Path.{sym, ◌∙◌}
use Prim.Native.Nat.{◌+◌}
use native.Mathlib.Omega.{arith}
use Rattle.tables.specs.Rows.{level}
use Rattle.tables.proofs.LastRow.{Last, is_last, never_fall_is}
use Rattle.tables.proofs.Answer.{at_last, at_next}
use Rattle.tables.proofs.rows.volume_at.Goals.{After-last_row-i}
use Rattle.tables.proofs.rows.volume_at.Goals as goal

-- what was found is the last row at or below the level
found : (c : After-last_row-i) → Last (level c.args.s.now) 351 c.args.asked c.last_row-i.result
found c = rw c.last_row-i.ensures (is_last _ 351 _ c.requires.least)

pub row_at-row-requires : goal.row_at-row-requires
row_at-row-requires c = omega (arith, (found (goal.at.row_at-row-requires c).After-last_row-i).most)

pub returns-then-i-eq-LAST_ROW : goal.returns-then-i-eq-LAST_ROW
returns-then-i-eq-LAST_ROW c = rw c.row_at-row.ensures (sym (at_last _ _ 351 _ _ c.last_row-i.ensures c.if-i-eq-LAST_ROW.true))

pub overflow_add-i : goal.overflow_add-i
overflow_add-i c = omega (arith, (found (goal.at.overflow_add-i c).After-last_row-i).most)

pub row_at-requires : goal.row_at-requires
row_at-requires c = omega (arith, (found (goal.at.row_at-requires c).After-last_row-i).most)

pub between-requires : goal.between-requires
between-requires c =
    let i = c.last_row-i.result in
    let r = found (goal.at.between-requires c).After-last_row-i in
    let above = r.above (i + 1) (omega arith) (omega (arith, r.most)) in
    let h = never_fall_is _ c.requires.climbing i (i + 1) (omega arith) (omega (arith, r.most)) in
    rw (c.row_at-row.ensures, c.row_at.ensures) (h.1, r.below, above)

pub returns : goal.returns
returns c = c.between.ensures ∙ rw (c.row_at-row.ensures, c.row_at.ensures) (sym (at_next _ _ 351 _ _ c.last_row-i.ensures c.if-i-eq-LAST_ROW.false))
