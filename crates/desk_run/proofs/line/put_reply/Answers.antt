-- The three parts laid one after the other are the line, whose length is theirs together. Assumes nothing.
use mathlib.Core.List.{[], ◌∷◌}
use native.Mathlib.Omega.{arith}
use Rattle.output.proofs.Laying.{laid_then, laid_long}
use Rattle.desk_run.proofs.Lines.{line_done, length-done}
use Rattle.desk_run.proofs.line.put_reply.Goals as goal

pub put_all-opened-requires : goal.put_all-opened-requires
put_all-opened-requires c = omega (arith, length-done c.args.reply.now)

pub put_all-shown-requires : goal.put_all-shown-requires
put_all-shown-requires c = rw c.saturating_sub.ensures (omega (arith, length-done c.args.reply.now))

pub put-requires : goal.put-requires
put-requires c =
    let shown = rw c.saturating_sub.ensures at c.put_all-shown.ensures in
    omega (arith, length-done c.args.reply.now, shown.past, laid_long shown, laid_long c.put_all-opened.ensures)

pub returns : goal.returns
returns c =
    let shown = rw c.saturating_sub.ensures at c.put_all-shown.ensures in
    rw line_done (laid_then _ _ _ _ _ _ (48 ∷ 32 ∷ []) _ c.put_all-opened.ensures (laid_then _ _ _ _ _ _ _ (10 ∷ []) shown c.put.ensures))
