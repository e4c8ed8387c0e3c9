-- The loop keeps what is still to be served and laid. Assumes nothing.
use mathlib.Core.Path.{sym, ◌∙◌}
use Prim.Native.Nat.{◌+◌, ◌≤◌}
use native.Mathlib.Omega.{arith}
use lib.ListN.{length}
use Rattle.image.specs.Version.{current}
use Rattle.desk_run.proofs.Pieces.{laid_fits}
use Rattle.desk_run.proofs.Ran.{ran_full, ran_end, ran_again, runs_of}
use Rattle.desk_run.proofs.turns.run.Goals as goal

pub loop-next-preserved : goal.loop-next-preserved
loop-next-preserved c =
    let i = c.loop-next.invariant in
    let room : c.loop-next.end.at + 300 ≤ length c.loop-next.text = omega arith in
    record {
      fits = laid_fits current _ _ _ _ _ _ c.put_piece-end.ensures.0 room;
      text_length = omega arith;
      image_length = omega arith;
      rest = ran_again current _ _ _ _ _ _ _ _ _ _ c.loop-next-test.true room c.piece_end-stop.ensures c.put_piece-end.ensures.0 c.put_piece-end.ensures.1 i.rest;
    }

pub returns-else-text-end-ge300 : goal.returns-else-text-end-ge300
returns-else-text-end-ge300 c =
    let i = c.loop-next.invariant in
    runs_of _ _ _ _ _ _ _ _ (sym (ran_full current c.loop-next.next c.loop-next.end.at c.loop-next.m c.loop-next.text _ (omega arith)) ∙ i.rest)
    i.fits i.text_length

pub returns-after-loop-next : goal.returns-after-loop-next
returns-after-loop-next c =
    let i = c.loop-next.invariant in
    runs_of _ _ _ _ _ _ _ _ (sym (ran_end current c.loop-next.next c.loop-next.end.at c.loop-next.m c.loop-next.text _ (omega arith)) ∙ i.rest)
    i.fits i.text_length
