-- A frame is begun, the reply spelt, the image changed and the frame ended: four promises, one after the other. Assumes nothing.
use mathlib.Core.List.{List}
use Prim.Native.Nat.{ℕ}
use native.Mathlib.Omega.{arith}
use Rattle.frame.proofs.FrameLaid.{spells_past, frame_written}
use Rattle.image.specs.Version.{current}
use Rattle.command.specs.Reply.{reply_of}
use Rattle.command.proofs.Doing.{image_long}
use Rattle.command.proofs.Replying.{reply_fits, written-sends}
use Rattle.command.proofs.reply.accept.Goals as goal

pub leave-requires : goal.leave-requires
leave-requires c =
    image_long _ c.requires.0

pub end-requires : goal.end-requires
end-requires c =
    let reply_at : List ℕ = reply_of current c.args.order.echo c.args.order.act c.args.order.cell c.args.order.body.now c.args.m.now in
    omega (arith, c.begin-start.ensures.opened.past, spells_past {bytes = reply_at} c.put_reply-last.ensures, reply_fits c.args.order.fits _ c.requires.0)

pub returns : goal.returns
returns c =
    let reply_at : List ℕ = reply_of current c.args.order.echo c.args.order.act c.args.order.cell c.args.order.body.now c.args.m.now in
    written-sends _ _ _ reply_at c.leave.ensures
    (frame_written reply_at _ _ _ _ _ _ _ c.begin-start.ensures c.put_reply-last.ensures c.end.ensures)
