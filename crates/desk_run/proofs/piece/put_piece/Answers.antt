-- What serving promises bounds the reply and its line, and makes the line the one to be printed. Assumes nothing.
use mathlib.Core.Path.{sym}
use native.Mathlib.Omega.{arith}
use lib.Seq.{length-take-le}
use Rattle.laws.specs.Bytes.{zeros}
use Rattle.image.specs.Version.{current}
use Rattle.desk_run.specs.Desk.{left}
use Rattle.desk_run.proofs.Pieces.{line-short, reply_short, reply_long, line_is, reply_number}
use Rattle.desk_run.proofs.piece.put_piece.Goals as goal

pub slice_bounds-reply-end : goal.slice_bounds-reply-end
unfolding zeros
slice_bounds-reply-end c =
    let p = c.in-Ok.ensures in
    omega (arith, reply_short current _ _ _ _ _ p, reply_long current _ _ _ _ _ p)

pub slice_bounds-put_reply-end : goal.slice_bounds-put_reply-end
unfolding zeros
slice_bounds-put_reply-end c =
    let p = c.in-Ok.ensures in
    sym (length-take-le _ _ (omega (arith, reply_short current _ _ _ _ _ p, reply_long current _ _ _ _ _ p)))

pub put_reply-requires : goal.put_reply-requires
unfolding zeros
put_reply-requires c =
    let p = c.in-Ok.ensures in
    omega (arith, line-short 0 c.in-Ok.n _ (omega arith) (reply_long current _ _ _ _ _ p))

pub put_refusal-requires : goal.put_refusal-requires
unfolding zeros
put_refusal-requires c =
    let p = c.in-Err.ensures in
    omega (arith, line-short _ 0 _ (reply_number current _ _ _ _ _ p) (reply_long current _ _ _ _ _ p))

pub returns-in-Ok : goal.returns-in-Ok
unfolding left zeros
returns-in-Ok c =
    let p = c.in-Ok.ensures in
    (rw (line_is current _ _ _ _ _ p) at c.put_reply.ensures, p.image_is)

pub returns-in-Err : goal.returns-in-Err
unfolding left zeros
returns-in-Err c =
    let p = c.in-Err.ensures in
    (rw (line_is current _ _ _ _ _ p) at c.put_refusal.ensures, p.image_is)
