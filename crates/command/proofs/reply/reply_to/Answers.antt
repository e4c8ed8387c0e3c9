-- A refusal sends nothing; the act of an accepted body fits, so that it can be done. Assumes nothing.
use mathlib.Core.Path.{refl}
use mathlib.Core.List.{[]}
use Rattle.std.proofs.lemmas.Result.{err_from_is_err_and}
use Rattle.command.proofs.Replying.{refused_sends}
use Rattle.command.proofs.reply.reply_to.Goals as goal

pub returns-in_err-order : goal.returns-in_err-order
returns-in_err-order c =
    let p = err_from_is_err_and c.from_residual.result c.from_residual.ensures.1 in
    rw (p.1, p.2, c.branch-order.ensures, c.in_err-order.is) (refused_sends [] c.args.m.now c.args.out.now refl)
