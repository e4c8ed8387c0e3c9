-- The echo is spelt first, and behind it what the act says; both have room since an accepted body's act fits. Assumes nothing.
use native.Mathlib.Omega.{arith}
use Rattle.frame.proofs.FrameLaid.{spells_then, spells_past}
use Rattle.command.proofs.Doing.{image_long, shows, signs, opening}
use Rattle.command.proofs.act.put_reply.Goals as goal

pub show-requires : goal.show-requires
show-requires c =
    let p = c.put_all-echoed.ensures in
    let f = shows c.args.order.fits c.in-Show.is in
    (f.0, c.requires.0, omega (arith, spells_past p, opening c.args.order.fits, f.1, c.requires.1))

pub sign-requires : goal.sign-requires
sign-requires c =
    let p = c.put_all-echoed.ensures in
    let f = signs c.args.order.fits c.in-Sign.is in
    (f.0, image_long c.args.m.now c.requires.0, omega (arith, spells_past p, opening c.args.order.fits, f.1, c.requires.1))

pub returns-in-Show : goal.returns-in-Show
returns-in-Show c =
    let p = c.put_all-echoed.ensures in
    rw c.in-Show.is (spells_then _ _ _ _ _ _ _ _ p c.show.ensures)

pub returns-in-Sign : goal.returns-in-Sign
returns-in-Sign c =
    let p = c.put_all-echoed.ensures in
    rw c.in-Sign.is (spells_then _ _ _ _ _ _ _ _ p c.sign.ensures)
