-- The loop has spelt the bytes up to the index, and a turn spells the next. Assumes nothing.
use native.Mathlib.Omega.{arith}
use lib.ListN.{length-take}
use Rattle.std.proofs.lemmas.List.{take_more}
use Rattle.frame.proofs.FrameLaid.{spells_none, spells_then, spells_past}
use Rattle.frame.proofs.writer.Writer.put_all.Goals as goal

pub loop-b-init : goal.loop-b-init
loop-b-init c = spells_none c.args.self c.args.out.now (omega arith)

pub put-w-requires : goal.put-w-requires
put-w-requires c = omega (arith, spells_past c.loop-b.invariant, length-take c.loop-b.b-index c.args.src.now)

pub loop-b-preserved : goal.loop-b-preserved
loop-b-preserved c =
    rw (take_more c.args.src.now c.loop-b.b-index 0 c.loop-b-test.true)
    (spells_then _ _ _ _ _ _ _ _ c.loop-b.invariant c.put-w.ensures)
