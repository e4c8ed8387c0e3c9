-- The loop has spelt the bytes up to the index. Assumes nothing.
use lib.ListN.{take}
use Rattle.frame.specs.Written.{Spells}
use Rattle.frame.proofs.writer.Writer.put_all.Given as goal

abbrev pub invariant-loop-b : goal.invariant-loop-b
invariant-loop-b l = Spells l.initial.w l.initial.out (take l.b-index l.src) l.w l.out
