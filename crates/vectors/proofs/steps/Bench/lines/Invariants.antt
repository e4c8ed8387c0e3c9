-- Each piece leaves fewer bytes. Assumes nothing.
use Rattle.std.proofs.Common.{length}
use Rattle.vectors.proofs.steps.Bench.lines.Given as goal

abbrev pub decreases-loop-piece : goal.decreases-loop-piece
decreases-loop-piece l = length l.left
