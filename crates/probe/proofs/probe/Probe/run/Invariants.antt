-- The script's end is reached: each record takes something off it. Assumes nothing.
use Rattle.std.proofs.Common.{length}
use Rattle.probe.proofs.probe.Probe.run.Given as goal

abbrev pub decreases-loop-record : goal.decreases-loop-record
decreases-loop-record l = length l.left
