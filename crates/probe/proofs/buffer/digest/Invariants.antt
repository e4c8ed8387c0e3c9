-- It stays below its modulus. Assumes nothing.
use Rattle.std.proofs.Common.{◌<◌}
use Rattle.probe.proofs.buffer.digest.Given as goal

abbrev pub invariant-loop-b : goal.invariant-loop-b
invariant-loop-b l = l.h < 4294967291
