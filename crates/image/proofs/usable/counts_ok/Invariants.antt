-- The invariant: the answer so far is that of the counts passed. Assumes nothing.
use mathlib.Core.Path.{◌≡◌}
use Rattle.laws.specs.Checks.{every}
use Rattle.image.specs.Usable.{count_ok}
use Rattle.image.proofs.usable.counts_ok.Given as goal

abbrev pub invariant-loop-e : goal.invariant-loop-e
invariant-loop-e l = l.ok ≡ every (count_ok l.m) l.e
