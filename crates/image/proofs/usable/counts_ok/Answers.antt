-- The invariant: the answer so far is that of the counts passed. Assumes nothing.
use mathlib.Core.Path.{refl}
use native.Mathlib.Numerals.{add-one}
use Rattle.laws.specs.Checks.{every}
use Rattle.image.specs.Usable.{count_ok}
use Rattle.image.proofs.usable.counts_ok.Goals as goal

pub loop-e-init : goal.loop-e-init
unfolding every
loop-e-init c = refl

pub loop-e-preserved : goal.loop-e-preserved
unfolding every count_ok
loop-e-preserved c = rw (add-one, ← c.loop-e.invariant)
