-- The invariant: the answer so far is that of the words passed. Assumes nothing.
use mathlib.Core.Path.{◌≡◌}
use Rattle.laws.specs.Checks.{every}
use Rattle.image.specs.Usable.{word_ok}
use Rattle.image.proofs.usable.words_ok.Given as goal

abbrev pub invariant-loop-k : goal.invariant-loop-k
invariant-loop-k l = l.ok ≡ every (word_ok l.m) l.k
