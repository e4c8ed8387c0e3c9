-- The invariant: the answer so far is that of the words passed. Assumes nothing.
use mathlib.Core.Path.{refl}
use native.Mathlib.Numerals.{add-one}
use Rattle.laws.specs.Checks.{every}
use Rattle.image.specs.Words.{table_word}
use Rattle.image.specs.Usable.{word_ok}
use Rattle.image.proofs.usable.words_ok.Goals as goal

pub loop-k-init : goal.loop-k-init
unfolding every
loop-k-init c = refl

pub loop-k-preserved : goal.loop-k-preserved
unfolding every word_ok table_word
loop-k-preserved c = rw (add-one, c.word_at-w.ensures, ← c.loop-k.invariant)
