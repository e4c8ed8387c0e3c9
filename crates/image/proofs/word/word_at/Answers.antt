-- Arithmetic on two bytes. Assumes nothing.
use native.Mathlib.Omega.{arith}
use Rattle.laws.specs.Bytes.{word_at}
use Rattle.image.proofs.word.word_at.Goals as goal

pub returns : goal.returns
unfolding word_at
returns c = omega arith
