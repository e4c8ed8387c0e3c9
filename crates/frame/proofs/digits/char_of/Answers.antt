-- On either side of 10 the definition computes. Assumes nothing.
use native.Mathlib.Omega.{arith}
use Rattle.frame.proofs.Chars.{char_low, char_high}
use Rattle.frame.proofs.digits.char_of.Goals as goal

pub returns-then-h-lt10 : goal.returns-then-h-lt10
returns-then-h-lt10 c = omega (arith, char_low c.args.h c.if-h-lt10.true)

pub returns-else-h-lt10 : goal.returns-else-h-lt10
returns-else-h-lt10 c = omega (arith, char_high c.args.h c.if-h-lt10.false)
