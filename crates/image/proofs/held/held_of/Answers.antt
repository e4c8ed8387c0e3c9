-- Ones are counted, and the trailing ones lead to the lowest missing part. Assumes nothing.
use mathlib.Core.Path.{ap, ◌∙◌}
use Prim.Native.Nat.{ℕ}
use native.Mathlib.Omega.{arith}
use Rattle.std.specs.Prelude.{Option, unwrap_or}
use Rattle.laws.proofs.Bits.{ones_are, trailing_ones}
use Rattle.image.specs.Held.{held_of}
use Rattle.image.proofs.Missing.{missing_is}
use Rattle.image.proofs.held.held_of.Goals as goal

pub returns : goal.returns
unfolding held_of
returns c =
    let w = c.args.w in
    let gap = trailing_ones 16 w (omega arith) in
    let ones = c.trailing_ones-trailing.ensures in
    let missing = ap (λ (o : Option ℕ). unwrap_or o 0) c.then_some.ensures ∙ missing_is w _ c.requires (rw ones gap) in
    rw (ones_are 11 w c.requires, missing)
