-- Two characters laid one after the other are laid as one; the low half is the remainder by 16. Assumes nothing.
use mathlib.Core.Path.{ap, ◌∙◌}
use Rattle.std.proofs.lemmas.Nat.{and_mask}
use Rattle.output.proofs.Laying.{laid_then}
use Rattle.frame.specs.Digits.{char_of, chars_of}
use Rattle.frame.proofs.writer.put_byte.Goals as goal

pub returns : goal.returns
unfolding chars_of
returns c =
    let low = c.char_of-2.ensures ∙ ap char_of (and_mask c.args.b 4) in
    rw (← c.char_of.ensures, ← low) (laid_then _ _ _ _ _ _ _ _ c.put-next.ensures c.put.ensures)
