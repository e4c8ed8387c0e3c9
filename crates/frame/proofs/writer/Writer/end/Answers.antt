-- Three steps of the cursor, laid as one. Assumes nothing.
use mathlib.Core.List.{[], ◌∷◌, append_assoc}
use native.Mathlib.Omega.{arith}
use Rattle.output.proofs.Laying.{laid_then}
use Rattle.frame.specs.Digits.{chars_of}
use Rattle.frame.proofs.FrameLaid.{length_chars}
use Rattle.frame.proofs.writer.Writer.end.Goals as goal

pub put-last-requires : goal.put-last-requires
put-last-requires c = omega (arith, length_chars (c.check_of.result ∷ []))

pub put-end-requires : goal.put-end-requires
put-end-requires c = omega (arith, length_chars (c.check_of.result ∷ []))

pub returns : goal.returns
returns c =
    let k = c.check_of in
    record {
      closed = rw (← k.ensures, ← append_assoc (chars_of (k.result ∷ [])) (13 ∷ []) (10 ∷ []))
          (laid_then _ _ _ _ _ _ _ _ (laid_then _ _ _ _ _ _ _ _ c.put_byte-ends.ensures c.put-last.ensures) c.put-end.ensures);
    }
