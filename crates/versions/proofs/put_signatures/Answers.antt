-- What is left of the signatures, laid where the next one goes, gives what all of them give. Assumes nothing.
use mathlib.Core.Path.{◌≡◌, ap, ◌∙◌}
use Prim.Native.Nat.{◌+◌}
use native.Mathlib.Omega.{arith}
use Rattle.laws.proofs.Bytes.{length-lay}
use Rattle.image.specs.declared.cell.Cell.{Cell}
use Rattle.image.specs.Words.{kept_offset}
use Rattle.storing.specs.Signature.{full_sum}
use Rattle.versions.proofs.Making.{sign_next, sign_done}
use Rattle.versions.proofs.put_signatures.Goals as goal

pub loop-i-preserved : goal.loop-i-preserved
loop-i-preserved c =
    let sum = c.full_sum.ensures ∙ ap (λ (e : Cell). full_sum e c.args.source.now) c.item.ensures in
    let put = rw c.from.ensures at c.put_word.ensures in
    let rest = sign_next c.args.source.now _ _ _ _ _ _ (omega arith) put sum c.loop-i.invariant.1 in
    let next : kept_offset c.loop-i.i + 2 ≡ kept_offset (c.loop-i.i + 1) = omega arith in
    (rw (c.put_word.ensures, length-lay) c.loop-i.invariant.0, rw next at rest)

pub returns : goal.returns
returns c = sign_done _ _ _ _ _ (omega arith) c.loop-i.invariant.1
