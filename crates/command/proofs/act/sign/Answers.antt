-- The two bytes of an item's signature. Assumes nothing.
use mathlib.Core.Path.{◌≡◌, ap, ◌∙◌}
use mathlib.Core.List.{[], ◌∷◌}
use Prim.Native.Nat.{ℕ, ◌/◌, ◌%◌}
use native.Mathlib.Omega.{arith}
use Rattle.command.proofs.Doing.{signed_is}
use Rattle.command.proofs.act.sign.Goals as goal

pub returns : goal.returns
returns c =
    let s = c.signature_of.result in
    let e : s / 256 % 256 ≡ s / 256 = omega arith in
    let bytes = c.to_be_bytes.ensures ∙ ap (λ (high : ℕ). high ∷ (s % 256 ∷ [])) e in
    rw (← (signed_is c.args.cell c.args.m.now c.signature_of.ensures), ← bytes) c.put_all.ensures
