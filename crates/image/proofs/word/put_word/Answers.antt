-- A part of two bytes that is put back is two bytes laid. Assumes nothing.
use mathlib.Core.Path.{◌≡◌, ap, ◌∙◌}
use mathlib.Core.List.{List, [], ◌∷◌, append_assoc}
use Prim.Native.Nat.{ℕ, ◌+◌, ◌/◌, ◌%◌, ◌≤◌}
use native.Mathlib.Omega.{arith}
use lib.ListN.{length}
use borrow.Rule.Slice.PartMut.{put_mid}
use Rattle.std.proofs.lemmas.List.{drop-drop}
use Rattle.laws.specs.Bytes.{lay, two}
use Rattle.laws.proofs.Bytes.{lay-between}
use Rattle.image.proofs.word.put_word.Goals as goal

put_is : (m : List ℕ) (a k : ℕ) (bs : List ℕ) → k ≡ length bs → a + length bs ≤ length m → put_mid a k m bs ≡ lay m a bs
put_is m a k bs e h = rw (lay-between m a bs h, append_assoc, e, drop-drop)

pub returns : goal.returns
unfolding two
returns c =
    let w = c.args.w in
    let e : w / 256 % 256 ≡ w / 256 = omega arith in
    let bytes = c.to_be_bytes.ensures ∙ ap (λ (high : ℕ). high ∷ (w % 256 ∷ [])) e in
    rw (c.copy_from_slice.ensures.after, bytes) (put_is _ _ _ _ (omega arith) (omega arith))
