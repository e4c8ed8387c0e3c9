-- How code comes by a moved image: what is laid at the start of the target, then behind it. Assumes nothing.
use mathlib.Core.Path.{◌≡◌, refl, sym, ap, ◌∙◌}
use mathlib.Core.List.{List, [], ◌∷◌, ◌++◌, append-nil}
use Prim.Native.Nat.{ℕ, suc, ◌+◌, ◌-◌, ◌*◌, ◌≤◌, ◌<◌}
use native.Mathlib.Omega.{arith}
use lib.ListN.{length, take, length-append}
use lib.Seq.{length-take-le}
use Rattle.laws.specs.Bytes.{lay, two}
use Rattle.laws.proofs.Bytes.{length-lay, lay-append, lay_more, lay_done, lay-whole, lay-within, length_two}
use Rattle.image.specs.declared.cell.Cell.{Cell}
use Rattle.image.specs.declared.version.Version.{Version}
use Rattle.image.specs.declared.version.Version.TheVariants.{V1, V2}
use Rattle.image.specs.Version.{version_number, image_length}
use Rattle.image.specs.Cell.{run, items, item_at}
use Rattle.image.specs.Words.{kept_offset}
use Rattle.image.proofs.Kept.{items_32, items_at}
use Rattle.storing.specs.Signature.{full_sum}
use Rattle.versions.specs.Moved.{number_offset, numbered, signatures, in_version}

-- ---- the bytes that both versions have

pub length-numbered : (v : Version) (m : List ℕ) → image_length V1 ≤ length m → length (numbered v m) ≡ image_length V1
unfolding numbered
length-numbered v m h = length-lay (take (image_length V1) m) number_offset (two (version_number v)) ∙ length-take-le (image_length V1) m h

pub numbered-laid : (v : Version) (m t : List ℕ) → image_length V1 ≤ length m → image_length V1 ≤ length t
    → lay (lay t 0 (take (image_length V1) m)) number_offset (two (version_number v)) ≡ lay t 0 (numbered v m)
unfolding numbered
numbered-laid v m t h g =
    let l = length-take-le (image_length V1) m h in
    lay-within t (take (image_length V1) m) number_offset (two (version_number v)) (omega (arith, l, length_two (version_number v))) (omega arith)

-- ---- the signatures, laid one after the other

pub length-signatures : (es : List Cell) (m : List ℕ) → length (signatures es m) ≡ 2 * length es
unfolding signatures
length-signatures [] m = refl
length-signatures (e ∷ es) m =
    let a = length-append (two (full_sum e m)) (signatures es m) in
    let b = length_two (full_sum e m) in
    let c = length-signatures es m in
    omega arith

-- what is left of them from the i-th on
pub from : ℕ → List ℕ → List ℕ
from i m = signatures (run item_at i (32 - i)) m

pub from_first : (m : List ℕ) → signatures items m ≡ from 0 m
unfolding from
from_first m = rw (← items_at)

from_next : (i : ℕ) (m : List ℕ) → i < 32 → from i m ≡ two (full_sum (item_at i) m) ++ from (i + 1) m
unfolding from run signatures
from_next i m h =
    let e : 32 - i ≡ suc (32 - (i + 1)) = omega arith in
    let f : i + 1 ≡ suc i = omega arith in
    rw (e, f)

from-none : (i : ℕ) (m : List ℕ) → 32 ≤ i → from i m ≡ []
unfolding from run signatures
from-none i m h = let e : 32 - i ≡ 0 = omega arith in rw e

-- the i-th is laid, and the others behind it
pub sign_next : (m w w' R : List ℕ) (at s i : ℕ) → i < 32 → w' ≡ lay w at (two s) → s ≡ full_sum (item_at i) m → lay w at (from i m) ≡ R
    → lay w' (at + 2) (from (i + 1) m) ≡ R
sign_next m w w' R at s i l laid is rest =
    lay_more w w' R (from i m) (two s) (from (i + 1) m) at (at + 2) (from_next i m l ∙ ap (λ (x : ℕ). two x ++ from (i + 1) m) (sym is)) laid
    (omega (arith, length_two s)) rest

pub sign_done : (m w R : List ℕ) (at i : ℕ) → 32 ≤ i → lay w at (from i m) ≡ R → w ≡ R
sign_done m w R at i l rest = lay_done w R (from i m) at (from-none i m l) rest

-- ---- and the whole target

module _ (m t : List ℕ) (long : image_length V1 ≤ length m) where
  pub down_made : length t ≡ image_length V1 → lay t 0 (numbered V1 m) ≡ in_version V1 m
  unfolding in_version
  down_made e = lay-whole t (numbered V1 m) (length-numbered V1 m long ∙ sym e) ∙ sym (append-nil (numbered V1 m))

  pub up_made : length t ≡ image_length V2 → lay (lay t 0 (numbered V2 m)) (kept_offset 0) (signatures items m) ≡ in_version V2 m
  unfolding in_version
  up_made e =
      let a = length-numbered V2 m long in
      let b = length-signatures items m in
      let c = length-append (numbered V2 m) (signatures items m) in
      let d = items_32 in
      let k : kept_offset 0 ≡ 0 + length (numbered V2 m) = omega arith in
      rw k (sym (lay-append t 0 (numbered V2 m) (signatures items m)))
      ∙ lay-whole t (numbered V2 m ++ signatures items m) (omega arith)
