-- The first check that fails decides; past both the target is covered whole. Assumes nothing.
use mathlib.Core.Path.{◌≡◌, refl, sym, ap, ◌∙◌}
use mathlib.Core.Logic.{◌≢◌}
use mathlib.Core.List.{List}
use mathlib.Core.Bool.{true, false}
use Prim.Native.Nat.{ℕ, ◌≤◌}
use native.Mathlib.Omega.{arith}
use lib.ListN.{length}
use Rattle.laws.specs.Bytes.{lay}
use Rattle.laws.proofs.Bytes.{length-lay}
use Rattle.image.specs.declared.version.Version.{Version}
use Rattle.image.specs.declared.version.Version.TheVariants.{V1, V2}
use Rattle.image.specs.Version.{image_length}
use Rattle.image.specs.Cell.{items}
use Rattle.image.specs.Words.{kept_offset}
use Rattle.image.specs.Usable.{usable}
use Rattle.image.specs.Made.{Makes}
use Rattle.image.proofs.UsableFacts.{least_length}
use Rattle.versions.specs.Moved.{numbered, signatures, in_version, other, moved}
use Rattle.versions.proofs.Refusals.{no_source, no_target, both-fit}
use Rattle.versions.proofs.Making.{up_made, down_made}
use Rattle.versions.proofs.Moved.{long_source}
use Rattle.versions.proofs.move_to.Goals.{Else-not-is_usable}
use Rattle.versions.proofs.move_to.Goals as goal

-- past the first way out the source is usable, and has all bytes that both versions have
good : (e : Else-not-is_usable) → usable (other e.args.version) e.args.source.now ≡ true
good e = rw (← e.other.ensures) (sym e.is_usable.ensures ∙ e.if-not-is_usable.false)

long : (e : Else-not-is_usable) → image_length V1 ≤ length e.args.source.now
long e = long_source e.args.version _ (good e)

-- past both it is made
makes : (v : Version) (m t n : List ℕ) → usable (other v) m ≡ true → length t ≡ image_length v → n ≡ in_version v m → Makes (moved v m t) 0 n
makes v m t n u l e = rw (both-fit v m t u l) (record { number_is = refl; image_is = e })

-- and it is whole: down with what both versions have, up with the words too
down : (v : Version) (m t n : List ℕ) → v ≡ V1 → image_length V1 ≤ length m → length t ≡ image_length v → n ≡ lay t 0 (numbered v m) → n ≡ in_version v m
down v m t n is h l p = rw is ((rw is at p) ∙ down_made m t h (rw is at l))

up : (v : Version) (m t w n : List ℕ) → v ≡ V2 → image_length V1 ≤ length m → length t ≡ image_length v → w ≡ lay t 0 (numbered v m)
    → n ≡ lay w (kept_offset 0) (signatures items m) → n ≡ in_version v m
up v m t w n is h l p q = rw is (q ∙ rw (rw is at p) (up_made m t h (rw is at l)))

pub returns-then-not-is_usable : goal.returns-then-not-is_usable
returns-then-not-is_usable c =
    let no : usable (other c.args.version) c.args.source.now ≡ false = rw (← c.other.ensures) (sym c.is_usable.ensures ∙ c.if-not-is_usable.true) in
    rw (no_source _ _ _ no) (record { number_is = refl; image_is = refl })

pub returns-then-target-length : goal.returns-then-target-length
returns-then-target-length c =
    let no : length c.args.target.now ≢ image_length c.args.version = λ e. c.if-target-length.true (e ∙ sym c.length.ensures) in
    rw (no_target _ _ _ no) (record { number_is = refl; image_is = refl })

pub put_common-requires : goal.put_common-requires
put_common-requires c = (long (goal.at.put_common-requires c).Else-not-is_usable, omega (arith, least_length c.args.version))

pub put_signatures-requires : goal.put_signatures-requires
put_signatures-requires c = (
  long (goal.at.put_signatures-requires c).Else-not-is_usable,
  rw (c.put_common.ensures, length-lay) (c.if-target-length.false ∙ c.length.ensures ∙ ap image_length c.in-V2.is),
)

pub returns-in-V1 : goal.returns-in-V1
returns-in-V1 c =
    let e = (goal.at.returns-in-V1 c).Else-not-is_usable in
    let l = c.if-target-length.false ∙ c.length.ensures in
    makes _ _ _ _ (good e) l (down _ _ _ _ c.in-V1.is (long e) l c.put_common.ensures)

pub returns-in-V2 : goal.returns-in-V2
returns-in-V2 c =
    let e = (goal.at.returns-in-V2 c).Else-not-is_usable in
    let l = c.if-target-length.false ∙ c.length.ensures in
    makes _ _ _ _ (good e) l (up _ _ _ _ _ c.in-V2.is (long e) l c.put_common.ensures c.put_signatures.ensures)
