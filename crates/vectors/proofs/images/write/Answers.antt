-- A number names only a part that there is, so that its bit is one of a word's sixteen. Assumes nothing.
use mathlib.Core.Path.{◌≡◌, sym, ◌∙◌}
use Prim.Native.Nat.{ℕ, ◌<◌}
use native.Mathlib.Omega.{arith}
use lib.Dec.{ltb}
use borrow.Author.Tests.{ltb-true}
use Rattle.std.specs.Prelude.{Some}
use Rattle.laws.proofs.Tests.{and_both}
use Rattle.image.specs.declared.cell.Cell.{Cell}
use Rattle.image.specs.declared.cell.Cell.TheVariants.{Part}
use Rattle.image.specs.Cell.{part_named}
use Rattle.rules.proofs.Naming.{part_named_lem}
use Rattle.vectors.proofs.images.write.Goals as goal

in_word : (t q k p : ℕ) (d : Cell) → part_named t q ≡ Some d → d ≡ Part k p → p < 16
in_word t q k p d e is =
    let b = and_both (ltb k 16) (ltb p 11) (rw is at (part_named_lem d t q e).cell) in
    omega (arith, ltb-true p 11 b.1)

pub set_bit-requires : goal.set_bit-requires
set_bit-requires c =
    let found = c.in-Some-Part in
    omega (arith, c.from-2.ensures, in_word _ _ _ _ _ (sym c.part.ensures ∙ found.is) found.field-0-is)

pub has_bit-requires : goal.has_bit-requires
has_bit-requires c =
    let found = c.in-Some-Part in
    omega (arith, c.from-3.ensures, in_word _ _ _ _ _ (sym c.part.ensures ∙ found.is) found.field-0-is)
