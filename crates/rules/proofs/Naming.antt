-- Laws of naming: whatever a request's numbers name is like the first of its kind, so it is a cell or an item wherever that is. Assumes nothing.
use mathlib.Core.Path.{◌≡◌, refl}
use mathlib.Core.List.{List}
use mathlib.Core.Bool.{Bool, true, false}
use Prim.Native.Nat.{ℕ, ◌+◌, ◌-◌, ◌*◌, ◌<◌}
use native.Mathlib.Omega.{arith}
use lib.ListN.{length}
use lib.Dec.{ltb, eqb}
use borrow.Author.Tests.{eqb-true, lt-ltb}
use Rattle.std.specs.Prelude.{Some}
use Rattle.laws.specs.Checks.{within}
use Rattle.laws.proofs.Tests.{and_both, within_is}
use Rattle.image.specs.declared.cell.Cell.{Cell}
use Rattle.image.specs.declared.cell.Cell.TheVariants as Cells
use Rattle.image.specs.Cell.{size, extent, is_cell, is_item, when, constants_named, errors_named, is_table, table_named, part_named}
use Rattle.image.proofs.Indices.{index_below}
use Rattle.rules.specs.Rules.{byte, rows_named}

-- two stretches of one kind: they differ in their numbers alone
pub record Alike (d x : Cell) : Type 0 where
  pub cell : is_cell d ≡ is_cell x
  pub item : is_item d ≡ is_item x
  pub sized : size d ≡ size x
  pub counted : (b : ℕ) → extent d b ≡ extent x b

pub when_cell : (t : Bool) (x d : Cell) → when t x ≡ Some d → (t ≡ true) × (x ≡ d)
unfolding when
when_cell true x d e = (refl, cc)
when_cell false x d e = absurd (let z : ◌≡◌ {A = ℕ} 0 1 = cc in omega arith)

errors_alike : (k : ℕ) → k < 8 → Alike (Cells.Errors k) (Cells.Errors 0)
errors_alike k h = record { cell = lt-ltb k 8 h; item = lt-ltb k 8 h; sized = refl; counted = λ b. refl }

module _ (d : Cell) (n : ℕ) where
  pub constants_named_lem : constants_named n ≡ Some d → Alike d (Cells.Constants 0)
  unfolding constants_named
  constants_named_lem e = let p = when_cell _ _ _ e in rw (← p.1) (record { cell = p.0; item = p.0; sized = refl; counted = λ b. refl })

  pub errors_named_lem : errors_named n ≡ Some d → Alike d (Cells.Errors 0)
  unfolding errors_named
  errors_named_lem e =
      let p = when_cell _ _ _ e in
      let w = within_is 1 8 n p.0 in
      rw (← p.1) (errors_alike _ (omega arith))

  pub table_named_lem : table_named n ≡ Some d → Alike d (Cells.Table 0)
  unfolding table_named
  table_named_lem e =
      let p = when_cell _ _ _ e in
      rw (← p.1) (record { cell = refl; item = lt-ltb _ _ (index_below n p.0); sized = refl; counted = λ b. refl })

  pub part_named_lem : (q : ℕ) → part_named n q ≡ Some d → Alike d (Cells.Part 0 0)
  unfolding part_named
  part_named_lem q e =
      let p = when_cell _ _ _ e in
      let b = and_both (is_table n) (within 1 11 q) p.0 in
      let r = within_is 1 11 q b.1 in
      let t : ltb (q - 1) 11 ≡ true = lt-ltb (q - 1) 11 (omega arith) in
      rw (← p.1) (record { cell = rw (lt-ltb _ _ (index_below n b.0), t); item = refl; sized = refl; counted = λ b. refl })

-- an error table, and a body that its count of rows fills
abbrev pub Counted : List ℕ → Cell → Type 0
Counted c d = Alike d (Cells.Errors 0) × (4 + 3 * byte c 4 ≡ length c)

pub rows_named_lem : (d : Cell) (c : List ℕ) → rows_named c ≡ Some d → Counted c d
unfolding rows_named
rows_named_lem d c e =
    let p = when_cell _ _ _ e in
    let b = and_both (within 1 8 (byte c 3)) (eqb (4 + 3 * byte c 4) (length c)) p.0 in
    let w = within_is 1 8 (byte c 3) b.0 in
    (rw (← p.1) (errors_alike _ (omega arith)), eqb-true _ _ b.1)
