-- The held-parts question has the first two checks, and tells of the third; past them the table's bytes lie in the image, and their rows decide. Assumes
-- nothing.
use mathlib.Core.Path.{◌≡◌, sym, ◌∙◌}
use mathlib.Core.Bool.{true}
use Prim.Native.Nat.{◌+◌, ◌*◌, ◌≤◌}
use native.Mathlib.Omega.{arith}
use lib.ListN.{length, length-drop}
use borrow.Author.Rules.{rules}
use Rattle.std.proofs.lemmas.Result.{err_from_is_err_and}
use Rattle.image.specs.Version.{current}
use Rattle.image.specs.Cell.{is_table, table_index, index_named}
use Rattle.image.proofs.Indices.{index_below, index_is}
use Rattle.image.proofs.UsableFacts.{facts}
use Rattle.tables.proofs.Stands.{bytes_cut}
use Rattle.tables.proofs.Checked.{held_passes, held_refused, part_missing, none_missing}
use Rattle.tables.proofs.quantity.quantity_at.Goals.{After-from}
use Rattle.tables.proofs.quantity.quantity_at.Goals as goal

-- past the first two ways out the number is a table's, which lies in the image whole
index : (c : After-from) → (c.from.result ≡ table_index c.args.table) × (is_table c.args.table ≡ true)
index c =
    let p = index_is _ (sym c.table_index.ensures ∙ c.unwrap-k.ensures) in
    (c.from.ensures ∙ p.1, p.0)

room : (c : After-from) → 1225 + 1408 * c.from.result + 1408 ≤ length c.args.m.now
room c =
    let i = index c in
    omega (arith, i, index_below _ i.1, (facts current _ (held_passes current _ _ c.in_ok-held.held c.in_ok-held.ensures).0).long_is)

pub returns-in_err-held : goal.returns-in_err-held
returns-in_err-held c =
    let p = err_from_is_err_and c.from_residual.result c.from_residual.ensures.1 in
    rw (p.1, p.2) (sym (held_refused current _ _ _ c.in_err-held.ensures c.args.level))

pub returns-then-is_some : goal.returns-then-is_some
returns-then-is_some c = sym (part_missing current _ _ c.in_ok-held.held c.in_ok-held.ensures (sym c.is_some.ensures ∙ c.if-is_some.true) c.args.level)

pub unwrap-k-requires : goal.unwrap-k-requires
unfolding index_named
unwrap-k-requires c = rw (c.table_index.ensures, (held_passes current _ _ c.in_ok-held.held c.in_ok-held.ensures).1.0)

pub slice_bounds-first_chunk-count : goal.slice_bounds-first_chunk-count
slice_bounds-first_chunk-count c = omega (arith, room c)

pub slice_bounds-first_chunk-start : goal.slice_bounds-first_chunk-start
slice_bounds-first_chunk-start c = let h = room (goal.at.slice_bounds-first_chunk-start c).After-from in search rules

pub unwrap-requires : goal.unwrap-requires
unwrap-requires c =
    c.first_chunk.ensures.variant.1
    (omega (arith, room (goal.at.unwrap-requires c).After-from, length-drop (1225 + 1408 * c.from.result) c.args.m.now))

pub returns : goal.returns
returns c =
    let h = none_missing current c.args.m.now c.args.table c.in_ok-held.held c.in_ok-held.ensures (sym c.is_some.ensures ∙ c.if-is_some.false) c.args.level in
    let rows = (rw c.unwrap.ensures at c.first_chunk.ensures.cases).same in
    c.quantity_in.ensures ∙ rw (rows, bytes_cut _ _ _ (index (goal.at.returns c).After-from).0, h)
