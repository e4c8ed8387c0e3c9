-- Each row and the next pass the test that the definition has there. Assumes nothing.
use mathlib.Core.Path.{◌≡◌, refl}
use Prim.Native.Nat.{◌/◌}
use lib.ListN.{length}
use borrow.Author.Rules.{rules}
use Rattle.std.proofs.lemmas.List.Sorted.{answers_always}
use Rattle.tables.proofs.Fours.{no_fall, neighbours_tell}
use Rattle.tables.proofs.rows.never_fall.Goals as goal

pub returns : goal.returns
returns c =
    let s = c.args.s.now in
    let many : length s / 4 ≡ 352 = rw c.told-s refl in
    let told = c.is_sorted_by.ensures.cases no_fall (answers_always _ _ _ (λ f a r f' k. search rules)) in
    neighbours_tell s c.as_chunks.result.0.now _ c.as_chunks.ensures.front many _ told
