-- The first check that fails decides; past both the answer is of the word of the table's index. Assumes nothing.
use mathlib.Core.Path.{◌≡◌, sym, ◌∙◌}
use mathlib.Core.Bool.{true}
use Prim.Native.Nat.{ℕ}
use native.Mathlib.Omega.{arith}
use Rattle.std.specs.Prelude.{Some, None, Result, Err}
use Rattle.std.proofs.lemmas.Result.{err_from_is_err_and}
use Rattle.laws.specs.Checks.{judged}
use Rattle.output.specs.declared.refusal.Refusal.{Refusal}
use Rattle.output.specs.declared.refusal.Refusal.TheVariants.{Place}
use Rattle.output.specs.Refusal.{number_of}
use Rattle.image.specs.Version.{current}
use Rattle.image.specs.Cell.{index_named}
use Rattle.image.specs.Words.{table_word}
use Rattle.image.specs.Usable.{usable}
use Rattle.image.specs.Held.{unheld, held_parts}
use Rattle.image.proofs.UsableFacts.{facts}
use Rattle.image.proofs.Indices.{index_is, named_below, no_index}
use Rattle.image.proofs.held.held_parts.Goals.{Else-not-is_usable, In_ok-k}
use Rattle.image.proofs.held.held_parts.Goals as goal

good : (e : Else-not-is_usable) → usable current e.args.m.now ≡ true
good e = sym e.is_usable.ensures ∙ e.if-not-is_usable.false

named : (e : In_ok-k) → index_named e.args.table ≡ Some e.in_ok-k.k
named e = sym e.table_index.ensures ∙ e.in_ok-k.ensures.ok_part

as_place : (e : Refusal) → ◌≡◌ {A = Result ℕ Refusal} (Err e) (Err Place) → unheld (number_of e) ≡ unheld 10
as_place e h = let f : e ≡ Place = cc in rw f

pub returns-then-not-is_usable : goal.returns-then-not-is_usable
unfolding held_parts judged
returns-then-not-is_usable c = rw (sym c.is_usable.ensures ∙ c.if-not-is_usable.true)

pub returns-in_err-k : goal.returns-in_err-k
unfolding held_parts judged
returns-in_err-k c =
    let p = err_from_is_err_and c.from_residual.result c.from_residual.ensures.1 in
    let none : c.table_index.result ≡ None = c.in_err-k.ensures.ok_part in
    rw (p.1, p.2, good (goal.at.returns-in_err-k c).Else-not-is_usable, no_index c.args.table (sym c.table_index.ensures ∙ none))
    (as_place _ (rw none at c.in_err-k.ensures.value))

pub word_at-requires : goal.word_at-requires
word_at-requires c =
    omega (arith, (facts current _ (good (goal.at.word_at-requires c).Else-not-is_usable)).long_is, named_below _ (named (goal.at.word_at-requires c).In_ok-k))

pub held_of-requires : goal.held_of-requires
unfolding table_word
held_of-requires c =
    let at = goal.at.held_of-requires c in
    let word = rw c.from.ensures at c.word_at.ensures in
    omega (arith, word, (facts current _ (good at.Else-not-is_usable)).words c.in_ok-k.k (named_below _ (named at.In_ok-k)))

pub returns : goal.returns
unfolding held_parts judged table_word
returns c =
    let at = goal.at.returns c in
    let p = index_is _ (named at.In_ok-k) in
    let word = rw c.from.ensures at c.word_at.ensures in
    rw (good at.Else-not-is_usable, p.0, ← p.1, ← word) c.held_of.ensures
