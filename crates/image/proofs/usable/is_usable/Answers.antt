-- What is returned is the code's `&&` of five tests, of which each stands for the definition's. Assumes nothing.
use mathlib.Core.Path.{sym, ◌∙◌}
use mathlib.Core.Bool.{and-false}
use borrow.Author.Tests.{eq-eqb, ne_eqb, eqb-true}
use Rattle.laws.proofs.Tests.{never}
use Rattle.image.specs.Usable.{address_ok, usable}
use Rattle.image.proofs.usable.is_usable.Goals.{then-m-ne0, else-m-ne0, then-mark_ok, else-mark_ok, then-m-length, else-m-length}
use Rattle.image.proofs.usable.is_usable.Goals as goal

pub returns-then-counts_ok : goal.returns-then-counts_ok
unfolding usable address_ok
returns-then-counts_ok c =
    elim c.if-m-ne0.branch [
      | then-m-ne0 w ↦
          elim c.if-mark_ok.branch [
            | then-mark_ok v ↦
                elim c.if-m-length.branch [
                  | then-m-length u ↦
                      let mark = sym u.mark_ok.ensures ∙ sym u.value-is ∙ v.if-mark_ok.true in
                      let address = sym v.value-is ∙ w.if-m-ne0.true in
                      let counts = sym w.counts_ok.ensures ∙ sym w.value-is ∙ c.if-counts_ok.true in
                      rw (eq-eqb _ _ (u.if-m-length.true ∙ c.length.ensures), mark, address, counts) c.words_ok.ensures
                  | else-m-length u ↦ absurd (u.if-m-length.false (eqb-true _ _ (sym u.value-is ∙ v.if-mark_ok.true)))
                ]
            | else-mark_ok v ↦ absurd (never (sym v.if-mark_ok.false ∙ sym v.value-is ∙ w.if-m-ne0.true))
          ]
      | else-m-ne0 w ↦ absurd (never (sym w.if-m-ne0.false ∙ sym w.value-is ∙ c.if-counts_ok.true))
    ]

pub returns-else-counts_ok : goal.returns-else-counts_ok
unfolding usable address_ok
returns-else-counts_ok c =
    elim c.if-m-ne0.branch [
      | then-m-ne0 w ↦ c.if-counts_ok.false ∙ sym (rw (sym w.counts_ok.ensures ∙ sym w.value-is ∙ c.if-counts_ok.false) (simp and-false))
      | else-m-ne0 w ↦
          elim c.if-mark_ok.branch [
            | then-mark_ok v ↦ c.if-counts_ok.false ∙ sym (rw (sym v.value-is ∙ w.if-m-ne0.false) (simp and-false))
            | else-mark_ok v ↦
                elim c.if-m-length.branch [
                  | then-m-length u ↦ c.if-counts_ok.false ∙ sym (rw (sym u.mark_ok.ensures ∙ sym u.value-is ∙ v.if-mark_ok.false) (simp and-false))
                  | else-m-length u ↦ c.if-counts_ok.false ∙ sym (rw (ne_eqb _ _ (rw c.length.ensures at u.if-m-length.false)))
                ]
          ]
    ]
