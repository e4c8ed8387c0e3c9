-- What the promise of the question says of the number and of the volume, for what was asked. Assumes nothing.
use Rattle.std.proofs.Common.{ℕ, ◌≡◌, sym, ap, ◌∙◌}
use Rattle.laws.proofs.Checks.{gives_one}
use Rattle.image.specs.Version.{current}
use Rattle.tables.specs.Quantity.{Quantity}
use Rattle.tables.proofs.Promises.{quantity_gives, refused_quantity, answered_as}
use Rattle.vectors.proofs.images.volume_at.Goals as goal

-- what is reported number by number is the record of the two
both : (n v : ℕ) (q : Quantity) → n ≡ q.number → v ≡ q.volume → record { number = n; volume = v } ≡ q
both n v q e f = rw (e, f)

pub returns : goal.returns
returns c =
    let a = c.args in
    let e = c.quantity_at-answer.ensures in
    let n = c.number.ensures ∙ ap (λ (q : Quantity). q.number) e in
    let v = c.reported_volume.ensures ∙ ap (λ (q : Quantity). q.volume) e in
    let first = n ∙ gives_one _ _ (quantity_gives current a.m.now a.table a.asked) in
    let answered = answered_as current a.m.now a.table a.asked in
    let refused = refused_quantity current a.m.now a.table a.asked in
    record { number_value = first; value = λ z. both _ _ _ c.number.ensures c.reported_volume.ensures ∙ e ∙ answered (sym n ∙ z); volume_value = λ z. v ∙ refused (λ k. z (n ∙ k)) }
