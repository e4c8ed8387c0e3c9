-- The first check that fails decides; past both the search is ready. Assumes nothing.
use mathlib.Core.Path.{◌≡◌, sym, ◌∙◌}
use mathlib.Core.Bool.{true}
use Prim.Native.Nat.{◌≤◌}
use native.Mathlib.Omega.{arith}
use Rattle.std.proofs.lemmas.Grind.{common_steps}
use Rattle.tables.specs.Rows.{level, never_fall}
use Rattle.tables.specs.Quantity.{answered}
use Rattle.tables.proofs.Checked.{falling, too_high, inside, outside}
use Rattle.tables.proofs.quantity.quantity_in.Goals.{Else-not-never_fall}
use Rattle.tables.proofs.quantity.quantity_in.Goals as goal

climbing : (c : Else-not-never_fall) → never_fall c.args.s.now ≡ true
climbing c = sym c.never_fall.ensures ∙ c.if-not-never_fall.false

pub returns-then-not-never_fall : goal.returns-then-not-never_fall
returns-then-not-never_fall c = sym (falling _ _ (sym c.never_fall.ensures ∙ c.if-not-never_fall.true))

pub returns-in-Ok : goal.returns-in-Ok
unfolding answered
returns-in-Ok c =
    let s = c.args.s.now in
    let x = c.args.level in
    let h = climbing (goal.at.returns-in-Ok c).Else-not-never_fall in
    let e = c.in-Ok.ensures.1 in
    let least : level s 0 ≤ x = grind (arith, common_steps) in
    let most : x ≤ level s 351 = grind (arith, common_steps) in
    rw (inside s x h least most, c.volume_at.ensures, e)

-- by what is known there and no name, so that a range with another end is refused for its end
pub returns-in_default : goal.returns-in_default
returns-in_default c =
    let s = c.args.s.now in
    let x = c.args.level in
    let out : level s 0 ≤ x → x ≤ level s 351 → ⊥ = λ a b. grind (arith, common_steps) in
    sym (outside _ _ (climbing (goal.at.returns-in_default c).Else-not-never_fall) out)

pub returns-in_default-2 : goal.returns-in_default-2
returns-in_default-2 c =
    let big : 65536 ≤ c.args.level = grind (arith, common_steps) in
    sym (too_high _ _ (climbing (goal.at.returns-in_default-2 c).Else-not-never_fall) (omega arith))
