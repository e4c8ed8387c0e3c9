-- The test is the definition's. Assumes nothing.
use mathlib.Core.Path.{◌≡◌, refl, ◌∙◌}
use mathlib.Core.Bool.{Bool, true, false}
use Rattle.std.specs.Bool.{then_some}
use Rattle.image.specs.declared.cell.Cell.{Cell}
use Rattle.image.specs.Cell.{when, constants_named}
use Rattle.image.proofs.cell.Cell.constants.Goals as goal

when_is : (t : Bool) (d : Cell) → then_some t d ≡ when t d
unfolding when
when_is true d = refl
when_is false d = refl

pub returns : goal.returns
unfolding constants_named
returns c = c.then_some.ensures ∙ when_is _ _
