-- What the block tells of the number that goes in, it tells of the one that the host gave. Assumes nothing.
use mathlib.Core.Path.{◌∙◌}
use Rattle.image.specs.Version.{current}
use Rattle.panel.proofs.Tables.{narrowed_alike}
use Rattle.panel.proofs.izk_held_parts.Goals as goal

pub returns-in-Ok : goal.returns-in-Ok
returns-in-Ok c =
    rw c.unwrap_or-in-Ok.ensures ((rw c.unwrap_or.ensures at c.in-Ok.ensures) ∙ narrowed_alike current _ _ _ c.try_from.ensures)

pub returns-in-Err : goal.returns-in-Err
returns-in-Err c = rw c.from.ensures ((rw c.unwrap_or.ensures at c.in-Err.ensures) ∙ narrowed_alike current _ _ _ c.try_from.ensures)
