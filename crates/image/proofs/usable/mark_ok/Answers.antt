-- The code's `&` are nested as the definition's `&&`, so the two are one but for what the version's number is. Assumes nothing.
use Rattle.image.specs.Usable.{mark_ok}
use Rattle.image.proofs.usable.mark_ok.Goals as goal

pub returns : goal.returns
unfolding mark_ok
returns c = rw c.number.ensures
