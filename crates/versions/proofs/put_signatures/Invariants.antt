-- What is left of the signatures, laid where the next one goes, gives what all of them give. Assumes nothing.
use mathlib.Core.Path.{◌≡◌}
use lib.ListN.{length}
use Rattle.laws.specs.Bytes.{lay}
use Rattle.image.specs.declared.version.Version.TheVariants.{V2}
use Rattle.image.specs.Version.{image_length}
use Rattle.image.specs.Cell.{items}
use Rattle.image.specs.Words.{kept_offset}
use Rattle.versions.specs.Moved.{signatures}
use Rattle.versions.proofs.Making.{from}
use Rattle.versions.proofs.put_signatures.Given as goal

abbrev pub invariant-loop-i : goal.invariant-loop-i
invariant-loop-i l =
    (length l.target ≡ image_length V2)
    × (lay l.target (kept_offset l.i) (from l.i l.source) ≡ lay l.initial.target (kept_offset 0) (signatures items l.source))
