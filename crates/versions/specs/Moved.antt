-- An image moved from one version to the other (document 02, request 8). Assumes nothing.
use Rattle.std.specs.Prelude.{List, [], ◌∷◌, ◌++◌, ℕ, length, take, eqb}
use Rattle.laws.specs.Bytes.{lay, two}
use Rattle.laws.specs.Checks.{Check, check, judged}
use Rattle.image.specs.declared.cell.Cell.{Cell}
use Rattle.image.specs.declared.version.Version.{Version}
use Rattle.image.specs.declared.version.Version.TheVariants.{V1, V2}
use Rattle.image.specs.Version.{version_number, image_length}
use Rattle.image.specs.Cell.{items}
use Rattle.image.specs.Usable.{usable}
use Rattle.image.specs.Made.{ImageAfter, unmade}
use Rattle.storing.specs.Signature.{full_sum}

-- where the number of the version stands, in two bytes
abbrev pub number_offset : ℕ
number_offset = 3

-- the bytes that both versions have, with the number of one of them; every other byte is kept
unfoldable pub numbered : Version → List ℕ → List ℕ
numbered v m = lay (take (image_length V1) m) number_offset (two (version_number v))

-- the sums of items, two bytes each
unfoldable pub signatures : List Cell → List ℕ → List ℕ
signatures [] m = []
signatures (e ∷ es) m = two (full_sum e m) ++ signatures es m

-- what a version has behind these bytes: version 2 the signatures of all 32 items
abbrev pub behind : Version → List ℕ → List ℕ
behind V1 m = []
behind V2 m = signatures items m

-- an image, in a version
unfoldable pub in_version : Version → List ℕ → List ℕ
in_version v m = numbered v m ++ behind v m

-- the version that a move to one of them comes from
abbrev pub other : Version → Version
other V1 = V2
other V2 = V1

-- a source that is not usable in its version, and a target of another length than that of the version it is moved to
abbrev pub move_checks : Version → List ℕ → List ℕ → List Check
move_checks v source target = check 1 (usable (other v) source) ∷ (check 1 (eqb (length target) (image_length v)) ∷ [])

-- moving a source to a version, into a target: what it held does not matter
unfoldable pub moved : Version → List ℕ → List ℕ → ImageAfter
moved v source target = judged (unmade target) (move_checks v source target) (record { number = 0; image = in_version v source })
