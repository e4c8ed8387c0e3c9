-- What an image's version decides: its number and its length here; elsewhere which words stand in it, what a write changes beside its cell, and
-- where a signature comes from. Version 1 is document 01's; version 2 is document 02's (request 7), and keeps the signatures. Assumes nothing.
use Rattle.std.specs.Prelude.{ℕ}
use Rattle.image.specs.declared.version.Version.{Version}
use Rattle.image.specs.declared.version.Version.TheVariants.{V1, V2}

abbrev pub version_number : Version → ℕ
version_number V1 = 1
version_number V2 = 2

abbrev pub image_length : Version → ℕ
image_length V1 = 23753
image_length V2 = 23817

-- the version that the block serves
abbrev pub current : Version
current = V2
