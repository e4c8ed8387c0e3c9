-- When an image is usable (document 01, "The image"; document 02, request 7, has version 2 and its length). Assumes nothing.
use Rattle.std.specs.Prelude.{List, Bool, ◌&&◌, not, ℕ, length, get_or, leb, eqb}
use Rattle.laws.specs.Checks.{every}
use Rattle.image.specs.declared.cell.Cell.TheVariants.{Errors}
use Rattle.image.specs.declared.version.Version.{Version}
use Rattle.image.specs.Version.{version_number, image_length}
use Rattle.image.specs.Cell.{offset}
use Rattle.image.specs.Words.{table_word}

-- letters IZK, and the version
unfoldable pub mark_ok : Version → List ℕ → Bool
mark_ok v m =
    eqb (get_or m 0 0) 73 && (eqb (get_or m 1 0) 90 && (eqb (get_or m 2 0) 75 && (eqb (get_or m 3 0) 0 && eqb (get_or m 4 0) (version_number v))))

-- the block's own address, which is not 0
abbrev pub address : List ℕ → ℕ
address m = get_or m 5 0

unfoldable pub address_ok : List ℕ → Bool
address_ok m = not (eqb (address m) 0)

-- an error table has at most 21 rows
unfoldable pub count_ok : List ℕ → ℕ → Bool
count_ok m e = leb (get_or m (offset (Errors e)) 0) 21

-- a table's word has eleven bits
unfoldable pub word_ok : List ℕ → ℕ → Bool
word_ok m k = leb (table_word m k) 2047

-- no other byte is judged, and so no kept signature
unfoldable pub usable : Version → List ℕ → Bool
usable v m = eqb (length m) (image_length v) && (mark_ok v m && (address_ok m && (every (count_ok m) 8 && every (word_ok m) 16)))
