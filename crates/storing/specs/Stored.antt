-- Storing bytes in a cell, and what changes along with it (document 01, "Cells" and "Commands"; of kept signatures document 02, request 7). Assumes
-- nothing.
use Rattle.std.specs.Prelude.{◌≡◌, List, [], ◌∷◌, true, ℕ, ◌+◌, ◌-◌, ◌%◌, ◌≤◌, length, get_or, Option, Some, None}
use Rattle.laws.specs.Bytes.{slice, lay, padded, sum_of, two, word_at}
use Rattle.laws.specs.Bits.{with_bit}
use Rattle.image.specs.declared.cell.Cell.{Cell}
use Rattle.image.specs.declared.cell.Cell.TheVariants as Cells
use Rattle.image.specs.declared.version.Version.{Version}
use Rattle.image.specs.declared.version.Version.TheVariants.{V1, V2}
use Rattle.image.specs.Cell.{offset, size, extent, is_cell}
use Rattle.image.specs.Words.{word_offset, signature_word}

-- a word, by its offset, and how it changes when a cell's old bytes give way to new ones
pub record Touch : Type 0 where
  pub word : ℕ
  pub change : List ℕ → List ℕ → ℕ → ℕ

module _ (old new : List ℕ) where
  abbrev pub touched : Touch → List ℕ → List ℕ
  touched t m = lay m t.word (two (t.change old new (word_at m t.word)))

  abbrev pub touched_all : List Touch → List ℕ → List ℕ
  touched_all [] m = m
  touched_all (t ∷ ts) m = touched_all ts (touched t m)

-- a part's bit goes with the part
abbrev pub bit_of : ℕ → ℕ → Touch
bit_of k p = record { word = word_offset k; change = λ old new w. with_bit w p }

abbrev pub bits : Cell → List Touch
bits Cells.Mask = []
bits Cells.Mode = []
bits Cells.Clock = []
bits (Cells.Constants c) = []
bits (Cells.Errors e) = []
bits (Cells.Part k p) = bit_of k p ∷ []
bits (Cells.Table k) = []

-- a signature's word is amended by what left and what came, remainder by 65,536: nothing but the cell is added up
abbrev pub amended : List ℕ → List ℕ → ℕ → ℕ
amended old new w = (w + (65536 - sum_of old % 65536) + sum_of new) % 65536

abbrev pub amend_at : ℕ → Touch
amend_at o = record { word = o; change = amended }

abbrev pub amending : Option ℕ → List Touch → List Touch
amending None ts = ts
amending (Some o) ts = amend_at o ∷ ts

-- all that changes along with a cell
abbrev pub touches : Version → Cell → List Touch
touches V1 d = bits d
touches V2 d = amending (signature_word d) (bits d)

-- bytes stored in a cell, padded with 0 to its size, so that no old row stays behind a shorter error table
unfoldable pub stored : Version → Cell → List ℕ → List ℕ → List ℕ
stored v d bytes m =
    let new = padded (size d) bytes in
    touched_all (slice (offset d) (size d) m) new (touches v d) (lay m (offset d) new)

-- bytes fit a cell: they are all that counts of it, by their first, and have room there
pub record FitStore (d : Cell) (bytes : List ℕ) : Type 0 where
  pub cell : is_cell d ≡ true
  pub counts : length bytes ≡ extent d (get_or bytes 0 0)
  pub room : length bytes ≤ size d
