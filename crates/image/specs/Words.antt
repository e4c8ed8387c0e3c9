-- Where words stand in an image: those of the tables (document 01, "The image") and the signatures that version 2 keeps (document 02, request 7).
-- Assumes nothing.
use Rattle.std.specs.Prelude.{List, [], ◌∷◌, Bool, ◌&&◌, ◌||◌, ℕ, ◌+◌, ◌*◌, leb, Option, Some, None}
use Rattle.laws.specs.Bytes.{word_at}
use Rattle.laws.specs.Checks.{all}
use Rattle.image.specs.declared.cell.Cell.{Cell}
use Rattle.image.specs.declared.cell.Cell.TheVariants.{Mask, Mode, Clock, Constants, Errors, Part, Table}
use Rattle.image.specs.declared.version.Version.{Version}
use Rattle.image.specs.declared.version.Version.TheVariants.{V1, V2}
use Rattle.image.specs.Version.{image_length}
use Rattle.image.specs.Cell.{offset, size}

-- a number of bytes from an offset on
pub record Span : Type 0 where
  pub from : ℕ
  pub count : ℕ

-- where the word of the table stands that is k-th in the image, from 0
abbrev pub word_offset : ℕ → ℕ
word_offset k = 17 + 2 * k

-- where the i-th of the 32 kept signatures stands, from 0
abbrev pub kept_offset : ℕ → ℕ
kept_offset i = 23753 + 2 * i

-- the signature that a cell's bytes count in: tables come in image order, then constants, then error tables; a part counts in its table's
abbrev pub signature_word : Cell → Option ℕ
signature_word Mask = None
signature_word Mode = None
signature_word Clock = None
signature_word (Constants c) = Some (kept_offset (16 + c))
signature_word (Errors e) = Some (kept_offset (24 + e))
signature_word (Part k p) = Some (kept_offset k)
signature_word (Table k) = Some (kept_offset k)

-- all words of a version; none of them lies in a cell. Those of the sixteen tables, two bytes each, and in version 2 those of the 32 signatures
abbrev pub words : Version → List Span
words V1 = record { from = word_offset 0; count = 32 } ∷ []
words V2 = record { from = word_offset 0; count = 32 } ∷ (record { from = kept_offset 0; count = 64 } ∷ [])

unfoldable pub table_word : List ℕ → ℕ → ℕ
table_word m k = word_at m (word_offset k)

-- ---- tests of where words and cells lie

-- behind mark, version and address, and inside the image
unfoldable pub span_inside : Version → Span → Bool
span_inside v s = leb 6 s.from && leb (s.from + s.count) (image_length v)

-- before it or behind it
unfoldable pub off : Cell → Span → Bool
off c s = leb (offset c + size c) s.from || leb (s.from + s.count) (offset c)

unfoldable pub inside : Version → Cell → Bool
inside v c = leb 6 (offset c) && (leb (offset c + size c) (image_length v) && all (off c) (words v))
