-- The volume at a level, by a table of the image (document 02, request 3). Assumes nothing.
use Rattle.std.specs.Prelude.{List, [], ◌∷◌, Bool, ℕ, Result, eqb}
use Rattle.laws.specs.Bytes.{slice}
use Rattle.laws.specs.Checks.{Check, check, judged, within}
use Rattle.output.specs.declared.refusal.Refusal.{Refusal}
use Rattle.output.specs.Refusal.{number_in, value_in}
use Rattle.image.specs.declared.cell.Cell.TheVariants.{Table}
use Rattle.image.specs.declared.version.Version.{Version}
use Rattle.image.specs.Cell.{offset, size, is_table, table_index}
use Rattle.image.specs.Words.{table_word}
use Rattle.image.specs.Usable.{usable}
use Rattle.image.specs.Held.{lowest_missing}
use Rattle.tables.specs.Rows.{level, volume, never_fall, volume_at}

-- what the question reports: a number, and the volume in the table's units
pub record Quantity : Type 0 where
  pub number : ℕ
  pub volume : ℕ

-- of what the code returns
abbrev pub quantity_of : Result ℕ Refusal → Quantity
quantity_of r = record { number = number_in r; volume = value_in 0 r }

-- a refusal has volume 0
abbrev pub unanswered : ℕ → Quantity
unanswered n = record { number = n; volume = 0 }

-- the bytes of table t
unfoldable pub table_bytes : List ℕ → ℕ → List ℕ
table_bytes m t = slice (offset (Table (table_index t))) (size (Table (table_index t))) m

-- its word lacks none of its eleven bits
unfoldable pub whole : List ℕ → ℕ → Bool
whole m t = eqb (lowest_missing (table_word m (table_index t))) 0

-- a level from row 1's to row 352's
unfoldable pub covers : List ℕ → ℕ → Bool
covers s x = within (level s 0) (level s 351) x

abbrev pub row_checks : List ℕ → ℕ → List Check
row_checks s x = check 13 (never_fall s) ∷ (check 14 (covers s x) ∷ [])

abbrev pub quantity_checks : Version → List ℕ → ℕ → ℕ → List Check
quantity_checks v m t x = check 1 (usable v m) ∷ (check 10 (is_table t) ∷ (check 12 (whole m t) ∷ row_checks (table_bytes m t) x))

unfoldable pub answered : List ℕ → ℕ → Quantity
answered s x = record { number = 0; volume = volume_at (level s) (volume s) 351 x }

unfoldable pub quantity_at : Version → List ℕ → ℕ → ℕ → Quantity
quantity_at v m t x = judged unanswered (quantity_checks v m t x) (answered (table_bytes m t) x)
