-- Two questions of an image worked out, by the definition that `quantity_at` promises. They stand here and not in `tables`, whose edits would each pay for
-- them. Assumes nothing.
use mathlib.Core.Path.{◌≡◌, refl}
use mathlib.Core.List.{List, [], ◌∷◌}
use Prim.Native.Nat.{ℕ}
use Rattle.laws.specs.Bytes.{slice, lay, zeros, word_at}
use Rattle.laws.specs.Checks.{judged, within, every}
use Rattle.image.specs.Version.{current}
use Rattle.image.specs.Cell.{is_table, table_index}
use Rattle.image.specs.Words.{table_word}
use Rattle.image.specs.Usable.{mark_ok, address_ok, count_ok, word_ok, usable}
use Rattle.image.specs.Fresh.{fresh}
use Rattle.image.specs.Held.{missing_from, lowest_missing}
use Rattle.tables.specs.Rows.{climbs, last_row, between, given, volume_at, never_fall}
use Rattle.tables.specs.Quantity.{unanswered, table_bytes, whole, covers, answered, quantity_at}

-- table 12 alone is whole: 351 rows of zeros, and row 352 with level 100 and volume 999

abbrev filled : List ℕ
filled = lay (lay (fresh current 1) 35 (7 ∷ 255 ∷ [])) 15301 (0 ∷ 100 ∷ 3 ∷ 231 ∷ [])

-- table 12 answers, with half of 999 rounded down, and table 2 does not
pub twelve_is_not_2 : (quantity_at current filled 12 50 ≡ record { number = 0; volume = 499 }) × (quantity_at current filled 2 50 ≡ unanswered 12)
unfolding quantity_at judged usable mark_ok address_ok count_ok word_ok every table_word word_at is_table table_index within whole lowest_missing missing_from
    never_fall climbs covers table_bytes slice answered volume_at given last_row between lay fresh zeros
twelve_is_not_2 = (refl, refl)
