-- When the rows of a table rise up to some row, and all later ones repeat it (document 02, request 10). Rows count from 0, so that row 352 is row 351 here.
-- Assumes nothing.
use Rattle.std.specs.Prelude.{◌≡◌, List, Bool, true, false, ◌&&◌, ℕ, ◌+◌, ◌-◌, ◌≤◌, ◌<◌, leb, ltb, eqb}
use Rattle.laws.specs.Checks.{every, some}
use Rattle.tables.specs.Rows.{level, volume}

-- ---- for any levels and volumes

-- from row i to the next the level row_rises, and the volume does not fall
unfoldable pub row_rises : (ℕ → ℕ) → (ℕ → ℕ) → ℕ → Bool
row_rises level volume i = ltb (level i) (level (i + 1)) && leb (volume i) (volume (i + 1))

unfoldable pub same_row : (ℕ → ℕ) → (ℕ → ℕ) → ℕ → ℕ → Bool
same_row level volume i j = eqb (level i) (level j) && eqb (volume i) (volume j)

-- each of the rows n + 1 .. last is as row n
unfoldable pub stays_from : (ℕ → ℕ) → (ℕ → ℕ) → ℕ → ℕ → Bool
stays_from level volume last n = every (λ k. same_row level volume n (n + 1 + k)) (last - n)

-- rows 0 .. n rise, and the later ones stay
unfoldable pub rises_to : (ℕ → ℕ) → (ℕ → ℕ) → ℕ → ℕ → Bool
rises_to level volume last n = every (row_rises level volume) n && stays_from level volume last n

-- ---- of a table's bytes

-- it is so for one of its 352 rows
unfoldable pub rises_then_stays : List ℕ → Bool
rises_then_stays s = some (rises_to (level s) (volume s) 351) 352

-- ---- as code finds it

-- row n is the first from which the next does not rise, or the last
pub record RisesUpTo (level volume : ℕ → ℕ) (last n : ℕ) : Type 0 where
  pub most : n ≤ last
  pub rising : every (row_rises level volume) n ≡ true
  pub no_further : n < last → row_rises level volume n ≡ false
