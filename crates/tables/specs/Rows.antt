-- The rows of a table, and the volume that they give at a level (document 01, "Commands", has them as 59 sends them; document 02, request 3). Rows count
-- from 0, so that row 352 is row 351 here. Assumes nothing.
use Rattle.std.specs.Prelude.{◌≡◌, List, Bool, true, cond, ◌&&◌, ℕ, zero, suc, ◌+◌, ◌-◌, ◌*◌, ◌/◌, ◌≤◌, leb, eqb}
use Rattle.laws.specs.Bytes.{word_at}
use Rattle.laws.specs.Checks.{every}
use Rattle.tables.specs.declared.rows.Row.{Row}

-- a row's two numbers, from its table's bytes
abbrev pub level : List ℕ → ℕ → ℕ
level s i = word_at s (4 * i)

abbrev pub volume : List ℕ → ℕ → ℕ
volume s i = word_at s (4 * i + 2)

abbrev pub row : List ℕ → ℕ → Row
row s i = record { level = level s i; volume = volume s i }

-- row i of the 32 that a body sends: four bytes each from byte 5 on, level first
abbrev pub sent_level : List ℕ → ℕ → ℕ
sent_level c i = word_at c (4 + 4 * i)

abbrev pub sent_volume : List ℕ → ℕ → ℕ
sent_volume c i = word_at c (6 + 4 * i)

-- ---- for any levels and volumes

-- neither falls from row i to the next
unfoldable pub climbs : (ℕ → ℕ) → (ℕ → ℕ) → ℕ → Bool
climbs level volume i = leb (level i) (level (i + 1)) && leb (volume i) (volume (i + 1))

-- the last of rows 0..n whose level is at or below x; row 0 where there is none
unfoldable pub last_row : (ℕ → ℕ) → ℕ → ℕ → ℕ
last_row level x zero = zero
last_row level x (suc n) = cond (leb (level (suc n)) x) (suc n) (last_row level x n)

-- from volume v at level a towards volume w at level b: v, and the rise in volume times the distance above a, divided by the rise in level, rounded down
unfoldable pub between : ℕ → ℕ → ℕ → ℕ → ℕ → ℕ
between v w a b x = v + (w - v) * (x - a) / (b - a)

-- what row i gives at x, where row n is the last: its own volume, or one between it and the next
unfoldable pub given : (ℕ → ℕ) → (ℕ → ℕ) → ℕ → ℕ → ℕ → ℕ
given level volume n x i = cond (eqb i n) (volume i) (between (volume i) (volume (i + 1)) (level i) (level (i + 1)) x)

unfoldable pub volume_at : (ℕ → ℕ) → (ℕ → ℕ) → ℕ → ℕ → ℕ
volume_at level volume n x = given level volume n x (last_row level x n)

-- ---- of a table's bytes

-- over all 352 rows
unfoldable pub never_fall : List ℕ → Bool
never_fall s = every (climbs (level s) (volume s)) 351

-- what a search asks for
pub record Ready (s : List ℕ) (x : ℕ) : Type 0 where
  pub climbing : never_fall s ≡ true
  pub least : level s 0 ≤ x
