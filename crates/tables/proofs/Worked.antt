-- Four rows worked out, two of them at level 10. Assumes nothing.
use mathlib.Core.Path.{◌≡◌, refl}
use mathlib.Core.List.{[], ◌∷◌, map}
use Prim.Native.Nat.{ℕ}
use lib.ListN.{get_or}
use Rattle.tables.specs.Rows.{last_row, between, given, volume_at}

abbrev levels : ℕ → ℕ
levels i = get_or (0 ∷ 10 ∷ 10 ∷ 20 ∷ []) i 0

abbrev volumes : ℕ → ℕ
volumes i = get_or (0 ∷ 5 ∷ 7 ∷ 17 ∷ []) i 0

-- the last row at or below each level, of the two at 10 the second
pub rows_found : map (λ x. last_row levels x 3) (0 ∷ 9 ∷ 10 ∷ 19 ∷ 20 ∷ 21 ∷ []) ≡ 0 ∷ 0 ∷ 2 ∷ 2 ∷ 3 ∷ 3 ∷ []
unfolding last_row
rows_found = refl

-- and the volumes: at 5 half of five, rounded down, at 9 four and a half
pub volumes-given : map (volume_at levels volumes 3) (0 ∷ 5 ∷ 9 ∷ 10 ∷ 15 ∷ 20 ∷ []) ≡ 0 ∷ 2 ∷ 4 ∷ 7 ∷ 12 ∷ 17 ∷ []
unfolding volume_at given last_row between
volumes-given = refl
