-- What a command works on: a single cell, or a whole table, which is made of cells. Assumes nothing.
use mathlib.Core.Path.{◌≡◌, refl}
use mathlib.Core.List.Memᴰ
use mathlib.Core.List.{[], ◌∷◌, Memᴰ}
use mathlib.Core.Bool.{true}
use Prim.Native.Nat.{ℕ, ◌+◌, ◌≤◌}
use native.Mathlib.Omega.{arith}
use lib.Dec.{ltb}
use Rattle.laws.specs.Checks.{all}
use Rattle.laws.proofs.Tests.{never}
use Rattle.image.specs.declared.cell.Cell.{Cell}
use Rattle.image.specs.declared.cell.Cell.TheVariants.{Mask, Mode, Clock, Constants, Errors, Part, Table}
use Rattle.image.specs.declared.version.Version.{Version}
use Rattle.image.specs.declared.version.Version.TheVariants.{V1}
use Rattle.image.specs.Version.{image_length}
use Rattle.image.specs.Cell.{offset, size, is_cell, is_item, run, cells_of}
use Rattle.image.proofs.Cells.{placed}

data Stretch (d : Cell) : Type 0 where
  single : cells_of d ≡ d ∷ [] → (is_item d ≡ true → is_cell d ≡ true) → Stretch d
  whole : (k : ℕ) → d ≡ Table k → Stretch d

stretch_view : (d : Cell) → Stretch d
stretch_view Mask = single refl (λ h. refl)
stretch_view Mode = single refl (λ h. refl)
stretch_view Clock = single refl (λ h. refl)
stretch_view (Constants c) = single refl (λ h. h)
stretch_view (Errors e) = single refl (λ h. h)
stretch_view (Part k p) = single refl (λ h. absurd (never h))
stretch_view (Table k) = whole k refl

alone : (d : Cell) → is_cell d ≡ true → cells_of d ≡ d ∷ []
alone d h = go (stretch_view d)
  where
    go : Stretch d → cells_of d ≡ d ∷ []
    go (single e f) = e
    go (whole k e) = absurd (never (rw e at h))

pub own_cell : (d : Cell) → is_cell d ≡ true → Memᴰ d (cells_of d)
own_cell d h = rw (alone d h) (Memᴰ.head refl)

pub only_cell : (d c : Cell) → is_cell d ≡ true → Memᴰ c (cells_of d) → c ≡ d
only_cell d c h m = Memᴰ.eq_of_singleton (rw (alone d h) at m)

pub cell_made : (d : Cell) → is_cell d ≡ true → all is_cell (cells_of d) ≡ true
unfolding all
cell_made d h = rw (alone d h, h)

pub item_made : (d : Cell) → is_item d ≡ true → all is_cell (cells_of d) ≡ true
unfolding all run
item_made d h = go (stretch_view d)
  where
    go : Stretch d → all is_cell (cells_of d) ≡ true
    go (single e f) = cell_made d (f h)
    go (whole k e) = let l : ltb k 16 ≡ true = rw e at h in rw (e, l)

-- a table ends where its last part does
pub item_inside : (v : Version) (d : Cell) → is_item d ≡ true → offset d + size d ≤ image_length v
item_inside v d h = go (stretch_view d)
  where
    go : Stretch d → offset d + size d ≤ image_length v
    go (single e f) = (placed v d (f h)).high
    go (whole k e) =
        let l : ltb k 16 ≡ true = rw e at h in
        rw e (omega (arith, (placed v (Part k 10) (rw l)).high))

-- and behind mark, version and address
pub item_low : (d : Cell) → is_item d ≡ true → 6 ≤ offset d
item_low d h = go (stretch_view d)
  where
    go : Stretch d → 6 ≤ offset d
    go (single e f) = (placed V1 d (f h)).low
    go (whole k e) = rw e (omega arith)
