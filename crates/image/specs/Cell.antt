-- The cells of document 01 ("Cells", "The image"): where each stands, how long it is, how a request names it, and all 195 of them.
-- Assumes nothing.
use mathlib.Core.List.{List, [], ◌∷◌, ◌++◌, Memᴰ}
use Rattle.std.specs.Prelude.{Bool, true, false, cond, ◌&&◌, ◌||◌, ℕ, zero, suc, ◌+◌, ◌-◌, ◌*◌, leb, ltb, Option, Some, None}
use Rattle.laws.specs.Checks.{within}
use Rattle.image.specs.declared.cell.Cell.{Cell}
use Rattle.image.specs.declared.cell.Cell.TheVariants.{Mask, Mode, Clock, Constants, Errors, Part, Table}

-- ---- where each stands

abbrev pub offset : Cell → ℕ
offset Mask = 6
offset Mode = 7
offset Clock = 8
offset (Constants c) = 49 + 83 * c
offset (Errors e) = 713 + 64 * e
offset (Part k p) = 1225 + 1408 * k + 128 * p
offset (Table k) = 1225 + 1408 * k

abbrev pub size : Cell → ℕ
size Mask = 1
size Mode = 1
size Clock = 9
size (Constants c) = 83
size (Errors e) = 64
size (Part k p) = 128
size (Table k) = 1408

-- how many of its bytes count, where its first is n: of an error table the row count and as many rows of three; of any other all
abbrev pub extent : Cell → ℕ → ℕ
extent Mask n = 1
extent Mode n = 1
extent Clock n = 9
extent (Constants c) n = 83
extent (Errors e) n = 1 + 3 * n
extent (Part k p) n = 128
extent (Table k) n = 1408

-- ---- which there are

-- the 195 cells are those with these numbers; a table is none of them
abbrev pub is_cell : Cell → Bool
is_cell Mask = true
is_cell Mode = true
is_cell Clock = true
is_cell (Constants c) = ltb c 8
is_cell (Errors e) = ltb e 8
is_cell (Part k p) = ltb k 16 && ltb p 11
is_cell (Table k) = false

-- what has a signature
abbrev pub is_item : Cell → Bool
is_item Mask = false
is_item Mode = false
is_item Clock = false
is_item (Constants c) = ltb c 8
is_item (Errors e) = ltb e 8
is_item (Part k p) = false
is_item (Table k) = ltb k 16

-- f i, f (i + 1), .. : n of them
unfoldable pub run : (ℕ → Cell) → ℕ → ℕ → List Cell
run f i zero = []
run f i (suc n) = f i ∷ run f (suc i) n

-- the eleven parts of n tables, from the k-th on
unfoldable pub parts_from : ℕ → ℕ → List Cell
parts_from k zero = []
parts_from k (suc n) = run (Part k) 0 11 ++ parts_from (suc k) n

-- all 195, in rising offset
unfoldable pub cells : List Cell
cells = Mask ∷ (Mode ∷ (Clock ∷ (run Constants 0 8 ++ (run Errors 0 8 ++ parts_from 0 16))))

-- what has a signature, 32 items, in the order in which version 2 keeps these (document 02, request 7)
unfoldable pub items : List Cell
items = run Table 0 16 ++ (run Constants 0 8 ++ run Errors 0 8)

-- the i-th of them, from 0
unfoldable pub item_at : ℕ → Cell
item_at i = cond (ltb i 16) (Table i) (cond (ltb i 24) (Constants (i - 16)) (Errors (i - 24)))

-- the cells that a stretch is made of
abbrev pub cells_of : Cell → List Cell
cells_of Mask = Mask ∷ []
cells_of Mode = Mode ∷ []
cells_of Clock = Clock ∷ []
cells_of (Constants c) = Constants c ∷ []
cells_of (Errors e) = Errors e ∷ []
cells_of (Part k p) = Part k p ∷ []
cells_of (Table k) = run (Part k) 0 11

-- ---- how a request names one, by the numbers on the wire

unfoldable pub when : Bool → Cell → Option Cell
when t d = cond t (Some d) None

-- channels of the constants are 0..7
unfoldable pub constants_named : ℕ → Option Cell
constants_named n = when (ltb n 8) (Constants n)

-- error tables are numbered 1..8
unfoldable pub errors_named : ℕ → Option Cell
errors_named n = when (within 1 8 n) (Errors (n - 1))

-- main tables 1..8 come first in the image, then the additional ones, 11..18; there is no 9 and no 10
unfoldable pub is_table : ℕ → Bool
is_table t = within 1 8 t || within 11 18 t

unfoldable pub table_index : ℕ → ℕ
table_index t = cond (ltb t 9) (t - 1) (t - 3)

-- where the table stands that a number names
unfoldable pub index_named : ℕ → Option ℕ
index_named t = cond (is_table t) (Some (table_index t)) None

unfoldable pub table_named : ℕ → Option Cell
table_named t = when (is_table t) (Table (table_index t))

-- parts are numbered 1..11
unfoldable pub part_named : ℕ → ℕ → Option Cell
part_named t p = when (is_table t && within 1 11 p) (Part (table_index t) (p - 1))

-- ---- what is said of the whole list

-- none is there twice
abbrev pub Once : List Cell → Type 0
Once [] = Unit {0}
Once (c ∷ l) = (¬ Memᴰ c l) × Once l

-- each ends before the next begins
unfoldable pub rising : List Cell → Bool
rising [] = true
rising (c ∷ []) = true
rising (c ∷ (d ∷ l)) = leb (offset c + size c) (offset d) && rising (d ∷ l)
