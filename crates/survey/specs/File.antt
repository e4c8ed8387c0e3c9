-- A surveyor's table file, and the number that checking it gives (document 02, request 10). Assumes nothing.
use Rattle.std.specs.Prelude.{List, [], ◌∷◌, ◌++◌, map, Bool, cond, not, ◌&&◌, ℕ, zero, suc, length, get_or, drop, leb, eqb}
use Rattle.laws.specs.Checks.{Check, check, first_failing, within, all, distinct}
use Rattle.text.specs.Cut.{pieces}
use Rattle.frame.specs.Apart.{contents_of, frame_checks}
use Rattle.image.specs.Cell.{is_table}
use Rattle.rules.specs.Rules.{byte}
use Rattle.survey.specs.Rows.{rises_then_stays}

-- ---- its frames

-- a frame that passes checks 3 to 6
unfoldable pub is_frame : List ℕ → Bool
is_frame f = all (λ c. c.passes) (frame_checks f)

-- what the frames hold, in the file's order: of each address, command, table, part and rows, without the checksum
unfoldable pub contents_in : List ℕ → List (List ℕ)
contents_in s = map contents_of (pieces s)

-- ---- of which table they are

-- the address and the table of the first frame, which every one has to have
unfoldable pub address_in : List (List ℕ) → ℕ
address_in cs = byte (get_or cs 0 []) 1

unfoldable pub table_in : List (List ℕ) → ℕ
table_in cs = byte (get_or cs 0 []) 3

-- contents of a 59 for an address and a table; with the checksum they are a body of 133 bytes
unfoldable pub sends : ℕ → ℕ → List ℕ → Bool
sends a t c = eqb (length c) 132 && (eqb (byte c 2) 59 && (eqb (byte c 1) a && eqb (byte c 3) t))

-- ---- its parts and rows

-- the numbers of the parts, in the file's order
unfoldable pub parts_in : List (List ℕ) → List ℕ
parts_in cs = map (λ c. byte c 4) cs

-- the contents that have a part's number: the first of them; nothing where there are none
unfoldable pub contents_with : ℕ → List (List ℕ) → List ℕ
contents_with p [] = []
contents_with p (c ∷ cs) = cond (eqb (byte c 4) p) c (contents_with p cs)

-- the rows of part 1, of part 2 and so on up to part n, wherever they stand in the file
unfoldable pub rows_to : ℕ → List (List ℕ) → List ℕ
rows_to zero cs = []
rows_to (suc p) cs = rows_to p cs ++ drop 4 (contents_with (suc p) cs)

-- the whole table
unfoldable pub table_sent : List (List ℕ) → List ℕ
table_sent cs = rows_to 11 cs

-- ---- the four checks, each over the whole file before the next

unfoldable pub eleven_frames : List ℕ → Bool
eleven_frames s = leb (length s) 4096 && (eqb (length (pieces s)) 11 && all is_frame (pieces s))

unfoldable pub is_one_table : List (List ℕ) → Bool
is_one_table cs = not (eqb (address_in cs) 0) && (is_table (table_in cs) && all (sends (address_in cs) (table_in cs)) cs)

unfoldable pub each_once : List ℕ → Bool
each_once ps = all (within 1 11) ps && distinct ps

abbrev pub table_checks : List (List ℕ) → List Check
table_checks cs = check 18 (is_one_table cs) ∷ (check 19 (each_once (parts_in cs)) ∷ (check 20 (rises_then_stays (table_sent cs)) ∷ []))

abbrev pub file_checks : List ℕ → List Check
file_checks s = check 17 (eleven_frames s) ∷ table_checks (contents_in s)

-- 0 where all pass
unfoldable pub file_number : List ℕ → ℕ
file_number s = first_failing (file_checks s)
