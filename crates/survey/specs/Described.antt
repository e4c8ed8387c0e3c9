-- A table file as a surveyor would describe it (document 02, request 10): frames, parts and rows by their places. Frames count from 0 to 10 and rows from 0
-- to 351 here. Assumes nothing.
use Rattle.std.specs.Prelude.{◌≡◌, ◌≢◌, List, [], true, ℕ, ◌+◌, ◌/◌, ◌%◌, ◌≤◌, ◌<◌, length, get_or}
use Rattle.laws.specs.Checks.{AllPass}
use Rattle.text.specs.Cut.{pieces}
use Rattle.frame.specs.Apart.{contents_of, frame_checks}
use Rattle.image.specs.Cell.{is_table}
use Rattle.rules.specs.Rules.{byte}
use Rattle.tables.specs.Rows.{sent_level, sent_volume}

-- frame k of a file, which is cut after each 0Ah, and what it holds
abbrev pub frame_at : List ℕ → ℕ → List ℕ
frame_at s k = get_or (pieces s) k []

abbrev pub contents_at : List ℕ → ℕ → List ℕ
contents_at s k = contents_of (frame_at s k)

-- what it says: bytes 1 to 4 of its body
abbrev pub address_at : List ℕ → ℕ → ℕ
address_at s k = byte (contents_at s k) 1

abbrev pub command_at : List ℕ → ℕ → ℕ
command_at s k = byte (contents_at s k) 2

abbrev pub table_at : List ℕ → ℕ → ℕ
table_at s k = byte (contents_at s k) 3

abbrev pub part_at : List ℕ → ℕ → ℕ
part_at s k = byte (contents_at s k) 4

-- ---- the frames

-- at most 4,096 bytes, and eleven frames that pass checks 3 to 6, nothing being left over
pub record Frames (s : List ℕ) : Type 0 where
  pub short : length s ≤ 4096
  pub eleven : length (pieces s) ≡ 11
  pub good : (k : ℕ) → k < 11 → AllPass (frame_checks (frame_at s k))

-- ---- of which table they are

-- each is a 59 with a body of 133 bytes, which is one more than what it holds without its checksum; one address other than 0, and one table
pub record OneTable (s : List ℕ) : Type 0 where
  pub address : address_at s 0 ≢ 0
  pub table : is_table (table_at s 0) ≡ true
  pub long : (k : ℕ) → k < 11 → length (contents_at s k) ≡ 132
  pub command : (k : ℕ) → k < 11 → command_at s k ≡ 59
  pub one_address : (k : ℕ) → k < 11 → address_at s k ≡ address_at s 0
  pub one_table : (k : ℕ) → k < 11 → table_at s k ≡ table_at s 0

-- ---- its parts

-- parts 1..11, and none twice; with the frames that makes each of them there, which is a law
pub record Parts (s : List ℕ) : Type 0 where
  pub inside : (k : ℕ) → k < 11 → (1 ≤ part_at s k) × (part_at s k ≤ 11)
  pub once : (j k : ℕ) → j < k → k < 11 → part_at s j ≢ part_at s k

-- ---- its rows

-- row r of the table has level l and volume v: it is one of the 32 rows of a frame, that of part 1 for rows 0..31, of part 2 for the next 32, and so on.
-- Where frames, table and parts are as they should be, each of the 352 is there, and once: a law too
pub record Row (s : List ℕ) (r l v : ℕ) : Type 0 where
  pub frame : ℕ
  pub inside : frame < 11
  pub part : part_at s frame ≡ r / 32 + 1
  pub level_is : l ≡ sent_level (contents_at s frame) (r % 32)
  pub volume_is : v ≡ sent_volume (contents_at s frame) (r % 32)

-- up to some row levels rise and volumes never fall; all rows after it are as it is
pub record Rows (s : List ℕ) : Type 0 where
  pub last : ℕ
  pub inside : last ≤ 351
  pub rising : (r l v l' v' : ℕ) → r < last → Row s r l v → Row s (r + 1) l' v' → (l < l') × (v ≤ v')
  pub staying : (r l v l' v' : ℕ) → last < r → r ≤ 351 → Row s last l v → Row s r l' v' → (l' ≡ l) × (v' ≡ v)

-- ---- all four

pub record Described (s : List ℕ) : Type 0 where
  pub frames : Frames s
  pub one_table : OneTable s
  pub parts : Parts s
  pub rows : Rows s

-- what each number says of a file: which of the four is the first that fails
pub data Says (s : List ℕ) (n : ℕ) : Type 0 where
  no_frames : ¬ Frames s → n ≡ 17 → Says s n
  no_table : Frames s → ¬ OneTable s → n ≡ 18 → Says s n
  no_parts : Frames s → OneTable s → ¬ Parts s → n ≡ 19 → Says s n
  no_rows : Frames s → OneTable s → Parts s → ¬ Rows s → n ≡ 20 → Says s n
  none : Described s → n ≡ 0 → Says s n
