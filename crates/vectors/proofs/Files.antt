-- Table files worked out, built from their rows, parts 11 down to 1. They hold the description to what it should mean: rules that are wrong in it and in the
-- definition alike show here. Assumes nothing.
use mathlib.Core.Path.{◌≡◌, refl}
use mathlib.Core.List.{List, [], ◌∷◌, ◌++◌, map}
use mathlib.Core.Bool.{cond}
use Prim.Native.Nat.{ℕ, zero, suc, ◌+◌, ◌-◌, ◌*◌, ◌/◌, min}
use Rattle.laws.specs.Bytes.{slice, word_at, sum_of, two}
use Rattle.laws.specs.Checks.{first_failing, judged, within, all, distinct, among, every, some}
use Rattle.text.specs.Cut.{pieces}
use Rattle.frame.specs.Digits.{is_digit, value_of, char_of, chars_of, bytes_of, checksum_of}
use Rattle.frame.specs.Apart.{length_ok, ends_ok, inner, body_of, contents_of, sum_ok, frame_checks}
use Rattle.frame.specs.Built.{frame_of}
use Rattle.image.specs.Cell.{is_table}
use Rattle.survey.specs.Rows.{row_rises, same_row, stays_from, rises_to, rises_then_stays}
use Rattle.survey.specs.File.{is_frame, contents_in, address_in, table_in, sends, parts_in, contents_with, rows_to, table_sent}
use Rattle.survey.specs.File.{eleven_frames, is_one_table, each_once, file_number}

-- n rows from row r on, by their levels and volumes
unfoldable pub rows_from : (ℕ → ℕ) → (ℕ → ℕ) → ℕ → ℕ → List ℕ
rows_from level volume r zero = []
rows_from level volume r (suc n) = two (level r) ++ (two (volume r) ++ rows_from level volume (suc r) n)

-- the frames of these parts, one behind the other
unfoldable pub frames_by : ℕ → ℕ → (ℕ → ℕ) → (ℕ → ℕ) → List ℕ → List ℕ
frames_by a t level volume [] = []
frames_by a t level volume (p ∷ ps) = frame_of (a ∷ (59 ∷ (t ∷ (p ∷ rows_from level volume (32 * (p - 1)) 32)))) ++ frames_by a t level volume ps

abbrev pub file : ℕ → ℕ → (ℕ → ℕ) → (ℕ → ℕ) → List ℕ
file a t level volume = frames_by a t level volume (11 ∷ 10 ∷ 9 ∷ 8 ∷ 7 ∷ 6 ∷ 5 ∷ 4 ∷ 3 ∷ 2 ∷ 1 ∷ [])

-- accepted: rows that rise to the last, in small letters; rows that rise to row 101 with one volume, the others repeating it. Refused 17: a byte behind the
-- last frame. Refused 20: each row twice, as stairs have it; a volume that goes on to rise behind the top level
abbrev pub files : List (List ℕ)
files =
    map (λ c. cond (within 65 70 c) (c + 32) c) (file 171 12 (λ r. r) (λ r. r))
    ∷ file 255 18 (λ r. min r 100) (λ r. 7)
    ∷ (file 1 12 (λ r. r) (λ r. r) ++ (10 ∷ []))
    ∷ file 1 12 (λ r. r / 2) (λ r. r / 2)
    ∷ file 1 12 (λ r. min r 100) (λ r. r)
    ∷ []

pub files-numbered : map file_number files ≡ 0 ∷ 0 ∷ 17 ∷ 20 ∷ 20 ∷ []
unfolding frames_by rows_from two file_number first_failing judged eleven_frames is_frame pieces frame_of frame_checks length_ok ends_ok inner body_of contents_of sum_ok
    within all is_digit value_of char_of chars_of bytes_of checksum_of sum_of slice contents_in address_in table_in sends parts_in contents_with rows_to table_sent is_one_table
    each_once is_table distinct among rises_then_stays rises_to row_rises same_row stays_from every some word_at
files-numbered = refl
