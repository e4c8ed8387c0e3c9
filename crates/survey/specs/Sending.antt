-- Sending a file to a block, and what is asked of the block afterwards (document 02, request 10). Assumes nothing.
use Rattle.std.specs.Prelude.{◌≡◌, List, [], ◌∷◌, ℕ, ◌<◌, length, get_or}
use Rattle.laws.specs.Checks.{check, judged}
use Rattle.image.specs.Version.{current}
use Rattle.image.specs.Held.{held_parts}
use Rattle.order.specs.Serving.{Call, nothing}
use Rattle.tables.specs.Quantity.{Quantity, unanswered, covers, answered, quantity_at}
use Rattle.survey.specs.File.{contents_in, table_in, table_sent}
use Rattle.survey.specs.Described.{frame_at}

-- calls that send a file's frames and no other: every frame comes, in any order, and may come again
pub record Sends (s : List ℕ) (xs : List Call) : Type 0 where
  pub only : (i : ℕ) → i < length xs → (k : ℕ) × (k < 11) × ((get_or xs i nothing).frame ≡ frame_at s k)
  pub each : (k : ℕ) → k < 11 → (i : ℕ) × (i < length xs) × ((get_or xs i nothing).frame ≡ frame_at s k)

-- what the rows of a table alone say of a level: 14 where it is below row 1 or above row 352, and else their volume
unfoldable pub answer_by : List ℕ → ℕ → Quantity
answer_by rows x = judged unanswered (check 14 (covers rows x) ∷ []) (answered rows x)

-- of calls, the numbers and replies that they were given, and the image that they left: each was served, the block holds all eleven parts of the file's table,
-- and answers every question about it by the file's own rows
pub record Loaded (s : List ℕ) (xs : List Call) (rs : List (ℕ × List ℕ)) (m : List ℕ) : Type 0 where
  pub all-answered : length rs ≡ length xs
  pub served : (i : ℕ) → i < length rs → (get_or rs i (0, [])).0 ≡ 0
  pub held : held_parts current m (table_in (contents_in s)) ≡ record { number = 0; parts = 11; missing = 0 }
  pub answers : (x : ℕ) → quantity_at current m (table_in (contents_in s)) x ≡ answer_by (table_sent (contents_in s)) x
