-- Reading a frame, as code does it: digits by a table, and a whole frame into a work array. Assumes nothing.
use Rattle.std.specs.Prelude.{◌≡◌, List, Bool, true, cond, Option, Some, None, ℕ, ◌%◌, length, get_or, take, leb, eqb}
use Rattle.laws.specs.Bytes.{lay, sum_of}
use Rattle.laws.specs.Checks.{every, judged}
use Rattle.output.specs.Output.{Answer}
use Rattle.frame.specs.Digits.{is_digit, all_digits, value_of, bytes_of}
use Rattle.frame.specs.Apart.{contents_of, frame_checks}

-- a table has a digit's value at the digit, and 16 or more at every other byte
unfoldable pub reads_at : List ℕ → ℕ → Bool
reads_at t c = cond (is_digit c) (eqb (get_or t c 0) (value_of c)) (leb 16 (get_or t c 0))

unfoldable pub reads_digits : List ℕ → Bool
reads_digits t = every (reads_at t) 256

-- characters were read: the total of their bytes, carries dropped, if all are digits, and else none; where they are, the bytes lie over the first of a
-- work array, and else nothing is said of it
pub record Decoded (s old : List ℕ) (t : Option ℕ) (new : List ℕ) : Type 0 where
  pub total_is : t ≡ cond (all_digits s) (Some (sum_of (bytes_of s) % 256)) None
  pub laid : all_digits s ≡ true → new ≡ lay old 0 (bytes_of s)

-- a frame was read: the number of its first check that fails, with length 0; where none does, 0 and how long the contents are, which then stand at the
-- start of the work array. Nothing is said of the array behind them, and of a refused frame's nothing at all
pub record ReadInto (f : List ℕ) (r : Answer) (work : List ℕ) : Type 0 where
  pub answer_is : r ≡ judged (λ n. record { number = n; len = 0 }) (frame_checks f) (record { number = 0; len = length (contents_of f) })
  pub contents_are : r.number ≡ 0 → take r.len work ≡ contents_of f
