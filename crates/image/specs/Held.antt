-- Which parts of a table are held (document 01, "The image", and its word's bits). Assumes nothing.
use Rattle.std.specs.Prelude.{List, [], ◌∷◌, cond, ℕ, zero, suc, ◌-◌, eqb, Result, Ok, Err, unwrap_or}
use Rattle.laws.specs.Checks.{Check, check, judged}
use Rattle.laws.specs.Bits.{bit, ones_in}
use Rattle.output.specs.declared.refusal.Refusal.{Refusal}
use Rattle.output.specs.Refusal.{number_of}
use Rattle.image.specs.declared.parts.Held.{Held}
use Rattle.image.specs.declared.version.Version.{Version}
use Rattle.image.specs.Cell.{is_table, table_index}
use Rattle.image.specs.Words.{table_word}
use Rattle.image.specs.Usable.{usable}

-- the least of the n parts from part p on whose bit, p - 1, is 0; 0 if there is none
unfoldable pub missing_from : ℕ → ℕ → ℕ → ℕ
missing_from w p zero = 0
missing_from w p (suc n) = cond (eqb (bit w (p - 1)) 0) p (missing_from w (suc p) n)

-- of a table's eleven
unfoldable pub lowest_missing : ℕ → ℕ
lowest_missing w = missing_from w 1 11

-- what the question reports: a number, how many parts are held, and the lowest that is missing, 0 if none is
pub record HeldAnswer : Type 0 where
  pub number : ℕ
  pub parts : ℕ
  pub missing : ℕ

unfoldable pub held_of : ℕ → HeldAnswer
held_of w = record { number = 0; parts = ones_in 11 w; missing = lowest_missing w }

-- a refusal reports two zeros
abbrev pub unheld : ℕ → HeldAnswer
unheld n = record { number = n; parts = 0; missing = 0 }

abbrev pub held_checks : Version → List ℕ → ℕ → List Check
held_checks v m t = check 1 (usable v m) ∷ (check 10 (is_table t) ∷ [])

unfoldable pub held_parts : Version → List ℕ → ℕ → HeldAnswer
held_parts v m t = judged unheld (held_checks v m t) (held_of (table_word m (table_index t)))

-- of what the code returns
abbrev pub held_in : Result Held Refusal → HeldAnswer
held_in (Ok h) = record { number = 0; parts = h.parts; missing = unwrap_or h.missing 0 }
held_in (Err e) = unheld (number_of e)
