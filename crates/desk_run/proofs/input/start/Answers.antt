-- The input is too long, and the line is laid; or the image is made fresh, and the run begins. Assumes nothing.
use native.Mathlib.Omega.{arith}
use Rattle.laws.specs.Bytes.{codes}
use Rattle.desk_run.specs.Desk.{too_long_line}
use Rattle.desk_run.proofs.Started.{fresh_done, starts_long, starts-short}
use Rattle.desk_run.proofs.input.start.Goals as goal

pub returns-then-input-gt-INPUT_MOST : goal.returns-then-input-gt-INPUT_MOST
unfolding too_long_line codes
returns-then-input-gt-INPUT_MOST c = starts_long _ _ _ c.requires _ _ (omega arith) c.put_all-end.ensures

pub unwrap-requires : goal.unwrap-requires
unwrap-requires c = fresh_done _ _ _ _ c.requires.full (λ z. absurd (omega arith)) c.fresh.ensures

pub returns : goal.returns
returns c = starts-short _ _ _ c.requires _ _ _ _ _ (omega arith) c.fresh.ensures c.run.ensures
