-- The first row from which the next does not rise, or the last. Assumes nothing.
use borrow.Author.Rules.{rules}
use Rattle.tables.specs.Rows.{level, volume}
use Rattle.tables.proofs.Walks.{every_to_found}
use Rattle.survey.specs.Rows.{row_rises}
use Rattle.survey.proofs.rows.last_rising.Goals as goal

pub returns : goal.returns
unfolding row_rises
returns c =
    let s = c.args.s.now in
    let (a, b, d) = every_to_found 351 _ _ _ (row_rises (level s) (volume s)) c.find.ensures.ran (λ x v q k. search rules) in
    rw c.unwrap_or.ensures (record { most = a; rising = b; no_further = d })
