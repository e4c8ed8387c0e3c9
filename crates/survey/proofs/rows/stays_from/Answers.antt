-- Each later row is compared with row n, as the definition has it. Assumes nothing.
use mathlib.Core.Path.{◌≡◌}
use Prim.Native.Nat.{◌+◌}
use native.Mathlib.Omega.{arith}
use borrow.Author.Rules.{rules}
use Rattle.tables.specs.Rows.{level, volume}
use Rattle.tables.proofs.Walks.{every_from_all}
use Rattle.survey.specs.Rows.{same_row, stays_from}
use Rattle.survey.proofs.rows.stays_from.Goals as goal

pub returns : goal.returns
unfolding stays_from same_row
returns c =
    let s = c.args.s.now in
    let n = c.args.n in
    every_from_all n 351 _ _ _ (λ i. same_row (level s) (volume s) n (i + 1)) _ (λ k. let e : n + k + 1 ≡ n + 1 + k = omega arith in rw e) c.all.ensures.ran
    (λ x v q k. search rules)
