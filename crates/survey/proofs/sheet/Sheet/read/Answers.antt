-- The loop keeps what is still to be read of the file. Assumes nothing.
use mathlib.Core.Path.{◌≡◌, ap}
use mathlib.Core.List.{◌∷◌}
use Prim.Native.Nat.{◌+◌, ◌≤◌}
use native.Mathlib.Omega.{arith}
use lib.ListN.{length, length-append}
use borrow.Author.Rules.{rules}
use Rattle.text.specs.Cut.{pieces}
use Rattle.survey.proofs.Cutting.{cut_next}
use Rattle.survey.proofs.Reading.{left-all, left_less, left_broken, left-none}
use Rattle.survey.proofs.sheet.Sheet.read.Goals.{In-Some}
use Rattle.survey.proofs.sheet.Sheet.read.Goals as goal

-- the piece that the iterator gives is the first of what was left
cut : (c : In-Some) → pieces c.loop-piece.piece-iterator.rest.now ≡ c.in-Some.piece.now ∷ pieces c.next.new.self.rest.now
cut c = cut_next _ _ _ _ _ c.in-Some.ensures.steps (λ a v f' k. search rules)

-- and it is not empty
shorter : (c : In-Some) → c.loop-piece.frames + 1 + length c.next.new.self.rest.now ≤ length c.args.file.now
shorter c =
    let (joined, (i, long, found), some) = c.in-Some.ensures.steps in
    let h = c.loop-piece.invariant.0 in
    omega (arith, long, simp length-append at (ap length joined))

pub loop-piece-init : goal.loop-piece-init
loop-piece-init c =
    rw (c.into_iter-piece-iterator.ensures.into_iter_gives, c.split_inclusive-piece-items.ensures.rest) (omega arith, left-all _ _)

pub returns-in_err-take : goal.returns-in_err-take
returns-in_err-take c =
    rw c.from_residual.ensures
    (left_broken _ _ c.loop-piece.invariant.1 _ (cut (goal.at.returns-in_err-take c).In-Some) c.in_err-take.ensures)

pub overflow_add-frames : goal.overflow_add-frames
overflow_add-frames c = let b = shorter (goal.at.overflow_add-frames c).In-Some in search rules

pub loop-piece-preserved : goal.loop-piece-preserved
loop-piece-preserved c =
    let p = (goal.at.loop-piece-preserved c).In-Some in
    (omega (arith, shorter p), left_less _ _ c.loop-piece.invariant.1 _ (cut p) _ c.in_ok-take.ensures)

pub returns : goal.returns
returns c = left-none _ _ c.loop-piece.invariant.1 c.in-None.ensures.steps.0
