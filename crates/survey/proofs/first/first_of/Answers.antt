-- The first piece is the file's first frame, if it is one, and its bytes 1 and 3 are read. Assumes nothing.
use mathlib.Core.Path.{◌≡◌, refl, sym}
use mathlib.Core.List.{◌∷◌}
use native.Mathlib.Omega.{arith}
use borrow.Author.Rules.{rules}
use Rattle.std.specs.Prelude.{Ok}
use Rattle.text.specs.Cut.{pieces}
use Rattle.output.specs.Output.{answer_of}
use Rattle.frame.specs.Read.{ReadInto}
use Rattle.frame.proofs.Passing.{read_long}
use Rattle.survey.proofs.Cutting.{cut_next}
use Rattle.survey.proofs.Reading.{no_frame, contents_read, opens, opens_empty, opens_none}
use Rattle.survey.proofs.first.first_of.Goals.{In_ok-piece, In_ok-n}
use Rattle.survey.proofs.first.first_of.Goals as goal

cut : (c : In_ok-piece) → pieces c.args.file.now ≡ c.in_ok-piece.piece.now ∷ pieces c.next.new.self.rest.now
cut c = rw c.split_inclusive.ensures.rest at (cut_next _ _ _ _ _ c.in_ok-piece.ensures.steps (λ a v f' k. search rules))

read : (c : In_ok-n) → ReadInto c.in_ok-piece.piece.now (answer_of (Ok c.in_ok-n.n)) c.read_into.new.work
read c = contents_read _ c.read_into.ensures c.in_ok-n.ensures.value

pub returns-in_err-piece : goal.returns-in_err-piece
returns-in_err-piece c =
    rw c.from_residual.ensures (opens_empty c.args.file.now (rw c.split_inclusive.ensures.rest at c.in_err-piece.ensures.steps.0))

pub returns-in_err-n : goal.returns-in_err-n
returns-in_err-n c =
    rw c.from_residual-in_err-n.ensures
    (opens_none c.args.file.now _ _ (cut (goal.at.returns-in_err-n c).In_ok-piece) (no_frame _ c.read_into.ensures c.in_err-n.ensures.value))

pub slice_bounds-work-end : goal.slice_bounds-work-end
slice_bounds-work-end c = omega (arith, read_long (read c) refl)

pub slice_bounds-contents-end : goal.slice_bounds-contents-end
slice_bounds-contents-end c = sym (read_long (read (goal.at.slice_bounds-contents-end c).In_ok-n) refl).2

pub returns : goal.returns
returns c =
    let p = goal.at.returns c in
    opens (read p.In_ok-n) _ _ (cut p.In_ok-piece) _ (search rules) (search rules)
