-- A piece that was read is a frame, and its contents are added. Assumes nothing.
use mathlib.Core.Path.{refl, sym}
use native.Mathlib.Omega.{arith}
use Rattle.std.specs.Prelude.{Ok}
use Rattle.output.specs.Output.{answer_of}
use Rattle.frame.specs.Read.{ReadInto}
use Rattle.frame.proofs.Passing.{read_long}
use Rattle.survey.proofs.Reading.{no_frame, contents_read, takes_frame}
use Rattle.survey.proofs.sheet.Sheet.take.Goals.{In_ok-n}
use Rattle.survey.proofs.sheet.Sheet.take.Goals as goal

read : (c : In_ok-n) → ReadInto c.args.piece.now (answer_of (Ok c.in_ok-n.n)) c.read_into.new.work
read c = contents_read _ c.read_into.ensures c.in_ok-n.ensures.value

pub returns-in_err-n : goal.returns-in_err-n
returns-in_err-n c = rw c.from_residual.ensures (no_frame _ c.read_into.ensures c.in_err-n.ensures.value)

pub slice_bounds-work-end : goal.slice_bounds-work-end
slice_bounds-work-end c = omega (arith, read_long (read (goal.at.slice_bounds-work-end c).In_ok-n) refl)

pub slice_bounds-add-end : goal.slice_bounds-add-end
slice_bounds-add-end c = sym (read_long (read (goal.at.slice_bounds-add-end c).In_ok-n) refl).2

pub returns : goal.returns
returns c = takes_frame (read (goal.at.returns c).In_ok-n) _ _ c.add.ensures
