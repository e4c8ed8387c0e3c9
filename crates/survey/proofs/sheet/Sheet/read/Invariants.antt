-- The loop keeps what is still to be read of the file. Assumes nothing.
use Prim.Native.Nat.{◌+◌, ◌≤◌}
use lib.ListN.{length}
use Rattle.survey.proofs.Reading.{Left}
use Rattle.survey.proofs.sheet.Sheet.read.Given as goal

abbrev pub invariant-loop-piece : goal.invariant-loop-piece
invariant-loop-piece l =
    (l.frames + length l.piece-iterator.rest.now ≤ length l.file)
    × Left l.file l.fn.self l.piece-iterator.rest.now l.frames l.self
