-- The cell lies in the image and so does the word; the word is amended by the sums of what is there and of what comes. Assumes nothing.
use mathlib.Core.Path.{sym}
use Rattle.storing.proofs.Storing.{amended_is}
use Rattle.storing.proofs.stored.amend.Goals as goal

pub returns-in-Some : goal.returns-in-Some
returns-in-Some c =
    amended_is c.args.cell c.args.m.now c.args.bytes.now (sym c.in-Some.ensures)
    c.offset-start.ensures c.size-size.ensures c.sum-left.ensures c.sum-came.ensures c.word_at-w.ensures c.amended.ensures
    c.put_word.ensures
