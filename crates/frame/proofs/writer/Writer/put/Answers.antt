-- What was laid, and the total with the byte. Assumes nothing.
use borrow.Author.Rules.{rules}
use Rattle.laws.specs.Bytes.{sum_of}
use Rattle.frame.proofs.writer.Writer.put.Goals as goal

pub returns : goal.returns
unfolding sum_of
returns c = search rules
