-- The part behind the cursor is zeros. Assumes nothing.
use borrow.Author.Rules.{rules}
use Rattle.laws.specs.Bytes.{zeros}
use Rattle.output.proofs.Laying.{laid_part}
use Rattle.output.proofs.cursor.Cursor.put_zeros.Goals as goal

pub returns : goal.returns
unfolding zeros
returns c = search (rules, laid_part)
