-- The part behind the cursor is the source. Assumes nothing.
use borrow.Author.Rules.{rules}
use Rattle.output.proofs.Laying.{laid_part}
use Rattle.output.proofs.cursor.Cursor.put_all.Goals as goal

pub returns : goal.returns
returns c = search (rules, laid_part)
