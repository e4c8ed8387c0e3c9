-- The promise of the checker is an equation, and by it a number is given exactly where it says so. Assumes nothing.
use Rattle.std.proofs.Common.{sym, ◌∙◌}
use Rattle.survey.specs.File.{file_number}
use Rattle.survey.proofs.Described.{number_exactly}
use Rattle.vectors.proofs.images.number_of.Goals as goal

pub returns : goal.returns
unfolding file_number
returns c = let e = c.number.ensures ∙ c.check_file.ensures in record { value = e; says = (number_exactly c.args.bytes.now _).0 (sym e) }
