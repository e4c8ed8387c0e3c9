-- Writing one byte is laying one. Assumes nothing.
use Rattle.std.proofs.Common.{refl}
use Rattle.laws.proofs.Bytes.{lay_one}
use Rattle.output.proofs.cursor.Cursor.put.Goals as goal

pub returns : goal.returns
returns c = record { past = refl; laid = lay_one _ _ _ }
