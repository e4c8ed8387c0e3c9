-- What a body is found to be, by the documents' numbers. Assumes nothing.
use Rattle.std.specs.Prelude.{ℕ}
use Rattle.image.specs.declared.cell.Cell.{Cell}
use Rattle.rules.specs.declared.rule.Act.{Act}

-- refused by a number; or accepted: how many data bytes the reply echoes, what is done, and with which stretch
pub data Verdict : Type 0 where
  Refused : ℕ → Verdict
  Accepted : ℕ → Act → Cell → Verdict
