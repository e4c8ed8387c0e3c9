-- The table reads every character as the definitions do: one test over all 256, which antt computes. Assumes nothing.
use mathlib.Core.Path.{refl}
use Rattle.laws.specs.Checks.{within, every}
use Rattle.frame.specs.Digits.{is_digit, value_of}
use Rattle.frame.specs.Read.{reads_at, reads_digits}
use Rattle.frame.proofs.digits.decode.Goals as goal

pub decode_by-requires : goal.decode_by-requires
unfolding reads_digits reads_at every is_digit within value_of
decode_by-requires c = (c.requires.0, c.requires.1, refl)
