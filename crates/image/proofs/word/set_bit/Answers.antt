-- A shifted one is a power of two, and or-ing it in sets the bit. Assumes nothing.
use Rattle.laws.proofs.Bits.{one_shifted, or_is}
use Rattle.image.proofs.word.set_bit.Goals as goal

pub returns : goal.returns
returns c = rw (one_shifted _ c.requires) (or_is _ _)
