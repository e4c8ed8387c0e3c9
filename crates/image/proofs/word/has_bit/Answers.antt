-- A shifted one is a power of two, and masking by it tests the bit. Assumes nothing.
use Rattle.laws.proofs.Bits.{one_shifted}
use Rattle.image.proofs.Masks.{mask_test}
use Rattle.image.proofs.word.has_bit.Goals as goal

pub returns : goal.returns
returns c = rw (one_shifted _ c.requires) (mask_test c.args.w c.args.k)
