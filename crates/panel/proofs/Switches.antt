-- Which numbers of the host's seal the block. Assumes nothing.
use mathlib.Core.Path.{◌≡◌, refl}
use mathlib.Core.Logic.{◌≢◌}
use Prim.Native.Nat.{ℕ, zero, suc, ◌^◌}
use Rattle.rules.specs.declared.switch.Switch.TheVariants.{Unsealed, Sealed}
use Rattle.panel.specs.Panel.{switch_of}

pub zero_unseals : (n : ℕ) → n ≡ 0 → switch_of n ≡ Unsealed
unfolding switch_of
zero_unseals n z = rw z

pub others_seal : (n : ℕ) → n ≢ 0 → switch_of n ≡ Sealed
unfolding switch_of
others_seal zero z = absurd (z refl)
others_seal (suc n) z = refl

-- also one that has its lowest bit clear, and one of which 32 bits keep nothing
pub even_numbers_seal : (switch_of 2 ≡ Sealed) × (switch_of (2 ^ 32) ≡ Sealed)
unfolding switch_of
even_numbers_seal = (refl, refl)
