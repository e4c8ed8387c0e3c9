-- A part's bit, as code reads it back by a mask. Assumes nothing.
use mathlib.Core.Path.{◌≡◌, ap, ◌∙◌}
use mathlib.Core.Logic.{⊎_elim}
use mathlib.Core.Bool.{not}
use Prim.Native.Nat.{ℕ, ◌*◌, ◌^◌}
use native.Mathlib.Nat.{zero-mul, one-mul}
use native.Mathlib.Omega.{arith}
use lib.Bits.{bit_and}
use lib.Dec.{eqb}
use lib.Pow.{pow_pos}
use borrow.Author.Tests.{ne_eqb}
use Rattle.laws.specs.Bits.{bit}
use Rattle.laws.proofs.Bits.{bit_cases, mask_is}

pub mask_test : (w k : ℕ) → not (eqb (bit_and w (2 ^ k)) 0) ≡ eqb (bit w k) 1
mask_test w k = ap (λ (x : ℕ). not (eqb x 0)) (mask_is w k) ∙ ⊎_elim off on (bit_cases w k)
  where
    off : bit w k ≡ 0 → not (eqb (bit w k * 2 ^ k) 0) ≡ eqb (bit w k) 1
    off e = rw (e, zero-mul)

    on : bit w k ≡ 1 → not (eqb (bit w k * 2 ^ k) 0) ≡ eqb (bit w k) 1
    on e = rw (e, one-mul, ne_eqb (2 ^ k) 0 (λ z. let b : ⊥ = omega (arith, pow_pos k) in b))
