-- The chain adds up as the library's sum does, which is the definition's. Assumes nothing.
use mathlib.Core.Path.{◌≡◌, refl}
use mathlib.Core.List.{List, [], ◌∷◌}
use Prim.Native.Nat.{ℕ, ◌+◌}
use native.Mathlib.Omega.{arith}
use Rattle.std.proofs.Common.{rules}
use Rattle.std.specs.List.{fold, sum}
use Rattle.laws.specs.Bytes.{sum_of}
use Rattle.laws.proofs.Sums.{sum_first, sum_empty}
use Rattle.storing.proofs.signature.sum.Goals as goal

added : (l : List ℕ) (n : ℕ) → fold (λ a x. a + x) n l ≡ n + sum_of l
added [] n = omega (arith, sum_empty [] refl)
added (b ∷ l) n = omega (arith, sum_first (b ∷ l) l b refl, added l (n + b))

pub returns : goal.returns
returns c =
    let total : c.sum-total.result ≡ sum c.args.item.now = search rules in
    omega (arith, added c.args.item.now 0)
