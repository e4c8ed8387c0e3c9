-- That a list of places is a reordering, as a test, so that on a closed list it is computed. Assumes nothing.
use mathlib.Core.Path.{◌≡◌, ap}
use mathlib.Core.Logic.{◌≢◌}
use mathlib.Core.List.{List}
use mathlib.Core.Bool.{Bool, true, ◌&&◌}
use Prim.Native.Nat.{ℕ, ◌<◌}
use native.Mathlib.Omega.{arith}
use lib.ListN.{length}
use lib.Dec.{eqb, ltb}
use borrow.Author.Tests.{eqb-true, ltb-true}
use Rattle.laws.specs.Checks.{every}
use Rattle.laws.proofs.Tests.{and_both, every_at}
use Rattle.reorder.specs.Reorder.{place, Reorders}

-- every entry of o is a place of q, which there has the number of the entry
unfoldable pub undoes : List ℕ → List ℕ → Bool
undoes q o = every (λ k. ltb (place o k) (length q) && eqb (place q (place o k)) k) (length o)

undone : (q o : List ℕ) → undoes q o ≡ true → (k : ℕ) → k < length o → (place o k < length q) × (place q (place o k) ≡ k)
unfolding undoes
undone q o h k l =
    let p = and_both (ltb (place o k) (length q)) _ (every_at (λ k. ltb (place o k) (length q) && eqb (place q (place o k)) k) (length o) k h l) in
    (ltb-true _ _ p.0, eqb-true _ _ p.1)

pub reorders_of : (q o : List ℕ) → undoes q o ≡ true → undoes o q ≡ true → Reorders (length q) o
reorders_of q o h g = record { inside = λ k l. (undone q o h k l).0; once = once; all = λ i l. let p = undone o q g i l in (place q i, p.0, p.1) }
  where
    once : (k m : ℕ) → k < m → m < length o → place o k ≢ place o m
    once k m lt l e =
        let a : place q (place o k) ≡ k = (undone q o h k (omega arith)).1 in
        let b : place q (place o m) ≡ m = (undone q o h m l).1 in
        let c : place q (place o k) ≡ place q (place o m) = ap (place q) e in
        omega arith
