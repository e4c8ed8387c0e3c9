-- Serving a list one after the other, for any step: what holds of all that came so far and of the state is carried along. Assumes nothing.
use mathlib.Core.Path.{◌≡◌, refl, ap}
use mathlib.Core.List.{List, [], ◌∷◌, ◌++◌, append_assoc, append-nil}
use Prim.Native.Nat.{ℕ, zero, suc, ◌+◌, ◌<◌}
use native.Mathlib.Omega.{arith}
use lib.ListN.{length, get_or, take}
use Rattle.reorder.specs.Reorder.{outcomes, final}

module _ {S F O : Type 0} (step : S → F → O × S) where
  -- one list, then another
  pub outcomes-append : (s : S) (p q : List F) → outcomes step s (p ++ q) ≡ outcomes step s p ++ outcomes step (final step s p) q
  outcomes-append s [] q = refl
  outcomes-append s (f ∷ p) q = ap (λ (o : List O). (step s f).0 ∷ o) (outcomes-append (step s f).1 p q)

  pub final-append : (s : S) (p q : List F) → final step s (p ++ q) ≡ final step (final step s p) q
  final-append s [] q = refl
  final-append s (f ∷ p) q = final-append (step s f).1 p q

  -- Inv p s: s is the state after p; Out p o: o is the outcome of the last of p
  module _ (Inv : List F → S → Type 0) (Out : List F → O → Type 0)
      (each : (p : List F) (s : S) (f : F) → Inv p s → Out (p ++ (f ∷ [])) (step s f).0 × Inv (p ++ (f ∷ [])) (step s f).1) where
    pub left_after : (fs p : List F) (s : S) → Inv p s → Inv (p ++ fs) (final step s fs)
    left_after [] p s i = rw append-nil i
    left_after (f ∷ fs) p s i = rw append_assoc at (left_after fs (p ++ (f ∷ [])) (step s f).1 (each p s f i).1)

    pub told_at : (e : O) (fs p : List F) (s : S) → Inv p s → (k : ℕ) → k < length fs → Out (p ++ take (k + 1) fs) (get_or (outcomes step s fs) k e)
    told_at e [] p s i k h = absurd (omega arith)
    told_at e (f ∷ fs) p s i zero h = (each p s f i).0
    told_at e (f ∷ fs) p s i (suc k) h =
        let n : suc k + 1 ≡ suc (k + 1) = omega arith in
        rw n (rw append_assoc at (told_at e fs (p ++ (f ∷ [])) (step s f).1 (each p s f i).1 k (omega arith)))
