-- The same service, read place by place; and of a list that looks the same where a step looks at it. Assumes nothing.
use mathlib.Core.Path.{◌≡◌, refl, sym, ap, ap₂, ◌∙◌}
use mathlib.Core.List.{List, [], ◌∷◌, map}
use Prim.Native.Nat.{ℕ, zero, suc, ◌<◌}
use native.Mathlib.Nat.{not-suc-le-zero, le_of_suc-le-suc}
use native.Mathlib.Omega.{arith}
use lib.ListN.{length, get_or, get_or-map}
use Rattle.reorder.specs.Reorder.{outcomes, final, place, pick, SameService}

pub get_d_pick : {A : Type 0} (e : A) (l : List A) (o : List ℕ) (k : ℕ) → k < length o → get_or (pick e l o) k e ≡ get_or l (place o k) e
get_d_pick e l [] k h = absurd (not-suc-le-zero h)
get_d_pick e l (i ∷ o) zero h = refl
get_d_pick e l (i ∷ o) (suc k) h = get_d_pick e l o k (le_of_suc-le-suc h)

-- each of a list has an outcome
pub length-outcomes : {S F O : Type 0} (step : S → F → O × S) (s : S) (fs : List F) → length (outcomes step s fs) ≡ length fs
length-outcomes step s [] = refl
length-outcomes step s (f ∷ fs) = ap suc (length-outcomes step (step s f).1 fs)

-- what is served k-th has the outcome that it has at its place in the list
pub each_outcome : {S F O : Type 0} (step : S → F → O × S) (e : O) (s : S) (fs gs : List F) (o : List ℕ) → SameService step e s fs gs o
    → (k : ℕ) → k < length o → get_or (outcomes step s gs) k e ≡ get_or (outcomes step s fs) (place o k) e
each_outcome step e s fs gs o h k l = ap (λ x. get_or x k e) h.answers ∙ get_d_pick e (outcomes step s fs) o k l

-- ---- what a step does not look at

pick-map : {F L : Type 0} (look : F → L) (d : F) (fs : List F) (o : List ℕ) → map look (pick d fs o) ≡ pick (look d) (map look fs) o
pick-map look d fs [] = refl
pick-map look d fs (i ∷ o) = ap₂ ◌∷◌ (sym (get_or-map look fs i d)) (pick-map look d fs o)

module _ {S F O L : Type 0} (step : S → F → O × S) (Good : S → Type 0) (stays : (s : S) (f : F) → Good s → Good (step s f).1) (look : F → L)
    (same : (s : S) (f g : F) → Good s → look f ≡ look g → step s f ≡ step s g) where
  -- two lists that look alike, place by place, are served alike
  alike_served : (fs gs : List F) (s : S) → Good s → map look fs ≡ map look gs → (outcomes step s fs ≡ outcomes step s gs) × (final step s fs ≡ final step s gs)
  alike_served [] [] s good e = (refl, refl)
  alike_served [] (g ∷ gs) s good e = absurd (let z : ◌≡◌ {A = ℕ} 0 1 = cc in omega arith)
  alike_served (f ∷ fs) [] s good e = absurd (let z : ◌≡◌ {A = ℕ} 0 1 = cc in omega arith)
  alike_served (f ∷ fs) (g ∷ gs) s good e =
      let h : look f ≡ look g = cc in
      let t : map look fs ≡ map look gs = cc in
      let one = same s f g good h in
      let k = alike_served fs gs (step s f).1 (stays s f good) t in
      rw (← one) (ap (λ l. (step s f).0 ∷ l) k.0, k.1)

  -- so whatever looks like the reordered list is served as that is
  pub alike_service : (d : F) (e : O) (s : S) (fs gs : List F) (o : List ℕ) → Good s → map look gs ≡ pick (look d) (map look fs) o
      → SameService step e s fs (pick d fs o) o → SameService step e s fs gs o
  alike_service d e s fs gs o good h r =
      let k = alike_served gs (pick d fs o) s good (h ∙ sym (pick-map look d fs o)) in
      record { answers = k.0 ∙ r.answers; left = k.1 ∙ r.left }
