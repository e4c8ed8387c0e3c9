-- What a list leaves of a thing that some of its members write: what the last of these wrote, or what was there. For any step; a reordering that
-- keeps the order of those that write it, and answers each alike, has the same last. Assumes nothing.
use mathlib.Core.Path.{◌≡◌, sym, ap, subst₂, ◌∙◌}
use mathlib.Core.Logic.{◌⊎◌, inl, inr}
use mathlib.Core.List.{List, [], ◌∷◌, map}
use Prim.Native.Nat.{ℕ, zero, suc, ◌<◌}
use native.Mathlib.Nat.{not-suc-le-zero, le_of_suc-le-suc}
use native.Mathlib.Decide.{dec_lt}
use native.Mathlib.Omega.{arith}
use lib.ListN.{length, get_or, get_or-map, length-map}
use Rattle.reorder.specs.Reorder.{final, place, pick, Reorders, KeepsClashes, SameService}
use Rattle.reorder.specs.Last.{WroteAt, NoneWrote, LastWrote}
use Rattle.reorder.proofs.Readings.{get_d_pick, each_outcome}

module _ {S F O : Type 0} (step : S → F → O × S) (Wrote : F → O → Type 0) (d : F) (e : O) where
  -- ---- what is left

  -- Kept s t: t has the thing as s has it. Holds f s: s has it as f writes it
  module _ (Kept : S → S → Type 0) (Holds : F → S → Type 0) (self : (s : S) → Kept s s) (on : (s t u : S) → Kept s t → Kept t u → Kept s u)
      (Holds-on : (f : F) (s t : S) → Holds f s → Kept s t → Holds f t) (hit : (s : S) (f : F) → Wrote f (step s f).0 → Holds f (step s f).1)
      (miss : (s : S) (f : F) → ¬ Wrote f (step s f).0 → Kept s (step s f).1) where
    pub none_wrote_keeps : (fs : List F) (s : S) → NoneWrote step Wrote d e s fs → Kept s (final step s fs)
    none_wrote_keeps [] s h = self s
    none_wrote_keeps (f ∷ fs) s h =
        on s (step s f).1 (final step (step s f).1 fs) (miss s f (h 0 (omega arith))) (none_wrote_keeps fs (step s f).1 (λ k l. h (suc k) (omega arith)))

    pub last_wrote_holds : (fs : List F) (k : ℕ) (s : S) → LastWrote step Wrote d e s fs k → Holds (get_or fs k d) (final step s fs)
    last_wrote_holds [] k s h = absurd (not-suc-le-zero h.inside)
    last_wrote_holds (f ∷ fs) zero s h =
        Holds-on f (step s f).1 (final step (step s f).1 fs) (hit s f h.wrote)
        (none_wrote_keeps fs (step s f).1 (λ n l. h.none_later (suc n) (omega arith) (omega arith)))
    last_wrote_holds (f ∷ fs) (suc k) s h =
        last_wrote_holds fs k (step s f).1
        (record { inside = le_of_suc-le-suc h.inside; wrote = h.wrote; none_later = λ n l i. h.none_later (suc n) (omega arith) (omega arith) })

  -- ---- there is one last, or none that wrote

  pub last_once : (s : S) (fs : List F) (j k : ℕ) → LastWrote step Wrote d e s fs j → LastWrote step Wrote d e s fs k → j ≡ k
  last_once s fs j k a b = go (dec_lt j k) (dec_lt k j)
    where
      go : Dec (j < k) → Dec (k < j) → j ≡ k
      go (yes l) r = absurd (a.none_later k l b.inside b.wrote)
      go (no l) (yes r) = absurd (b.none_later j r a.inside a.wrote)
      go (no l) (no r) = omega arith

  module _ (decided : (s : S) (f : F) → Dec (Wrote f (step s f).0)) where
    pub none_or_last : (fs : List F) (s : S) → NoneWrote step Wrote d e s fs ⊎ ((k : ℕ) × LastWrote step Wrote d e s fs k)
    none_or_last [] s = inl (λ k l. absurd (not-suc-le-zero l))
    none_or_last (f ∷ fs) s = go (none_or_last fs (step s f).1) (decided s f)
      where
        first : NoneWrote step Wrote d e (step s f).1 fs → (n : ℕ) → 0 < n → n < length (f ∷ fs) → ¬ WroteAt step Wrote d e s (f ∷ fs) n
        first u zero l n = absurd (not-suc-le-zero l)
        first u (suc n) l i = u n (le_of_suc-le-suc i)

        none : NoneWrote step Wrote d e (step s f).1 fs → ¬ Wrote f (step s f).0 → NoneWrote step Wrote d e s (f ∷ fs)
        none u w zero l = w
        none u w (suc n) l = u n (le_of_suc-le-suc l)

        later : (k : ℕ) → LastWrote step Wrote d e (step s f).1 fs k → (n : ℕ) → suc k < n → n < length (f ∷ fs) → ¬ WroteAt step Wrote d e s (f ∷ fs) n
        later k h zero l i = absurd (not-suc-le-zero l)
        later k h (suc n) l i = h.none_later n (le_of_suc-le-suc l) (le_of_suc-le-suc i)

        go : NoneWrote step Wrote d e (step s f).1 fs ⊎ ((k : ℕ) × LastWrote step Wrote d e (step s f).1 fs k) → Dec (Wrote f (step s f).0)
            → NoneWrote step Wrote d e s (f ∷ fs) ⊎ ((k : ℕ) × LastWrote step Wrote d e s (f ∷ fs) k)
        go (inr (k, h)) w = inr (suc k, record { inside = omega (arith, h.inside); wrote = h.wrote; none_later = later k h })
        go (inl u) (yes w) = inr (0, record { inside = omega arith; wrote = w; none_later = first u })
        go (inl u) (no w) = inl (none u w)

-- ---- in another order

-- what is looked at of each tells, with its answer, whether it wrote; any two that wrote clash
module _ {S F O L : Type 0} (step : S → F → O × S) (look : F → L) (Wrote : L → O → Type 0) (d : F) (e : O) (Clash : F → F → Type 0)
    (s : S) (fs gs : List F) (o : List ℕ) (re : Reorders (length fs) o) (same : SameService step e s fs gs o)
    (looks : map look gs ≡ pick (look d) (map look fs) o) (keeps : KeepsClashes Clash d fs o) where
  abbrev Did : F → O → Type 0
  Did f x = Wrote (look f) x

  long : length gs ≡ length o
  long = sym (length-map gs look) ∙ ap length looks ∙ length-map o (λ i. get_or (map look fs) i (look d))

  look_same : (k : ℕ) → k < length o → look (get_or gs k d) ≡ look (get_or fs (place o k) d)
  look_same k l =
      sym (get_or-map look gs k d) ∙ ap (λ (x : List L). get_or x k (look d)) looks ∙ get_d_pick (look d) (map look fs) o k l
      ∙ get_or-map look fs (place o k) d

  there : (k : ℕ) → k < length o → WroteAt step Did d e s gs k → WroteAt step Did d e s fs (place o k)
  there k l w = subst₂ Wrote (look_same k l) (each_outcome step e s fs gs o same k l) w

  back : (k : ℕ) → k < length o → WroteAt step Did d e s fs (place o k) → WroteAt step Did d e s gs k
  back k l w = subst₂ Wrote (sym (look_same k l)) (sym (each_outcome step e s fs gs o same k l)) w

  -- the one that is the last to write in the list is the last in the other order too
  pub last_stays_last : ((i j : ℕ) → i < length fs → j < length fs → WroteAt step Did d e s fs i → WroteAt step Did d e s fs j
      → Clash (get_or fs i d) (get_or fs j d))
      → (k : ℕ) → k < length o → LastWrote step Did d e s fs (place o k) → LastWrote step Did d e s gs k
  last_stays_last clashes k l h =
      record { inside = omega (arith, long); wrote = back k l h.wrote; none_later = λ n lt i w. later n lt (omega (arith, long)) w }
    where
      later : (n : ℕ) → k < n → n < length o → ¬ WroteAt step Did d e s gs n
      later n lt i w =
          let v = there n i w in
          h.none_later (place o n) (keeps k n lt i (clashes (place o k) (place o n) h.inside (re.inside n i) h.wrote v)) (re.inside n i) v
