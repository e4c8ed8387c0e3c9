-- Lists of places, and that the least place may be served first: what the theorem on reorderings rests on. Assumes nothing.
use mathlib.Core.Path.{◌≡◌, refl, sym, ◌∙◌, ap₂, subst}
use mathlib.Core.Logic.{◌≢◌, ◌⊎◌, inl, inr}
use mathlib.Core.List.Memᴰ
use mathlib.Core.List.{List, [], ◌∷◌, map, Memᴰ}
use Prim.Native.Nat.{ℕ, zero, suc, ◌+◌, ◌≤◌, ◌<◌}
use native.Mathlib.Nat.{not-suc-le-zero, le_of_suc-le-suc, suc-le-suc_iff}
use native.Mathlib.Omega.{arith}
use lib.ListN.{length, get_or}
use Rattle.reorder.specs.Reorder.{outcomes, final, Commutes, place}

-- every entry stands in R to each later one
abbrev pub Pairs : (ℕ → ℕ → Type 0) → List ℕ → Type 0
Pairs R [] = Unit {0}
Pairs R (x ∷ l) = ((y : ℕ) → Memᴰ y l → R x y) × Pairs R l

-- k, k + 1, .. : m places
abbrev pub from : ℕ → ℕ → List ℕ
from k zero = []
from k (suc m) = k ∷ from (suc k) m

-- the list without that entry
abbrev rest : {x : ℕ} {q : List ℕ} → Memᴰ x q → List ℕ
rest (Memᴰ.head {xs} e) = xs
rest (Memᴰ.tail {x = y} m) = y ∷ rest m

rest_mem : {x y : ℕ} {q : List ℕ} (m : Memᴰ x q) → Memᴰ y (rest m) → Memᴰ y q
rest_mem (Memᴰ.head e) h = Memᴰ.tail h
rest_mem {y} (Memᴰ.tail {x = z} {xs} m) h = go (λ k. rest_mem m k) (Memᴰ.cases_cons h)
  where
    go : (Memᴰ y (rest m) → Memᴰ y xs) → (y ≡ z) ⊎ Memᴰ y (rest m) → Memᴰ y (z ∷ xs)
    go ih (inl e) = Memᴰ.head e
    go ih (inr k) = Memᴰ.tail (ih k)

mem_rest : {x y : ℕ} {q : List ℕ} (m : Memᴰ x q) → Memᴰ y q → y ≢ x → Memᴰ y (rest m)
mem_rest {x} {y} (Memᴰ.head {x = z} {xs} e) h ne = go (Memᴰ.cases_cons h)
  where
    go : (y ≡ z) ⊎ Memᴰ y xs → Memᴰ y xs
    go (inl e') = absurd (ne (e' ∙ sym e))
    go (inr k) = k
mem_rest {x} {y} (Memᴰ.tail {x = z} {xs} m) h ne = go (λ k. mem_rest m k ne) (Memᴰ.cases_cons h)
  where
    go : (Memᴰ y xs → Memᴰ y (rest m)) → (y ≡ z) ⊎ Memᴰ y xs → Memᴰ y (z ∷ rest m)
    go ih (inl e) = Memᴰ.head e
    go ih (inr k) = Memᴰ.tail (ih k)

module _ (R : ℕ → ℕ → Type 0) where
  rest_pairs : {x : ℕ} {q : List ℕ} (m : Memᴰ x q) → Pairs R q → Pairs R (rest m)
  rest_pairs (Memᴰ.head e) p = p.1
  rest_pairs (Memᴰ.tail m) p = (λ y h. p.0 y (rest_mem m h), rest_pairs m p.1)

  rest-other : ((i j : ℕ) → R i j → i ≢ j) → {x y : ℕ} {q : List ℕ} (m : Memᴰ x q) → Pairs R q → Memᴰ y (rest m) → y ≢ x
  rest-other ne {x} {y} (Memᴰ.head {x = z} e) p h e' = ne z y (p.0 y h) (sym e ∙ sym e')
  rest-other ne {x} {y} (Memᴰ.tail {x = z} m) p h e' = go (λ k. rest-other ne m p.1 k e') (Memᴰ.cases_cons h)
    where
      go : (Memᴰ y (rest m) → ⊥) → (y ≡ z) ⊎ Memᴰ y (rest m) → ⊥
      go ih (inl e) = ne z x (p.0 x m) (sym e ∙ e')
      go ih (inr k) = ih k

-- entries by their number, and by membership
pub mem_place : {y : ℕ} {o : List ℕ} → Memᴰ y o → (k : ℕ) × (k < length o) × (place o k ≡ y)
mem_place {o = []} m = absurd (Memᴰ.not-nil m)
mem_place {y} {o = x ∷ o} (Memᴰ.head e) = (0, omega arith, sym e)
mem_place {y} {o = x ∷ o} (Memᴰ.tail m) = let r = mem_place m in (suc r.0, suc-le-suc_iff.1 r.1, r.2)

pub place_mem : (o : List ℕ) (k : ℕ) → k < length o → Memᴰ (place o k) o
place_mem [] k h = absurd (not-suc-le-zero h)
place_mem (x ∷ o) zero h = Memᴰ.head refl
place_mem (x ∷ o) (suc k) h = Memᴰ.tail (place_mem o k (le_of_suc-le-suc h))

pub pairs_of : (R : ℕ → ℕ → Type 0) (o : List ℕ) → ((k m : ℕ) → k < m → m < length o → R (place o k) (place o m)) → Pairs R o
pairs_of R [] h = tt
pairs_of R (x ∷ o) h = (
  λ y m. let r = mem_place m in subst (R x) r.2 (h 0 (suc r.0) (omega arith) (suc-le-suc_iff.1 r.1)),
  pairs_of R o (λ k m a b. h (suc k) (suc m) (omega arith) (omega arith)),
)

-- i is served before j: they stand so in the list, or they stand the other way round and do not clash
module _ {F : Type 0} (Clash : F → F → Type 0) (frame : ℕ → F) where
  abbrev pub Free : ℕ → ℕ → Type 0
  Free i j = (i < j) ⊎ ((j < i) × (¬ Clash (frame i) (frame j)))

  free_other : (i j : ℕ) → Free i j → i ≢ j
  free_other i j (inl h) e = omega arith
  free_other i j (inr h) e = omega arith

module _ {S F O : Type 0} (step : S → F → O × S) (frame : ℕ → F) (ans : ℕ → O) where
  -- the places l are served from s: place x has the outcome `ans x`, and t is left
  abbrev pub Leads : S → List ℕ → S → Type 0
  Leads s [] t = s ≡ t
  Leads s (x ∷ l) t = ((step s (frame x)).0 ≡ ans x) × Leads (step s (frame x)).1 l t

  pub read_off : (o : List ℕ) (s t : S) → Leads s o t → (outcomes step s (map frame o) ≡ map ans o) × (final step s (map frame o) ≡ t)
  read_off [] s t r = (refl, r)
  read_off (x ∷ o) s t r = let k = read_off o (step s (frame x)).1 t r.1 in (ap₂ ◌∷◌ r.0 k.0, k.1)

  -- the list itself, in its own order
  pub base : (d : F) (e : O) (fs : List F) (s : S) (k : ℕ) → ((i j : ℕ) → j ≡ k + i → i < length fs → frame j ≡ get_or fs i d)
      → ((i j : ℕ) → j ≡ k + i → i < length fs → ans j ≡ get_or (outcomes step s fs) i e) → Leads s (from k (length fs)) (final step s fs)
  base d e [] s k hf ha = refl
  base d e (f ∷ fs) s k hf ha =
      let is_f : frame k ≡ f = hf 0 k (omega arith) (omega arith) in
      rw is_f (
        sym (ha 0 k (omega arith) (omega arith)),
        base d e fs (step s f).1 (suc k) (λ i j p h. hf (suc i) j (omega arith) (omega arith)) (λ i j p h. ha (suc i) j (omega arith) (omega arith)),
      )

  module _ (Good : S → Type 0) (Clash : F → F → Type 0) (stays : (s : S) (f : F) → Good s → Good (step s f).1)
      (commute : (s : S) (f g : F) → Good s → ¬ Clash f g → Commutes step s f g) where
    -- the least place may be served first
    to_front : {x : ℕ} {q : List ℕ} (m : Memᴰ x q) (s t : S) → Good s → Pairs (Free Clash frame) q
        → ((y : ℕ) → Memᴰ y q → x ≤ y) → Leads s (x ∷ rest m) t → Leads s q t
    to_front {x} (Memᴰ.head {xs} e) s t g p low r = subst (λ z. Leads s (z ∷ xs) t) e r
    to_front {x} (Memᴰ.tail {x = y} {xs} m) s t g p low r =
        go (p.0 x m) (λ u. to_front m (step s (frame y)).1 t (stays s (frame y) g) p.1 (λ z h. low z (Memᴰ.tail h)) u)
      where
        go : Free Clash frame y x → (Leads (step s (frame y)).1 (x ∷ rest m) t → Leads (step s (frame y)).1 xs t) → Leads s (y ∷ xs) t
        go (inl h) ih = let l = low y (Memᴰ.head refl) in absurd (omega arith)
        go (inr (h, a)) ih =
            let c = commute s (frame y) (frame x) g a in
            (sym c.first ∙ r.1.0, ih (c.second ∙ r.0, subst (λ u. Leads u (rest m) t) (sym c.state) r.1.1))

    -- what holds of the places k .. k + m - 1 in their own order holds of them in the order q
    pub reordered : (m k : ℕ) (q : List ℕ) (s t : S) → Good s → Pairs (Free Clash frame) q → ((y : ℕ) → Memᴰ y q → (k ≤ y) × (y < k + m))
        → ((i : ℕ) → k ≤ i → i < k + m → Memᴰ i q) → Leads s (from k m) t → Leads s q t
    reordered zero k [] s t g p inside all r = r
    reordered zero k (y ∷ q) s t g p inside all r = let h = inside y (Memᴰ.head refl) in absurd (omega arith)
    reordered (suc m) k q s t g p inside all r =
        let h = all k (omega arith) (omega arith) in
        to_front h s t g p (λ y hy. (inside y hy).0) (
          r.0,
          reordered m (suc k) (rest h) (step s (frame k)).1 t (stays s (frame k) g) (rest_pairs (Free Clash frame) h p)
              (λ y hy. let b = inside y (rest_mem h hy) in let n = rest-other (Free Clash frame) (free_other Clash frame) h p hy in (omega arith, omega arith))
              (λ i lo hi. mem_rest h (all i (omega arith) (omega arith)) (omega arith)) r.1,
        )
