-- What tests mean. Assumes nothing.
use mathlib.Core.Path.{◌≡◌, refl, sym, ap₂, ◌∙◌}
use mathlib.Core.Logic.{◌≢◌, ◌⊎◌, inl, inr, ⊎_elim}
use mathlib.Core.List.Memᴰ
use mathlib.Core.List.{List, [], ◌∷◌, ◌++◌, Memᴰ}
use mathlib.Core.Bool.{Bool, true, false, not, ◌&&◌, ◌||◌, and-false, or-true}
use Prim.Native.Nat.{ℕ, zero, suc, ◌+◌, ◌≤◌, ◌<◌}
use native.Mathlib.Decide.{ℕ_discrete}
use native.Mathlib.Numerals.{add-one}
use native.Mathlib.Omega.{arith}
use lib.ListN.{length, get_or}
use lib.Dec.{leb, eqb}
use borrow.Author.Tests.{leb-true, le-leb, lt-leb, eqb-true, eq-eqb, not-true}
use Rattle.laws.specs.Checks.{within, every, some, all, among, distinct, same}

pub never : ◌≡◌ {A = Bool} false true → ⊥
never e = let z : ◌≡◌ {A = ℕ} 0 1 = cc in omega arith

pub and_both : (a b : Bool) → (a && b) ≡ true → (a ≡ true) × (b ≡ true)
and_both true b e = (refl, e)
and_both false b e = absurd (never e)

pub or_either : (a b : Bool) → (a || b) ≡ true → (a ≡ true) ⊎ (b ≡ true)
or_either true b e = inl refl
or_either false b e = inr e

pub neither : (a b : Bool) → (a || b) ≡ false → (a ≡ false) × (b ≡ false)
neither true b e = absurd (never (sym e))
neither false b e = (refl, e)

-- a test that cannot pass
pub fails : (a : Bool) → ¬ (a ≡ true) → a ≡ false
fails true n = absurd (n refl)
fails false n = refl

-- two tests that pass in the same cases
pub both_ways : (a b : Bool) → (a ≡ true → b ≡ true) → (b ≡ true → a ≡ true) → a ≡ b
both_ways true b f g = sym (f refl)
both_ways false true f g = absurd (never (g refl))
both_ways false false f g = refl

-- ---- from a to b

pub within_is : (a b n : ℕ) → within a b n ≡ true → (a ≤ n) × (n ≤ b)
unfolding within
within_is a b n h = let p = and_both (leb a n) (leb n b) h in (leb-true _ _ p.0, leb-true _ _ p.1)

pub within_in : (a b n : ℕ) → a ≤ n → n ≤ b → within a b n ≡ true
unfolding within
within_in a b n h g = rw (le-leb _ _ h, le-leb _ _ g)

pub within_below : (a b n : ℕ) → n < a → within a b n ≡ false
unfolding within
within_below a b n h = rw (lt-leb _ _ h)

pub within_above : (a b n : ℕ) → b < n → within a b n ≡ false
unfolding within
within_above a b n h = rw (lt-leb _ _ h, and-false)

-- ---- a test at each number below n

module _ (t : ℕ → Bool) where
  pub every_next : (i : ℕ) → every t i ≡ true → t i ≡ true → every t (i + 1) ≡ true
  unfolding every
  every_next i h e = rw (add-one, e, h)

  pub every_fails : (n i : ℕ) → i < n → t i ≡ false → every t n ≡ false
  unfolding every
  every_fails zero i h e = absurd (omega arith)
  every_fails (suc n) i h e = go (ℕ_discrete i n) (λ g. every_fails n i g e)
    where
      go : Dec (i ≡ n) → (i < n → every t n ≡ false) → (t n && every t n) ≡ false
      go (yes p) r = rw (← p, e)
      go (no p) r = rw (r (omega arith), and-false)

  pub every_at : (n i : ℕ) → every t n ≡ true → i < n → t i ≡ true
  unfolding every
  every_at zero i h l = absurd (omega arith)
  every_at (suc n) i h l = go (and_both (t n) (every t n) h) (ℕ_discrete i n) (λ g m. every_at n i g m)
    where
      go : (t n ≡ true) × (every t n ≡ true) → Dec (i ≡ n) → (every t n ≡ true → i < n → t i ≡ true) → t i ≡ true
      go p (yes e) ih = rw e p.0
      go p (no e) ih = ih p.1 (omega arith)

  pub every_of : (n : ℕ) → ((i : ℕ) → i < n → t i ≡ true) → every t n ≡ true
  unfolding every
  every_of zero h = refl
  every_of (suc n) h = rw (h n (omega arith), every_of n (λ i l. h i (omega arith)))

-- tests that agree below n
pub every-same : (s t : ℕ → Bool) (n : ℕ) → ((i : ℕ) → i < n → s i ≡ t i) → every s n ≡ every t n
unfolding every
every-same s t zero h = refl
every-same s t (suc n) h = rw (h n (omega arith), every-same s t n (λ i l. h i (omega arith)))

-- ---- a test at some number below n

module _ (t : ℕ → Bool) where
  pub some_is : (n : ℕ) → some t n ≡ true → (i : ℕ) × (i < n) × (t i ≡ true)
  unfolding some
  some_is zero h = absurd (never h)
  some_is (suc n) h = go (or_either (t n) (some t n) h) (λ g. some_is n g)
    where
      go : (t n ≡ true) ⊎ (some t n ≡ true) → (some t n ≡ true → (i : ℕ) × (i < n) × (t i ≡ true)) → (i : ℕ) × (i < suc n) × (t i ≡ true)
      go (inl e) ih = (n, omega arith, e)
      go (inr e) ih = let (i, l, p) = ih e in (i, omega arith, p)

  pub some_of : (n i : ℕ) → i < n → t i ≡ true → some t n ≡ true
  unfolding some
  some_of zero i l e = absurd (omega arith)
  some_of (suc n) i l e = go (ℕ_discrete i n) (λ g. some_of n i g e)
    where
      go : Dec (i ≡ n) → (i < n → some t n ≡ true) → (t n || some t n) ≡ true
      go (yes p) r = rw (← p, e)
      go (no p) r = rw (r (omega arith), or-true)

-- ---- a test of each element

-- by its place
pub all_at : {A : Type 0} (t : A → Bool) (l : List A) (d : A) → all t l ≡ true → (k : ℕ) → k < length l → t (get_or l k d) ≡ true
unfolding all
all_at t [] d h k i = absurd (omega arith)
all_at t (x ∷ l) d h zero i = (and_both (t x) (all t l) h).0
all_at t (x ∷ l) d h (suc k) i = all_at t l d (and_both (t x) (all t l) h).1 k (omega arith)

pub all_by : {A : Type 0} (t : A → Bool) (l : List A) (d : A) → ((k : ℕ) → k < length l → t (get_or l k d) ≡ true) → all t l ≡ true
unfolding all
all_by t [] d h = refl
all_by t (x ∷ l) d h = rw (h zero (omega arith), all_by t l d (λ k i. h (suc k) (omega arith)))

pub all_of : {A : Type 0} (t : A → Bool) {x : A} {l : List A} → all t l ≡ true → Memᴰ x l → t x ≡ true
unfolding all
all_of t {l = []} h m = absurd (Memᴰ.not-nil m)
all_of {A} t {x} {l = y ∷ l} h m = go (and_both (t y) (all t l) h) (λ g k. all_of t g k) (Memᴰ.cases_cons m)
  where
    go : (t y ≡ true) × (all t l ≡ true) → (all t l ≡ true → Memᴰ x l → t x ≡ true) → (x ≡ y) ⊎ Memᴰ x l → t x ≡ true
    go p ih (inl e) = rw e p.0
    go p ih (inr k) = ih p.1 k

-- of one list after another
pub all_then : {A : Type 0} (t : A → Bool) (a b : List A) → all t a ≡ true → all t b ≡ true → all t (a ++ b) ≡ true
unfolding all
all_then t [] b g h = h
all_then t (x ∷ a) b g h = let p = and_both (t x) (all t a) g in rw (p.0, all_then t a b p.1 h)

-- what holds of each of a list holds of a number that is one of them
pub all_among : (t : ℕ → Bool) (k : ℕ) (ns : List ℕ) → all t ns ≡ true → among k ns ≡ true → t k ≡ true
unfolding all among
all_among t k [] h m = absurd (never m)
all_among t k (n ∷ ns) h m =
    let p = and_both (t n) (all t ns) h in
    ⊎_elim (λ e. rw (eqb-true k n e) p.0) (all_among t k ns p.1) (or_either (eqb k n) (among k ns) m)

-- a number of a list, by its place
pub among_is : (k : ℕ) (ns : List ℕ) → among k ns ≡ true → (i : ℕ) × (i < length ns) × (get_or ns i 0 ≡ k)
unfolding among
among_is k [] h = absurd (never h)
among_is k (n ∷ ns) h = go (or_either (eqb k n) (among k ns) h) (λ g. among_is k ns g)
  where
    go : (eqb k n ≡ true) ⊎ (among k ns ≡ true) → (among k ns ≡ true → (i : ℕ) × (i < length ns) × (get_or ns i 0 ≡ k))
        → (i : ℕ) × (i < suc (length ns)) × (get_or (n ∷ ns) i 0 ≡ k)
    go (inl e) ih = (zero, omega arith, sym (eqb-true k n e))
    go (inr e) ih = let (i, l, p) = ih e in (suc i, omega arith, p)

pub among_of : (ns : List ℕ) (i : ℕ) → i < length ns → among (get_or ns i 0) ns ≡ true
unfolding among
among_of [] i l = absurd (omega arith)
among_of (n ∷ ns) zero l = rw (eq-eqb n n refl)
among_of (n ∷ ns) (suc i) l = rw (among_of ns i (omega arith), or-true)

-- none is there twice
pub distinct_is : (ns : List ℕ) → distinct ns ≡ true → (i j : ℕ) → i < j → j < length ns → get_or ns i 0 ≢ get_or ns j 0
unfolding distinct
distinct_is [] h i j l m e = absurd (omega arith)
distinct_is (n ∷ ns) h i zero l m e = absurd (omega arith)
distinct_is (n ∷ ns) h zero (suc j) l m e =
    let p = and_both (not (among n ns)) (distinct ns) h in
    never (sym (not-true (among n ns) p.0) ∙ (rw (← e) at (among_of ns j (omega arith))))
distinct_is (n ∷ ns) h (suc i) (suc j) l m e =
    distinct_is ns (and_both (not (among n ns)) (distinct ns) h).1 i j (omega arith) (omega arith) e

pub distinct_if : (ns : List ℕ) → ((i j : ℕ) → i < j → j < length ns → get_or ns i 0 ≢ get_or ns j 0) → distinct ns ≡ true
unfolding distinct
distinct_if [] h = refl
distinct_if (n ∷ ns) h = go (among n ns) refl (distinct_if ns (λ i j l m. h (suc i) (suc j) (omega arith) (omega arith)))
  where
    go : (t : Bool) → among n ns ≡ t → distinct ns ≡ true → (not t && distinct ns) ≡ true
    go true e ih = let (i, l, p) = among_is n ns e in absurd (h zero (suc i) (omega arith) (omega arith) (sym p))
    go false e ih = ih

-- ---- the same numbers

pub same_is : (xs ys : List ℕ) → same xs ys ≡ true → xs ≡ ys
unfolding same
same_is [] [] h = refl
same_is [] (y ∷ ys) h = absurd (never h)
same_is (x ∷ xs) [] h = absurd (never h)
same_is (x ∷ xs) (y ∷ ys) h =
    let p = and_both (eqb x y) (same xs ys) h in
    let e : x ≡ y = eqb-true x y p.0 in
    ap₂ ◌∷◌ e (same_is xs ys p.1)
