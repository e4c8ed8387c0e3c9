-- Serving a list one after the other, for any step: what each is answered and what is left; a reordering of a list, given by places; and which
-- two may not change places. Assumes nothing.
use Rattle.std.specs.Prelude.{◌≡◌, ◌≢◌, List, [], ◌∷◌, map, ℕ, ◌<◌, length, get_or}

module _ {S F O : Type 0} (step : S → F → O × S) where
  -- the outcomes, in the order of serving
  abbrev pub outcomes : S → List F → List O
  outcomes s [] = []
  outcomes s (f ∷ fs) = (step s f).0 ∷ outcomes (step s f).1 fs

  -- the state that the last leaves
  abbrev pub final : S → List F → S
  final s [] = s
  final s (f ∷ fs) = final (step s f).1 fs

  -- from s it is all the same whether f or g comes first: to f, to g, and to what is left
  pub record Commutes (s : S) (f g : F) : Type 0 where
    pub first : (step (step s g).1 f).0 ≡ (step s f).0
    pub second : (step (step s f).1 g).0 ≡ (step s g).0
    pub state : (step (step s f).1 g).1 ≡ (step (step s g).1 f).1

-- ---- a reordering

-- the k-th entry of a list of places
abbrev pub place : List ℕ → ℕ → ℕ
place o k = get_or o k 0

-- the elements of l at the places o, in the order of o; d stands for a place outside l
abbrev pub pick : {A : Type 0} → A → List A → List ℕ → List A
pick d l o = map (λ i. get_or l i d) o

-- o has each of the places 0 .. n - 1 once, and nothing else
pub record Reorders (n : ℕ) (o : List ℕ) : Type 0 where
  pub inside : (k : ℕ) → k < length o → place o k < n
  pub once : (k m : ℕ) → k < m → m < length o → place o k ≢ place o m
  pub all : (i : ℕ) → i < n → (k : ℕ) × (k < length o) × (place o k ≡ i)

-- o has place i before place j
abbrev pub Before : List ℕ → ℕ → ℕ → Type 0
Before o i j = (k : ℕ) × (m : ℕ) × (k < m) × (m < length o) × (place o k ≡ i) × (place o m ≡ j)

-- gs is served as fs is, in the order o: the k-th of gs has the outcome of the one in fs whose place stands k-th in o, and the same state is left
module _ {S F O : Type 0} (step : S → F → O × S) (e : O) where
  pub record SameService (s : S) (fs gs : List F) (o : List ℕ) : Type 0 where
    pub answers : outcomes step s gs ≡ pick e (outcomes step s fs) o
    pub left : final step s gs ≡ final step s fs

-- ---- what it may not change

-- Clash f g: the order of f and g may matter
module _ {F : Type 0} (Clash : F → F → Type 0) (d : F) where
  -- no two, at different places, clash
  abbrev pub NoClash : List F → Type 0
  NoClash fs = (i j : ℕ) → i < j → j < length fs → ¬ Clash (get_or fs i d) (get_or fs j d)

  -- of two that clash, the one that o serves first stands first in the list
  abbrev pub KeepsClashes : List F → List ℕ → Type 0
  KeepsClashes fs o = (k m : ℕ) → k < m → m < length o → Clash (get_or fs (place o k) d) (get_or fs (place o m) d) → place o k < place o m

  -- the same, from the list's side: of two that clash, the one that stands first in the list is served first
  abbrev pub ClashesInOrder : List F → List ℕ → Type 0
  ClashesInOrder fs o = (i j : ℕ) → i < j → j < length fs → Clash (get_or fs i d) (get_or fs j d) → Before o i j
