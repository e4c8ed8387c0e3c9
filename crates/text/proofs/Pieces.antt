-- The pieces are what document 01 says: put together they are the input, each but possibly the last has 0Ah at its end and nowhere else, the
-- last may have none, and no piece is empty. Only one list of pieces is so. Assumes nothing.
use mathlib.Core.Path.{◌≡◌, refl, ap, ◌∙◌}
use mathlib.Core.List.{List, [], ◌∷◌, ◌++◌, append-nil, flatten}
use mathlib.Core.Bool.{Bool, true, false}
use Prim.Native.Nat.{ℕ}
use lib.Dec.{eqb}
use borrow.Author.Tests.{eqb-true, eqb-false, eq-eqb, ne_eqb}
use Rattle.text.specs.Cut.{begun, pieces}

-- 0Ah stands at its end and nowhere else
pub data Ended : List ℕ → Type 0 where
  here : {b : ℕ} → b ≡ 10 → Ended (b ∷ [])
  later : {b : ℕ} {p : List ℕ} → ¬ (b ≡ 10) → Ended p → Ended (b ∷ p)

-- it has no 0Ah and is not empty
pub data Open : List ℕ → Type 0 where
  one : {b : ℕ} → ¬ (b ≡ 10) → Open (b ∷ [])
  more : {b : ℕ} {p : List ℕ} → ¬ (b ≡ 10) → Open p → Open (b ∷ p)

pub data Cut : List (List ℕ) → Type 0 where
  none : Cut []
  last : {p : List ℕ} → Open p → Cut (p ∷ [])
  ended : {p : List ℕ} {ps : List (List ℕ)} → Ended p → Cut ps → Cut (p ∷ ps)

begun_join : (b : ℕ) (t : Bool) (ps : List (List ℕ)) → flatten (begun b t ps) ≡ b ∷ flatten ps
unfolding flatten
begun_join b true ps = refl
begun_join b false [] = refl
begun_join b false (p ∷ ps) = refl

pub pieces_join : (s : List ℕ) → flatten (pieces s) ≡ s
unfolding pieces flatten
pieces_join [] = refl
pieces_join (b ∷ s) = begun_join b (eqb b 10) (pieces s) ∙ ap (λ (l : List ℕ). b ∷ l) (pieces_join s)

begun_cut : {ps : List (List ℕ)} (b : ℕ) (t : Bool) → eqb b 10 ≡ t → Cut ps → Cut (begun b t ps)
begun_cut b true e c = ended (here (eqb-true b 10 e)) c
begun_cut b false e none = last (one (eqb-false b 10 e))
begun_cut b false e (last p) = last (more (eqb-false b 10 e) p)
begun_cut b false e (ended p c) = ended (later (eqb-false b 10 e) p) c

pub pieces_cut : (s : List ℕ) → Cut (pieces s)
unfolding pieces
pieces_cut [] = none
pieces_cut (b ∷ s) = begun_cut b (eqb b 10) refl (pieces_cut s)

pieces-ended : {p : List ℕ} (s : List ℕ) → Ended p → pieces (p ++ s) ≡ p ∷ pieces s
unfolding pieces
pieces-ended s (here {b} e) = rw (eq-eqb b 10 e)
pieces-ended s (later {b} n q) = rw (ne_eqb b 10 n, pieces-ended s q)

pieces_last : {p : List ℕ} → Open p → pieces p ≡ p ∷ []
unfolding pieces
pieces_last (one {b} n) = rw (ne_eqb b 10 n)
pieces_last (more {b} n q) = rw (ne_eqb b 10 n, pieces_last q)

pub pieces_only : {ps : List (List ℕ)} → Cut ps → pieces (flatten ps) ≡ ps
unfolding pieces flatten
pieces_only none = refl
pieces_only (last q) = rw append-nil (pieces_last q)
pieces_only (ended {p} {ps} q c) = pieces-ended (flatten ps) q ∙ ap (λ (l : List (List ℕ)). p ∷ l) (pieces_only c)
