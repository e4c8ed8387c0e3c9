-- The numbers of parts, as the code goes through them: each from 1 to 11 whose bit is not set yet, and then it is set. That is so exactly where all are from
-- 1 to 11 and none is there twice; and eleven such numbers are 1 to 11, since each sets one more of eleven bits. Assumes nothing.
use mathlib.Core.Path.{◌≡◌, refl, sym, ◌∙◌}
use mathlib.Core.Logic.{◌⊎◌, inl, inr}
use mathlib.Core.List.{List, [], ◌∷◌}
use mathlib.Core.Bool.{Bool, true, false, not, ◌&&◌, ◌||◌, or-true}
use Prim.Native.Nat.{ℕ, ◌+◌, ◌-◌, ◌≤◌}
use native.Mathlib.Decide.{ℕ_discrete}
use native.Mathlib.Omega.{arith}
use lib.ListN.{length}
use lib.Dec.{eqb}
use borrow.Author.Tests.{eqb-true, eq-eqb, ne_eqb, not-true}
use Rattle.laws.specs.Bits.{bit, with_bit, ones_in}
use Rattle.laws.specs.Checks.{within, all, among, distinct}
use Rattle.laws.proofs.Tests.{never, and_both, or_either, fails, both_ways, within_is, within_in, all_among}
use Rattle.laws.proofs.Bits.{bit_cases, bit-none, bit-set, bit_kept, ones_with, ones_none, all_set_is}
use Rattle.survey.specs.File.{each_once}
use Rattle.survey.specs.Gather.{is_new}

-- ---- one part

module _ (w p : ℕ) where
  pub new_is : is_new w p ≡ true → (1 ≤ p) × (p ≤ 11) × (bit w (p - 1) ≡ 0)
  unfolding is_new
  new_is h =
      let q = and_both _ _ h in
      let l = within_is 1 11 p q.0 in
      (l.0, l.1, go (bit_cases w (p - 1)) (not-true _ q.1))
    where
      go : (bit w (p - 1) ≡ 0) ⊎ (bit w (p - 1) ≡ 1) → eqb (bit w (p - 1)) 1 ≡ false → bit w (p - 1) ≡ 0
      go (inl e) f = e
      go (inr e) f = absurd (never (sym f ∙ eq-eqb _ 1 e))

  new_if : 1 ≤ p → p ≤ 11 → bit w (p - 1) ≡ 0 → is_new w p ≡ true
  unfolding is_new
  new_if a b z = rw (within_in 1 11 p a b, ne_eqb (bit w (p - 1)) 1 (λ e. absurd (omega (arith, z, e))))

-- ---- all of them, one after the other: w has the bits of those before

unfoldable pub all_new : ℕ → List ℕ → Bool
all_new w [] = true
all_new w (p ∷ ps) = is_new w p && all_new (with_bit w (p - 1)) ps

-- none of them has its bit in w
abbrev Unset : ℕ → List ℕ → Type 0
Unset w ps = (q : ℕ) → among q ps ≡ true → bit w (q - 1) ≡ 0

all_new_is : (w : ℕ) (ps : List ℕ) → all_new w ps ≡ true → (all (within 1 11) ps ≡ true) × (distinct ps ≡ true) × Unset w ps
unfolding all_new all distinct among
all_new_is w [] h = (refl, refl, λ q i. absurd (never i))
all_new_is w (p ∷ ps) h =
    let a = and_both (is_new w p) _ h in
    let n = new_is w p a.0 in
    let ih = all_new_is (with_bit w (p - 1)) ps a.1 in
    let apart = fails (among p ps) (λ e. absurd (omega (arith, ih.2 p e, bit-set w (p - 1)))) in
    (rw (within_in 1 11 p n.0 n.1) ih.0, rw apart ih.1, unset n.2 ih.2)
  where
    unset : bit w (p - 1) ≡ 0 → Unset (with_bit w (p - 1)) ps → (q : ℕ) → (eqb q p || among q ps) ≡ true → bit w (q - 1) ≡ 0
    unset z u q i = go (or_either (eqb q p) (among q ps) i) (ℕ_discrete (p - 1) (q - 1))
      where
        go : (eqb q p ≡ true) ⊎ (among q ps ≡ true) → Dec (p - 1 ≡ q - 1) → bit w (q - 1) ≡ 0
        go (inl e) d = let f : q ≡ p = eqb-true q p e in rw f z
        go (inr e) (yes d) = rw (← d) z
        go (inr e) (no d) = sym (bit_kept w (p - 1) (q - 1) d) ∙ u q e

all_new_if : (w : ℕ) (ps : List ℕ) → all (within 1 11) ps ≡ true → distinct ps ≡ true → Unset w ps → all_new w ps ≡ true
unfolding all_new all distinct among
all_new_if w [] a d u = refl
all_new_if w (p ∷ ps) a d u =
    let inside = and_both (within 1 11 p) _ a in
    let apart = and_both (not (among p ps)) _ d in
    let l = within_is 1 11 p inside.0 in
    rw (new_if w p l.0 l.1 (u p (rw (eq-eqb p p refl))))
    (all_new_if (with_bit w (p - 1)) ps inside.1 apart.1 (unset l inside.1 (not-true _ apart.0)))
  where
    unset : (1 ≤ p) × (p ≤ 11) → all (within 1 11) ps ≡ true → among p ps ≡ false → Unset (with_bit w (p - 1)) ps
    unset l inside none q i =
        let k = within_is 1 11 q (all_among (within 1 11) q ps inside i) in
        bit_kept w (p - 1) (q - 1) (λ e. let f : p ≡ q = omega arith in never (sym none ∙ rw f i)) ∙ u q (rw (i, or-true))

-- what the code finds is what check 19 asks
pub new_once : (ps : List ℕ) → all_new 0 ps ≡ each_once ps
unfolding each_once
new_once ps =
    both_ways _ _ (λ h. let p = all_new_is 0 ps h in rw p.0 p.1)
    (λ h. let p = and_both _ _ h in all_new_if 0 ps p.0 p.1 (λ q i. bit-none (q - 1)))

-- ---- eleven of them

-- w with all their bits
unfoldable with_all : ℕ → List ℕ → ℕ
with_all w [] = w
with_all w (p ∷ ps) = with_all (with_bit w (p - 1)) ps

-- each sets one more
counted : (w : ℕ) (ps : List ℕ) → all_new w ps ≡ true → ones_in 11 (with_all w ps) ≡ ones_in 11 w + length ps
unfolding all_new with_all
counted w [] h = omega arith
counted w (p ∷ ps) h =
    let a = and_both (is_new w p) _ h in
    let n = new_is w p a.0 in
    omega (arith, counted (with_bit w (p - 1)) ps a.1, ones_with 11 w (p - 1) (omega arith), n.2)

-- a bit that is set was set before, or by its part
set_by : (w : ℕ) (ps : List ℕ) → all (within 1 11) ps ≡ true → (p : ℕ) → 1 ≤ p → bit (with_all w ps) (p - 1) ≡ 1 → (bit w (p - 1) ≡ 1) ⊎ (among p ps ≡ true)
unfolding with_all all among
set_by w [] a p l e = inl e
set_by w (q ∷ ps) a p l e =
    let inside = and_both (within 1 11 q) _ a in
    go (within_is 1 11 q inside.0).0 (ℕ_discrete p q) (set_by (with_bit w (q - 1)) ps inside.1 p l e)
  where
    go : 1 ≤ q → Dec (p ≡ q) → (bit (with_bit w (q - 1)) (p - 1) ≡ 1) ⊎ (among p ps ≡ true) → (bit w (p - 1) ≡ 1) ⊎ ((eqb p q || among p ps) ≡ true)
    go m (yes d) s = inr (rw (eq-eqb p q d))
    go m (no d) (inl b) = inl (sym (bit_kept w (q - 1) (p - 1) (λ f. d (omega arith))) ∙ b)
    go m (no d) (inr i) = inr (rw (i, or-true))

-- so each of 1..11 is there
pub each_is_there : (ps : List ℕ) → length ps ≡ 11 → each_once ps ≡ true → (p : ℕ) → 1 ≤ p → p ≤ 11 → among p ps ≡ true
each_is_there ps eleven h p a b = go (set_by 0 ps (all_new_is 0 ps new).0 p a set)
  where
    new : all_new 0 ps ≡ true
    new = new_once ps ∙ h

    set : bit (with_all 0 ps) (p - 1) ≡ 1
    set = all_set_is 11 (with_all 0 ps) (omega (arith, counted 0 ps new, ones_none 11)) (p - 1) (omega arith)

    go : (bit 0 (p - 1) ≡ 1) ⊎ (among p ps ≡ true) → among p ps ≡ true
    go (inl e) = absurd (omega (arith, bit-none (p - 1)))
    go (inr i) = i
