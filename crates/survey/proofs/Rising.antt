-- Rows that rise up to some row and then stay: if there is such a row, it is the one that the code finds by going up as long as they rise; such rows never
-- fall, and at the level of each of them the volume is its own. Assumes nothing.
use mathlib.Core.Path.{◌≡◌, refl, sym, ◌∙◌}
use mathlib.Core.List.{List}
use mathlib.Core.Bool.{true}
use Prim.Native.Nat.{ℕ, ◌+◌, ◌-◌, ◌≤◌, ◌<◌}
use native.Mathlib.Decide.{dec_lt}
use native.Mathlib.Omega.{arith}
use borrow.Author.Tests.{leb-true, le-leb, ltb-true, lt-ltb, eqb-true, eq-eqb}
use Rattle.laws.specs.Checks.{every, some}
use Rattle.laws.proofs.Tests.{never, and_both, both_ways, every_at, every_of, some_is, some_of}
use Rattle.tables.specs.Rows.{level, volume, climbs, volume_at, never_fall}
use Rattle.tables.proofs.LastRow.{climbs_if, never_fall_is}
use Rattle.tables.proofs.Answer.{at_row}
use Rattle.survey.specs.Rows.{row_rises, same_row, stays_from, rises_to, rises_then_stays, RisesUpTo}

-- ---- what the tests say, for any levels and volumes

module _ (level volume : ℕ → ℕ) where
  rises_is : (i : ℕ) → row_rises level volume i ≡ true → (level i < level (i + 1)) × (volume i ≤ volume (i + 1))
  unfolding row_rises
  rises_is i h = let p = and_both _ _ h in (ltb-true _ _ p.0, leb-true _ _ p.1)

  rises_if : (i : ℕ) → level i < level (i + 1) → volume i ≤ volume (i + 1) → row_rises level volume i ≡ true
  unfolding row_rises
  rises_if i a b = rw (lt-ltb _ _ a, le-leb _ _ b)

  same_row_is : (i j : ℕ) → same_row level volume i j ≡ true → (level i ≡ level j) × (volume i ≡ volume j)
  unfolding same_row
  same_row_is i j h = let p = and_both _ _ h in (eqb-true _ _ p.0, eqb-true _ _ p.1)

  same_row_if : (i j : ℕ) → level i ≡ level j → volume i ≡ volume j → same_row level volume i j ≡ true
  unfolding same_row
  same_row_if i j a b = rw (eq-eqb _ _ a, eq-eqb _ _ b)

  module _ (last : ℕ) where
    stays_is : (n : ℕ) → stays_from level volume last n ≡ true → (i : ℕ) → n < i → i ≤ last → (level i ≡ level n) × (volume i ≡ volume n)
    unfolding stays_from
    stays_is n h i a b =
        let e : n + 1 + (i - (n + 1)) ≡ i = omega arith in
        let p = same_row_is n i (rw e at (every_at _ (last - n) (i - (n + 1)) h (omega arith))) in
        (sym p.0, sym p.1)

    stays_if : (n : ℕ) → ((i : ℕ) → n < i → i ≤ last → (level i ≡ level n) × (volume i ≡ volume n)) → stays_from level volume last n ≡ true
    unfolding stays_from
    stays_if n h =
        every_of _ (last - n)
        (λ k l. let p = h (n + 1 + k) (omega arith) (omega arith) in same_row_if n (n + 1 + k) (sym p.0) (sym p.1))

    -- ---- the code's row is the one, if there is one

    pub found : (n : ℕ) → RisesUpTo level volume last n → stays_from level volume last n ≡ some (rises_to level volume last) (last + 1)
    unfolding rises_to
    found n r = both_ways _ _ (λ h. some_of (rises_to level volume last) (last + 1) n (omega (arith, r.most)) (rw r.rising h)) back
      where
        only : (k : ℕ) → k < last + 1 → every (row_rises level volume) k ≡ true → stays_from level volume last k ≡ true → Dec (k < n) → Dec (n < k)
            → stays_from level volume last n ≡ true
        only k l up stay (yes a) d =
            let e = (stays_is k stay (k + 1) (omega arith) (omega (arith, r.most))).0 in
            absurd (let z : ⊥ = omega (arith, rises_is k (every_at _ n k r.rising a)) in z)
        only k l up stay (no a) (yes b) = absurd (never (sym (r.no_further (omega arith)) ∙ every_at _ k n up b))
        only k l up stay (no a) (no b) = let e : k ≡ n = omega arith in rw e at stay

        back : some (rises_to level volume last) (last + 1) ≡ true → stays_from level volume last n ≡ true
        back h =
            let (k, l, p) = some_is (rises_to level volume last) (last + 1) h in
            let q = and_both _ _ p in
            only k l q.0 q.1 (dec_lt k n) (dec_lt n k)

-- ---- of a table's bytes

-- row n is the one: rows rise up to it, and the later ones are as it is
pub record Top (s : List ℕ) (n : ℕ) : Type 0 where
  pub most : n ≤ 351
  pub rising : (i : ℕ) → i < n → (level s i < level s (i + 1)) × (volume s i ≤ volume s (i + 1))
  pub staying : (i : ℕ) → n < i → i ≤ 351 → (level s i ≡ level s n) × (volume s i ≡ volume s n)

module _ (s : List ℕ) where
  pub top_is : rises_then_stays s ≡ true → (n : ℕ) × Top s n
  unfolding rises_then_stays rises_to
  top_is h =
      let (n, l, p) = some_is (rises_to (level s) (volume s) 351) 352 h in
      let q = and_both (every (row_rises (level s) (volume s)) n) (stays_from (level s) (volume s) 351 n) p in (
        n,
        record {
          most = omega arith;
          rising = λ i a. rises_is (level s) (volume s) i (every_at (row_rises (level s) (volume s)) n i q.0 a);
          staying = stays_is (level s) (volume s) 351 n q.1;
        },
      )

  pub top_if : (n : ℕ) → Top s n → rises_then_stays s ≡ true
  unfolding rises_then_stays rises_to
  top_if n t =
      let up = every_of (row_rises (level s) (volume s)) n (λ i a. let p = t.rising i a in rises_if (level s) (volume s) i p.0 p.1) in
      some_of (rises_to (level s) (volume s) 351) 352 n (omega (arith, t.most)) (rw up (stays_if (level s) (volume s) 351 n t.staying))

  module _ (n : ℕ) (t : Top s n) where
    at_top : (i : ℕ) → n ≤ i → i ≤ 351 → (level s i ≡ level s n) × (volume s i ≡ volume s n)
    at_top i a b = go (dec_lt n i)
      where
        go : Dec (n < i) → (level s i ≡ level s n) × (volume s i ≡ volume s n)
        go (yes l) = t.staying i l b
        go (no l) = let e : i ≡ n = omega arith in rw e (refl, refl)

    -- what request 3 asks of rows
    pub top_climbs : never_fall s ≡ true
    unfolding never_fall
    top_climbs = every_of _ 351 (λ i l. go i l (dec_lt i n))
      where
        go : (i : ℕ) → i < 351 → Dec (i < n) → climbs (level s) (volume s) i ≡ true
        go i l (yes a) = let p = t.rising i a in climbs_if (level s) (volume s) i (omega arith) p.1
        go i l (no a) =
            let p = at_top i (omega arith) (omega arith) in
            let q = at_top (i + 1) (omega arith) (omega arith) in
            climbs_if (level s) (volume s) i (omega arith) (omega arith)

    -- at the level of any row the volume is that row's
    pub row-volume : (i : ℕ) → i ≤ 351 → volume_at (level s) (volume s) 351 (level s i) ≡ volume s i
    unfolding never_fall
    row-volume i l = go (dec_lt i n)
      where
        go : Dec (i < n) → volume_at (level s) (volume s) 351 (level s i) ≡ volume s i
        go (yes a) =
            at_row (level s) (volume s) 351 top_climbs i l
            (λ j b d e. omega (arith, (t.rising i a).0, (never_fall_is s top_climbs (i + 1) j (omega arith) d).0))
        go (no a) =
            let p = at_top i (omega arith) l in
            let q = at_top 351 t.most (omega arith) in
            rw (p.0 ∙ sym q.0)
            (at_row (level s) (volume s) 351 top_climbs 351 (omega arith) (λ j b d. absurd (let z : ⊥ = omega arith in z)) ∙ q.1 ∙ sym p.1)
