-- Where the sixteen tables stand: tables 1..8 and 11..18, in this order, at 0..15. Assumes nothing.
use mathlib.Core.Path.{◌≡◌, refl}
use mathlib.Core.Logic.{◌⊎◌, inl, inr}
use mathlib.Core.List.{[], ◌∷◌, map}
use mathlib.Core.Bool.{Bool, true, false}
use Prim.Native.Nat.{ℕ, ◌-◌, ◌≤◌, ◌<◌}
use native.Mathlib.Omega.{arith}
use borrow.Author.Tests.{lt-ltb, le-ltb}
use Rattle.std.specs.Prelude.{Some, None}
use Rattle.laws.specs.Checks.{within}
use Rattle.laws.proofs.Tests.{fails, or_either, within_is, within_in, within_above}
use Rattle.image.specs.Cell.{is_table, table_index, index_named}

pub table_indices : map table_index (1 ∷ 2 ∷ 3 ∷ 4 ∷ 5 ∷ 6 ∷ 7 ∷ 8 ∷ 11 ∷ 12 ∷ 13 ∷ 14 ∷ 15 ∷ 16 ∷ 17 ∷ 18 ∷ [])
    ≡ 0 ∷ 1 ∷ 2 ∷ 3 ∷ 4 ∷ 5 ∷ 6 ∷ 7 ∷ 8 ∷ 9 ∷ 10 ∷ 11 ∷ 12 ∷ 13 ∷ 14 ∷ 15 ∷ []
unfolding table_index
table_indices = refl

-- ---- a number by the range it lies in

pub main_stands : (t : ℕ) → 1 ≤ t → t ≤ 8 → (is_table t ≡ true) × (table_index t ≡ t - 1)
unfolding is_table table_index
main_stands t h g = (rw (within_in 1 8 t h g), rw (lt-ltb t 9 (omega arith)))

pub additional_stands : (t : ℕ) → 11 ≤ t → t ≤ 18 → (is_table t ≡ true) × (table_index t ≡ t - 3)
unfolding is_table table_index
additional_stands t h g = (rw (within_above 1 8 t (omega arith), within_in 11 18 t h g), rw (le-ltb t 9 (omega arith)))

pub none_stands : (t : ℕ) → within 1 8 t ≡ false → within 11 18 t ≡ false → is_table t ≡ false
unfolding is_table
none_stands t h g = rw (h, g)

-- which of the two
abbrev pub Stands : ℕ → Type 0
Stands t = ((1 ≤ t) × (t ≤ 8) × (table_index t ≡ t - 1)) ⊎ ((11 ≤ t) × (t ≤ 18) × (table_index t ≡ t - 3))

pub table_cases : (t : ℕ) → is_table t ≡ true → Stands t
unfolding is_table
table_cases t h = go (or_either (within 1 8 t) (within 11 18 t) h)
  where
    go : (within 1 8 t ≡ true) ⊎ (within 11 18 t ≡ true) → Stands t
    go (inl e) = let p = within_is 1 8 t e in inl (p.0, p.1, (main_stands t p.0 p.1).1)
    go (inr e) = let p = within_is 11 18 t e in inr (p.0, p.1, (additional_stands t p.0 p.1).1)

pub index_below : (t : ℕ) → is_table t ≡ true → table_index t < 16
index_below t h = go (table_cases t h)
  where
    go : Stands t → table_index t < 16
    go (inl p) = omega arith
    go (inr p) = omega arith

-- no two tables share an index
pub one_index : (t u : ℕ) → is_table t ≡ true → is_table u ≡ true → table_index t ≡ table_index u → t ≡ u
one_index t u h g e = go (table_cases t h) (table_cases u g)
  where
    go : Stands t → Stands u → t ≡ u
    go (inl p) (inl q) = omega arith
    go (inl p) (inr q) = omega arith
    go (inr p) (inl q) = omega arith
    go (inr p) (inr q) = omega arith

-- ---- what a number names

module _ (t : ℕ) where
  pub index_is : {k : ℕ} → index_named t ≡ Some k → (is_table t ≡ true) × (k ≡ table_index t)
  unfolding index_named
  index_is {k} e = go (is_table t) refl
    where
      go : (b : Bool) → is_table t ≡ b → (is_table t ≡ true) × (k ≡ table_index t)
      go true f = (f, let z : Some (table_index t) ≡ Some k = rw f at e in cc)
      go false f = let z : None ≡ Some k = rw f at e in cc

  pub no_index : index_named t ≡ None → is_table t ≡ false
  unfolding index_named
  no_index e = fails (is_table t) (λ f. let z : Some (table_index t) ≡ None = rw f at e in cc)

  pub named_below : {k : ℕ} → index_named t ≡ Some k → k < 16
  named_below e = let p = index_is e in omega (arith, index_below t p.0)
