-- Which row answers: the last at or below a level, for any levels; and rows that never fall. Assumes nothing.
use mathlib.Core.Path.{◌≡◌, sym}
use mathlib.Core.List.{List}
use mathlib.Core.Bool.{true}
use Prim.Native.Nat.{ℕ, zero, suc, ◌+◌, ◌≤◌, ◌<◌}
use native.Mathlib.Decide.{ℕ_discrete, dec_lt}
use native.Mathlib.Numerals.{add-one}
use native.Mathlib.Omega.{arith}
use borrow.Author.Tests.{leb-true, le-leb, lt-leb}
use Rattle.laws.specs.Checks.{every}
use Rattle.laws.proofs.Tests.{and_both, every_at, every_of}
use Rattle.tables.specs.Rows.{level, volume, climbs, last_row, never_fall}

-- ---- the last row at or below a level

-- of rows 0..n row i is at or below x, and every later one is above it
pub record Last (level : ℕ → ℕ) (n x i : ℕ) : Type 0 where
  pub most : i ≤ n
  pub below : level i ≤ x
  pub above : (j : ℕ) → i < j → j ≤ n → x < level j

-- there is one such row
pub last_is : (level : ℕ → ℕ) (n x i : ℕ) → Last level n x i → last_row level x n ≡ i
unfolding last_row
last_is level zero x i h = omega (arith, h.most)
last_is level (suc n) x i h =
    go (ℕ_discrete i (suc n))
    (λ l. last_is level n x i (record { most = l; below = h.below; above = λ j p q. h.above j p (omega arith) }))
  where
    go : Dec (i ≡ suc n) → (i ≤ n → last_row level x n ≡ i) → last_row level x (suc n) ≡ i
    go (yes e) ih = let l : level (suc n) ≤ x = rw (← e) h.below in rw (le-leb (level (suc n)) x l) (sym e)
    go (no e) ih = rw (lt-leb (level (suc n)) x (h.above (suc n) (omega (arith, h.most)) (omega arith))) (ih (omega (arith, h.most)))

-- and the row of the definition is it, where row 0 is at or below x
pub is_last : (level : ℕ → ℕ) (n x : ℕ) → level 0 ≤ x → Last level n x (last_row level x n)
unfolding last_row
is_last level zero x h = record { most = omega arith; below = h; above = λ j a b. absurd (let z : ⊥ = omega arith in z) }
is_last level (suc n) x h = go (dec_lt x (level (suc n))) (is_last level n x h)
  where
    go : Dec (x < level (suc n)) → Last level n x (last_row level x n) → Last level (suc n) x (last_row level x (suc n))
    go (yes l) ih =
        rw (lt-leb (level (suc n)) x l) (record {
          most = omega (arith, ih.most);
          below = ih.below;
          above = λ j a b. later (ℕ_discrete j (suc n)) a b;
        })
      where
        later : {j : ℕ} → Dec (j ≡ suc n) → last_row level x n < j → j ≤ suc n → x < level j
        later (yes e) a b = rw e l
        later (no e) a b = ih.above _ a (omega arith)
    go (no l) ih =
        rw (le-leb (level (suc n)) x (omega arith)) (record {
          most = omega arith;
          below = omega arith;
          above = λ j a b. absurd (let z : ⊥ = omega arith in z);
        })

-- ---- rows that never fall

-- steps that never fall, put together
along : (f : ℕ → ℕ) (n : ℕ) → ((k : ℕ) → k < n → f k ≤ f (k + 1)) → (i j : ℕ) → i ≤ j → j ≤ n → f i ≤ f j
along f n h i zero a b = let e : i ≡ 0 = omega arith in rw e (omega arith)
along f n h i (suc j) a b = go (ℕ_discrete i (suc j)) (λ l. along f n h i j l (omega arith))
  where
    go : Dec (i ≡ suc j) → (i ≤ j → f i ≤ f j) → f i ≤ f (suc j)
    go (yes e) ih = rw e (omega arith)
    go (no e) ih = let p = ih (omega arith) in let q : f j ≤ f (suc j) = rw (← add-one j) (h j (omega arith)) in omega arith

module _ (level volume : ℕ → ℕ) where
  -- what the test of one step says
  climbs_is : (i : ℕ) → climbs level volume i ≡ true → (level i ≤ level (i + 1)) × (volume i ≤ volume (i + 1))
  unfolding climbs
  climbs_is i h = let p = and_both _ _ h in (leb-true _ _ p.0, leb-true _ _ p.1)

  pub climbs_if : (i : ℕ) → level i ≤ level (i + 1) → volume i ≤ volume (i + 1) → climbs level volume i ≡ true
  unfolding climbs
  climbs_if i a b = rw (le-leb _ _ a, le-leb _ _ b)

  module _ (n : ℕ) (h : every (climbs level volume) n ≡ true) where
    pub levels_climb : (i j : ℕ) → i ≤ j → j ≤ n → level i ≤ level j
    levels_climb = along level n (λ k l. (climbs_is k (every_at (climbs level volume) n k h l)).0)

    pub volumes_climb : (i j : ℕ) → i ≤ j → j ≤ n → volume i ≤ volume j
    volumes_climb = along volume n (λ k l. (climbs_is k (every_at (climbs level volume) n k h l)).1)

  -- where neither falls from a row to any later one, the test of all steps passes
  climb_if : (n : ℕ) → ((i j : ℕ) → i ≤ j → j ≤ n → (level i ≤ level j) × (volume i ≤ volume j)) → every (climbs level volume) n ≡ true
  climb_if n h = every_of (climbs level volume) n (λ i l. let p = h i (i + 1) (omega arith) (omega arith) in climbs_if i p.0 p.1)

-- ---- of a table's bytes: what check 13 asks

-- from a row to any later one of the 352 neither level nor volume falls
abbrev pub NeverFalls : List ℕ → Type 0
NeverFalls s = (i j : ℕ) → i ≤ j → j ≤ 351 → (level s i ≤ level s j) × (volume s i ≤ volume s j)

pub never_fall_is : (s : List ℕ) → never_fall s ≡ true → NeverFalls s
unfolding never_fall
never_fall_is s h i j a b = (levels_climb (level s) (volume s) 351 h i j a b, volumes_climb (level s) (volume s) 351 h i j a b)

pub never_fall_if : (s : List ℕ) → NeverFalls s → never_fall s ≡ true
unfolding never_fall
never_fall_if s h = climb_if (level s) (volume s) 351 h
