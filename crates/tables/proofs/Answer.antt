-- The volume that rows give at a level, for any rows that never fall: by which row, between which volumes, at a row's own level, and never falling as the
-- level rises. Assumes nothing.
use mathlib.Core.Path.{◌≡◌, refl, sym, ◌∙◌}
use mathlib.Core.Logic.{◌≢◌}
use mathlib.Core.Bool.{true}
use Prim.Native.Nat.{ℕ, ◌+◌, ◌-◌, ◌*◌, ◌≤◌, ◌<◌}
use native.Mathlib.Decide.{ℕ_discrete, dec_lt}
use native.Mathlib.Omega.{arith}
use borrow.Author.Tests.{eq-eqb, ne_eqb}
use Rattle.laws.specs.Checks.{every}
use Rattle.tables.specs.Rows.{climbs, last_row, between, given, volume_at}
use Rattle.tables.proofs.Between.{RoundedDown, rounded_one, between_rounded, between_least, between_most, between-climbs, between_here}
use Rattle.tables.proofs.LastRow.{Last, last_is, is_last, levels_climb, volumes_climb}

module _ (level volume : ℕ → ℕ) (n x i : ℕ) (e : i ≡ last_row level x n) where
  pub at_last : i ≡ n → volume_at level volume n x ≡ volume i
  unfolding volume_at given
  at_last h = rw (← e, eq-eqb i n h)

  pub at_next : i ≢ n → volume_at level volume n x ≡ between (volume i) (volume (i + 1)) (level i) (level (i + 1)) x
  unfolding volume_at given
  at_next h = rw (← e, ne_eqb i n h)

-- q is the answer at x by row i of rows 0..n, the last at or below x: if it is row n its own volume; else it lies between that and the next row's, the rise
-- in level is not 0, and what it is above the row is the rise in volume times the distance above the row, divided by that, rounded down
pub record By (level volume : ℕ → ℕ) (n x i q : ℕ) : Type 0 where
  pub row : Last level n x i
  pub last : i ≡ n → q ≡ volume i
  pub least : volume i ≤ q
  pub most : i < n → q ≤ volume (i + 1)
  pub apart : i < n → level i < level (i + 1)
  pub share : i < n → RoundedDown ((volume (i + 1) - volume i) * (x - level i)) (level (i + 1) - level i) (q - volume i)

-- there is one answer
pub one_answer : (level volume : ℕ → ℕ) (n x i j q r : ℕ) → By level volume n x i q → By level volume n x j r → q ≡ r
one_answer level volume n x i j q r a b = go (rw (← same) at b) (ℕ_discrete i n)
  where
    same : i ≡ j
    same = sym (last_is level n x i a.row) ∙ last_is level n x j b.row

    go : By level volume n x i r → Dec (i ≡ n) → q ≡ r
    go c (yes e) = a.last e ∙ sym (c.last e)
    go c (no e) =
        let l : i < n = omega (arith, a.row.most) in
        let z = rounded_one _ _ _ _ (a.share l) (c.share l) in
        omega (arith, a.least, c.least)

module _ (level volume : ℕ → ℕ) (n : ℕ) (h : every (climbs level volume) n ≡ true) where
  pub answer_by_lem : (x : ℕ) → level 0 ≤ x → By level volume n x (last_row level x n) (volume_at level volume n x)
  answer_by_lem x l = go (ℕ_discrete i n)
    where
      i : ℕ
      i = last_row level x n

      r : Last level n x i
      r = is_last level n x l

      near : i < n → (level i ≤ x) × (x < level (i + 1))
      near b = (r.below, r.above (i + 1) (omega arith) (omega arith))

      go : Dec (i ≡ n) → By level volume n x i (volume_at level volume n x)
      go (yes e) =
          let q = at_last level volume n x i refl e in
          record {
            row = r;
            last = λ f. q;
            least = omega arith;
            most = λ b. absurd (let z : ⊥ = omega arith in z);
            apart = λ b. let p = near b in omega arith;
            share = λ b. absurd (let z : ⊥ = omega arith in z);
          }
      go (no e) =
          let q = at_next level volume n x i refl e in
          record {
            row = r;
            last = λ f. absurd (e f);
            least = rw q (between_least _ _ _ _ x);
            most = λ b. let p = near b in rw q (between_most _ _ _ _ x (volumes_climb level volume n h i (i + 1) (omega arith) (omega arith)) (omega arith));
            apart = λ b. let p = near b in omega arith;
            share = λ b. let p = near b in rw q (between_rounded _ _ _ _ x (omega arith));
          }

  -- the answer never falls as the level rises
  pub rises : (x y : ℕ) → level 0 ≤ x → x ≤ y → volume_at level volume n x ≤ volume_at level volume n y
  rises x y l g = go (dec_lt i j) (ℕ_discrete i n)
    where
      i : ℕ
      i = last_row level x n

      j : ℕ
      j = last_row level y n

      p : By level volume n x i (volume_at level volume n x)
      p = answer_by_lem x l

      q : By level volume n y j (volume_at level volume n y)
      q = answer_by_lem y (omega arith)

      same : ¬ (i < j) → i ≡ j
      same a = first (dec_lt j i)
        where
          first : Dec (j < i) → i ≡ j
          first (yes b) = let z = q.row.above i b p.row.most in let w = p.row.below in absurd (omega arith)
          first (no b) = omega arith

      go : Dec (i < j) → Dec (i ≡ n) → volume_at level volume n x ≤ volume_at level volume n y
      go (yes a) d =
          let b = q.row.most in
          let u = p.most (omega arith) in
          let w = volumes_climb level volume n h (i + 1) j (omega arith) b in
          let z = q.least in
          omega arith
      go (no a) (yes e) = let s = same a in let u = p.last e in let z : volume i ≤ volume_at level volume n y = rw s q.least in omega arith
      go (no a) (no e) =
          let b = p.row.most in
          rw (at_next level volume n x i refl e, at_next level volume n y i (same a) e) (between-climbs _ _ _ _ x y (p.apart (omega arith)) g)

  -- at a row's level it is the volume of the last row with that level
  pub at_row : (i : ℕ) → i ≤ n → ((j : ℕ) → i < j → j ≤ n → level j ≢ level i) → volume_at level volume n (level i) ≡ volume i
  at_row i l d = go (ℕ_discrete i n)
    where
      r : Last level n (level i) i
      r =
          record {
            most = l;
            below = omega arith;
            above = λ j a b. let u = levels_climb level volume n h i j (omega arith) b in let w = d j a b in omega arith;
          }

      e : i ≡ last_row level (level i) n
      e = sym (last_is level n (level i) i r)

      go : Dec (i ≡ n) → volume_at level volume n (level i) ≡ volume i
      go (yes f) = at_last level volume n (level i) i e f
      go (no f) = at_next level volume n (level i) i e f ∙ between_here _ _ _ _
