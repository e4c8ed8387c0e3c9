-- What is promised of a quantity at a level (document 02, request 3), for every image, table number and level. Rows count from 0. Assumes nothing.
use mathlib.Core.Path.{◌≡◌, refl, sym, ap, ◌∙◌}
use mathlib.Core.Logic.{◌≢◌, inl, inr}
use mathlib.Core.List.{List, Memᴰ}
use mathlib.Core.Bool.{true, false}
use Prim.Native.Nat.{ℕ, ◌≤◌, ◌<◌}
use native.Mathlib.Decide.{ℕ_discrete, dec_lt}
use native.Mathlib.Omega.{arith}
use borrow.Author.Tests.{eqb-true, eq-eqb}
use Rattle.std.specs.Prelude.{Result}
use Rattle.laws.specs.Bytes.{word_at}
use Rattle.laws.specs.Checks.{Check, Gives, AllPass, every}
use Rattle.laws.proofs.Bytes.{Bytes}
use Rattle.laws.proofs.Checks.{judged_passed, judged_gives, judged_refused, gives_one, lowest_given, none_fails}
use Rattle.output.specs.declared.refusal.Refusal.{Refusal}
use Rattle.output.proofs.Refusals.{one_result}
use Rattle.image.specs.declared.version.Version.{Version}
use Rattle.image.specs.Cell.{is_table, table_index}
use Rattle.image.specs.Words.{table_word}
use Rattle.image.specs.Usable.{usable}
use Rattle.image.specs.Held.{lowest_missing}
use Rattle.image.proofs.Missing.{Full, Lowest, lowest_missing_is, one_lowest}
use Rattle.tables.specs.Rows.{level, volume, climbs, never_fall, last_row, volume_at}
use Rattle.tables.specs.Quantity.{Quantity, quantity_of, unanswered, table_bytes, whole, covers, quantity_checks, answered, quantity_at}
use Rattle.tables.proofs.LastRow.{Last, is_last, NeverFalls, never_fall_is}
use Rattle.tables.proofs.Answer.{By, answer_by_lem, rises, at_row}
use Rattle.tables.proofs.Stands.{bytes_small}
use Rattle.tables.proofs.Checked.{quantity_rise, outside_is_14, covers_is, covers_if, covers_below, covers_above}

-- ---- first check first, and a refusal has volume 0

module _ (v : Version) (m : List ℕ) (t x : ℕ) where
  pub quantity_gives : Gives (quantity_checks v m t x) (quantity_at v m t x).number
  unfolding quantity_at answered
  quantity_gives = judged_gives (λ (q : Quantity). q.number) unanswered (quantity_checks v m t x) _ (λ n. refl) (λ p. refl)

  pub quantity_lowest : {c : Check} → Memᴰ c (quantity_checks v m t x) → c.passes ≡ false → (quantity_at v m t x).number ≤ c.number
  quantity_lowest = lowest_given (quantity_checks v m t x) _ (quantity_rise v m t x) quantity_gives

  pub refused_quantity : (quantity_at v m t x).number ≢ 0 → (quantity_at v m t x).volume ≡ 0
  unfolding quantity_at answered
  refused_quantity =
      judged_refused (λ (q : Quantity). q.number) unanswered (quantity_checks v m t x) _ (λ q. q.volume ≡ 0) (λ n. refl) (λ z. absurd (z refl))

  -- the promise is an equation, and leaves one outcome
  pub quantity_one_outcome : (q r : Quantity) → q ≡ quantity_at v m t x → r ≡ quantity_at v m t x → q ≡ r
  quantity_one_outcome q r a b = a ∙ sym b

  -- what is reported leads back to what was returned
  pub quantity_one_result : (q r : Result ℕ Refusal) → quantity_of q ≡ quantity_at v m t x → quantity_of r ≡ quantity_at v m t x → q ≡ r
  quantity_one_result q r a b =
      let e = a ∙ sym b in
      one_result 0 q r (ap (λ (z : Quantity). z.number) e) (ap (λ (z : Quantity). z.volume) e)

-- ---- what check 12 asks: all eleven bits are set, and no other word passes

module _ (m : List ℕ) (t : ℕ) where
  pub whole_is : whole m t ≡ true → Full (table_word m (table_index t)) 11
  unfolding whole
  whole_is h = go (lowest_missing_is w)
    where
      w : ℕ
      w = table_word m (table_index t)

      z : lowest_missing w ≡ 0
      z = eqb-true _ _ h

      go : Lowest 11 w (lowest_missing w) → Full w 11
      go (inl p) = p.1
      go (inr p) = absurd (let n : ⊥ = omega (arith, z, p.0) in n)

  pub whole_if : Full (table_word m (table_index t)) 11 → whole m t ≡ true
  unfolding whole
  whole_if h = eq-eqb _ _ (one_lowest 11 (table_word m (table_index t)) _ _ (lowest_missing_is (table_word m (table_index t))) (inl (refl, h)))

-- ---- which questions are answered

-- a table that answers: 1, 10, 12 and 13 pass, none of which looks at the level
pub record Answers (v : Version) (m : List ℕ) (t : ℕ) : Type 0 where
  pub usable_is : usable v m ≡ true
  pub table : is_table t ≡ true
  pub parts : whole m t ≡ true
  pub climbing : never_fall (table_bytes m t) ≡ true

module _ (v : Version) (m : List ℕ) (t : ℕ) where
  abbrev s : List ℕ
  s = table_bytes m t

  -- 0 is given exactly for a level from row 1's to row 352's of such a table
  pub answered_is : (x : ℕ) → (quantity_at v m t x).number ≡ 0 → Answers v m t × (level s 0 ≤ x) × (x ≤ level s 351)
  answered_is x z =
      let p : AllPass (quantity_checks v m t x) = none_fails 0 _ (quantity_rise v m t x) (sym (gives_one _ _ (quantity_gives v m t x)) ∙ z) in
      let c = covers_is s x p.1.1.1.1.0 in
      (record { usable_is = p.0; table = p.1.0; parts = p.1.1.0; climbing = p.1.1.1.0 }, c.0, c.1)

  module _ (a : Answers v m t) where
    pub answered_if : (x : ℕ) → level s 0 ≤ x → x ≤ level s 351 → quantity_at v m t x ≡ answered s x
    unfolding quantity_at
    answered_if x l h =
        judged_passed unanswered (quantity_checks v m t x) (answered s x)
        (a.usable_is, (a.table, (a.parts, (a.climbing, (covers_if s x l h, tt)))))

    -- any other level of it is 14, and so is every one above 65,535, since a row's level has two bytes
    outside : (x : ℕ) → covers s x ≡ false → quantity_at v m t x ≡ unanswered 14
    outside x = outside_is_14 v m t x a.usable_is a.table a.parts a.climbing

    pub below_first : (x : ℕ) → x < level s 0 → quantity_at v m t x ≡ unanswered 14
    below_first x l = outside x (covers_below s x l)

    pub above_last : (x : ℕ) → level s 351 < x → quantity_at v m t x ≡ unanswered 14
    above_last x l = outside x (covers_above s x l)

    pub above_65535 : (x : ℕ) → Bytes m → 65535 < x → quantity_at v m t x ≡ unanswered 14
    unfolding word_at
    above_65535 x b l = above_last x (omega (arith, bytes_small m t b 1404, bytes_small m t b 1405))

  -- ---- the answer

  pub answered_as : (x : ℕ) → (quantity_at v m t x).number ≡ 0 → quantity_at v m t x ≡ answered s x
  answered_as x z = let (a, l, h) = answered_is x z in answered_if a x l h

  volume_is : (x : ℕ) → (quantity_at v m t x).number ≡ 0 → (quantity_at v m t x).volume ≡ volume_at (level s) (volume s) 351 x
  unfolding answered
  volume_is x z = ap (λ (q : Quantity). q.volume) (answered_as x z)

  climbing : (x : ℕ) → (quantity_at v m t x).number ≡ 0 → every (climbs (level s) (volume s)) 351 ≡ true
  unfolding never_fall
  climbing x z = (answered_is x z).0.climbing

  -- of two levels the higher, where it is answered, never has the lower volume; the other may even be refused
  pub never_falls : (x y : ℕ) → (quantity_at v m t y).number ≡ 0 → x ≤ y → (quantity_at v m t x).volume ≤ (quantity_at v m t y).volume
  never_falls x y q h = go (ℕ_discrete (quantity_at v m t x).number 0)
    where
      go : Dec ((quantity_at v m t x).number ≡ 0) → (quantity_at v m t x).volume ≤ (quantity_at v m t y).volume
      go (yes p) = rw (volume_is x p, volume_is y q) (rises _ _ 351 (climbing x p) x y (answered_is x p).1 h)
      go (no n) = omega (arith, refused_quantity v m t x n)

  -- the row that answers, and what it gives
  pub answered_by : (x : ℕ) → (quantity_at v m t x).number ≡ 0 → By (level s) (volume s) 351 x (last_row (level s) x 351) (quantity_at v m t x).volume
  answered_by x z = rw (volume_is x z) (answer_by_lem _ _ 351 (climbing x z) x (answered_is x z).1)

-- ---- at the level of a row

-- row j is the last of the 352 with level x
pub record LastWith (s : List ℕ) (x j : ℕ) : Type 0 where
  pub most : j ≤ 351
  pub same : level s j ≡ x
  pub none_later : (k : ℕ) → j < k → k ≤ 351 → level s k ≢ x

module _ (v : Version) (m : List ℕ) (t : ℕ) (a : Answers v m t) where
  abbrev rows : List ℕ
  rows = table_bytes m t

  climb : NeverFalls rows
  climb = never_fall_is rows a.climbing

  -- the answer is the volume of the last row with that level
  pub at_a_row : (x j : ℕ) → LastWith rows x j → quantity_at v m t x ≡ record { number = 0; volume = volume rows j }
  unfolding answered never_fall
  at_a_row x j r =
      let e = at_row (level rows) (volume rows) 351 a.climbing j r.most (λ k p q. rw r.same (r.none_later k p q)) in
      let l : level rows 0 ≤ x = omega (arith, r.same, (climb 0 j (omega arith) r.most).0) in
      let h : x ≤ level rows 351 = omega (arith, r.same, (climb j 351 r.most (omega arith)).0) in
      answered_if v m t a x l h ∙ rw (← r.same, e)

  -- every row's level has one
  pub each_row_has : (i : ℕ) → i ≤ 351 → (j : ℕ) × LastWith rows (level rows i) j
  each_row_has i l = (j, record { most = r.most; same = same (dec_lt j i); none_later = λ k p q e. omega (arith, r.above k p q) })
    where
      j : ℕ
      j = last_row (level rows) (level rows i) 351

      r : Last (level rows) 351 (level rows i) j
      r = is_last (level rows) 351 (level rows i) (climb 0 i (omega arith) l).0

      same : Dec (j < i) → level rows j ≡ level rows i
      same (yes b) = absurd (let z : ⊥ = omega (arith, r.above i b l) in z)
      same (no b) = omega (arith, r.below, (climb i j (omega arith) r.most).0)

  -- so row 352's level has row 352's volume, also where many rows before it have that level, as in a table that is filled up with its last row
  pub at_the_top : quantity_at v m t (level rows 351) ≡ record { number = 0; volume = volume rows 351 }
  at_the_top = at_a_row _ 351 (record { most = omega arith; same = refl; none_later = λ k p q. absurd (let z : ⊥ = omega arith in z) })
