-- What the checks of a question come to: the five in their order, and each for its own reason; then as the code goes through them, by the held-parts
-- question and by the rows. Assumes nothing.
use mathlib.Core.Path.{◌≡◌, refl, sym, ap, ◌∙◌}
use mathlib.Core.Logic.{◌≢◌}
use mathlib.Core.List.{List, [], ◌∷◌, map}
use mathlib.Core.Bool.{true, false}
use Prim.Native.Nat.{ℕ, ◌<◌, ◌≤◌}
use native.Mathlib.Decide.{dec_lt}
use native.Mathlib.Omega.{arith}
use borrow.Author.Tests.{eq-eqb, ne_eqb}
use Rattle.std.specs.Prelude.{Ok, Err, Option, Some, None, is_some, unwrap_or}
use Rattle.std.specs.Option.{ForSome}
use Rattle.laws.specs.Checks.{judged, first_failing, AllPass, rising_from}
use Rattle.laws.proofs.Tests.{never, within_is, within_in, within_below, within_above}
use Rattle.laws.proofs.Checks.{Judged, passed, failed, judge, judged_number, none_fails}
use Rattle.output.specs.declared.refusal.Refusal.{Refusal}
use Rattle.output.specs.Refusal.{number_of}
use Rattle.output.proofs.Refusals.{above_0}
use Rattle.image.specs.declared.parts.Held.{Held}
use Rattle.image.specs.declared.version.Version.{Version}
use Rattle.image.specs.Cell.{is_table, table_index}
use Rattle.image.specs.Words.{table_word}
use Rattle.image.specs.Usable.{usable}
use Rattle.image.specs.Held.{HeldAnswer, lowest_missing, unheld, held_of, held_checks, held_parts, held_in}
use Rattle.tables.specs.Rows.{level, never_fall}
use Rattle.tables.specs.Quantity.{Quantity, unanswered, table_bytes, whole, covers, row_checks, quantity_checks, answered, quantity_at}

-- ---- the five, in their order

module _ (v : Version) (m : List ℕ) (t x : ℕ) where
  pub quantity_numbered : map (λ c. c.number) (quantity_checks v m t x) ≡ 1 ∷ (10 ∷ (12 ∷ (13 ∷ (14 ∷ []))))
  quantity_numbered = refl

  pub quantity_rise : rising_from 0 (quantity_checks v m t x) ≡ true
  unfolding rising_from
  quantity_rise = refl

  -- ---- each for its own reason

  pub unusable_is_1 : usable v m ≡ false → quantity_at v m t x ≡ unanswered 1
  unfolding quantity_at judged
  unusable_is_1 u = rw u

  module _ (u : usable v m ≡ true) where
    pub no_table_is_10 : is_table t ≡ false → quantity_at v m t x ≡ unanswered 10
    unfolding quantity_at judged
    no_table_is_10 h = rw (u, h)

    module _ (h : is_table t ≡ true) where
      pub lacking_is_12 : whole m t ≡ false → quantity_at v m t x ≡ unanswered 12
      unfolding quantity_at judged
      lacking_is_12 w = rw (u, h, w)

      module _ (w : whole m t ≡ true) where
        pub falling_is_13 : never_fall (table_bytes m t) ≡ false → quantity_at v m t x ≡ unanswered 13
        unfolding quantity_at judged
        falling_is_13 n = rw (u, h, w, n)

        pub outside_is_14 : never_fall (table_bytes m t) ≡ true → covers (table_bytes m t) x ≡ false → quantity_at v m t x ≡ unanswered 14
        unfolding quantity_at judged
        outside_is_14 n c = rw (u, h, w, n, c)

-- ---- by what the held-parts question returns

counted_some : (o : Option ℕ) → ForSome o (λ p. 0 < p) → is_some o ≡ true → unwrap_or o 0 ≢ 0
counted_some None c n z = never n
counted_some (Some p) c n z = let h : 0 < p = c p refl in let e : p ≡ 0 = z in omega arith

counted_none : (o : Option ℕ) → is_some o ≡ false → unwrap_or o 0 ≡ 0
counted_none None n = refl
counted_none (Some p) n = absurd (never (sym n))

module _ (v : Version) (m : List ℕ) (t : ℕ) where
  held_number : (held_parts v m t).number ≡ first_failing (held_checks v m t)
  unfolding held_parts held_of
  held_number = judged_number (λ (a : HeldAnswer). a.number) unheld (held_checks v m t) _ (λ n. refl) (λ p. refl)

  -- its refusals are the first two
  pub held_refused : (r : Refusal) → held_in (Err r) ≡ held_parts v m t → (x : ℕ) → quantity_at v m t x ≡ unanswered (number_of r)
  unfolding quantity_at held_parts held_of judged
  held_refused r e x = go (judge (held_checks v m t))
    where
      number : number_of r ≡ (held_parts v m t).number
      number = ap (λ (a : HeldAnswer). a.number) e

      go : Judged (held_checks v m t) → quantity_at v m t x ≡ unanswered (number_of r)
      go (passed p) = absurd (let z : number_of r ≡ 0 = number ∙ rw (p.0, p.1.0) in omega (arith, above_0 r))
      go (failed c f reads) =
          let same : number_of r ≡ c.number = number ∙ ap (λ (a : HeldAnswer). a.number) (reads HeldAnswer unheld _) in
          reads Quantity unanswered _ ∙ ap unanswered (sym same)

  module _ (h : Held) (e : held_in (Ok h) ≡ held_parts v m t) where
    -- else its two checks pass
    pub held_passes : AllPass (held_checks v m t)
    unfolding rising_from
    held_passes = none_fails 0 (held_checks v m t) refl (sym held_number ∙ sym (ap (λ (a : HeldAnswer). a.number) e))

    missing_is : unwrap_or h.missing 0 ≡ lowest_missing (table_word m (table_index t))
    unfolding held_parts held_of judged
    missing_is = let p = held_passes in ap (λ (a : HeldAnswer). a.missing) e ∙ rw (p.0, p.1.0)

    -- a part that is missing is 12
    pub part_missing : is_some h.missing ≡ true → (x : ℕ) → quantity_at v m t x ≡ unanswered 12
    unfolding whole
    part_missing n x = let p = held_passes in lacking_is_12 v m t x p.0 p.1.0 (ne_eqb _ 0 (λ z. counted_some h.missing h.counted n (missing_is ∙ z)))

    -- where none is, the rows decide
    pub none_missing : is_some h.missing ≡ false → (x : ℕ) → quantity_at v m t x ≡ judged unanswered (row_checks (table_bytes m t) x) (answered (table_bytes m t) x)
    unfolding quantity_at judged whole
    none_missing n x = let p = held_passes in rw (p.0, p.1.0, eq-eqb _ 0 (sym missing_is ∙ counted_none h.missing n))

-- ---- by the rows

module _ (s : List ℕ) (x : ℕ) where
  pub covers_is : covers s x ≡ true → (level s 0 ≤ x) × (x ≤ level s 351)
  unfolding covers
  covers_is = within_is (level s 0) (level s 351) x

  pub covers_if : level s 0 ≤ x → x ≤ level s 351 → covers s x ≡ true
  unfolding covers
  covers_if = within_in (level s 0) (level s 351) x

  pub covers_below : x < level s 0 → covers s x ≡ false
  unfolding covers
  covers_below = within_below (level s 0) (level s 351) x

  pub covers_above : level s 351 < x → covers s x ≡ false
  unfolding covers
  covers_above = within_above (level s 0) (level s 351) x

  abbrev by_rows : Quantity
  by_rows = judged unanswered (row_checks s x) (answered s x)

  pub falling : never_fall s ≡ false → by_rows ≡ unanswered 13
  unfolding judged
  falling h = rw h

  module _ (h : never_fall s ≡ true) where
    pub too_low : x < level s 0 → by_rows ≡ unanswered 14
    unfolding judged
    too_low l = rw (h, covers_below l)

    pub too_high : level s 351 < x → by_rows ≡ unanswered 14
    unfolding judged
    too_high l = rw (h, covers_above l)

    pub inside : level s 0 ≤ x → x ≤ level s 351 → by_rows ≡ answered s x
    unfolding judged
    inside l g = rw (h, covers_if l g)

    -- what a range from row 1's level to row 352's does not contain
    pub outside : (level s 0 ≤ x → x ≤ level s 351 → ⊥) → by_rows ≡ unanswered 14
    outside n = go (dec_lt x (level s 0)) (dec_lt (level s 351) x)
      where
        go : Dec (x < level s 0) → Dec (level s 351 < x) → by_rows ≡ unanswered 14
        go (yes l) d = too_low l
        go (no a) (yes l) = too_high l
        go (no a) (no b) = absurd (n (omega arith) (omega arith))
