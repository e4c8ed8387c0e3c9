-- What each test says of the answer. Assumes nothing.
use mathlib.Core.Path.{◌≡◌, refl, sym, ◌∙◌}
use mathlib.Core.List.{List}
use mathlib.Core.Bool.{Bool, true, false, cond, ◌&&◌, and-false}
use Prim.Native.Nat.{ℕ, ◌+◌, ◌-◌, ◌*◌, ◌%◌, ◌≤◌, ◌<◌}
use native.Mathlib.Omega.{arith}
use lib.ListN.{length, get_or, take}
use lib.Dec.{eqb}
use borrow.Author.Tests.{le-leb, lt-leb, eq-eqb, eqb-true}
use Rattle.std.specs.Prelude.{Option, Some, None}
use Rattle.std.specs.Ordering.{is_le, nat_cmp}
use Rattle.std.proofs.lemmas.Bool.Decides.{nat_tests}
use Rattle.laws.specs.Checks.{judged, within}
use Rattle.laws.proofs.Tests.{and_both, within_is, within_in, within_below, within_above}
use Rattle.output.specs.Output.{Answer, refuse, written}
use Rattle.frame.specs.Digits.{all_digits}
use Rattle.frame.specs.Apart.{length_ok, ends_ok, inner, contents_of, sum_ok, frame_checks, apart}
use Rattle.frame.specs.Built.{frame_of, built}
use Rattle.frame.specs.Read.{ReadInto}

-- ---- a range, as the library tells it

pub in_range : (a b n : ℕ) → (is_le (nat_cmp a n) && is_le (nat_cmp n b)) ≡ within a b n
unfolding within
in_range a b n = grind (arith, nat_tests)

-- ---- a total, where all are digits

module _ (b : Bool) (n : ℕ) {t : Option ℕ} (is : t ≡ cond b (Some n) None) where
  pub told_some : (m : ℕ) → t ≡ Some m → (b ≡ true) × (m ≡ n)
  told_some m e = go b (sym e ∙ is)
    where
      go : (d : Bool) → Some m ≡ cond d (Some n) None → (d ≡ true) × (m ≡ n)
      go true h = (refl, cc)
      go false h = absurd (cc)

  pub told_none : t ≡ None → b ≡ false
  told_none e = go b (sym e ∙ is)
    where
      go : (d : Bool) → None ≡ cond d (Some n) None → d ≡ false
      go true h = absurd (cc)
      go false h = refl

-- ---- the length

module _ (n : ℕ) where
  pub length_below : n < 9 → length_ok n ≡ false
  unfolding length_ok
  length_below h = rw (within_below 9 269 n h)

  pub length_above : 269 < n → length_ok n ≡ false
  unfolding length_ok
  length_above h = rw (within_above 9 269 n h)

  pub length_even : n % 2 ≡ 0 → length_ok n ≡ false
  unfolding length_ok
  length_even h = rw (h, and-false)

  pub length-right : 9 ≤ n → n ≤ 269 → (n % 2 ≡ 0 → ⊥) → length_ok n ≡ true
  unfolding length_ok
  length-right h g odd = let e : n % 2 ≡ 1 = omega arith in rw (within_in 9 269 n h g, e)

  pub length_is : length_ok n ≡ true → (9 ≤ n) × (n ≤ 269) × (n % 2 ≡ 1)
  unfolding length_ok
  length_is h =
      let p = and_both _ _ h in
      let q = within_is 9 269 n p.0 in
      (q.0, q.1, eqb-true (n % 2) 1 p.1)

-- ---- the ends

module _ (f : List ℕ) where
  pub ends_third : get_or f 0 0 ≡ 58 → get_or f (length f - 2) 0 ≡ 13 → ends_ok f ≡ eqb (get_or f (length f - 1) 0) 10
  unfolding ends_ok
  ends_third h g = rw (eq-eqb _ 58 h, eq-eqb _ 13 g)

  pub ends_are : ends_ok f ≡ true → (get_or f 0 0 ≡ 58) × (get_or f (length f - 2) 0 ≡ 13) × (get_or f (length f - 1) 0 ≡ 10)
  unfolding ends_ok
  ends_are h =
      let p = and_both _ _ h in
      let q = and_both _ _ p.1 in
      (eqb-true _ 58 p.0, eqb-true _ 13 q.0, eqb-true _ 10 q.1)

-- ---- checks 3 to 6, in any reading

module _ {A : Type 0} (no : ℕ → A) (after : A) (f : List ℕ) where
  pub length_fails : length_ok (length f) ≡ false → judged no (frame_checks f) after ≡ no 3
  unfolding frame_checks judged
  length_fails l = rw l

  pub ends_fail : length_ok (length f) ≡ true → ends_ok f ≡ false → judged no (frame_checks f) after ≡ no 4
  unfolding frame_checks judged
  ends_fail l e = rw (l, e)

  pub digits_fail : length_ok (length f) ≡ true → ends_ok f ≡ true → all_digits (inner f) ≡ false → judged no (frame_checks f) after ≡ no 5
  unfolding frame_checks judged
  digits_fail l e d = rw (l, e, d)

  -- past them the sum decides
  pub sum_decides : (t : Bool) → length_ok (length f) ≡ true → ends_ok f ≡ true → all_digits (inner f) ≡ true → sum_ok f ≡ t
      → judged no (frame_checks f) after ≡ cond t after (no 6)
  unfolding frame_checks judged
  sum_decides t l e d s = rw (l, e, d, s)

-- ---- taking apart

module _ (f out : List ℕ) where
  pub apart_room : length out < 132 → apart f out ≡ refuse out 2
  unfolding apart judged
  apart_room h = rw (lt-leb 132 _ h)

  pub apart_checked : 132 ≤ length out → apart f out ≡ judged (refuse out) (frame_checks f) (written out (contents_of f))
  unfolding apart judged
  apart_checked h = rw (le-leb 132 _ h)

-- ---- a frame that was read

module _ (f work : List ℕ) where
  pub refused_read : (n : ℕ) → 0 < n → ((A : Type 0) (no : ℕ → A) (after : A) → judged no (frame_checks f) after ≡ no n)
      → ReadInto f (record { number = n; len = 0 }) work
  refused_read n h reads = record { answer_is = sym (reads Answer _ _); contents_are = λ z. absurd (omega arith) }

  pub passed_read : (k : ℕ) → ((A : Type 0) (no : ℕ → A) (after : A) → judged no (frame_checks f) after ≡ after) → k ≡ length (contents_of f)
      → take k work ≡ contents_of f → ReadInto f (record { number = 0; len = k }) work
  passed_read k reads l t = record { answer_is = rw l (sym (reads Answer _ _)); contents_are = λ z. t }

-- ---- building

module _ (c out : List ℕ) where
  pub built-length : within 2 132 (length c) ≡ false → built c out ≡ refuse out 3
  unfolding built judged
  built-length h = rw h

  pub built_room : 2 ≤ length c → length c ≤ 132 → length out < 2 * length c + 5 → built c out ≡ refuse out 2
  unfolding built judged
  built_room h g l = rw (within_in 2 132 _ h g, lt-leb _ _ l)

  pub built-done : 2 ≤ length c → length c ≤ 132 → 2 * length c + 5 ≤ length out → built c out ≡ written out (frame_of c)
  unfolding built judged
  built-done h g l = rw (within_in 2 132 _ h g, le-leb _ _ l)
