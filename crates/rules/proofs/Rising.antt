-- What check 11 asks of a body of 62: each row's temperature means more degrees than that of the row before, and nothing else. By induction on the
-- rows. Assumes nothing.
use mathlib.Core.Path.{◌≡◌, refl, sym, ◌∙◌}
use mathlib.Core.Logic.{◌↔◌}
use mathlib.Core.Bool.{true}
use mathlib.Core.List.{List}
use Prim.Native.Nat.{ℕ, zero, suc, ◌+◌, ◌-◌, ◌*◌, ◌≤◌, ◌<◌}
use native.Mathlib.Decide.{dec_lt}
use native.Mathlib.Omega.{arith}
use lib.ListN.{length, drop}
use lib.Signed.{lt_z}
use Rattle.laws.proofs.Tests.{and_both}
use Rattle.rules.specs.Rules.{byte, degrees, rises, commands, rule_of}
use Rattle.rules.specs.Verdict.{values_fit}
use Rattle.rules.proofs.Judging.{colder, rises_by, rises-done}

module _ (s : List ℕ) where
  first_rises : (i : ℕ) → i + 3 < length s → rises (drop i s) ≡ true → (colder s i ≡ true) × (rises (drop (i + 3) s) ≡ true)
  first_rises i l h = and_both (colder s i) (rises (drop (i + 3) s)) (sym (rises_by s i l) ∙ h)

  -- row r, counted from 0, of those that begin at index i, stands at index j
  rises_each : (r i j : ℕ) → j ≡ i + 3 * r → rises (drop i s) ≡ true → j + 3 < length s → colder s j ≡ true
  rises_each zero i j e h l =
      let z : i ≡ j = omega arith in
      rw z at (first_rises i (omega arith) h).0
  rises_each (suc r) i j e h l = rises_each r (i + 3) j (omega arith) (first_rises i (omega arith) h).1 l

  each_rises : (n i : ℕ) → length s ≤ i + 3 * n → ((r j : ℕ) → j ≡ i + 3 * r → j + 3 < length s → colder s j ≡ true) → rises (drop i s) ≡ true
  each_rises zero i h f = rises-done s i (omega arith)
  each_rises (suc n) i h f = go (dec_lt (i + 3) (length s)) (each_rises n (i + 3) (omega arith) (λ r j e l. f (suc r) j (omega arith) l))
    where
      go : Dec (i + 3 < length s) → rises (drop (i + 3) s) ≡ true → rises (drop i s) ≡ true
      go (yes l) e = rw (rises_by s i l, f 0 i (omega arith) l) e
      go (no l) e = rises-done s i (omega arith)

-- row r, counted from 1, has its temperature at byte 3r + 2, and the next at byte 3r + 5
abbrev pub ColderThanNext : List ℕ → ℕ → Type 0
ColderThanNext c r = lt_z (degrees (byte c (3 * r + 2))) (degrees (byte c (3 * r + 5))) ≡ true

module _ (c : List ℕ) (is-62 : byte c 2 ≡ 62) where
  check_11 : values_fit c ≡ rises (drop 4 c)
  unfolding values_fit rule_of commands
  check_11 = rw is-62 refl

  pub rises_exactly : (values_fit c ≡ true) ↔ ((r : ℕ) → 1 ≤ r → 3 * r + 5 ≤ length c → ColderThanNext c r)
  rises_exactly = (there, λ f. check_11 ∙ each_rises c (length c) 4 (omega arith) (row f))
    where
      there : values_fit c ≡ true → (r : ℕ) → 1 ≤ r → 3 * r + 5 ≤ length c → ColderThanNext c r
      there h r l g =
          let z : 3 * r + 2 - 1 + 3 ≡ 3 * r + 5 - 1 = omega arith in
          rw z at (rises_each c (r - 1) 4 (3 * r + 2 - 1) (omega arith) (sym check_11 ∙ h) (omega arith))

      row : ((r : ℕ) → 1 ≤ r → 3 * r + 5 ≤ length c → ColderThanNext c r) → (r j : ℕ) → j ≡ 4 + 3 * r → j + 3 < length c → colder c j ≡ true
      row f r j e l =
          let z : 3 * (r + 1) + 2 - 1 ≡ j = omega arith in
          let y : 3 * (r + 1) + 5 - 1 ≡ j + 3 = omega arith in
          rw (z, y) at (f (r + 1) (omega arith) (omega arith))
