-- Frames that pass checks 3 to 6, and those that do not: what a caller of reading and of taking apart has in hand. Assumes nothing.
use mathlib.Core.Path.{◌≡◌, refl, sym, ap, ◌∙◌}
use mathlib.Core.List.{List}
use mathlib.Core.Bool.{true}
use Prim.Native.Nat.{ℕ, ◌-◌, ◌%◌, ◌≤◌}
use native.Mathlib.Omega.{arith}
use lib.ListN.{length, take}
use borrow.Author.Tests.{leb-true}
use Rattle.std.specs.Prelude.{Err}
use Rattle.laws.specs.Checks.{judged, first_failing, AllPass, rising_from}
use Rattle.laws.proofs.Bytes.{Bytes, bytes_slice}
use Rattle.laws.proofs.Checks as Checks
use Rattle.laws.proofs.Checks.{Judged, judge, judged_number, judged_passed, none_fails}
use Rattle.output.specs.declared.refusal.Refusal.{Refusal}
use Rattle.output.specs.Refusal.{number_of}
use Rattle.output.specs.Output.{Answer, answer_of, OutputAfter, refuse, written}
use Rattle.output.proofs.Refusals.{above_0}
use Rattle.frame.specs.Digits.{all_digits}
use Rattle.frame.specs.Apart.{ends_ok, inner, body_of, contents_of, sum_ok, frame_checks, apart_checks, apart}
use Rattle.frame.specs.Read.{ReadInto}
use Rattle.frame.proofs.Body.{length_contents}
use Rattle.frame.proofs.Answers.{length_is, apart_checked}
use Rattle.frame.proofs.Coding.{bytes_low}

module _ (f : List ℕ) where
  rising : rising_from 2 (frame_checks f) ≡ true
  unfolding rising_from frame_checks
  rising = refl

  -- ---- the checks pass

  module _ (p : AllPass (frame_checks f)) where
    pub passed_length : (9 ≤ length f) × (length f ≤ 269) × (length f % 2 ≡ 1)
    unfolding frame_checks
    passed_length = length_is (length f) p.0

    pub passed_ends : ends_ok f ≡ true
    unfolding frame_checks
    passed_ends = p.1.0

    pub passed_digits : all_digits (inner f) ≡ true
    unfolding frame_checks
    passed_digits = p.1.1.0

    pub passed_sum : sum_ok f ≡ true
    unfolding frame_checks
    passed_sum = p.1.1.1.0

    pub contents_bytes : Bytes (contents_of f)
    unfolding contents_of body_of
    contents_bytes = bytes_slice 0 (length (body_of f) - 1) (body_of f) (bytes_low (inner f) passed_digits)

    pub contents_length : (2 ≤ length (contents_of f)) × (length (contents_of f) ≤ 132)
    contents_length =
        let l = passed_length in
        let n = length_contents f l.0 in
        (omega arith, omega arith)

pub apart_passed : (f out : List ℕ) → 132 ≤ length out → AllPass (frame_checks f) → apart f out ≡ written out (contents_of f)
apart_passed f out room p = apart_checked f out room ∙ judged_passed (refuse out) (frame_checks f) (written out (contents_of f)) p

-- ---- a frame that was read into a work array

module _ {f w : List ℕ} {r : Answer} (d : ReadInto f r w) where
  -- where the checks pass it is 0
  pub read_0 : AllPass (frame_checks f) → r.number ≡ 0
  read_0 p = ap (λ (a : Answer). a.number) (d.answer_is ∙ judged_passed _ (frame_checks f) _ p)

  -- a number that is not 0 is the answer of every reading of the checks
  pub read_refuses : (r.number ≡ 0 → ⊥) → (A : Type 0) (refusal : ℕ → A) (after : A) → judged refusal (frame_checks f) after ≡ refusal r.number
  read_refuses n = go (judge (frame_checks f))
    where
      go : Judged (frame_checks f) → (A : Type 0) (refusal : ℕ → A) (after : A) → judged refusal (frame_checks f) after ≡ refusal r.number
      go (Checks.passed p) A refusal after = absurd (n (read_0 p))
      go (Checks.failed c i h) A refusal after = h A refusal after ∙ ap refusal (sym (ap (λ (a : Answer). a.number) (d.answer_is ∙ h Answer _ _)))

  -- and nothing is reported with it
  pub read_refused : (r.number ≡ 0 → ⊥) → r.len ≡ 0
  read_refused n = ap (λ (a : Answer). a.len) (d.answer_is ∙ read_refuses n Answer _ _)

  -- with 0 the checks passed, and the contents stand in the array
  module _ (zero_is : r.number ≡ 0) where
    pub read_passes : AllPass (frame_checks f)
    read_passes =
        let n = judged_number (λ (a : Answer). a.number) _ (frame_checks f) _ (λ k. refl) (λ p. refl) in
        none_fails 2 (frame_checks f) (rising f) (sym n ∙ sym (ap (λ (a : Answer). a.number) d.answer_is) ∙ zero_is)

    pub read_long : (r.len ≡ length (contents_of f)) × (r.len ≤ 132) × (length (take r.len w) ≡ r.len)
    read_long =
        let l = ap (λ (a : Answer). a.len) (d.answer_is ∙ judged_passed _ (frame_checks f) _ read_passes) in
        let c = contents_length f read_passes in
        (l, omega arith, ap length (d.contents_are zero_is) ∙ sym l)

-- a refusal is that of every reading of the checks
pub read_err : {f w : List ℕ} (e : Refusal) → ReadInto f (answer_of (Err e)) w → (A : Type 0) (refusal : ℕ → A) (after : A)
    → judged refusal (frame_checks f) after ≡ refusal (number_of e)
read_err e d = read_refuses d (λ z. let p = above_0 e in omega arith)

-- an answer of number 0 says that all checks passed, room for the contents among them
pub taken_0 : (f out : List ℕ) → (apart f out).number ≡ 0 → (132 ≤ length out) × AllPass (frame_checks f)
unfolding apart first_failing rising_from
taken_0 f out z =
    let cs = apart_checks f out in
    let n = judged_number (λ (a : OutputAfter). a.number) (refuse out) cs (written out (contents_of f)) (λ n. refl) (λ p. refl) in
    let p : AllPass cs = none_fails 1 cs (rising f) (sym n ∙ z) in
    (leb-true 132 (length out) p.0, p.1)
