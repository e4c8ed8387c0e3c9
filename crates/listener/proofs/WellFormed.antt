-- Which frames a listener finds: every one that passes checks 3 to 6, so every one that building writes. A digit is none of 3Ah, 0Dh and 0Ah, so that a
-- frame's ends are where those stand. Assumes nothing.
use mathlib.Core.Path.{◌≡◌, refl, sym, ◌∙◌}
use mathlib.Core.Logic.{◌≢◌}
use mathlib.Core.List.{List, [], ◌∷◌}
use mathlib.Core.Bool.{true, false, not, and-false}
use Prim.Native.Nat.{ℕ, suc, ◌+◌, ◌-◌, ◌<◌, ◌≤◌}
use native.Mathlib.Decide.{dec_lt, ℕ_discrete}
use native.Mathlib.Omega.{arith}
use lib.ListN.{length, get_or, drop, length-drop}
use lib.Seq.{get_or-take, get_or-drop}
use borrow.Author.Tests.{ne_eqb}
use Rattle.laws.specs.Bytes.{slice, zeros}
use Rattle.laws.specs.Checks.{AllPass, among, every}
use Rattle.laws.proofs.Bytes.{Bytes, length-zeros}
use Rattle.laws.proofs.Tests.{every_of}
use Rattle.frame.specs.Apart.{inner, frame_checks, apart}
use Rattle.frame.specs.Built.{built}
use Rattle.frame.proofs.Chars.{Digit, decimal, capital, small, digit_is, digit_at}
use Rattle.frame.proofs.Body.{length-inner}
use Rattle.frame.proofs.Answers.{ends_are}
use Rattle.frame.proofs.Passing.{passed_length, passed_ends, passed_digits, taken_0}
use Rattle.frame.proofs.RoundTrip.{build_then_take_apart}
use Rattle.listener.specs.Handing.{end_at, well_formed}
use Rattle.listener.proofs.Shapes.{well_is, frame_is}

-- 3Ah 0Dh 0Ah is a well-formed frame, and none has fewer bytes
abbrev pub short : List ℕ
short = 58 ∷ (13 ∷ (10 ∷ []))

pub shortest : (well_formed short ≡ true) × ((f : List ℕ) → well_formed f ≡ true → length short ≤ length f)
unfolding well_formed end_at among every
shortest = (refl, λ f w. (frame_is f w).low)

-- ---- what passes the checks

not_among : (k : ℕ) (l : List ℕ) → ((i : ℕ) → i < length l → get_or l i 0 ≢ k) → among k l ≡ false
unfolding among
not_among k [] h = refl
not_among k (x ∷ l) h = rw (ne_eqb k x (λ e. h 0 (omega arith) (sym e)), not_among k l (λ i low. h (suc i) (omega arith)))

module _ (f : List ℕ) (p : AllPass (frame_checks f)) where
  -- between the ends stand digits
  digit : (i : ℕ) → i < length f - 3 → Digit (get_or f (1 + i) 0)
  unfolding inner slice
  digit i low =
      let n = length-inner f (passed_length f p).0 in
      let at : get_or (inner f) i 0 ≡ get_or f (1 + i) 0 = get_or-take (length f - 3) (drop 1 f) i 0 low ∙ get_or-drop 1 f i 0 in
      rw at at (digit_is (get_or (inner f) i 0) (digit_at (inner f) i (passed_digits f p) (omega arith)))

  -- behind the first byte there is no 3Ah, and before the last no 0Ah
  behind : (i : ℕ) → i < length f - 1 → (get_or f (1 + i) 0 ≢ 58) × (i < length f - 2 → get_or f (1 + i) 0 ≢ 10)
  behind i low = by (dec_lt i (length f - 3)) (ℕ_discrete i (length f - 3))
    where
      of : Digit (get_or f (1 + i) 0) → (get_or f (1 + i) 0 ≢ 58) × (i < length f - 2 → get_or f (1 + i) 0 ≢ 10)
      of (decimal l h) = (omega arith, λ b. omega arith)
      of (capital l h) = (omega arith, λ b. omega arith)
      of (small l h) = (omega arith, λ b. omega arith)

      by : Dec (i < length f - 3) → Dec (i ≡ length f - 3) → (get_or f (1 + i) 0 ≢ 58) × (i < length f - 2 → get_or f (1 + i) 0 ≢ 10)
      by (yes h) d = of (digit i h)
      by (no h) (yes e) =
          let l = passed_length f p in
          let j : 1 + i ≡ length f - 2 = omega arith in
          let x = (ends_are f (passed_ends f p)).1 in
          rw j (omega arith, λ b. omega arith)
      by (no h) (no n) =
          let l = passed_length f p in
          let j : 1 + i ≡ length f - 1 = omega arith in
          let x = (ends_are f (passed_ends f p)).2 in
          rw j (omega arith, λ b. absurd (omega arith))

  pub passing_well_formed : well_formed f ≡ true
  unfolding end_at
  passing_well_formed =
      let l = passed_length f p in
      let e = ends_are f (passed_ends f p) in
      let last : length f - 2 + 1 ≡ length f - 1 = omega arith in
      let end : end_at f (length f - 2) ≡ true = rw (last, e.1, e.2) in
      well_is f (record { first = e.0; only = only; unended = every_of _ (length f - 2) unended }) l.1 ∙ end
    where
      only : among 58 (drop 1 f) ≡ false
      only = not_among 58 (drop 1 f) (λ i h. rw (get_or-drop 1 f i 0) (behind i (omega (arith, length-drop 1 f))).0)

      unended : (i : ℕ) → i < length f - 2 → not (end_at f i) ≡ true
      unended i h = let e : i + 1 ≡ 1 + i = omega arith in rw (e, ne_eqb _ 10 ((behind i (omega arith)).1 h), and-false)

-- ---- what is built

-- every frame that building writes: taken apart it would pass, and so it is well-formed
pub built_well_formed : (c out : List ℕ) → Bytes c → (built c out).number ≡ 0 → well_formed (slice 0 (built c out).len (built c out).out) ≡ true
unfolding slice
built_well_formed c out bytes z =
    let f = slice 0 (built c out).len (built c out).out in
    let room = zeros 132 in
    let a = apart f room in
    let d = build_then_take_apart (record { number = (built c out).number; len = (built c out).len }) (record { number = a.number; len = a.len }) out
    (built c out).out room a.out c bytes (record { number_is = refl; len_is = refl; out_is = refl }) z (omega (arith, length-zeros 132))
    (record { number_is = refl; len_is = refl; out_is = refl }) in
    passing_well_formed f (taken_0 f room d.number_is).1
