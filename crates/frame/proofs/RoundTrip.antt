-- Building and taking apart undo each other: contents come back as they were, a frame in its capital form. Assumes nothing.
use mathlib.Core.Path.{◌≡◌, refl, sym, ap, ◌∙◌}
use mathlib.Core.List.{List, [], ◌∷◌, ◌++◌, map-append}
use mathlib.Core.Bool.{Bool, true, false}
use Prim.Native.Nat.{ℕ, suc, ◌+◌, ◌-◌, ◌*◌, ◌≤◌, ◌<◌}
use native.Mathlib.Omega.{arith}
use lib.ListN.{length, get_or, take, drop, length-append, take-append-drop}
use lib.Seq.{take_at, get_or_at, get_or-append-add, take-suc, take_all, take-add, drop-length}
use lib.Dec.{leb}
use borrow.Author.Tests.{eq-eqb, eqb-true, leb-true}
use Rattle.laws.specs.Bytes.{slice}
use Rattle.laws.specs.Checks.{judged, AllPass, within, all}
use Rattle.laws.proofs.Bytes.{Bytes, bytes_none, bytes_cons, bytes_append}
use Rattle.laws.proofs.Tests.{within_is, all_then}
use Rattle.laws.proofs.Walks.{next2}
use Rattle.output.specs.Output.{Answer, written, Does}
use Rattle.output.proofs.Outcomes.{stands_there}
use Rattle.frame.specs.Digits.{all_digits, chars_of, checksum_of}
use Rattle.frame.specs.Capitals.{capital_of, capital_form, no_small}
use Rattle.frame.specs.Apart.{length_ok, ends_ok, inner, body_of, contents_of, sum_ok, frame_checks, apart}
use Rattle.frame.specs.Built.{frame_of, built}
use Rattle.frame.proofs.FrameLaid.{length_chars, length_frame}
use Rattle.frame.proofs.Body.{length-inner, length-body}
use Rattle.frame.proofs.Answers.{length-right, ends_are, ends_third, built-done}
use Rattle.frame.proofs.Capitals.{capital_self, capital_long}
use Rattle.frame.proofs.Coding.{digits_chars, bytes_chars, capitals_chars, chars_bytes}
use Rattle.frame.proofs.Passing.{apart_passed, passed_length, passed_ends, passed_digits, passed_sum, contents_length, taken_0}

-- ---- a built frame is taken apart

-- the body: the contents, and their checksum
unfoldable body : List ℕ → List ℕ
body c = c ++ (checksum_of c ∷ [])

length_whole : (c : List ℕ) → length (body c) ≡ length c + 1
unfolding body
length_whole c = length-append c (checksum_of c ∷ [])

module _ (c : List ℕ) where
  inner_frame : inner (frame_of c) ≡ chars_of (body c)
  unfolding inner slice frame_of body
  inner_frame =
      let e : length (frame_of c) - 3 ≡ length (chars_of (body c)) = omega (arith, length_frame c, length_chars (body c), length_whole c) in
      rw e (take_at (chars_of (body c)) (13 ∷ (10 ∷ [])) _ refl)

  ends_frame_lem : ends_ok (frame_of c) ≡ true
  unfolding frame_of body
  ends_frame_lem =
      let n = chars_of (body c) in
      let e : length (frame_of c) ≡ length n + 3 = omega (arith, length_frame c, length_chars (body c), length_whole c) in
      let i : length (frame_of c) - 2 ≡ suc (length n) = omega arith in
      let j : length (frame_of c) - 1 ≡ suc (length n + 1) = omega arith in
      let a : get_or (frame_of c) (length (frame_of c) - 2) 0 ≡ 13 = rw i (get_or_at n 13 (10 ∷ []) 0 (length n) refl) in
      let b : get_or (frame_of c) (length (frame_of c) - 1) 0 ≡ 10 = rw j (get_or-append-add n (13 ∷ (10 ∷ [])) 1 0) in
      ends_third (frame_of c) refl a ∙ eq-eqb _ 10 b

  module _ (bytes : Bytes c) where
    whole : Bytes (body c)
    unfolding body checksum_of
    whole = bytes_append c (checksum_of c ∷ []) bytes (bytes_cons (checksum_of c) [] (omega arith) bytes_none)

    body_frame : body_of (frame_of c) ≡ body c
    unfolding body_of
    body_frame = rw inner_frame (bytes_chars (body c) whole)

    pub contents_frame : contents_of (frame_of c) ≡ c
    unfolding contents_of slice body
    contents_frame =
        let e : length (body c) - 1 ≡ length c = omega (arith, length_whole c) in
        rw (body_frame, e) (take_at c (checksum_of c ∷ []) (length c) refl)

    sum_frame : sum_ok (frame_of c) ≡ true
    unfolding sum_ok body
    sum_frame =
        let e : length (body c) - 1 ≡ length c = omega (arith, length_whole c) in
        rw (body_frame, contents_frame, e) (eq-eqb _ _ (get_or_at c (checksum_of c) [] 0 (length c) refl))

    -- what is built has no small letter
    pub frame_in_capitals : no_small (frame_of c) ≡ true
    unfolding frame_of body all within
    frame_in_capitals = all_then _ (chars_of (body c)) (13 ∷ (10 ∷ [])) (capitals_chars (body c) whole) refl

    module _ (low : 2 ≤ length c) (high : length c ≤ 132) where
      pub frame_passes : AllPass (frame_checks (frame_of c))
      unfolding frame_checks
      frame_passes =
          let n = length_frame c in
          let l : length_ok (length (frame_of c)) ≡ true = length-right _ (omega arith) (omega arith) (λ e. omega arith) in
          let d : all_digits (inner (frame_of c)) ≡ true = ap all_digits inner_frame ∙ digits_chars (body c) whole in
          (l, (ends_frame_lem, (d, (sum_frame, tt))))

      pub built_then_apart : (out : List ℕ) → 132 ≤ length out → apart (frame_of c) out ≡ written out c
      built_then_apart out room = apart_passed (frame_of c) out room frame_passes ∙ ap (written out) contents_frame

-- ---- a frame that is taken apart is built again, in capitals

-- a list is all but its last, and its last
last_split : (l : List ℕ) (n : ℕ) → length l ≡ n + 1 → take n l ++ (get_or l n 0 ∷ []) ≡ l
last_split l n e = sym (take-suc l n 0 (omega arith)) ∙ take_all (suc n) l (omega arith)

module _ (f : List ℕ) (p : AllPass (frame_checks f)) where
  tail_is : drop (length f - 2) f ≡ 13 ∷ (10 ∷ [])
  tail_is =
      let l = passed_length f p in
      let e = ends_are f (passed_ends f p) in
      let i : length f - 2 + 1 ≡ length f - 1 = omega arith in
      let j : length f - 2 + 2 ≡ length f = omega arith in
      let h : length f - 2 + 1 < length f = omega arith in
      next2 f (length f - 2) h ∙ rw (i, j, e.1, e.2, drop-length f)

  head_is : take (length f - 2) f ≡ 58 ∷ inner f
  unfolding inner slice
  head_is =
      let l = passed_length f p in
      let e : length f - 2 ≡ 1 + (length f - 3) = omega arith in
      let h : 0 < length f = omega arith in
      rw (e, take-add 1 (length f - 3) f, take-suc f 0 0 h, (ends_are f (passed_ends f p)).0)

  pub frame_is : f ≡ 58 ∷ (inner f ++ (13 ∷ (10 ∷ [])))
  frame_is = sym (take-append-drop (length f - 2) f) ∙ rw (head_is, tail_is)

  -- its ends are no letters
  capitals_are : 58 ∷ (capital_form (inner f) ++ (13 ∷ (10 ∷ []))) ≡ capital_form f
  unfolding capital_of within
  capitals_are = ap (λ (t : List ℕ). 58 ∷ t) (sym (map-append capital_of (inner f) (13 ∷ (10 ∷ [])))) ∙ ap capital_form (sym frame_is)

  body_is : contents_of f ++ (checksum_of (contents_of f) ∷ []) ≡ body_of f
  unfolding sum_ok contents_of slice
  body_is =
      let l = passed_length f p in
      let m : length (body_of f) ≡ length (body_of f) - 1 + 1 = omega (arith, length-body f l.0) in
      let k : get_or (body_of f) (length (body_of f) - 1) 0 ≡ checksum_of (contents_of f) = eqb-true _ _ (passed_sum f p) in
      rw (← k) (last_split (body_of f) (length (body_of f) - 1) m)

  back_in_capitals : frame_of (contents_of f) ≡ capital_form f
  unfolding frame_of body_of
  back_in_capitals =
      let l = passed_length f p in
      rw (body_is, chars_bytes (inner f) (passed_digits f p) (omega (arith, length-inner f l.0))) capitals_are

module _ (f out : List ℕ) (z : (apart f out).number ≡ 0) where
  pub apart_then_capitals : (frame_of (contents_of f) ≡ capital_form f) × (2 ≤ length (contents_of f)) × (length (contents_of f) ≤ 132)
  apart_then_capitals =
      let p = (taken_0 f out z).1 in
      let n = contents_length f p in
      (back_in_capitals f p, n.0, n.1)

  -- so, with room for it, building what was taken apart writes the capital form
  pub apart_then_capitals_written : (left : List ℕ) → length f ≤ length left → built (contents_of f) left ≡ written left (capital_form f)
  apart_then_capitals_written left room =
      let e = apart_then_capitals in
      let n : 2 * length (contents_of f) + 5 ≤ length left = omega (arith, length_frame (contents_of f), ap length e.0, capital_long f) in
      built-done (contents_of f) left e.1 e.2 n ∙ ap (written left) e.0

  -- and where the frame has no small letter, the frame
  module _ (n : no_small f ≡ true) where
    pub apart_then_built : (frame_of (contents_of f) ≡ f) × (2 ≤ length (contents_of f)) × (length (contents_of f) ≤ 132)
    apart_then_built = let e = apart_then_capitals in (e.0 ∙ capital_self f n, e.1, e.2)

    pub apart_then_written : (left : List ℕ) → length f ≤ length left → built (contents_of f) left ≡ written left f
    apart_then_written left room = apart_then_capitals_written left room ∙ ap (written left) (capital_self f n)

-- ---- the same of what the two functions leave, by their promises

-- an answer of number 0 says that building's checks passed
built_0 : (c out : List ℕ) → (built c out).number ≡ 0 → (2 ≤ length c) × (length c ≤ 132) × (2 * length c + 5 ≤ length out)
unfolding built judged
built_0 c out = go (within 2 132 (length c)) refl (leb (2 * length c + 5) (length out)) refl
  where
    go : (s : Bool) → within 2 132 (length c) ≡ s → (t : Bool) → leb (2 * length c + 5) (length out) ≡ t → (built c out).number ≡ 0
        → (2 ≤ length c) × (length c ≤ 132) × (2 * length c + 5 ≤ length out)
    go false e t f z = let n : ◌≡◌ {A = ℕ} 3 0 = rw e at z in absurd (omega arith)
    go true e false f z = let n : ◌≡◌ {A = ℕ} 2 0 = rw (e, f) at z in absurd (omega arith)
    go true e true f z = let w = within_is 2 132 (length c) e in (w.0, w.1, leb-true _ _ f)

module _ (r s : Answer) (out left out' left' : List ℕ) where
  -- the bytes that building left, taken apart
  pub build_then_take_apart : (c : List ℕ) → Bytes c → Does (built c out) r left → r.number ≡ 0 → 132 ≤ length out'
      → Does (apart (take r.len left) out') s left' → Does (written out' c) s left'
  build_then_take_apart c bytes d z room e =
      let n = built_0 c out (sym d.number_is ∙ z) in
      let t : take r.len left ≡ frame_of c =
      stands_there out left (frame_of c) r (omega (arith, length_frame c)) (rw (built-done c out n.0 n.1 n.2) at d) in
      rw (t, built_then_apart c bytes n.0 n.1 out' room) at e

  -- the bytes that taking apart left, built
  pub take_apart_then_build_capitals : (f : List ℕ) → Does (apart f out) r left → r.number ≡ 0 → length f ≤ length out'
      → Does (built (take r.len left) out') s left' → Does (written out' (capital_form f)) s left'
  take_apart_then_build_capitals f d z room e =
      let n = sym d.number_is ∙ z in
      let p = taken_0 f out n in
      let t : take r.len left ≡ contents_of f =
      stands_there out left (contents_of f) r (omega (arith, contents_length f p.1)) (rw (apart_passed f out p.0 p.1) at d) in
      rw (t, apart_then_capitals_written f out n out' room) at e

  pub take_apart_then_build : (f : List ℕ) → no_small f ≡ true → Does (apart f out) r left → r.number ≡ 0 → length f ≤ length out'
      → Does (built (take r.len left) out') s left' → Does (written out' f) s left'
  take_apart_then_build f n d z room e = rw (capital_self f n) at (take_apart_then_build_capitals f d z room e)
