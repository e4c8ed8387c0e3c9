-- The lengths of a frame's parts, the characters that its contents are read from, and the work array that holds its decoded body. Assumes nothing.
use mathlib.Core.Path.{◌≡◌, refl, ap, ◌∙◌}
use mathlib.Core.List.{List, [], ◌∷◌}
use Prim.Native.Nat.{ℕ, ◌+◌, ◌-◌, ◌*◌, ◌/◌, ◌≤◌, ◌<◌}
use native.Mathlib.Omega.{arith}
use lib.ListN.{length, get_or, take, drop}
use lib.Seq.{get_or-take, get_or-drop}
use Rattle.laws.specs.Bytes.{slice, lay}
use Rattle.laws.proofs.Bytes.{length-slice, slice_is, lay-take}
use Rattle.frame.specs.Digits.{value_of, bytes_of}
use Rattle.frame.specs.Apart.{inner, body_of, contents_of}
use Rattle.frame.proofs.Coding.{bytes_each}

length_bytes : (s : List ℕ) → length (bytes_of s) ≡ length s / 2
unfolding bytes_of
length_bytes [] = refl
length_bytes (x ∷ []) = refl
length_bytes (x ∷ (y ∷ s)) = let e = length_bytes s in omega arith

module _ (f : List ℕ) (low : 9 ≤ length f) where
  pub chars_are : take (length f - 2 - 1) (drop 1 f) ≡ inner f
  unfolding inner
  chars_are = slice_is 1 (length f - 2) (length f - 3) f (omega arith)

  pub length-inner : length (inner f) ≡ length f - 3
  unfolding inner
  length-inner = length-slice 1 (length f - 3) f (omega arith)

  pub length-body : length (body_of f) ≡ (length f - 3) / 2
  unfolding body_of
  length-body = length_bytes (inner f) ∙ ap (λ (n : ℕ). n / 2) length-inner

  pub length_contents : length (contents_of f) ≡ (length f - 3) / 2 - 1
  unfolding contents_of
  length_contents = length-slice 0 (length (body_of f) - 1) (body_of f) (omega arith) ∙ ap (λ (n : ℕ). n - 1) length-body

  char_at : (k : ℕ) → k < length f - 3 → get_or (inner f) k 0 ≡ get_or f (k + 1) 0
  unfolding inner slice
  char_at k h = let e : k + 1 ≡ 1 + k = omega arith in rw e (get_or-take (length f - 3) (drop 1 f) k 0 h ∙ get_or-drop 1 f k 0)

  -- the contents, read off the line: a byte is what its two characters in the frame stand for
  pub contents_each : (i : ℕ) → i < (length f - 3) / 2 - 1
      → get_or (contents_of f) i 0 ≡ 16 * value_of (get_or f (2 * i + 1) 0) + value_of (get_or f (2 * i + 2) 0)
  unfolding contents_of slice body_of
  contents_each i h =
      let e : 2 * i + 1 + 1 ≡ 2 * i + 2 = omega arith in
      get_or-take (length (body_of f) - 1) (body_of f) i 0 (omega (arith, length-body))
      ∙ bytes_each (inner f) i (omega (arith, length-inner))
      ∙ rw (char_at (2 * i) (omega arith), char_at (2 * i + 1) (omega arith), e)

  module _ (high : length f ≤ 269) (z work : List ℕ) (long : 133 ≤ length z) (is : work ≡ lay z 0 (bytes_of (take (length f - 2 - 1) (drop 1 f)))) where
    is_body : work ≡ lay z 0 (body_of f)
    unfolding body_of
    is_body = is ∙ ap (λ (s : List ℕ). lay z 0 (bytes_of s)) chars_are

    pub work_contents : take ((length f - 3) / 2 - 1) work ≡ contents_of f
    unfolding contents_of slice
    work_contents =
        let e = length-body in
        rw (← length-body, is_body) (lay-take z (body_of f) (omega arith) (length (body_of f) - 1) (omega arith))
