-- The total that technicians look at is 0 exactly when the checksum is right (document 02, request 4): a sum is the last byte and the sum of those
-- before it. Assumes nothing.
use mathlib.Core.Path.{◌≡◌, refl, sym, ◌∙◌}
use mathlib.Core.Logic.{◌↔◌}
use mathlib.Core.List.{List, [], ◌∷◌}
use mathlib.Core.Bool.{true}
use Prim.Native.Nat.{ℕ, ◌+◌, ◌-◌, ◌%◌, ◌≤◌, ◌<◌}
use native.Mathlib.Decide.{ℕ_discrete}
use native.Mathlib.Numerals.{sub-one}
use native.Mathlib.Omega.{arith}
use lib.ListN.{length, get_or}
use lib.Dec.{eqb}
use borrow.Author.Tests.{eq-eqb, ne_eqb, eqb-true}
use Rattle.laws.specs.Bytes.{slice, sum_of}
use Rattle.laws.proofs.Bytes.{Bytes}
use Rattle.frame.specs.Digits.{all_digits, bytes_of, checksum_of}
use Rattle.frame.specs.Apart.{inner, body_of, contents_of, sum_ok}
use Rattle.frame.specs.Built.{frame_of}
use Rattle.frame.proofs.Coding.{bytes_low}
use Rattle.frame.proofs.Passing.{passed_digits, passed_sum}
use Rattle.frame.proofs.RoundTrip.{frame_passes}

sum_last : (b : List ℕ) → sum_of b ≡ sum_of (slice 0 (length b - 1) b) + get_or b (length b - 1) 0
unfolding sum_of slice
sum_last [] = refl
sum_last (x ∷ []) = omega arith
sum_last (x ∷ (y ∷ l)) = simp sub-one (omega (arith, simp sub-one at (sum_last (y ∷ l))))

-- the last of a list is the checksum of those before it exactly when it is a byte and all of them add up to 0, carries dropped
pub total_exactly : (b : List ℕ)
    → (get_or b (length b - 1) 0 ≡ checksum_of (slice 0 (length b - 1) b)) ↔ ((get_or b (length b - 1) 0 < 256) × (sum_of b % 256 ≡ 0))
unfolding checksum_of
total_exactly b = (λ e. (omega arith, omega (arith, sum_last b)), λ z. omega (arith, sum_last b))

-- so for a frame whose characters are digits, to look for 0 is to test what is defined. The body stands here as it is read off the line, with no name
-- that could go wrong together with `sum_ok`
pub sum_by_total : (f : List ℕ) → all_digits (slice 1 (length f - 3) f) ≡ true → sum_ok f ≡ eqb (sum_of (bytes_of (slice 1 (length f - 3) f)) % 256) 0
unfolding sum_ok contents_of body_of inner
sum_by_total f d = go (ℕ_discrete (sum_of (body_of f) % 256) 0)
  where
    byte : get_or (body_of f) (length (body_of f) - 1) 0 < 256
    byte = bytes_low (inner f) d (length (body_of f) - 1)

    go : Dec (sum_of (body_of f) % 256 ≡ 0) → sum_ok f ≡ eqb (sum_of (body_of f) % 256) 0
    go (yes z) = eq-eqb _ _ ((total_exactly (body_of f)).1 (byte, z)) ∙ sym (eq-eqb _ 0 z)
    go (no n) = ne_eqb _ _ (λ e. n ((total_exactly (body_of f)).0 e).1) ∙ sym (ne_eqb _ 0 n)

-- and what is built adds up to 0, read so
pub built_total : (c : List ℕ) → Bytes c → 2 ≤ length c → length c ≤ 132
    → sum_of (bytes_of (slice 1 (length (frame_of c) - 3) (frame_of c))) % 256 ≡ 0
unfolding inner
built_total c bytes low high =
    let p = frame_passes c bytes low high in
    eqb-true _ 0 (sym (sum_by_total (frame_of c) (passed_digits (frame_of c) p)) ∙ passed_sum (frame_of c) p)
