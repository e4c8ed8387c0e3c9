-- A fresh image: how code comes by it, how it begins, that it is usable, and that it holds no part. Assumes nothing.
use mathlib.Core.Path.{◌≡◌, refl, sym, ap, ◌∙◌}
use mathlib.Core.Logic.{◌≢◌}
use mathlib.Core.List.{List, [], ◌∷◌, ◌++◌}
use mathlib.Core.Bool.{true}
use Prim.Native.Nat.{ℕ, ◌+◌, ◌/◌, ◌%◌, ◌≤◌, ◌<◌}
use native.Mathlib.Omega.{arith}
use lib.ListN.{length, get_or, drop, set, replicate}
use borrow.Author.Tests.{eq-eqb, ne_eqb}
use Rattle.laws.specs.Bytes.{slice, lay, zeros, two, word_at}
use Rattle.laws.specs.Checks.{judged}
use Rattle.laws.specs.Bits.{bit, ones_in}
use Rattle.laws.proofs.Bytes.{length-zeros, length-lay, lay_at, lay_out, lay_start, lay-append, lay_one, slice-lay, zeros_at}
use Rattle.laws.proofs.Bits.{bit-none}
use Rattle.image.specs.declared.cell.Cell.TheVariants.{Errors}
use Rattle.image.specs.declared.version.Version.{Version}
use Rattle.image.specs.declared.version.Version.TheVariants.{V1, V2}
use Rattle.image.specs.Version.{current, version_number, image_length}
use Rattle.image.specs.Cell.{is_table, table_index, offset}
use Rattle.image.specs.Words.{table_word, word_offset}
use Rattle.image.specs.Usable.{usable, mark_ok, address_ok}
use Rattle.image.specs.Fresh.{fresh}
use Rattle.image.specs.Held.{missing_from, lowest_missing, held_of, held_parts}
use Rattle.image.proofs.UsableFacts.{least_length, usable_of}

-- ---- cleared, and marked from the front

zeros_are : (n : ℕ) → zeros n ≡ replicate n 0
unfolding zeros
zeros_are n = refl

marked : (z : List ℕ) (n a : ℕ) → 3 ≤ length z
    → set (lay ((73 ∷ (90 ∷ (75 ∷ []))) ++ drop 3 z) 3 (two n)) 5 a ≡ lay z 0 (73 ∷ (90 ∷ (75 ∷ (n / 256 ∷ (n % 256 ∷ (a ∷ []))))))
unfolding two
marked z n a h =
    let mark : List ℕ = 73 ∷ (90 ∷ (75 ∷ [])) in
    let behind : List ℕ = n / 256 ∷ (n % 256 ∷ []) in
    rw (← lay_start z mark h, lay_one)
    (sym (lay-append z 0 (mark ++ behind) (a ∷ []) ∙ ap (λ (l : List ℕ). lay l 5 (a ∷ [])) (lay-append z 0 mark behind)))

pub fresh_is : (m z : List ℕ) (a : ℕ) → length m ≡ image_length current → z ≡ replicate (length m) 0
    → set (lay ((73 ∷ (90 ∷ (75 ∷ []))) ++ drop 3 z) 3 (two (version_number current))) 5 a ≡ fresh current a
unfolding fresh
fresh_is m z a h e =
    let f : z ≡ zeros (image_length current) = e ∙ sym (zeros_are (length m)) ∙ ap zeros h in
    rw f (marked (zeros (image_length current)) (version_number current) a (omega (arith, length-zeros (image_length current))))

-- ---- its bytes

abbrev pub head : Version → ℕ → List ℕ
head v a = 73 ∷ (90 ∷ (75 ∷ (0 ∷ (version_number v ∷ (a ∷ [])))))

module _ (v : Version) (a : ℕ) where
  length-fresh : length (fresh v a) ≡ image_length v
  unfolding fresh
  length-fresh = length-lay (zeros (image_length v)) 0 (head v a) ∙ length-zeros (image_length v)

  pub head_at : (i : ℕ) → i < 6 → get_or (fresh v a) i 0 ≡ get_or (head v a) i 0
  unfolding fresh
  head_at i h = lay_at (zeros (image_length v)) (head v a) (omega (arith, length-zeros (image_length v), least_length v)) i h

  pub rest_at : (i : ℕ) → 6 ≤ i → get_or (fresh v a) i 0 ≡ 0
  unfolding fresh
  rest_at i h = lay_out (zeros (image_length v)) 0 (head v a) i (λ p. let z : ⊥ = omega arith in z) ∙ zeros_at (image_length v) i

  begins : slice 0 6 (fresh v a) ≡ head v a
  unfolding fresh
  begins = slice-lay (zeros (image_length v)) 0 6 (head v a) (omega arith) (omega (arith, length-zeros (image_length v), least_length v))

  word_none : (k : ℕ) → table_word (fresh v a) k ≡ 0
  unfolding table_word word_at
  word_none k = rw (rest_at (word_offset k) (omega arith), rest_at (word_offset k + 1) (omega arith))

  pub fresh-bit : (k q : ℕ) → bit (table_word (fresh v a) k) q ≡ 0
  fresh-bit k q = rw (word_none k) (bit-none q)

  module _ (some : a ≢ 0) where
    mark_fresh : mark_ok v (fresh v a) ≡ true
    unfolding mark_ok
    mark_fresh =
        rw (head_at 0 (omega arith), head_at 1 (omega arith), head_at 2 (omega arith), head_at 3 (omega arith), head_at 4 (omega arith))
        (eq-eqb (version_number v) (version_number v) refl)

    address-fresh : address_ok (fresh v a) ≡ true
    unfolding address_ok
    address-fresh = rw (head_at 5 (omega arith), ne_eqb a 0 some)

    pub fresh-usable : usable v (fresh v a) ≡ true
    fresh-usable =
        usable_of v (fresh v a) (record {
          long_is = length-fresh;
          mark = mark_fresh;
          address_is = address-fresh;
          counts = λ e l. omega (arith, rest_at (offset (Errors e)) (omega arith));
          words = λ k l. omega (arith, word_none k);
        })

    pub fresh_holds_none : (t : ℕ) → is_table t ≡ true → held_parts v (fresh v a) t ≡ record { number = 0; parts = 0; missing = 1 }
    unfolding held_parts judged held_of ones_in lowest_missing missing_from
    fresh_holds_none t h = rw (fresh-usable, h, word_none (table_index t))

-- the letters IZK, version 1 or 2 in two bytes, and the address
pub fresh_begins : (a : ℕ) → (slice 0 6 (fresh V1 a) ≡ 73 ∷ (90 ∷ (75 ∷ (0 ∷ (1 ∷ (a ∷ []))))))
    × (slice 0 6 (fresh V2 a) ≡ 73 ∷ (90 ∷ (75 ∷ (0 ∷ (2 ∷ (a ∷ []))))))
fresh_begins a = (begins V1 a, begins V2 a)
