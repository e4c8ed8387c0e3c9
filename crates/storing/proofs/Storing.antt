-- What the code of storing and signing cites: the bytes it reads and lays lie in the image, and are those of the definitions. Assumes nothing.
use mathlib.Core.Path.{◌≡◌, refl, sym, ap, ◌∙◌}
use mathlib.Core.Logic.{inl, inr}
use mathlib.Core.Bool.{true}
use mathlib.Core.List.{List, []}
use Prim.Native.Nat.{ℕ, ◌+◌, ◌-◌, ◌%◌, ◌≤◌}
use native.Mathlib.Omega.{arith}
use lib.ListN.{length, take, drop}
use Rattle.std.specs.Prelude.{Option, Some, None}
use Rattle.laws.specs.Bytes.{slice, lay, zeros, padded, sum_of, two, word_at}
use Rattle.laws.proofs.Bytes.{lay_trans, slice_is, length-padded}
use Rattle.laws.proofs.Sums.{sum-padded}
use Rattle.image.specs.declared.cell.Cell.{Cell}
use Rattle.image.specs.declared.version.Version.TheVariants.{V2}
use Rattle.image.specs.Version.{current}
use Rattle.image.specs.Cell.{offset, size, is_cell}
use Rattle.image.specs.Words.{signature_word}
use Rattle.storing.specs.Stored.{Touch, touched_all, bits, amending, stored}
use Rattle.storing.proofs.Touches.{Own, touched-lay, Bit, no_bit, part-bit, bit_view, amend_first, no_touch_in_cell}

-- ---- a part's bit

-- it is set, whatever the cell's bytes were and are
bits_alone : (old new : List ℕ) (d : Cell) (m : List ℕ) → touched_all [] [] (bits d) m ≡ touched_all old new (bits d) m
bits_alone old new d m = go (bit_view d)
  where
    go : {d : Cell} {ts : List Touch} → Bit d ts → touched_all [] [] ts m ≡ touched_all old new ts m
    go no_bit = refl
    go part-bit = refl

-- ---- the word of a signature

-- sums that code has by their remainders
by_remainders : (w a b : ℕ) → (w + (65536 - a % 65536) + b % 65536) % 65536 ≡ (w + (65536 - a % 65536) + b) % 65536
by_remainders w a b = omega arith

module _ (d : Cell) (m bytes : List ℕ) {o a n : ℕ} (found : signature_word d ≡ Some o) (a-is : a ≡ offset d) (n-is : n ≡ size d) where
  abbrev there : List ℕ
  there = take (a + n - a) (drop a m)

  pub amended_is : {w left came r : ℕ} {m' : List ℕ} → left ≡ sum_of (take (a + n - a) (drop a m)) % 65536 → came ≡ sum_of bytes % 65536 → w ≡ word_at m o
      → r ≡ (w + (65536 - left) + came) % 65536 → m' ≡ lay m o (two r)
      → m' ≡ touched_all (slice (offset d) (size d) m) (padded (size d) bytes) (amending (signature_word d) []) m
  amended_is l c w r h =
      let old : there ≡ slice (offset d) (size d) m = slice_is a (a + n) n m (omega arith) ∙ rw (a-is, n-is) in
      rw (found, ← old, sum-padded (size d) bytes, ← (by_remainders (word_at m o) (sum_of there) (sum_of bytes)), ← l, ← c, ← w, ← r) h

-- ---- the signature that the cell counts in

own_first : (x : Option ℕ) (ts : List Touch) (i : ℕ) → Own (amending x []) i → Own (amending x ts) i
own_first None ts i w = absurd w
own_first (Some o) ts i (inl w) = inl w
own_first (Some o) ts i (inr w) = absurd w

-- bytes that are laid in the cell may come before or after
amend_early : (old new : List ℕ) (d : Cell) (m bs : List ℕ) → is_cell d ≡ true → length bs ≡ size d
    → lay (touched_all old new (amending (signature_word d) []) m) (offset d) bs ≡ touched_all old new (amending (signature_word d) []) (lay m (offset d) bs)
amend_early old new d m bs h n =
    touched-lay old new (amending (signature_word d) []) m (offset d) bs
    (λ i a w. no_touch_in_cell V2 d d h h i (a.0, rw n at a.1) (own_first (signature_word d) (bits d) i w))

-- ---- the cell's bytes

module _ (d : Cell) (m bytes : List ℕ) (h : is_cell d ≡ true) (few : length bytes ≤ size d) {m₀ m₁ m₂ : List ℕ} {a k n : ℕ}
    (a-is : a ≡ offset d) (n-is : n ≡ size d) (past : k ≡ a + length bytes)
    (first : m₀ ≡ touched_all (slice (offset d) (size d) m) (padded (size d) bytes) (amending (signature_word d) []) m) (laid : m₁ ≡ lay m₀ a bytes) where
  pub stored_is : m₂ ≡ lay m₁ k (zeros (n - length bytes)) → touched_all [] [] (bits d) m₂ ≡ stored current d bytes m
  unfolding stored padded
  stored_is z =
      let old = slice (offset d) (size d) m in
      let new = padded (size d) bytes in
      let whole : m₂ ≡ lay m₀ (offset d) new = lay_trans m₀ _ _ bytes (zeros (n - length bytes)) a k laid past z ∙ rw (a-is, n-is) in
      bits_alone old new d m₂
      ∙ ap (touched_all old new (bits d))
      (whole ∙ ap (λ (l : List ℕ). lay l (offset d) new) first ∙ amend_early old new d m new h (length-padded (size d) bytes few))
      ∙ sym (amend_first old new (signature_word d) (bits d) (lay m (offset d) new))
