-- Laws of a store: what it changes, that what it stored is shown, and that it keeps an image usable. Assumes nothing.
use mathlib.Core.Path.{◌≡◌, sym, ap, ◌∙◌}
use mathlib.Core.Logic.Dec
use mathlib.Core.Logic.{◌≢◌, ◌⊎◌, inl, inr}
use mathlib.Core.List.{List}
use Prim.Native.Nat.{ℕ, ◌+◌, ◌*◌, ◌^◌, ◌≤◌, ◌<◌}
use native.Mathlib.Decide.{dec_lt, dec_le}
use native.Mathlib.Omega.{arith}
use lib.ListN.{length, get_or, take}
use lib.Seq.{take-length}
use borrow.Author.Tests.{lt-ltb}
use Rattle.laws.specs.Bytes.{slice, lay, padded}
use Rattle.laws.specs.Bits.{bit, with_bit}
use Rattle.laws.proofs.Bytes.{In, length-lay, lay_out, lay_in, slice-same, slice-lay, length-padded, take-padded, padded_at, word_out}
use Rattle.laws.proofs.Bits.{bit-set, bit_kept, with_bit_small}
use Rattle.image.specs.declared.cell.Cell.{Cell}
use Rattle.image.specs.declared.cell.Cell.TheVariants.{Errors, Part}
use Rattle.image.specs.declared.version.Version.{Version}
use Rattle.image.specs.Version.{image_length}
use Rattle.image.specs.Cell.{offset, size, extent}
use Rattle.image.specs.Words.{words, word_offset, table_word}
use Rattle.image.proofs.Cells.{one_cell, placed, InSpans, word_inside, table-words, extent_view, size-some, part_few}
use Rattle.image.proofs.UsableFacts.{Usable, mark_same, address_same}
use Rattle.storing.specs.Stored.{touched_all, touches, stored, FitStore}
use Rattle.storing.proofs.Touches.{Own, touched-length, touched-byte, touches_low, no_touch_in_cell, WordAfter, own_word, word_after}

-- ---- what it changes

module _ (v : Version) (d : Cell) (bs : List ℕ) (fit : FitStore d bs) (m : List ℕ) (whole : length m ≡ image_length v) where
  -- the cell's new bytes, and the image before its words are touched
  abbrev new : List ℕ
  new = padded (size d) bs

  abbrev laid : List ℕ
  laid = lay m (offset d) new

  full : length new ≡ size d
  full = length-padded (size d) bs fit.room

  laid-length : length laid ≡ image_length v
  laid-length = length-lay m (offset d) new ∙ whole

  pub stored-length : length (stored v d bs m) ≡ image_length v
  unfolding stored
  stored-length = touched-length (slice (offset d) (size d) m) new (touches v d) laid ∙ laid-length

  -- any byte but the cell's and its words'
  pub byte_stays : (i : ℕ) → ¬ In (offset d) (size d) i → ¬ Own (touches v d) i → get_or (stored v d bs m) i 0 ≡ get_or m i 0
  unfolding stored
  byte_stays i a b =
      touched-byte (slice (offset d) (size d) m) new (touches v d) laid i b ∙ lay_out m (offset d) new i (λ x. a (x.0, rw full at x.1))

  -- so any that is in no word, if it is not the cell's
  pub outside : (i : ℕ) → ¬ In (offset d) (size d) i → ¬ InSpans (words v) i → get_or (stored v d bs m) i 0 ≡ get_or m i 0
  outside i a b = byte_stays i a (λ w. b (touches_low v d i fit.cell w))

  word_laid : (j : ℕ) → j < 16 → table_word laid j ≡ table_word m j
  unfolding table_word
  word_laid j l =
      word_out m (offset d) new (word_offset j) (clear (word_offset j) (omega arith, omega arith)) (clear (word_offset j + 1) (omega arith, omega arith))
    where
      clear : (i : ℕ) → In (word_offset j) 2 i → ¬ In (offset d) (length new) i
      clear i w a = (placed v d fit.cell).words i (a.0, rw full at a.1) (table-words v j l i w)

  pub word_stored : (j : ℕ) → j < 16 → WordAfter d j (table_word m j) (table_word (stored v d bs m) j)
  unfolding stored
  word_stored j l = rw word_laid at (word_after (slice (offset d) (size d) m) new laid v d j fit.cell l laid-length)

  -- any bit but its own
  pub bit_stays : (j q : ℕ) → j < 16 → d ≢ Part j q → bit (table_word (stored v d bs m) j) q ≡ bit (table_word m j) q
  bit_stays j q l n = go (word_stored j l)
    where
      go : WordAfter d j (table_word m j) (table_word (stored v d bs m) j) → bit (table_word (stored v d bs m) j) q ≡ bit (table_word m j) q
      go (inl e) = rw e
      go (inr (p, same, b, e)) = rw e (bit_kept (table_word m j) p q (λ z. n (rw (same, z))))

  pub own_bit : (k p : ℕ) → d ≡ Part k p → bit (table_word (stored v d bs m) k) p ≡ 1
  unfolding stored
  own_bit k p e =
      let l = (part_few fit.cell e).0 in
      let old = slice (offset d) (size d) m in
      ap (λ (c : Cell). bit (table_word (touched_all old new (touches v c) laid) k) p) e
      ∙ rw (own_word old new laid v k p l laid-length) (bit-set (table_word laid k) p)

  -- ---- what it stored

  cell_byte : (i : ℕ) → In (offset d) (size d) i → get_or (stored v d bs m) i 0 ≡ get_or laid i 0
  unfolding stored
  cell_byte i a = touched-byte (slice (offset d) (size d) m) new (touches v d) laid i (no_touch_in_cell v d d fit.cell fit.cell i a)

  some : 0 < length bs
  some = rw fit.counts (go (extent_view d))
    where
      go : ((n : ℕ) → extent d n ≡ size d) ⊎ ((e : ℕ) × (d ≡ Errors e)) → 0 < extent d (get_or bs 0 0)
      go (inl h) = rw h (size-some d fit.cell)
      go (inr (e, h)) = rw h (omega arith)

  inside : offset d + size d ≤ length m
  inside = omega (arith, (placed v d fit.cell).high, whole)

  first_byte : get_or (stored v d bs m) (offset d) 0 ≡ get_or bs 0 0
  first_byte =
      let x = full in let y = some in let z = inside in let r = fit.room in
      let o : offset d + 0 ≡ offset d = omega arith in
      let e : get_or laid (offset d) 0 ≡ get_or (padded (size d) bs) 0 0 = rw o at (lay_in m (offset d) (padded (size d) bs) 0 (omega arith) (omega arith)) in
      cell_byte (offset d) (omega arith, omega arith) ∙ e ∙ padded_at (size d) bs 0 y

  -- is what is shown
  pub shown_back : slice (offset d) (extent d (get_or (stored v d bs m) (offset d) 0)) (stored v d bs m) ≡ bs
  shown_back =
      let x = full in let z = inside in let r = fit.room in
      let n : extent d (get_or (stored v d bs m) (offset d) 0) ≡ length bs = ap (extent d) first_byte ∙ sym fit.counts in
      ap (λ (k : ℕ). slice (offset d) k (stored v d bs m)) n
      ∙ slice-same (stored v d bs m) laid (offset d) (length bs) (stored-length ∙ sym laid-length) (λ i a. cell_byte i (a.0, omega arith))
      ∙ slice-lay m (offset d) (length bs) (padded (size d) bs) (omega arith) (omega arith) ∙ take-padded (size d) bs

  -- and nothing old is left: behind what was stored the cell is 0
  pub cell_filled : slice (offset d) (size d) (stored v d bs m) ≡ new
  cell_filled =
      let x = full in let z = inside in
      slice-same (stored v d bs m) laid (offset d) (size d) (stored-length ∙ sym laid-length) cell_byte
      ∙ slice-lay m (offset d) (size d) new (omega arith) (omega arith)
      ∙ ap (λ (k : ℕ). take k new) (sym full)
      ∙ take-length new

  -- ---- mark, version and address stay, and a usable image stays usable

  pub head_stays : (i : ℕ) → i < 6 → get_or (stored v d bs m) i 0 ≡ get_or m i 0
  head_stays i l =
      let p = (placed v d fit.cell).low in
      outside i (λ a. absurd (omega arith)) (λ a. let w = word_inside v i a in absurd (omega arith))

  module _ (u : Usable v m) where
    -- the row count of the stored error table, or of one that stayed
    count_stays : (e : ℕ) → e < 8 → get_or (stored v d bs m) (offset (Errors e)) 0 ≤ 21
    count_stays e l = go (Dec.and (dec_le (offset d) (offset (Errors e))) (dec_lt (offset (Errors e)) (offset d + size d)))
      where
        go : Dec (In (offset d) (size d) (offset (Errors e))) → get_or (stored v d bs m) (offset (Errors e)) 0 ≤ 21
        go (yes a) =
            let same : d ≡ Errors e = one_cell d (Errors e) fit.cell (lt-ltb e 8 l) (offset (Errors e)) a (omega arith, omega arith) in
            let here : offset d ≡ offset (Errors e) = ap offset same in
            let rows : extent d (get_or bs 0 0) ≡ 1 + 3 * get_or bs 0 0 = ap (λ (c : Cell). extent c (get_or bs 0 0)) same in
            let big : size d ≡ 64 = ap size same in
            rw (← here, first_byte) (omega (arith, fit.counts, fit.room))
        go (no a) =
            let off = (placed v (Errors e) (lt-ltb e 8 l)).words (offset (Errors e)) (omega arith, omega arith) in
            rw (outside (offset (Errors e)) a off) (u.counts e l)

    word_stays : (k : ℕ) → k < 16 → table_word (stored v d bs m) k ≤ 2047
    word_stays k l = go (word_stored k l)
      where
        go : WordAfter d k (table_word m k) (table_word (stored v d bs m) k) → table_word (stored v d bs m) k ≤ 2047
        go (inl e) = rw e (u.words k l)
        go (inr (p, same, b, e)) =
            let z : with_bit (table_word m k) p < 2 ^ 11 = with_bit_small 11 (table_word m k) p (omega (arith, u.words k l)) b in
            rw e (omega arith)

    pub store_usable : Usable v (stored v d bs m)
    store_usable =
        record {
          long_is = stored-length;
          mark = mark_same v m (stored v d bs m) (λ i l. head_stays i (omega arith)) ∙ u.mark;
          address_is = address_same m (stored v d bs m) (head_stays 5 (omega arith)) ∙ u.address_is;
          counts = count_stays;
          words = word_stays;
        }
