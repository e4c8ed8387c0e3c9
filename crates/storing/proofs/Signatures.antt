-- Signatures: a number of two bytes; and what a store makes of an item's sum and of the word that is kept of it. Both stay, or both are amended alike, so
-- a word that was true is true and one that was false is false by as much. Assumes nothing.
use mathlib.Core.Path.{◌≡◌, sym, ap, ◌∙◌}
use mathlib.Core.List.{List, Memᴰ}
use mathlib.Core.Bool.{true}
use Prim.Native.Nat.{ℕ, ◌+◌, ◌-◌, ◌*◌, ◌/◌, ◌%◌, ◌≤◌, ◌<◌}
use native.Mathlib.Decide.{ℕ_discrete}
use native.Mathlib.Omega.{arith}
use lib.ListN.{length}
use Rattle.std.specs.Prelude.{Option, Some, None}
use Rattle.laws.specs.Bytes.{slice, lay, padded, sum_of, word_at}
use Rattle.laws.proofs.Tests.{all_of}
use Rattle.laws.proofs.Bytes.{Bytes, In, length-lay, slice-same, length-padded, word_two, word_out}
use Rattle.laws.proofs.Sums.{sum_laid}
use Rattle.image.specs.declared.cell.Cell.{Cell}
use Rattle.image.specs.declared.version.Version.{Version}
use Rattle.image.specs.declared.version.Version.TheVariants.{V1, V2}
use Rattle.image.specs.Version.{image_length}
use Rattle.image.specs.Cell.{offset, size, is_cell, is_item, item_at, cells_of}
use Rattle.image.specs.Words.{kept_offset, signature_word}
use Rattle.image.proofs.Cells.{placed, covered}
use Rattle.image.proofs.Stretches.{item_made, item_inside}
use Rattle.image.proofs.Kept.{Counted, Counts, nowhere, in_word, counts_view, kept_words, place, holds}
use Rattle.storing.specs.Signature.{full_sum, word_kept, signature, TrueWords, false_by}
use Rattle.storing.specs.Stored.{touched, touched_all, bits, amended, amend_at, amending, touches, stored, FitStore}
use Rattle.storing.proofs.Touches.{Own, touched-byte, touched_word, bits_below, no_touch_in_cell}
use Rattle.storing.proofs.Stores.{stored-length}
use Rattle.storing.proofs.Elsewhere.{sum_stays, signature_stays}

pub sum_word : (d : Cell) (m : List ℕ) → full_sum d m < 65536
unfolding full_sum
sum_word d m = omega arith

pub signature_word_lem : (v : Version) (d : Cell) (m : List ℕ) → Bytes m → signature v d m < 65536
unfolding word_at
signature_word_lem V1 d m b = sum_word d m
signature_word_lem V2 d m b = go (signature_word d)
  where
    go : (x : Option ℕ) → word_kept x m < 65536
    go None = omega arith
    go (Some o) = omega (arith, b o, b (o + 1))

-- ---- an item that holds the stored cell

balance : (s s' left came : ℕ) → s' + left ≡ s + came → s' % 65536 ≡ (s % 65536 + (65536 - left % 65536) + came) % 65536
balance s s' left came h = omega arith

module _ (v : Version) (m : List ℕ) (long : length m ≡ image_length v) (d : Cell) (bs : List ℕ) (fit : FitStore d bs)
    (e : Cell) (item : is_item e ≡ true) (has : Memᴰ d (cells_of e)) where
  abbrev old : List ℕ
  old = slice (offset d) (size d) m

  abbrev new : List ℕ
  new = padded (size d) bs

  abbrev laid : List ℕ
  laid = lay m (offset d) new

  -- nothing of it changes but the cell
  item_laid : slice (offset e) (size e) (stored v d bs m) ≡ slice (offset e) (size e) laid
  unfolding stored
  item_laid =
      slice-same (stored v d bs m) laid (offset e) (size e) (stored-length v d bs fit m long ∙ sym (length-lay m (offset d) new ∙ long))
      (λ i a. let (x, mem, there) = covered e i a in
      touched-byte old new (touches v d) laid i (no_touch_in_cell v x d (all_of is_cell (item_made e item) mem) fit.cell i there))

  pub sum-amended : full_sum e (stored v d bs m) ≡ amended old new (full_sum e m)
  unfolding full_sum
  sum-amended =
      let h = holds e item has in
      let full : length new ≡ size d = length-padded (size d) bs fit.room in
      let n = offset d - offset e in
      let k = offset e + size e - (offset d + size d) in
      let there : offset e + n ≡ offset d = omega (arith, h.low) in
      let whole : n + (size d + k) ≡ size e = omega (arith, h.low, h.high) in
      let inside : offset e + n + length new ≤ length m = omega (arith, item_inside v e item, h.low, h.high) in
      ap (λ (l : List ℕ). sum_of l % 65536) item_laid
      ∙ balance (sum_of (slice (offset e) (size e) m)) (sum_of (slice (offset e) (size e) laid)) (sum_of old) (sum_of new)
      (rw (there, full, whole) at (sum_laid m (offset e) n k new inside))

module _ (m : List ℕ) (long : length m ≡ image_length V2) (d : Cell) (bs : List ℕ) (fit : FitStore d bs)
    (e : Cell) (item : is_item e ≡ true) (has : Memᴰ d (cells_of e)) where
  abbrev gone : List ℕ
  gone = slice (offset d) (size d) m

  abbrev come : List ℕ
  come = padded (size d) bs

  -- where the word stands no byte of the cell lies, and no bit
  own_word : (i : ℕ) → Counted e i → signature_word d ≡ Some (kept_offset i)
      → word_at (touched_all gone come (amending (signature_word d) (bits d)) (lay m (offset d) come)) (kept_offset i) ≡ amended gone come (word_at m (kept_offset i))
  own_word i b same =
      let o = kept_offset i in
      let under = lay m (offset d) come in
      let off : (j : ℕ) → In o 2 j → ¬ In (offset d) (length come) j =
      (λ j p a. (placed V2 d fit.cell).words j (a.0, rw (length-padded (size d) bs fit.room) at a.1) (kept_words i (b.is item).0 j p)) in
      let apart : (j : ℕ) → In o 2 j → ¬ Own (bits d) j = (λ j p w. let z = bits_below d j fit.cell w in omega arith) in
      let room : o + 2 ≤ length under = omega (arith, (b.is item).0, length-lay m (offset d) come, long) in
      ap (λ (x : Option ℕ). word_at (touched_all gone come (amending x (bits d)) under) o) same
      ∙ touched_word gone come (bits d) (touched gone come (amend_at o) under) o (apart o (omega arith, omega arith)) (apart (o + 1) (omega arith, omega arith))
      ∙ word_two under o (amended gone come (word_at under o)) room
      ∙ ap (amended gone come) (word_out m (offset d) come o (off o (omega arith, omega arith)) (off (o + 1) (omega arith, omega arith)))

  pub word_amended : signature V2 e (stored V2 d bs m) ≡ amended gone come (signature V2 e m)
  unfolding stored
  word_amended = go (counts_view e) (holds e item has).word
    where
      go : {y : Option ℕ} → Counts e y → signature_word d ≡ y → word_kept y (stored V2 d bs m) ≡ amended gone come (word_kept y m)
      go (nowhere a) same = absurd (a item)
      go (in_word i b) same = own_word i b same

-- ---- whether it does

held? : (d e : Cell) → is_cell d ≡ true → is_item e ≡ true → Dec (Memᴰ d (cells_of e))
held? d e cell item = go (counts_view d) (counts_view e) (λ k. ap place (holds e item k).word)
  where
    by : (i j : ℕ) → Counted d i → Counted e j → (Memᴰ d (cells_of e) → kept_offset i ≡ kept_offset j) → Dec (i ≡ j) → Dec (Memᴰ d (cells_of e))
    by i j a b f (yes s) = let whole : item_at i ≡ e = ap item_at s ∙ (b.is item).1 in yes (rw whole at (a.held cell).1)
    by i j a b f (no n) = no (λ k. n (omega (arith, f k)))

    go : {x y : Option ℕ} → Counts d x → Counts e y → (Memᴰ d (cells_of e) → place x ≡ place y) → Dec (Memᴰ d (cells_of e))
    go x (nowhere b) f = absurd (b item)
    go (nowhere a) (in_word j b) f = no (λ k. let z : ⊥ = omega (arith, f k) in z)
    go (in_word i a) (in_word j b) f = by i j a b f (ℕ_discrete i j)

-- ---- any item

-- a word and a sum that grow by as much, remainder by 65,536, are as far apart as before
far_alike : (w s c : ℕ) → s < 65536 → ((w + c) % 65536 + (65536 - (s + c) % 65536)) % 65536 ≡ (w + (65536 - s)) % 65536
far_alike w s c l =
    whole ((w + c) % 65536 + (65536 - (s + c) % 65536)) (w + (65536 - s)) ((w + c) / 65536) ((s + c) / 65536) (omega arith)
  where
    whole : (p q a b : ℕ) → p + 65536 * a ≡ q + 65536 * b → p % 65536 ≡ q % 65536
    whole p q a b e = omega arith

apart_alike : (w s a b : ℕ) → s < 65536
    → ((w + (65536 - a % 65536) + b) % 65536 + (65536 - (s + (65536 - a % 65536) + b) % 65536)) % 65536 ≡ (w + (65536 - s)) % 65536
apart_alike w s a b l =
    let c = 65536 - a % 65536 + b in
    let x : w + (65536 - a % 65536) + b ≡ w + c = omega arith in
    let y : s + (65536 - a % 65536) + b ≡ s + c = omega arith in
    rw (x, y) (far_alike w s c l)

module _ (m : List ℕ) (long : length m ≡ image_length V2) (d : Cell) (bs : List ℕ) (fit : FitStore d bs) where
  pub store_true : TrueWords m → TrueWords (stored V2 d bs m)
  store_true t e item = go (held? d e fit.cell item)
    where
      go : Dec (Memᴰ d (cells_of e)) → signature V2 e (stored V2 d bs m) ≡ full_sum e (stored V2 d bs m)
      go (yes has) =
          word_amended m long d bs fit e item has
          ∙ ap (amended (slice (offset d) (size d) m) (padded (size d) bs)) (t e item)
          ∙ sym (sum-amended V2 m long d bs fit e item has)
      go (no out) = signature_stays V2 m long d bs fit e item out ∙ t e item ∙ sym (sum_stays V2 m long d bs fit e item out)

  pub store_false_by : (e : Cell) → is_item e ≡ true → false_by e (stored V2 d bs m) ≡ false_by e m
  store_false_by e item = go (held? d e fit.cell item)
    where
      go : Dec (Memᴰ d (cells_of e)) → false_by e (stored V2 d bs m) ≡ false_by e m
      go (yes has) =
          rw (word_amended m long d bs fit e item has, sum-amended V2 m long d bs fit e item has)
          (apart_alike (signature V2 e m) (full_sum e m) (sum_of (slice (offset d) (size d) m)) (sum_of (padded (size d) bs)) (sum_word e m))
      go (no out) = rw (signature_stays V2 m long d bs fit e item out, sum_stays V2 m long d bs fit e item out)
