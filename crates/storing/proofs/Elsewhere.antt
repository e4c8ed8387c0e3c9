-- What a store leaves as it was: every stretch that does not hold its cell. So two cells may be stored in either order. Assumes nothing.
use mathlib.Core.Path.{◌≡◌, refl, sym, ap, ap₂, ◌∙◌}
use mathlib.Core.Logic.{◌≢◌, ◌⊎◌, inl, inr}
use mathlib.Core.List.Memᴰ
use mathlib.Core.List.{List, Memᴰ}
use mathlib.Core.Bool.{true}
use Prim.Native.Nat.{ℕ, ◌+◌, ◌%◌, ◌≤◌}
use native.Mathlib.Omega.{arith}
use lib.ListN.{length, get_or}
use borrow.Author.Tests.{ltb-true}
use Rattle.std.specs.Prelude.{Option}
use Rattle.laws.specs.Bytes.{slice, lay, padded, sum_of, word_at}
use Rattle.laws.specs.Checks.{all}
use Rattle.laws.proofs.Tests.{all_of}
use Rattle.laws.proofs.Bytes.{In, Disjoint, length-lay, lay_swap, length-padded, slice-same}
use Rattle.image.specs.declared.cell.Cell.{Cell}
use Rattle.image.specs.declared.cell.Cell.TheVariants.{Errors}
use Rattle.image.specs.declared.version.Version.{Version}
use Rattle.image.specs.declared.version.Version.TheVariants.{V1, V2}
use Rattle.image.specs.Version.{image_length}
use Rattle.image.specs.Cell.{offset, size, extent, is_cell, is_item, item_at, cells_of}
use Rattle.image.specs.Words.{kept_offset}
use Rattle.image.proofs.Cells.{one_cell, placed, covered, extent_view}
use Rattle.image.proofs.UsableFacts.{Usable}
use Rattle.image.proofs.Stretches.{cell_made, item_made, only_cell}
use Rattle.image.proofs.Kept.{Counted, Counts, nowhere, in_word, counts_view, kept_words}
use Rattle.storing.specs.Signature.{full_sum, word_kept, signature}
use Rattle.storing.specs.Stored.{touched_all, bits, amending, touches, stored, FitStore}
use Rattle.storing.proofs.Touches.{Own, touched-lay, touched_swap, bits_below, touches_agree, no_touch_in_cell, touches_room}
use Rattle.storing.proofs.Stores.{stored-length, byte_stays, outside}

-- what counts of a cell lies inside it
pub extent_fits : (v : Version) (m : List ℕ) → Usable v m → (d : Cell) → is_cell d ≡ true → extent d (get_or m (offset d) 0) ≤ size d
extent_fits v m u d h = go (extent_view d)
  where
    go : ((n : ℕ) → extent d n ≡ size d) ⊎ ((e : ℕ) × (d ≡ Errors e)) → extent d (get_or m (offset d) 0) ≤ size d
    go (inl f) = rw f (omega arith)
    go (inr (e, f)) = let l = ltb-true e 8 (rw f at h) in rw f (omega (arith, u.counts e l))

module _ (v : Version) (m : List ℕ) (long : length m ≡ image_length v) (d : Cell) (bs : List ℕ) (fit : FitStore d bs)
    (e : Cell) (made : all is_cell (cells_of e) ≡ true) (out : ¬ Memᴰ d (cells_of e)) where
  pub stretch_stays : (i : ℕ) → In (offset e) (size e) i → get_or (stored v d bs m) i 0 ≡ get_or m i 0
  stretch_stays i a =
      let (x, has, there) = covered e i a in
      let cell = all_of is_cell made has in
      outside v d bs fit m long i (λ b. out (Memᴰ.cast (one_cell d x fit.cell cell i b there) has)) ((placed v x cell).words i there)

  pub slice_stays : (n : ℕ) → n ≤ size e → slice (offset e) n (stored v d bs m) ≡ slice (offset e) n m
  slice_stays n l =
      slice-same (stored v d bs m) m (offset e) n (stored-length v d bs fit m long ∙ sym long)
      (λ i a. stretch_stays i (a.0, omega arith))

-- ---- an item that does not hold the stored cell

module _ (v : Version) (m : List ℕ) (long : length m ≡ image_length v) (d : Cell) (bs : List ℕ) (fit : FitStore d bs)
    (e : Cell) (item : is_item e ≡ true) (out : ¬ Memᴰ d (cells_of e)) where
  -- its bytes add up to what they did
  pub sum_stays : full_sum e (stored v d bs m) ≡ full_sum e m
  unfolding full_sum
  sum_stays = ap (λ (l : List ℕ). sum_of l % 65536) (slice_stays v m long d bs fit e (item_made e item) out (size e) (omega arith))

module _ (d : Cell) (cell : is_cell d ≡ true) (e : Cell) (item : is_item e ≡ true) (out : ¬ Memᴰ d (cells_of e)) where
  -- its word is not among those that change along with the cell
  word_apart : {x : Option ℕ} → Counts d x → (i : ℕ) → Counted e i → (j : ℕ) → In (kept_offset i) 2 j → ¬ Own (amending x (bits d)) j
  word_apart (nowhere a) i b j p w = let z = bits_below d j cell w in omega arith
  word_apart (in_word k a) i b j p (inl w) =
      let same : k ≡ i = omega arith in
      let whole : item_at k ≡ e = ap item_at same ∙ (b.is item).1 in
      out (rw whole at (a.held cell).1)
  word_apart (in_word k a) i b j p (inr w) = let z = bits_below d j cell w in omega arith

-- so its signature stays
module _ (m : List ℕ) (long : length m ≡ image_length V2) (d : Cell) (bs : List ℕ) (fit : FitStore d bs)
    (e : Cell) (item : is_item e ≡ true) (out : ¬ Memᴰ d (cells_of e)) where
  kept_byte : (i : ℕ) → Counted e i → (j : ℕ) → In (kept_offset i) 2 j → get_or (stored V2 d bs m) j 0 ≡ get_or m j 0
  kept_byte i b j p =
      byte_stays V2 d bs fit m long j (λ a. (placed V2 d fit.cell).words j a (kept_words i (b.is item).0 j p))
      (word_apart d fit.cell e item out (counts_view d) i b j p)

  word_stays : {y : Option ℕ} → Counts e y → word_kept y (stored V2 d bs m) ≡ word_kept y m
  unfolding word_at
  word_stays (nowhere a) = refl
  word_stays (in_word i b) = rw (kept_byte i b (kept_offset i) (omega arith, omega arith), kept_byte i b (kept_offset i + 1) (omega arith, omega arith))

pub signature_stays : (v : Version) (m : List ℕ) → length m ≡ image_length v → (d : Cell) (bs : List ℕ) → FitStore d bs
    → (e : Cell) → is_item e ≡ true → ¬ Memᴰ d (cells_of e) → signature v e (stored v d bs m) ≡ signature v e m
signature_stays V1 m long d bs fit e item out = sum_stays V1 m long d bs fit e item out
signature_stays V2 m long d bs fit e item out = word_stays m long d bs fit e item out (counts_view e)

-- ---- two stores

-- the bytes that a store lays are its cell's
laid_in : {d : Cell} {bs : List ℕ} → FitStore d bs → {i : ℕ} → In (offset d) (length (padded (size d) bs)) i → In (offset d) (size d) i
laid_in {d} {bs} f a = (a.0, rw (length-padded (size d) bs f.room) at a.1)

module _ (v : Version) (m : List ℕ) (long : length m ≡ image_length v) where
  -- and lie off every word
  laid-off : (c d : Cell) (bs cs : List ℕ) → FitStore c bs → FitStore d cs → (i : ℕ) → In (offset c) (length (padded (size c) bs)) i → ¬ Own (touches v d) i
  laid-off c d bs cs f g i a = no_touch_in_cell v c d f.cell g.cell i (laid_in f a)

  -- a cell finds its old bytes whether or not another was stored before
  old_stays : (c d : Cell) (bs cs : List ℕ) → FitStore c bs → FitStore d cs → c ≢ d → slice (offset d) (size d) (stored v c bs m) ≡ slice (offset d) (size d) m
  old_stays c d bs cs f g n = slice_stays v m long c bs f d (cell_made d g.cell) (λ h. n (only_cell d c g.cell h)) (size d) (omega arith)

  pub stored_swap : (c d : Cell) (bs cs : List ℕ) → FitStore c bs → FitStore d cs → c ≢ d → stored v d cs (stored v c bs m) ≡ stored v c bs (stored v d cs m)
  unfolding stored
  stored_swap c d bs cs f g n =
      let X = padded (size c) bs in
      let Y = padded (size d) cs in
      let A = slice (offset c) (size c) m in
      let B = slice (offset d) (size d) m in
      let S = touches v c in
      let T = touches v d in
      let both = lay (lay m (offset c) X) (offset d) Y in
      let whole = length-lay (lay m (offset c) X) (offset d) Y ∙ length-lay m (offset c) X ∙ long in
      let before = touched-lay A X S (lay m (offset c) X) (offset d) Y (laid-off d c cs bs g f) in
      let behind = touched-lay B Y T (lay m (offset d) Y) (offset c) X (laid-off c d bs cs f g) in
      let off : Disjoint (offset c) (length X) (offset d) (length Y) = (λ i x y. n (one_cell c d f.cell g.cell i (laid_in f x) (laid_in g y))) in
      ap₂ (λ (l k : List ℕ). touched_all l Y T k) (old_stays c d bs cs f g n) before
      ∙ touched_swap B Y A X T S both (touches_agree v d c g.cell f.cell) (touches_room v d both g.cell whole)
      ∙ ap (λ (l : List ℕ). touched_all A X S (touched_all B Y T l)) (lay_swap m (offset c) X (offset d) Y off)
      ∙ ap₂ (λ (l k : List ℕ). touched_all l X S k) (sym (old_stays d c cs bs g f (λ e. n (sym e)))) (sym behind)
