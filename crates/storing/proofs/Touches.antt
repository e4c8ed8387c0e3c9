-- Laws of the words that change with a cell: of any list of touches, then of those that a version has. Assumes nothing.
use mathlib.Core.Path.{◌≡◌, refl, sym, ap, ◌∙◌, subst}
use mathlib.Core.Logic.{◌⊎◌, inl, inr}
use mathlib.Core.List.{List, [], ◌∷◌}
use mathlib.Core.Bool.{true}
use Prim.Native.Nat.{ℕ, ◌+◌, ◌-◌, ◌%◌, ◌≤◌, ◌<◌}
use native.Mathlib.Decide.{ℕ_discrete}
use native.Mathlib.Omega.{arith}
use lib.ListN.{length, get_or}
use Rattle.std.specs.Prelude.{Option, Some, None}
use Rattle.laws.specs.Bytes.{lay, sum_of, two, word_at}
use Rattle.laws.specs.Bits.{with_bit}
use Rattle.laws.proofs.Bytes.{In, Disjoint, length-lay, lay_out, lay_swap, lay_over, length_two, word_two, word_out}
use Rattle.laws.proofs.Bits.{with_bit_swap}
use Rattle.image.specs.declared.cell.Cell.{Cell}
use Rattle.image.specs.declared.cell.Cell.TheVariants.{Mask, Mode, Clock, Constants, Errors, Part, Table}
use Rattle.image.specs.declared.version.Version.{Version}
use Rattle.image.specs.declared.version.Version.TheVariants.{V1, V2}
use Rattle.image.specs.Version.{image_length}
use Rattle.image.specs.Cell.{is_cell, offset, size}
use Rattle.image.specs.Words.{words, word_offset, kept_offset, table_word}
use Rattle.image.proofs.Cells.{InSpans, word_inside, table-words, table_word_inside, placed, part_numbers}
use Rattle.image.proofs.Kept.{Counts, nowhere, in_word, counts_view, kept_words}
use Rattle.storing.specs.Stored.{Touch, touched, touched_all, bit_of, bits, amend_at, amending, touches}

-- ---- one touch

-- two touches agree: on two words, or on one by changes that commute
abbrev pub Agree : Touch → Touch → Type 0
Agree s t =
    ((s.word ≡ t.word) × ((o n o' n' : List ℕ) (w : ℕ) → s.change o n (t.change o' n' w) ≡ t.change o' n' (s.change o n w)))
    ⊎ Disjoint s.word 2 t.word 2

module _ (o n : List ℕ) (t : Touch) (m : List ℕ) where
  one_length : length (touched o n t m) ≡ length m
  one_length = length-lay m t.word (two (t.change o n (word_at m t.word)))

  one_byte : (i : ℕ) → ¬ In t.word 2 i → get_or (touched o n t m) i 0 ≡ get_or m i 0
  one_byte i h = lay_out m t.word (two (t.change o n (word_at m t.word))) i (λ a. h (a.0, rw length_two at a.1))

  one_word : (i : ℕ) → ¬ In t.word 2 i → ¬ In t.word 2 (i + 1) → word_at (touched o n t m) i ≡ word_at m i
  unfolding word_at
  one_word i a b = rw (one_byte i a, one_byte (i + 1) b)

  -- bytes laid elsewhere may come before or after
  one_lay : (a : ℕ) (bs : List ℕ) → ((i : ℕ) → In a (length bs) i → ¬ In t.word 2 i) → lay (touched o n t m) a bs ≡ touched o n t (lay m a bs)
  one_lay a bs off =
      let w = t.word in
      let e = length_two (t.change o n (word_at m w)) in
      let p : ¬ In a (length bs) w = (λ x. off w x (omega arith, omega arith)) in
      let q : ¬ In a (length bs) (w + 1) = (λ x. off (w + 1) x (omega arith, omega arith)) in
      lay_swap m w (two (t.change o n (word_at m w))) a bs (λ i x y. off i y (x.0, omega arith))
      ∙ ap (λ (x : ℕ). lay (lay m a bs) w (two (t.change o n x))) (sym (word_out m a bs w p q))

-- two touches on one word: the later finds what the earlier left
twice : (o n o' n' : List ℕ) (g h : List ℕ → List ℕ → ℕ → ℕ) (w : ℕ) (m : List ℕ) → w + 2 ≤ length m
    → touched o n (record { word = w; change = g }) (touched o' n' (record { word = w; change = h }) m) ≡ lay m w (two (g o n (h o' n' (word_at m w))))
twice o n o' n' g h w m r =
    let x = h o' n' (word_at m w) in
    ap (λ (z : ℕ). lay (lay m w (two x)) w (two (g o n z))) (word_two m w x r)
    ∙ lay_over m w (two x) (two (g o n x)) (length_two _ ∙ sym (length_two _))

one_swap : (o n o' n' : List ℕ) (s t : Touch) (m : List ℕ) → Agree s t → s.word + 2 ≤ length m
    → touched o n s (touched o' n' t m) ≡ touched o' n' t (touched o n s m)
one_swap o n o' n' s t m (inl a) r =
    let there : ℕ → Touch = (λ x. record { word = x; change = t.change }) in
    subst (λ (x : ℕ). touched o n s (touched o' n' (there x) m) ≡ touched o' n' (there x) (touched o n s m)) a.0
    (twice o n o' n' s.change t.change s.word m r
    ∙ ap (λ (w : ℕ). lay m s.word (two w)) (a.1 o n o' n' (word_at m s.word))
    ∙ sym (twice o' n' o n t.change s.change s.word m r))
one_swap o n o' n' s t m (inr a) r =
    let w = s.word in
    let x = two (s.change o n (word_at m w)) in
    ap (λ (z : ℕ). lay (touched o' n' t m) w (two (s.change o n z)))
    (one_word o' n' t m w (λ b. a w (omega arith, omega arith) b) (λ b. a (w + 1) (omega arith, omega arith) b))
    ∙ one_lay o' n' t m w x (λ i b d. a i (b.0, rw length_two at b.1) d)

-- ---- a list of touches

-- the bytes that they may change
abbrev pub Own : List Touch → ℕ → Type 0
Own [] i = ⊥
Own (t ∷ ts) i = In t.word 2 i ⊎ Own ts i

-- their words lie inside a list
abbrev pub Room : List Touch → List ℕ → Type 0
Room [] m = Unit {0}
Room (t ∷ ts) m = (t.word + 2 ≤ length m) × Room ts m

room_of : (ts : List Touch) (m : List ℕ) → ((i : ℕ) → Own ts i → i < length m) → Room ts m
room_of [] m h = tt
room_of (t ∷ ts) m h = let l = h (t.word + 1) (inl (omega arith, omega arith)) in (omega arith, room_of ts m (λ i w. h i (inr w)))

-- every touch of the one agrees with every touch of the other
abbrev AgreeEach : Touch → List Touch → Type 0
AgreeEach s [] = Unit {0}
AgreeEach s (t ∷ ts) = Agree s t × AgreeEach s ts

abbrev pub AgreeAll : List Touch → List Touch → Type 0
AgreeAll [] ts = Unit {0}
AgreeAll (s ∷ ss) ts = AgreeEach s ts × AgreeAll ss ts

agree_back : (s t : Touch) → Agree s t → Agree t s
agree_back s t (inl a) = inl (sym a.0, λ o n o' n' w. sym (a.1 o' n' o n w))
agree_back s t (inr a) = inr (λ i x y. a i y x)

-- one more, in front of the second
agree_front : (s : Touch) (ss ts : List Touch) → AgreeEach s ss → AgreeAll ss ts → AgreeAll ss (s ∷ ts)
agree_front s [] ts a b = tt
agree_front s (x ∷ ss) ts a b = ((agree_back s x a.0, b.0), agree_front s ss ts a.1 b.1)

module _ (o n : List ℕ) where
  pub touched-length : (ts : List Touch) (m : List ℕ) → length (touched_all o n ts m) ≡ length m
  touched-length [] m = refl
  touched-length (t ∷ ts) m = touched-length ts (touched o n t m) ∙ one_length o n t m

  pub touched-byte : (ts : List Touch) (m : List ℕ) (i : ℕ) → ¬ Own ts i → get_or (touched_all o n ts m) i 0 ≡ get_or m i 0
  touched-byte [] m i h = refl
  touched-byte (t ∷ ts) m i h = touched-byte ts (touched o n t m) i (λ w. h (inr w)) ∙ one_byte o n t m i (λ w. h (inl w))

  pub touched_word : (ts : List Touch) (m : List ℕ) (i : ℕ) → ¬ Own ts i → ¬ Own ts (i + 1) → word_at (touched_all o n ts m) i ≡ word_at m i
  unfolding word_at
  touched_word ts m i a b = rw (touched-byte ts m i a, touched-byte ts m (i + 1) b)

  -- bytes laid elsewhere may come before or after
  pub touched-lay : (ts : List Touch) (m : List ℕ) (a : ℕ) (bs : List ℕ) → ((i : ℕ) → In a (length bs) i → ¬ Own ts i)
      → lay (touched_all o n ts m) a bs ≡ touched_all o n ts (lay m a bs)
  touched-lay [] m a bs off = refl
  touched-lay (t ∷ ts) m a bs off =
      touched-lay ts (touched o n t m) a bs (λ i x w. off i x (inr w)) ∙ ap (touched_all o n ts) (one_lay o n t m a bs (λ i x w. off i x (inl w)))

  -- lists that agree may come one before the other
  module _ (o' n' : List ℕ) where
    past_all : (s : Touch) (ts : List Touch) (m : List ℕ) → AgreeEach s ts → s.word + 2 ≤ length m
        → touched o n s (touched_all o' n' ts m) ≡ touched_all o' n' ts (touched o n s m)
    past_all s [] m a r = refl
    past_all s (t ∷ ts) m a r =
        past_all s ts (touched o' n' t m) a.1 (rw (one_length o' n' t m) r) ∙ ap (touched_all o' n' ts) (one_swap o n o' n' s t m a.0 r)

    room_stays : (ss : List Touch) (s : Touch) (m : List ℕ) → Room ss m → Room ss (touched o n s m)
    room_stays [] s m r = tt
    room_stays (x ∷ ss) s m r = (rw (one_length o n s m) r.0, room_stays ss s m r.1)

    pub touched_swap : (ss ts : List Touch) (m : List ℕ) → AgreeAll ss ts → Room ss m
        → touched_all o n ss (touched_all o' n' ts m) ≡ touched_all o' n' ts (touched_all o n ss m)
    touched_swap [] ts m a r = refl
    touched_swap (s ∷ ss) ts m a r =
        ap (touched_all o n ss) (past_all s ts m a.0 r.0) ∙ touched_swap ss ts (touched o n s m) a.1 (room_stays ss s m r.1)

-- ---- the bit that goes with a part

-- a cell has no bit, or is a part and has one in its table's word
pub data Bit : Cell → List Touch → Type 0 where
  no_bit : {d : Cell} → Bit d []
  part-bit : {k p : ℕ} → Bit (Part k p) (bit_of k p ∷ [])

pub bit_view : (d : Cell) → Bit d (bits d)
bit_view Mask = no_bit
bit_view Mode = no_bit
bit_view Clock = no_bit
bit_view (Constants c) = no_bit
bit_view (Errors e) = no_bit
bit_view (Part k p) = part-bit
bit_view (Table k) = no_bit

-- words of two tables are one or disjoint, and of one word two bits may be set in either order
bits_agree : (c d : Cell) → AgreeAll (bits c) (bits d)
bits_agree c d = go (bit_view c) (bit_view d)
  where
    two-bits : (k p j q : ℕ) → Dec (k ≡ j) → Agree (bit_of k p) (bit_of j q)
    two-bits k p j q (yes e) = inl (rw e, λ o n o' n' w. with_bit_swap p q w)
    two-bits k p j q (no n) = inr (λ i x y. n (omega arith))

    go : {c d : Cell} {ss ts : List Touch} → Bit c ss → Bit d ts → AgreeAll ss ts
    go no_bit b = tt
    go part-bit no_bit = (tt, tt)
    go (part-bit {k} {p}) (part-bit {k = j} {p = q}) = ((two-bits k p j q (ℕ_discrete k j), tt), tt)

pub bits_low : (d : Cell) (i : ℕ) → is_cell d ≡ true → Own (bits d) i → (k : ℕ) × (k < 16) × In (word_offset k) 2 i
bits_low d i = go (bit_view d)
  where
    go : {d : Cell} {ts : List Touch} → Bit d ts → is_cell d ≡ true → Own ts i → (k : ℕ) × (k < 16) × In (word_offset k) 2 i
    go no_bit h w = absurd w
    go (part-bit {k} {p}) h (inl w) = (k, (part_numbers k p h).0, w)
    go (part-bit {k} {p}) h (inr w) = absurd w

-- so they lie before every signature
pub bits_below : (d : Cell) (i : ℕ) → is_cell d ≡ true → Own (bits d) i → i < kept_offset 0
bits_below d i h w = let (k, l, a) = bits_low d i h w in omega arith

-- ---- the signature that a cell counts in

-- it is amended first
pub amend_first : (old new : List ℕ) (x : Option ℕ) (ts : List Touch) (m : List ℕ)
    → touched_all old new (amending x ts) m ≡ touched_all old new ts (touched_all old new (amending x []) m)
amend_first old new None ts m = refl
amend_first old new (Some o) ts m = refl

amend_swap : (w a b c d : ℕ)
    → ((w + (65536 - a % 65536) + b) % 65536 + (65536 - c % 65536) + d) % 65536 ≡ ((w + (65536 - c % 65536) + d) % 65536 + (65536 - a % 65536) + b) % 65536
amend_swap w a b c d = omega arith

-- words of two signatures are one or disjoint, and one word may be amended in either order
words_agree : (i j : ℕ) → Agree (amend_at (kept_offset i)) (amend_at (kept_offset j))
words_agree i j = go (ℕ_discrete i j)
  where
    go : Dec (i ≡ j) → Agree (amend_at (kept_offset i)) (amend_at (kept_offset j))
    go (yes e) = inl (rw e, λ o n o' n' w. amend_swap w (sum_of o') (sum_of n') (sum_of o) (sum_of n))
    go (no n) = inr (λ k x y. n (omega arith))

-- no bit lies in one
bits-off : (d : Cell) → is_cell d ≡ true → (i : ℕ) → AgreeEach (amend_at (kept_offset i)) (bits d)
bits-off d = go (bit_view d)
  where
    go : {d : Cell} {ts : List Touch} → Bit d ts → is_cell d ≡ true → (i : ℕ) → AgreeEach (amend_at (kept_offset i)) ts
    go no_bit h i = tt
    go (part-bit {k} {p}) h i = let l = (part_numbers k p h).0 in (inr (λ j x y. let z : ⊥ = omega arith in z), tt)

module _ (c d : Cell) (h : is_cell c ≡ true) (g : is_cell d ≡ true) where
  amends_agree : {x y : Option ℕ} → Counts c x → Counts d y → AgreeAll (amending x (bits c)) (amending y (bits d))
  amends_agree (nowhere a) (nowhere b) = bits_agree c d
  amends_agree (nowhere a) (in_word j b) = agree_front (amend_at (kept_offset j)) (bits c) (bits d) (bits-off c h j) (bits_agree c d)
  amends_agree (in_word i a) (nowhere b) = (bits-off d g i, bits_agree c d)
  amends_agree (in_word i a) (in_word j b) =
      ((words_agree i j, bits-off d g i), agree_front (amend_at (kept_offset j)) (bits c) (bits d) (bits-off c h j) (bits_agree c d))

-- ---- all touches of a version

pub touches_agree : (v : Version) (c d : Cell) → is_cell c ≡ true → is_cell d ≡ true → AgreeAll (touches v c) (touches v d)
touches_agree V1 c d h g = bits_agree c d
touches_agree V2 c d h g = amends_agree c d h g (counts_view c) (counts_view d)

-- each is of a word
pub touches_low : (v : Version) (d : Cell) (i : ℕ) → is_cell d ≡ true → Own (touches v d) i → InSpans (words v) i
touches_low V1 d i h w = let (k, l, a) = bits_low d i h w in table-words V1 k l i a
touches_low V2 d i h w = go (counts_view d) w
  where
    of_bits : Own (bits d) i → InSpans (words V2) i
    of_bits w = let (k, l, a) = bits_low d i h w in table-words V2 k l i a

    go : {x : Option ℕ} → Counts d x → Own (amending x (bits d)) i → InSpans (words V2) i
    go (nowhere a) w = of_bits w
    go (in_word j a) (inl w) = kept_words j (a.held h).0 i w
    go (in_word j a) (inr w) = of_bits w

-- no touch lies in a cell
pub no_touch_in_cell : (v : Version) (c d : Cell) → is_cell c ≡ true → is_cell d ≡ true → (i : ℕ) → In (offset c) (size c) i → ¬ Own (touches v d) i
no_touch_in_cell v c d h g i a w = (placed v c h).words i a (touches_low v d i g w)

pub touches_room : (v : Version) (d : Cell) (m : List ℕ) → is_cell d ≡ true → length m ≡ image_length v → Room (touches v d) m
touches_room v d m h l = room_of (touches v d) m (λ i w. let p = word_inside v i (touches_low v d i h w) in omega arith)

-- ---- the words of the tables, afterwards

-- the word of the table that stands j-th is as it was, or the cell is a part of that table and the word has its bit
abbrev pub WordAfter : Cell → ℕ → ℕ → ℕ → Type 0
WordAfter d j w w' = (w' ≡ w) ⊎ ((p : ℕ) × (d ≡ Part j p) × (p < 11) × (w' ≡ with_bit w p))

module _ (o n m : List ℕ) where
  -- a part's own has its bit
  own_bit_set : (k p : ℕ) → word_offset k + 2 ≤ length m → table_word (touched o n (bit_of k p) m) k ≡ with_bit (table_word m k) p
  unfolding table_word
  own_bit_set k p l = word_two m (word_offset k) (with_bit (word_at m (word_offset k)) p) l

  bits-after : (d : Cell) (j : ℕ) → is_cell d ≡ true → ((k : ℕ) → k < 16 → word_offset k + 2 ≤ length m)
      → WordAfter d j (table_word m j) (table_word (touched_all o n (bits d) m) j)
  unfolding table_word
  bits-after d j = go (bit_view d)
    where
      of_part : (k p : ℕ) → k < 16 → p < 11 → word_offset k + 2 ≤ length m → Dec (k ≡ j)
          → WordAfter (Part k p) j (table_word m j) (table_word (touched o n (bit_of k p) m) j)
      of_part k p a b l (yes e) = inr (p, rw e, b, rw (← e) (own_bit_set k p l))
      of_part k p a b l (no x) = inl (one_word o n (bit_of k p) m (word_offset j) (λ z. x (omega arith)) (λ z. x (omega arith)))

      go : {d : Cell} {ts : List Touch} → Bit d ts → is_cell d ≡ true → ((k : ℕ) → k < 16 → word_offset k + 2 ≤ length m)
          → WordAfter d j (table_word m j) (table_word (touched_all o n ts m) j)
      go no_bit h l = inl refl
      go (part-bit {k} {p}) h l =
          let b = part_numbers k p h in
          of_part k p b.0 b.1 (l k b.0) (ℕ_discrete k j)

  -- a signature that is amended changes none of them
  amend_apart : (i j : ℕ) → j < 16 → table_word (touched o n (amend_at (kept_offset i)) m) j ≡ table_word m j
  unfolding table_word
  amend_apart i j l =
      one_word o n (amend_at (kept_offset i)) m (word_offset j) (λ z. let y : ⊥ = omega arith in y) (λ z. let y : ⊥ = omega arith in y)

-- all of them lie inside
room : (v : Version) (m : List ℕ) → length m ≡ image_length v → (k : ℕ) → k < 16 → word_offset k + 2 ≤ length m
room v m l k a = rw l (table_word_inside v k a)

module _ (o n m : List ℕ) where
  amended-after : (d : Cell) (j : ℕ) {x : Option ℕ} → Counts d x → is_cell d ≡ true → j < 16 → length m ≡ image_length V2
      → WordAfter d j (table_word m j) (table_word (touched_all o n (amending x (bits d)) m) j)
  amended-after d j (nowhere a) h b l = bits-after o n m d j h (room V2 m l)
  amended-after d j (in_word i a) h b l =
      let m' = touched o n (amend_at (kept_offset i)) m in
      rw (amend_apart o n m i j b) at (bits-after o n m' d j h (room V2 m' (one_length o n (amend_at (kept_offset i)) m ∙ l)))

  pub word_after : (v : Version) (d : Cell) (j : ℕ) → is_cell d ≡ true → j < 16 → length m ≡ image_length v
      → WordAfter d j (table_word m j) (table_word (touched_all o n (touches v d) m) j)
  word_after V1 d j h b l = bits-after o n m d j h (room V1 m l)
  word_after V2 d j h b l = amended-after d j (counts_view d) h b l

  pub own_word : (v : Version) (k p : ℕ) → k < 16 → length m ≡ image_length v
      → table_word (touched_all o n (touches v (Part k p)) m) k ≡ with_bit (table_word m k) p
  own_word V1 k p a l = own_bit_set o n m k p (room V1 m l k a)
  own_word V2 k p a l =
      let t = amend_at (kept_offset k) in
      own_bit_set o n (touched o n t m) k p (rw (one_length o n t m) (room V2 m l k a)) ∙ ap (λ (w : ℕ). with_bit w p) (amend_apart o n m k k a)
