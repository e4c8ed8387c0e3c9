-- On images that hold the same, with true words, a block of version 1 and one of version 2 answer each frame alike, number, length and whole output, and
-- go on holding the same. Fresh images do, so from there on the two cannot be told apart on the line. Assumes nothing.
use Rattle.std.specs.Prelude.{Option}
use mathlib.Core.Path.{◌≡◌, refl, sym, ap, ap₂, ◌∙◌}
use mathlib.Core.Logic.Dec
use mathlib.Core.Logic.{◌≢◌, inl, inr}
use mathlib.Core.List.{List, [], ◌∷◌, ◌++◌}
use mathlib.Core.Bool.{Bool, true, false}
use Prim.Native.Nat.{ℕ, zero, suc, ◌+◌, ◌-◌, ◌%◌, ◌≤◌, ◌<◌}
use native.Mathlib.Decide.{dec_lt, dec_le, ℕ_discrete}
use native.Mathlib.Omega.{arith}
use lib.ListN.{length, get_or, take, drop, length-append}
use Rattle.laws.specs.Bytes.{slice, lay, padded, sum_of, two, word_at}
use Rattle.laws.specs.Bits.{with_bit}
use Rattle.laws.specs.Checks.{judged}
use Rattle.laws.proofs.Tests.{never}
use Rattle.laws.proofs.Bytes.{In, length-lay, lay_in, lay_out, slice-both, length_two}
use Rattle.reorder.specs.Reorder.{outcomes, final}
use Rattle.frame.specs.Apart.{contents_of}
use Rattle.frame.specs.Built.{frame_of}
use Rattle.frame.proofs.FrameLaid.{length_frame}
use Rattle.image.specs.declared.cell.Cell.{Cell}
use Rattle.image.specs.declared.version.Version.{Version}
use Rattle.image.specs.declared.version.Version.TheVariants.{V1, V2}
use Rattle.image.specs.Version.{image_length}
use Rattle.image.specs.Cell.{offset, size, extent, is_cell, is_item, is_table, table_index}
use Rattle.image.specs.Words.{word_offset, signature_word, table_word}
use Rattle.image.specs.Usable.{usable, address, address_ok}
use Rattle.image.specs.Fresh.{fresh}
use Rattle.image.specs.Held.{held_of, held_parts}
use Rattle.image.proofs.Cells.{placed, size-some, part_numbers}
use Rattle.image.proofs.Indices.{index_below}
use Rattle.image.proofs.UsableFacts.{facts}
use Rattle.image.proofs.FreshImage.{head_at, rest_at, fresh-usable}
use Rattle.image.proofs.Stretches.{item_inside, item_low}
use Rattle.image.proofs.Kept.{Counts, nowhere, in_word, counts_view}
use Rattle.storing.specs.Signature.{full_sum, signature, TrueWords}
use Rattle.storing.specs.Stored.{Touch, touched_all, bits, amending, stored, FitStore}
use Rattle.storing.proofs.Touches.{Own, touched-byte, touched-length, Bit, no_bit, part-bit, bit_view, amend_first}
use Rattle.storing.proofs.Elsewhere.{extent_fits}
use Rattle.rules.specs.declared.rule.Act.{Act}
use Rattle.rules.specs.declared.rule.Act.TheVariants.{Show, Sign, Store}
use Rattle.rules.specs.declared.switch.Switch.{Switch}
use Rattle.rules.specs.Order.{Verdict, Refused, Accepted}
use Rattle.rules.specs.Fits.{Fit, FitVerdict}
use Rattle.command.specs.Act.{says, leaves}
use Rattle.command.specs.Reply.{refusal, done, BuffersAfter, sent}
use Rattle.izk.specs.Heard.{heard, answered, Hearing, Lawful}
use Rattle.izk.specs.Since.{Turn, in_turn, left}
use Rattle.izk.proofs.Hearing.{heard_lawful}
use Rattle.izk.proofs.Serving.{unusable_is_1, served_is, no_room_is_2, usable_stays}
use Rattle.kept.specs.Same.{Common, Like, Same, AsksTrue, told, asked}
use Rattle.kept.proofs.Truth.{fresh_true, call_true}

-- ---- bytes in common

module _ (m n : List ℕ) (long : image_length V1 ≤ length m) (long' : image_length V1 ≤ length n) (same : Common m n) where
  common_lay : (a : ℕ) (bs : List ℕ) → Common (lay m a bs) (lay n a bs)
  common_lay a bs i low high = go (Dec.and (dec_le a i) (dec_lt i (a + length bs)))
    where
      go : Dec (In a (length bs) i) → get_or (lay m a bs) i 0 ≡ get_or (lay n a bs) i 0
      go (yes p) =
          let j : a + (i - a) ≡ i = omega arith in
          rw (← j) (lay_in m a bs (i - a) (omega arith) (omega arith) ∙ sym (lay_in n a bs (i - a) (omega arith) (omega arith)))
      go (no p) = lay_out m a bs i p ∙ same i low high ∙ sym (lay_out n a bs i p)

  common_slice : (a k : ℕ) → 5 ≤ a → a + k ≤ image_length V1 → slice a k m ≡ slice a k n
  common_slice a k low high = slice-both m n a k (omega arith) (omega arith) (λ i p. same i (omega arith) (omega arith))

  pub sums_alike : (d : Cell) → is_item d ≡ true → full_sum d m ≡ full_sum d n
  unfolding full_sum
  sums_alike d h =
      ap (λ (l : List ℕ). sum_of l % 65536) (common_slice (offset d) (size d) (omega (arith, item_low d h)) (item_inside V1 d h))

  -- a part's bit is set alike in both, whatever the part's bytes were
  common_bits : (o o' new new' : List ℕ) (d : Cell) → is_cell d ≡ true → Common (touched_all o new (bits d) m) (touched_all o' new' (bits d) n)
  unfolding word_at
  common_bits o o' new new' d = go (bit_view d)
    where
      word : (k : ℕ) → k < 16 → word_at m (word_offset k) ≡ word_at n (word_offset k)
      word k l = rw (same (word_offset k) (omega arith) (omega arith), same (word_offset k + 1) (omega arith) (omega arith))

      go : {d : Cell} {ts : List Touch} → Bit d ts → is_cell d ≡ true → Common (touched_all o new ts m) (touched_all o' new' ts n)
      go no_bit h = same
      go (part-bit {k} {p}) h =
          let b = part_numbers k p h in
          rw (word k b.0) (common_lay (word_offset k) (two (with_bit (word_at n (word_offset k)) p)))

-- a signature stands behind the end of version 1
amend_unseen : (o new : List ℕ) (d : Cell) (n : List ℕ) → Common (touched_all o new (amending (signature_word d) []) n) n
amend_unseen o new d n i low high = touched-byte o new (amending (signature_word d) []) n i (off (counts_view d))
  where
    off : {x : Option ℕ} → Counts d x → ¬ Own (amending x []) i
    off (nowhere a) w = w
    off (in_word j a) (inl w) = let z : ⊥ = omega arith in z
    off (in_word j a) (inr w) = w

-- ---- on images that are alike but for the words

module _ (m n : List ℕ) (s : Like m n) where
  long : image_length V1 ≤ length m
  long = omega (arith, (facts V1 m s.first).long_is)

  long' : image_length V1 ≤ length n
  long' = omega (arith, (facts V2 n s.second).long_is)

  -- ---- an act

  stored_alike : (d : Cell) (bs : List ℕ) → FitStore d bs → Common (stored V1 d bs m) (stored V2 d bs n)
  unfolding stored
  stored_alike d bs fit =
      let new = padded (size d) bs in
      let old = slice (offset d) (size d) m in
      let old' = slice (offset d) (size d) n in
      let under = lay m (offset d) new in
      let under' = lay n (offset d) new in
      let over = touched_all old' new (amending (signature_word d) []) under' in
      let l : image_length V1 ≤ length under = rw (length-lay m (offset d) new) long in
      let l' : image_length V1 ≤ length over =
      rw (touched-length old' new (amending (signature_word d) []) under', length-lay n (offset d) new) long' in
      let laid : Common under over =
      (λ i low high. common_lay m n long long' s.bytes (offset d) new i low high ∙ sym (amend_unseen old' new d under' i low high)) in
      rw (amend_first old' new (signature_word d) (bits d) under') (common_bits under over l l' laid old old' new new d fit.cell)

  leaves_alike : (a : Act) (d : Cell) (c : List ℕ) → Fit a d c → Common (leaves V1 a d c m) (leaves V2 a d c n)
  leaves_alike Show d c f = s.bytes
  leaves_alike Sign d c f = s.bytes
  leaves_alike (Store k) d c f = stored_alike d (drop k c) f

  says_alike : (e : ℕ) (a : Act) (d : Cell) (c : List ℕ) → Fit a d c → AsksTrue (Accepted e a d) n → says V1 a d m ≡ says V2 a d n
  says_alike e Show d c f t =
      let p = placed V1 d f in
      let z : get_or m (offset d) 0 ≡ get_or n (offset d) 0 = s.bytes (offset d) (omega (arith, p.low)) (omega (arith, p.high, size-some d f)) in
      let few = extent_fits V1 m (facts V1 m s.first) d f in
      common_slice m n long long' s.bytes (offset d) (extent d (get_or m (offset d) 0)) (omega (arith, p.low)) (omega (arith, p.high, few))
      ∙ ap (λ (k : ℕ). slice (offset d) (extent d k) n) z
  says_alike e Sign d c f t = ap two (sums_alike m n long long' s.bytes d f ∙ sym t)
  says_alike e (Store k) d c f t = refl

  -- whatever the words say, a signature has two bytes
  says_long : (a : Act) (d : Cell) (c : List ℕ) → Fit a d c → length (says V1 a d m) ≡ length (says V2 a d n)
  says_long Show d c f = ap length (says_alike 0 Show d c f tt)
  says_long Sign d c f = length_two (full_sum d m) ∙ sym (length_two (signature V2 d n))
  says_long (Store k) d c f = refl

  -- ---- a turn

  one_address : address m ≡ address n
  one_address = s.bytes 5 (omega arith) (omega arith)

  number_alike : (r : Verdict) (c : List ℕ) → (done V1 r c m).number ≡ (done V2 r c n).number
  number_alike (Refused k) c = refl
  number_alike (Accepted e a d) c = refl

  reply_alike : (r : Verdict) (c : List ℕ) → FitVerdict r c → AsksTrue r n → (done V1 r c m).reply ≡ (done V2 r c n).reply
  reply_alike (Refused k) c f t = refl
  reply_alike (Accepted e a d) c f t = ap (λ (l : List ℕ). frame_of (take (2 + e) c ++ l)) (says_alike e a d c f.act t)

  reply_long : (r : Verdict) (c : List ℕ) → FitVerdict r c → length (done V1 r c m).reply ≡ length (done V2 r c n).reply
  reply_long (Refused k) c f = refl
  reply_long (Accepted e a d) c f =
      let h = take (2 + e) c in
      let x = length_frame (h ++ says V1 a d m) in
      let y = length_frame (h ++ says V2 a d n) in
      omega (arith, x, y, length-append h (says V1 a d m), length-append h (says V2 a d n), says_long a d c f.act)

  image_alike : (r : Verdict) (c : List ℕ) → FitVerdict r c → Common (done V1 r c m).image (done V2 r c n).image
  image_alike (Refused k) c f = s.bytes
  image_alike (Accepted e a d) c f = leaves_alike a d c f.act

  module _ (ear : Switch → Hearing) (x : Turn) where
    abbrev verdict : Verdict
    verdict = ear x.switch (address n) x.frame

    -- both refuse it 2, or both do what one verdict says
    turn-both : (R : BuffersAfter → BuffersAfter → Type 0) → R (sent (refusal 2 m) x.out) (sent (refusal 2 n) x.out)
        → R (sent (done V1 verdict (contents_of x.frame) m) x.out) (sent (done V2 verdict (contents_of x.frame) n) x.out)
        → R (in_turn ear V1 m x) (in_turn ear V2 n x)
    unfolding answered
    turn-both R refused through = go (dec_le 269 (length x.out))
      where
        go : Dec (269 ≤ length x.out) → R (in_turn ear V1 m x) (in_turn ear V2 n x)
        go (no r) =
            rw (
              no_room_is_2 (ear x.switch) V1 x.frame m x.out s.first (omega arith),
              no_room_is_2 (ear x.switch) V2 x.frame n x.out s.second (omega arith),
            ) refused
        go (yes r) =
            rw (
              served_is (ear x.switch) V1 x.frame m x.out s.first r,
              served_is (ear x.switch) V2 x.frame n x.out s.second r,
              one_address,
            ) through

    -- whatever the words say, and whatever hears the frame
    pub numbers_alike : (in_turn ear V1 m x).number ≡ (in_turn ear V2 n x).number
    numbers_alike = turn-both (λ a b. a.number ≡ b.number) refl (number_alike verdict (contents_of x.frame))

  module _ (ear : Switch → Hearing) (ok : (k : Switch) → Lawful (ear k)) (x : Turn) where
    fits : FitVerdict (verdict ear x) (contents_of x.frame)
    fits = (ok x.switch).fits (address n) x.frame

    -- whatever the words say
    pub lengths_alike : (in_turn ear V1 m x).len ≡ (in_turn ear V2 n x).len
    lengths_alike = turn-both ear x (λ a b. a.len ≡ b.len) refl (reply_long (verdict ear x) (contents_of x.frame) fits)

    pub stays_like : Like (in_turn ear V1 m x).image (in_turn ear V2 n x).image
    stays_like =
        record {
          first = usable_stays (ear x.switch) (ok x.switch) V1 x.frame m x.out s.first;
          second = usable_stays (ear x.switch) (ok x.switch) V2 x.frame n x.out s.second;
          bytes = turn-both ear x (λ a b. Common a.image b.image) s.bytes (image_alike (verdict ear x) (contents_of x.frame) fits);
        }

    -- number, length and whole output, where no false word is asked for
    pub told_alike : AsksTrue (verdict ear x) n → (asked ear V1 m x).0 ≡ (asked ear V2 n x).0
    told_alike t =
        turn-both ear x (λ a b. told a ≡ told b) refl
        (rw (number_alike (verdict ear x) (contents_of x.frame), reply_alike (verdict ear x) (contents_of x.frame) fits t))

  -- held parts, of any table
  pub held_alike : (t : ℕ) → held_parts V1 m t ≡ held_parts V2 n t
  unfolding held_parts judged table_word word_at
  held_alike t = go (is_table t) refl
    where
      word : (k : ℕ) → k < 16 → table_word m k ≡ table_word n k
      word k l = rw (s.bytes (word_offset k) (omega arith) (omega arith), s.bytes (word_offset k + 1) (omega arith) (omega arith))

      go : (b : Bool) → is_table t ≡ b → held_parts V1 m t ≡ held_parts V2 n t
      go false e = rw (s.first, s.second, e)
      go true e = rw (s.first, s.second, e) (ap held_of (word (table_index t) (index_below t e)))

-- what is told is each of the three
pub told_each : (a b : BuffersAfter) → told a ≡ told b → (a.number ≡ b.number) × (a.len ≡ b.len) × (a.out ≡ b.out)
told_each a b e =
    (ap (λ (k : ℕ × ℕ × List ℕ). k.0) e, ap (λ (k : ℕ × ℕ × List ℕ). k.1) e, ap (λ (k : ℕ × ℕ × List ℕ). k.2) e)

-- and what a turn leaves is what the next one finds
pub asked-leaves : (ear : Switch → Hearing) (v : Version) (m : List ℕ) (xs : List Turn) → final (asked ear v) m xs ≡ left ear v m xs
unfolding left
asked-leaves ear v m [] = refl
asked-leaves ear v m (x ∷ xs) = asked-leaves ear v (in_turn ear v m x).image xs

-- a verdict that signs no item, or one whose word is true, asks for no false word
pub asks_signed : (r : Verdict) (n : List ℕ) → ((e : ℕ) (d : Cell) → r ≡ Accepted e Sign d → signature V2 d n ≡ full_sum d n) → AsksTrue r n
asks_signed (Refused k) n h = tt
asks_signed (Accepted e Show d) n h = tt
asks_signed (Accepted e Sign d) n h = h e d refl
asks_signed (Accepted e (Store k) d) n h = tt

-- ---- with true words

asks_true : (r : Verdict) (c n : List ℕ) → FitVerdict r c → TrueWords n → AsksTrue r n
asks_true r c n f t = asks_signed r n (λ e d is. let fit = rw is at f in t d fit.act)

module _ (m n : List ℕ) (s : Same m n) (ear : Switch → Hearing) (ok : (k : Switch) → Lawful (ear k)) (x : Turn) where
  pub answer_alike : (asked ear V1 m x).0 ≡ (asked ear V2 n x).0
  answer_alike =
      told_alike m n s.like ear ok x
      (asks_true (verdict m n s.like ear x) (contents_of x.frame) n (fits m n s.like ear ok x) s.words)

  pub stays_same : Same (in_turn ear V1 m x).image (in_turn ear V2 n x).image
  stays_same = record { like = stays_like m n s.like ear ok x; words = call_true ear ok n x s.words }

-- ---- calls one after the other

module _ (ear : Switch → Hearing) (ok : (k : Switch) → Lawful (ear k)) where
  pub answers_alike : (m n : List ℕ) → Same m n → (xs : List Turn) → outcomes (asked ear V1) m xs ≡ outcomes (asked ear V2) n xs
  answers_alike m n s [] = refl
  answers_alike m n s (x ∷ xs) =
      ap₂ ◌∷◌ (answer_alike m n s ear ok x) (answers_alike (in_turn ear V1 m x).image (in_turn ear V2 n x).image (stays_same m n s ear ok x) xs)

-- fresh images hold the same
pub fresh-same : (a : ℕ) → a ≢ 0 → Same (fresh V1 a) (fresh V2 a)
fresh-same a some =
    record {
      like = record { first = fresh-usable V1 a some; second = fresh-usable V2 a some; bytes = λ i low high. go i low (ℕ_discrete i 5) };
      words = fresh_true a;
    }
  where
    go : (i : ℕ) → 5 ≤ i → Dec (i ≡ 5) → get_or (fresh V1 a) i 0 ≡ get_or (fresh V2 a) i 0
    go i low (yes e) = rw e (head_at V1 a 5 (omega arith) ∙ sym (head_at V2 a 5 (omega arith)))
    go i low (no n) = rest_at V1 a i (omega arith) ∙ sym (rest_at V2 a i (omega arith))

-- an image of address 0 is not usable
pub zero_unusable : (v : Version) → usable v (fresh v 0) ≡ false
unfolding address_ok
zero_unusable v = go (usable v (fresh v 0)) refl
  where
    go : (b : Bool) → usable v (fresh v 0) ≡ b → usable v (fresh v 0) ≡ false
    go true u = absurd (never (rw (head_at v 0 5 (omega arith)) at (facts v (fresh v 0) u).address_is))
    go false u = u

refused_alike : (ear : Switch → Hearing) (m n : List ℕ) → usable V1 m ≡ false → usable V2 n ≡ false → (xs : List Turn)
    → outcomes (asked ear V1) m xs ≡ outcomes (asked ear V2) n xs
refused_alike ear m n u w [] = refl
refused_alike ear m n u w (x ∷ xs) =
    rw (unusable_is_1 (ear x.switch) V1 x.frame m x.out u, unusable_is_1 (ear x.switch) V2 x.frame n x.out w)
    (ap (λ (l : List (ℕ × ℕ × List ℕ)). (1, 0, lay x.out 0 []) ∷ l) (refused_alike ear m n u w xs))

-- so whatever is asked from there on, in either position of the switch and with any outputs, the answers are the same
pub versions_answer_alike : (a : ℕ) (xs : List Turn) → outcomes (asked heard V1) (fresh V1 a) xs ≡ outcomes (asked heard V2) (fresh V2 a) xs
versions_answer_alike zero xs = refused_alike heard (fresh V1 0) (fresh V2 0) (zero_unusable V1) (zero_unusable V2) xs
versions_answer_alike (suc a) xs =
    answers_alike heard heard_lawful (fresh V1 (suc a)) (fresh V2 (suc a)) (fresh-same (suc a) (λ e. absurd (let z : ⊥ = omega arith in z))) xs
