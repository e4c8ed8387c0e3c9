-- The same bytes, stored again in the same cell, change nothing; so a frame that is sent again straight away is answered as before. What carries it is that
-- touches agree: each touch of the second store may come right behind its twin of the first, and there it changes nothing, for the cell holds the new bytes
-- already, so that what leaves is what comes. Only what the first store laid is known: of the image no byte need be below 256. Assumes nothing.
use Rattle.std.specs.Prelude.{None, Option, Some}
use mathlib.Core.Path.{◌≡◌, refl, sym, ap, ap₂, ◌∙◌}
use mathlib.Core.List.{List, [], ◌∷◌}
use mathlib.Core.Bool.{Bool, true, false}
use Prim.Native.Nat.{ℕ, ◌+◌, ◌-◌, ◌%◌, ◌≤◌}
use native.Mathlib.Omega.{arith}
use lib.ListN.{length, drop}
use Rattle.laws.specs.Bytes.{slice, lay, padded, sum_of, two, word_at}
use Rattle.laws.specs.Bits.{with_bit}
use Rattle.laws.proofs.Bytes.{length-lay, lay_over, length-padded, word_two}
use Rattle.laws.proofs.Bits.{bit-set, bit_again}
use Rattle.frame.specs.Apart.{contents_of}
use Rattle.image.specs.declared.cell.Cell.{Cell}
use Rattle.image.specs.declared.version.Version.{Version}
use Rattle.image.specs.declared.version.Version.TheVariants.{V1, V2}
use Rattle.image.specs.Version.{image_length}
use Rattle.image.specs.Cell.{offset, size}
use Rattle.image.specs.Words.{signature_word}
use Rattle.image.specs.Usable.{usable, address}
use Rattle.image.proofs.UsableFacts.{facts}
use Rattle.storing.specs.Stored.{Touch, touched, touched_all, bits, amending, touches, stored, FitStore}
use Rattle.storing.proofs.Touches.{Room, AgreeAll, touched-lay, touched_swap, Bit, no_bit, part-bit, bit_view, touches_agree, no_touch_in_cell, touches_room}
use Rattle.storing.proofs.Stores.{cell_filled}
use Rattle.rules.specs.declared.rule.Act.TheVariants.{Show, Sign, Store}
use Rattle.rules.specs.declared.switch.Switch.{Switch}
use Rattle.rules.specs.declared.switch.Switch.TheVariants.{Unsealed}
use Rattle.rules.specs.Order.{Accepted}
use Rattle.command.specs.Reply.{done, BuffersAfter, sent, reply_in}
use Rattle.izk.specs.Heard.{answered, Hearing, Lawful}
use Rattle.izk.specs.Since.{Turn, in_turn}
use Rattle.izk.proofs.Serving.{served_is, usable_stays, address_stays, zero_is_accepted}
use Rattle.izk.proofs.Changes.{accepted_fits}
use Rattle.izk.proofs.Turns.{Went, refused, accepted, went}
use Rattle.order.specs.Serving.{Call, step}
use Rattle.order.proofs.Demand3.{by_frame, stays}
use Rattle.order.proofs.Repeats.{unusable_step}

-- ---- touches made twice

-- each settles its word: made again, when what leaves is what came, it changes it no more
abbrev Settle : List Touch → Type 0
Settle [] = Unit {0}
Settle (t ∷ ts) = ((o n : List ℕ) (w : ℕ) → t.change n n (t.change o n w) ≡ t.change o n w) × Settle ts

-- what agrees with a list agrees with its rest
agree_rest : (t : Touch) (ss ts : List Touch) → AgreeAll ss (t ∷ ts) → AgreeAll ss ts
agree_rest t [] ts a = tt
agree_rest t (s ∷ ss) ts a = (a.0.1, agree_rest t ss ts a.1)

module _ (o n : List ℕ) where
  -- the second finds the word that the first laid, and lays it over itself
  one_again : (t : Touch) (m : List ℕ) → Settle (t ∷ []) → t.word + 2 ≤ length m → touched n n t (touched o n t m) ≡ touched o n t m
  one_again t m s r =
      let w = t.word in
      let x = t.change o n (word_at m w) in
      ap (λ (y : ℕ). lay (lay m w (two x)) w (two y)) (ap (t.change n n) (word_two m w x r) ∙ s.0 o n (word_at m w)) ∙ lay_over m w (two x) (two x) refl

  -- and so one by one. Room is asked of one list for all that are as long, since touches change no length
  all_again : (l : List ℕ) (ts : List Touch) (m : List ℕ) → Settle ts → AgreeAll ts ts → Room ts l → length m ≡ length l
      → touched_all n n ts (touched_all o n ts m) ≡ touched_all o n ts m
  all_again l [] m s a r e = refl
  all_again l (t ∷ ts) m s a r e =
      let m' = touched o n t m in
      let e' : length m' ≡ length l = length-lay m t.word (two _) ∙ e in
      let twin = one_again t m (s.0, tt) (rw e r.0) in
      ap (touched_all n n ts) (touched_swap n n o n (t ∷ []) ts m' (a.0.1, tt) (rw e' r.0, tt) ∙ ap (touched_all o n ts) twin)
      ∙ all_again l ts m' s.1 (agree_rest t ts ts a.1) r.1 e'

-- ---- those of a store

-- a bit that is set stays set
bits_settle : (d : Cell) → Settle (bits d)
bits_settle d = go (bit_view d)
  where
    go : {d : Cell} {ts : List Touch} → Bit d ts → Settle ts
    go no_bit = tt
    go (part-bit {k} {p}) = (λ o n w. bit_again (with_bit w p) p (bit-set w p), tt)

-- an amended word is a remainder already, and what comes makes up for what leaves
amend_settles : (w s : ℕ) → (w % 65536 + (65536 - s % 65536) + s) % 65536 ≡ w % 65536
amend_settles w s = omega arith

touches_settle : (v : Version) (d : Cell) → Settle (touches v d)
touches_settle V1 d = bits_settle d
touches_settle V2 d = go (signature_word d)
  where
    go : (x : Option ℕ) → Settle (amending x (bits d))
    go None = bits_settle d
    go (Some i) = (λ o n w. amend_settles (w + (65536 - sum_of o % 65536) + sum_of n) (sum_of n), bits_settle d)

-- ---- a store made twice

pub stored_again : (v : Version) (d : Cell) (bs : List ℕ) → FitStore d bs → (m : List ℕ) → length m ≡ image_length v
    → stored v d bs (stored v d bs m) ≡ stored v d bs m
unfolding stored
stored_again v d bs fit m long =
    let new = padded (size d) bs in
    let old = slice (offset d) (size d) m in
    let ts = touches v d in
    let laid = lay m (offset d) new in
    let cell = fit.cell in
    let full = length-padded (size d) bs fit.room in
    let under =
    touched-lay old new ts laid (offset d) new (λ i a. no_touch_in_cell v d d cell cell i (a.0, rw full at a.1))
    ∙ ap (touched_all old new ts) (lay_over m (offset d) new new refl) in
    ap₂ (λ (l k : List ℕ). touched_all l new ts k) (cell_filled v d bs fit m long) under
    ∙ all_again old new laid ts laid (touches_settle v d) (touches_agree v d d cell cell) (touches_room v d laid cell (length-lay m (offset d) new ∙ long)) refl

-- ---- a frame sent again

module _ (ear : Switch → Hearing) (ok : (s : Switch) → Lawful (ear s)) (v : Version) (m : List ℕ) (x : Turn) where
  abbrev c : List ℕ
  c = contents_of x.frame

  -- sent again straight away, whatever it is, the key being where it was and the same output lent again, it has the same number, length and whole
  -- output, and leaves the image as it is
  pub again_alike : in_turn ear v (in_turn ear v m x).image x ≡ in_turn ear v m x
  unfolding answered
  again_alike = go (went ear ok v m x)
    where
      unmoved : (in_turn ear v m x).image ≡ m → in_turn ear v (in_turn ear v m x).image x ≡ in_turn ear v m x
      unmoved e = ap (λ (n : List ℕ). in_turn ear v n x) e

      stores : usable v m ≡ true → (e k : ℕ) (d : Cell) → ear x.switch (address m) x.frame ≡ Accepted e (Store k) d
          → in_turn ear v m x ≡ sent (done v (Accepted e (Store k) d) c m) x.out → in_turn ear v (in_turn ear v m x).image x ≡ in_turn ear v m x
      stores u e k d h i =
          let n = stored v d (drop k c) m in
          let (u', room, a) = zero_is_accepted (ear x.switch) (ok x.switch) v x.frame m x.out (ap (λ r. r.number) i) in
          let left : (in_turn ear v m x).image ≡ n = ap (λ r. r.image) i in
          let fit = (accepted_fits (ear x.switch) (ok x.switch) x.frame m e (Store k) d h).act in
          let same : address n ≡ address m = rw left at (address_stays (ear x.switch) (ok x.switch) v x.frame m x.out u) in
          let still = rw left at (usable_stays (ear x.switch) (ok x.switch) v x.frame m x.out u) in
          rw (left, i, served_is (ear x.switch) v x.frame n x.out still room, same, h, stored_again v d (drop k c) fit m (facts v m u).long_is)

      go : Went ear ok v m x → in_turn ear v (in_turn ear v m x).image x ≡ in_turn ear v m x
      go (refused n l i) = unmoved (ap (λ r. r.image) i)
      go (accepted u e Show d h i) = unmoved (ap (λ r. r.image) i)
      go (accepted u e Sign d h i) = unmoved (ap (λ r. r.image) i)
      go (accepted u e (Store k) d h i) = stores u e k d h i

-- into any two outputs with room for a reply: the same number and reply, and the image as it is
module _ (ear : Hearing) (ok : Lawful ear) (v : Version) (m : List ℕ) (x y : Call) (same : x.frame ≡ y.frame) where
  pub again_call : step ear v (step ear v m x).1 y ≡ step ear v m x
  again_call = go (usable v m) refl
    where
      go : (t : Bool) → usable v m ≡ t → step ear v (step ear v m x).1 y ≡ step ear v m x
      go true u =
          sym (by_frame ear ok v (address m) (step ear v m x).1 x y (stays ear ok v (address m) m x (u, refl)) same)
          ∙ ap (λ (a : BuffersAfter). ((a.number, reply_in a), a.image))
          (again_alike (λ s. ear) (λ s. ok) v m (record { switch = Unsealed; frame = x.frame; out = x.out }))
      go false u =
          ap (λ (n : List ℕ). step ear v n y) (ap (λ (r : (ℕ × List ℕ) × List ℕ). r.1) (unusable_step ear v m x u)) ∙ unusable_step ear v m y u
          ∙ sym (unusable_step ear v m x u)
