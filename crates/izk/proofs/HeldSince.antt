-- A part is held exactly if it was written since the image was fresh: what the bit of a part says, and so the held-parts question, after any list
-- of frames with any outputs. One turn sets the bit if it wrote the part, and leaves it else. Assumes nothing.
use mathlib.Core.Path.{◌≡◌, refl, sym, ap, ap₂, ◌∙◌}
use mathlib.Core.Logic.{◌≢◌}
use mathlib.Core.List.{List}
use mathlib.Core.Bool.{Bool, true, false, cond, ◌||◌}
use Prim.Native.Nat.{ℕ, zero, suc, ◌+◌, ◌-◌, ◌≤◌}
use native.Mathlib.Omega.{arith}
use lib.ListN.{drop}
use lib.Dec.{eqb}
use borrow.Author.Tests.{eqb-true, eq-eqb}
use Rattle.laws.specs.Bits.{bit, ones_in}
use Rattle.laws.proofs.Tests.{and_both, never}
use Rattle.frame.specs.Apart.{contents_of}
use Rattle.image.specs.declared.cell.Cell.{Cell}
use Rattle.image.specs.declared.cell.Cell.TheVariants.{Part}
use Rattle.image.specs.declared.version.Version.{Version}
use Rattle.image.specs.Cell.{is_table, table_index}
use Rattle.image.specs.Words.{table_word}
use Rattle.image.specs.Usable.{usable, address}
use Rattle.image.specs.Fresh.{fresh}
use Rattle.image.specs.Held.{missing_from, lowest_missing, held_of, held_parts}
use Rattle.image.proofs.Indices.{index_below, one_index}
use Rattle.image.proofs.UsableFacts.{facts}
use Rattle.image.proofs.FreshImage.{fresh-bit, fresh-usable}
use Rattle.storing.proofs.Stores.{bit_stays, own_bit}
use Rattle.rules.specs.declared.rule.Act.{Act}
use Rattle.rules.specs.declared.rule.Act.TheVariants.{Show, Sign, Store}
use Rattle.rules.specs.declared.switch.Switch.{Switch}
use Rattle.rules.specs.Order.{Accepted}
use Rattle.rules.specs.Rules.{byte}
use Rattle.rules.proofs.Parts.{part_by_59, stores_59}
use Rattle.command.specs.Act.{leaves}
use Rattle.izk.specs.Heard.{Hearing, Lawful}
use Rattle.izk.specs.Since.{Turn, in_turn, left, ever, writes_part, wrote, ever_wrote, how_many, least_other}
use Rattle.izk.proofs.Changes.{accepted_fits}
use Rattle.izk.proofs.HeldAfter.{held_is}
use Rattle.izk.proofs.Turns.{Went, refused, accepted, went, by_turns, left-usable}

-- ---- what the tests of a turn mean

module _ (t p : ℕ) (c : List ℕ) where
  pub write_is : writes_part t p c ≡ true → (byte c 2 ≡ 59) × (byte c 3 ≡ t) × (byte c 4 ≡ p)
  unfolding writes_part
  write_is h =
      let x = and_both _ _ h in
      let y = and_both _ _ x.1 in
      (eqb-true _ _ x.0, eqb-true _ _ y.0, eqb-true _ _ y.1)

  is_write_lem : byte c 2 ≡ 59 → byte c 3 ≡ t → byte c 4 ≡ p → writes_part t p c ≡ true
  unfolding writes_part
  is_write_lem i j k = rw (eq-eqb _ _ i, eq-eqb _ _ j, eq-eqb _ _ k)

-- what was not written stays
unwritten : (b : Bool) (n : ℕ) → (b ≡ true → ⊥) → n ≡ cond b 1 n
unwritten true n h = absurd (h refl)
unwritten false n h = refl

-- an earlier turn or a later one
one_of : (a b : Bool) (n : ℕ) → cond b 1 (cond a 1 n) ≡ cond (a || b) 1 n
one_of true true n = refl
one_of true false n = refl
one_of false b n = refl

-- ---- one turn

module _ (ear : Switch → Hearing) (ok : (s : Switch) → Lawful (ear s)) (v : Version) (t p : ℕ) (table : is_table t ≡ true) (low : 1 ≤ p) where
  -- the part's bit
  abbrev part_bit : List ℕ → ℕ
  part_bit m = bit (table_word m (table_index t)) (p - 1)

  module _ (k : Switch) (f m : List ℕ) (u : usable v m ≡ true) (e : ℕ) (d : Cell) where
    abbrev c : List ℕ
    c = contents_of f

    sets : (a : Act) → ear k (address m) f ≡ Accepted e a d → writes_part t p c ≡ true → part_bit (leaves v a d c m) ≡ 1
    sets a h w =
        let b = write_is t p c w in
        let r = (ok k).known (address m) f h in
        let s = stores_59 c r.0 r.1 ((ok k).follows (address m) f r.0 h r.1) b.0 in
        let i : d ≡ Part (table_index t) (p - 1) = rw (b.1, b.2) at s.cell in
        let fit = rw s.acts at (accepted_fits (ear k) (ok k) f m e a d h).act in
        rw s.acts (own_bit v d (drop 4 c) fit m (facts v m u).long_is (table_index t) (p - 1) i)

    pub stores_own : (n : ℕ) → ear k (address m) f ≡ Accepted e (Store n) d → d ≡ Part (table_index t) (p - 1) → writes_part t p c ≡ true
    stores_own n h i =
        let r = (ok k).known (address m) f h in
        let follows = (ok k).follows (address m) f r.0 h r.1 in
        let is-59 = part_by_59 c r.0 r.1 follows n (table_index t) (p - 1) refl i in
        let s = stores_59 c r.0 r.1 follows is-59 in
        let same = s.cell in
        let j : table_index (byte c 3) ≡ table_index t = cc in
        let q : byte c 4 - 1 ≡ p - 1 = cc in
        is_write_lem t p c is-59 (one_index (byte c 3) t s.table table j) (omega (arith, s.low))

    keeps : (a : Act) → ear k (address m) f ≡ Accepted e a d → writes_part t p c ≡ false → part_bit (leaves v a d c m) ≡ part_bit m
    keeps Show h w = refl
    keeps Sign h w = refl
    keeps (Store n) h w =
        bit_stays v d (drop n c) (accepted_fits (ear k) (ok k) f m e (Store n) d h).act m (facts v m u).long_is (table_index t) (p - 1) (index_below t table)
        (λ i. never (sym w ∙ stores_own n h i))

  wrote-done : (m : List ℕ) (x : Turn) → wrote ear v t p m x ≡ true → (in_turn ear v m x).number ≡ 0
  unfolding wrote
  wrote-done m x w = eqb-true _ _ (and_both _ _ w).0

  turn_sets : (m : List ℕ) (x : Turn) → part_bit (in_turn ear v m x).image ≡ cond (wrote ear v t p m x) 1 (part_bit m)
  unfolding wrote
  turn_sets m x = go (went ear ok v m x)
    where
      by : usable v m ≡ true → (e : ℕ) (a : Act) (d : Cell) → ear x.switch (address m) x.frame ≡ Accepted e a d
          → (w : Bool) → writes_part t p (contents_of x.frame) ≡ w → part_bit (leaves v a d (contents_of x.frame) m) ≡ cond w 1 (part_bit m)
      by u e a d h true w = sets x.switch x.frame m u e d a h w
      by u e a d h false w = keeps x.switch x.frame m u e d a h w

      go : Went ear ok v m x → part_bit (in_turn ear v m x).image ≡ cond (wrote ear v t p m x) 1 (part_bit m)
      go (refused n l i) =
          ap (λ r. part_bit r.image) i
          ∙ unwritten (wrote ear v t p m x) (part_bit m) (λ w. let z : n ≡ 0 = sym (ap (λ r. r.number) i) ∙ wrote-done m x w in omega arith)
      go (accepted u e a d h i) = rw i (by u e a d h (writes_part t p (contents_of x.frame)) refl)

  -- ---- any list of turns

  -- on any image: the bit is 1 if some turn wrote the part, else it is as it was
  pub bit-since : (m : List ℕ) (xs : List Turn) → part_bit (left ear v m xs) ≡ cond (ever_wrote ear v t m xs p) 1 (part_bit m)
  unfolding ever_wrote ever
  bit-since =
      by_turns ear ok v (λ m xs m'. part_bit m' ≡ cond (ever_wrote ear v t m xs p) 1 (part_bit m)) (λ m. refl)
      (λ m x xs m' h. h ∙ rw (turn_sets m x) (one_of (wrote ear v t p m x) (ever_wrote ear v t (in_turn ear v m x).image xs p) (part_bit m)))

  -- on a fresh one: 1 exactly if some turn wrote it, else 0
  pub held_since : (a : ℕ) (xs : List Turn)
      → bit (table_word (left ear v (fresh v a) xs) (table_index t)) (p - 1) ≡ cond (ever_wrote ear v t (fresh v a) xs p) 1 0
  held_since a xs =
      bit-since (fresh v a) xs
      ∙ ap (λ (n : ℕ). cond (ever_wrote ear v t (fresh v a) xs p) 1 n) (fresh-bit v a (table_index t) (p - 1))

-- ---- the held-parts question

-- the bits of a word tell of each part whether it meets a test
module _ (w : ℕ) (test : ℕ → Bool) (tells : (p : ℕ) → 1 ≤ p → bit w (p - 1) ≡ cond (test p) 1 0) where
  ones_told : (n : ℕ) → ones_in n w ≡ how_many test n
  unfolding ones_in how_many
  ones_told zero = refl
  ones_told (suc n) =
      let e : suc n - 1 ≡ n = omega arith in
      ap₂ ◌+◌ (rw e at (tells (suc n) (omega arith))) (ones_told n)

  missing_told : (p n : ℕ) → 1 ≤ p → missing_from w p n ≡ least_other test p n
  unfolding missing_from least_other
  missing_told p zero l = refl
  missing_told p (suc n) l = rw (tells p l) (go (test p) (missing_told (suc p) n (omega arith)))
    where
      go : (b : Bool) → missing_from w (suc p) n ≡ least_other test (suc p) n
          → cond (eqb (cond b 1 0) 0) p (missing_from w (suc p) n) ≡ cond b (least_other test (suc p) n) p
      go true ih = ih
      go false ih = refl

  held_told : held_of w ≡ record { number = 0; parts = how_many test 11; missing = least_other test 1 11 }
  unfolding held_of lowest_missing
  held_told = rw (ones_told 11, missing_told 1 11 (omega arith))

module _ (ear : Switch → Hearing) (ok : (s : Switch) → Lawful (ear s)) (v : Version) (a t : ℕ) (xs : List Turn) where
  -- the parts of the table that some turn wrote since the image was fresh
  abbrev was_written : ℕ → Bool
  was_written = ever_wrote ear v t (fresh v a) xs

  -- how many they are, and the lowest part that is not among them
  pub held_parts_since : a ≢ 0 → is_table t ≡ true
      → held_parts v (left ear v (fresh v a) xs) t ≡ record { number = 0; parts = how_many was_written 11; missing = least_other was_written 1 11 }
  held_parts_since some table =
      held_is v _ t (left-usable ear ok v (fresh v a) xs (fresh-usable v a some)) table
      ∙ held_told _ _ (λ p low. held_since ear ok v t p table low a xs)
