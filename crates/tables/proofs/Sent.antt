-- The rows that a question reads are those that 59 sent, and frames that write no part of a table change no answer by it: after any frames with any outputs,
-- the switch turned between them or not, on any image. Assumes nothing.
use mathlib.Core.Path.{◌≡◌, refl, sym, ap, ◌∙◌}
use mathlib.Core.List.{List, [], ◌∷◌}
use mathlib.Core.Bool.{Bool, true, false, cond, or-true}
use Prim.Native.Nat.{ℕ, zero, suc, ◌+◌, ◌-◌, ◌*◌, ◌/◌, ◌%◌, ◌≤◌, ◌<◌}
use native.Mathlib.Omega.{arith}
use lib.ListN.{length, get_or, drop}
use lib.Seq.{get_or-drop}
use borrow.Author.Tests.{lt-ltb}
use Rattle.laws.specs.Bytes.{slice, word_at}
use Rattle.laws.specs.Bits.{bit}
use Rattle.laws.specs.Checks.{judged}
use Rattle.laws.proofs.Tests.{never}
use Rattle.laws.proofs.Bytes.{slice-same, slice-slice}
use Rattle.reorder.specs.Last.{WroteAt}
use Rattle.frame.specs.Apart.{contents_of}
use Rattle.image.specs.declared.cell.Cell.TheVariants.{Part}
use Rattle.image.specs.declared.version.Version.{Version}
use Rattle.image.specs.Cell.{is_table, table_index}
use Rattle.image.specs.Words.{table_word}
use Rattle.image.specs.Usable.{usable}
use Rattle.image.specs.Fresh.{fresh}
use Rattle.image.proofs.Cells.{part_numbers}
use Rattle.image.proofs.Indices.{index_below}
use Rattle.image.proofs.UsableFacts.{facts}
use Rattle.rules.specs.declared.switch.Switch.{Switch}
use Rattle.izk.specs.Heard.{Hearing, Lawful}
use Rattle.izk.specs.Since.{Turn, in_turn, turned, left, ever, ever_wrote}
use Rattle.izk.proofs.Serving.{unusable_is_1}
use Rattle.izk.proofs.Turns.{by_turns, left-usable}
use Rattle.izk.proofs.Changes.{Kept}
use Rattle.izk.proofs.HeldSince.{held_since}
use Rattle.repeats.specs.Written.{Wrote, no_turn, no_answer, Unwritten, LastWrite}
use Rattle.repeats.proofs.Last.{unwritten_keeps, last_write_holds}
use Rattle.repeats.proofs.Numbers.{holds_part, kept_each, part-wrote}
use Rattle.tables.specs.Rows.{level, volume, sent_level, sent_volume}
use Rattle.tables.specs.Quantity.{table_bytes, whole, quantity_at}
use Rattle.tables.proofs.Stands.{slice_word}
use Rattle.tables.proofs.Promises.{whole_is, whole_if}

-- ---- the rows of a part

-- row i of the 32 of part p, parts counted from 1: which row of the table it is
abbrev pub row_of : ℕ → ℕ → ℕ
row_of p i = 32 * (p - 1) + i

-- it is row i of the part's bytes
part-row : (s : List ℕ) (p i : ℕ) → i < 32
    → let q = slice (128 * (p - 1)) 128 s in (level s (row_of p i) ≡ level q i) × (volume s (row_of p i) ≡ volume q i)
part-row s p i l =
    let a : 4 * row_of p i ≡ 128 * (p - 1) + 4 * i = omega arith in
    let b : 4 * row_of p i + 2 ≡ 128 * (p - 1) + (4 * i + 2) = omega arith in (
      rw a (sym (slice_word (128 * (p - 1)) 128 s (4 * i) (omega arith))),
      rw b (sym (slice_word (128 * (p - 1)) 128 s (4 * i + 2) (omega arith))),
    )

-- a part of a table's bytes is the part of the image
pub part_of_table : (m : List ℕ) (t p : ℕ) → p - 1 < 11
    → slice (128 * (p - 1)) 128 (table_bytes m t) ≡ slice (1225 + 1408 * table_index t + 128 * (p - 1)) 128 m
unfolding table_bytes
part_of_table m t p few = slice-slice (1225 + 1408 * table_index t) 1408 (128 * (p - 1)) 128 m (omega arith)

-- word k of what stands behind the first n bytes of a list
drop_word : (n : ℕ) (l : List ℕ) (k : ℕ) → word_at (drop n l) k ≡ word_at l (n + k)
unfolding word_at
drop_word n l k = let e : n + (k + 1) ≡ n + k + 1 = omega arith in rw (get_or-drop, get_or-drop, e)

-- where a part of a table's bytes is what stands behind the first four of a body, its rows are those that the body sends
pub part-rows : (s : List ℕ) (p : ℕ) (c : List ℕ) → slice (128 * (p - 1)) 128 s ≡ drop 4 c → (i : ℕ) → i < 32
    → (level s (row_of p i) ≡ sent_level c i) × (volume s (row_of p i) ≡ sent_volume c i)
part-rows s p c h i l =
    let r = part-row s p i l in
    let e : 4 + (4 * i + 2) ≡ 6 + 4 * i = omega arith in
    (r.0 ∙ rw h (drop_word 4 c (4 * i)), r.1 ∙ rw (h, ← e) (drop_word 4 c (4 * i + 2)))

module _ (ear : Switch → Hearing) (ok : (s : Switch) → Lawful (ear s)) (v : Version) (m : List ℕ) (xs : List Turn) (t : ℕ) where
  abbrev after : List ℕ
  after = left ear v m xs

  -- where some turn was an accepted write of a part, the rows are those of the last that was
  pub rows_as_sent : (p k : ℕ) → LastWrite ear v (Part (table_index t) (p - 1)) m xs k → (i : ℕ) → i < 32
      → let c = contents_of (get_or xs k no_turn).frame in
      (level (table_bytes after t) (row_of p i) ≡ sent_level c i) × (volume (table_bytes after t) (row_of p i) ≡ sent_volume c i)
  rows_as_sent p k w i l =
      let h = last_write_holds ear ok v (Part (table_index t) (p - 1)) m xs k w in
      let c = contents_of (get_or xs k no_turn).frame in
      let few = (part_numbers (table_index t) (p - 1) h.fits.cell).1 in
      part-rows (table_bytes after t) p c (part_of_table after t p few ∙ (holds_part (get_or xs k no_turn).frame after t p h).0) i l

  part_stays : (p : ℕ) → is_table t ≡ true → 1 ≤ p → p ≤ 11 → Unwritten ear v (Part (table_index t) (p - 1)) m xs → Kept (Part (table_index t) (p - 1)) m after
  part_stays p table low high none =
      let few : p - 1 < 11 = omega arith in
      unwritten_keeps ear ok v (Part (table_index t) (p - 1)) m xs (rw (lt-ltb (table_index t) 16 (index_below t table), lt-ltb (p - 1) 11 few)) none

  -- where none was, they are those that the image had
  pub rows_stay : (p : ℕ) → is_table t ≡ true → 1 ≤ p → p ≤ 11 → Unwritten ear v (Part (table_index t) (p - 1)) m xs → (i : ℕ) → i < 32
      → (level (table_bytes after t) (row_of p i) ≡ level (table_bytes m t) (row_of p i))
      × (volume (table_bytes after t) (row_of p i) ≡ volume (table_bytes m t) (row_of p i))
  rows_stay p table low high none i l =
      let bytes = (part_stays p table low high none).bytes in
      let few : p - 1 < 11 = omega arith in
      let same = part_of_table after t p few ∙ bytes ∙ sym (part_of_table m t p few) in
      let a = part-row (table_bytes after t) p i l in
      let b = part-row (table_bytes m t) p i l in
      (a.0 ∙ rw same (sym b.0), a.1 ∙ rw same (sym b.1))

  -- ---- no part of the table was written

  -- nothing is served on an image that is not usable
  unusable_stays : usable v m ≡ false → after ≡ m
  unusable_stays = by_turns ear ok v (λ m xs m'. usable v m ≡ false → m' ≡ m) (λ m h. refl) one m xs
    where
      one : (m : List ℕ) (x : Turn) (xs : List Turn) (m' : List ℕ) → (usable v (in_turn ear v m x).image ≡ false → m' ≡ (in_turn ear v m x).image)
          → usable v m ≡ false → m' ≡ m
      one m x xs m' ih h = let e = ap (λ b. b.image) (unusable_is_1 (ear x.switch) v x.frame m x.out h) in ih (rw e h) ∙ e

  module _ (none : is_table t ≡ true → (p : ℕ) → 1 ≤ p → p ≤ 11 → Unwritten ear v (Part (table_index t) (p - 1)) m xs) where
    module _ (u : usable v m ≡ true) (table : is_table t ≡ true) where
      kept : (p : ℕ) → p < 11 → Kept (Part (table_index t) p) m after
      kept p l =
          let e : p + 1 - 1 ≡ p = omega arith in
          rw e at (part_stays (p + 1) table (omega arith) (omega arith) (none table (p + 1) (omega arith) (omega arith)))

      long : length after ≡ length m
      long = (facts v after (left-usable ear ok v m xs u)).long_is ∙ sym (facts v m u).long_is

      bytes_stay : table_bytes after t ≡ table_bytes m t
      unfolding table_bytes
      bytes_stay = slice-same after m (1225 + 1408 * table_index t) 1408 long each
        where
          each : (i : ℕ) → (1225 + 1408 * table_index t ≤ i) × (i < 1225 + 1408 * table_index t + 1408) → get_or after i 0 ≡ get_or m i 0
          each i (a, b) =
              let p = (i - (1225 + 1408 * table_index t)) / 128 in
              let r = (i - (1225 + 1408 * table_index t)) % 128 in
              let e : 1225 + 1408 * table_index t + 128 * p + r ≡ i = omega arith in
              rw e at (kept_each (Part (table_index t) p) m after (kept p (omega arith)) r (omega arith))

      whole_stays : whole after t ≡ whole m t
      whole_stays = go (whole m t) (whole after t) refl refl
        where
          bits : (p : ℕ) → p < 11 → bit (table_word after (table_index t)) p ≡ bit (table_word m (table_index t)) p
          bits p l = (kept p l).its_bit (table_index t) p refl

          go : (a b : Bool) → whole m t ≡ a → whole after t ≡ b → whole after t ≡ whole m t
          go true b x y = whole_if after t (λ p l. bits p l ∙ whole_is m t x p l) ∙ sym x
          go false true x y = absurd (never (sym x ∙ whole_if m t (λ p l. sym (bits p l) ∙ whole_is after t y p l)))
          go false false x y = y ∙ sym x

    -- then every question about it has the answer that it had, whatever else was written
    pub answers_stay : (x : ℕ) → quantity_at v after t x ≡ quantity_at v m t x
    unfolding quantity_at judged
    answers_stay x = go (usable v m) (is_table t) refl refl
      where
        go : (a b : Bool) → usable v m ≡ a → is_table t ≡ b → quantity_at v after t x ≡ quantity_at v m t x
        go false b u h = rw (unusable_stays u)
        go true false u h = rw (left-usable ear ok v m xs u, u, h)
        go true true u h = rw (left-usable ear ok v m xs u, u, h, whole_stays u h, bytes_stay u h)

-- ---- by the frames' own bytes and the numbers that they were given

module _ (ear : Switch → Hearing) (ok : (s : Switch) → Lawful (ear s)) (v : Version) (t : ℕ) where
  module _ (table : is_table t ≡ true) (p : ℕ) (low : 1 ≤ p) where
    -- a turn that wrote part p of table t is a 59 that names them
    wrote_named : (m : List ℕ) (xs : List Turn) (k : ℕ) → k < length xs
        → WroteAt (turned ear v) (λ x a. Wrote (Part (table_index t) (p - 1)) x.frame a.number) no_turn no_answer m xs k
        → ever_wrote ear v t m xs p ≡ true
    unfolding ever_wrote ever
    wrote_named m [] k l w = absurd (let z : ⊥ = omega arith in z)
    wrote_named m (x ∷ xs) zero l w = rw ((part-wrote ear ok v t p table low m x).0 w)
    wrote_named m (x ∷ xs) (suc k) l w = rw (wrote_named (in_turn ear v m x).image xs k (omega arith) w, or-true)

    unwritten_if : (m : List ℕ) (xs : List Turn) → ever_wrote ear v t m xs p ≡ false → Unwritten ear v (Part (table_index t) (p - 1)) m xs
    unwritten_if m xs h k l w = never (sym h ∙ wrote_named m xs k l w)

  -- so where no 59 of a table was done, no answer by it changes
  pub answers_stay_unnamed : (m : List ℕ) (xs : List Turn) → ((p : ℕ) → 1 ≤ p → p ≤ 11 → ever_wrote ear v t m xs p ≡ false)
      → (x : ℕ) → quantity_at v (left ear v m xs) t x ≡ quantity_at v m t x
  answers_stay_unnamed m xs h = answers_stay ear ok v m xs t (λ table p a b. unwritten_if table p a m xs (h p a b))

  -- and of a fresh image 12 passes exactly once a 59 of each part was done
  module _ (table : is_table t ≡ true) (a : ℕ) (xs : List Turn) where
    abbrev written : ℕ → Bool
    written = ever_wrote ear v t (fresh v a) xs

    its_bit : (p : ℕ) → 1 ≤ p → bit (table_word (left ear v (fresh v a) xs) (table_index t)) (p - 1) ≡ cond (written p) 1 0
    its_bit p low = held_since ear ok v t p table low a xs

    pub whole_since_is : whole (left ear v (fresh v a) xs) t ≡ true → (p : ℕ) → 1 ≤ p → p ≤ 11 → written p ≡ true
    whole_since_is h p low high = go (written p) refl
      where
        go : (b : Bool) → written p ≡ b → b ≡ true
        go true e = refl
        go false e =
            let one = whole_is (left ear v (fresh v a) xs) t h (p - 1) (omega arith) in
            let none = rw e at (its_bit p low) in
            absurd (omega arith)

    pub whole_since_if : ((p : ℕ) → 1 ≤ p → p ≤ 11 → written p ≡ true) → whole (left ear v (fresh v a) xs) t ≡ true
    whole_since_if h =
        whole_if (left ear v (fresh v a) xs) t
        (λ p l. let e : p + 1 - 1 ≡ p = omega arith in rw (e, h (p + 1) (omega arith) (omega arith)) at (its_bit (p + 1) (omega arith)))
