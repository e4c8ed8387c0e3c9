-- A moved image, byte by byte: it has the source's bytes but for the number, its words are the sums, and it is usable in its version. Assumes nothing.
use mathlib.Core.Path.{◌≡◌, refl, ◌∙◌}
use mathlib.Core.List.{List}
use mathlib.Core.Bool.{true}
use Prim.Native.Nat.{ℕ, zero, suc, ◌+◌, ◌*◌, ◌/◌, ◌%◌, ◌≤◌, ◌<◌}
use native.Mathlib.Omega.{arith}
use lib.ListN.{length, get_or, take, length-append, get_or-append}
use lib.Seq.{get_or-take, get_or-append-add, length-take-le}
use borrow.Author.Tests.{eq-eqb}
use Rattle.laws.specs.Bytes.{lay, two, word_at}
use Rattle.laws.proofs.Bytes.{In, lay_in, lay_out, length_two}
use Rattle.image.specs.declared.cell.Cell.{Cell}
use Rattle.image.specs.declared.cell.Cell.TheVariants.{Errors}
use Rattle.image.specs.declared.version.Version.{Version}
use Rattle.image.specs.declared.version.Version.TheVariants.{V1, V2}
use Rattle.image.specs.Version.{version_number, image_length}
use Rattle.image.specs.Cell.{offset, run, items, item_at}
use Rattle.image.specs.Words.{kept_offset, word_offset, table_word}
use Rattle.image.specs.Usable.{usable, mark_ok}
use Rattle.image.proofs.UsableFacts.{facts, usable_of, begins_as, address_same, least_length}
use Rattle.image.proofs.Kept.{items_32, items_at}
use Rattle.storing.specs.Signature.{full_sum}
use Rattle.versions.specs.Moved.{number_offset, numbered, signatures, behind, in_version, other}
use Rattle.versions.proofs.Making.{length-numbered, length-signatures}

-- ---- the bytes that both versions have

length-behind : (v : Version) (m : List ℕ) → image_length V1 + length (behind v m) ≡ image_length v
length-behind V1 m = refl
length-behind V2 m = omega (arith, length-signatures items m, items_32)

module _ (v : Version) (m : List ℕ) (long : image_length V1 ≤ length m) where
  pub length_moved : length (in_version v m) ≡ image_length v
  unfolding in_version
  length_moved = omega (arith, length-append (numbered v m) (behind v m), length-numbered v m long, length-behind v m)

  front : (i : ℕ) → i < image_length V1 → get_or (in_version v m) i 0 ≡ get_or (lay (take (image_length V1) m) number_offset (two (version_number v))) i 0
  unfolding in_version numbered
  front i l = get_or-append (numbered v m) (behind v m) 0 i (omega (arith, length-numbered v m long))

  -- every byte is kept but the two of the number
  pub byte_kept : (i : ℕ) → i < image_length V1 → ¬ In number_offset 2 i → get_or (in_version v m) i 0 ≡ get_or m i 0
  byte_kept i l n =
      front i l ∙ lay_out (take (image_length V1) m) number_offset (two (version_number v)) i (rw (length_two (version_number v)) n)
      ∙ get_or-take (image_length V1) m i 0 l

  pub number_laid : (get_or (in_version v m) number_offset 0 ≡ 0) × (get_or (in_version v m) (number_offset + 1) 0 ≡ version_number v)
  unfolding two
  number_laid =
      let e = length-take-le (image_length V1) m long in
      let laid = lay_in (take (image_length V1) m) number_offset (two (version_number v)) in (
        front number_offset (omega arith) ∙ laid 0 (omega arith) (omega arith) ∙ (small v).0,
        front (number_offset + 1) (omega arith) ∙ laid 1 (omega arith) (omega arith) ∙ (small v).1,
      )
    where
      small : (v : Version) → (version_number v / 256 ≡ 0) × (version_number v % 256 ≡ version_number v)
      small V1 = (refl, refl)
      small V2 = (refl, refl)

-- ---- the words

-- two bytes, as the number has them
pub record TwoAt (l : List ℕ) (i n : ℕ) : Type 0 where
  pub high : get_or l i 0 ≡ n / 256
  pub low : get_or l (i + 1) 0 ≡ n % 256

pub word_of : (l : List ℕ) (i n : ℕ) → TwoAt l i n → word_at l i ≡ n
unfolding word_at
word_of l i n t = rw (t.high, t.low) (omega arith)

-- the k-th of the sums has its two bytes behind those of the others
signed_at : (f : ℕ → Cell) (m : List ℕ) (i n k : ℕ) → k < n → TwoAt (signatures (run f i n) m) (2 * k) (full_sum (f (i + k)) m)
unfolding signatures run two
signed_at f m i zero k l = absurd (omega arith)
signed_at f m i (suc n) zero l = let e : i + 0 ≡ i = omega arith in rw e (record { high = refl; low = refl })
signed_at f m i (suc n) (suc k) l =
    let t = signed_at f m (suc i) n k (omega arith) in
    let e : i + suc k ≡ suc i + k = omega arith in
    let h : 2 * suc k ≡ suc (suc (2 * k)) = omega arith in
    let g : suc (suc (2 * k)) + 1 ≡ suc (suc (2 * k + 1)) = omega arith in
    rw (e, h) (record { high = t.high; low = rw g t.low })

module _ (m : List ℕ) (long : image_length V1 ≤ length m) where
  pub words-laid : (i : ℕ) → i < 32 → TwoAt (in_version V2 m) (kept_offset i) (full_sum (item_at i) m)
  unfolding in_version
  words-laid i l =
      let e : 0 + i ≡ i = omega arith in
      let t = rw e at (signed_at item_at m 0 32 i l) in
      record { high = back (2 * i) (kept_offset i) (omega arith) ∙ t.high; low = back (2 * i + 1) (kept_offset i + 1) (omega arith) ∙ t.low }
    where
      back : (k j : ℕ) → j ≡ image_length V1 + k → get_or (in_version V2 m) j 0 ≡ get_or (signatures (run item_at 0 32) m) k 0
      back k j e =
          let n : j ≡ length (numbered V2 m) + k = omega (arith, length-numbered V2 m long) in
          rw (n, items_at) (get_or-append-add (numbered V2 m) (signatures items m) k 0)

-- ---- it is usable

module _ (v : Version) (m : List ℕ) (u : usable (other v) m ≡ true) where
  pub long_source : image_length V1 ≤ length m
  long_source = omega (arith, (facts (other v) m u).long_is, least_length (other v))

  kept : (i : ℕ) → i < image_length V1 → ¬ In number_offset 2 i → get_or (in_version v m) i 0 ≡ get_or m i 0
  kept = byte_kept v m long_source

  mark_moved : mark_ok v (in_version v m) ≡ true
  unfolding mark_ok
  mark_moved =
      let b = (begins_as (other v) m u).1 in
      let n = number_laid v m long_source in
      rw (
        kept 0 (omega arith) (λ p. absurd (omega arith)),
        kept 1 (omega arith) (λ p. absurd (omega arith)),
        kept 2 (omega arith) (λ p. absurd (omega arith)),
        b.0,
        b.1,
        b.2,
        n.0,
        n.1,
      ) (eq-eqb (version_number v) (version_number v) refl)

  pub moved-usable : usable v (in_version v m) ≡ true
  unfolding table_word word_at
  moved-usable =
      let f = facts (other v) m u in
      usable_of v (in_version v m) (record {
        long_is = length_moved v m long_source;
        mark = mark_moved;
        address_is = address_same m (in_version v m) (kept 5 (omega arith) (λ p. absurd (omega arith))) ∙ f.address_is;
        counts = λ e l. rw (kept (offset (Errors e)) (omega arith) (λ p. absurd (omega arith))) (f.counts e l);
        words = λ k l.
            let high = kept (word_offset k) (omega arith) (λ p. absurd (omega arith)) in
            let low = kept (word_offset k + 1) (omega arith) (λ p. absurd (omega arith)) in
            rw (high, low) (f.words k l);
      })
