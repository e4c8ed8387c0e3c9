-- Usable, as facts. Assumes nothing.
use mathlib.Core.Path.{◌≡◌}
use mathlib.Core.List.{List}
use mathlib.Core.Bool.{true}
use Prim.Native.Nat.{ℕ, ◌+◌, ◌≤◌, ◌<◌}
use native.Mathlib.Omega.{arith}
use lib.ListN.{length, get_or}
use borrow.Author.Tests.{leb-true, le-leb, eqb-true, eq-eqb}
use Rattle.laws.specs.Bytes.{word_at}
use Rattle.laws.proofs.Tests.{and_both, every_at, every_of, every-same}
use Rattle.image.specs.declared.cell.Cell.TheVariants.{Errors, Table}
use Rattle.image.specs.declared.version.Version.{Version}
use Rattle.image.specs.declared.version.Version.TheVariants.{V1, V2}
use Rattle.image.specs.Version.{version_number, image_length}
use Rattle.image.specs.Cell.{offset}
use Rattle.image.specs.Words.{table_word, word_offset}
use Rattle.image.specs.Usable.{count_ok, word_ok, usable, mark_ok, address_ok, address}

-- every version has the bytes that version 1 has
pub least_length : (v : Version) → image_length V1 ≤ image_length v
least_length V1 = omega arith
least_length V2 = omega arith

pub record Usable (v : Version) (m : List ℕ) : Type 0 where
  pub long_is : length m ≡ image_length v
  pub mark : mark_ok v m ≡ true
  pub address_is : address_ok m ≡ true
  pub counts : (e : ℕ) → e < 8 → get_or m (offset (Errors e)) 0 ≤ 21
  pub words : (k : ℕ) → k < 16 → table_word m k ≤ 2047

pub facts : (v : Version) (m : List ℕ) → usable v m ≡ true → Usable v m
unfolding usable count_ok word_ok
facts v m h =
    let p = and_both _ _ h in
    let q = and_both _ _ p.1 in
    let a = and_both _ _ q.1 in
    let r = and_both _ _ a.1 in
    record {
      long_is = eqb-true _ _ p.0;
      mark = q.0;
      address_is = a.0;
      counts = λ e l. leb-true _ _ (every_at (count_ok m) 8 e r.0 l);
      words = λ k l. leb-true _ _ (every_at (word_ok m) 16 k r.1 l);
    }

pub usable_of : (v : Version) (m : List ℕ) → Usable v m → usable v m ≡ true
unfolding usable count_ok word_ok
usable_of v m u =
    let c = every_of (count_ok m) 8 (λ e l. le-leb _ _ (u.counts e l)) in
    let w = every_of (word_ok m) 16 (λ k l. le-leb _ _ (u.words k l)) in
    rw (eq-eqb _ _ u.long_is, u.mark, u.address_is, c, w)

-- the mark and the version are the first five bytes, the address the sixth
pub mark_same : (v : Version) (m m' : List ℕ) → ((i : ℕ) → i < 5 → get_or m' i 0 ≡ get_or m i 0) → mark_ok v m' ≡ mark_ok v m
unfolding mark_ok
mark_same v m m' h = rw (h 0 (omega arith), h 1 (omega arith), h 2 (omega arith), h 3 (omega arith), h 4 (omega arith))

pub address_same : (m m' : List ℕ) → address m' ≡ address m → address_ok m' ≡ address_ok m
unfolding address_ok
address_same m m' e = rw e

-- nothing is judged from the tables on: whatever stands there, an image is usable or not by its length and what is before
pub usable_same : (v : Version) (m m' : List ℕ) → length m' ≡ length m → ((i : ℕ) → i < offset (Table 0) → get_or m' i 0 ≡ get_or m i 0)
    → usable v m' ≡ usable v m
unfolding usable count_ok word_ok table_word word_at
usable_same v m m' long h =
    rw (
      long,
      mark_same v m m' (λ i l. h i (omega arith)),
      address_same m m' (h 5 (omega arith)),
      every-same (count_ok m') (count_ok m) 8 (λ e l. rw (h (offset (Errors e)) (omega arith))),
      every-same (word_ok m') (word_ok m) 16 (λ k l. rw (h (word_offset k) (omega arith), h (word_offset k + 1) (omega arith))),
    )

-- the letters IZK and a version in two bytes
abbrev pub Begins : ℕ → List ℕ → Type 0
Begins n m = (get_or m 0 0 ≡ 73) × (get_or m 1 0 ≡ 90) × (get_or m 2 0 ≡ 75) × (get_or m 3 0 ≡ 0) × (get_or m 4 0 ≡ n)

pub begins_as : (v : Version) (m : List ℕ) → usable v m ≡ true → (length m ≡ image_length v) × Begins (version_number v) m
unfolding mark_ok
begins_as v m u =
    let f = facts v m u in
    let p = and_both _ _ f.mark in
    let q = and_both _ _ p.1 in
    let r = and_both _ _ q.1 in
    let s = and_both _ _ r.1 in
    (f.long_is, (eqb-true _ _ p.0, eqb-true _ _ q.0, eqb-true _ _ r.0, eqb-true _ _ s.0, eqb-true _ _ s.1))

-- so no other number and no other length is usable
pub usable_begins : (m : List ℕ) → (usable V1 m ≡ true → (length m ≡ 23753) × Begins 1 m) × (usable V2 m ≡ true → (length m ≡ 23817) × Begins 2 m)
usable_begins m = (begins_as V1 m, begins_as V2 m)
