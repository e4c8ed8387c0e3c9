-- Which of the 32 signatures a cell's bytes count in, and what an item holds. Assumes nothing.
use mathlib.Core.Path.{◌≡◌, refl, subst}
use mathlib.Core.Logic.{◌⊎◌, inl, inr}
use mathlib.Core.List.Memᴰ
use mathlib.Core.List.{List, [], ◌∷◌, ◌++◌, map, Memᴰ}
use mathlib.Core.Bool.{true}
use Prim.Native.Nat.{ℕ, zero, suc, ◌+◌, ◌-◌, ◌≤◌, ◌<◌}
use native.Mathlib.Decide.{dec_lt}
use native.Mathlib.Omega.{arith}
use lib.ListN.{length}
use borrow.Author.Tests.{ltb-true, lt-ltb, le-ltb}
use Rattle.std.specs.Prelude.{Option, Some, None}
use Rattle.laws.specs.Checks.{all}
use Rattle.laws.proofs.Tests.{never, all_of}
use Rattle.laws.proofs.Bytes.{In}
use Rattle.image.specs.declared.cell.Cell.{Cell}
use Rattle.image.specs.declared.cell.Cell.TheVariants.{Mask, Mode, Clock, Constants, Errors, Part, Table}
use Rattle.image.specs.declared.version.Version.TheVariants.{V2}
use Rattle.image.specs.Version.{image_length}
use Rattle.image.specs.Cell.{offset, size, is_cell, is_item, run, items, item_at, cells_of}
use Rattle.image.specs.Words.{words, kept_offset, signature_word}
use Rattle.image.proofs.Cells.{InSpans, run_mem, part_numbers}

-- ---- the 32 items, in the order of their words

pub items_32 : length items ≡ 32
unfolding items run
items_32 = refl

-- every other offset, n of them
unfoldable pub every_other : ℕ → ℕ → List (Option ℕ)
every_other o zero = []
every_other o (suc n) = Some o ∷ every_other (2 + o) n

pub items_in_order : map signature_word items ≡ every_other 23753 32
unfolding items run every_other
items_in_order = refl

-- they are what has a signature, and nothing else has one
pub items_are : {e : Cell} → Memᴰ e items → is_item e ≡ true
unfolding items run all
items_are m = all_of is_item each m
  where
    each : all is_item items ≡ true
    each = refl

pub items_listed : (e : Cell) → is_item e ≡ true → Memᴰ e items
unfolding items
items_listed Mask h = absurd (never h)
items_listed Mode h = absurd (never h)
items_listed Clock h = absurd (never h)
items_listed (Constants c) h =
    Memᴰ.append_right (run Table 0 16) (Memᴰ.append_left (run Errors 0 8) (run_mem Constants c 0 8 (omega arith) (omega (arith, ltb-true c 8 h))))
items_listed (Errors e) h =
    Memᴰ.append_right (run Table 0 16) (Memᴰ.append_right (run Constants 0 8) (run_mem Errors e 0 8 (omega arith) (omega (arith, ltb-true e 8 h))))
items_listed (Part k p) h = absurd (never h)
items_listed (Table k) h = Memᴰ.append_left (run Constants 0 8 ++ run Errors 0 8) (run_mem Table k 0 16 (omega arith) (omega (arith, ltb-true k 16 h)))

-- counted from 0
pub items_at : run item_at 0 32 ≡ items
unfolding item_at items run
items_at = refl

pub item_is : (i : ℕ) → i < 32 → is_item (item_at i) ≡ true
item_is i l = items_are {e = item_at i} (rw (← items_at) (run_mem item_at i 0 32 (omega arith) (omega arith)))

pub at_constants : (c : ℕ) → c < 8 → item_at (16 + c) ≡ Constants c
unfolding item_at
at_constants c l =
    let e : 16 + c - 16 ≡ c = omega arith in
    rw (le-ltb (16 + c) 16 (omega arith), lt-ltb (16 + c) 24 (omega arith), e)

pub at_errors : (e : ℕ) → e < 8 → item_at (24 + e) ≡ Errors e
unfolding item_at
at_errors e l =
    let h : 24 + e - 24 ≡ e = omega arith in
    rw (le-ltb (24 + e) 16 (omega arith), le-ltb (24 + e) 24 (omega arith), h)

pub at_table : (k : ℕ) → k < 16 → item_at k ≡ Table k
unfolding item_at
at_table k l = rw (lt-ltb k 16 l)

-- the word of the i-th is the i-th
pub item_word : (i : ℕ) → i < 32 → signature_word (item_at i) ≡ Some (kept_offset i)
item_word i l = go (dec_lt i 16) (dec_lt i 24)
  where
    go : Dec (i < 16) → Dec (i < 24) → signature_word (item_at i) ≡ Some (kept_offset i)
    go (yes a) b = rw (at_table i a)
    go (no a) (yes b) =
        let e : 16 + (i - 16) ≡ i = omega arith in
        subst (λ (j : ℕ). signature_word (item_at j) ≡ Some (kept_offset j)) e (rw (at_constants (i - 16) (omega arith)))
    go (no a) (no b) =
        let e : 24 + (i - 24) ≡ i = omega arith in
        subst (λ (j : ℕ). signature_word (item_at j) ≡ Some (kept_offset j)) e (rw (at_errors (i - 24) (omega arith)))

-- ---- a cell or an item counts nowhere, or in the i-th

pub record Counted (d : Cell) (i : ℕ) : Type 0 where
  pub held : is_cell d ≡ true → (i < 32) × Memᴰ d (cells_of (item_at i))
  pub is : is_item d ≡ true → (i < 32) × (item_at i ≡ d)

pub data Counts (d : Cell) : Option ℕ → Type 0 where
  nowhere : (is_item d ≡ true → ⊥) → Counts d None
  in_word : (i : ℕ) → Counted d i → Counts d (Some (kept_offset i))

pub counts_view : (d : Cell) → Counts d (signature_word d)
counts_view Mask = nowhere never
counts_view Mode = nowhere never
counts_view Clock = nowhere never
counts_view (Constants c) =
    in_word (16 + c) (record {
      held = λ h. let l = ltb-true c 8 h in (omega arith, rw (at_constants c l) (Memᴰ.head refl));
      is = λ h. let l = ltb-true c 8 h in (omega arith, at_constants c l);
    })
counts_view (Errors e) =
    in_word (24 + e) (record {
      held = λ h. let l = ltb-true e 8 h in (omega arith, rw (at_errors e l) (Memᴰ.head refl));
      is = λ h. let l = ltb-true e 8 h in (omega arith, at_errors e l);
    })
counts_view (Part k p) =
    in_word k (record {
      held = λ h. let b = part_numbers k p h in let l = b.0 in (omega arith, rw (at_table k l) (run_mem (Part k) p 0 11 (omega arith) (omega (arith, b.1))));
      is = λ h. absurd (never h);
    })
counts_view (Table k) = in_word k (record { held = λ h. absurd (never h); is = λ h. let l = ltb-true k 16 h in (omega arith, at_table k l) })

-- its word is one of the version's
pub kept_words : (i : ℕ) → i < 32 → (j : ℕ) → In (kept_offset i) 2 j → InSpans (words V2) j
kept_words i l j a = inr (inl (omega arith, omega arith))

-- and lies inside an image
abbrev pub place : Option ℕ → ℕ
place None = 0
place (Some o) = o

pub place_inside : (d : Cell) → (is_cell d ≡ true) ⊎ (is_item d ≡ true) → place (signature_word d) + 2 ≤ image_length V2
place_inside d h = go (counts_view d) h
  where
    go : {x : Option ℕ} → Counts d x → (is_cell d ≡ true) ⊎ (is_item d ≡ true) → place x + 2 ≤ image_length V2
    go (nowhere a) h = omega arith
    go (in_word i a) (inl h) = omega (arith, (a.held h).0)
    go (in_word i a) (inr h) = omega (arith, (a.is h).0)

-- ---- a cell that an item holds lies inside it, and counts in its word

pub record Holds (e d : Cell) : Type 0 where
  pub low : offset e ≤ offset d
  pub high : offset d + size d ≤ offset e + size e
  pub word : signature_word d ≡ signature_word e

run_only : (f : ℕ → Cell) (i n : ℕ) {d : Cell} → Memᴰ d (run f i n) → (j : ℕ) × (d ≡ f j) × (j < i + n)
unfolding run
run_only f i zero m = absurd (Memᴰ.not-nil m)
run_only f i (suc n) {d} m = go (Memᴰ.cases_cons m) (λ k. run_only f (suc i) n k)
  where
    go : (d ≡ f i) ⊎ Memᴰ d (run f (suc i) n) → (Memᴰ d (run f (suc i) n) → (j : ℕ) × (d ≡ f j) × (j < suc i + n))
        → (j : ℕ) × (d ≡ f j) × (j < i + suc n)
    go (inl e) ih = (i, e, omega arith)
    go (inr k) ih = let (j, e, l) = ih k in (j, e, omega arith)

itself : {e d : Cell} → d ≡ e → Holds e d
itself h = rw h (record { low = omega arith; high = omega arith; word = refl })

pub holds : (e : Cell) {d : Cell} → is_item e ≡ true → Memᴰ d (cells_of e) → Holds e d
holds Mask h m = absurd (never h)
holds Mode h m = absurd (never h)
holds Clock h m = absurd (never h)
holds (Constants c) h m = itself (Memᴰ.eq_of_singleton m)
holds (Errors e) h m = itself (Memᴰ.eq_of_singleton m)
holds (Part k p) h m = absurd (never h)
holds (Table k) h m = let (p, e, l) = run_only (Part k) 0 11 m in rw e (record { low = omega arith; high = omega arith; word = refl })
