-- The cells lie in rising order: a byte belongs to one cell at most. Assumes nothing.
use mathlib.Core.Path.{◌≡◌, refl, sym, ap, ◌∙◌, subst}
use mathlib.Core.Logic.{◌⊎◌, inl, inr}
use mathlib.Core.List.Memᴰ
use mathlib.Core.List.{List, [], ◌∷◌, ◌++◌, Memᴰ}
use mathlib.Core.Bool.{true}
use Prim.Native.Nat.{ℕ, zero, suc, ◌+◌, ◌-◌, ◌*◌, ◌/◌, ◌≤◌, ◌<◌}
use native.Mathlib.Decide.{ℕ_discrete}
use native.Mathlib.Omega.{arith}
use lib.ListN.{length}
use lib.Dec.{leb, ltb}
use borrow.Author.Tests.{leb-true, ltb-true}
use Rattle.laws.specs.Checks.{all}
use Rattle.laws.proofs.Tests.{and_both, or_either, never, all_of}
use Rattle.laws.proofs.Bytes.{In}
use Rattle.image.specs.declared.cell.Cell.{Cell}
use Rattle.image.specs.declared.cell.Cell.TheVariants.{Mask, Mode, Clock, Constants, Errors, Part, Table}
use Rattle.image.specs.declared.version.Version.{Version}
use Rattle.image.specs.declared.version.Version.TheVariants.{V1, V2}
use Rattle.image.specs.Version.{image_length}
use Rattle.image.specs.Cell.{offset, size, is_cell, run, parts_from, cells, cells_of, Once, rising, extent}
use Rattle.image.specs.Words.{Span, words, word_offset, span_inside, off, inside}

-- ---- computed tests of the list

pub cells_195 : length cells ≡ 195
unfolding cells run parts_from
cells_195 = refl

pub cells_rise : rising cells ≡ true
unfolding cells run parts_from rising
cells_rise = refl

pub cells-inside : (v : Version) → all (inside v) cells ≡ true
unfolding cells run parts_from all inside off
cells-inside V1 = refl
cells-inside V2 = refl

cells_are : all is_cell cells ≡ true
unfolding cells run parts_from all
cells_are = refl

cells-some : all (λ c. ltb 0 (size c)) cells ≡ true
unfolding cells run parts_from all
cells-some = refl

-- ---- what the tests mean

-- the first of a rising list ends before every other begins
first_ends : (c : Cell) {d : Cell} (l : List Cell) → rising (c ∷ l) ≡ true → Memᴰ d l → offset c + size c ≤ offset d
unfolding rising
first_ends c [] h m = absurd (Memᴰ.not-nil m)
first_ends c {d} (x ∷ l) h m = go (and_both (leb (offset c + size c) (offset x)) (rising (x ∷ l)) h) (λ g k. first_ends x l g k) (Memᴰ.cases_cons m)
  where
    go : (leb (offset c + size c) (offset x) ≡ true) × (rising (x ∷ l) ≡ true) → (rising (x ∷ l) ≡ true → Memᴰ d l → offset x + size x ≤ offset d)
        → (d ≡ x) ⊎ Memᴰ d l → offset c + size c ≤ offset d
    go p ih (inl e) = rw e (leb-true _ _ p.0)
    go p ih (inr k) = let a = leb-true (offset c + size c) (offset x) p.0 in let b = ih p.1 k in omega arith

rest-rises : (x : Cell) (l : List Cell) → rising (x ∷ l) ≡ true → rising l ≡ true
unfolding rising
rest-rises x [] h = refl
rest-rises x (y ∷ l) h = (and_both (leb (offset x + size x) (offset y)) (rising (y ∷ l)) h).1

pub shared : {c d : Cell} (l : List Cell) → rising l ≡ true → Memᴰ c l → Memᴰ d l
    → (i : ℕ) → In (offset c) (size c) i → In (offset d) (size d) i → c ≡ d
shared [] h m n i p q = absurd (Memᴰ.not-nil m)
shared {c} {d} (x ∷ l) h m n i p q = go (Memᴰ.cases_cons m) (Memᴰ.cases_cons n) (λ a b. shared l (rest-rises x l h) a b i p q)
  where
    go : (c ≡ x) ⊎ Memᴰ c l → (d ≡ x) ⊎ Memᴰ d l → (Memᴰ c l → Memᴰ d l → c ≡ d) → c ≡ d
    go (inl a) (inl b) ih = a ∙ sym b
    go (inl a) (inr b) ih = let z : offset c + size c ≤ offset d = rw a (first_ends x l h b) in absurd (omega arith)
    go (inr a) (inl b) ih = let z : offset d + size d ≤ offset c = rw b (first_ends x l h a) in absurd (omega arith)
    go (inr a) (inr b) ih = ih a b

-- ---- the list has cells alone, and none twice

pub listed_are : {c : Cell} → Memᴰ c cells → is_cell c ≡ true
listed_are m = all_of is_cell cells_are m

once : (l : List Cell) → rising l ≡ true → all (λ c. ltb 0 (size c)) l ≡ true → Once l
unfolding all
once [] h s = tt
once (c ∷ l) h s =
    let p = and_both (ltb 0 (size c)) (all (λ c. ltb 0 (size c)) l) s in
    (λ m. let a = first_ends c l h m in let b = ltb-true 0 (size c) p.0 in omega arith, once l (rest-rises c l h) p.1)

pub cells_once : Once cells
cells_once = once cells cells_rise cells-some

-- ---- the list has every cell

pub run_mem : (f : ℕ → Cell) (k i n : ℕ) → i ≤ k → k < i + n → Memᴰ (f k) (run f i n)
unfolding run
run_mem f k i zero a b = absurd (omega arith)
run_mem f k i (suc n) a b = go (ℕ_discrete k i) (λ p. run_mem f k (suc i) n p (omega arith))
  where
    go : Dec (k ≡ i) → (suc i ≤ k → Memᴰ (f k) (run f (suc i) n)) → Memᴰ (f k) (f i ∷ run f (suc i) n)
    go (yes e) ih = Memᴰ.head (ap f e)
    go (no e) ih = Memᴰ.tail (ih (omega arith))

parts_mem : (k p i n : ℕ) → p < 11 → i ≤ k → k < i + n → Memᴰ (Part k p) (parts_from i n)
unfolding parts_from
parts_mem k p i zero h a b = absurd (omega arith)
parts_mem k p i (suc n) h a b = go (ℕ_discrete k i) (λ l. parts_mem k p (suc i) n h l (omega arith))
  where
    go : Dec (k ≡ i) → (suc i ≤ k → Memᴰ (Part k p) (parts_from (suc i) n)) → Memᴰ (Part k p) (run (Part i) 0 11 ++ parts_from (suc i) n)
    go (yes e) ih =
        let here = run_mem (Part k) p 0 11 (omega arith) (omega arith) in
        Memᴰ.append_left (parts_from (suc i) n) (subst (λ (j : ℕ). Memᴰ (Part k p) (run (Part j) 0 11)) e here)
    go (no e) ih = Memᴰ.append_right (run (Part i) 0 11) (ih (omega arith))

-- the numbers of a part
pub part_numbers : (k p : ℕ) → is_cell (Part k p) ≡ true → (k < 16) × (p < 11)
part_numbers k p h = let b = and_both (ltb k 16) (ltb p 11) h in (ltb-true k 16 b.0, ltb-true p 11 b.1)

pub part_few : {d : Cell} {k p : ℕ} → is_cell d ≡ true → d ≡ Part k p → (k < 16) × (p < 11)
part_few {k} {p} h e = part_numbers k p (rw e at h)

pub listed : (c : Cell) → is_cell c ≡ true → Memᴰ c cells
unfolding cells
listed Mask h = Memᴰ.head refl
listed Mode h = Memᴰ.tail (Memᴰ.head refl)
listed Clock h = Memᴰ.tail (Memᴰ.tail (Memᴰ.head refl))
listed (Constants c) h =
    let l = ltb-true c 8 h in
    Memᴰ.tail (Memᴰ.tail (Memᴰ.tail (Memᴰ.append_left (run Errors 0 8 ++ parts_from 0 16) (run_mem Constants c 0 8 (omega arith) (omega arith)))))
listed (Errors e) h =
    let l = ltb-true e 8 h in
    Memᴰ.tail (Memᴰ.tail (Memᴰ.tail (Memᴰ.append_right (run Constants 0 8)
    (Memᴰ.append_left (parts_from 0 16) (run_mem Errors e 0 8 (omega arith) (omega arith))))))
listed (Part k p) h =
    let b = part_numbers k p h in
    let l = b.0 in
    Memᴰ.tail (Memᴰ.tail (Memᴰ.tail (Memᴰ.append_right (run Constants 0 8) (Memᴰ.append_right (run Errors 0 8)
    (parts_mem k p 0 16 b.1 (omega arith) (omega arith))))))
listed (Table k) h = absurd (never h)

-- ---- the laws: a byte belongs to one cell at most; a cell lies behind mark, version and address, inside the image and off every word

pub one_cell : (c d : Cell) → is_cell c ≡ true → is_cell d ≡ true → (i : ℕ) → In (offset c) (size c) i → In (offset d) (size d) i → c ≡ d
one_cell c d h g = shared cells cells_rise (listed c h) (listed d g)

-- i lies in one of the spans
abbrev pub InSpans : List Span → ℕ → Type 0
InSpans [] i = ⊥
InSpans (s ∷ ss) i = In s.from s.count i ⊎ InSpans ss i

pub record Placed (v : Version) (c : Cell) : Type 0 where
  pub low : 6 ≤ offset c
  pub high : offset c + size c ≤ image_length v
  pub words : (i : ℕ) → In (offset c) (size c) i → ¬ InSpans (words v) i

off_spans : (c : Cell) (ss : List Span) → all (off c) ss ≡ true → (i : ℕ) → In (offset c) (size c) i → ¬ InSpans ss i
unfolding all off
off_spans c [] h i a b = b
off_spans c (s ∷ ss) h i a (inl b) = beside (or_either _ _ (and_both _ _ h).0)
  where
    beside : (leb (offset c + size c) s.from ≡ true) ⊎ (leb (s.from + s.count) (offset c) ≡ true) → ⊥
    beside (inl e) = let l = leb-true (offset c + size c) s.from e in omega arith
    beside (inr e) = let l = leb-true (s.from + s.count) (offset c) e in omega arith
off_spans c (s ∷ ss) h i a (inr b) = off_spans c ss (and_both (off c s) (all (off c) ss) h).1 i a b

pub placed : (v : Version) (c : Cell) → is_cell c ≡ true → Placed v c
unfolding inside
placed v c h =
    let p = and_both (leb 6 (offset c)) _ (all_of (inside v) (cells-inside v) (listed c h)) in
    let q = and_both (leb (offset c + size c) (image_length v)) _ p.1 in
    record { low = leb-true _ _ p.0; high = leb-true _ _ q.0; words = off_spans c (words v) q.1 }

-- ---- the words

words_inside : (v : Version) → all (span_inside v) (words v) ≡ true
unfolding all span_inside
words_inside V1 = refl
words_inside V2 = refl

-- every word lies behind mark, version and address, and inside the image
pub word_inside : (v : Version) (i : ℕ) → InSpans (words v) i → (6 ≤ i) × (i < image_length v)
unfolding all span_inside
word_inside v i = go (words v) (words_inside v)
  where
    go : (ss : List Span) → all (span_inside v) ss ≡ true → InSpans ss i → (6 ≤ i) × (i < image_length v)
    go [] t a = absurd a
    go (s ∷ ss) t (inl a) =
        let p = and_both (leb 6 s.from) (leb (s.from + s.count) (image_length v)) (and_both (span_inside v s) (all (span_inside v) ss) t).0 in
        let l = leb-true 6 s.from p.0 in
        let h = leb-true (s.from + s.count) (image_length v) p.1 in
        (omega arith, omega arith)
    go (s ∷ ss) t (inr a) = go ss (and_both (span_inside v s) (all (span_inside v) ss) t).1 a

-- the words of the tables are among them
pub table-words : (v : Version) (k : ℕ) → k < 16 → (i : ℕ) → In (word_offset k) 2 i → InSpans (words v) i
table-words V1 k l i a = inl (omega arith, omega arith)
table-words V2 k l i a = inl (omega arith, omega arith)

-- so each lies inside
pub table_word_inside : (v : Version) (k : ℕ) → k < 16 → word_offset k + 2 ≤ image_length v
table_word_inside v k l = let p = word_inside v (word_offset k + 1) (table-words v k l (word_offset k + 1) (omega arith, omega arith)) in omega arith

-- a byte of a stretch lies in one of its cells
pub covered : (c : Cell) (i : ℕ) → In (offset c) (size c) i → (d : Cell) × Memᴰ d (cells_of c) × In (offset d) (size d) i
covered Mask i h = (Mask, Memᴰ.head refl, h)
covered Mode i h = (Mode, Memᴰ.head refl, h)
covered Clock i h = (Clock, Memᴰ.head refl, h)
covered (Constants c) i h = (Constants c, Memᴰ.head refl, h)
covered (Errors e) i h = (Errors e, Memᴰ.head refl, h)
covered (Part k p) i h = (Part k p, Memᴰ.head refl, h)
covered (Table k) i h =
    let p = (i - (1225 + 1408 * k)) / 128 in
    (Part k ((i - (1225 + 1408 * k)) / 128), run_mem (Part k) ((i - (1225 + 1408 * k)) / 128) 0 11 (omega arith) (omega arith), (omega arith, omega arith))

-- ---- its bytes

-- all bytes of a cell count, save of an error table
pub extent_view : (d : Cell) → ((n : ℕ) → extent d n ≡ size d) ⊎ ((e : ℕ) × (d ≡ Errors e))
extent_view Mask = inl (λ n. refl)
extent_view Mode = inl (λ n. refl)
extent_view Clock = inl (λ n. refl)
extent_view (Constants c) = inl (λ n. refl)
extent_view (Errors e) = inr (e, refl)
extent_view (Part k p) = inl (λ n. refl)
extent_view (Table k) = inl (λ n. refl)

-- a cell has a first byte
pub size-some : (d : Cell) → is_cell d ≡ true → 0 < size d
size-some d h = ltb-true 0 (size d) (all_of (λ c. ltb 0 (size c)) cells-some (listed d h))
