-- Laws of `slice`, `lay` and what is counted of bytes. Assumes nothing.
use mathlib.Core.Path.{◌≡◌, refl, sym, ap, ◌∙◌}
use mathlib.Core.List.{List, [], ◌∷◌, ◌++◌, map, append_assoc, append-nil}
use Prim.Native.Nat.{ℕ, zero, suc, ◌+◌, ◌-◌, ◌/◌, ◌%◌, ◌≤◌, ◌<◌}
use native.Mathlib.Nat.{not-suc-le-zero}
use native.Mathlib.Numerals.{add-one}
use native.Mathlib.Omega.{arith}
use lib.ListN.{length, get_or, take, drop, set, length-take, length-drop, length-set, length-append, length-replicate, get_or-append}
use lib.ListN.{drop_of_length-le}
use lib.Seq.{sets, length-sets, sets-eq, set_comm, get_or-set_same, get_or-set_other, get_or-take, get_or-drop, ext_get_or, take_at, drop_at, take-append-le}
use lib.Seq.{length-take-le}
use Rattle.laws.specs.Bytes.{slice, lay, zeros, padded, two, word_at}

-- each element is a byte
abbrev pub Bytes : List ℕ → Type 0
Bytes l = (k : ℕ) → get_or l k 0 < 256

-- i lies in the n bytes from a
abbrev pub In : ℕ → ℕ → ℕ → Type 0
In a n i = (a ≤ i) × (i < a + n)

-- two stretches share no byte
abbrev pub Disjoint : ℕ → ℕ → ℕ → ℕ → Type 0
Disjoint a n b m = (i : ℕ) → In a n i → ¬ In b m i

-- ---- laying, as a loop does it

pub lay-none : (l : List ℕ) (k : ℕ) → lay l k [] ≡ l
unfolding lay
lay-none [] k = refl
lay-none (x ∷ l) zero = refl
lay-none (x ∷ l) (suc k) = ap (λ (t : List ℕ). x ∷ t) (lay-none l k)

-- the first byte is stored, and the others are laid behind it
pub lay_first : (l : List ℕ) (k v : ℕ) (vs : List ℕ) → lay l k (v ∷ vs) ≡ lay (set l k v) (suc k) vs
unfolding lay
lay_first [] k v vs = refl
lay_first (x ∷ l) zero v vs = refl
lay_first (x ∷ l) (suc k) v vs = ap (λ (t : List ℕ). x ∷ t) (lay_first l k v vs)

-- bytes laid are bytes stored one after the other
pub lay_is : (l : List ℕ) (k : ℕ) (vs : List ℕ) → lay l k vs ≡ sets l k vs
lay_is l k [] = lay-none l k
lay_is l k (v ∷ vs) = lay_first l k v vs ∙ lay_is (set l k v) (suc k) vs

pub lay_one : (l : List ℕ) (k v : ℕ) → set l k v ≡ lay l k (v ∷ [])
lay_one l k v = sym (lay_is l k (v ∷ []))

-- what is left to be laid, after its first element was stored
pub lay_next : (w R L L' : List ℕ) (k v : ℕ) → L ≡ v ∷ L' → lay w k L ≡ R → lay (set w k v) (k + 1) L' ≡ R
lay_next w R L L' k v e h = rw (add-one, ← lay_first) (rw e at h)

pub lay_done : (w R L : List ℕ) (k : ℕ) → L ≡ [] → lay w k L ≡ R → w ≡ R
lay_done w R L k e h = sym (lay-none w k) ∙ (rw e at h)

pub length-lay : (l : List ℕ) (i : ℕ) (vs : List ℕ) → length (lay l i vs) ≡ length l
length-lay l i vs = ap length (lay_is l i vs) ∙ length-sets l i vs

-- laying one after the other
pub lay-append : (l : List ℕ) (i : ℕ) (vs ws : List ℕ) → lay l i (vs ++ ws) ≡ lay (lay l i vs) (i + length vs) ws
lay-append l i [] ws = let e : i + 0 ≡ i = omega arith in rw (e, lay-none)
lay-append l i (v ∷ vs) ws =
    let e : i + suc (length vs) ≡ suc i + length vs = omega arith in
    rw (e, lay_first l i v (vs ++ ws), lay_first l i v vs) (lay-append (set l i v) (suc i) vs ws)

-- a cursor's step in a loop: w with M laid at k is w', and the cursor stands past M
pub lay_more : (w w' R L M L' : List ℕ) (k k' : ℕ) → L ≡ M ++ L' → w' ≡ lay w k M → k' ≡ k + length M → lay w k L ≡ R → lay w' k' L' ≡ R
lay_more w w' R L M L' k k' e a b h = rw (a, b, ← lay-append, ← e) h

-- two steps of a cursor are one
pub lay_trans : (o o₁ o₂ M N : List ℕ) (k k₁ : ℕ) → o₁ ≡ lay o k M → k₁ ≡ k + length M → o₂ ≡ lay o₁ k₁ N → o₂ ≡ lay o k (M ++ N)
lay_trans o o₁ o₂ M N k k₁ a b e = rw lay-append (rw (← a, ← b) e)

-- ---- laying, byte by byte

pub lay_out : (m : List ℕ) (a : ℕ) (bs : List ℕ) (i : ℕ) → ¬ In a (length bs) i → get_or (lay m a bs) i 0 ≡ get_or m i 0
lay_out m a [] i h = rw lay-none
lay_out m a (b ∷ bs) i h =
    ap (λ (l : List ℕ). get_or l i 0) (lay_first m a b bs)
    ∙ lay_out (set m a b) (suc a) bs i (λ p. h (omega arith, omega arith))
    ∙ get_or-set_other m a i b 0 (λ e. h (omega arith, omega arith))

pub lay_in : (m : List ℕ) (a : ℕ) (bs : List ℕ) (j : ℕ) → j < length bs → a + j < length m → get_or (lay m a bs) (a + j) 0 ≡ get_or bs j 0
lay_in m a [] j h g = absurd (not-suc-le-zero h)
lay_in m a (b ∷ bs) zero h g =
    let e : a + 0 ≡ a = omega arith in
    rw (e, lay_first) (lay_out (set m a b) (suc a) bs a (λ p. absurd (omega arith)) ∙ get_or-set_same m a b 0 (omega arith))
lay_in m a (b ∷ bs) (suc j) h g =
    let e : a + suc j ≡ suc a + j = omega arith in
    rw (e, lay_first) (lay_in (set m a b) (suc a) bs j (omega arith) (rw length-set (omega arith)))

-- ---- two that do not overlap commute; one at the same place covers the other

set-lay : (m : List ℕ) (i v b : ℕ) (ys : List ℕ) → ¬ In b (length ys) i → set (lay m b ys) i v ≡ lay (set m i v) b ys
set-lay m i v b [] h = rw (lay-none m b, lay-none (set m i v) b)
set-lay m i v b (y ∷ ys) h =
    ap (λ (l : List ℕ). set l i v) (lay_first m b y ys)
    ∙ set-lay (set m b y) i v (suc b) ys (λ p. h (omega arith, omega arith))
    ∙ ap (λ (l : List ℕ). lay l (suc b) ys) (set_comm m b i y v (λ e. h (omega arith, omega arith)))
    ∙ sym (lay_first (set m i v) b y ys)

pub lay_swap : (m : List ℕ) (a : ℕ) (xs : List ℕ) (b : ℕ) (ys : List ℕ) → Disjoint a (length xs) b (length ys) → lay (lay m a xs) b ys ≡ lay (lay m b ys) a xs
lay_swap m a [] b ys h = rw (lay-none m a, lay-none (lay m b ys) a)
lay_swap m a (x ∷ xs) b ys h =
    ap (λ (l : List ℕ). lay l b ys) (lay_first m a x xs)
    ∙ lay_swap (set m a x) (suc a) xs b ys (λ i p. h i (omega arith, omega arith))
    ∙ ap (λ (l : List ℕ). lay l (suc a) xs) (sym (set-lay m a x b ys (h a (omega arith, omega arith))))
    ∙ sym (lay_first (lay m b ys) a x xs)

pub lay_over : (m : List ℕ) (a : ℕ) (xs ys : List ℕ) → length xs ≡ length ys → lay (lay m a xs) a ys ≡ lay m a ys
unfolding lay
lay_over [] a xs ys e = refl
lay_over (w ∷ m) zero [] [] e = refl
lay_over (w ∷ m) zero [] (y ∷ ys) e = absurd (omega arith)
lay_over (w ∷ m) zero (x ∷ xs) [] e = absurd (omega arith)
lay_over (w ∷ m) zero (x ∷ xs) (y ∷ ys) e = ap (λ (l : List ℕ). y ∷ l) (lay_over m zero xs ys (omega arith))
lay_over (w ∷ m) (suc a) xs ys e = ap (λ (l : List ℕ). w ∷ l) (lay_over m a xs ys e)

-- ---- what stands before, between and after

pub lay-between : (m : List ℕ) (a : ℕ) (bs : List ℕ) → a + length bs ≤ length m → lay m a bs ≡ (take a m ++ bs) ++ drop (a + length bs) m
lay-between m a bs h = lay_is m a bs ∙ sets-eq bs m a h

-- ---- at the start of a list

module _ (z l : List ℕ) (fits : length l ≤ length z) where
  pub lay_start : lay z 0 l ≡ l ++ drop (length l) z
  lay_start =
      let h : 0 + length l ≤ length z = omega arith in
      let e : 0 + length l ≡ length l = omega arith in
      lay-between z 0 l h ∙ ap (λ (n : ℕ). l ++ drop n z) e

  pub lay-take : (n : ℕ) → n ≤ length l → take n (lay z 0 l) ≡ take n l
  lay-take n h = rw lay_start (take-append-le n l _ h)

  pub lay_at : (k : ℕ) → k < length l → get_or (lay z 0 l) k 0 ≡ get_or l k 0
  lay_at k h = rw lay_start (get_or-append l _ 0 k h)

  -- what follows is as it was
  pub lay-rest : drop (length l) (lay z 0 l) ≡ drop (length l) z
  lay-rest = rw lay_start (drop_at l (drop (length l) z) (length l) refl)

-- nothing of the list is left where as much is laid
pub lay-whole : (z l : List ℕ) → length l ≡ length z → lay z 0 l ≡ l
lay-whole z l e = let h : length z ≤ length l = omega arith in lay_start z l (omega arith) ∙ rw (drop_of_length-le z h, append-nil)

-- bytes laid in the front of a list, and so in what was laid at its start
lay_front : (l r : List ℕ) (k : ℕ) (vs : List ℕ) → k + length vs ≤ length l → lay (l ++ r) k vs ≡ lay l k vs ++ r
unfolding lay
lay_front [] r zero [] h = lay-none r 0
lay_front [] r zero (v ∷ vs) h = absurd (omega arith)
lay_front [] r (suc k) vs h = absurd (omega arith)
lay_front (x ∷ l) r zero [] h = refl
lay_front (x ∷ l) r zero (v ∷ vs) h = ap (λ (t : List ℕ). v ∷ t) (lay_front l r zero vs (omega arith))
lay_front (x ∷ l) r (suc k) vs h = ap (λ (t : List ℕ). x ∷ t) (lay_front l r k vs (omega arith))

pub lay-within : (z l : List ℕ) (k : ℕ) (vs : List ℕ) → k + length vs ≤ length l → length l ≤ length z → lay (lay z 0 l) k vs ≡ lay z 0 (lay l k vs)
lay-within z l k vs h g =
    let e = length-lay l k vs in
    rw (lay_start z l g, lay_start z (lay l k vs) (omega arith), e) (lay_front l (drop (length l) z) k vs h)

-- ---- a slice

pub length-slice : (from n : ℕ) (l : List ℕ) → from + n ≤ length l → length (slice from n l) ≡ n
unfolding slice
length-slice from n l h = length-take-le n (drop from l) (omega (arith, length-drop from l))

pub slice_most : (from n : ℕ) (l : List ℕ) → length (slice from n l) ≤ n
unfolding slice
slice_most from n l = omega (arith, length-take n (drop from l))

-- the slice from an offset to an end
pub slice_is : (from e n : ℕ) (l : List ℕ) → e - from ≡ n → take (e - from) (drop from l) ≡ slice from n l
unfolding slice
slice_is from e n l h = rw h

-- what was laid is read
pub slice-lay : (m : List ℕ) (a n : ℕ) (bs : List ℕ) → n ≤ length bs → a + length bs ≤ length m → slice a n (lay m a bs) ≡ take n bs
unfolding slice
slice-lay m a n bs h g =
    let e : length (take a m) ≡ a = length-take-le a m (omega arith) in
    ap (λ (l : List ℕ). take n (drop a l)) (lay-between m a bs g ∙ append_assoc (take a m) bs (drop (a + length bs) m))
    ∙ ap (take n) (drop_at (take a m) (bs ++ drop (a + length bs) m) a e)
    ∙ take-append-le n bs (drop (a + length bs) m) h

-- two lists that agree on a stretch have one slice there
pub slice-same : (m m' : List ℕ) (a n : ℕ) → length m ≡ length m' → ((i : ℕ) → In a n i → get_or m i 0 ≡ get_or m' i 0) → slice a n m ≡ slice a n m'
unfolding slice
slice-same m m' a n e h =
    ext_get_or 0 _ _ (simp (length-take, length-drop, e))
    (λ k l. let lt : k < n = omega (arith, simp length-take at l) in simp (get_or-take, get_or-drop) (h (a + k) (omega arith, omega arith)))

-- also if one goes on further than the other
pub slice-both : (m m' : List ℕ) (a n : ℕ) → a + n ≤ length m → a + n ≤ length m' → ((i : ℕ) → In a n i → get_or m i 0 ≡ get_or m' i 0)
    → slice a n m ≡ slice a n m'
unfolding slice
slice-both m m' a n r r' h =
    ext_get_or 0 _ _ (length-slice a n m r ∙ sym (length-slice a n m' r'))
    (λ k l. let lt : k < n = omega (arith, length-slice a n m r) in simp (get_or-take, get_or-drop) (h (a + k) (omega arith, omega arith)))

-- a slice of a slice
pub slice-slice : (b k a n : ℕ) (m : List ℕ) → a + n ≤ k → slice a n (slice b k m) ≡ slice (b + a) n m
unfolding slice
slice-slice b k a n m h = ext_get_or 0 _ _ (simp (length-take, length-drop) (omega arith)) each
  where
    each : (i : ℕ) → i < length (take n (drop a (take k (drop b m)))) → get_or (take n (drop a (take k (drop b m)))) i 0 ≡ get_or (take n (drop (b + a) m)) i 0
    each i l =
        let lt : i < n = omega (arith, length-take n (drop a (take k (drop b m)))) in
        let in-k : a + i < k = omega arith in
        let e : b + (a + i) ≡ b + a + i = omega arith in
        rw (get_or-take, get_or-take, get_or-drop, get_or-drop, get_or-take, get_or-drop, e)

module _ (g : ℕ → ℕ) where
  take-map : (n : ℕ) (l : List ℕ) → take n (map g l) ≡ map g (take n l)
  take-map zero l = refl
  take-map (suc n) [] = refl
  take-map (suc n) (x ∷ l) = ap (λ (t : List ℕ). g x ∷ t) (take-map n l)

  drop-map : (n : ℕ) (l : List ℕ) → drop n (map g l) ≡ map g (drop n l)
  drop-map zero l = refl
  drop-map (suc n) [] = refl
  drop-map (suc n) (x ∷ l) = drop-map n l

  pub slice-map : (from n : ℕ) (l : List ℕ) → slice from n (map g l) ≡ map g (slice from n l)
  unfolding slice
  slice-map from n l = ap (take n) (drop-map from l) ∙ take-map n (drop from l)

-- ---- bytes, put together and cut

pub bytes_none : Bytes []
bytes_none k = omega arith

pub bytes_cons : (b : ℕ) (l : List ℕ) → b < 256 → Bytes l → Bytes (b ∷ l)
bytes_cons b l low h zero = low
bytes_cons b l low h (suc k) = h k

pub bytes_append : (a b : List ℕ) → Bytes a → Bytes b → Bytes (a ++ b)
bytes_append [] b g h = h
bytes_append (x ∷ a) b g h = bytes_cons x (a ++ b) (g zero) (bytes_append a b (λ k. g (suc k)) h)

pub bytes_take : (n : ℕ) (l : List ℕ) → Bytes l → Bytes (take n l)
bytes_take zero l h = bytes_none
bytes_take (suc n) [] h = h
bytes_take (suc n) (x ∷ l) h = bytes_cons x (take n l) (h zero) (bytes_take n l (λ k. h (suc k)))

pub bytes_slice : (from n : ℕ) (l : List ℕ) → Bytes l → Bytes (slice from n l)
unfolding slice
bytes_slice from n l h = bytes_take n (drop from l) (λ k. rw (get_or-drop from l k 0) (h (from + k)))

-- ---- padding, and numbers of two bytes

pub length-zeros : (n : ℕ) → length (zeros n) ≡ n
unfolding zeros
length-zeros n = length-replicate {A = ℕ} n 0

-- one by one, as a loop lays them
pub zeros_next : (n : ℕ) → 0 < n → zeros n ≡ 0 ∷ zeros (n - 1)
unfolding zeros
zeros_next zero h = absurd (omega arith)
zeros_next (suc n) h = let e : suc n - 1 ≡ n = omega arith in rw e

pub zeros-none : (n : ℕ) → n ≤ 0 → zeros n ≡ []
unfolding zeros
zeros-none zero h = refl
zeros-none (suc n) h = absurd (omega arith)

pub zeros_at : (n i : ℕ) → get_or (zeros n) i 0 ≡ 0
unfolding zeros
zeros_at zero i = refl
zeros_at (suc n) zero = refl
zeros_at (suc n) (suc i) = zeros_at n i

pub length-padded : (n : ℕ) (bs : List ℕ) → length bs ≤ n → length (padded n bs) ≡ n
unfolding padded
length-padded n bs h = omega (arith, length-append bs (zeros (n - length bs)), length-zeros (n - length bs))

pub take-padded : (n : ℕ) (bs : List ℕ) → take (length bs) (padded n bs) ≡ bs
unfolding padded
take-padded n bs = take_at bs (zeros (n - length bs)) (length bs) refl

pub padded_at : (n : ℕ) (bs : List ℕ) (k : ℕ) → k < length bs → get_or (padded n bs) k 0 ≡ get_or bs k 0
unfolding padded
padded_at n bs k h = get_or-append bs (zeros (n - length bs)) 0 k h

pub length_two : (v : ℕ) → length (two v) ≡ 2
unfolding two
length_two v = refl

pub bytes_two : (v : ℕ) → v < 65536 → Bytes (two v)
unfolding two
bytes_two v h = bytes_cons (v / 256) (v % 256 ∷ []) (omega arith) (bytes_cons (v % 256) [] (omega arith) bytes_none)

pub word_two : (m : List ℕ) (a v : ℕ) → a + 2 ≤ length m → word_at (lay m a (two v)) a ≡ v
unfolding word_at two
word_two m a v h =
    let e : a + 0 ≡ a = omega arith in
    let p : get_or (lay m a (two v)) a 0 ≡ v / 256 = rw e at (lay_in m a (two v) 0 (omega arith) (omega arith)) in
    let q : get_or (lay m a (two v)) (a + 1) 0 ≡ v % 256 = lay_in m a (two v) 1 (omega arith) (omega arith) in
    rw (p, q) (omega arith)

pub word_out : (m : List ℕ) (a : ℕ) (bs : List ℕ) (i : ℕ) → ¬ In a (length bs) i → ¬ In a (length bs) (i + 1) → word_at (lay m a bs) i ≡ word_at m i
unfolding word_at
word_out m a bs i h g = rw (lay_out m a bs i h, lay_out m a bs (i + 1) g)
