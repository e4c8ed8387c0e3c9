-- The sum of a list, as a loop adds it up: the one fact behind the checksum and the signatures of all three sizes. And what becomes of a stretch's sum
-- when bytes in it give way to others: the fact behind a signature that is kept. Assumes nothing.
use mathlib.Core.Path.{◌≡◌, refl, ap, ◌∙◌}
use mathlib.Core.List.{List, [], ◌∷◌, ◌++◌}
use Prim.Native.Nat.{ℕ, zero, suc, ◌+◌, ◌-◌, ◌≤◌, ◌<◌}
use native.Mathlib.Omega.{arith}
use lib.ListN.{length, get_or, take, drop}
use lib.Seq.{take-add, drop-drop, take-length, get_or-drop}
use Rattle.laws.specs.Bytes.{slice, lay, zeros, padded, sum_of}
use Rattle.laws.proofs.Walks.{next, none_left}
use Rattle.laws.proofs.Bytes.{length-lay, lay_out, slice-same, slice-lay, zeros_at}

pub sum_first : (l rest : List ℕ) (b : ℕ) → l ≡ b ∷ rest → sum_of l ≡ b + sum_of rest
unfolding sum_of
sum_first l rest b e = rw e

pub sum_empty : (l : List ℕ) → l ≡ [] → sum_of l ≡ 0
unfolding sum_of
sum_empty l e = rw e

-- of the rest of a list, from an index on
pub sum_next : (s : List ℕ) (i : ℕ) → i < length s → sum_of (drop i s) ≡ get_or s i 0 + sum_of (drop (i + 1) s)
sum_next s i h = sum_first _ _ _ (next s i h)

pub sum_done : (s : List ℕ) (i : ℕ) → length s ≤ i → sum_of (drop i s) ≡ 0
sum_done s i h = sum_empty _ (none_left s i h)

-- ---- put together and cut

pub sum-append : (l k : List ℕ) → sum_of (l ++ k) ≡ sum_of l + sum_of k
sum-append [] k = omega (arith, sum_empty [] refl)
sum-append (b ∷ l) k = omega (arith, sum_first (b ∷ l) l b refl, sum_first (b ∷ (l ++ k)) (l ++ k) b refl, sum-append l k)

-- zeros add nothing
none-take : (n : ℕ) (l : List ℕ) → ((i : ℕ) → get_or l i 0 ≡ 0) → sum_of (take n l) ≡ 0
unfolding sum_of
none-take zero l h = refl
none-take (suc n) [] h = refl
none-take (suc n) (b ∷ l) h = omega (arith, h zero, none-take n l (λ i. h (suc i)))

pub sum-none : (a n : ℕ) (m : List ℕ) → ((i : ℕ) → a ≤ i → get_or m i 0 ≡ 0) → sum_of (slice a n m) ≡ 0
unfolding slice
sum-none a n m h = none-take n (drop a m) (λ i. get_or-drop a m i 0 ∙ h (a + i) (omega arith))

pub sum-padded : (n : ℕ) (bs : List ℕ) → sum_of (padded n bs) ≡ sum_of bs
unfolding padded
sum-padded n bs =
    let z = zeros (n - length bs) in
    omega (arith, sum-append bs z, ap sum_of (take-length z), none-take (length z) z (zeros_at (n - length bs)))

-- a stretch is its first n bytes and the k behind them
sum_cut : (a n k : ℕ) (l : List ℕ) → sum_of (slice a (n + k) l) ≡ sum_of (slice a n l) + sum_of (slice (a + n) k l)
unfolding slice
sum_cut a n k l =
    ap sum_of (take-add n k (drop a l) ∙ ap (λ (r : List ℕ). take n (drop a l) ++ take k r) (drop-drop n a l))
    ∙ sum-append (take n (drop a l)) (take k (drop (a + n) l))

-- ---- bytes laid inside a stretch: its sum gains what came and loses what left

module _ (m : List ℕ) (a n k : ℕ) (new : List ℕ) (inside : a + n + length new ≤ length m) where
  abbrev after : List ℕ
  after = lay m (a + n) new

  -- before the laid bytes, and behind them, all is as it was
  beside : (b j : ℕ) → ((i : ℕ) → b ≤ i → i < b + j → ¬ ((a + n ≤ i) × (i < a + n + length new))) → sum_of (slice b j after) ≡ sum_of (slice b j m)
  beside b j off = ap sum_of (slice-same after m b j (length-lay m (a + n) new) (λ i p. lay_out m (a + n) new i (off i p.0 p.1)))

  pub sum_laid : sum_of (slice a (n + (length new + k)) after) + sum_of (slice (a + n) (length new) m)
      ≡ sum_of (slice a (n + (length new + k)) m) + sum_of new
  sum_laid =
      let low = beside a n (λ i l h p. let z : ⊥ = omega arith in z) in
      let high = beside (a + n + length new) k (λ i l h p. let z : ⊥ = omega arith in z) in
      let laid : sum_of (slice (a + n) (length new) after) ≡ sum_of new =
      ap sum_of (slice-lay m (a + n) (length new) new (omega arith) (omega arith) ∙ take-length new) in
      omega (
        arith,
        sum_cut a n (length new + k) after,
        sum_cut (a + n) (length new) k after,
        sum_cut a n (length new + k) m,
        sum_cut (a + n) (length new) k m,
        low,
        high,
        laid,
      )
