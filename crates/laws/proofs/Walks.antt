-- The rest of a list from an index on, which is what a loop's invariant speaks of. Assumes nothing.
use mathlib.Core.Path.{◌≡◌, ap, ◌∙◌}
use mathlib.Core.List.{List, [], ◌∷◌}
use Prim.Native.Nat.{ℕ, ◌+◌, ◌<◌, ◌≤◌}
use native.Mathlib.Numerals.{add-one}
use native.Mathlib.Omega.{arith}
use lib.ListN.{length, get_or, drop, drop_of_length-le}
use lib.Seq.{drop-cons}

pub next : (s : List ℕ) (i : ℕ) → i < length s → drop i s ≡ get_or s i 0 ∷ drop (i + 1) s
next s i h = rw (add-one, drop-cons s i 0)

pub next2 : (s : List ℕ) (i : ℕ) → i + 1 < length s → drop i s ≡ get_or s i 0 ∷ (get_or s (i + 1) 0 ∷ drop (i + 2) s)
next2 s i h =
    let h0 : i < length s = omega arith in
    let e : i + 1 + 1 ≡ i + 2 = omega arith in
    next s i h0 ∙ ap (λ (l : List ℕ). get_or s i 0 ∷ l) (next s (i + 1) h ∙ ap (λ (n : ℕ). get_or s (i + 1) 0 ∷ drop n s) e)

pub none_left : (s : List ℕ) (i : ℕ) → length s ≤ i → drop i s ≡ []
none_left s i h = drop_of_length-le s h

-- a list of one is that one
pub alone : (s : List ℕ) → length s ≡ 1 → s ≡ get_or s 0 0 ∷ []
alone s h = next s 0 (omega arith) ∙ ap (λ (l : List ℕ). get_or s 0 0 ∷ l) (none_left s 1 (omega arith))
