-- Which bytes of a line make a well-formed frame, and where the last 3Ah stands: laws over plain lists. Assumes nothing.
use mathlib.Core.Path.{◌≡◌, refl, sym, ap, ◌∙◌}
use mathlib.Core.Logic.{◌≢◌}
use mathlib.Core.List.{List, [], ◌∷◌, ◌++◌}
use mathlib.Core.Bool.{Bool, true, false, not, cond, ◌||◌, and-true, and-false, or_assoc, or-true, or-false}
use Prim.Native.Nat.{ℕ, suc, ◌+◌, ◌-◌, ◌≤◌, ◌<◌}
use native.Mathlib.Decide.{dec_lt}
use native.Mathlib.Numerals.{add-one}
use native.Mathlib.Omega.{arith}
use lib.ListN.{length, get_or, take, drop, length-append, take-append-drop, get_or-append}
use lib.Seq.{drop-append-le, split_at}
use lib.Dec.{eqb}
use borrow.Author.Tests.{le-leb, lt-leb, eq-eqb, ne_eqb, eqb-true, eqb-false, not-true}
use Rattle.laws.specs.Checks.{among, every}
use Rattle.laws.proofs.Tests.{never, and_both, neither, fails, every_fails, every_at, every-same, every_next}
use Rattle.listener.specs.Handing.{end_at, well_formed, since}

-- ---- among the bytes of a line

module _ (k : ℕ) where
  pub among-append : (a b : List ℕ) → among k (a ++ b) ≡ (among k a || among k b)
  unfolding among
  among-append [] b = refl
  among-append (x ∷ a) b = rw (among-append a b) (sym (or_assoc (eqb k x) (among k a) (among k b)))

  -- a number that is not among a list is neither its first nor among the rest
  pub not_first : (n : ℕ) (ns : List ℕ) → among k (n ∷ ns) ≡ false → (n ≢ k) × (among k ns ≡ false)
  unfolding among
  not_first n ns e = let p = neither (eqb k n) (among k ns) e in (λ i. eqb-false k n p.0 (sym i), p.1)

  pub not_one : (n : ℕ) → n ≢ k → among k (n ∷ []) ≡ false
  unfolding among
  not_one n h = rw (ne_eqb k n (λ e. h (sym e)))

-- ---- since the last 3Ah

-- what came before one does not count
pub since_later : (p q : List ℕ) → among 58 q ≡ true → since (p ++ q) ≡ since q
unfolding since
since_later [] q h = refl
since_later (b ∷ p) q h = rw (among-append 58 p q, h, or-true) (since_later p q h)

-- what comes behind one without another is added
pub since-on : (p q : List ℕ) → among 58 p ≡ true → among 58 q ≡ false → since (p ++ q) ≡ since p ++ q
unfolding since among
since-on [] q h n = absurd (never h)
since-on (b ∷ p) q h n = go (among 58 p) refl h (λ e. since-on p q e n)
  where
    go : (t : Bool) → among 58 p ≡ t → (eqb 58 b || t) ≡ true → (among 58 p ≡ true → since (p ++ q) ≡ since p ++ q)
        → cond (among 58 (p ++ q)) (since (p ++ q)) (cond (eqb b 58) (b ∷ (p ++ q)) [])
        ≡ cond (among 58 p) (since p) (cond (eqb b 58) (b ∷ p) []) ++ q
    go true e h ih = rw (among-append 58 p q, e) (ih e)
    go false e h ih = rw (among-append 58 p q, e, n, eq-eqb b 58 (sym (eqb-true 58 b (rw or-false at h))))

-- where there was none, there are none since
pub since_none : (s : List ℕ) → among 58 s ≡ false → since s ≡ []
unfolding since
since_none [] n = refl
since_none (b ∷ s) n = let p = not_first 58 b s n in rw (p.1, ne_eqb b 58 p.0)

-- ---- a well-formed frame

-- 0Dh 0Ah is where it was, whatever follows
end_front : (s t : List ℕ) (i : ℕ) → i + 1 < length s → end_at (s ++ t) i ≡ end_at s i
unfolding end_at
end_front s t i h = rw (get_or-append s t 0 i (omega arith), get_or-append s t 0 (i + 1) h)

-- 3Ah and no other, and no 0Dh 0Ah before n
pub record Begun (s : List ℕ) (n : ℕ) : Type 0 where
  pub first : get_or s 0 0 ≡ 58
  pub only : among 58 (drop 1 s) ≡ false
  pub unended : every (λ i. not (end_at s i)) n ≡ true

-- such a list, if it is not too long, is a frame exactly if 0Dh 0Ah is its end
pub well_is : (f : List ℕ) → Begun f (length f - 2) → length f ≤ 269 → well_formed f ≡ end_at f (length f - 2)
unfolding well_formed
well_is f b high = rw (b.first, b.only, b.unended, le-leb (length f) 269 high) (and-true (end_at f (length f - 2)))

-- one that is too long is none
pub too_long : (f : List ℕ) → 269 < length f → well_formed f ≡ false
unfolding well_formed
too_long f long = rw (lt-leb (length f) 269 long) (simp and-false)

-- what a frame's bytes say
pub record Frame (f : List ℕ) : Type 0 where
  pub begun : Begun f (length f - 2)
  pub ends : end_at f (length f - 2) ≡ true
  pub low : 3 ≤ length f

pub frame_is : (f : List ℕ) → well_formed f ≡ true → Frame f
unfolding well_formed end_at
frame_is f w =
    let a = and_both (eqb (get_or f 0 0) 58) _ w in
    let b = and_both (not (among 58 (drop 1 f))) _ a.1 in
    let c = and_both (end_at f (length f - 2)) _ b.1 in
    let d = and_both (every (λ i. not (end_at f i)) (length f - 2)) _ c.1 in
    let first : get_or f 0 0 ≡ 58 = eqb-true _ 58 a.0 in
    let cr : get_or f (length f - 2) 0 ≡ 13 = eqb-true _ 13 (and_both _ _ c.0).0 in
    record {
      begun = record { first = first; only = not-true _ b.0; unended = d.0 };
      ends = c.0;
      low = some first cr (dec_lt 2 (length f));
    }
  where
    some : get_or f 0 0 ≡ 58 → get_or f (length f - 2) 0 ≡ 13 → Dec (2 < length f) → 3 ≤ length f
    some first cr (yes h) = h
    some first cr (no h) = let e : length f - 2 ≡ 0 = omega arith in let z = rw e at cr in absurd (omega arith)

-- no frame goes on to be another
pub frame_whole : (f : List ℕ) → well_formed f ≡ true → (b : ℕ) (t : List ℕ) → well_formed (f ++ (b ∷ t)) ≡ false
unfolding well_formed
frame_whole f w b t =
    let g = f ++ (b ∷ t) in
    let r = frame_is f w in
    let n = length-append f (b ∷ t) in
    let e : end_at g (length f - 2) ≡ true = end_front f (b ∷ t) (length f - 2) (omega arith) ∙ r.ends in
    rw (every_fails (λ i. not (end_at g i)) (length g - 2) (length f - 2) (omega arith) (ap not e)) (simp and-false)

-- ---- one byte more

module _ (s : List ℕ) (b : ℕ) where
  pub length_more : length (s ++ (b ∷ [])) ≡ length s + 1
  length_more = length-append s (b ∷ [])

  module _ (begun : Begun s (length s - 1)) (other : b ≢ 58) where
    begun-some : 0 < length s
    begun-some = go s begun.first
      where
        go : (l : List ℕ) → get_or l 0 0 ≡ 58 → 0 < length l
        go [] e = absurd (omega arith)
        go (x ∷ l) e = omega arith

    -- only where the byte makes 0Dh 0Ah with the one before may there be an end
    begun_more : Begun (s ++ (b ∷ [])) (length s - 1)
    begun_more =
        record {
          first = get_or-append s (b ∷ []) 0 0 begun-some ∙ begun.first;
          only = rw (drop-append-le 1 s (b ∷ []) begun-some, among-append 58 (drop 1 s) (b ∷ []), begun.only) (not_one 58 b other);
          unended = every-same _ _ (length s - 1) (λ i h. ap not (end_front s (b ∷ []) i (omega arith))) ∙ begun.unended;
        }

    -- so there the frame is, or it goes on
    pub well_more : length s < 269 → well_formed (s ++ (b ∷ [])) ≡ end_at (s ++ (b ∷ [])) (length s - 1)
    well_more low =
        let n = length_more in
        let e : length (s ++ (b ∷ [])) - 2 ≡ length s - 1 = omega arith in
        rw e at (well_is (s ++ (b ∷ [])) (rw e begun_more) (omega arith))

    pub begun-on : end_at (s ++ (b ∷ [])) (length s - 1) ≡ false → Begun (s ++ (b ∷ [])) (length (s ++ (b ∷ [])) - 1)
    begun-on e =
        let n = length_more in
        let some = begun-some in
        let m : length (s ++ (b ∷ [])) - 1 ≡ length s - 1 + 1 = omega arith in
        let u = every_next (λ i. not (end_at (s ++ (b ∷ [])) i)) (length s - 1) begun_more.unended (ap not e) in
        rw m (record { first = begun_more.first; only = begun_more.only; unended = u })

-- a list in which no frame has ended is none
pub unended_none : (s : List ℕ) → Begun s (length s - 1) → well_formed s ≡ true → ⊥
unended_none s begun w =
    let f = frame_is s w in
    let e = not-true _ (every_at (λ i. not (end_at s i)) (length s - 1) (length s - 2) begun.unended (omega arith)) in
    never (sym e ∙ f.ends)

-- ---- the beginnings of a frame

among-take : (k n : ℕ) (l : List ℕ) → among k l ≡ false → among k (take n l) ≡ false
among-take k n l h = (neither (among k (take n l)) _ (sym (among-append k (take n l) (drop n l)) ∙ rw (take-append-drop n l) h)).0

-- what begins with the only 3Ah in it came since that
since_only : (s : List ℕ) → get_or s 0 0 ≡ 58 → among 58 (drop 1 s) ≡ false → (among 58 s ≡ true) × (since s ≡ s)
unfolding since among
since_only [] e n = absurd (omega arith)
since_only (x ∷ s) e n = rw (e, n) (refl, refl)

module _ (f : List ℕ) (well : well_formed f ≡ true) where
  pub since_frame : (among 58 f ≡ true) × (since f ≡ f)
  since_frame = let b = (frame_is f well).begun in since_only f b.first b.only

  -- and so for what it begins with
  pub since_start : (k : ℕ) → (among 58 (take (k + 1) f) ≡ true) × (since (take (k + 1) f) ≡ take (k + 1) f)
  since_start k = let b = (frame_is f well).begun in rw (add-one k) (go f b.first b.only)
    where
      go : (l : List ℕ) → get_or l 0 0 ≡ 58 → among 58 (drop 1 l) ≡ false → (among 58 (take (suc k) l) ≡ true) × (since (take (suc k) l) ≡ take (suc k) l)
      go [] e n = absurd (omega arith)
      go (x ∷ l) e n = since_only (x ∷ take k l) e (among-take 58 k l n)

  -- only the whole is a frame
  pub start_none : (k : ℕ) → k < length f → well_formed (take k f) ≡ false
  start_none k h =
      fails (well_formed (take k f)) (λ e. never (sym (rw (← split_at f k 0 h) at (frame_whole (take k f) e (get_or f k 0) (drop (suc k) f))) ∙ well))
