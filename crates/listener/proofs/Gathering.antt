-- What a record holds, as a list of bytes, and how one byte changes it: the rules of a step, read off the room. Assumes nothing.
use mathlib.Core.Path.{◌≡◌, refl, sym, ap, ◌∙◌}
use mathlib.Core.Logic.{◌≢◌, ◌⊎◌, inl, inr}
use mathlib.Core.List.{List, [], ◌∷◌, ◌++◌}
use mathlib.Core.Bool.{Bool, true, false, not, cond, ◌&&◌, and-false}
use mathlib.Core.Option.{some, none}
use Prim.Native.Nat.{ℕ, suc, ◌+◌, ◌-◌, ◌≤◌, ◌<◌}
use native.Mathlib.Decide.{dec_lt}
use native.Mathlib.Numerals.{add-one}
use native.Mathlib.Omega.{arith}
use lib.ListN.{length, get_or, take, length-take, get_or-append}
use lib.Seq.{take-suc-set, get_or-take, get_or_at}
use lib.Dec.{leb, eqb}
use borrow.Author.Tests.{le-leb, leb-true}
use Rattle.laws.specs.Bytes.{slice, lay}
use Rattle.laws.proofs.Bytes.{lay_one, length-lay, length-slice, slice-lay}
use Rattle.laws.proofs.Tests.{and_both}
use Rattle.listener.specs.declared.Listener.{Listener}
use Rattle.listener.specs.declared.Listened.{Listened}
use Rattle.listener.specs.Listening.{ends_frame, listened}
use Rattle.listener.specs.Handing.{Waits, gathered, handed, end_at}
use Rattle.listener.proofs.Steps.{starts_afresh, passes_by, drops_at_269, gathers_one}
use Rattle.listener.proofs.Shapes.{length_more}

-- g, in a room of 269 bytes, with the flag t
pub record Holds (g : List ℕ) (t : Bool) (l : Listener) : Type 0 where
  pub flag : l.gathering ≡ t
  pub counts : l.count ≡ length g
  pub roomy : length l.room ≡ 269
  pub bytes : gathered l ≡ g

-- a room holds no more than that
holds_most : (g : List ℕ) (t : Bool) (l : Listener) → Holds g t l → length g ≤ 269
unfolding gathered slice
holds_most g t l h = omega (arith, length-take l.count l.room, ap length h.bytes)

-- who holds without gathering waits
pub holds_waits : (g : List ℕ) (l : Listener) → Holds g false l → Waits l
holds_waits g l h = rw h.flag

-- every record waits, or gathers what it holds
pub waits_or_holds : (l : Listener) → length l.room ≡ 269 → Waits l ⊎ Holds (gathered l) true l
unfolding gathered
waits_or_holds l room = by (l.gathering && leb l.count 269) refl
  where
    by : (t : Bool) → (l.gathering && leb l.count 269) ≡ t → Waits l ⊎ Holds (gathered l) true l
    by false e = inl e
    by true e =
        let p = and_both l.gathering (leb l.count 269) e in
        let n = leb-true l.count 269 p.1 in
        inr (record { flag = p.0; counts = sym (length-slice 0 l.count l.room (omega arith)); roomy = room; bytes = refl })

-- ---- 3Ah

-- it is all that is held then, whatever was before
pub holds_first : (l : Listener) → length l.room ≡ 269 → Holds (58 ∷ []) true (listened l 58).listener
unfolding gathered
holds_first l long =
    rw (starts_afresh l) (record {
      flag = refl;
      counts = refl;
      roomy = length-lay l.room 0 (58 ∷ []) ∙ long;
      bytes = slice-lay l.room 0 1 (58 ∷ []) (omega arith) (omega arith);
    })

-- ---- any other byte

-- the byte before is judged among those gathered
ends_is : (g r : List ℕ) (b : ℕ) → take (length g) r ≡ g → ends_frame (get_or r (length g - 1) 0) (length g) b ≡ end_at (g ++ (b ∷ [])) (length g - 1)
unfolding ends_frame end_at
ends_is [] r b e = sym (and-false (eqb b 13))
ends_is (x ∷ g) r b e =
    let n = suc (length g) in
    let i : n - 1 + 1 ≡ n = omega arith in
    let front : get_or r (n - 1) 0 ≡ get_or (x ∷ g) (n - 1) 0 = sym (get_or-take n r (n - 1) 0 (omega arith)) ∙ ap (λ (l : List ℕ). get_or l (n - 1) 0) e in
    let before : get_or ((x ∷ g) ++ (b ∷ [])) (n - 1) 0 ≡ get_or (x ∷ g) (n - 1) 0 = get_or-append (x ∷ g) (b ∷ []) 0 (n - 1) (omega arith) in
    let last : get_or ((x ∷ g) ++ (b ∷ [])) (n - 1 + 1) 0 ≡ b = rw i (get_or_at (x ∷ g) b [] 0 n refl) in
    rw (le-leb 1 n (omega arith), front, before, last)

-- what a byte makes of what is gathered: a frame, one byte more, or nothing where there is no room for it
pub data After (g : List ℕ) (b : ℕ) (r : Listened) : Type 0 where
  ends : length g < 269 → end_at (g ++ (b ∷ [])) (length g - 1) ≡ true → handed r ≡ some (g ++ (b ∷ [])) → Holds (g ++ (b ∷ [])) false r.listener
      → After g b r
  goes_on : length g < 269 → end_at (g ++ (b ∷ [])) (length g - 1) ≡ false → handed r ≡ none → Holds (g ++ (b ∷ [])) true r.listener → After g b r
  drops : length g ≡ 269 → handed r ≡ none → Waits r.listener → After g b r

module _ (g : List ℕ) (l : Listener) (h : Holds g true l) (b : ℕ) (other : b ≢ 58) where
  taken : take (length g) l.room ≡ g
  unfolding gathered slice
  taken = rw (← h.counts) h.bytes

  module _ (low : length g < 269) where
    stored : slice 0 (l.count + 1) (lay l.room l.count (b ∷ [])) ≡ g ++ (b ∷ [])
    unfolding slice
    stored = rw (h.counts, add-one, ← lay_one, take-suc-set l.room (length g) b (omega (arith, h.roomy)), taken)

    more : (t : Bool) → end_at (g ++ (b ∷ [])) (length g - 1) ≡ t
        → (handed (listened l b) ≡ cond t (some (g ++ (b ∷ []))) none) × Holds (g ++ (b ∷ [])) (not t) (listened l b).listener
    unfolding handed gathered
    more t e =
        let n = h.counts in
        let j : ends_frame (get_or l.room (l.count - 1) 0) l.count b ≡ t = rw n (ends_is g l.room b taken ∙ e) in
        rw (gathers_one l b other h.flag (omega arith) t j) (
          rw stored refl,
          record {
            flag = refl;
            counts = omega (arith, length_more g b);
            roomy = length-lay l.room l.count (b ∷ []) ∙ h.roomy;
            bytes = stored;
          },
        )

  pub after : After g b (listened l b)
  unfolding handed
  after = by (dec_lt (length g) 269) (end_at (g ++ (b ∷ [])) (length g - 1)) refl
    where
      by : Dec (length g < 269) → (t : Bool) → end_at (g ++ (b ∷ [])) (length g - 1) ≡ t → After g b (listened l b)
      by (yes low) true e = let m = more low true e in ends low e m.0 m.1
      by (yes low) false e = let m = more low false e in goes_on low e m.0 m.1
      by (no high) t e =
          let most = holds_most g true l h in
          let full : length g ≡ 269 = omega arith in
          rw (drops_at_269 l b other h.flag (h.counts ∙ full)) (drops full refl refl)

-- who lets a byte pass hands nothing out and stays
pub waits_stays : (l : Listener) → Waits l → (b : ℕ) → b ≢ 58 → (handed (listened l b) ≡ none) × ((listened l b).listener ≡ l)
unfolding handed
waits_stays l still b other = rw (passes_by l b other still) (refl, refl)
