-- What is handed out over the bytes of a line, and when: since the last 3Ah the record gathers, or it waits and those bytes cannot become a frame any
-- more; a byte that is not 3Ah takes the one to the one or the other. Assumes nothing.
use mathlib.Core.Path.{◌≡◌, refl, sym, ap, ◌∙◌}
use mathlib.Core.Logic.{◌≢◌}
use mathlib.Core.List.{List, [], ◌∷◌, ◌++◌, append_assoc}
use mathlib.Core.Bool.{true, false, cond, or-true, or-false}
use mathlib.Core.Option.{Option, some, none}
use Prim.Native.Nat.{ℕ, ◌+◌, ◌-◌, ◌<◌}
use native.Mathlib.Decide.{dec_lt, ℕ_discrete}
use native.Mathlib.Omega.{arith}
use lib.ListN.{length, get_or, take, replicate, length-append, length-replicate, get_or-replicate, get_or-append}
use lib.Seq.{ext_get_or, take_all, get_or_at}
use Rattle.laws.specs.Checks.{among, every}
use Rattle.laws.proofs.Tests.{never}
use Rattle.reorder.specs.Reorder.{outcomes, final}
use Rattle.reorder.proofs.Readings.{length-outcomes}
use Rattle.listener.specs.declared.Listener.{Listener}
use Rattle.listener.specs.declared.Listened.{Listened}
use Rattle.listener.specs.Listening.{listened}
use Rattle.listener.specs.Handing.{Waits, gathered, handed, takes, end_at, well_formed, since}
use Rattle.listener.proofs.Steps.{starts_afresh, room_stays}
use Rattle.listener.proofs.Shapes.{among-append, not_first, not_one, since_later, since-on, Begun, too_long, frame_is, frame_whole, well_more, begun-on}
use Rattle.listener.proofs.Shapes.{unended_none, since_frame, since_start, start_none}
use Rattle.listener.proofs.Gathering.{Holds, holds_waits, holds_first, After, ends, goes_on, drops, after, waits_stays}
use Rattle.listener.proofs.Along.{outcomes-append, left_after, told_at}

-- ---- before any 3Ah

-- who waits lets all pass but 3Ah, and is left as it was
pub waits_passes : (l : Listener) → Waits l → (s : List ℕ) → among 58 s ≡ false
    → (outcomes takes l s ≡ replicate (length s) none) × (final takes l s ≡ l)
waits_passes l still [] n = (refl, refl)
waits_passes l still (b ∷ s) n =
    let o = not_first 58 b s n in
    let e = waits_stays l still b o.0 in
    let r = waits_passes l still s o.1 in
    rw (e.0, e.1) (ap (λ (t : List (Option (List ℕ))). none ∷ t) r.0, r.1)

-- ---- since the last 3Ah

-- what is handed out with the last of the bytes s
abbrev told : List ℕ → Option (List ℕ)
told s = cond (well_formed s) (some s) none

-- how a record stands: it gathers s, in which no frame has ended, or it waits, and nothing that begins with s and goes on is a frame
data Stands (s : List ℕ) (l : Listener) : Type 0 where
  gathers : Begun s (length s - 1) → Holds s true l → Stands s l
  waits : ((b : ℕ) (t : List ℕ) → well_formed (s ++ (b ∷ t)) ≡ false) → Waits l → (well_formed s ≡ true → Holds s false l) → Stands s l

-- what the last byte of s did
abbrev Did : List ℕ → Listened → Type 0
Did s r = (handed r ≡ told s) × Stands s r.listener

-- 3Ah starts afresh
first : (l : Listener) → length l.room ≡ 269 → Did (58 ∷ []) (listened l 58)
unfolding handed well_formed among every end_at
first l room = (rw (starts_afresh l) refl, gathers (record { first = refl; only = refl; unended = refl }) (holds_first l room))

-- with b, no frame can come of s any more
lost : (s : List ℕ) (b : ℕ) (l : Listener) → ((t : List ℕ) → well_formed (s ++ (b ∷ t)) ≡ false) → Waits l → Stands (s ++ (b ∷ [])) l
lost s b l dead still = waits (λ c t. rw append_assoc (dead (c ∷ t))) still (λ w. absurd (never (sym (dead []) ∙ w)))

next : (s : List ℕ) (l : Listener) (b : ℕ) → b ≢ 58 → Stands s l → Did (s ++ (b ∷ [])) (listened l b)
next s l b other (waits dead still held) = let e = waits_stays l still b other in rw (e.0, e.1, dead b []) (refl, lost s b l (dead b) still)
next s l b other (gathers begun h) = by (after s l h b other)
  where
    by : After s b (listened l b) → Did (s ++ (b ∷ [])) (listened l b)
    by (ends low e o k) =
        let w = well_more s b begun other low ∙ e in
        (rw w o, waits (frame_whole (s ++ (b ∷ [])) w) (holds_waits (s ++ (b ∷ [])) (listened l b).listener k) (λ _. k))
    by (goes_on low e o k) = (rw (well_more s b begun other low ∙ e) o, gathers (begun-on s b begun other e) k)
    by (drops full o still) =
        let dead : (t : List ℕ) → well_formed (s ++ (b ∷ t)) ≡ false = λ t. too_long (s ++ (b ∷ t)) (omega (arith, length-append s (b ∷ t))) in
        (rw (dead []) o, lost s b (listened l b).listener dead still)

-- a frame that has come is held
held : (s : List ℕ) (l : Listener) → well_formed s ≡ true → Stands s l → Holds s false l
held s l well (gathers begun h) = absurd (unended_none s begun well)
held s l well (waits dead still h) = h well

-- ---- all that came

-- p came, and l is left
abbrev Came : List ℕ → Listener → Type 0
Came p l = (length l.room ≡ 269) × (among 58 p ≡ true → Stands (since p) l)

-- what the last of p handed out
abbrev Told : List ℕ → Option (List ℕ) → Type 0
Told p o = among 58 p ≡ true → o ≡ told (since p)

each : (p : List ℕ) (l : Listener) (b : ℕ) → Came p l → Told (p ++ (b ∷ [])) (takes l b).0 × Came (p ++ (b ∷ [])) (takes l b).1
unfolding since among
each p l b i = let x = by (ℕ_discrete b 58) in (λ a. (x a).0, (room_stays l b ∙ i.0, λ a. (x a).1))
  where
    by : Dec (b ≡ 58) → among 58 (p ++ (b ∷ [])) ≡ true → Did (since (p ++ (b ∷ []))) (listened l b)
    by (yes e) a = rw (e, since_later p (58 ∷ []) refl) (first l i.0)
    by (no other) a =
        let n = not_one 58 b other in
        let came = rw (among-append 58 p (b ∷ []), n, or-false) at a in
        rw (since-on p (b ∷ []) came n) (next (since p) l b other (i.1 came))

-- ---- the theorems, for any record with a room of 269 bytes

module _ (l : Listener) (room : length l.room ≡ 269) where
  start : Came [] l
  unfolding among
  start = (room, λ a. absurd (never a))

  -- a byte behind a 3Ah hands out what came since the last one if that is a well-formed frame, and nothing else
  pub handed_exactly : (s : List ℕ) (k : ℕ) → k < length s → among 58 (take (k + 1) s) ≡ true
      → get_or (outcomes takes l s) k none ≡ cond (well_formed (since (take (k + 1) s))) (some (since (take (k + 1) s))) none
  handed_exactly s k h = told_at takes Came Told each none s [] l start k h

-- a frame alone: nothing before its last byte, and then the frame
alone : (l : Listener) → length l.room ≡ 269 → (f : List ℕ) → well_formed f ≡ true → outcomes takes l f ≡ replicate (length f - 1) none ++ (some f ∷ [])
alone l room f well =
    let low = (frame_is f well).low in
    let n = length-outcomes takes l f in
    let m = length-append none_yet (some f ∷ []) in
    let i = silent in
    ext_get_or none (outcomes takes l f) (none_yet ++ (some f ∷ [])) (omega arith)
    (λ k h. handed_exactly l room f k (omega arith) (since_start f well k).0 ∙ rw (since_start f well k).1 (at k (omega arith) (dec_lt (k + 1) (length f))))
  where
    none_yet : List (Option (List ℕ))
    none_yet = replicate (length f - 1) none

    silent : length none_yet ≡ length f - 1
    silent = length-replicate (length f - 1) none

    at : (k : ℕ) → k < length f → Dec (k + 1 < length f) → told (take (k + 1) f) ≡ get_or (none_yet ++ (some f ∷ [])) k none
    at k h (yes early) =
        let i = silent in
        rw (start_none f well (k + 1) early)
        (sym (get_or-append none_yet (some f ∷ []) none k (omega arith) ∙ get_or-replicate (length f - 1) k none none (omega arith)))
    at k h (no late) =
        let i = silent in
        rw (take_all (k + 1) f (omega arith), well) (sym (get_or_at none_yet (some f) [] none k (omega arith)))

module _ (l : Listener) (room : length l.room ≡ 269) (noise f : List ℕ) (well : well_formed f ≡ true) where
  -- from any record and after any noise, a 3Ah that begins a well-formed frame leads to exactly that frame, at its last byte and not earlier
  pub found : outcomes takes l (noise ++ f) ≡ outcomes takes l noise ++ (replicate (length f - 1) none ++ (some f ∷ []))
  found =
      let left = (left_after takes Came Told each noise [] l (start l room)).0 in
      outcomes-append takes l noise f ∙ ap (λ (o : List (Option (List ℕ))). outcomes takes l noise ++ o) (alone (final takes l noise) left f well)

  -- which the record then holds
  pub found_held : (gathered (final takes l (noise ++ f)) ≡ f) × (((final takes l (noise ++ f)).count ≡ length f)
      × (((final takes l (noise ++ f)).gathering ≡ false) × (length (final takes l (noise ++ f)).room ≡ 269)))
  found_held =
      let t = since_frame f well in
      let came = left_after takes Came Told each (noise ++ f) [] l (start l room) in
      let a : among 58 (noise ++ f) ≡ true = rw (among-append 58 noise f, t.0, or-true) in
      let h = held f (final takes l (noise ++ f)) well (rw (since_later noise f t.0, t.1) at (came.1 a)) in
      (h.bytes, (h.counts, (h.flag, h.roomy)))
