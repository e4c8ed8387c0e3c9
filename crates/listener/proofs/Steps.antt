-- The listener's rules in the document's words, for any record: each is what the tests of a step come to. Assumes nothing.
use mathlib.Core.Path.{◌≡◌, refl, ap, ◌∙◌}
use mathlib.Core.Logic.{◌≢◌}
use mathlib.Core.List.{List, [], ◌∷◌}
use mathlib.Core.Bool.{Bool, true, false, not, cond, and-false}
use Prim.Native.Nat.{ℕ, ◌+◌, ◌-◌, ◌≤◌, ◌<◌}
use native.Mathlib.Decide.{ℕ_discrete, dec_le}
use native.Mathlib.Omega.{arith}
use lib.ListN.{length, get_or}
use borrow.Author.Tests.{leb-false, ne_eqb, lt-leb}
use Rattle.laws.specs.Bytes.{lay}
use Rattle.laws.proofs.Bytes.{length-lay, lay_out}
use Rattle.laws.proofs.Tests.{never}
use Rattle.listener.specs.declared.Listener.{Listener}
use Rattle.listener.specs.Listening.{Step, ends_frame, step_of, before_at, stepped, listened}
use Rattle.listener.specs.Handing.{Waits}
use Rattle.listener.proofs.Cases.{not_gathering, over_full, is_full, has_room, none_before, no_return, by_line_feed, before_is}
use Rattle.listener.proofs.Cases.{Does, starts_it, lets_pass, drops-all, adds_one, does}

-- ---- a byte, by the rule that it falls under

module _ (l : Listener) where
  -- 3Ah always starts afresh
  pub starts_afresh : listened l 58 ≡ record { listener = record { room = lay l.room 0 (58 ∷ []); count = 1; gathering = true }; there = false }
  unfolding listened stepped step_of
  starts_afresh = refl

  module _ (b : ℕ) (other : b ≢ 58) where
    -- who is not gathering, and a count above 269 is not, lets it pass
    pub passes_by : Waits l → listened l b ≡ record { listener = l; there = false }
    unfolding listened stepped
    passes_by waits = rw (not_gathering _ l.count l.gathering b other waits)

    -- the 270th byte drops what was gathered
    pub drops_at_269 : l.gathering ≡ true → l.count ≡ 269
        → listened l b ≡ record { listener = record { room = l.room; count = 0; gathering = false }; there = false }
    unfolding listened stepped
    drops_at_269 g full = rw (is_full _ l.count l.gathering b other g full)

    -- any other is gathered, t saying whether it ends the frame
    module _ (g : l.gathering ≡ true) (low : l.count < 269) where
      pub gathers_one : (t : Bool) → ends_frame (get_or l.room (l.count - 1) 0) l.count b ≡ t
          → listened l b ≡ record { listener = record { room = lay l.room l.count (b ∷ []); count = l.count + 1; gathering = not t }; there = t }
      unfolding listened stepped
      gathers_one t ends =
          let back : l.count + 1 - 1 ≡ l.count = omega arith in
          rw (before_is l.count (omega arith), has_room _ l.count l.gathering b t other g low ends, back)

      -- unless it is 0Ah right after 0Dh, it goes on
      pub goes_on : (0 < l.count → get_or l.room (l.count - 1) 0 ≡ 13 → b ≢ 10)
          → listened l b ≡ record { listener = record { room = lay l.room l.count (b ∷ []); count = l.count + 1; gathering = true }; there = false }
      goes_on no_end = gathers_one false (by (ℕ_discrete l.count 0) (ℕ_discrete (get_or l.room (l.count - 1) 0) 13))
        where
          by : Dec (l.count ≡ 0) → Dec (get_or l.room (l.count - 1) 0 ≡ 13) → ends_frame (get_or l.room (l.count - 1) 0) l.count b ≡ false
          by (yes z) d = none_before _ l.count b z
          by (no z) (no n) = no_return _ l.count b n
          by (no z) (yes e) = by_line_feed _ l.count b (omega arith) e ∙ ne_eqb b 10 (no_end (omega arith) e)

    -- the first byte of a gathering record has none before it, whatever stands in the room
    pub takes_first : l.gathering ≡ true → l.count ≡ 0
        → listened l b ≡ record { listener = record { room = lay l.room 0 (b ∷ []); count = 1; gathering = true }; there = false }
    takes_first g z =
        goes_on g (omega arith) (λ some. absurd (omega arith))
        ∙ ap (λ n. record { listener = record { room = lay l.room n (b ∷ []); count = n + 1; gathering = true }; there = false }) z

    -- no room has so many
    pub over_full_stays : 269 < l.count → listened l b ≡ record { listener = l; there = false }
    unfolding listened stepped
    over_full_stays h = rw (over_full _ l.count l.gathering b other h)

  -- 0Ah right after 0Dh
  pub ends_the_frame : l.gathering ≡ true → 0 < l.count → l.count < 269 → get_or l.room (l.count - 1) 0 ≡ 13
      → listened l 10 ≡ record { listener = record { room = lay l.room l.count (10 ∷ []); count = l.count + 1; gathering = false }; there = true }
  ends_the_frame g some low cr = gathers_one 10 (omega arith) g low true (by_line_feed _ l.count 10 some cr)

-- ---- what a step leaves

-- with nothing gathered no byte before is looked at
pub first_unjudged : (x y : ℕ) (g : Bool) (b : ℕ) → step_of x 0 g b ≡ step_of y 0 g b
unfolding step_of ends_frame
first_unjudged x y g b = refl

-- nor with a count that no room has
over_unjudged : (x y count : ℕ) (g : Bool) (b : ℕ) → 269 < count → step_of x count g b ≡ step_of y count g b
unfolding step_of
over_unjudged x y count g b h = rw (lt-leb count 269 h, and-false)

-- so who reads the byte before right where there is one takes the defined step
pub before_read : (room : List ℕ) (count i : ℕ) (g : Bool) (b : ℕ) → (1 ≤ count → count ≤ 269 → i ≡ count - 1)
    → step_of (get_or room i 0) count g b ≡ step_of (get_or room (before_at count) 0) count g b
before_read room count i g b at = go (dec_le count 269) (ℕ_discrete count 0)
  where
    go : Dec (count ≤ 269) → Dec (count ≡ 0) → step_of (get_or room i 0) count g b ≡ step_of (get_or room (before_at count) 0) count g b
    go (no h) z = over_unjudged _ _ count g b (omega arith)
    go (yes h) (yes z) = rw z (first_unjudged _ _ g b)
    go (yes h) (no z) = rw (before_is count h, at (omega arith) h)

-- where a byte is stored, 1 to 269 count then, so that the last of them is inside the room
pub stores_inside : (before count : ℕ) (g : Bool) (b : ℕ) → (step_of before count g b).stores ≡ true
    → (1 ≤ (step_of before count g b).count) × ((step_of before count g b).count ≤ 269)
stores_inside before count g b = by (does before count g b)
  where
    by : {s : Step} → Does count g s → s.stores ≡ true → (1 ≤ s.count) × (s.count ≤ 269)
    by (starts_it e) h = rw e (omega arith, omega arith)
    by (lets_pass w e) h = absurd (never (rw e at h))
    by (drops-all e) h = absurd (never (rw e at h))
    by (adds_one t low e) h = rw e (omega arith, omega arith)

module _ (l : Listener) (b : ℕ) where
  -- the step that is taken
  now : Step
  now = step_of (get_or l.room (before_at l.count) 0) l.count l.gathering b

  done : Does l.count l.gathering now
  unfolding now
  done = does (get_or l.room (before_at l.count) 0) l.count l.gathering b

  pub room_stays : length (listened l b).listener.room ≡ length l.room
  unfolding listened stepped now
  room_stays = go now.stores
    where
      go : (t : Bool) → length (cond t (lay l.room (now.count - 1) (b ∷ [])) l.room) ≡ length l.room
      go true = length-lay l.room (now.count - 1) (b ∷ [])
      go false = refl

  -- the bytes past the count are what they were
  pub rest_stays : (i : ℕ) → (listened l b).listener.count ≤ i → get_or (listened l b).listener.room i 0 ≡ get_or l.room i 0
  unfolding listened stepped now
  rest_stays i past = go now.stores (λ s. (stores_inside _ l.count l.gathering b s).0)
    where
      go : (t : Bool) → (t ≡ true → 1 ≤ now.count) → get_or (cond t (lay l.room (now.count - 1) (b ∷ [])) l.room) i 0 ≡ get_or l.room i 0
      go true some = let low = some refl in lay_out l.room (now.count - 1) (b ∷ []) i (λ p. omega arith)
      go false some = refl

  -- where a frame is there, 1 to 269 bytes count
  pub there-inside : (listened l b).there ≡ true → (1 ≤ (listened l b).listener.count) × ((listened l b).listener.count ≤ 269)
  unfolding listened stepped now
  there-inside = by done
    where
      by : {s : Step} → Does l.count l.gathering s → s.there ≡ true → (1 ≤ s.count) × (s.count ≤ 269)
      by (starts_it e) h = absurd (never (rw e at h))
      by (lets_pass w e) h = absurd (never (rw e at h))
      by (drops-all e) h = absurd (never (rw e at h))
      by (adds_one t low e) h = rw e (omega arith, omega arith)

  -- no byte leaves a record that gathers and has nothing
  pub gathers-some : (listened l b).listener.gathering ≡ true → 1 ≤ (listened l b).listener.count
  unfolding listened stepped now
  gathers-some = by done
    where
      by : {s : Step} → Does l.count l.gathering s → s.gathering ≡ true → 1 ≤ s.count
      by (starts_it e) h = rw e (omega arith)
      by (lets_pass w e) h =
          let on : l.gathering ≡ true = rw e at h in
          let over = leb-false l.count 269 (rw on at w) in
          rw e (omega arith)
      by (drops-all e) h = absurd (never (rw e at h))
      by (adds_one t low e) h = rw e (omega arith)
