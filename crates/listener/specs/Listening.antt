-- The listener's rules (document 02, request 1): what a byte of the line does to a record, and whether a frame is there then. Assumes nothing.
use Rattle.std.specs.Prelude.{[], ◌∷◌, Bool, true, false, cond, not, ◌&&◌, ℕ, ◌+◌, ◌-◌, get_or, leb, eqb}
use Rattle.laws.specs.Bytes.{lay, zeros}
use Rattle.laws.specs.Checks.{within}
use Rattle.listener.specs.declared.Listener.{Listener}
use Rattle.listener.specs.declared.Listened.{Listened}
use Rattle.listener.specs.declared.step.Effect.{Effect}
use Rattle.listener.specs.declared.step.Effect.TheVariants.{Passes, Drops, Gathers}

-- ---- over plain values: the byte before, how many are gathered, the flag, and the byte

-- the count and the flag afterwards; whether the byte is stored, as the last of those counted; and whether a frame is there now
pub record Step : Type 0 where
  pub count : ℕ
  pub gathering : Bool
  pub stores : Bool
  pub there : Bool

-- who is not gathering lets the byte pass
abbrev pub passes : ℕ → Bool → Step
passes count gathering = record { count = count; gathering = gathering; stores = false; there = false }

-- a byte for which there is no room drops what was gathered
abbrev pub drops : Step
drops = passes 0 false

-- one byte more; the one that ends the frame hands it out, and the record stops gathering and still holds it
abbrev pub gathers : ℕ → Bool → Step
gathers count ends = record { count = count + 1; gathering = not ends; stores = true; there = ends }

-- 3Ah starts afresh
abbrev pub starts : Step
starts = gathers 0 false

-- 0Ah right after 0Dh, which is judged among the gathered bytes: the first of them has none before it
unfoldable pub ends_frame : ℕ → ℕ → ℕ → Bool
ends_frame before count byte = leb 1 count && (eqb before 13 && eqb byte 10)

-- a count above 269 counts as not gathering, whatever the flag says
unfoldable pub step_of : ℕ → ℕ → Bool → ℕ → Step
step_of before count gathering byte =
    cond (eqb byte 58) starts
    (cond (gathering && leb count 269) (cond (eqb count 269) drops (gathers count (ends_frame before count byte))) (passes count gathering))

-- the step that an effect is, to a count and a flag
abbrev pub step_by : ℕ → Bool → Effect → Step
step_by count gathering Passes = passes count gathering
step_by count gathering Drops = drops
step_by count gathering (Gathers at ends) = gathers at ends

-- ---- over the record

-- where the byte before stands, if there is one
unfoldable pub before_at : ℕ → ℕ
before_at count = cond (within 1 269 count) (count - 1) 0

-- the record that a byte leaves, and whether a frame is there then
abbrev pub both : Listener → Bool → Listened
both l there = record { listener = l; there = there }

-- the record as a step leaves it: the byte, where it is stored, is the last of those counted, and every other byte of the room stays
unfoldable pub stepped : Listener → ℕ → Step → Listened
stepped l byte s =
    let room = cond s.stores (lay l.room (s.count - 1) (byte ∷ [])) l.room in
    both (record { room = room; count = s.count; gathering = s.gathering }) s.there

unfoldable pub listened : Listener → ℕ → Listened
listened l byte = stepped l byte (step_of (get_or l.room (before_at l.count) 0) l.count l.gathering byte)

-- a record that waits for a frame's first byte
unfoldable pub idle : Listener
idle = record { room = zeros 269; count = 0; gathering = false }
