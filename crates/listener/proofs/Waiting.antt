-- A record that waits for a 3Ah, as an idle one does, and one that has handed a frame out: it waits with the frame in it. Assumes nothing.
use mathlib.Core.Path.{◌≡◌, refl, sym, ap, ◌∙◌}
use mathlib.Core.List.{List, [], ◌++◌}
use mathlib.Core.Bool.{Bool, true, false, cond}
use mathlib.Core.Option.{Option, some, none}
use Prim.Native.Nat.{ℕ, ◌+◌, ◌<◌}
use native.Mathlib.Omega.{arith}
use lib.ListN.{length, get_or, take, drop, replicate, length-take, length-replicate, take-append-drop, get_or-replicate, get_or-append}
use Rattle.laws.specs.Bytes.{slice, zeros}
use Rattle.laws.specs.Checks.{among}
use Rattle.laws.proofs.Bytes.{length-zeros}
use Rattle.reorder.specs.Reorder.{outcomes, final}
use Rattle.listener.specs.declared.Listener.{Listener}
use Rattle.listener.specs.Listening.{idle}
use Rattle.listener.specs.Handing.{Waits, gathered, takes, well_formed, since}
use Rattle.listener.proofs.Along.{outcomes-append}
use Rattle.listener.proofs.Shapes.{since_none}
use Rattle.listener.proofs.Handing.{waits_passes, handed_exactly, found_held}

-- an idle record has gathered nothing and waits
pub idle_waits : (gathered idle ≡ []) × ((idle.gathering ≡ false) × ((length idle.room ≡ 269) × Waits idle))
unfolding idle gathered slice zeros
idle_waits = (refl, (refl, (length-zeros 269, refl)))

module _ (l : Listener) (room : length l.room ≡ 269) where
  -- from a record that waits, every byte hands out what came since the last 3Ah if that is a well-formed frame, and nothing else
  pub waits_exactly : Waits l → (s : List ℕ) (k : ℕ) → k < length s
      → get_or (outcomes takes l s) k none ≡ cond (well_formed (since (take (k + 1) s))) (some (since (take (k + 1) s))) none
  unfolding well_formed
  waits_exactly waits s k h = by (among 58 p) refl
    where
      p : List ℕ
      p = take (k + 1) s

      rest : List ℕ
      rest = drop (k + 1) s

      long : length p ≡ k + 1
      long = omega (arith, length-take (k + 1) s)

      silent : List (Option (List ℕ))
      silent = replicate (length p) none

      by : (t : Bool) → among 58 p ≡ t → get_or (outcomes takes l s) k none ≡ cond (well_formed (since p)) (some (since p)) none
      by true e = handed_exactly l room s k h e
      by false e =
          let n = long in
          let m : length silent ≡ length p = length-replicate (length p) none in
          rw (since_none p e)
          (ap (λ (x : List ℕ). get_or (outcomes takes l x) k none) (sym (take-append-drop (k + 1) s))
          ∙ ap (λ (x : List (Option (List ℕ))). get_or x k none)
          (outcomes-append takes l p rest ∙ ap (λ (x : List (Option (List ℕ))). x ++ outcomes takes (final takes l p) rest) (waits_passes l waits p e).0)
          ∙ get_or-append silent _ none k (omega arith) ∙ get_or-replicate (length p) k none none (omega arith))

  -- a frame that was handed out stands in the record until the next 3Ah, whatever else comes
  pub held_until : (noise f more : List ℕ) → well_formed f ≡ true → among 58 more ≡ false
      → (outcomes takes (final takes l (noise ++ f)) more ≡ replicate (length more) none)
      × (final takes (final takes l (noise ++ f)) more ≡ final takes l (noise ++ f))
  held_until noise f more w n = waits_passes (final takes l (noise ++ f)) (rw (found_held l room noise f w).1.1.0) more n
