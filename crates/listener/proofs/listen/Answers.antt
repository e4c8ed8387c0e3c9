-- The byte before is read out of the room, and what `step_of` says of it is what is defined: count and flag are its own, and the byte is laid where it says
-- so. Assumes nothing.
use mathlib.Core.Path.{◌≡◌, refl, sym, ap, subst, ◌∙◌}
use mathlib.Core.List.{List}
use mathlib.Core.Bool.{Bool, true, false, not}
use Prim.Native.Nat.{ℕ, ◌+◌, ◌-◌, ◌≤◌, ◌<◌}
use native.Mathlib.Omega.{arith}
use lib.ListN.{get_or, set}
use Rattle.laws.proofs.Bytes.{lay_one}
use Rattle.listener.specs.Listening.{Step, passes, drops, gathers, step_of, before_at, both, stepped, listened}
use Rattle.listener.specs.declared.Listener.{Listener}
use Rattle.listener.proofs.Steps.{stores_inside}
use Rattle.listener.proofs.listen.Goals as goal

-- a byte that is gathered has its place in the room
inside : (x count n k : ℕ) (g ends : Bool) → gathers k ends ≡ step_of x count g n → k < 269
inside x count n k g ends e =
    let s = subst (λ (u : Step). u.stores ≡ true → (1 ≤ u.count) × (u.count ≤ 269)) (sym e) (stores_inside x count g n) refl in
    omega (arith, s.1)

-- the record that a step leaves, over the definitions
module _ (h : Listener) (n i : ℕ) (at : i ≡ before_at h.count) where
  defined : (s : Step) → s ≡ step_of (get_or h.room i 0) h.count h.gathering n → stepped h n s ≡ listened h n
  unfolding listened
  defined s e = ap (stepped h n) (e ∙ ap (λ k. step_of (get_or h.room k 0) h.count h.gathering n) at)

  when_passed : passes h.count h.gathering ≡ step_of (get_or h.room i 0) h.count h.gathering n → both h false ≡ listened h n
  unfolding stepped
  when_passed e = defined (passes h.count h.gathering) e

  when_dropped : drops ≡ step_of (get_or h.room i 0) h.count h.gathering n → both (record { room = h.room; count = 0; gathering = false }) false ≡ listened h n
  unfolding stepped
  when_dropped e = defined drops e

  when_gathered : (k : ℕ) (ends : Bool) → gathers k ends ≡ step_of (get_or h.room i 0) h.count h.gathering n
      → both (record { room = set h.room k n; count = k + 1; gathering = not ends }) ends ≡ listened h n
  unfolding stepped
  when_gathered k ends e =
      let back : k + 1 - 1 ≡ k = omega arith in
      ap (λ (l : List ℕ). both (record { room = l; count = k + 1; gathering = not ends }) ends) (lay_one h.room k n)
      ∙ rw back at (defined (gathers k ends) e)

pub bounds-l-at : goal.bounds-l-at
bounds-l-at c = omega (arith, inside _ _ _ _ _ _ c.in-Gathers.ensures)

pub overflow_add-l : goal.overflow_add-l
overflow_add-l c = omega (arith, inside _ _ _ _ _ _ c.in-Gathers.ensures)

pub returns-in-Passes : goal.returns-in-Passes
returns-in-Passes c = when_passed _ _ _ c.before_at.ensures.0 c.in-Passes.ensures

pub returns-in-Drops : goal.returns-in-Drops
returns-in-Drops c = when_dropped _ _ _ c.before_at.ensures.0 c.in-Drops.ensures

pub returns-in-Gathers : goal.returns-in-Gathers
returns-in-Gathers c = when_gathered _ _ _ c.before_at.ensures.0 _ _ c.in-Gathers.ensures
