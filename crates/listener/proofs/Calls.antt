-- The promise of `listen` fixes what a call returns and leaves, so what is shown over the definition is so of calls. Assumes nothing.
use mathlib.Core.Path.{◌≡◌, refl, sym, ap, ap₂, ◌∙◌}
use mathlib.Core.List.{List, [], ◌∷◌, ◌++◌}
use mathlib.Core.Option.{Option, some, none}
use mathlib.Core.Bool.{Bool, true, false}
use Prim.Native.Nat.{ℕ, ◌-◌}
use lib.ListN.{length, replicate}
use Rattle.reorder.specs.Reorder.{outcomes, final}
use Rattle.listener.specs.declared.Listener.{Listener}
use Rattle.listener.specs.declared.Listened.{Listened}
use Rattle.listener.specs.Listening.{both, listened, idle}
use Rattle.listener.specs.Handing.{gathered, handed, takes, well_formed}
use Rattle.listener.specs.Calls.{Took, no_call, a_call}
use Rattle.listener.proofs.Handing.{found, found_held}

-- ---- one call

pub listen_one_outcome : (l : Listener) (byte : ℕ) (k m : Listener) (r s : Bool) → both k r ≡ listened l byte → both m s ≡ listened l byte → (k ≡ m) × (r ≡ s)
listen_one_outcome l byte k m r s p q =
    let e : both k r ≡ both m s = p ∙ sym q in
    (ap (λ (h : Listened). h.listener) e, ap (λ (h : Listened). h.there) e)

-- and of a record that is handed over and handed back, as a caller's own copy is
pub by_value_one_outcome : (l : Listener) (byte : ℕ) (r s : Listened) → r ≡ listened l byte → s ≡ listened l byte → r ≡ s
by_value_one_outcome l byte r s p q = p ∙ sym q

pub idle_one_outcome : (r s : Listener) → r ≡ idle → s ≡ idle → r ≡ s
idle_one_outcome r s p q = p ∙ sym q

-- ---- one after the other

-- there is one way that calls go
pub took_is : {l m : Listener} {bytes : List ℕ} {os : List (Option (List ℕ))} → Took l bytes os m → (os ≡ outcomes takes l bytes) × (m ≡ final takes l bytes)
took_is (no_call l) = (refl, refl)
took_is (a_call l byte bytes k r rest m p then) =
    let t = took_is then in
    let k-is : k ≡ (listened l byte).listener = ap (λ (h : Listened). h.listener) p in
    (ap₂ ◌∷◌ (ap handed p) (t.0 ∙ ap (λ (n : Listener). outcomes takes n bytes) k-is), t.1 ∙ ap (λ (n : Listener). final takes n bytes) k-is)

-- and there is that one
pub takes_so : (l : Listener) (bytes : List ℕ) → Took l bytes (outcomes takes l bytes) (final takes l bytes)
takes_so l [] = no_call l
takes_so l (byte ∷ bytes) =
    a_call l byte bytes (listened l byte).listener (listened l byte).there _ _ refl (takes_so (listened l byte).listener bytes)

-- so from any record, calls with the bytes of a well-formed frame return false before the last, which returns true and leaves a record that holds it
pub calls_find : {l m : Listener} {f : List ℕ} {os : List (Option (List ℕ))} → length l.room ≡ 269 → well_formed f ≡ true → Took l f os m
    → (os ≡ replicate (length f - 1) none ++ (some f ∷ [])) × ((gathered m ≡ f) × (m.gathering ≡ false))
calls_find {l} {m} {f} room well t =
    let p = took_is t in
    let h = found_held l room [] f well in
    (p.0 ∙ found l room [] f well, rw p.1 (h.0, h.1.1.0))
