-- The library's cut after each 0Ah is the one that is defined. Assumes nothing.
use mathlib.Core.Path.{◌≡◌, refl, ◌∙◌}
use mathlib.Core.List.{List, [], ◌∷◌, ◌++◌}
use mathlib.Core.Bool.{Bool}
use Prim.Native.Nat.{ℕ, zero, suc, ◌+◌, ◌-◌, ◌<◌, min}
use native.Mathlib.Omega.{arith}
use lib.ListN.{length}
use lib.Dec.{eqb}
use denote.Ref.{Bor}
use denote.Param.Members.{Mut, Called}
use Rattle.std.specs.Fn.{ComputesKey}
use Rattle.std.specs.List.{IsFirstMatchOrLen}
use Rattle.std.proofs.lemmas.Fn.{always_returns_same}
use Rattle.std.proofs.lemmas.List.{take_at, drop_at}
use Rattle.laws.specs.Bytes.{slice}
use Rattle.text.specs.Cut.{pieces, ends, piece_end}
use Rattle.text.proofs.Cuts.{pieces-from}

-- the first 0Ah, or the end, is where the first piece ends
ends_is : (s : List ℕ) (i : ℕ) → IsFirstMatchOrLen (λ b. eqb b 10) s i → ends s ≡ min (i + 1) (length s)
unfolding ends
ends_is [] i h = omega arith
ends_is (b ∷ s) zero h = rw (h.1 (omega arith) 0) (omega arith)
ends_is (b ∷ s) (suc i) h =
    let ih = ends_is s i (λ k d a l. h.0 (suc k) d (omega arith) (omega arith), λ l d. h.1 (omega arith) d) in
    rw (h.0 0 0 (omega arith) (omega arith)) (omega arith)

first_is : (s p rest : List ℕ) (i : ℕ) → s ≡ p ++ rest → length p ≡ min (i + 1) (length s) → IsFirstMatchOrLen (λ b. eqb b 10) s i → 0 < length s
    → pieces s ≡ p ∷ pieces rest
unfolding piece_end slice
first_is s p rest i joined long found some =
    let stop : min (length s) (0 + ends s) ≡ length p = omega (arith, ends_is s i found, long) in
    let from : length p - 0 ≡ length p = omega arith in
    pieces-from s 0 some ∙ rw (stop, from, joined, take_at p rest (length p) refl, drop_at p rest (length p) refl)

-- one turn of a walk over the pieces, by a closure whose call asks for 0Ah
pub cut_next : {F : Type 0} {g : Mut F (Bor ℕ × Unit {0}) Bool} (f f' : F) (s p rest : List ℕ)
    → (s ≡ p ++ rest) × ((i : ℕ) × (length p ≡ min (i + 1) (length s)) × ((q : ℕ → Bool) → ComputesKey g q f → ComputesKey g q f' × IsFirstMatchOrLen q s i))
    × (0 < length s)
    → ((a : Bor ℕ × Unit {0}) (v : Bool) (f' : F) → Called g f a v f' → (v ≡ eqb a.0.now 10) × (f' ≡ f))
    → pieces s ≡ p ∷ pieces rest
cut_next {g = g} f f' s p rest (joined, (i, long, found), some) step =
    first_is s p rest i joined long (found (λ b. eqb b 10) (always_returns_same g (λ a v. v ≡ eqb a.0.now 10) f step)).1 some
