-- The promises leave one outcome: each is an equation, or two. Assumes nothing.
use mathlib.Core.Path.{◌≡◌, refl, sym, ap, ◌∙◌}
use mathlib.Core.HLevel.{is_prop→PathP}
use mathlib.Core.List.{List}
use Prim.Native.Nat.{ℕ, ◌<◌}
use native.Mathlib.Omega.{arith}
use Rattle.std.specs.Coded.{le_prop, Π_prop}
use Rattle.std.specs.Prelude.{Option, Some, None, Result, Ok, Err, unwrap_or}
use Rattle.std.specs.Option.{ForSome}
use Rattle.output.specs.declared.refusal.Refusal.{Refusal}
use Rattle.output.specs.Refusal.{number_of}
use Rattle.output.proofs.Refusals.{one_refusal, above_0}
use Rattle.image.specs.declared.parts.Held.{Held}
use Rattle.image.specs.declared.version.Version.{Version}
use Rattle.image.specs.Made.{ImageAfter, Makes}
use Rattle.image.specs.Held.{HeldAnswer, held_parts, held_in}

pub makes_one_outcome : (l : ImageAfter) (r s : ℕ) (m n : List ℕ) → Makes l r m → Makes l s n → (r ≡ s) × (m ≡ n)
makes_one_outcome l r s m n a b = (a.number_is ∙ sym b.number_is, a.image_is ∙ sym b.image_is)

pub held_one_outcome : (v : Version) (m : List ℕ) (t : ℕ) (r s : HeldAnswer) → r ≡ held_parts v m t → s ≡ held_parts v m t → r ≡ s
held_one_outcome v m t r s a b = a ∙ sym b

-- what is reported leads back to what was returned, since no part is 0
missing_one : (o p : Option ℕ) → ForSome o (λ n. 0 < n) → ForSome p (λ n. 0 < n) → unwrap_or o 0 ≡ unwrap_or p 0 → o ≡ p
missing_one None None f g e = refl
missing_one None (Some n) f g e = absurd (let z = g n refl in omega arith)
missing_one (Some n) None f g e = absurd (let z = f n refl in omega arith)
missing_one (Some n) (Some k) f g e = ap (λ (x : ℕ). Some x) e

pub one_held : (h k : Held) → held_in (Ok h) ≡ held_in (Ok k) → (h.parts ≡ k.parts) × (h.missing ≡ k.missing)
one_held h k e = (ap (λ a. a.parts) e, missing_one h.missing k.missing h.counted k.counted (ap (λ a. a.missing) e))

-- two with the same parts are the same, since that a missing one is not 0 has one proof
same_held : (h k : Held) → h.parts ≡ k.parts → h.missing ≡ k.missing → h ≡ k
same_held h k p m =
    λ i.
    record {
      parts = p i;
      missing = m i;
      counted = is_prop→PathP (λ j. ForSome (m j) (λ n. 0 < n)) (λ j. Π_prop (λ n. Π_prop (λ e. le_prop))) h.counted k.counted i;
    }

-- a refusal has a number of its own, and it is not 0
pub one_held_result : (r s : Result Held Refusal) → held_in r ≡ held_in s → r ≡ s
one_held_result (Ok h) (Ok k) e = let p = one_held h k e in ap (λ z. Ok z) (same_held h k p.0 p.1)
one_held_result (Ok h) (Err f) e =
    absurd
    (let n : 0 ≡ number_of f = ap (λ a. a.number) e in
    let z = above_0 f in
    omega arith)
one_held_result (Err e) (Ok k) h =
    absurd
    (let n : number_of e ≡ 0 = ap (λ a. a.number) h in
    let z = above_0 e in
    omega arith)
one_held_result (Err e) (Err f) h = ap (λ z. Err z) (one_refusal e f (ap (λ a. a.number) h))
