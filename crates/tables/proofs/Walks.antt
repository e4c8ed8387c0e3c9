-- What the library's walks over numbers answer, told by a test at each number. Assumes nothing.
use mathlib.Core.Path.{◌≡◌, refl, sym, ◌∙◌}
use mathlib.Core.List.{List}
use mathlib.Core.Bool.{Bool, true, false, not}
use Prim.Native.Nat.{ℕ, ◌+◌, ◌-◌, ◌≤◌, ◌<◌}
use native.Mathlib.Omega.{arith}
use lib.ListN.{length}
use denote.Ref.{Bor}
use denote.Param.Members.{Mut, Called}
use borrow.Author.Tests.{not-true, not-false}
use Rattle.std.specs.Bool.{⊤, MatchBool}
use Rattle.std.specs.Fn.{CalledAt}
use Rattle.std.specs.Iterator.{YieldsThen}
use Rattle.std.specs.List.{range_with_len, FoldsTo, AllWithin, HoldsAt}
use Rattle.std.specs.Option.{MatchOption, unwrap_or}
use Rattle.std.specs.declared.option.Option.{Option}
use Rattle.std.specs.declared.option.Option.TheVariants.{None, Some}
use Rattle.std.specs.declared.ops.Range.{Range}
use Rattle.std.proofs.iter.Yields.{nat_range_steps}
use Rattle.std.proofs.lemmas.Iterator.{YieldsList-from_range, cases_from_all, first_from_Range}
use Rattle.std.proofs.lemmas.List.FromFn.{length-range_with_len, get_or-range_with_len}
use Rattle.laws.specs.Checks.{every}
use Rattle.laws.proofs.Tests.{every_of, every_fails}

-- `all` from a up to b, by a closure whose call gives the test t: d has the same tests, counted from 0
pub every_from_all : {F : Type 0} {g : Mut F (ℕ × Unit {0}) Bool} (a b : ℕ) (u : Range ℕ) (f : F) (r : Bool) (t d : ℕ → Bool)
    → ((k : ℕ) → t (a + k) ≡ d k)
    → (xs : List ℕ) × (o : Option ℕ) × (j : F) × YieldsThen nat_range_steps (record { start = a; end = b }) xs o u × FoldsTo (λ p x q. Called g p (x, tt) true q) f xs j
    × MatchOption o (r ≡ true) (λ x. (r ≡ false) × ((h : F) × Called g j (x, tt) false h))
    → ((x : ℕ) (v : Bool) (q : F) → Called g f (x, tt) v q → (q ≡ f) × (v ≡ t x))
    → r ≡ every d (b - a)
every_from_all {F} {g} a b u f r t d same ran step =
    go r
    (cases_from_all u f r (λ x. t x ≡ true) (λ x. t x ≡ false) ran (YieldsList-from_range a b (b - a) refl refl)
    (λ x q k. let p = step x true q k in (p.0, sym p.1))
    (λ x q k. sym (step x false q k).1))
  where
    n : ℕ
    n = b - a

    xs : List ℕ
    xs = range_with_len a n

    long : length xs ≡ n
    long = length-range_with_len a n

    go : (r : Bool) → MatchBool r (AllWithin (λ x. t x ≡ true) xs 0 (length xs)) ((k : ℕ) × (k < length xs) × HoldsAt (λ x. t x ≡ false) xs k)
        → r ≡ every d n
    go true h =
        sym (every_of d n (λ i l. sym (same i) ∙ (rw (get_or-range_with_len a n i 0 l) at (h i 0 (omega arith) (omega (arith, long))))))
    go false (k, l, h) =
        let below : k < n = omega (arith, long) in
        sym (every_fails d n k below (sym (same k) ∙ (rw (get_or-range_with_len a n k 0 below) at (h 0))))

-- `find` below n, by a closure whose call gives that the test t fails, with n where it finds none: the tests below what is found pass, and its own fails
pub every_to_found : {F : Type 0} {g : Mut F (Bor ℕ × Unit {0}) Bool} (n : ℕ) (u : Range ℕ) (f : F) (r : Option ℕ) (t : ℕ → Bool)
    → (xs : List ℕ) × (j : F) × YieldsThen nat_range_steps (record { start = 0; end = n }) xs r u × FoldsTo (λ p x q. CalledAt g p x false q) f xs j
    × MatchOption r ⊤ (λ x. (h : F) × CalledAt g j x true h)
    → ((x : ℕ) (v : Bool) (q : F) → CalledAt g f x v q → (q ≡ f) × (v ≡ not (t x)))
    → (unwrap_or r n ≤ n) × (every t (unwrap_or r n) ≡ true) × (unwrap_or r n < n → t (unwrap_or r n) ≡ false)
every_to_found n u f r t ran step =
    go r
    (first_from_Range (record { start = 0; end = n }) u f r (λ x. t x ≡ false) (λ x. t x ≡ true) ran
    (λ x q k. not-true (t x) (sym (step x true q k).1))
    (λ x q k. let p = step x false q k in (p.0, not-false (t x) (sym p.1))))
  where
    go : (r : Option ℕ) → MatchOption r ((k : ℕ) → 0 ≤ k → k < n → t k ≡ true) (λ i. (0 ≤ i) × (i < n) × (t i ≡ false) × ((k : ℕ) → 0 ≤ k → k < i → t k ≡ true))
        → (unwrap_or r n ≤ n) × (every t (unwrap_or r n) ≡ true) × (unwrap_or r n < n → t (unwrap_or r n) ≡ false)
    go None h = (omega arith, every_of t n (λ k l. h k (omega arith) l), λ l. absurd (let z : ⊥ = omega arith in z))
    go (Some i) (a, b, c, d) = (omega arith, every_of t i (λ k l. d k (omega arith) l), λ l. c)
