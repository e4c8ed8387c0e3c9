-- As long as no 3Ah has come, a record adds what comes to what it held, or waits: any frame that it hands out then is that. Assumes nothing.
use mathlib.Core.Path.{◌≡◌, sym, ◌∙◌}
use mathlib.Core.Logic.{◌≢◌, ◌⊎◌, inl, inr}
use mathlib.Core.List.{List, [], ◌∷◌, ◌++◌, append_assoc, append-nil}
use mathlib.Core.Bool.{true, false}
use mathlib.Core.Option.{Option, some, none, some-injective, none-ne-some}
use Prim.Native.Nat.{ℕ, ◌+◌, ◌<◌}
use lib.ListN.{length, get_or, take}
use Rattle.laws.specs.Checks.{among}
use Rattle.laws.proofs.Tests.{neither}
use Rattle.reorder.specs.Reorder.{outcomes}
use Rattle.listener.specs.declared.Listener.{Listener}
use Rattle.listener.specs.declared.Listened.{Listened}
use Rattle.listener.specs.Listening.{listened}
use Rattle.listener.specs.Handing.{Waits, gathered, handed, takes}
use Rattle.listener.proofs.Shapes.{among-append, not_first}
use Rattle.listener.proofs.Gathering.{Holds, holds_waits, waits_or_holds, After, ends, goes_on, drops, after, waits_stays}
use Rattle.listener.proofs.Along.{told_at}

-- it gathers g, or waits
abbrev Keeps : List ℕ → Listener → Type 0
Keeps g l = Waits l ⊎ Holds g true l

-- what a byte did, g being all that may then be held
abbrev Did : List ℕ → Listened → Type 0
Did g r = ((f : List ℕ) → handed r ≡ some f → f ≡ g) × Keeps g r.listener

next : (g : List ℕ) (l : Listener) (b : ℕ) → b ≢ 58 → Keeps g l → Did (g ++ (b ∷ [])) (listened l b)
next g l b other (inl still) = let e = waits_stays l still b other in rw (e.0, e.1) (λ f n. absurd (none-ne-some f n), inl still)
next g l b other (inr h) = by (after g l h b other)
  where
    by : After g b (listened l b) → Did (g ++ (b ∷ [])) (listened l b)
    by (ends low e o k) = (λ f n. some-injective f (g ++ (b ∷ [])) (sym n ∙ o), inl (holds_waits (g ++ (b ∷ [])) (listened l b).listener k))
    by (goes_on low e o k) = (λ f n. absurd (none-ne-some f (sym o ∙ n)), inr k)
    by (drops full o still) = (λ f n. absurd (none-ne-some f (sym o ∙ n)), inl still)

module _ (l : Listener) (room : length l.room ≡ 269) where
  -- p came, and m is left
  abbrev Came : List ℕ → Listener → Type 0
  Came p m = among 58 p ≡ false → Keeps (gathered l ++ p) m

  -- what the last of p handed out
  abbrev Told : List ℕ → Option (List ℕ) → Type 0
  Told p o = among 58 p ≡ false → (f : List ℕ) → o ≡ some f → f ≡ gathered l ++ p

  each : (p : List ℕ) (m : Listener) (b : ℕ) → Came p m → Told (p ++ (b ∷ [])) (takes m b).0 × Came (p ++ (b ∷ [])) (takes m b).1
  each p m b i = (λ n. (by n).0, λ n. (by n).1)
    where
      by : among 58 (p ++ (b ∷ [])) ≡ false → Did (gathered l ++ (p ++ (b ∷ []))) (listened m b)
      by n =
          let t = neither (among 58 p) (among 58 (b ∷ [])) (sym (among-append 58 p (b ∷ [])) ∙ n) in
          rw (← append_assoc) (next (gathered l ++ p) m b (not_first 58 b [] t.1).0 (i t.0))

  -- what is handed out before any 3Ah is what the record held and all that came
  pub handed_held : (s : List ℕ) (k : ℕ) → k < length s → among 58 (take (k + 1) s) ≡ false → (f : List ℕ) → get_or (outcomes takes l s) k none ≡ some f
      → f ≡ gathered l ++ take (k + 1) s
  handed_held s k h = told_at takes Came Told each none s [] l (λ n. rw append-nil (waits_or_holds l room)) k h
