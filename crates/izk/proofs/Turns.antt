-- Frames served one after the other, each with any output: a turn is refused or accepted; what holds of no turn, and of a turn before any list
-- that it holds of, holds of every list; and a usable image stays so. For every version of the image and every lawful hearing, the switch turned or not.
-- Assumes nothing.
use mathlib.Core.Path.{◌≡◌, refl}
use mathlib.Core.List.{List, [], ◌∷◌}
use mathlib.Core.Bool.{true}
use Prim.Native.Nat.{ℕ, ◌<◌}
use Rattle.frame.specs.Apart.{contents_of}
use Rattle.image.specs.declared.cell.Cell.{Cell}
use Rattle.image.specs.declared.version.Version.{Version}
use Rattle.image.specs.Usable.{usable, address}
use Rattle.rules.specs.declared.rule.Act.{Act}
use Rattle.rules.specs.declared.switch.Switch.{Switch}
use Rattle.rules.specs.Order.{Verdict, Refused, Accepted}
use Rattle.rules.specs.Fits.{Numbered}
use Rattle.command.specs.Reply.{refusal, done, sent}
use Rattle.izk.specs.Heard.{answered, Hearing, Lawful}
use Rattle.izk.specs.Since.{Turn, in_turn, left}
use Rattle.izk.proofs.Serving.{Way, early, through, way, usable_stays}

module _ (ear : Switch → Hearing) (ok : (s : Switch) → Lawful (ear s)) (v : Version) where
  -- ---- one turn

  pub data Went (m : List ℕ) (x : Turn) : Type 0 where
    refused : (n : ℕ) → 0 < n → in_turn ear v m x ≡ sent (refusal n m) x.out → Went m x
    accepted : usable v m ≡ true → (e : ℕ) (a : Act) (d : Cell) → ear x.switch (address m) x.frame ≡ Accepted e a d
        → in_turn ear v m x ≡ sent (done v (Accepted e a d) (contents_of x.frame) m) x.out → Went m x

  pub went : (m : List ℕ) (x : Turn) → Went m x
  unfolding answered
  went m x = go (way (ear x.switch) v x.frame m x.out)
    where
      by : usable v m ≡ true → (r : Verdict) → ear x.switch (address m) x.frame ≡ r → Numbered r
          → in_turn ear v m x ≡ sent (done v r (contents_of x.frame) m) x.out → Went m x
      by u (Refused n) h i e = refused n i.0 e
      by u (Accepted k a d) h i e = accepted u k a d h e

      go : Way (ear x.switch) v x.frame m x.out → Went m x
      go (early n i e) = refused n i.0 e
      go (through u r e) = by u (ear x.switch (address m) x.frame) refl ((ok x.switch).numbered (address m) x.frame) e

  -- ---- any list of turns

  -- R relates the image that a list finds, the list, and the image that it leaves
  pub by_turns : (R : List ℕ → List Turn → List ℕ → Type 0) → ((m : List ℕ) → R m [] m)
      → ((m : List ℕ) (x : Turn) (xs : List Turn) (m' : List ℕ) → R (in_turn ear v m x).image xs m' → R m (x ∷ xs) m')
      → (m : List ℕ) (xs : List Turn) → R m xs (left ear v m xs)
  unfolding left
  by_turns R none one m [] = none m
  by_turns R none one m (x ∷ xs) = one m x xs _ (by_turns R none one (in_turn ear v m x).image xs)

  pub left-usable : (m : List ℕ) (xs : List Turn) → usable v m ≡ true → usable v (left ear v m xs) ≡ true
  left-usable =
      by_turns (λ m xs m'. usable v m ≡ true → usable v m' ≡ true) (λ m u. u)
      (λ m x xs m' h u. h (usable_stays (ear x.switch) (ok x.switch) v x.frame m x.out u))
