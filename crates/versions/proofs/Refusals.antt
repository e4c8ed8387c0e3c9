-- When a move is refused, and what it leaves then. Assumes nothing.
use mathlib.Core.Path.{◌≡◌, refl}
use mathlib.Core.Logic.{◌≢◌}
use mathlib.Core.List.{List}
use mathlib.Core.Bool.{Bool, true, false}
use Prim.Native.Nat.{ℕ}
use native.Mathlib.Decide.{ℕ_discrete}
use lib.ListN.{length}
use borrow.Author.Tests.{eq-eqb, ne_eqb}
use Rattle.laws.specs.Checks.{judged}
use Rattle.image.specs.declared.version.Version.{Version}
use Rattle.image.specs.Version.{image_length}
use Rattle.image.specs.Usable.{usable}
use Rattle.image.specs.Made.{unmade}
use Rattle.versions.specs.Moved.{in_version, other, moved}

module _ (v : Version) (m t : List ℕ) where
  -- a source that is not usable in its version
  pub no_source : usable (other v) m ≡ false → moved v m t ≡ unmade t 1
  unfolding moved judged
  no_source u = rw u

  -- a target of another length, whatever the source is
  pub no_target : length t ≢ image_length v → moved v m t ≡ unmade t 1
  unfolding moved judged
  no_target l = go (usable (other v) m) refl
    where
      go : (b : Bool) → usable (other v) m ≡ b → moved v m t ≡ unmade t 1
      go false u = no_source u
      go true u = rw (u, ne_eqb (length t) (image_length v) l)

  -- and nothing else is refused
  pub both-fit : usable (other v) m ≡ true → length t ≡ image_length v → moved v m t ≡ record { number = 0; image = in_version v m }
  unfolding moved judged
  both-fit u l = rw (u, eq-eqb (length t) (image_length v) l)

  -- so it is done, or refused 1 with the target as it was
  pub data Ended : Type 0 where
    made : usable (other v) m ≡ true → length t ≡ image_length v → moved v m t ≡ record { number = 0; image = in_version v m } → Ended
    kept : moved v m t ≡ unmade t 1 → Ended

  pub ended : Ended
  ended = go (usable (other v) m) refl (ℕ_discrete (length t) (image_length v))
    where
      go : (b : Bool) → usable (other v) m ≡ b → Dec (length t ≡ image_length v) → Ended
      go false u l = kept (no_source u)
      go true u (no l) = kept (no_target l)
      go true u (yes l) = made u l (both-fit u l)
