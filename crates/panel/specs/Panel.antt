-- What the panel's host gives and is given (document 02, requests 9 and 11): the position of the key switch as a number, and each promise with the
-- number that is returned and those that are lent. Assumes nothing.
use Rattle.std.specs.Prelude.{◌≡◌, List, ℕ, zero, suc}
use Rattle.image.specs.Version.{current}
use Rattle.image.specs.Held.{held_parts, HeldAnswer}
use Rattle.command.specs.Reply.{Serves}
use Rattle.izk.specs.Heard.{heard}
use Rattle.izk.specs.Block.{served}
use Rattle.rules.specs.declared.switch.Switch.{Switch}
use Rattle.rules.specs.declared.switch.Switch.TheVariants.{Unsealed, Sealed}

-- 0 is unsealed, and every other number is sealed: one that the host did not mean to give keeps the image as it is
unfoldable pub switch_of : ℕ → Switch
switch_of zero = Unsealed
switch_of (suc n) = Sealed

-- a call with k for the switch returned r and left n in the lent length, with an image and an output, as it is to
abbrev pub ServesPanel : ℕ → List ℕ → List ℕ → List ℕ → ℕ → ℕ → List ℕ → List ℕ → Type 0
ServesPanel k f m out r n m' o = Serves (served (heard (switch_of k)) current f m out) (record { number = r; len = n }) m' o

-- a question for table t returned r and left p and q in the lent numbers, as it is to
abbrev pub TellsPanel : List ℕ → ℕ → ℕ → ℕ → ℕ → Type 0
TellsPanel m t r p q = ◌≡◌ {A = HeldAnswer} (record { number = r; parts = p; missing = q }) (held_parts current m t)
