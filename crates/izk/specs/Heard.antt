-- What hears a frame, and what is answered: checks 3 to 11 of document 01 ("Refusal numbers"), with check 16 of document 02 (request 11) behind 8,
-- then the act. Assumes nothing.
use Rattle.std.specs.Prelude.{◌≡◌, List, ℕ, Some}
use Rattle.laws.specs.Checks.{judged}
use Rattle.frame.specs.Apart.{contents_of, frame_checks}
use Rattle.image.specs.declared.cell.Cell.{Cell}
use Rattle.image.specs.declared.version.Version.{Version}
use Rattle.image.specs.Usable.{address}
use Rattle.rules.specs.declared.rule.Act.{Act}
use Rattle.rules.specs.declared.rule.Rule.{Rule}
use Rattle.rules.specs.declared.switch.Switch.{Switch}
use Rattle.rules.specs.Order.{Verdict, Refused, Accepted}
use Rattle.rules.specs.Rules.{byte, commands, rule_of}
use Rattle.rules.specs.Verdict.{recognised}
use Rattle.rules.specs.Before.{recognised_before}
use Rattle.rules.specs.Fits.{FitVerdict, Numbered, Follows}
use Rattle.command.specs.Reply.{Outcome, done}

-- what a block of an address finds a frame to be. It rests on these two, and on nothing else of the image
abbrev pub Hearing : Type 0
Hearing = ℕ → List ℕ → Verdict

-- the block's, as its key switch stands: the frame's own checks come first, then those of its body
unfoldable pub heard : Switch → Hearing
heard s a f = judged Refused (frame_checks f) (recognised s a (contents_of f))

-- what was heard before there was a switch: a law says that unsealed it is the same
abbrev pub heard_before : Hearing
heard_before a f = judged Refused (frame_checks f) (recognised_before a (contents_of f))

-- what the laws of serving ask of a hearing, and all that they know of it
pub record Lawful (ear : Hearing) : Type 0 where
  pub fits : (a : ℕ) (f : List ℕ) → FitVerdict (ear a f) (contents_of f)
  pub numbered : (a : ℕ) (f : List ℕ) → Numbered (ear a f)
  pub known : {e : ℕ} {t : Act} {d : Cell} (a : ℕ) (f : List ℕ) → ear a f ≡ Accepted e t d
      → (r : Rule) × (rule_of (byte (contents_of f) 2) commands ≡ Some r)
  pub follows : {e : ℕ} {t : Act} {d : Cell} (a : ℕ) (f : List ℕ) (r : Rule) → ear a f ≡ Accepted e t d
      → rule_of (byte (contents_of f) 2) commands ≡ Some r → Follows e t d r (contents_of f)

-- a frame, on a usable image
unfoldable pub answered : Hearing → Version → List ℕ → List ℕ → Outcome
answered ear v f m = done v (ear (address m) f) (contents_of f) m
