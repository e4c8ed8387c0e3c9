-- What an image of version 1 and one of version 2 have in common, and what is answered on either. Assumes nothing.
use Rattle.std.specs.Prelude.{◌≡◌, true, List, ℕ, ◌≤◌, ◌<◌, get_or}
use Rattle.image.specs.declared.version.Version.{Version}
use Rattle.image.specs.declared.version.Version.TheVariants.{V1, V2}
use Rattle.image.specs.Version.{image_length}
use Rattle.image.specs.Usable.{usable}
use Rattle.storing.specs.Signature.{full_sum, signature, TrueWords}
use Rattle.rules.specs.declared.rule.Act.TheVariants.{Show, Sign, Store}
use Rattle.rules.specs.declared.switch.Switch.{Switch}
use Rattle.rules.specs.Order.{Verdict, Refused, Accepted}
use Rattle.command.specs.Reply.{BuffersAfter}
use Rattle.izk.specs.Heard.{Hearing}
use Rattle.izk.specs.Since.{Turn, in_turn}

-- the same bytes from the address on, as far as version 1 goes
abbrev pub Common : List ℕ → List ℕ → Type 0
Common m n = (i : ℕ) → 5 ≤ i → i < image_length V1 → get_or m i 0 ≡ get_or n i 0

-- both are usable, each in its version, and have these bytes in common
pub record Like (m n : List ℕ) : Type 0 where
  pub first : usable V1 m ≡ true
  pub second : usable V2 n ≡ true
  pub bytes : Common m n

-- and the words of the second are true
pub record Same (m n : List ℕ) : Type 0 where
  pub like : Like m n
  pub words : TrueWords n

-- a verdict asks for no false word: only what is signed asks for one, and that is its item's
abbrev pub AsksTrue : Verdict → List ℕ → Type 0
AsksTrue (Refused k) n = Unit {0}
AsksTrue (Accepted e Show d) n = Unit {0}
AsksTrue (Accepted e Sign d) n = signature V2 d n ≡ full_sum d n
AsksTrue (Accepted e (Store k) d) n = Unit {0}

-- what a caller is told: the number, the length and the whole output
abbrev pub told : BuffersAfter → ℕ × ℕ × List ℕ
told a = (a.number, a.len, a.out)

-- of a turn, with the image that it leaves
abbrev pub asked : (Switch → Hearing) → Version → List ℕ → Turn → (ℕ × ℕ × List ℕ) × List ℕ
asked ear v m x = let a = in_turn ear v m x in (told a, a.image)
