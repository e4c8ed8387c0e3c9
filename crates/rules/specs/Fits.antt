-- What the fourteen rules give of a verdict, and the laws above ask for: an act that fits its stretch, a reply that fits a frame. Definitions, and that
-- there is one way to fit, by which an order can say that it does. Assumes nothing.
use mathlib.Core.Bool.{Bool-set}
use native.Mathlib.Nat.{ℕ_set}
use Rattle.std.specs.Coded.{le_prop}
use Rattle.std.specs.Prelude.{◌≡◌, true, List, ℕ, ◌+◌, ◌≤◌, ◌<◌, length, drop, Some}
use Rattle.image.specs.declared.cell.Cell.{Cell}
use Rattle.image.specs.Cell.{size, is_cell, is_item}
use Rattle.storing.specs.Stored.{FitStore}
use Rattle.rules.specs.declared.rule.Act.{Act}
use Rattle.rules.specs.declared.rule.Act.TheVariants.{Show, Sign, Store}
use Rattle.rules.specs.declared.rule.Rule.{Rule}
use Rattle.rules.specs.Order.{Verdict, Refused, Accepted}
use Rattle.rules.specs.Rules.{named_by}

-- what is shown or stored is a cell, what is signed has a signature
abbrev pub Fit : Act → Cell → List ℕ → Type 0
Fit Show d c = is_cell d ≡ true
Fit Sign d c = is_item d ≡ true
Fit (Store k) d c = FitStore d (drop k c)

-- the most that an act says
abbrev pub longest : Act → Cell → ℕ
longest Show d = size d
longest Sign d = 2
longest (Store k) d = 0

-- an accepted body's act fits, the body has the bytes that are echoed, and the reply has room in a frame
pub record FitAccepted (e : ℕ) (a : Act) (d : Cell) (c : List ℕ) : Type 0 where
  pub act : Fit a d c
  pub echoed : 2 + e ≤ length c
  pub reply : e + longest a d ≤ 130

FitStore-prop : (d : Cell) (bytes : List ℕ) → IsProp (FitStore d bytes)
FitStore-prop d bytes x y =
    λ i. record { cell = Bool-set _ _ x.cell y.cell i; counts = ℕ_set _ _ x.counts y.counts i; room = le_prop x.room y.room i }

Fit-prop : (a : Act) (d : Cell) (c : List ℕ) → IsProp (Fit a d c)
Fit-prop Show d c = Bool-set _ _
Fit-prop Sign d c = Bool-set _ _
Fit-prop (Store k) d c = FitStore-prop d (drop k c)

pub FitAccepted-prop : (e : ℕ) (a : Act) (d : Cell) (c : List ℕ) → IsProp (FitAccepted e a d c)
FitAccepted-prop e a d c x y =
    λ i. record { act = Fit-prop a d c x.act y.act i; echoed = le_prop x.echoed y.echoed i; reply = le_prop x.reply y.reply i }

abbrev pub FitVerdict : Verdict → List ℕ → Type 0
FitVerdict (Refused n) c = Unit {0}
FitVerdict (Accepted e a d) c = FitAccepted e a d c

-- a refusal's number is not 0, and has one digit or two
abbrev pub IsRefusal : ℕ → Type 0
IsRefusal n = (0 < n) × (n < 100)

abbrev pub Numbered : Verdict → Type 0
Numbered (Refused n) = IsRefusal n
Numbered (Accepted e a d) = Unit {0}

-- what is echoed, done and named is what a rule says
pub record Follows (e : ℕ) (a : Act) (d : Cell) (r : Rule) (c : List ℕ) : Type 0 where
  pub echoes : e ≡ r.echo
  pub acts : a ≡ r.act
  pub names : named_by r.names c ≡ Some d
