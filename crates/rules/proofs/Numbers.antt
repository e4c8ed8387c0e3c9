-- No refusal is numbered 0, nor by more than two digits. Assumes nothing.
use mathlib.Core.List.{List, [], ◌∷◌}
use mathlib.Core.Bool.{Bool, true, false, cond}
use Prim.Native.Nat.{ℕ}
use lib.Dec.{lit<}
use Rattle.std.specs.Prelude.{Option, Some, None}
use Rattle.laws.specs.Checks.{Check, judged}
use Rattle.image.specs.declared.cell.Cell.{Cell}
use Rattle.rules.specs.declared.rule.Rule.{Rule}
use Rattle.rules.specs.declared.switch.Switch.{Switch}
use Rattle.rules.specs.Order.{Verdict, Refused, Accepted}
use Rattle.rules.specs.Rules.{byte, named_by, commands, rule_of}
use Rattle.rules.specs.Verdict.{tried_on, tried, tried_if, sought, recognised}
use Rattle.rules.specs.Fits.{IsRefusal, Numbered}

abbrev pub AllNumbered : List Check → Type 0
AllNumbered [] = Unit {0}
AllNumbered (c ∷ cs) = IsRefusal c.number × AllNumbered cs

pub judged-numbered : (cs : List Check) (r : Verdict) → AllNumbered cs → Numbered r → Numbered (judged Refused cs r)
unfolding judged
judged-numbered [] r a n = n
judged-numbered (c ∷ cs) r a n = go c.passes (judged-numbered cs r a.1 n)
  where
    go : (t : Bool) → Numbered (judged Refused cs r) → Numbered (cond t (judged Refused cs r) (Refused c.number))
    go true ih = ih
    go false ih = a.0

found_numbered : (s : Switch) (x : Option Rule) (c : List ℕ) → Numbered (tried_if s x c)
unfolding tried
found_numbered s None c = (lit< tt, lit< tt)
found_numbered s (Some r) c =
    judged-numbered _ (tried r c) ((lit< tt, lit< tt), tt) (judged-numbered _ _ ((lit< tt, lit< tt), tt) (go (named_by r.names c)))
  where
    go : (n : Option Cell) → Numbered (tried_on r n c)
    go None = (lit< tt, lit< tt)
    go (Some d) = judged-numbered _ (Accepted r.echo r.act d) ((lit< tt, lit< tt), tt) tt

pub recognised-numbered : (s : Switch) (a : ℕ) (c : List ℕ) → Numbered (recognised s a c)
unfolding recognised sought
recognised-numbered s a c = judged-numbered _ _ ((lit< tt, lit< tt), tt) (found_numbered s (rule_of (byte c 2) commands) c)
