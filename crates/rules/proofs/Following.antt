-- An accepted body is of a command that has a rule, and follows it. Assumes nothing.
use mathlib.Core.Path.{◌≡◌, refl, sym, ap, ◌∙◌}
use mathlib.Core.List.{List}
use Prim.Native.Nat.{ℕ}
use native.Mathlib.Omega.{arith}
use Rattle.std.specs.Prelude.{Option, Some, None}
use Rattle.laws.specs.Checks.{Check, judged, AllPass}
use Rattle.laws.proofs.Checks.{Judged, passed, failed, judge, judged_passed}
use Rattle.image.specs.declared.cell.Cell.{Cell}
use Rattle.rules.specs.declared.rule.Act.{Act}
use Rattle.rules.specs.declared.rule.Rule.{Rule}
use Rattle.rules.specs.declared.switch.Switch.{Switch}
use Rattle.rules.specs.Order.{Verdict, Refused, Accepted}
use Rattle.rules.specs.Rules.{byte, named_by, commands, rule_of}
use Rattle.rules.specs.Verdict.{tried_on, tried, tried_if, sought, recognised}
use Rattle.rules.specs.Fits.{Follows}

module _ {e : ℕ} {a : Act} {d : Cell} where
  -- what is accepted has passed the checks
  pub accepted_passes : (cs : List Check) (r : Verdict) → judged Refused cs r ≡ Accepted e a d → AllPass cs
  accepted_passes cs r h = go (judge cs)
    where
      go : Judged cs → AllPass cs
      go (passed p) = p
      go (failed n i g) = absurd (let z : ◌≡◌ {A = ℕ} 0 1 = cc (g Verdict Refused r) in omega arith)

  pub accepted_past : (cs : List Check) (r : Verdict) → judged Refused cs r ≡ Accepted e a d → r ≡ Accepted e a d
  accepted_past cs r h = sym (judged_passed Refused cs r (accepted_passes cs r h)) ∙ h

  pub recognised_follows : (s : Switch) (b : ℕ) (c : List ℕ) (r : Rule) → recognised s b c ≡ Accepted e a d → rule_of (byte c 2) commands ≡ Some r
      → Follows e a d r c
  unfolding recognised sought tried
  recognised_follows s b c r h l = go (named_by r.names c) refl (accepted_past _ _ (accepted_past _ _ (rw l at (accepted_past _ _ h))))
    where
      go : (n : Option Cell) → named_by r.names c ≡ n → tried_on r n c ≡ Accepted e a d → Follows e a d r c
      go None i x = absurd (let z : ◌≡◌ {A = ℕ} 0 1 = cc in omega arith)
      go (Some d') i x =
          let y : Accepted r.echo r.act d' ≡ Accepted e a d = accepted_past _ _ x in
          record { echoes = cc; acts = cc; names = i ∙ ap Some cc }

  pub recognised_known : (s : Switch) (b : ℕ) (c : List ℕ) → recognised s b c ≡ Accepted e a d → (r : Rule) × (rule_of (byte c 2) commands ≡ Some r)
  unfolding recognised sought
  recognised_known s b c h = go (rule_of (byte c 2) commands) refl (accepted_past _ _ h)
    where
      go : (x : Option Rule) → rule_of (byte c 2) commands ≡ x → tried_if s x c ≡ Accepted e a d → (r : Rule) × (rule_of (byte c 2) commands ≡ Some r)
      go None i x = absurd (let z : ◌≡◌ {A = ℕ} 0 1 = cc in omega arith)
      go (Some r) i x = (r, i)
