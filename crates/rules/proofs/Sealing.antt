-- What the key switch changes of a verdict (document 02, request 11). Unsealed nothing; sealed, the six commands that store are refused 16, and all
-- else is as it was. Which commands these are is tested on the table of commands, and follows for the rule that is found. Assumes nothing.
use mathlib.Core.Path.{◌≡◌, refl, sym, ap, ◌∙◌}
use mathlib.Core.Logic.{◌⊎◌, inl, inr}
use mathlib.Core.List.{List, [], ◌∷◌}
use mathlib.Core.Bool.{Bool, true, false, cond, ◌&&◌, ◌||◌, not}
use Prim.Native.Nat.{ℕ}
use lib.Dec.{eqb}
use borrow.Author.Tests.{eq-eqb, not-true}
use Rattle.std.specs.Prelude.{Option, Some, None}
use Rattle.laws.specs.Checks.{check, judged, all, among}
use Rattle.laws.proofs.Tests.{never, all_among}
use Rattle.laws.proofs.Checks.{judged_either}
use Rattle.image.specs.declared.cell.Cell.{Cell}
use Rattle.rules.specs.declared.rule.Act.{Act}
use Rattle.rules.specs.declared.rule.Act.TheVariants.{Show, Sign, Store}
use Rattle.rules.specs.declared.rule.Rule.{Rule}
use Rattle.rules.specs.declared.switch.Switch.{Switch}
use Rattle.rules.specs.declared.switch.Switch.TheVariants.{Unsealed, Sealed}
use Rattle.rules.specs.Order.{Refused, Accepted}
use Rattle.rules.specs.Rules.{byte, commands, rule_of}
use Rattle.rules.specs.Seal.{lets, writing, is_write, lets_do}
use Rattle.rules.specs.Verdict.{tried, tried_if, sought, recognised, is_found, rule_for}
use Rattle.rules.specs.Before.{tried_before, recognised_before}
use Rattle.rules.proofs.Fit.{found_tested}
use Rattle.rules.proofs.Following.{accepted_passes, accepted_past, recognised_known, recognised_follows}

-- ---- unsealed

-- as it was before there was a switch
pub unsealed_recognises : (a : ℕ) (c : List ℕ) → recognised Unsealed a c ≡ recognised_before a c
unfolding recognised sought lets judged
unsealed_recognises a c = ap (judged Refused (check 7 (eqb (byte c 1) a) ∷ [])) (same (rule_for c))
  where
    same : (x : Option Rule) → tried_if Unsealed x c ≡ tried_before x c
    same None = refl
    same (Some r) = refl

-- ---- sealed: by the command's number

-- each of the six has a rule, and none is let
barred : (k : ℕ) → is_write k ≡ true → (is_found (rule_of k commands) && not (lets Sealed k)) ≡ true
unfolding all among rule_of commands lets
barred k = all_among (λ n. is_found (rule_of n commands) && not (lets Sealed n)) k writing refl

-- whatever the body's length, numbers and values
pub write_refused : (a : ℕ) (c : List ℕ) → is_write (byte c 2) ≡ true
    → recognised Sealed a c ≡ judged Refused (check 7 (eqb (byte c 1) a) ∷ []) (Refused 16)
unfolding recognised sought judged
write_refused a c w = ap (judged Refused (check 7 (eqb (byte c 1) a) ∷ [])) (go (rule_for c) (barred (byte c 2) w))
  where
    go : (x : Option Rule) → (is_found x && not (lets Sealed (byte c 2))) ≡ true → tried_if Sealed x c ≡ Refused 16
    go None b = absurd (never b)
    go (Some r) b = rw (not-true (lets Sealed (byte c 2)) b)

-- every other command that the block serves is let
abbrev by_number : ℕ → Rule → Bool
by_number k r = is_write k || lets Sealed k

commands_by_number : all (λ l. by_number l.number l.rule) commands ≡ true
unfolding all among commands lets
commands_by_number = refl

pub others_recognised : (a : ℕ) (c : List ℕ) → is_write (byte c 2) ≡ false → recognised Sealed a c ≡ recognised Unsealed a c
unfolding recognised sought lets judged
others_recognised a c w = ap (judged Refused (check 7 (eqb (byte c 1) a) ∷ [])) (go (rule_for c) refl)
  where
    go : (x : Option Rule) → rule_for c ≡ x → tried_if Sealed x c ≡ tried_if Unsealed x c
    go None e = refl
    go (Some r) e = let t = found_tested by_number (byte c 2) r commands commands_by_number e in rw (rw w at t) refl

-- so sealing changes nothing of a verdict, or makes it a 16
pub recognised_or_16 : (a : ℕ) (c : List ℕ) → (recognised Sealed a c ≡ recognised Unsealed a c) ⊎ (recognised Sealed a c ≡ Refused 16)
unfolding recognised sought lets judged
recognised_or_16 a c = judged_either Refused (check 7 (eqb (byte c 1) a) ∷ []) _ _ (Refused 16) (go (rule_for c) (lets Sealed (byte c 2)) refl)
  where
    go : (x : Option Rule) (t : Bool) → lets Sealed (byte c 2) ≡ t → (tried_if Sealed x c ≡ tried_if Unsealed x c) ⊎ (tried_if Sealed x c ≡ Refused 16)
    go None t e = inl refl
    go (Some r) true e = inl (rw e refl)
    go (Some r) false e = inr (rw e refl)

-- ---- by what the command does

abbrev by_act : ℕ → Rule → Bool
by_act k r = cond (lets_do Sealed r.act) (lets Sealed k) (not (lets Sealed k))

commands_by_act : all (λ l. by_act l.number l.rule) commands ≡ true
unfolding all among commands lets
commands_by_act = refl

-- the code's test is the definition's
pub lets_by_act : (s : Switch) (k : ℕ) (r : Rule) → rule_of k commands ≡ Some r → lets s k ≡ lets_do s r.act
unfolding lets
lets_by_act Unsealed k r h = refl
lets_by_act Sealed k r h = go r.act (found_tested by_act k r commands commands_by_act h)
  where
    go : (a : Act) → cond (lets_do Sealed a) (lets Sealed k) (not (lets Sealed k)) ≡ true → lets Sealed k ≡ lets_do Sealed a
    go Show e = e
    go Sign e = e
    go (Store n) e = not-true (lets Sealed k) e

-- so a body for this address, with a rule, is tried or refused 16
pub switched : (s : Switch) (a : ℕ) (c : List ℕ) (r : Rule) → byte c 1 ≡ a → rule_of (byte c 2) commands ≡ Some r
    → (b : Bool) → lets_do s r.act ≡ b → cond b (tried r c) (Refused 16) ≡ recognised s a c
unfolding recognised sought judged
switched s a c r mine found b h = rw (eq-eqb _ _ mine, found, lets_by_act s (byte c 2) r found, h)

-- what is accepted is what the switch lets
pub accepted_let : {e : ℕ} {t : Act} {d : Cell} (s : Switch) (a : ℕ) (c : List ℕ) → recognised s a c ≡ Accepted e t d → lets_do s t ≡ true
unfolding recognised sought
accepted_let s a c h =
    let (r, found) = recognised_known s a c h in
    let passes = (accepted_passes _ _ (rw found at (accepted_past _ _ h))).0 in
    rw (recognised_follows s a c r h found).acts (sym (lets_by_act s (byte c 2) r found) ∙ passes)
