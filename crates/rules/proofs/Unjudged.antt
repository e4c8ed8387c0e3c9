-- Check 11 asks nothing of ten commands, all but 53, 62, 76 and 77: tested on the table of commands, then by the rule that is found. Assumes nothing.
use mathlib.Core.Path.{◌≡◌, refl}
use mathlib.Core.Logic.{◌≢◌}
use mathlib.Core.List.{List}
use mathlib.Core.Bool.{Bool, true, false, cond, ◌||◌}
use Prim.Native.Nat.{ℕ}
use lib.Dec.{eqb}
use borrow.Author.Tests.{ne_eqb}
use Rattle.std.specs.Prelude.{Option, Some, None}
use Rattle.laws.specs.Checks.{all}
use Rattle.laws.proofs.Tests.{never}
use Rattle.rules.specs.declared.rule.Rule.{Rule}
use Rattle.rules.specs.declared.rule.Values.{Values}
use Rattle.rules.specs.declared.rule.Values.TheVariants as V'
use Rattle.rules.specs.Rules.{byte, values_ok, commands}
use Rattle.rules.specs.Verdict.{if_found, rule_for, values_fit}
use Rattle.rules.proofs.Fit.{found_tested}

abbrev judges : Values → Bool
judges V'.Anything = false
judges V'.Constants = true
judges V'.Rows = true
judges V'.Mode = true
judges V'.Clock = true

abbrev by_four : ℕ → Values → Bool
by_four k s = cond (judges s) (eqb k 53 || (eqb k 62 || (eqb k 76 || eqb k 77))) true

commands_by_four : all (λ l. by_four l.number l.rule.values) commands ≡ true
unfolding all commands
commands_by_four = refl

pub others_unjudged : (c : List ℕ) → byte c 2 ≢ 53 → byte c 2 ≢ 62 → byte c 2 ≢ 76 → byte c 2 ≢ 77 → values_fit c ≡ true
unfolding values_fit
others_unjudged c g h i j = go (rule_for c) refl
  where
    none : by_four (byte c 2) V'.Rows ≡ true → ⊥
    none e = never (rw (ne_eqb (byte c 2) 53 g, ne_eqb (byte c 2) 62 h, ne_eqb (byte c 2) 76 i, ne_eqb (byte c 2) 77 j) at e)

    by : (s : Values) → by_four (byte c 2) s ≡ true → values_ok s c ≡ true
    by V'.Anything e = refl
    by V'.Constants e = absurd (none e)
    by V'.Rows e = absurd (none e)
    by V'.Mode e = absurd (none e)
    by V'.Clock e = absurd (none e)

    go : (x : Option Rule) → rule_for c ≡ x → if_found x (λ r. values_ok r.values c) ≡ true
    go None e = refl
    go (Some r) e = by r.values (found_tested (λ k x. by_four k x.values) (byte c 2) r commands commands_by_four e)
