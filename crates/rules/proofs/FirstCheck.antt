-- A verdict's number is that of the first of its checks that fails, 7 to 11 with 16 behind 8: by the rule that is found, and the cell that it names.
-- Assumes nothing.
use mathlib.Core.Path.{◌≡◌, refl, ap, ◌∙◌}
use mathlib.Core.List.{List, [], ◌∷◌}
use Prim.Native.Nat.{ℕ, ◌+◌}
use lib.ListN.{length}
use lib.Dec.{eqb}
use Rattle.std.specs.Prelude.{Option, Some, None}
use Rattle.laws.specs.Checks.{Check, check, judged, first_failing}
use Rattle.laws.proofs.Checks.{judged-map}
use Rattle.image.specs.declared.cell.Cell.{Cell}
use Rattle.rules.specs.declared.rule.Rule.{Rule}
use Rattle.rules.specs.declared.switch.Switch.{Switch}
use Rattle.rules.specs.Order.{Refused, Accepted}
use Rattle.rules.specs.Rules.{byte, long_ok, named_by, values_ok, commands}
use Rattle.rules.specs.Seal.{lets}
use Rattle.rules.specs.Verdict.{tried_on, tried, tried_if, sought, recognised, verdict_number, is_named, rule_for, is_served, length_fits, names_one, values_fit}

-- checks 8 to 11, with 16: of a body past the address
abbrev command_checks : Switch → List ℕ → List Check
command_checks s c =
    check 8 (is_served c)
    ∷ (check 16 (lets s (byte c 2))
    ∷ (check 9 (length_fits c)
    ∷ (check 10 (names_one c)
    ∷ (check 11 (values_fit c)
    ∷ []))))

-- all checks of a body at a block of address a, as its switch stands
abbrev pub body_checks : Switch → ℕ → List ℕ → List Check
body_checks s a c = check 7 (eqb (byte c 1) a) ∷ command_checks s c

pub recognised_number : (s : Switch) (a : ℕ) (c : List ℕ) → verdict_number (recognised s a c) ≡ first_failing (body_checks s a c)
unfolding recognised sought tried is_served length_fits names_one values_fit judged first_failing
recognised_number s a c =
    judged-map verdict_number Refused (check 7 (eqb (byte c 1) a) ∷ []) (sought s commands c)
    ∙ ap (λ (n : ℕ). judged (λ n. n) (check 7 (eqb (byte c 1) a) ∷ []) n) (by_rule (rule_for c) refl)
  where
    by_name : (r : Rule) (n : Option Cell) → verdict_number (tried_on r n c) ≡ first_failing (check 10 (is_named n) ∷ (check 11 (values_ok r.values c) ∷ []))
    by_name r None = refl
    by_name r (Some d) = judged-map verdict_number Refused (check 11 (values_ok r.values c) ∷ []) (Accepted r.echo r.act d)

    by_rule : (x : Option Rule) → rule_for c ≡ x → verdict_number (tried_if s x c) ≡ first_failing (command_checks s c)
    by_rule None f = rw f
    by_rule (Some r) f =
        let past = check 16 (lets s (byte c 2)) ∷ (check 9 (long_ok r.long (length c + 1)) ∷ []) in
        judged-map verdict_number Refused past (tried_on r (named_by r.names c) c)
        ∙ rw f (ap (λ (n : ℕ). judged (λ n. n) past n) (by_name r (named_by r.names c)))
