-- What a body was found to be before there was a key switch: checks 7 to 11 of document 01. The block does not go by it; a law says that unsealed it
-- comes to the same. Assumes nothing.
use Rattle.std.specs.Prelude.{List, [], ◌∷◌, ℕ, eqb, Option, Some, None}
use Rattle.laws.specs.Checks.{check, judged}
use Rattle.rules.specs.declared.rule.Rule.{Rule}
use Rattle.rules.specs.Order.{Verdict, Refused}
use Rattle.rules.specs.Rules.{byte}
use Rattle.rules.specs.Verdict.{tried, rule_for}

abbrev pub tried_before : Option Rule → List ℕ → Verdict
tried_before None c = Refused 8
tried_before (Some r) c = tried r c

abbrev pub recognised_before : ℕ → List ℕ → Verdict
recognised_before a c = judged Refused (check 7 (eqb (byte c 1) a) ∷ []) (tried_before (rule_for c) c)
