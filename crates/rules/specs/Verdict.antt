-- What a body is found to be: checks 7 to 11 of document 01 ("Refusal numbers"), and check 16 of document 02 (request 11), which comes after 8 and
-- before 9. Assumes nothing.
use Rattle.std.specs.Prelude.{List, [], ◌∷◌, Bool, true, false, ℕ, ◌+◌, length, eqb, Option, Some, None}
use Rattle.laws.specs.Checks.{check, judged}
use Rattle.image.specs.declared.cell.Cell.{Cell}
use Rattle.rules.specs.declared.rule.Rule.{Rule}
use Rattle.rules.specs.declared.switch.Switch.{Switch}
use Rattle.rules.specs.Order.{Verdict, Refused, Accepted}
use Rattle.rules.specs.Rules.{Command, byte, long_ok, named_by, values_ok, commands, rule_of}
use Rattle.rules.specs.Seal.{lets}

-- check 10 is that the body names something; then the values, check 11
abbrev pub tried_on : Rule → Option Cell → List ℕ → Verdict
tried_on r None c = Refused 10
tried_on r (Some d) c = judged Refused (check 11 (values_ok r.values c) ∷ []) (Accepted r.echo r.act d)

-- check 9 comes before them
unfoldable pub tried : Rule → List ℕ → Verdict
tried r c = judged Refused (check 9 (long_ok r.long (length c + 1)) ∷ []) (tried_on r (named_by r.names c) c)

-- check 8: the block serves the command; then check 16: the switch lets it, of whatever length and values
abbrev pub tried_if : Switch → Option Rule → List ℕ → Verdict
tried_if s None c = Refused 8
tried_if s (Some r) c = judged Refused (check 16 (lets s (byte c 2)) ∷ []) (tried r c)

unfoldable pub sought : Switch → List Command → List ℕ → Verdict
sought s ls c = tried_if s (rule_of (byte c 2) ls) c

-- check 7: a block answers to its own address, and looks at nothing else of its image
unfoldable pub recognised : Switch → ℕ → List ℕ → Verdict
recognised s a c = judged Refused (check 7 (eqb (byte c 1) a) ∷ []) (sought s commands c)

-- what a verdict gives as the number: 0 if the body is accepted
abbrev pub verdict_number : Verdict → ℕ
verdict_number (Refused n) = n
verdict_number (Accepted e a d) = 0

-- ---- checks 8 to 11 as tests of their own: 9 to 11 ask nothing where 8 fails, since there is no rule to ask by. Check 16 is `lets`

abbrev pub is_found : Option Rule → Bool
is_found None = false
is_found (Some r) = true

abbrev pub is_named : Option Cell → Bool
is_named None = false
is_named (Some d) = true

-- a test by the rule of the body's command, if there is one
abbrev pub if_found : Option Rule → (Rule → Bool) → Bool
if_found None t = true
if_found (Some r) t = t r

abbrev pub rule_for : List ℕ → Option Rule
rule_for c = rule_of (byte c 2) commands

-- check 8: the command is served
unfoldable pub is_served : List ℕ → Bool
is_served c = is_found (rule_for c)

-- check 9: the body has its command's length, checksum included
unfoldable pub length_fits : List ℕ → Bool
length_fits c = if_found (rule_for c) (λ r. long_ok r.long (length c + 1))

-- check 10: channel, table, part and row count name something
unfoldable pub names_one : List ℕ → Bool
names_one c = if_found (rule_for c) (λ r. is_named (named_by r.names c))

-- check 11: the values are inside their rules
unfoldable pub values_fit : List ℕ → Bool
values_fit c = if_found (rule_for c) (λ r. values_ok r.values c)
