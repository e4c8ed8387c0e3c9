-- What passes the checks of its command's rule fits, as every command does. Assumes nothing.
use mathlib.Core.Path.{◌≡◌}
use Rattle.std.specs.Prelude.{Some}
use Rattle.std.proofs.Common.{rules}
use Rattle.rules.specs.Order.{Accepted}
use Rattle.rules.specs.Rules.{byte, commands, rule_of}
use Rattle.rules.specs.Verdict.{tried}
use Rattle.rules.proofs.Fit.{found_fits}
use Rattle.rules.proofs.verdict.recognise.Goals as goal

pub invariant_of-result : goal.invariant_of-result
invariant_of-result c =
    let r = c.in_ok-rule.rule in
    let found : rule_of (byte c.args.body.now 2) commands ≡ Some r = search rules in
    let passed : tried r c.args.body.now ≡ Accepted r.echo r.act c.in_ok-cell.cell = search rules in
    record { fits = rw passed at (found_fits (byte c.args.body.now 2) r c.args.body.now found) }
