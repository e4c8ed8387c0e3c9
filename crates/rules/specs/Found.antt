-- A verdict as the code returns it: an order, or a refusal. Apart from the verdict itself, since an order says by it that its body fits. Assumes nothing.
use Rattle.std.specs.Prelude.{List, [], ℕ, Result, Ok, Err}
use Rattle.output.specs.declared.refusal.Refusal.{Refusal}
use Rattle.output.specs.Refusal.{number_of}
use Rattle.image.specs.declared.cell.Cell.{Cell}
use Rattle.rules.specs.declared.order.Order.{Order}
use Rattle.rules.specs.declared.rule.Rule.{Rule}
use Rattle.rules.specs.Order.{Verdict, Refused, Accepted}

abbrev pub accepted : Order → Verdict
accepted o = Accepted o.echo o.act o.cell

abbrev pub verdict_of : Result Order Refusal → Verdict
verdict_of (Ok o) = accepted o
verdict_of (Err e) = Refused (number_of e)

-- the body that is to be replied to; a refused one is not looked at any more
abbrev pub body_of : Result Order Refusal → List ℕ
body_of (Ok o) = o.body.now
body_of (Err e) = []

-- of a rule, once the cell that it is done with is found
abbrev pub verdict_by : Rule → Result Cell Refusal → Verdict
verdict_by r (Ok d) = Accepted r.echo r.act d
verdict_by r (Err e) = Refused (number_of e)
