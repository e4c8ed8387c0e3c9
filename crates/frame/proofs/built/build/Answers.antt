-- Begun, spelt and ended, the frame is written. Assumes nothing.
use mathlib.Core.Path.{◌≡◌, refl, sym, ◌∙◌}
use native.Mathlib.Omega.{arith}
use lib.ListN.{length}
use Rattle.laws.specs.Checks.{within}
use Rattle.laws.proofs.Tests.{within_is}
use Rattle.output.proofs.Outcomes.{refused}
use Rattle.frame.proofs.FrameLaid.{spells_past, frame_written}
use Rattle.frame.proofs.Answers.{in_range, built-length, built_room, built-done}
use Rattle.frame.proofs.built.build.Goals.{After-contains}
use Rattle.frame.proofs.built.build.Goals as goal

-- the range is the definition's
told : (c : After-contains) → within 2 132 (length c.args.contents.now) ≡ c.contains.result
told c =
    sym (rw (c.contains.ensures.value, c.new.ensures.start, c.new.ensures.end, c.new.ensures.exhausted) (in_range 2 132 (length c.args.contents.now)))

pub returns-then-not-contains : goal.returns-then-not-contains
returns-then-not-contains c =
    refused _ _ _ 3 (built-length _ _ (told (goal.at.returns-then-not-contains c).After-contains ∙ c.if-not-contains.true)) refl refl

pub returns-then-out-n : goal.returns-then-out-n
returns-then-out-n c =
    let n = within_is _ _ _ (told (goal.at.returns-then-out-n c).After-contains ∙ c.if-not-contains.false) in
    refused _ _ _ 2 (built_room _ _ n.0 n.1 c.if-out-n.true) refl refl

pub end-requires : goal.end-requires
end-requires c = omega (arith, c.begin-start.ensures.opened.past, spells_past c.put_all-body.ensures)

pub returns : goal.returns
returns c =
    let n = within_is _ _ _ (told (goal.at.returns c).After-contains ∙ c.if-not-contains.false) in
    rw (built-done _ _ n.0 n.1 c.if-out-n.false)
    (frame_written _ _ _ _ _ _ _ _ c.begin-start.ensures c.put_all-body.ensures c.end.ensures)
