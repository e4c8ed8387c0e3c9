-- The rest of the input begins where the piece does, and the place of its first 0Ah is told. Assumes nothing.
use mathlib.Core.Path.{◌≡◌, sym, ◌∙◌}
use Prim.Native.Nat.{◌-◌}
use native.Mathlib.Omega.{arith}
use lib.ListN.{length, drop, length-drop}
use lib.Dec.{eqb}
use lib.Seq.{take_all}
use Rattle.std.specs.List.{position}
use Rattle.text.proofs.Cuts.{end_found, end_nowhere}
use Rattle.text.proofs.cut.piece_end.Goals.{After-first_end}
use Rattle.text.proofs.cut.piece_end.Goals as goal

-- the rest is all that stands from there on
found : (c : After-first_end) → position (λ b. eqb b 10) (drop c.min-start.result c.args.input.now) ≡ c.first_end.result
found c =
    let rest = drop c.min-start.result c.args.input.now in
    let whole = take_all (length c.args.input.now - c.min-start.result) rest (omega (arith, length-drop c.min-start.result c.args.input.now)) in
    rw whole at (sym c.first_end.ensures)

pub returns-in-Some : goal.returns-in-Some
returns-in-Some c =
    sym (end_found _ _ _ c.min-start.ensures _ (found (goal.at.returns-in-Some c).After-first_end ∙ c.in-Some.is))

pub returns-in-None : goal.returns-in-None
returns-in-None c =
    sym (end_nowhere _ _ _ c.min-start.ensures (found (goal.at.returns-in-None c).After-first_end ∙ c.in-None.is))
