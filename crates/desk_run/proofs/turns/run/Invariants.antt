-- The loop keeps what is still to be served and laid. Assumes nothing.
use mathlib.Core.Path.{◌≡◌}
use Prim.Native.Nat.{◌-◌, ◌≤◌}
use lib.ListN.{length, drop}
use Rattle.text.specs.Cut.{pieces}
use Rattle.image.specs.Version.{current}
use Rattle.desk_run.specs.Desk.{ran}
use Rattle.desk_run.proofs.turns.run.Given as goal

abbrev pub invariant-loop-next : goal.invariant-loop-next
invariant-loop-next l = record {
  fits : l.end.at ≤ length l.text;
  text_length : length l.text ≡ length l.initial.text;
  image_length : length l.m ≡ length l.initial.m;
  rest : ran current l.next l.end.at l.m l.text (pieces (drop l.next l.input)) ≡ ran current l.from 0 l.initial.m l.initial.text (pieces (drop l.from l.input));
}

abbrev pub decreases-loop-next : goal.decreases-loop-next
decreases-loop-next l = length l.input - l.next
