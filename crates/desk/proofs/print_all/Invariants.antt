-- Each portion moves on, since the text has room for a line, and leaves the same image to come to; and where each one so far was written, what was
-- written, the portion and the text for the rest are the desk's text. Assumes nothing.
use Rattle.std.proofs.Common.{◌≡◌, ◌-◌, ◌≤◌, ◌++◌, ℕ, List, OnOk, length, take}
use Rattle.std.specs.Io.KnownBytes.{Appends}
use Rattle.desk_run.specs.Desk.{desk_image, desk_text}
use Rattle.desk_run.proofs.Portions.{end_image, end_text}
use Rattle.desk.proofs.print_all.Given as goal

abbrev pub invariant-loop-portion : goal.invariant-loop-portion
invariant-loop-portion g l = record {
  fits : l.portion.len ≤ length l.text;
  text_length : length l.text ≡ length l.fn.text;
  image_length : length l.m ≡ length l.fn.m;
  image : end_image l.input l.portion.from l.m ≡ desk_image l.input l.fn.m;
  said : OnOk l.written ((bytes : List ℕ) × Appends (g.W.Write.contents l.fn.output) (g.W.Write.contents l.output) bytes
      × (bytes ++ (take l.portion.len l.text ++ end_text l.input l.portion.from l.m) ≡ desk_text l.input));
}

abbrev pub decreases-loop-portion : goal.decreases-loop-portion
decreases-loop-portion g l = length l.input - l.portion.from
