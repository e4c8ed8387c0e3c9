-- What the block hears is lawful, however its switch stands: a frame's checks come before those of its body, and pass on what the body's checks gave.
-- Assumes nothing.
use lib.Dec.{lit<}
use Rattle.frame.specs.Apart.{contents_of, frame_checks}
use Rattle.rules.specs.declared.switch.Switch.{Switch}
use Rattle.rules.specs.Verdict.{recognised}
use Rattle.rules.proofs.Fit.{judged_fits, recognised_fits}
use Rattle.rules.proofs.Numbers.{judged-numbered, recognised-numbered}
use Rattle.rules.proofs.Following.{accepted_past, recognised_follows, recognised_known}
use Rattle.izk.specs.Heard.{heard, Lawful}

pub heard_lawful : (s : Switch) → Lawful (heard s)
unfolding heard frame_checks
heard_lawful s =
    record {
      fits = λ a f. judged_fits (frame_checks f) (recognised s a (contents_of f)) (contents_of f) (λ t. recognised_fits s a (contents_of f));
      numbered = λ a f.
          judged-numbered (frame_checks f) _ ((lit< tt, lit< tt), ((lit< tt, lit< tt), ((lit< tt, lit< tt), ((lit< tt, lit< tt), tt))))
          (recognised-numbered s a (contents_of f));
      known = λ a f h. recognised_known s a (contents_of f) (accepted_past (frame_checks f) _ h);
      follows = λ a f r h l. recognised_follows s a (contents_of f) r (accepted_past (frame_checks f) _ h) l;
    }
