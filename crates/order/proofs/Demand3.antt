-- Frames may be served in any order that keeps that of those that clash, into any outputs, whatever hears them lawfully; demand 3 is the case in which no
-- two clash. Assumes nothing.
use mathlib.Core.Path.{◌≡◌, refl, sym, ap, ap₂, ◌∙◌}
use mathlib.Core.Logic.{inl, inr}
use mathlib.Core.List.{List, [], ◌++◌}
use Prim.Native.Nat.{ℕ, ◌+◌, ◌≤◌, ◌<◌}
use lib.ListN.{length, get_or, take}
use Rattle.reorder.specs.Reorder.{outcomes, Commutes, place, pick, Reorders, NoClash, KeepsClashes, SameService}
use Rattle.reorder.proofs.Order.{none_to_keep, keeping_order}
use Rattle.reorder.proofs.Readings.{each_outcome, alike_service}
use Rattle.frame.specs.Apart.{contents_of}
use Rattle.frame.specs.Built.{frame_of}
use Rattle.image.specs.declared.cell.Cell.{Cell}
use Rattle.image.specs.declared.version.Version.{Version}
use Rattle.image.proofs.UsableFacts.{Usable, facts}
use Rattle.rules.specs.declared.rule.Act.{Act}
use Rattle.rules.specs.Order.{Verdict, Refused, Accepted}
use Rattle.rules.specs.Fits.{FitVerdict}
use Rattle.command.specs.Reply.{done, BuffersAfter}
use Rattle.command.proofs.Commute.{Clear, says_same, leaves_swap}
use Rattle.izk.specs.Heard.{answered, Hearing, Lawful}
use Rattle.izk.proofs.Serving.{served_is, reply_seen, answered-usable, answered-address}
use Rattle.order.specs.Serving.{Call, nothing, frames_of, step, Good, Meets, Clash}

-- ---- two verdicts of which the first does not meet the second

-- what serving by a verdict gives, as a step
abbrev pub did : Version → Verdict → List ℕ → List ℕ → (ℕ × List ℕ) × List ℕ
did v x c m = (((done v x c m).number, (done v x c m).reply), (done v x c m).image)

clear : (e k : ℕ) (a b : Act) (d d' : Cell) → ¬ Meets (Accepted e a d) (Accepted k b d') → Clear a d b d'
clear e k a b d d' n x w = (λ r. n (x, w, inl r), λ r. n (x, w, inr r))

-- the second is answered as it would be without the first, and both orders leave one image
record Independent (v : Version) (c c' m : List ℕ) (x y : Verdict) : Type 0 where
  unmoved : (did v y c' (done v x c m).image).0 ≡ (did v y c' m).0
  one_image : (done v y c' (done v x c m).image).image ≡ (done v x c (done v y c' m).image).image

independent : (v : Version) (c c' m : List ℕ) → Usable v m → (x y : Verdict) → FitVerdict x c → FitVerdict y c' → ¬ Meets x y → Independent v c c' m x y
independent v c c' m u x (Refused n) f g h = record { unmoved = refl; one_image = refl }
independent v c c' m u (Refused n) (Accepted k b d') f g h = record { unmoved = refl; one_image = refl }
independent v c c' m u (Accepted e a d) (Accepted k b d') f g h =
    let n = clear e k a b d d' h in
    record {
      unmoved = ap (λ (l : List ℕ). (0, frame_of (take (2 + k) c' ++ l))) (says_same v m u a b d d' c c' f.act g.act n);
      one_image = leaves_swap v m u a b d d' c c' f.act g.act n;
    }

-- ---- two calls

-- any frame, with any output of at least 269 bytes, is a call
pub any_call : (f out : List ℕ) → 269 ≤ length out → (x : Call) × (x.frame ≡ f) × (x.out ≡ out)
any_call f out room = (record { frame = f; out = out; room = room }, refl, refl)

module _ (ear : Hearing) (ok : Lawful ear) (v : Version) (a : ℕ) where
  pub clash_turn : (x y : Call) → Clash ear a x y → Clash ear a y x
  clash_turn x y (inl h) = inr h
  clash_turn x y (inr h) = inl h

  -- what a call does, by what is heard
  abbrev pub does : Call → List ℕ → (ℕ × List ℕ) × List ℕ
  does x m = did v (ear a x.frame) (contents_of x.frame) m

  pub step_is : (m : List ℕ) (x : Call) → Good v a m → step ear v m x ≡ does x m
  unfolding answered
  step_is m x g =
      ap₂ (λ (t : BuffersAfter) (l : List ℕ). ((t.number, l), t.image)) (served_is ear v x.frame m x.out g.0 x.room)
      (reply_seen ear ok v x.frame m x.out g.0 x.room)
      ∙ ap (λ (b : ℕ). did v (ear b x.frame) (contents_of x.frame) m) g.1

  pub stays : (m : List ℕ) (x : Call) → Good v a m → Good v a (step ear v m x).1
  stays m x g =
      rw (served_is ear v x.frame m x.out g.0 x.room)
      (answered-usable ear ok v x.frame m g.0, answered-address ear ok v x.frame m g.0 ∙ g.1)

  module _ (m : List ℕ) (x y : Call) (g : Good v a m) where
    -- after x, y does what it would do on the image that x leaves
    then_is : step ear v (step ear v m x).1 y ≡ does y (does x m).1
    then_is = step_is (step ear v m x).1 y (stays m x g) ∙ ap (λ (r : (ℕ × List ℕ) × List ℕ). does y r.1) (step_is m x g)

    calls_independent : ¬ Clash ear a x y → Independent v (contents_of x.frame) (contents_of y.frame) m (ear a x.frame) (ear a y.frame)
    calls_independent n = independent v _ _ m (facts v m g.0) _ _ (ok.fits a x.frame) (ok.fits a y.frame) (λ h. n (inl h))

    second : ¬ Clash ear a x y → (step ear v (step ear v m x).1 y).0 ≡ (step ear v m y).0
    second n = ap (λ (r : (ℕ × List ℕ) × List ℕ). r.0) then_is ∙ (calls_independent n).unmoved ∙ sym (ap (λ (r : (ℕ × List ℕ) × List ℕ). r.0) (step_is m y g))

  commute : (m : List ℕ) (x y : Call) → Good v a m → ¬ Clash ear a x y → Commutes (step ear v) m x y
  commute m x y g n =
      record {
        first = second m y x g (λ h. n (clash_turn y x h));
        second = second m x y g n;
        state = ap (λ (r : (ℕ × List ℕ) × List ℕ). r.1) (then_is m x y g) ∙ (calls_independent m x y g n).one_image
            ∙ sym (ap (λ (r : (ℕ × List ℕ) × List ℕ). r.1) (then_is m y x g));
      }

  -- a call is answered by its frame; its output's old characters do not show
  pub by_frame : (m : List ℕ) (x y : Call) → Good v a m → x.frame ≡ y.frame → step ear v m x ≡ step ear v m y
  by_frame m x y g e =
      step_is m x g ∙ ap (λ (f : List ℕ). did v (ear a f) (contents_of f) m) e ∙ sym (step_is m y g)

  -- ---- any list of calls, and any list of calls with the same frames in another order

  module _ (xs ys : List Call) (o : List ℕ) (m : List ℕ) (good : Good v a m) (re : Reorders (length xs) o)
      (frames : frames_of ys ≡ pick [] (frames_of xs) o) where
    same-frames : SameService (step ear v) (0, []) m xs (pick nothing xs o) o → SameService (step ear v) (0, []) m xs ys o
    same-frames = alike_service (step ear v) (Good v a) stays (λ x. x.frame) by_frame nothing (0, []) m xs ys o good frames

    -- where calls clash, in any order that keeps theirs
    pub keeping_order_serves : KeepsClashes (Clash ear a) nothing xs o → SameService (step ear v) (0, []) m xs ys o
    keeping_order_serves k = same-frames (keeping_order (step ear v) (Good v a) (Clash ear a) stays commute nothing (0, []) xs o m good re k)

    -- demand 3 is the case without a clash: in any order each frame has the number and the reply that it has in the list, and the image that is left
    -- is the list's
    pub any_order_serves : NoClash (Clash ear a) nothing xs → SameService (step ear v) (0, []) m xs ys o
    any_order_serves n = keeping_order_serves (none_to_keep (Clash ear a) nothing clash_turn xs o re n)

    -- by place
    pub any_order_answers : NoClash (Clash ear a) nothing xs → (k : ℕ) → k < length o
        → get_or (outcomes (step ear v) m ys) k (0, []) ≡ get_or (outcomes (step ear v) m xs) (place o k) (0, [])
    any_order_answers n = each_outcome (step ear v) (0, []) m xs ys o (any_order_serves n)
