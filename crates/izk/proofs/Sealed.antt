-- What the key switch does (document 02, request 11): unsealed, a frame is heard as before there was one; sealed, it is served as unsealed or refused
-- 16, and no byte of the image changes. By what the switch changes of a verdict. Assumes nothing.
use mathlib.Core.Path.{◌≡◌, refl, ap, ◌∙◌}
use mathlib.Core.Logic.{◌≢◌, ◌⊎◌, ⊎_elim, ⊎_map}
use mathlib.Core.List.{List}
use mathlib.Core.Bool.{true, false}
use Prim.Native.Nat.{ℕ, ◌≤◌}
use lib.ListN.{length}
use borrow.Author.Tests.{eq-eqb}
use Rattle.laws.specs.Checks.{judged, AllPass}
use Rattle.laws.proofs.Tests.{never}
use Rattle.laws.proofs.Checks.{judged_passed, judged_either}
use Rattle.frame.specs.Apart.{contents_of, frame_checks}
use Rattle.image.specs.declared.cell.Cell.{Cell}
use Rattle.image.specs.declared.version.Version.{Version}
use Rattle.image.specs.Usable.{usable, address}
use Rattle.rules.specs.declared.rule.Act.{Act}
use Rattle.rules.specs.declared.rule.Act.TheVariants.{Show, Sign, Store}
use Rattle.rules.specs.declared.switch.Switch.{Switch}
use Rattle.rules.specs.declared.switch.Switch.TheVariants.{Unsealed, Sealed}
use Rattle.rules.specs.Order.{Verdict, Refused, Accepted}
use Rattle.rules.specs.Rules.{byte}
use Rattle.rules.specs.Seal.{lets, is_write, lets_do}
use Rattle.rules.specs.Verdict.{recognised}
use Rattle.rules.proofs.Following.{accepted_past}
use Rattle.rules.proofs.Sealing.{unsealed_recognises, write_refused, others_recognised, recognised_or_16, lets_by_act, accepted_let}
use Rattle.command.specs.Reply.{refusal, done, BuffersAfter, sent}
use Rattle.izk.specs.Heard.{heard, heard_before, answered}
use Rattle.izk.specs.Block.{served}
use Rattle.izk.proofs.Hearing.{heard_lawful}
use Rattle.izk.proofs.Serving.{Way, early, through, way, served_is, heard-same, zero_is_accepted}

-- ---- unsealed

pub unsealed_as_before : (v : Version) (f m out : List ℕ) → served (heard Unsealed) v f m out ≡ served heard_before v f m out
unfolding heard
unsealed_as_before v f m out =
    heard-same (heard Unsealed) heard_before v f m out (ap (judged Refused (frame_checks f)) (unsealed_recognises (address m) (contents_of f)))

-- ---- sealed: the number and the reply

heard_or_16 : (a : ℕ) (f : List ℕ) → (heard Sealed a f ≡ heard Unsealed a f) ⊎ (heard Sealed a f ≡ Refused 16)
unfolding heard
heard_or_16 a f = judged_either Refused (frame_checks f) _ _ (Refused 16) (recognised_or_16 a (contents_of f))

module _ (v : Version) (f m out : List ℕ) where
  -- a frame of another command than the six is served as it is unsealed
  pub others_as_unsealed : is_write (byte (contents_of f) 2) ≡ false → served (heard Sealed) v f m out ≡ served (heard Unsealed) v f m out
  unfolding heard
  others_as_unsealed w =
      heard-same (heard Sealed) (heard Unsealed) v f m out (ap (judged Refused (frame_checks f)) (others_recognised (address m) (contents_of f) w))

  -- one of the six that comes past 1 to 7 is refused 16, whatever its length and values
  pub write_is_16 : is_write (byte (contents_of f) 2) ≡ true → usable v m ≡ true → 269 ≤ length out → AllPass (frame_checks f)
      → byte (contents_of f) 1 ≡ address m → served (heard Sealed) v f m out ≡ sent (refusal 16 m) out
  unfolding answered heard judged
  write_is_16 w u room p e =
      served_is (heard Sealed) v f m out u room
      ∙ rw (judged_passed Refused (frame_checks f) (recognised Sealed (address m) (contents_of f)) p, write_refused (address m) (contents_of f) w, eq-eqb _ _ e)

  -- so sealing changes nothing of what a frame gets, or makes it a 16
  pub sealed_or_16 : (served (heard Sealed) v f m out ≡ served (heard Unsealed) v f m out) ⊎ (served (heard Sealed) v f m out ≡ sent (refusal 16 m) out)
  unfolding served answered
  sealed_or_16 =
      judged_either (λ n. sent (refusal n m) out) _ _ _ (sent (refusal 16 m) out) (⊎_map (ap as_heard) (ap as_heard) (heard_or_16 (address m) f))
    where
      as_heard : Verdict → BuffersAfter
      as_heard r = sent (done v r (contents_of f) m) out

  -- a frame that is served sealed has number, reply, output and image as unsealed; and so has one that is refused, but not 16
  pub sealed_as_unsealed : (served (heard Sealed) v f m out).number ≢ 16 → served (heard Sealed) v f m out ≡ served (heard Unsealed) v f m out
  sealed_as_unsealed z = ⊎_elim (λ e. e) (λ e. absurd (z (ap (λ b. b.number) e))) sealed_or_16

-- ---- what is accepted, and the image

module _ {e : ℕ} {t : Act} {d : Cell} (s : Switch) (a : ℕ) (f : List ℕ) (accepted : heard s a f ≡ Accepted e t d) where
  -- by its act, and by its number
  pub heard_let : lets_do s t ≡ true
  unfolding heard
  heard_let = accepted_let s a (contents_of f) (accepted_past (frame_checks f) _ accepted)

  number_let : lets s (byte (contents_of f) 2) ≡ true
  number_let =
      let (r, found) = (heard_lawful s).known a f accepted in
      lets_by_act s _ r found ∙ (rw ((heard_lawful s).follows a f r accepted found).acts at heard_let)

module _ (v : Version) (f m out : List ℕ) where
  -- sealed, nothing but the eight is served
  pub sealed_serves_eight : (served (heard Sealed) v f m out).number ≡ 0 → lets Sealed (byte (contents_of f) 2) ≡ true
  sealed_serves_eight z =
      let (u, room, x) = zero_is_accepted (heard Sealed) (heard_lawful Sealed) v f m out z in
      number_let Sealed (address m) f x.verdict

  -- sealed, no frame changes a byte of the image
  pub sealed_leaves_image : (served (heard Sealed) v f m out).image ≡ m
  unfolding answered
  sealed_leaves_image = go (way (heard Sealed) v f m out)
    where
      left : (r : Verdict) → heard Sealed (address m) f ≡ r → (done v r (contents_of f) m).image ≡ m
      left (Refused n) h = refl
      left (Accepted e Show d) h = refl
      left (Accepted e Sign d) h = refl
      left (Accepted e (Store k) d) h = absurd (never (heard_let Sealed (address m) f h))

      go : Way (heard Sealed) v f m out → (served (heard Sealed) v f m out).image ≡ m
      go (early n i e) = rw e
      go (through u r e) = rw e (left (heard Sealed (address m) f) refl)
