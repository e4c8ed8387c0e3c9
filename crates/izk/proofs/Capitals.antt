-- Small letters make no difference: a frame and its capital form are heard alike. A reply is bytes in characters, and so in capitals. Assumes
-- nothing.
use mathlib.Core.Path.{◌≡◌, refl, sym, ap, ◌∙◌}
use mathlib.Core.List.{List, ◌++◌}
use mathlib.Core.Bool.{true}
use Prim.Native.Nat.{ℕ, ◌+◌}
use lib.ListN.{take}
use Rattle.laws.specs.Checks.{all}
use Rattle.laws.proofs.Bytes.{Bytes, bytes_none, bytes_append, bytes_take, bytes_slice, bytes_two}
use Rattle.output.specs.Output.{Answer}
use Rattle.frame.specs.Capitals.{capital_form, no_small}
use Rattle.frame.specs.Apart.{contents_of, frame_checks}
use Rattle.frame.proofs.Capitals.{capital_contents, capital_checks}
use Rattle.frame.proofs.Passing.{contents_bytes}
use Rattle.frame.proofs.RoundTrip.{frame_in_capitals}
use Rattle.image.specs.declared.cell.Cell.{Cell}
use Rattle.image.specs.declared.version.Version.{Version}
use Rattle.image.specs.Version.{current}
use Rattle.image.specs.Usable.{address}
use Rattle.storing.specs.Signature.{signature}
use Rattle.storing.proofs.Signatures.{signature_word_lem}
use Rattle.rules.specs.declared.rule.Act.{Act}
use Rattle.rules.specs.declared.rule.Act.TheVariants.{Show, Sign, Store}
use Rattle.rules.specs.declared.switch.Switch.{Switch}
use Rattle.rules.specs.Order.{Verdict, Refused, Accepted}
use Rattle.rules.proofs.Following.{accepted_passes}
use Rattle.command.specs.Act.{says}
use Rattle.command.specs.Reply.{done, reply_in, Serves}
use Rattle.izk.specs.Heard.{heard, answered}
use Rattle.izk.specs.Block.{served}
use Rattle.izk.proofs.Hearing.{heard_lawful}
use Rattle.izk.proofs.Serving.{Way, early, through, way, reply_seen}
use Rattle.izk.proofs.OneOutcome.{serve_one_outcome}

-- ---- a frame and its capital form

heard_alike : (s : Switch) (a : ℕ) (f : List ℕ) → heard s a (capital_form f) ≡ heard s a f
unfolding heard
heard_alike s a f = rw (capital_checks f, capital_contents f)

-- number, length, output and image
pub served_alike : (s : Switch) (v : Version) (f m out : List ℕ) → served (heard s) v (capital_form f) m out ≡ served (heard s) v f m out
unfolding served answered
served_alike s v f m out = rw (heard_alike s (address m) f, capital_contents f)

-- so are any two frames that differ in the case of letters alone
pub either_case : (s : Switch) (v : Version) (f g m out : List ℕ) → capital_form f ≡ capital_form g
    → served (heard s) v f m out ≡ served (heard s) v g m out
either_case s v f g m out e = sym (served_alike s v f m out) ∙ ap (λ (h : List ℕ). served (heard s) v h m out) e ∙ served_alike s v g m out

-- and of two calls with such frames, by the promise of serving: they return the same and leave the same
pub serve_alike : (k : Switch) (f g m out : List ℕ) (r s : Answer) (m' m'' o p : List ℕ) → capital_form f ≡ capital_form g
    → Serves (served (heard k) current f m out) r m' o → Serves (served (heard k) current g m out) s m'' p
    → (r ≡ s) × (m' ≡ m'') × (o ≡ p)
serve_alike k f g m out r s m' m'' o p e x y = serve_one_outcome k g m out r s m' m'' o p (rw (either_case k current f g m out e) at x) y

-- ---- replies

-- what a reply says of an image of bytes is bytes
pub says_bytes : (v : Version) (m : List ℕ) → Bytes m → (a : Act) (d : Cell) → Bytes (says v a d m)
says_bytes v m bytes Show d = bytes_slice _ _ m bytes
says_bytes v m bytes Sign d = bytes_two (signature v d m) (signature_word_lem v d m bytes)
says_bytes v m bytes (Store k) d = bytes_none

module _ (s : Switch) (v : Version) (f m : List ℕ) (bytes : Bytes m) where
  answer : no_small (answered (heard s) v f m).reply ≡ true
  unfolding answered heard all
  answer = go (heard s (address m) f) refl
    where
      go : (r : Verdict) → heard s (address m) f ≡ r → no_small (done v (heard s (address m) f) (contents_of f) m).reply ≡ true
      go (Refused n) e = rw e
      go (Accepted x a d) e =
          let c = take (2 + x) (contents_of f) in
          let low = bytes_take (2 + x) (contents_of f) (contents_bytes f (accepted_passes (frame_checks f) _ e)) in
          rw e (frame_in_capitals (c ++ says v a d m) (bytes_append c (says v a d m) low (says_bytes v m bytes a d)))

  -- no reply has a small letter, on an image of bytes
  pub reply_in_capitals : (out : List ℕ) → no_small (reply_in (served (heard s) v f m out)) ≡ true
  unfolding all
  reply_in_capitals out = go (way (heard s) v f m out)
    where
      go : Way (heard s) v f m out → no_small (reply_in (served (heard s) v f m out)) ≡ true
      go (early n i e) = rw e
      go (through u room e) = rw (reply_seen (heard s) (heard_lawful s) v f m out u room) answer
