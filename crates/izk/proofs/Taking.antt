-- What the code of serving cites: from what reading the frame left in a work array to what serving is. Assumes nothing.
use mathlib.Core.Path.{◌≡◌, refl, sym, ◌∙◌}
use mathlib.Core.Bool.{true}
use mathlib.Core.List.{List}
use Prim.Native.Nat.{ℕ, ◌≤◌}
use lib.ListN.{length, take}
use Rattle.laws.proofs.Bytes.{lay-none}
use Rattle.laws.proofs.Checks.{judged_passed}
use Rattle.output.specs.Output.{Answer}
use Rattle.frame.specs.Apart.{contents_of, frame_checks}
use Rattle.frame.specs.Read.{ReadInto}
use Rattle.frame.proofs.Passing.{read_refuses, read_refused, read_passes}
use Rattle.image.specs.Version.{current}
use Rattle.image.specs.Usable.{usable, address}
use Rattle.rules.specs.declared.switch.Switch.{Switch}
use Rattle.rules.specs.Order.{Verdict, Refused}
use Rattle.rules.specs.Verdict.{recognised}
use Rattle.command.specs.Reply.{refusal, done, sent, Serves}
use Rattle.izk.specs.Heard.{heard, answered}
use Rattle.izk.specs.Block.{served}
use Rattle.izk.proofs.Serving.{served_is}

-- a refusal reports its number and length 0, and leaves both buffers
pub refused_serves : (s : Switch) (f m out : List ℕ) (n : ℕ) → served (heard s) current f m out ≡ sent (refusal n m) out
    → Serves (served (heard s) current f m out) (record { number = n; len = 0 }) m out
refused_serves s f m out n e = rw e (record { number_is = refl; len_is = refl; image_is = refl; out_is = sym (lay-none out 0) })

module _ {f w : List ℕ} {r : Answer} (d : ReadInto f r w) where
  -- a number that is not 0 is serving's number, and what was reported with it serving's answer
  pub read_serves_refusal : (s : Switch) (m out : List ℕ) → (r.number ≡ 0 → ⊥) → usable current m ≡ true → 269 ≤ length out
      → Serves (served (heard s) current f m out) r m out
  unfolding answered heard
  read_serves_refusal s m out n u g =
      let h : heard s (address m) f ≡ Refused r.number = read_refuses d n Verdict Refused (recognised s (address m) (contents_of f)) in
      let is : served (heard s) current f m out ≡ sent (refusal r.number m) out = served_is (heard s) current f m out u g ∙ rw h in
      rw is (record { number_is = refl; len_is = read_refused d n; image_is = refl; out_is = sym (lay-none out 0) })

  -- with 0, what the contents are answered is what is served
  pub read_serves : r.number ≡ 0 → (k : Switch) (m out : List ℕ) (s : Answer) (m' out' : List ℕ) → usable current m ≡ true → 269 ≤ length out
      → Serves (sent (done current (recognised k (address m) (take r.len w)) (take r.len w) m) out) s m' out'
      → Serves (served (heard k) current f m out) s m' out'
  unfolding answered heard
  read_serves z k m out s m' out' u g h =
      rw (served_is (heard k) current f m out u g, judged_passed Refused (frame_checks f) (recognised k (address m) (contents_of f)) (read_passes d z))
      (rw (d.contents_are z) at h)
