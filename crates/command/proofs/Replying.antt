-- What the code that answers cites: an accepted body's reply fits a frame, and what was written and left is what is to be sent. Assumes
-- nothing.
use mathlib.Core.Path.{◌≡◌, refl, sym}
use mathlib.Core.Bool.{true}
use mathlib.Core.List.{List}
use Prim.Native.Nat.{ℕ, ◌+◌, ◌≤◌}
use native.Mathlib.Omega.{arith}
use lib.ListN.{length, get_or, take, length-append}
use Rattle.std.specs.Prelude.{Result, Ok, Err, IfOk}
use Rattle.laws.proofs.Bytes.{lay-none, slice_most, length_two}
use Rattle.output.specs.declared.refusal.Refusal.{Refusal}
use Rattle.output.specs.Output.{Does, written, Answer}
use Rattle.frame.specs.Built.{frame_of}
use Rattle.image.specs.declared.cell.Cell.{Cell}
use Rattle.image.specs.declared.version.Version.{Version}
use Rattle.image.specs.Version.{current}
use Rattle.image.specs.Cell.{offset, extent}
use Rattle.image.specs.Usable.{usable}
use Rattle.image.proofs.UsableFacts.{facts, Usable}
use Rattle.storing.specs.Signature.{signature}
use Rattle.storing.proofs.Elsewhere.{extent_fits}
use Rattle.rules.specs.declared.order.Order.{Order}
use Rattle.rules.specs.declared.rule.Act.{Act}
use Rattle.rules.specs.declared.rule.Act.TheVariants.{Show, Sign, Store}
use Rattle.rules.specs.Order.{Verdict, Refused, Accepted}
use Rattle.rules.specs.Fits.{Fit, longest, FitAccepted, FitVerdict}
use Rattle.rules.specs.Found.{verdict_of, body_of}
use Rattle.command.specs.Act.{says}
use Rattle.command.specs.Reply.{reply_of, done, sent, Serves}
use Rattle.command.proofs.Doing.{opening}

-- ---- the verdict's cases

pub body_fits : {r : Verdict} {e : ℕ} {a : Act} {d : Cell} (c : List ℕ) → r ≡ Accepted e a d → FitVerdict r c → FitAccepted e a d c
body_fits c i f = rw i at f

pub refused_sends : (c m out : List ℕ) {r : Verdict} {n : ℕ} → r ≡ Refused n → Serves (sent (done current r c m) out) (record { number = n; len = 0 }) m out
refused_sends c m out i = rw i (record { number_is = refl; len_is = refl; image_is = refl; out_is = sym (lay-none out 0) })

-- of an order's own body and the one that it is known to be, and of a refusal's none and any, the same is done
pub body_given : (v : Version) (r : Result Order Refusal) (c m : List ℕ) → IfOk r (λ o. o.body.now ≡ c)
    → done v (verdict_of r) (body_of r) m ≡ done v (verdict_of r) c m
body_given v (Ok o) c m e = rw e refl
body_given v (Err e) c m h = refl

-- ---- an accepted body's reply

pub says_most : (v : Version) (m : List ℕ) → Usable v m → (a : Act) (d : Cell) (c : List ℕ) → Fit a d c → length (says v a d m) ≤ longest a d
says_most v m u Show d c f = omega (arith, slice_most (offset d) (extent d (get_or m (offset d) 0)) m, extent_fits v m u d f)
says_most v m u Sign d c f = omega (arith, length_two (signature v d m))
says_most v m u (Store k) d c f = omega arith

module _ {e : ℕ} {a : Act} {d : Cell} {c : List ℕ} (f : FitAccepted e a d c) (m : List ℕ) (u : usable current m ≡ true) where
  pub reply_fits : (2 ≤ length (reply_of current e a d c m)) × (length (reply_of current e a d c m) ≤ 132)
  reply_fits =
      let s = says_most current m (facts current m u) a d c f.act in
      let l = length-append (take (2 + e) c) (says current a d m) in
      (omega (arith, opening f), omega (arith, opening f, f.reply))

-- ---- what was written and left is what is to be sent

pub written-sends : (out left im bytes : List ℕ) {im' : List ℕ} {r : Answer} → im' ≡ im → Does (written out (frame_of bytes)) r left
    → Serves (sent (record { number = 0; reply = frame_of bytes; image = im }) out) r im' left
written-sends out left im bytes i d = record { number_is = d.number_is; len_is = d.len_is; image_is = i; out_is = d.out_is }
