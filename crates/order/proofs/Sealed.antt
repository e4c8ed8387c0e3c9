-- Sealed, no frame writes a cell, so no two clash, and any frames can be served in any order. Assumes nothing.
use mathlib.Core.Path.{◌≡◌, refl, sym, ◌∙◌}
use mathlib.Core.Logic.{inl, inr}
use mathlib.Core.List.Memᴰ
use mathlib.Core.List.{List, [], ◌∷◌}
use mathlib.Core.Bool.{true}
use Prim.Native.Nat.{ℕ}
use native.Mathlib.Omega.{arith}
use lib.ListN.{length, get_or}
use Rattle.laws.specs.Checks.{check}
use Rattle.laws.proofs.Tests.{never}
use Rattle.reorder.specs.Reorder.{place, pick, Reorders, SameService}
use Rattle.frame.specs.Apart.{contents_of, frame_checks}
use Rattle.image.specs.declared.version.Version.{Version}
use Rattle.image.specs.Usable.{address}
use Rattle.rules.specs.declared.rule.Act.TheVariants.{Show, Sign, Store}
use Rattle.rules.specs.declared.switch.Switch.TheVariants.{Sealed}
use Rattle.rules.specs.Order.{Verdict, Refused, Accepted}
use Rattle.rules.specs.Rules.{byte}
use Rattle.rules.specs.Seal.{is_write}
use Rattle.rules.proofs.Following.{accepted_past}
use Rattle.rules.proofs.Sealing.{write_refused}
use Rattle.command.specs.Reply.{reads_of, writes_of}
use Rattle.izk.specs.Heard.{heard}
use Rattle.izk.proofs.Sealed.{heard_let}
use Rattle.order.specs.Serving.{Call, nothing, frames_of, step, Meets, Clash}
use Rattle.order.proofs.Repeats.{repeats_serve}

-- ---- cells

pub sealed_writes_nothing : (a : ℕ) (f : List ℕ) → writes_of (heard Sealed a f) ≡ []
sealed_writes_nothing a f = go (heard Sealed a f) refl
  where
    go : (r : Verdict) → heard Sealed a f ≡ r → writes_of r ≡ []
    go (Refused n) h = refl
    go (Accepted e Show d) h = refl
    go (Accepted e Sign d) h = refl
    go (Accepted e (Store k) d) h = absurd (never (heard_let Sealed a f h))

-- and one of the six, which is refused 16 or by what comes first, reads none either
pub sealed_write_cells : (a : ℕ) (f : List ℕ) → is_write (byte (contents_of f) 2) ≡ true
    → (reads_of (heard Sealed a f) ≡ []) × (writes_of (heard Sealed a f) ≡ [])
unfolding heard
sealed_write_cells a f w = go (heard Sealed a f) refl
  where
    go : (r : Verdict) → heard Sealed a f ≡ r → (reads_of r ≡ []) × (writes_of r ≡ [])
    go (Refused n) h = (refl, refl)
    go (Accepted e t d) h =
        let x = accepted_past (check 7 _ ∷ []) (Refused 16) (sym (write_refused a (contents_of f) w) ∙ accepted_past (frame_checks f) _ h) in
        absurd (let z : ◌≡◌ {A = ℕ} 0 1 = cc in omega arith)

meets_none : (a : ℕ) (f : List ℕ) (y : Verdict) → ¬ Meets (heard Sealed a f) y
meets_none a f y (c, w, r) = Memᴰ.not-nil (rw (sealed_writes_nothing a f) at w)

pub sealed_no_clash : (a : ℕ) (x y : Call) → ¬ Clash (heard Sealed) a x y
sealed_no_clash a x y (inl h) = meets_none a x.frame (heard Sealed a y.frame) h
sealed_no_clash a x y (inr h) = meets_none a y.frame (heard Sealed a x.frame) h

-- ---- order

-- any frames, on any image, usable or not: in any order each has the number and the reply that it has in the list, and the image is the list's
pub sealed_any_order : (v : Version) (xs ys : List Call) (o m : List ℕ) → Reorders (length xs) o → frames_of ys ≡ pick [] (frames_of xs) o
    → SameService (step (heard Sealed) v) (0, []) m xs ys o
sealed_any_order v xs ys o m re frames =
    repeats_serve Sealed v xs ys o m re frames
    (λ k n lt l c. absurd (sealed_no_clash (address m) (get_or xs (place o k) nothing) (get_or xs (place o n) nothing) c))
