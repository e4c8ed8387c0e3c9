-- Laws of serving a frame: on a usable image, with room for the longest reply, what is served is what is answered, and the image stays usable.
-- For every version of the image and every lawful hearing. Assumes nothing.
use mathlib.Core.Path.{◌≡◌, refl, ◌∙◌}
use mathlib.Core.List.{List, ◌++◌}
use mathlib.Core.Bool.{Bool, true, false}
use Prim.Native.Nat.{ℕ, ◌+◌, ◌≤◌, ◌<◌}
use native.Mathlib.Decide.{dec_le}
use native.Mathlib.Omega.{arith}
use lib.ListN.{length, take, drop, length-append, length-take}
use lib.Seq.{take-length}
use lib.Dec.{lit<}
use borrow.Author.Tests.{le-leb, lt-leb}
use Rattle.laws.specs.Checks.{judged}
use Rattle.laws.proofs.Bytes.{lay-take, lay-rest}
use Rattle.frame.specs.Apart.{contents_of}
use Rattle.frame.proofs.FrameLaid.{length_frame}
use Rattle.image.specs.declared.cell.Cell.{Cell}
use Rattle.image.specs.declared.version.Version.{Version}
use Rattle.image.specs.Usable.{usable, address}
use Rattle.image.proofs.UsableFacts.{Usable, facts, usable_of}
use Rattle.storing.proofs.Stores.{head_stays, store_usable}
use Rattle.rules.specs.declared.rule.Act.{Act}
use Rattle.rules.specs.declared.rule.Act.TheVariants.{Show, Sign, Store}
use Rattle.rules.specs.Order.{Verdict, Refused, Accepted}
use Rattle.rules.specs.Fits.{Fit, IsRefusal, FitVerdict, Numbered}
use Rattle.command.specs.Act.{says, leaves}
use Rattle.command.specs.Reply.{Outcome, refusal, done, sent, reply_in}
use Rattle.command.proofs.Replying.{says_most}
use Rattle.izk.specs.Heard.{answered, Hearing, Lawful}
use Rattle.izk.specs.Block.{served}

-- ---- an act, on a usable image

module _ (v : Version) (m : List ℕ) (u : Usable v m) where
  act_keeps : (a : Act) (d : Cell) (c : List ℕ) → Fit a d c → Usable v (leaves v a d c m) × (address (leaves v a d c m) ≡ address m)
  act_keeps Show d c f = (u, refl)
  act_keeps Sign d c f = (u, refl)
  act_keeps (Store k) d c f = (store_usable v d (drop k c) f m u.long_is u, head_stays v d (drop k c) f m u.long_is 5 (omega arith))

-- ---- what is answered

record Sound (v : Version) (m : List ℕ) (o : Outcome) : Type 0 where
  whole : Usable v o.image
  address : address o.image ≡ address m
  short : length o.reply ≤ 269

done_sound : (v : Version) (m : List ℕ) → Usable v m → (r : Verdict) (c : List ℕ) → FitVerdict r c → Sound v m (done v r c m)
done_sound v m u (Refused n) c f = record { whole = u; address = refl; short = omega arith }
done_sound v m u (Accepted e a d) c f =
    let k = act_keeps v m u a d c f.act in
    let said = says_most v m u a d c f.act in
    let room = f.reply in
    record {
      whole = k.0;
      address = k.1;
      short = omega (arith, length_frame (take (2 + e) c ++ says v a d m), length-append (take (2 + e) c) (says v a d m), length-take (2 + e) c);
    }

-- a block of address a accepts a frame
pub record Accepts (ear : Hearing) (a : ℕ) (f : List ℕ) : Type 0 where
  pub echo : ℕ
  pub act : Act
  pub cell : Cell
  pub verdict : ear a f ≡ Accepted echo act cell

module _ (ear : Hearing) (ok : Lawful ear) (v : Version) (f m : List ℕ) (u : usable v m ≡ true) where
  sound : Sound v m (answered ear v f m)
  unfolding answered
  sound = done_sound v m (facts v m u) (ear (address m) f) (contents_of f) (ok.fits (address m) f)

  pub answered-usable : usable v (answered ear v f m).image ≡ true
  answered-usable = usable_of v _ sound.whole

  pub answered-address : address (answered ear v f m).image ≡ address m
  answered-address = sound.address

  pub answered-length : length (answered ear v f m).reply ≤ 269
  answered-length = sound.short

-- ---- what is served

-- it rests on what is heard and on nothing else of a hearing
pub heard-same : (ear ear' : Hearing) (v : Version) (f m out : List ℕ) → ear (address m) f ≡ ear' (address m) f
    → served ear v f m out ≡ served ear' v f m out
unfolding served answered
heard-same ear ear' v f m out e = rw e

module _ (ear : Hearing) (v : Version) (f m out : List ℕ) where
  -- check 1 is given exactly then, check 2 exactly then; else the frame is answered
  pub unusable_is_1 : usable v m ≡ false → served ear v f m out ≡ sent (refusal 1 m) out
  unfolding served judged
  unusable_is_1 u = rw u

  pub no_room_is_2 : usable v m ≡ true → length out < 269 → served ear v f m out ≡ sent (refusal 2 m) out
  unfolding served judged
  no_room_is_2 u r = rw (u, lt-leb)

  pub served_is : usable v m ≡ true → 269 ≤ length out → served ear v f m out ≡ sent (answered ear v f m) out
  unfolding served judged
  served_is u r = rw (u, le-leb)

  pub data Way : Type 0 where
    early : (n : ℕ) → IsRefusal n → served ear v f m out ≡ sent (refusal n m) out → Way
    through : usable v m ≡ true → 269 ≤ length out → served ear v f m out ≡ sent (answered ear v f m) out → Way

  pub way : Way
  way = go (usable v m) refl (dec_le 269 (length out))
    where
      go : (t : Bool) → usable v m ≡ t → Dec (269 ≤ length out) → Way
      go false u d = early 1 (lit< tt, lit< tt) (unusable_is_1 u)
      go true u (no r) = early 2 (lit< tt, lit< tt) (no_room_is_2 u (omega arith))
      go true u (yes r) = through u r (served_is u r)

module _ (ear : Hearing) (ok : Lawful ear) (v : Version) (f m out : List ℕ) where
  -- the reply stands at the start of the output, and what follows is as it was
  module _ (u : usable v m ≡ true) (room : 269 ≤ length out) where
    fits : length (answered ear v f m).reply ≤ length out
    fits = omega (arith, answered-length ear ok v f m u)

    pub reply_seen : reply_in (served ear v f m out) ≡ (answered ear v f m).reply
    reply_seen =
        let reply = (answered ear v f m).reply in
        rw (served_is ear v f m out u room) (lay-take out reply fits (length reply) (omega arith) ∙ take-length reply)

    pub rest_stays : drop (served ear v f m out).len (served ear v f m out).out ≡ drop (served ear v f m out).len out
    rest_stays = rw (served_is ear v f m out u room) (lay-rest out (answered ear v f m).reply fits)

  -- the number has one digit or two
  pub number_short : (served ear v f m out).number < 100
  unfolding answered
  number_short = go (way ear v f m out)
    where
      of : (r : Verdict) → Numbered r → (done v r (contents_of f) m).number < 100
      of (Refused n) h = h.1
      of (Accepted e a d) h = omega arith

      go : Way ear v f m out → (served ear v f m out).number < 100
      go (early n i e) = rw e i.1
      go (through u r e) = rw e (of (ear (address m) f) (ok.numbered (address m) f))

  -- ---- a usable image stays usable, and keeps its address, whatever is served

  module _ (u : usable v m ≡ true) where
    pub usable_stays : usable v (served ear v f m out).image ≡ true
    usable_stays = go (way ear v f m out)
      where
        go : Way ear v f m out → usable v (served ear v f m out).image ≡ true
        go (early n i e) = rw e u
        go (through _ r e) = rw e (answered-usable ear ok v f m u)

    pub address_stays : address (served ear v f m out).image ≡ address m
    address_stays = go (way ear v f m out)
      where
        go : Way ear v f m out → address (served ear v f m out).image ≡ address m
        go (early n i e) = rw e
        go (through _ r e) = rw e (answered-address ear ok v f m u)

  -- ---- a frame is accepted if its number is 0; then the image is usable, and there is room

  pub zero_is_accepted : (served ear v f m out).number ≡ 0 → (usable v m ≡ true) × (269 ≤ length out) × Accepts ear (address m) f
  unfolding answered
  zero_is_accepted z = go (way ear v f m out)
    where
      by : (r : Verdict) → ear (address m) f ≡ r → Numbered r → (done v (ear (address m) f) (contents_of f) m).number ≡ 0 → Accepts ear (address m) f
      by (Refused n) e h z = let y : n ≡ 0 = rw e at z in absurd (omega arith)
      by (Accepted x t d) e h z = record { echo = x; act = t; cell = d; verdict = e }

      go : Way ear v f m out → (usable v m ≡ true) × (269 ≤ length out) × Accepts ear (address m) f
      go (early n i e) = let y : n ≡ 0 = rw e at z in absurd (omega arith)
      go (through u r e) = (u, r, by (ear (address m) f) refl (ok.numbered (address m) f) (rw e at z))
