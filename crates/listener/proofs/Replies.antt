-- A listener finds every reply that the block sends: a reply is a frame of bytes, and passes checks 3 to 6. Assumes nothing.
use mathlib.Core.Path.{◌≡◌}
use mathlib.Core.List.{List, ◌++◌}
use mathlib.Core.Bool.{true}
use Prim.Native.Nat.{ℕ, ◌+◌}
use native.Mathlib.Omega.{arith}
use lib.ListN.{take, length-append}
use Rattle.laws.proofs.Bytes.{Bytes, bytes_append, bytes_take}
use Rattle.frame.specs.Apart.{contents_of, frame_checks}
use Rattle.frame.specs.Built.{frame_of}
use Rattle.frame.proofs.Passing.{contents_bytes}
use Rattle.frame.proofs.RoundTrip.{frame_passes}
use Rattle.image.specs.declared.version.Version.{Version}
use Rattle.image.proofs.UsableFacts.{facts}
use Rattle.rules.specs.declared.switch.Switch.{Switch}
use Rattle.rules.proofs.Following.{accepted_passes}
use Rattle.command.specs.Act.{says}
use Rattle.command.specs.Reply.{reply_in}
use Rattle.command.proofs.Doing.{opening}
use Rattle.command.proofs.Replying.{says_most}
use Rattle.izk.specs.Heard.{heard}
use Rattle.izk.specs.Block.{served}
use Rattle.izk.proofs.Hearing.{heard_lawful}
use Rattle.izk.proofs.Capitals.{says_bytes}
use Rattle.izk.proofs.Serving.{zero_is_accepted}
use Rattle.izk.proofs.Changes.{accepted_fits}
use Rattle.izk.proofs.ReadBack.{replies_as_said}
use Rattle.listener.specs.Handing.{well_formed}
use Rattle.listener.proofs.WellFormed.{passing_well_formed}

-- on an image of bytes, whatever the switch and the version
pub reply_well_formed : (s : Switch) (v : Version) (f m out : List ℕ) → Bytes m → (served (heard s) v f m out).number ≡ 0
    → well_formed (reply_in (served (heard s) v f m out)) ≡ true
unfolding heard
reply_well_formed s v f m out bytes z =
    let ok = heard_lawful s in
    let (u, room, x) = zero_is_accepted (heard s) ok v f m out z in
    let fit = accepted_fits (heard s) ok f m x.echo x.act x.cell x.verdict in
    let head = take (2 + x.echo) (contents_of f) in
    let tail = says v x.act x.cell m in
    let heads = bytes_take (2 + x.echo) (contents_of f) (contents_bytes f (accepted_passes (frame_checks f) _ x.verdict)) in
    let all = bytes_append head tail heads (says_bytes v m bytes x.act x.cell) in
    let l = length-append head tail in
    let n = opening fit in
    let most = says_most v m (facts v m u) x.act x.cell (contents_of f) fit.act in
    let short = fit.reply in
    let passes = frame_passes (head ++ tail) all (omega arith) (omega arith) in
    rw (replies_as_said (heard s) ok v f m x.echo x.act x.cell x.verdict u out room).reply_is (passing_well_formed (frame_of (head ++ tail)) passes)
