-- The cells by which two frames clash are those of document 01's sentence: of an accepted frame by its command and the two bytes behind it, of a
-- refused one none. Assumes nothing.
use mathlib.Core.Path.{◌≡◌, refl}
use mathlib.Core.List.{List, []}
use Prim.Native.Nat.{ℕ}
use Rattle.frame.specs.Apart.{contents_of}
use Rattle.image.specs.declared.cell.Cell.{Cell}
use Rattle.rules.specs.declared.rule.Act.{Act}
use Rattle.rules.specs.Order.{Refused, Accepted}
use Rattle.rules.specs.Rules.{byte}
use Rattle.command.specs.Reply.{reads_of, writes_of}
use Rattle.command.specs.Uses.{uses, use_of}
use Rattle.command.proofs.Uses.{follower_uses}
use Rattle.izk.specs.Heard.{Hearing, Lawful}

module _ (ear : Hearing) (ok : Lawful ear) (a : ℕ) (f : List ℕ) where
  pub accepted_cells : {e : ℕ} {t : Act} {d : Cell} → ear a f ≡ Accepted e t d
      → let c = contents_of f in
      (reads_of (ear a f) ≡ (use_of (byte c 2) uses).reads (byte c 3) (byte c 4)) × (writes_of (ear a f) ≡ (use_of (byte c 2) uses).writes (byte c 3) (byte c 4))
  accepted_cells h =
      let r = ok.known a f h in
      let u = follower_uses (contents_of f) r.0 r.1 (ok.follows a f r.0 h r.1) in
      rw h (u.reads_are, u.writes_are)

module _ (ear : Hearing) (a : ℕ) (f : List ℕ) where
  pub refused_cells : {n : ℕ} → ear a f ≡ Refused n → (reads_of (ear a f) ≡ []) × (writes_of (ear a f) ≡ [])
  refused_cells h = rw h (refl, refl)
