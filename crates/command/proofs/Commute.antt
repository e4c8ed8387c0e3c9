-- Two acts of which the one writes no cell that the other reads or writes: what the other says stays, and both orders leave one image.
-- Assumes nothing.
use mathlib.Core.Path.{◌≡◌, refl, ap}
use mathlib.Core.List.Memᴰ
use mathlib.Core.List.{List, Memᴰ}
use Prim.Native.Nat.{ℕ}
use native.Mathlib.Omega.{arith}
use lib.ListN.{get_or, drop}
use Rattle.laws.specs.Bytes.{two}
use Rattle.image.specs.declared.cell.Cell.{Cell}
use Rattle.image.specs.declared.version.Version.{Version}
use Rattle.image.specs.Cell.{offset, extent}
use Rattle.image.proofs.Cells.{size-some}
use Rattle.image.proofs.UsableFacts.{Usable}
use Rattle.image.proofs.Stretches.{own_cell, cell_made}
use Rattle.storing.specs.Stored.{stored, FitStore}
use Rattle.storing.proofs.Elsewhere.{extent_fits, stretch_stays, slice_stays, signature_stays, stored_swap}
use Rattle.rules.specs.declared.rule.Act.{Act}
use Rattle.rules.specs.declared.rule.Act.TheVariants.{Show, Sign, Store}
use Rattle.rules.specs.Fits.{Fit}
use Rattle.command.specs.Act.{says, leaves, reads, writes}

-- ---- what is said after a store

-- the first writes no cell that the second reads or writes
abbrev pub Clear : Act → Cell → Act → Cell → Type 0
Clear a d b e = (x : Cell) → Memᴰ x (writes a d) → (¬ Memᴰ x (reads b e)) × (¬ Memᴰ x (writes b e))

module _ (v : Version) (m : List ℕ) (u : Usable v m) (d : Cell) (bs : List ℕ) (fit : FitStore d bs) where
  after_store : (b : Act) (e : Cell) (c : List ℕ) → Fit b e c → ¬ Memᴰ d (reads b e) → says v b e (stored v d bs m) ≡ says v b e m
  after_store Show e c g off =
      let some = size-some e g in
      let f : get_or (stored v d bs m) (offset e) 0 ≡ get_or m (offset e) 0 =
      stretch_stays v m u.long_is d bs fit e (cell_made e g) off (offset e) (omega arith, omega arith) in
      rw f (slice_stays v m u.long_is d bs fit e (cell_made e g) off (extent e (get_or m (offset e) 0)) (extent_fits v m u e g))
  after_store Sign e c g off = ap two (signature_stays v m u.long_is d bs fit e g off)
  after_store (Store k) e c g off = refl

-- ---- two acts

module _ (v : Version) (m : List ℕ) (u : Usable v m) where
  pub says_same : (a b : Act) (d e : Cell) (c c' : List ℕ) → Fit a d c → Fit b e c' → Clear a d b e → says v b e (leaves v a d c m) ≡ says v b e m
  says_same Show b d e c c' f g n = refl
  says_same Sign b d e c c' f g n = refl
  says_same (Store k) b d e c c' f g n = after_store v m u d (drop k c) f b e c' g (n d (own_cell d f.cell)).0

  pub leaves_swap : (a b : Act) (d e : Cell) (c c' : List ℕ) → Fit a d c → Fit b e c' → Clear a d b e
      → leaves v b e c' (leaves v a d c m) ≡ leaves v a d c (leaves v b e c' m)
  leaves_swap Show b d e c c' f g n = refl
  leaves_swap Sign b d e c c' f g n = refl
  leaves_swap (Store k) Show d e c c' f g n = refl
  leaves_swap (Store k) Sign d e c c' f g n = refl
  leaves_swap (Store k) (Store j) d e c c' f g n =
      stored_swap v m u.long_is d e (drop k c) (drop j c') f g (λ z. (n d (own_cell d f.cell)).1 (Memᴰ.cast z (own_cell e g.cell)))
