-- What a write changes in an image that keeps its signatures: its cell, its bit and its item's word, and nothing else. 51, 76 and 77 change no word.
-- Assumes nothing.
use Rattle.std.specs.Prelude.{Some}
use mathlib.Core.Path.{◌≡◌, refl}
use mathlib.Core.List.{List, [], ◌∷◌, Memᴰ}
use mathlib.Core.Bool.{Bool, true, false, cond}
use Prim.Native.Nat.{ℕ, ◌+◌, ◌≤◌}
use native.Mathlib.Omega.{arith}
use lib.ListN.{get_or, drop}
use Rattle.laws.specs.Bytes.{slice}
use Rattle.laws.specs.Checks.{all, among}
use Rattle.laws.proofs.Tests.{never}
use Rattle.frame.specs.Apart.{contents_of}
use Rattle.image.specs.declared.cell.Cell.{Cell}
use Rattle.image.specs.declared.cell.Cell.TheVariants.{Mask, Mode, Clock}
use Rattle.image.specs.declared.version.Version.{Version}
use Rattle.image.specs.declared.version.Version.TheVariants.{V1, V2}
use Rattle.image.specs.Cell.{offset, size, is_item, cells_of}
use Rattle.image.specs.Usable.{usable, address}
use Rattle.image.proofs.UsableFacts.{facts}
use Rattle.storing.specs.Signature.{signature}
use Rattle.storing.specs.Stored.{amended, touches, FitStore}
use Rattle.storing.proofs.Stores.{byte_stays, cell_filled}
use Rattle.storing.proofs.Elsewhere.{signature_stays}
use Rattle.storing.proofs.Signatures.{word_amended}
use Rattle.rules.specs.declared.rule.Act.{Act}
use Rattle.rules.specs.declared.rule.Act.TheVariants.{Show, Sign, Store}
use Rattle.rules.specs.declared.rule.Names.{Names}
use Rattle.rules.specs.declared.rule.Names.TheVariants as N
use Rattle.rules.specs.declared.rule.Rule.{Rule}
use Rattle.rules.specs.Order.{Verdict, Refused, Accepted}
use Rattle.rules.specs.Rules.{byte, named_by, commands}
use Rattle.rules.specs.Fits.{Fit}
use Rattle.rules.proofs.Fit.{found_tested}
use Rattle.command.specs.Act.{leaves}
use Rattle.command.specs.Reply.{done}
use Rattle.izk.specs.Heard.{answered, Hearing, Lawful}
use Rattle.izk.specs.Block.{served}
use Rattle.izk.proofs.Serving.{Way, early, through, way, served_is, zero_is_accepted}
use Rattle.izk.proofs.Changes.{OnlyIn, accepted_fits, accepted_leaves, write_changes_its_cell}

-- ---- an accepted write

-- it changes its cell, the words that change along, its bit and its item's signature, and nothing else; and the word of every other item is as it was
pub record CellAndWord (d : Cell) (m m' : List ℕ) : Type 0 where
  pub only : OnlyIn V2 d m m'
  pub others : (e : Cell) → is_item e ≡ true → ¬ Memᴰ d (cells_of e) → signature V2 e m' ≡ signature V2 e m

module _ (ear : Hearing) (ok : Lawful ear) (f m out : List ℕ) (e k : ℕ) (d : Cell) (h : ear (address m) f ≡ Accepted e (Store k) d) where
  abbrev bs : List ℕ
  bs = drop k (contents_of f)

  abbrev fit : FitStore d bs
  fit = (accepted_fits ear ok f m e (Store k) d h).act

  pub write_changes : CellAndWord d m (served ear V2 f m out).image
  write_changes = record { only = write_changes_its_cell ear ok V2 f m out e d k h; others = go (way ear V2 f m out) }
    where
      go : Way ear V2 f m out → (c : Cell) → is_item c ≡ true → ¬ Memᴰ d (cells_of c) → signature V2 c (served ear V2 f m out).image ≡ signature V2 c m
      go (early n i x) c item off = rw x
      go (through u r x) c item off =
          rw (x, accepted_leaves ear V2 f m e (Store k) d h) (signature_stays V2 m (facts V2 m u).long_is d bs fit c item off)

  -- done, it has amended the word of the item that holds its cell, by what left the cell and what stands there now
  pub write_amends : (served ear V2 f m out).number ≡ 0 → (c : Cell) → is_item c ≡ true → Memᴰ d (cells_of c)
      → let m' = (served ear V2 f m out).image in
      signature V2 c m' ≡ amended (slice (offset d) (size d) m) (slice (offset d) (size d) m') (signature V2 c m)
  write_amends z c item has =
      let (u, room, x) = zero_is_accepted ear ok V2 f m out z in
      let l = (facts V2 m u).long_is in
      rw (served_is ear V2 f m out u room, accepted_leaves ear V2 f m e (Store k) d h, cell_filled V2 d bs fit m l) (word_amended m l d bs fit c item has)

-- ---- 51, 76 and 77

-- mask, mode and clock stand before all words, and nothing changes along with them
plain : Names → Bool
plain N.Mask = true
plain N.Mode = true
plain N.Clock = true
plain N.Channel = false
plain N.TablePart = false
plain N.WholeTable = false
plain N.ErrorTable = false
plain N.ErrorRows = false

abbrev of_three : ℕ → Rule → Bool
of_three k r = cond (among k (51 ∷ (76 ∷ (77 ∷ [])))) (plain r.names) true

three_plain : all (λ l. of_three l.number l.rule) commands ≡ true
unfolding all among commands plain
three_plain = refl

pub record Plain (v : Version) (d : Cell) : Type 0 where
  pub before : offset d + size d ≤ 17
  pub alone : touches v d ≡ []

untouched : (v : Version) → Plain v Mask × Plain v Mode × Plain v Clock
untouched V1 =
    (record { before = omega arith; alone = refl }, record { before = omega arith; alone = refl }, record { before = omega arith; alone = refl })
untouched V2 =
    (record { before = omega arith; alone = refl }, record { before = omega arith; alone = refl }, record { before = omega arith; alone = refl })

plain_cell : (v : Version) (n : Names) (c : List ℕ) (d : Cell) → plain n ≡ true → named_by n c ≡ Some d → Plain v d
unfolding plain
plain_cell v N.Mask c d p h = let e : Mask ≡ d = cc in rw (← e) (untouched v).0
plain_cell v N.Mode c d p h = let e : Mode ≡ d = cc in rw (← e) (untouched v).1
plain_cell v N.Clock c d p h = let e : Clock ≡ d = cc in rw (← e) (untouched v).2
plain_cell v N.Channel c d p h = absurd (never p)
plain_cell v N.TablePart c d p h = absurd (never p)
plain_cell v N.WholeTable c d p h = absurd (never p)
plain_cell v N.ErrorTable c d p h = absurd (never p)
plain_cell v N.ErrorRows c d p h = absurd (never p)

module _ (ear : Hearing) (ok : Lawful ear) (v : Version) (f m out : List ℕ) (three : among (byte (contents_of f) 2) (51 ∷ (76 ∷ (77 ∷ []))) ≡ true)
    (i : ℕ) (high : 17 ≤ i) where
  after : (a : Act) (d : Cell) → Fit a d (contents_of f) → Plain v d → usable v m ≡ true → get_or (leaves v a d (contents_of f) m) i 0 ≡ get_or m i 0
  after Show d fit p u = refl
  after Sign d fit p u = refl
  after (Store k) d fit p u =
      byte_stays v d (drop k (contents_of f)) fit m (facts v m u).long_is i (λ a. let z = p.before in absurd (omega arith)) (rw p.alone (λ w. w))

  -- every byte from the tables' words on stays, and so every word, on any image of either version
  pub three_touch_none : get_or (served ear v f m out).image i 0 ≡ get_or m i 0
  unfolding answered
  three_touch_none = go (way ear v f m out)
    where
      by : usable v m ≡ true → (r : Verdict) → ear (address m) f ≡ r → get_or (done v (ear (address m) f) (contents_of f) m).image i 0 ≡ get_or m i 0
      by u (Refused n) h = rw h
      by u (Accepted x a d) h =
          let r = ok.known (address m) f h in
          let b = ok.follows (address m) f r.0 h r.1 in
          let t : plain r.0.names ≡ true = rw three at (found_tested of_three (byte (contents_of f) 2) r.0 commands three_plain r.1) in
          rw h (after a d (accepted_fits ear ok f m x a d h).act (plain_cell v r.0.names (contents_of f) d t b.names) u)

      go : Way ear v f m out → get_or (served ear v f m out).image i 0 ≡ get_or m i 0
      go (early n x e) = rw e
      go (through u room e) = rw e (by u (ear (address m) f) refl)
