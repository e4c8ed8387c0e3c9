-- What serving a frame changes, for every version of the image and every lawful hearing: a refusal nothing, a show or a signature nothing in
-- the image, a write its own cell with the words that change along. Which of these it is rests, for one hearing, on the frame and the image's address.
-- Assumes nothing.
use mathlib.Core.Path.{◌≡◌, refl, sym, ◌∙◌}
use mathlib.Core.Logic.{◌≢◌, ◌⊎◌, inl, inr}
use mathlib.Core.List.{List}
use mathlib.Core.Bool.{true}
use Prim.Native.Nat.{ℕ, ◌≤◌, ◌<◌}
use native.Mathlib.Omega.{arith}
use lib.ListN.{length, get_or, drop}
use Rattle.laws.specs.Bytes.{slice, padded}
use Rattle.laws.specs.Bits.{bit}
use Rattle.laws.proofs.Bytes.{In, slice-same}
use Rattle.frame.specs.Apart.{contents_of}
use Rattle.image.specs.declared.cell.Cell.{Cell}
use Rattle.image.specs.declared.cell.Cell.TheVariants.{Part}
use Rattle.image.specs.declared.version.Version.{Version}
use Rattle.image.specs.Cell.{offset, size, is_cell}
use Rattle.image.specs.Words.{table_word}
use Rattle.image.specs.Usable.{usable, address}
use Rattle.image.proofs.Cells.{one_cell, placed, word_inside, part_few}
use Rattle.image.proofs.UsableFacts.{facts}
use Rattle.storing.specs.Stored.{FitStore, touches}
use Rattle.storing.proofs.Touches.{Own, touches_low, no_touch_in_cell}
use Rattle.storing.proofs.Stores.{stored-length, byte_stays, bit_stays, own_bit, cell_filled}
use Rattle.rules.specs.declared.rule.Act.{Act}
use Rattle.rules.specs.declared.rule.Act.TheVariants.{Show, Sign, Store}
use Rattle.rules.specs.Order.{Verdict, Refused, Accepted}
use Rattle.rules.specs.Fits.{FitAccepted}
use Rattle.command.specs.Act.{leaves}
use Rattle.command.specs.Reply.{done}
use Rattle.izk.specs.Heard.{answered, Hearing, Lawful}
use Rattle.izk.specs.Block.{served}
use Rattle.izk.proofs.Serving.{Way, early, through, way, served_is}

-- ---- for one hearing, and so for one position of the switch, acceptance rests on the frame and the image's address alone

number_alone : (v : Version) (r : Verdict) (c m m' : List ℕ) → (done v r c m).number ≡ (done v r c m').number
number_alone v (Refused n) c m m' = refl
number_alone v (Accepted e a d) c m m' = refl

pub acceptance_by_address : (ear : Hearing) (v : Version) (f m m' out out' : List ℕ) → usable v m ≡ true → usable v m' ≡ true → address m ≡ address m'
    → 269 ≤ length out → 269 ≤ length out' → (served ear v f m out).number ≡ (served ear v f m' out').number
unfolding answered
acceptance_by_address ear v f m m' out out' u u' a r r' =
    rw (served_is ear v f m out u r, served_is ear v f m' out' u' r', a) (number_alone v (ear (address m') f) (contents_of f) m m')

-- ---- an accepted write changes its cell, the words that change along, and nothing else

-- d is one of the 195; every byte that is not its own nor of a word that changes along with it is as it was, and so is every bit of the tables'
-- words but its own
pub record OnlyIn (v : Version) (d : Cell) (m m' : List ℕ) : Type 0 where
  pub cell : is_cell d ≡ true
  pub long : length m' ≡ length m
  pub bytes : (i : ℕ) → ¬ In (offset d) (size d) i → ¬ Own (touches v d) i → get_or m' i 0 ≡ get_or m i 0
  pub bits : (j q : ℕ) → j < 16 → d ≢ Part j q → bit (table_word m' j) q ≡ bit (table_word m j) q

pub record Filled (d : Cell) (bs m' : List ℕ) : Type 0 where
  pub bytes : slice (offset d) (size d) m' ≡ padded (size d) bs
  pub its_bit : (j q : ℕ) → d ≡ Part j q → bit (table_word m' j) q ≡ 1

pub accepted_fits : (ear : Hearing) → Lawful ear → (f m : List ℕ) (e : ℕ) (a : Act) (d : Cell) → ear (address m) f ≡ Accepted e a d
    → FitAccepted e a d (contents_of f)
accepted_fits ear ok f m e a d h = rw h at (ok.fits (address m) f)

pub accepted_leaves : (ear : Hearing) (v : Version) (f m : List ℕ) (e : ℕ) (a : Act) (d : Cell) → ear (address m) f ≡ Accepted e a d
    → (answered ear v f m).image ≡ leaves v a d (contents_of f) m
unfolding answered
accepted_leaves ear v f m e a d h = rw h

module _ (ear : Hearing) (ok : Lawful ear) (v : Version) (f m out : List ℕ) (e : ℕ) (d : Cell) where
  pub write_changes_its_cell : (k : ℕ) → ear (address m) f ≡ Accepted e (Store k) d → OnlyIn v d m (served ear v f m out).image
  write_changes_its_cell k h = go (way ear v f m out) (accepted_fits ear ok f m e (Store k) d h).act
    where
      go : Way ear v f m out → FitStore d (drop k (contents_of f)) → OnlyIn v d m (served ear v f m out).image
      go (early n i x) fit = rw x (record { cell = fit.cell; long = refl; bytes = λ i a b. refl; bits = λ j q l n. refl })
      go (through u r x) fit =
          let l = (facts v m u).long_is in
          let bs = drop k (contents_of f) in
          rw (x, accepted_leaves ear v f m e (Store k) d h)
          (record { cell = fit.cell; long = stored-length v d bs fit m l ∙ sym l; bytes = byte_stays v d bs fit m l; bits = bit_stays v d bs fit m l })

  -- the cell holds what was stored, 0 behind it, and the bit that goes with it is set if it is a part
  pub write_fills_its_cell : (k : ℕ) → ear (address m) f ≡ Accepted e (Store k) d → usable v m ≡ true → 269 ≤ length out
      → Filled d (drop k (contents_of f)) (served ear v f m out).image
  write_fills_its_cell k h u r =
      let fit = (accepted_fits ear ok f m e (Store k) d h).act in
      let l = (facts v m u).long_is in
      let bs = drop k (contents_of f) in
      rw (served_is ear v f m out u r, accepted_leaves ear v f m e (Store k) d h)
      (record { bytes = cell_filled v d bs fit m l; its_bit = own_bit v d bs fit m l })

module _ (ear : Hearing) (v : Version) (f m out : List ℕ) (e : ℕ) (d : Cell) where
  pub show_and_sign_change_nothing : (a : Act) → (a ≡ Show) ⊎ (a ≡ Sign) → ear (address m) f ≡ Accepted e a d → (served ear v f m out).image ≡ m
  show_and_sign_change_nothing a s h = go (way ear v f m out)
    where
      left : (a ≡ Show) ⊎ (a ≡ Sign) → leaves v a d (contents_of f) m ≡ m
      left (inl i) = rw i
      left (inr i) = rw i

      go : Way ear v f m out → (served ear v f m out).image ≡ m
      go (early n i x) = rw x
      go (through u r x) = rw (x, accepted_leaves ear v f m e a d h) (left s)

-- a cell is kept: its bytes, and the bit that goes with it if it is a part
pub record Kept (e : Cell) (m m' : List ℕ) : Type 0 where
  pub bytes : slice (offset e) (size e) m' ≡ slice (offset e) (size e) m
  pub its_bit : (j q : ℕ) → e ≡ Part j q → bit (table_word m' j) q ≡ bit (table_word m j) q

module _ (v : Version) (d : Cell) (m m' : List ℕ) (only : OnlyIn v d m m') where
  -- so mark, version and address stay
  pub head_keeps : (i : ℕ) → i < 6 → get_or m' i 0 ≡ get_or m i 0
  head_keeps i l =
      let p = (placed v d only.cell).low in
      only.bytes i (λ a. absurd (omega arith)) (λ w. let b = word_inside v i (touches_low v d i only.cell w) in absurd (omega arith))

  pub every_other_cell_keeps : (e : Cell) → is_cell e ≡ true → e ≢ d → Kept e m m'
  every_other_cell_keeps e c n =
      record {
        bytes =
            slice-same m' m (offset e) (size e) only.long
            (λ i a. only.bytes i (λ b. n (one_cell e d c only.cell i a b)) (no_touch_in_cell v e d c only.cell i a));
        its_bit = λ j q i. only.bits j q (part_few c i).0 (λ z. n (i ∙ sym z));
      }
