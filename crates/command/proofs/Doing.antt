-- What the code that acts cites: the stretches it reads lie in the image, the bytes it lays are what the definitions say and store. Assumes
-- nothing.
use mathlib.Core.Path.{◌≡◌, sym, ap, ◌∙◌}
use mathlib.Core.Logic.{⊎_elim}
use mathlib.Core.Bool.{true}
use mathlib.Core.List.{List, [], ◌∷◌}
use Prim.Native.Nat.{ℕ, ◌+◌, ◌-◌, ◌/◌, ◌%◌, ◌≤◌, ◌<◌}
use native.Mathlib.Omega.{arith}
use types.Run.{OneOf, miss}
use denote.Enum.Declared.{tag_of}
use lib.ListN.{length, get_or, take, drop, length-take, length-drop}
use lib.Seq.{take_all, length-take-le}
use Rattle.laws.specs.Bytes.{two}
use Rattle.laws.proofs.Bytes.{slice_is}
use Rattle.image.specs.declared.cell.Cell.{Cell}
use Rattle.image.specs.declared.cell.Cell.TheVariants.{Errors}
use Rattle.image.specs.Version.{current, image_length}
use Rattle.image.specs.Cell.{offset, size, extent, is_cell, is_item}
use Rattle.image.specs.Usable.{usable}
use Rattle.image.proofs.Cells.{placed, extent_view, size-some}
use Rattle.image.specs.contracts.cell.Cell.{the_type}
use Rattle.image.proofs.UsableFacts.{facts}
use Rattle.storing.specs.Signature.{signature}
use Rattle.storing.specs.Stored.{FitStore}
use Rattle.storing.proofs.Elsewhere.{extent_fits}
use Rattle.rules.specs.declared.rule.Act.{Act}
use Rattle.rules.specs.declared.rule.Act.TheVariants.{Show, Sign, Store}
use Rattle.rules.specs.Fits.{Fit, FitAccepted}
use Rattle.command.specs.Act.{says}

-- ---- a match's last arm knows the tag alone; an error table has tag 4

pub all_counts : (d : Cell) (n : ℕ) → OneOf (0 ∷ 1 ∷ 2 ∷ 3 ∷ 5 ∷ 6 ∷ []) (tag_of the_type d) → size d ≡ extent d n
all_counts d n h = ⊎_elim (λ w. sym (w n)) (λ p. absurd (miss (0 ∷ 1 ∷ 2 ∷ 3 ∷ 5 ∷ 6 ∷ []) 4 tt (rw p.1 at h))) (extent_view d)

-- ---- what is read lies in the image

pub image_long : (m : List ℕ) → usable current m ≡ true → length m ≡ image_length current
image_long m u = (facts current m u).long_is

-- a cell's bytes that count, from where they were found to begin
module _ (d : Cell) (m : List ℕ) (u : usable current m ≡ true) (h : is_cell d ≡ true) {a : ℕ} (a-is : a ≡ offset d) where
  pub first_inside : a < image_length current
  first_inside = omega (arith, (placed current d h).high, size-some d h)

  module _ {n : ℕ} (n-is : n ≡ extent d (get_or m a 0)) where
    counted : n ≡ extent d (get_or m (offset d) 0)
    counted = n-is ∙ ap (λ (i : ℕ). extent d (get_or m i 0)) a-is

    few : n ≤ size d
    few = rw counted (extent_fits current m (facts current m u) d h)

    pub shown-inside : a + n ≤ image_length current
    shown-inside = omega (arith, (placed current d h).high, few)

    pub shown_is : take (a + n - a) (drop a m) ≡ says current Show d m
    shown_is = slice_is a (a + n) n m (omega arith) ∙ rw (a-is, counted)

    pub shown_few : length (take (a + n - a) (drop a m)) ≤ size d
    shown_few = omega (arith, few, length-take (a + n - a) (drop a m))

-- a signature's two bytes
pub signed_is : (d : Cell) (m : List ℕ) {s : ℕ} → s ≡ signature current d m → s / 256 ∷ (s % 256 ∷ []) ≡ says current Sign d m
unfolding two
signed_is d m e = ap two e

-- ---- what is said

-- the act of an accepted body
module _ {e : ℕ} {a : Act} {d : Cell} {c : List ℕ} (f : FitAccepted e a d c) where
  pub shows : a ≡ Show → (is_cell d ≡ true) × (e + size d ≤ 130)
  shows i = (rw i at f.act, rw i at f.reply)

  pub signs : a ≡ Sign → (is_item d ≡ true) × (e + 2 ≤ 130)
  signs i = (rw i at f.act, rw i at f.reply)

  pub opening : length (take (2 + e) c) ≡ 2 + e
  opening = length-take-le (2 + e) c f.echoed

-- ---- what is stored

pub stores : (d : Cell) (c : List ℕ) {a : Act} {k : ℕ} → a ≡ Store k → Fit a d c → FitStore d (drop k c)
stores d c e f = rw e at f

-- the slice from an index on
pub tail_is : (k : ℕ) (c : List ℕ) → take (length c - k) (drop k c) ≡ drop k c
tail_is k c = take_all (length c - k) (drop k c) (omega (arith, length-drop k c))

-- a stored cell has at least one byte
pub some_stored : (d : Cell) (k : ℕ) (c : List ℕ) → FitStore d (drop k c) → k ≤ length c
some_stored d k c f = ⊎_elim whole counted (extent_view d)
  where
    whole : ((n : ℕ) → extent d n ≡ size d) → k ≤ length c
    whole h = omega (arith, length-drop k c, f.counts, h (get_or (drop k c) 0 0), size-some d f.cell)

    counted : ((e : ℕ) × (d ≡ Errors e)) → k ≤ length c
    counted p = omega (arith, length-drop k c, f.counts, ap (λ (x : Cell). extent x (get_or (drop k c) 0 0)) p.1)
