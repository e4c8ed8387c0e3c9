-- A part that is written twice counts once (document 01's fifth easy error): what writing a part does to its table's held parts. Assumes nothing.
use mathlib.Core.Path.{◌≡◌, refl, sym, ap, ◌∙◌}
use mathlib.Core.Logic.{inl, inr}
use mathlib.Core.List.{List}
use mathlib.Core.Bool.{true}
use Prim.Native.Nat.{ℕ, ◌+◌, ◌-◌, ◌≤◌, ◌<◌}
use native.Mathlib.Omega.{arith}
use lib.ListN.{length, drop}
use Rattle.laws.specs.Checks.{judged}
use Rattle.laws.specs.Bits.{bit, ones_in}
use Rattle.laws.proofs.Bits.{ones_with}
use Rattle.frame.specs.Apart.{contents_of}
use Rattle.image.specs.declared.cell.Cell.TheVariants.{Part}
use Rattle.image.specs.declared.version.Version.{Version}
use Rattle.image.specs.Version.{image_length}
use Rattle.image.specs.Cell.{is_table, table_index}
use Rattle.image.specs.Words.{table_word}
use Rattle.image.specs.Usable.{usable, address}
use Rattle.image.specs.Held.{held_of, held_parts}
use Rattle.image.proofs.Cells.{part_numbers}
use Rattle.image.proofs.UsableFacts.{facts}
use Rattle.storing.specs.Stored.{stored, FitStore}
use Rattle.storing.proofs.Touches.{WordAfter}
use Rattle.storing.proofs.Stores.{word_stored, own_bit}
use Rattle.rules.specs.declared.rule.Act.TheVariants.{Store}
use Rattle.rules.specs.Order.{Accepted}
use Rattle.izk.specs.Heard.{Hearing, Lawful}
use Rattle.izk.specs.Block.{served}
use Rattle.izk.proofs.Serving.{served_is, usable_stays}
use Rattle.izk.proofs.Changes.{accepted_fits, accepted_leaves}

-- of a usable image and a table, the answer is from the table's word
pub held_is : (v : Version) (m : List ℕ) (t : ℕ) → usable v m ≡ true → is_table t ≡ true → held_parts v m t ≡ held_of (table_word m (table_index t))
unfolding held_parts judged
held_is v m t u i = rw (u, i)

-- the count of a word with a part's bit set
counted : (v : Version) (k p : ℕ) (bs m : List ℕ) → FitStore (Part k p) bs → usable v m ≡ true
    → ones_in 11 (table_word (stored v (Part k p) bs m) k) ≡ ones_in 11 (table_word m k) + (1 - bit (table_word m k) p)
counted v k p bs m fit u = go (word_stored v (Part k p) bs fit m whole k numbers.0)
  where
    whole : length m ≡ image_length v
    whole = (facts v m u).long_is

    numbers : (k < 16) × (p < 11)
    numbers = part_numbers k p fit.cell

    go : WordAfter (Part k p) k (table_word m k) (table_word (stored v (Part k p) bs m) k)
        → ones_in 11 (table_word (stored v (Part k p) bs m) k) ≡ ones_in 11 (table_word m k) + (1 - bit (table_word m k) p)
    go (inl e) =
        let b : bit (table_word m k) p ≡ 1 = ap (λ (w : ℕ). bit w p) (sym e) ∙ own_bit v (Part k p) bs fit m whole k p refl in
        rw (e, b) (omega arith)
    go (inr (q, same, l, e)) =
        let z : q ≡ p = cc in
        rw (e, z) (ones_with 11 (table_word m k) p numbers.1)

-- the number of held parts grows by one if the part was missing, and stays if it was held
pub part_counts_once : (ear : Hearing) → Lawful ear → (v : Version) (f m out : List ℕ) (e n t p : ℕ) → is_table t ≡ true
    → ear (address m) f ≡ Accepted e (Store n) (Part (table_index t) p)
    → usable v m ≡ true → 269 ≤ length out
    → (held_parts v (served ear v f m out).image t).parts ≡ (held_parts v m t).parts + (1 - bit (table_word m (table_index t)) p)
unfolding held_of
part_counts_once ear ok v f m out e n t p i h u r =
    rw (
      held_is v (served ear v f m out).image t (usable_stays ear ok v f m out u) i,
      held_is v m t u i,
      served_is ear v f m out u r,
      accepted_leaves ear v f m e (Store n) (Part (table_index t) p) h,
    )
    (counted v (table_index t) p (drop n (contents_of f)) m (accepted_fits ear ok f m e (Store n) (Part (table_index t) p) h).act u)
