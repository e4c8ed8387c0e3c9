-- One turn and one cell: either the turn is an accepted write of the cell, and then the cell holds what the frame sends for it, or it is none, and
-- then the cell, if it is one, is as it was. On any image, with any output, for every version and every lawful hearing. Assumes nothing.
use mathlib.Core.Path.{◌≡◌, refl, sym, ap, subst, ◌∙◌}
use mathlib.Core.Logic.{◌⊎◌, inl, inr}
use mathlib.Core.List.Memᴰ
use mathlib.Core.List.{List, [], ◌∷◌, Memᴰ}
use mathlib.Core.Bool.{Bool, true, false}
use Prim.Native.Nat.{ℕ, ◌<◌}
use native.Mathlib.Decide.{ℕ_discrete}
use native.Mathlib.Omega.{arith}
use lib.ListN.{drop}
use Rattle.laws.specs.Checks.{all, among}
use Rattle.laws.proofs.Tests.{never, all_among}
use Rattle.frame.specs.Apart.{contents_of}
use Rattle.image.specs.declared.cell.Cell.{Cell}
use Rattle.image.specs.declared.version.Version.{Version}
use Rattle.image.specs.Cell.{offset, is_cell}
use Rattle.image.specs.Usable.{usable, address}
use Rattle.image.proofs.UsableFacts.{facts}
use Rattle.image.proofs.Cells.{one_cell, size-some}
use Rattle.image.proofs.Stretches.{own_cell, only_cell}
use Rattle.storing.specs.Stored.{FitStore}
use Rattle.storing.proofs.Stores.{own_bit, cell_filled}
use Rattle.rules.specs.declared.rule.Act.{Act}
use Rattle.rules.specs.declared.rule.Act.TheVariants.{Show, Sign, Store}
use Rattle.rules.specs.declared.switch.Switch.{Switch}
use Rattle.rules.specs.declared.switch.Switch.TheVariants.{Sealed}
use Rattle.rules.specs.Order.{Accepted}
use Rattle.rules.specs.Rules.{byte}
use Rattle.rules.specs.Seal.{lets}
use Rattle.command.specs.Act.{leaves, writes}
use Rattle.command.specs.Uses.{uses, use_of}
use Rattle.izk.specs.Heard.{Hearing, Lawful}
use Rattle.izk.specs.Since.{Turn, in_turn}
use Rattle.izk.proofs.Changes.{Filled, Kept, accepted_fits, show_and_sign_change_nothing, write_changes_its_cell, every_other_cell_keeps}
use Rattle.izk.proofs.Turns.{Went, refused, accepted, went}
use Rattle.order.proofs.FrameCells.{accepted_cells}
use Rattle.repeats.specs.Written.{ahead, sent_for, written_by, Wrote}
use Rattle.repeats.proofs.Ahead.{stored-from}

-- the cell holds what a frame sends for it and 0 behind that, its bit is set if it is a part; and what is sent is all that counts of the cell
pub record Holds (d : Cell) (f m : List ℕ) : Type 0 where
  pub filled : Filled d (sent_for d f) m
  pub fits : FitStore d (sent_for d f)

-- what was refused is no accepted write
pub refused_is_none : (d : Cell) (f : List ℕ) (n : ℕ) → 0 < n → ¬ Wrote d f n
refused_is_none d f n l w = let z = w.done_is in omega arith

-- nor is a frame of one of the eight commands that a sealed block serves
is_none : List Cell → Bool
is_none [] = true
is_none (c ∷ cs) = false

none_of : (cs : List Cell) → is_none cs ≡ true → (d : Cell) → ¬ Memᴰ d cs
unfolding is_none
none_of [] h d w = Memᴰ.not-nil w
none_of (c ∷ cs) h d w = never h

pub eight_write_none : (d : Cell) (f : List ℕ) (n : ℕ) → lets Sealed (byte (contents_of f) 2) ≡ true → ¬ Wrote d f n
unfolding lets all among use_of uses is_none
eight_write_none d f n eight w =
    let c = contents_of f in
    none_of _ (all_among (λ k. is_none (written_by k (byte c 3) (byte c 4))) (byte c 2) (50 ∷ 54 ∷ 55 ∷ 60 ∷ 61 ∷ 63 ∷ 64 ∷ 78 ∷ []) refl eight) d w.names

-- whether something is a given cell can be told: cells stand at offsets of their own
same_cell : (c d : Cell) → is_cell d ≡ true → Dec (c ≡ d)
same_cell c d g = go (is_cell c) refl (ℕ_discrete (offset c) (offset d))
  where
    go : (b : Bool) → is_cell c ≡ b → Dec (offset c ≡ offset d) → Dec (c ≡ d)
    go false h o = no (λ e. never (sym h ∙ ap is_cell e ∙ g))
    go true h (yes e) = yes (one_cell c d h g (offset c) (omega arith, omega (arith, size-some c h)) (omega arith, omega (arith, size-some d g)))
    go true h (no n) = no (λ e. n (ap offset e))

pub kept_same : (d : Cell) (m n : List ℕ) → n ≡ m → Kept d m n
kept_same d m n e = rw e (record { bytes = refl; its_bit = λ j q i. refl })

module _ (ear : Switch → Hearing) (ok : (s : Switch) → Lawful (ear s)) (v : Version) (d : Cell) (m : List ℕ) (x : Turn) where
  abbrev c : List ℕ
  c = contents_of x.frame

  abbrev after : List ℕ
  after = (in_turn ear v m x).image

  abbrev Did : Type 0
  Did = Wrote d x.frame (in_turn ear v m x).number

  -- what is written is stored there
  pub data Ended : Type 0 where
    written : Did → (e k : ℕ) → ear x.switch (address m) x.frame ≡ Accepted e (Store k) d → Holds d x.frame after → Ended
    left_alone : ¬ Did → (is_cell d ≡ true → Kept d m after) → Ended

  -- an accepted turn, by its act
  module _ (u : usable v m ≡ true) (e : ℕ) (b : Cell) where
    line : (a : Act) → ear x.switch (address m) x.frame ≡ Accepted e a b → writes a b ≡ written_by (byte c 2) (byte c 3) (byte c 4)
    line a h = rw h at (accepted_cells (ear x.switch) (ok x.switch) (address m) x.frame h).1

    named : (a : Act) → ear x.switch (address m) x.frame ≡ Accepted e a b → Did → Memᴰ d (writes a b)
    named a h w = subst (λ (l : List Cell). Memᴰ d l) (sym (line a h)) w.names

    looked : (a : Act) → (a ≡ Show) ⊎ (a ≡ Sign) → writes a b ≡ [] → ear x.switch (address m) x.frame ≡ Accepted e a b → Ended
    looked a s none h =
        left_alone (λ w. Memᴰ.not-nil (rw none at (named a h w)))
        (λ cell. kept_same d m after (show_and_sign_change_nothing (ear x.switch) v x.frame m x.out e b a s h))

    stores : (k : ℕ) → ear x.switch (address m) x.frame ≡ Accepted e (Store k) b → (in_turn ear v m x).number ≡ 0
        → after ≡ leaves v (Store k) b c m → Ended
    stores k h done i = go (same_cell d b fit.cell)
      where
        fit : FitStore b (drop k c)
        fit = (accepted_fits (ear x.switch) (ok x.switch) x.frame m e (Store k) b h).act

        -- what is stored is what is sent for the cell
        from : k ≡ ahead b
        from =
            let r = (ok x.switch).known (address m) x.frame h in
            stored-from c r.0 r.1 ((ok x.switch).follows (address m) x.frame r.0 h r.1)

        holds : Holds b x.frame after
        holds =
            let l = (facts v m u).long_is in
            let f : Filled b (drop k c) after = rw i (record { bytes = cell_filled v b (drop k c) fit m l; its_bit = own_bit v b (drop k c) fit m l }) in
            record { filled = subst (λ (j : ℕ). Filled b (drop j c) after) from f; fits = subst (λ (j : ℕ). FitStore b (drop j c)) from fit }

        go : Dec (d ≡ b) → Ended
        go (yes s) =
            let names = subst (λ (l : List Cell). Memᴰ d l) (line (Store k) h) (rw s (own_cell b fit.cell)) in
            written (record { done_is = done; names = names }) e k (rw s h) (rw s holds)
        go (no n) =
            left_alone (λ w. n (only_cell b d fit.cell (named (Store k) h w)))
            (λ cell. every_other_cell_keeps v b m after (write_changes_its_cell (ear x.switch) (ok x.switch) v x.frame m x.out e b k h) d cell n)

    acted : (a : Act) → ear x.switch (address m) x.frame ≡ Accepted e a b → (in_turn ear v m x).number ≡ 0 → after ≡ leaves v a b c m → Ended
    acted Show h done i = looked Show (inl refl) refl h
    acted Sign h done i = looked Sign (inr refl) refl h
    acted (Store k) h done i = stores k h done i

  pub ended : Ended
  ended = go (went ear ok v m x)
    where
      go : Went ear ok v m x → Ended
      go (refused n l i) =
          left_alone (λ w. refused_is_none d x.frame n l (subst (Wrote d x.frame) (ap (λ r. r.number) i) w))
          (λ cell. kept_same d m after (ap (λ r. r.image) i))
      go (accepted u e a b h i) = acted u e b a h (ap (λ r. r.number) i) (ap (λ r. r.image) i)

  pub decided : Dec Did
  decided = go ended
    where
      go : Ended → Dec Did
      go (written w e k i h) = yes w
      go (left_alone n k) = no n

  pub hit : Did → Holds d x.frame after
  hit w = go ended
    where
      go : Ended → Holds d x.frame after
      go (written w e k i h) = h
      go (left_alone n k) = absurd (n w)

  pub miss : ¬ Did → is_cell d ≡ true → Kept d m after
  miss n = go ended
    where
      go : Ended → is_cell d ≡ true → Kept d m after
      go (written w e k i h) = absurd (n w)
      go (left_alone n k) = k
