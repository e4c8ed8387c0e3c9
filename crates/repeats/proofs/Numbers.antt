-- What it is to hold what a frame sends, in the documents' numbers: of a part 128 bytes and the bit, of an error table its count, its rows and zeros behind
-- them; and what an accepted write of a part is, by the frame's own bytes. Assumes nothing.
use mathlib.Core.Path.{◌≡◌, refl, ap, ◌∙◌}
use mathlib.Core.Logic.{◌≢◌, ◌⊎◌, inl, inr, ◌↔◌}
use mathlib.Core.List.Memᴰ
use mathlib.Core.List.{List, ◌++◌, append-nil}
use mathlib.Core.Bool.{true}
use Prim.Native.Nat.{ℕ, ◌+◌, ◌-◌, ◌*◌, ◌≤◌, ◌<◌}
use native.Mathlib.Omega.{arith}
use lib.ListN.{length, get_or, drop}
use lib.Seq.{get_or-take, get_or-drop}
use borrow.Author.Tests.{eq-eqb, eqb-true}
use Rattle.laws.specs.Bytes.{slice, zeros, padded, word_at}
use Rattle.laws.specs.Bits.{bit}
use Rattle.laws.proofs.Tests.{and_both}
use Rattle.frame.specs.Apart.{contents_of}
use Rattle.image.specs.declared.cell.Cell.{Cell}
use Rattle.image.specs.declared.cell.Cell.TheVariants.{Errors, Part}
use Rattle.image.specs.declared.version.Version.{Version}
use Rattle.image.specs.Cell.{offset, size, extent, is_table, table_index}
use Rattle.image.specs.Words.{table_word}
use Rattle.image.proofs.Cells.{extent_view}
use Rattle.rules.specs.declared.switch.Switch.{Switch}
use Rattle.rules.specs.Rules.{byte}
use Rattle.command.specs.Uses.{uses, use_of}
use Rattle.izk.specs.Heard.{Hearing, Lawful}
use Rattle.izk.specs.Since.{Turn, in_turn, writes_part, wrote}
use Rattle.izk.proofs.Serving.{zero_is_accepted}
use Rattle.izk.proofs.Changes.{Kept}
use Rattle.izk.proofs.HeldSince.{write_is, stores_own}
use Rattle.repeats.specs.Written.{sent_for, Wrote}
use Rattle.repeats.proofs.Written.{Holds, Ended, written, left_alone, ended}

-- ---- what a cell holds, in the documents' numbers

-- what fills a cell is not padded
whole : (n : ℕ) (bs : List ℕ) → length bs ≡ n → padded n bs ≡ bs
unfolding padded zeros
whole n bs h = let z : n - length bs ≡ 0 = omega arith in rw (z, append-nil)

module _ (f m : List ℕ) where
  filled-whole : (d : Cell) → Holds d f m → ((n : ℕ) → extent d n ≡ size d) → slice (offset d) (size d) m ≡ sent_for d f
  filled-whole d h all = h.filled.bytes ∙ whole (size d) (sent_for d f) (h.fits.counts ∙ all _)

  -- any cell but an error table holds the bytes that were sent for it, which are as many as it has
  pub holds_whole : (d : Cell) → ((e : ℕ) → d ≢ Errors e) → Holds d f m → (slice (offset d) (size d) m ≡ sent_for d f) × (length (sent_for d f) ≡ size d)
  holds_whole d other h = (filled-whole d h (go (extent_view d)), h.fits.counts ∙ go (extent_view d) _)
    where
      go : ((n : ℕ) → extent d n ≡ size d) ⊎ ((e : ℕ) × (d ≡ Errors e)) → (n : ℕ) → extent d n ≡ size d
      go (inl a) = a
      go (inr (e, i)) = absurd (other e i)

  -- part p of table t holds the bytes from byte 5 of the body on, 128 of them, and has its bit
  pub holds_part : (t p : ℕ) → Holds (Part (table_index t) (p - 1)) f m
      → (slice (1225 + 1408 * table_index t + 128 * (p - 1)) 128 m ≡ drop 4 (contents_of f)) × (length (drop 4 (contents_of f)) ≡ 128)
      × (bit (word_at m (17 + 2 * table_index t)) (p - 1) ≡ 1)
  unfolding table_word
  holds_part t p h = (filled-whole (Part (table_index t) (p - 1)) h (λ n. refl), h.fits.counts, h.filled.its_bit (table_index t) (p - 1) refl)

  -- error table n holds the count and as many rows of three, from byte 4 of the body on, and zeros behind them up to its 64 bytes
  pub holds_errors : (n : ℕ) → Holds (Errors (n - 1)) f m
      → let sent = drop 3 (contents_of f) in
      (slice (713 + 64 * (n - 1)) 64 m ≡ sent ++ zeros (64 - length sent)) × (length sent ≡ 1 + 3 * byte (contents_of f) 4)
  unfolding padded
  holds_errors n h = (h.filled.bytes, h.fits.counts ∙ ap (λ (b : ℕ). 1 + 3 * b) (get_or-drop 3 (contents_of f) 0 0))

-- a cell that is kept has each of its bytes as it was
pub kept_each : (d : Cell) (m n : List ℕ) → Kept d m n → (i : ℕ) → i < size d → get_or n (offset d + i) 0 ≡ get_or m (offset d + i) 0
unfolding slice
kept_each d m n k i l = simp (get_or-take, get_or-drop) at (ap (λ (x : List ℕ). get_or x i 0) k.bytes)

-- and a part its 128 bytes and its bit
pub kept_part : (t p : ℕ) (m n : List ℕ) → Kept (Part (table_index t) (p - 1)) m n
    → (slice (1225 + 1408 * table_index t + 128 * (p - 1)) 128 n ≡ slice (1225 + 1408 * table_index t + 128 * (p - 1)) 128 m)
    × (bit (word_at n (17 + 2 * table_index t)) (p - 1) ≡ bit (word_at m (17 + 2 * table_index t)) (p - 1))
unfolding table_word
kept_part t p m n k = (k.bytes, k.its_bit (table_index t) (p - 1) refl)

-- ---- what counts as writing a part

module _ (ear : Switch → Hearing) (ok : (s : Switch) → Lawful (ear s)) (v : Version) (t p : ℕ) (table : is_table t ≡ true) (low : 1 ≤ p)
    (m : List ℕ) (x : Turn) where
  abbrev c : List ℕ
  c = contents_of x.frame

  abbrev Did : Type 0
  Did = Wrote (Part (table_index t) (p - 1)) x.frame (in_turn ear v m x).number

  told : Did → wrote ear v t p m x ≡ true
  unfolding wrote
  told w = rw (eq-eqb _ _ w.done_is) (go (ended ear ok v (Part (table_index t) (p - 1)) m x))
    where
      go : Ended ear ok v (Part (table_index t) (p - 1)) m x → writes_part t p c ≡ true
      go (written w e k h holds) =
          let (u, room, a) = zero_is_accepted (ear x.switch) (ok x.switch) v x.frame m x.out w.done_is in
          stores_own ear ok v t p table low x.switch x.frame m u e (Part (table_index t) (p - 1)) k h refl
      go (left_alone n kept) = absurd (n w)

  counted : wrote ear v t p m x ≡ true → Did
  unfolding wrote use_of uses
  counted w =
      let q = and_both _ _ w in
      let b = write_is t p c q.1 in
      record { done_is = eqb-true _ _ q.0; names = rw (b.0, b.1, b.2) (Memᴰ.head refl) }

  -- a turn is an accepted write of part p of table t exactly if it was done and is a 59 that names them
  pub part-wrote : Did ↔ (wrote ear v t p m x ≡ true)
  part-wrote = (told, counted)
