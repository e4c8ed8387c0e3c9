-- A true word, as the two bytes of its sum. The low one has to be a byte for that, which it is in every lent buffer, and which no write changes. Assumes
-- nothing.
use Rattle.std.specs.Prelude.{Option}
use mathlib.Core.Path.{◌≡◌, sym, ap, ◌∙◌}
use mathlib.Core.List.{List, []}
use Prim.Native.Nat.{ℕ, ◌+◌, ◌*◌, ◌/◌, ◌%◌, ◌≤◌, ◌<◌}
use native.Mathlib.Decide.{ℕ_discrete}
use native.Mathlib.Omega.{arith}
use lib.ListN.{length, get_or, drop}
use Rattle.laws.specs.Bytes.{slice, lay, padded, two, word_at}
use Rattle.laws.proofs.Bytes.{length-lay, lay_in, lay_out, length-padded}
use Rattle.frame.specs.Apart.{contents_of}
use Rattle.image.specs.declared.cell.Cell.{Cell}
use Rattle.image.specs.declared.version.Version.TheVariants.{V1, V2}
use Rattle.image.specs.Version.{image_length}
use Rattle.image.specs.Cell.{offset, size, item_at}
use Rattle.image.specs.Words.{kept_offset, signature_word}
use Rattle.image.proofs.Cells.{placed}
use Rattle.image.proofs.Kept.{item_is, item_word, Counts, nowhere, in_word, counts_view}
use Rattle.storing.specs.Signature.{full_sum, word_kept, TrueWords}
use Rattle.storing.specs.Stored.{touched_all, bits, amended, amending, stored, FitStore}
use Rattle.storing.proofs.Touches.{Own, touched-byte, bits_below, amend_first}
use Rattle.rules.specs.declared.rule.Act.{Act}
use Rattle.rules.specs.declared.rule.Act.TheVariants.{Show, Sign, Store}
use Rattle.rules.specs.declared.switch.Switch.{Switch}
use Rattle.rules.specs.Fits.{Fit}
use Rattle.command.specs.Act.{leaves}
use Rattle.izk.specs.Heard.{Hearing, Lawful}
use Rattle.izk.specs.Since.{Turn, in_turn}
use Rattle.kept.proofs.Truth.{turn_keeps}
use Rattle.versions.proofs.Moved.{TwoAt}

-- each word is the two bytes of its item's sum
abbrev pub Summed : List ℕ → Type 0
Summed n = (i : ℕ) → i < 32 → TwoAt n (kept_offset i) (full_sum (item_at i) n)

-- the low byte of each word is a byte
abbrev pub Low : List ℕ → Type 0
Low n = (i : ℕ) → i < 32 → get_or n (kept_offset i + 1) 0 < 256

pub summed : (n : List ℕ) → TrueWords n → Low n → Summed n
unfolding word_at
summed n t b i l = record { high = high _ _ _ (b i l) is; low = low _ _ _ (b i l) is }
  where
    is : 256 * get_or n (kept_offset i) 0 + get_or n (kept_offset i + 1) 0 ≡ full_sum (item_at i) n
    is = sym (ap (λ (x : Option ℕ). word_kept x n) (item_word i l)) ∙ t (item_at i) (item_is i l)

    high : (x y s : ℕ) → y < 256 → 256 * x + y ≡ s → x ≡ s / 256
    high x y s h e = omega arith

    low : (x y s : ℕ) → y < 256 → 256 * x + y ≡ s → y ≡ s % 256
    low x y s h e = omega arith

-- ---- low bytes stay bytes

module _ (m : List ℕ) (long : length m ≡ image_length V2) (d : Cell) (bs : List ℕ) (fit : FitStore d bs) where
  abbrev old : List ℕ
  old = slice (offset d) (size d) m

  abbrev new : List ℕ
  new = padded (size d) bs

  abbrev under : List ℕ
  under = lay m (offset d) new

  under_low : Low m → Low under
  under_low b i l = rw (lay_out m (offset d) new (kept_offset i + 1) out) (b i l)
    where
      out : (offset d ≤ kept_offset i + 1) × (kept_offset i + 1 < offset d + length new) → ⊥
      out p = omega (arith, (placed V1 d fit.cell).high, length-padded (size d) bs fit.room)

  -- where a word is amended, its low byte is a remainder by 256
  word_low : (k w i : ℕ) → Low m → i < 32 → get_or (lay under (kept_offset k) (two w)) (kept_offset i + 1) 0 < 256
  unfolding two
  word_low k w i b l = go (ℕ_discrete k i)
    where
      room : length under ≡ image_length V2
      room = length-lay m (offset d) new ∙ long

      go : Dec (k ≡ i) → get_or (lay under (kept_offset k) (two w)) (kept_offset i + 1) 0 < 256
      go (yes e) =
          let over = lay under (kept_offset k) (two w) in
          let z : get_or over (kept_offset k + 1) 0 ≡ w % 256 = lay_in under (kept_offset k) (two w) 1 (omega arith) (omega (arith, room)) in
          rw (← e, z) (omega arith)
      go (no n) = rw (lay_out under (kept_offset k) (two w) (kept_offset i + 1) (λ p. n (omega arith))) (under_low b i l)

  amended_low : {x : Option ℕ} → Counts d x → Low m → Low (touched_all old new (amending x []) under)
  amended_low (nowhere a) b = under_low b
  amended_low (in_word k a) b = λ i l. word_low k (amended old new (word_at under (kept_offset k))) i b l

  stored_low : Low m → Low (stored V2 d bs m)
  unfolding stored
  stored_low b i l =
      let over = touched_all old new (amending (signature_word d) []) under in
      let out : ¬ Own (bits d) (kept_offset i + 1) = (λ o. absurd (omega (arith, bits_below d (kept_offset i + 1) fit.cell o))) in
      rw (amend_first old new (signature_word d) (bits d) under, touched-byte old new (bits d) over (kept_offset i + 1) out)
      (amended_low (counts_view d) b i l)

pub call_low : (ear : Switch → Hearing) (ok : (s : Switch) → Lawful (ear s)) (m : List ℕ) (x : Turn) → Low m → Low (in_turn ear V2 m x).image
call_low ear ok m x b = turn_keeps ear ok Low m x b after
  where
    after : (a : Act) (d : Cell) → Fit a d (contents_of x.frame) → length m ≡ image_length V2 → Low (leaves V2 a d (contents_of x.frame) m)
    after Show d f l = b
    after Sign d f l = b
    after (Store k) d f l = stored_low m l d (drop k (contents_of x.frame)) f b
