-- Laws of what a writer lays: characters, and a whole frame. Assumes nothing.
use mathlib.Core.Path.{◌≡◌, refl, sym}
use mathlib.Core.List.{List, [], ◌∷◌, ◌++◌, append_assoc}
use Prim.Native.Nat.{ℕ, ◌+◌, ◌*◌, ◌≤◌, ◌<◌}
use native.Mathlib.Omega.{arith}
use lib.ListN.{length, get_or, drop, length-append}
use Rattle.std.specs.Prelude.{Ok}
use Rattle.laws.proofs.Sums.{sum_empty, sum-append}
use Rattle.laws.proofs.Walks.{next, none_left}
use Rattle.output.specs.Cursor.{Laid}
use Rattle.output.specs.Output.{answer_of, written, Does}
use Rattle.output.proofs.Laying.{laid_none, laid_then, laid_long}
use Rattle.frame.specs.declared.writer.Writer.{Writer}
use Rattle.frame.specs.Digits.{chars_of, check_of, checksum_of}
use Rattle.frame.specs.Built.{frame_of}
use Rattle.frame.specs.Written.{Begins, Spells, Ends}

-- ---- characters

module _ (s : List ℕ) (i : ℕ) where
  pub chars_next : i < length s → chars_of (drop i s) ≡ chars_of (get_or s i 0 ∷ []) ++ chars_of (drop (i + 1) s)
  unfolding chars_of
  chars_next h = rw (next s i h)

  pub chars_done : length s ≤ i → chars_of (drop i s) ≡ []
  unfolding chars_of
  chars_done h = rw (none_left s i h)

pub length_chars : (s : List ℕ) → length (chars_of s) ≡ 2 * length s
unfolding chars_of
length_chars [] = refl
length_chars (b ∷ s) = let e = length_chars s in omega arith

chars_append : (a b : List ℕ) → chars_of (a ++ b) ≡ chars_of a ++ chars_of b
unfolding chars_of
chars_append [] b = refl
chars_append (x ∷ a) b = rw (chars_append a b)

-- ---- bytes that are spelt one after another

pub spells_none : (w : Writer) (o : List ℕ) → w.total < 256 → Spells w o [] w o
unfolding chars_of
spells_none w o h = record { spelt = laid_none _ _; total_is = omega (arith, sum_empty [] refl) }

pub spells_then : (w w₁ w₂ : Writer) (o o₁ o₂ a b : List ℕ) → Spells w o a w₁ o₁ → Spells w₁ o₁ b w₂ o₂ → Spells w o (a ++ b) w₂ o₂
spells_then w w₁ w₂ o o₁ o₂ a b p q =
    record {
      spelt = rw chars_append (laid_then _ _ _ _ _ _ _ _ p.spelt q.spelt);
      total_is = omega (arith, p.total_is, q.total_is, sum-append a b);
    }

-- where the writer comes to stand, and how long the output stays
pub spells_past : {w w' : Writer} {o o' bytes : List ℕ} → Spells w o bytes w' o' → (w'.at ≡ w.at + 2 * length bytes) × (length o' ≡ length o)
spells_past {bytes} s = (omega (arith, s.spelt.past, length_chars bytes), laid_long s.spelt)

-- ---- a frame

pub length_frame : (c : List ℕ) → length (frame_of c) ≡ 2 * length c + 5
unfolding frame_of
length_frame c =
    let b : List ℕ = c ++ (checksum_of c ∷ []) in
    omega (arith, length-append (chars_of b) (13 ∷ (10 ∷ [])), length_chars b, length-append c (checksum_of c ∷ []))

joined : (c : List ℕ) (k : ℕ) → k ≡ checksum_of c → (58 ∷ chars_of c) ++ (chars_of (k ∷ []) ++ (13 ∷ (10 ∷ []))) ≡ frame_of c
unfolding frame_of
joined c k e = rw (e, chars_append) (sym (append_assoc (58 ∷ chars_of c) (chars_of (checksum_of c ∷ [])) (13 ∷ (10 ∷ []))))

-- begun, spelt and ended it is written
pub frame_written : (c o o₁ o₂ o₃ : List ℕ) (w w' : Writer) (len : ℕ) → Begins o w o₁ → Spells w o₁ c w' o₂ → Ends w' o₂ len o₃
    → Does (written o (frame_of c)) (answer_of (Ok len)) o₃
unfolding checksum_of
frame_written c o o₁ o₂ o₃ w w' len b s e =
    let k : check_of w'.total ≡ checksum_of c = omega (arith, b.total_is, s.total_is) in
    let l : Laid 0 len o o₃ (frame_of c) =
    rw (← joined c _ k) (laid_then _ _ _ _ _ _ _ _ (laid_then _ _ _ _ _ _ _ _ b.opened s.spelt) e.closed) in
    record { number_is = refl; len_is = omega (arith, l.past); out_is = l.laid }
