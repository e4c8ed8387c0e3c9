-- Laws of what a cursor lays: nothing, one thing after another, and a whole part of an output. Assumes nothing.
use mathlib.Core.Path.{◌≡◌, sym, ap, ◌∙◌}
use mathlib.Core.List.{List, [], ◌++◌, append_assoc}
use Prim.Native.Nat.{ℕ, ◌+◌, ◌-◌, ◌≤◌}
use native.Mathlib.Omega.{arith}
use lib.ListN.{length, take, length-append}
use borrow.Rule.Slice.PartMut.{put_mid, Post-is}
use Rattle.laws.proofs.Bytes.{lay-none, lay_trans, length-lay, lay-between}
use Rattle.output.specs.Cursor.{Laid}

pub laid_none : (k : ℕ) (o : List ℕ) → Laid k k o o []
laid_none k o = record { past = omega arith; laid = sym (lay-none o k) }

pub laid_then : (k k₁ k₂ : ℕ) (o o₁ o₂ M N : List ℕ) → Laid k k₁ o o₁ M → Laid k₁ k₂ o₁ o₂ N → Laid k k₂ o o₂ (M ++ N)
laid_then k k₁ k₂ o o₁ o₂ M N p q =
    record { past = omega (arith, length-append M N); laid = lay_trans o o₁ o₂ M N k k₁ p.laid p.past q.laid }

pub laid_long : {k k₁ : ℕ} {o o₁ M : List ℕ} → Laid k k₁ o o₁ M → length o₁ ≡ length o
laid_long {k} {o} {M} l = ap length l.laid ∙ length-lay o k M

-- bytes that took the place of as many
pub laid_part : (a e : ℕ) (o p bytes : List ℕ) → p ≡ bytes → e ≡ a + length bytes → e ≤ length o → Laid a e o (put_mid a (e - a) o p) bytes
laid_part a e o p bytes is past h =
    let room : a + length bytes ≤ length o = omega arith in
    record {
      past = past;
      laid = rw (is, Post-is a e o (omega arith), past, lay-between o a bytes room) (sym (append_assoc (take a o) bytes _));
    }
