-- What a byte does, case by case, as the code asks: by facts about the numbers. Assumes nothing.
use mathlib.Core.Path.{◌≡◌, refl}
use mathlib.Core.Bool.{Bool, true, false, cond, ◌&&◌, and-false}
use Prim.Native.Nat.{ℕ, zero, suc, ◌-◌, ◌<◌, ◌≤◌}
use native.Mathlib.Omega.{arith}
use lib.Dec.{leb, eqb}
use borrow.Author.Tests.{leb-true, eqb-false, le-leb, lt-leb, eq-eqb, ne_eqb}
use Rattle.laws.specs.Checks.{within}
use Rattle.laws.proofs.Tests.{and_both, within_in}
use Rattle.listener.specs.Listening.{Step, starts, passes, drops, gathers, ends_frame, step_of, before_at}

module _ (before count : ℕ) (g : Bool) (byte : ℕ) where
  -- the flag is off, or no room has so many
  pub not_gathering : ¬ (byte ≡ 58) → (g && leb count 269) ≡ false → step_of before count g byte ≡ passes count g
  unfolding step_of
  not_gathering n e = rw (ne_eqb byte 58 n, e)

  pub over_full : ¬ (byte ≡ 58) → 269 < count → step_of before count g byte ≡ passes count g
  over_full n h = not_gathering n (rw (lt-leb count 269 h, and-false))

  pub is_full : ¬ (byte ≡ 58) → g ≡ true → count ≡ 269 → step_of before count g byte ≡ drops
  unfolding step_of
  is_full n e h = rw (ne_eqb byte 58 n, e, le-leb count 269 (omega arith), eq-eqb count 269 h)

  pub has_room : (ends : Bool) → ¬ (byte ≡ 58) → g ≡ true → count < 269 → ends_frame before count byte ≡ ends → step_of before count g byte ≡ gathers count ends
  unfolding step_of
  has_room ends n e h k = rw (ne_eqb byte 58 n, e, le-leb count 269 (omega arith), ne_eqb count 269 (omega arith), k)

-- ---- whether it ends the frame

module _ (before count byte : ℕ) where
  pub none_before : count ≡ 0 → ends_frame before count byte ≡ false
  unfolding ends_frame
  none_before h = rw h

  pub no_return : ¬ (before ≡ 13) → ends_frame before count byte ≡ false
  unfolding ends_frame
  no_return n = rw (ne_eqb before 13 n, and-false)

  pub by_line_feed : 1 ≤ count → before ≡ 13 → ends_frame before count byte ≡ eqb byte 10
  unfolding ends_frame
  by_line_feed h e = rw (le-leb 1 count h, eq-eqb before 13 e)

-- ---- where the byte before stands

-- with none gathered, 0 - 1 is 0 too
pub before_is : (count : ℕ) → count ≤ 269 → before_at count ≡ count - 1
unfolding before_at within
before_is zero h = refl
before_is (suc n) h = rw (within_in 1 269 (suc n) (omega arith) h)

-- ---- which of the four things a byte does, whatever it is

pub data Does (count : ℕ) (g : Bool) (s : Step) : Type 0 where
  starts_it : s ≡ starts → Does count g s
  lets_pass : (g && leb count 269) ≡ false → s ≡ passes count g → Does count g s
  drops-all : s ≡ drops → Does count g s
  adds_one : (ends : Bool) → count < 269 → s ≡ gathers count ends → Does count g s

pub does : (before count : ℕ) (g : Bool) (byte : ℕ) → Does count g (step_of before count g byte)
unfolding step_of
does before count g byte = by (eqb byte 58) (g && leb count 269) refl (eqb count 269) refl
  where
    by : (colon room : Bool) → (g && leb count 269) ≡ room → (full : Bool) → eqb count 269 ≡ full
        → Does count g (cond colon starts (cond room (cond full drops (gathers count (ends_frame before count byte))) (passes count g)))
    by true room e full k = starts_it refl
    by false false e full k = lets_pass e refl
    by false true e true k = drops-all refl
    by false true e false k =
        let low = leb-true count 269 (and_both g (leb count 269) e).1 in
        let other = eqb-false count 269 k in
        adds_one (ends_frame before count byte) (omega arith) refl
