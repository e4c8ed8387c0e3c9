-- What a temperature byte means, and which order of bytes that is (document 02, request 5): 81h to FFh, then 00h to 80h. On either side of 128 the
-- library's signed numbers compute; the rest is that taking the same from two numbers keeps their order. Assumes nothing.
use mathlib.Core.Path.{◌≡◌, refl, ap}
use mathlib.Core.Logic.{◌≢◌}
use Prim.Native.Nat.{ℕ, suc, ◌+◌, ◌-◌, ◌%◌, ◌≤◌, ◌<◌}
use native.Mathlib.Decide.{dec_lt}
use native.Mathlib.Omega.{arith}
use lib.Dec.{ltb}
use lib.IntN.{pos, negsuc, neg_ℤ, sub_ℕ, ◌-ℤ◌}
use lib.Signed.{lt_z}
use mir.Syntax.{w8}
use mir.Val.{to_z}
use borrow.Author.Tests.{lt-ltb, le-ltb, le-leb, lt-leb}
use Rattle.rules.specs.Rules.{degrees}

-- ---- what a byte means

-- its two stretches, 81h to FFh and 00h to 80h, by their ends
pub degrees-ends : (degrees 129 ≡ neg_ℤ (pos 127)) × (degrees 255 ≡ neg_ℤ (pos 1)) × (degrees 0 ≡ pos 0) × (degrees 128 ≡ pos 128)
unfolding degrees
degrees-ends = (refl, refl, refl, refl)

-- 81h is -127, and each byte after it, FFh being followed by 00h, means one degree more
pub degrees-counted : (b : ℕ) → b < 256 → degrees b ≡ pos ((b + 127) % 256) -ℤ pos 127
unfolding degrees
degrees-counted b h = go (dec_lt 128 b)
  where
    go : Dec (128 < b) → degrees b ≡ pos ((b + 127) % 256) -ℤ pos 127
    go (yes g) =
        let p : (b + 127) % 256 ≡ b - 129 = omega arith in
        rw (lt-leb b 128 g, p, lt-ltb b 256 h, lt-ltb (b - 129) 127 (omega arith)) (ap negsuc (omega arith))
    go (no g) =
        let p : (b + 127) % 256 ≡ b + 127 = omega arith in
        rw (le-leb b 128 (omega arith), p, le-ltb (b + 127) 127 (omega arith)) (ap pos (omega arith))

-- of every byte but 80h that is two's complement, as document 01 read it
pub degrees_but_80h : (b : ℕ) → b < 256 → b ≢ 128 → degrees b ≡ to_z w8 b
unfolding degrees
degrees_but_80h b h n = go (dec_lt 128 b)
  where
    go : Dec (128 < b) → degrees b ≡ to_z w8 b
    go (yes g) = rw (lt-leb b 128 g, lt-ltb b 256 h, le-ltb b 128 (omega arith))
    go (no g) = rw (le-leb b 128 (omega arith), lt-ltb b 128 (omega arith))

-- ---- the order of two bytes

-- two comparisons that hold together and fail together
same_test : (a b c d : ℕ) → (a < b → c < d) → (b ≤ a → d ≤ c) → ltb a b ≡ ltb c d
same_test a b c d f g = go (dec_lt a b)
  where
    go : Dec (a < b) → ltb a b ≡ ltb c d
    go (yes h) = rw (lt-ltb a b h, lt-ltb c d (f h))
    go (no h) = rw (le-ltb a b (omega arith), le-ltb c d (g (omega arith)))

minus_order : (a b n : ℕ) → lt_z (sub_ℕ a n) (sub_ℕ b n) ≡ ltb a b
minus_order a b n = go (dec_lt a n) (dec_lt b n)
  where
    go : Dec (a < n) → Dec (b < n) → lt_z (sub_ℕ a n) (sub_ℕ b n) ≡ ltb a b
    go (yes h) (yes g) = rw (lt-ltb a n h, lt-ltb b n g) (same_test (n - suc b) (n - suc a) a b (λ l. omega arith) (λ l. omega arith))
    go (yes h) (no g) = rw (lt-ltb a n h, le-ltb b n (omega arith), lt-ltb a b (omega arith))
    go (no h) (yes g) = rw (le-ltb a n (omega arith), lt-ltb b n g, le-ltb a b (omega arith))
    go (no h) (no g) = rw (le-ltb a n (omega arith), le-ltb b n (omega arith)) (same_test (a - n) (b - n) a b (λ l. omega arith) (λ l. omega arith))

-- the order that the code goes by
pub degrees_order : (a b : ℕ) → a < 256 → b < 256 → lt_z (degrees a) (degrees b) ≡ ltb ((a + 127) % 256) ((b + 127) % 256)
degrees_order a b h g = rw (degrees-counted a h, degrees-counted b g) (minus_order ((a + 127) % 256) ((b + 127) % 256) 127)
