-- The parts of a line, as the code lays them one after the other. Assumes nothing.
use mathlib.Core.Path.{◌≡◌, refl}
use mathlib.Core.List.{List, [], ◌∷◌, ◌++◌}
use mathlib.Core.Bool.{Bool, true, false, cond}
use Prim.Native.Nat.{ℕ, ◌+◌, ◌-◌, ◌≤◌, ◌<◌}
use native.Mathlib.Omega.{arith}
use lib.ListN.{length, take, length-append}
use lib.Dec.{eqb}
use borrow.Author.Tests.{eq-eqb, ne_eqb}
use Rattle.laws.specs.Bytes.{slice}
use Rattle.laws.proofs.Bytes.{slice_most}
use Rattle.text.specs.Decimal.{decimal_in, decimal}
use Rattle.text.proofs.Decimals.{decimal_most}
use Rattle.desk_run.specs.Line.{shown, line_of}

module _ (n : ℕ) (reply : List ℕ) where
  pub shown-none : ¬ (n ≡ 0) → shown n reply ≡ []
  unfolding shown
  shown-none h = rw (ne_eqb n 0 h)

  pub shown-done : n ≡ 0 → shown n reply ≡ 32 ∷ take (length reply - 2) reply
  unfolding shown slice
  shown-done e = rw (eq-eqb n 0 e)

  pub length-line : length (line_of n reply) ≡ length (decimal n) + length (shown n reply) + 1
  unfolding line_of
  length-line = simp length-append (omega arith)

  -- the room that a line takes at most
  pub line_most : n < 100 → length (line_of n reply) ≤ length reply + 4
  unfolding shown
  line_most h = go (eqb n 0) length-line (decimal_most 1 n h)
    where
      go : (z : Bool) → length (line_of n reply) ≡ length (decimal n) + length (cond z (32 ∷ slice 0 (length reply - 2) reply) []) + 1
          → length (decimal n) ≤ 2 → length (line_of n reply) ≤ length reply + 4
      go true e d = omega (arith, slice_most 0 (length reply - 2) reply)
      go false e d = omega arith

-- ---- the line as the code lays it: of what was done, and of a refusal

module _ (reply : List ℕ) where
  pub line_done : line_of 0 reply ≡ (48 ∷ 32 ∷ []) ++ (take (length reply - 2) reply ++ (10 ∷ []))
  unfolding line_of decimal decimal_in
  line_done = rw (shown-done 0 reply refl)

  pub length-done : length (line_of 0 reply) ≡ length (take (length reply - 2) reply) + 3
  length-done = rw line_done (simp length-append (omega arith))

module _ (n : ℕ) (some : 0 < n) where
  pub line_refused : line_of n [] ≡ decimal n ++ (10 ∷ [])
  unfolding line_of
  line_refused = rw (shown-none n [] (λ z. absurd (omega arith)))

  pub length-refused : length (line_of n []) ≡ length (decimal n) + 1
  length-refused = rw line_refused (simp length-append (omega arith))
