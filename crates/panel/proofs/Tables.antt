-- Which numbers of the host's are tables: none above 18 is, so that one which goes in as 0 is answered as itself. Assumes nothing.
use mathlib.Core.Path.{◌≡◌, refl, sym, ap, ◌∙◌}
use mathlib.Core.List.{List}
use mathlib.Core.Bool.{Bool, true, false, cond}
use Prim.Native.Nat.{ℕ, ◌+◌, ◌^◌, ◌≤◌, ◌<◌}
use native.Mathlib.Decide.{dec_le}
use native.Mathlib.Omega.{arith}
use lib.Dec.{leb, lit≤, lit<}
use borrow.Author.Tests.{le-leb, lt-leb}
use Rattle.std.specs.Prelude.{Result, Ok, Err, OkIff}
use Rattle.std.specs.Result.{result_unwrap_or}
use Rattle.laws.specs.Bytes.{word_at}
use Rattle.laws.specs.Checks.{within, judged}
use Rattle.laws.proofs.Tests.{within_above}
use Rattle.image.specs.declared.version.Version.{Version}
use Rattle.image.specs.Cell.{is_table}
use Rattle.image.specs.Words.{table_word}
use Rattle.image.specs.Usable.{usable}
use Rattle.image.specs.Held.{unheld, held_of, held_parts, HeldAnswer}
use Rattle.image.proofs.Indices.{main_stands, additional_stands, none_stands}
use Rattle.izk.proofs.HeldAfter.{held_is}

zero_is_none : is_table 0 ≡ false
unfolding within
zero_is_none = none_stands 0 refl refl

above_is_none : (t : ℕ) → 18 < t → is_table t ≡ false
above_is_none t h = none_stands t (within_above 1 8 t (omega arith)) (within_above 11 18 t h)

module _ (v : Version) (m : List ℕ) where
  -- of a number that is no table the image alone decides
  none_held : (t : ℕ) → is_table t ≡ false → held_parts v m t ≡ unheld (cond (usable v m) 10 1)
  unfolding held_parts judged
  none_held t h = rw h (go (usable v m))
    where
      go : (b : Bool) → cond {A = HeldAnswer} b (unheld 10) (unheld 1) ≡ unheld (cond b 10 1)
      go true = refl
      go false = refl

  pub above_refused : (t : ℕ) → 18 < t → held_parts v m t ≡ unheld (cond (usable v m) 10 1)
  above_refused t h = none_held t (above_is_none t h)

  -- of a number that is above every table 0 says the same
  pub asked_alike : (t : ℕ) → held_parts v m (cond (leb t 18) t 0) ≡ held_parts v m t
  asked_alike t = go (dec_le t 18)
    where
      go : Dec (t ≤ 18) → held_parts v m (cond (leb t 18) t 0) ≡ held_parts v m t
      go (yes h) = rw (le-leb t 18 h)
      go (no h) = rw (lt-leb t 18 (omega arith)) (none_held 0 zero_is_none ∙ sym (above_refused t (omega arith)))

  -- what goes in is answered as what the host gave, also where that is 0 because 32 bits do not hold the number
  pub narrowed_alike : {E : Type 0} (t : ℕ) (r : Result ℕ E) → OkIff r (t < 4294967296) t → held_parts v m (result_unwrap_or r 0) ≡ held_parts v m t
  narrowed_alike t (Ok x) h = ap (held_parts v m) h.1
  narrowed_alike t (Err e) h = none_held 0 zero_is_none ∙ sym (above_refused t (omega arith))

  -- ---- worked

  module _ (u : usable v m ≡ true) where
    -- two numbers of which 8 bits, or 32, keep 2
    pub none_is_2 : (held_parts v m 258 ≡ unheld 10) × (held_parts v m (2 ^ 32 + 2) ≡ unheld 10)
    none_is_2 = (rw u at (above_refused 258 (lit< tt)), rw u at (above_refused (2 ^ 32 + 2) (lit< tt)))

    -- additional table 12 is answered from its own word, and not from that of table 2
    pub twelve_is_not_2 : (held_parts v m 12 ≡ held_of (word_at m 35)) × (held_parts v m 2 ≡ held_of (word_at m 19))
    unfolding table_word
    twelve_is_not_2 =
        let (twelve, at_9) = additional_stands 12 (lit≤ tt) (lit≤ tt) in
        let (two, at_1) = main_stands 2 (lit≤ tt) (lit≤ tt) in
        (rw at_9 at (held_is v m 12 u twelve), rw at_1 at (held_is v m 2 u two))
