-- The first portion: the two kinds of input, as `start` tells them apart. Assumes nothing.
use Rattle.std.specs.Prelude.{Result, Ok, Err, IsOk}
use mathlib.Core.Path.{◌≡◌, refl, ap, ◌∙◌}
use mathlib.Core.Logic.{◌≢◌}
use mathlib.Core.List.{List}
use mathlib.Core.Bool.{true, false}
use Prim.Native.Nat.{ℕ, ◌≤◌, ◌<◌}
use native.Mathlib.Omega.{arith}
use lib.ListN.{length, drop}
use borrow.Author.Tests.{eq-eqb, ne_eqb, le-ltb, lt-ltb}
use Rattle.laws.specs.Bytes.{lay, codes}
use Rattle.laws.specs.Checks.{judged}
use Rattle.laws.proofs.Bytes.{length-lay}
use Rattle.output.specs.Cursor.{Laid}
use Rattle.output.specs.declared.refusal.Refusal.{Refusal}
use Rattle.output.specs.Refusal.{number_of, number_in}
use Rattle.output.proofs.Refusals.{above_0}
use Rattle.text.specs.Cut.{pieces}
use Rattle.image.specs.declared.version.Version.{Version}
use Rattle.image.specs.Version.{current, image_length}
use Rattle.image.specs.Made.{Makes}
use Rattle.image.specs.Fresh.{fresh, freshened}
use Rattle.desk_run.specs.declared.turns.Progress.{Progress}
use Rattle.desk_run.specs.Desk.{too_long, too_long_line, stopped, ran, started, Runs, Lent}

module _ (input : List ℕ) where
  pub too_long_lem : 65536 < length input → too_long input ≡ true
  unfolding too_long
  too_long_lem h = lt-ltb 65536 _ h

  pub not_too_long : length input ≤ 65536 → too_long input ≡ false
  unfolding too_long
  not_too_long h = le-ltb 65536 _ h

  module _ (v : Version) (m text : List ℕ) where
    pub started_long : 65536 < length input → started v input m text ≡ stopped (length input) (length too_long_line) m (lay text 0 too_long_line)
    unfolding started
    started_long h = rw (too_long_lem h)

    pub started-short : length input ≤ 65536 → started v input m text ≡ ran v 0 0 (fresh v 1) text (pieces input)
    unfolding started
    started-short h = rw (not_too_long h)

fresh_at_one : (m : List ℕ) → length m ≡ image_length current → (freshened current m 1).image ≡ fresh current 1
unfolding freshened judged
fresh_at_one m h = rw (eq-eqb _ _ h)

-- at any address but 0 that is not refused
pub fresh_done : {T : Type 0} (m m' : List ℕ) (a : ℕ) (r : Result T Refusal) → length m ≡ image_length current → a ≢ 0
    → Makes (freshened current m a) (number_in r) m' → IsOk r
unfolding freshened judged
fresh_done m m' a (Ok x) h n f = refl
fresh_done m m' a (Err e) h n f =
    let none : number_of e ≡ 0 = f.number_is ∙ rw (eq-eqb _ _ h, ne_eqb a 0 n) in
    let some = above_0 e in
    absurd (omega arith)

module _ (input m text : List ℕ) (l : Lent m text) where
  pub starts_long : (at : ℕ) (text' : List ℕ) → 65536 < length input → Laid 0 at text text' too_long_line
      → Runs (started current input m text) input 0 (record { from = length input; len = at }) m text'
  unfolding too_long_line codes
  starts_long at text' h p =
      rw (started_long input current m text h)
      (record {
        from_is = refl;
        len_is = p.past;
        image_is = refl;
        text_is = p.laid;
        fits = omega (arith, l.room, p.past, ap length p.laid, length-lay text 0 too_long_line);
        onward = λ g i. i;
      })

  pub starts-short : (k : ℕ) (m₁ : List ℕ) (r : Progress) (m' text' : List ℕ) → length input ≤ 65536 → Makes (freshened current m 1) k m₁
      → Runs (ran current 0 0 m₁ text (pieces (drop 0 input))) input 0 r m' text' → Runs (started current input m text) input 0 r m' text'
  starts-short k m₁ r m' text' h f p = rw (started-short input current m text h) (rw (f.image_is ∙ fresh_at_one m l.full) at p)
