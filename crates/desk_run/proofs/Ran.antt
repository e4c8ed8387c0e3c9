-- Serving in turn, as the loop does it: a turn, where it stops, and that it gets on. Assumes nothing.
use mathlib.Core.Path.{◌≡◌, refl, sym, ap, ◌∙◌}
use mathlib.Core.List.{List, [], ◌∷◌}
use mathlib.Core.Bool.{Bool, true, false, cond}
use Prim.Native.Nat.{ℕ, ◌+◌, ◌-◌, ◌≤◌, ◌<◌}
use native.Mathlib.Nat.{lt_of_lt_of_le}
use native.Mathlib.Omega.{arith}
use lib.ListN.{length, take, drop}
use lib.Dec.{leb}
use borrow.Author.Tests.{le-leb, lt-leb}
use Rattle.laws.specs.Bytes.{slice, lay}
use Rattle.laws.proofs.Walks.{none_left}
use Rattle.output.specs.Cursor.{Laid}
use Rattle.text.specs.Cut.{pieces, piece_end}
use Rattle.text.proofs.Cuts.{piece_at, end_past, piece_reaches, pieces-from}
use Rattle.image.specs.declared.version.Version.{Version}
use Rattle.image.specs.Version.{current}
use Rattle.desk_run.specs.Desk.{printed, left, Ran, stopped, ran, Runs}

module _ (v : Version) (from at : ℕ) (m text : List ℕ) where
  pub ran_full : (ps : List (List ℕ)) → length text < at + 300 → ran v from at m text ps ≡ stopped from at m text
  unfolding ran
  ran_full [] h = refl
  ran_full (p ∷ ps) h = rw (lt-leb _ _ h)

  module _ (input : List ℕ) where
    pub ran_end : length input ≤ from → ran v from at m text (pieces (drop from input)) ≡ stopped from at m text
    unfolding ran pieces
    ran_end h = rw (none_left input from h)

    pub ran-turn : from < length input → at + 300 ≤ length text
        → ran v from at m text (pieces (drop from input))
        ≡ ran v (piece_end from input) (at + length (printed v m (piece_at from input))) (left v m (piece_at from input))
        (lay text at (printed v m (piece_at from input))) (pieces (drop (piece_end from input) input))
    unfolding ran
    ran-turn h g = rw (pieces-from input from h, le-leb _ _ g, piece_reaches input from h)

-- the same with the names that the code has for what a turn leaves
pub ran_again : (v : Version) (from to at at' : ℕ) (m m' text text' input : List ℕ) (R : Ran) → from < length input → at + 300 ≤ length text
    → to ≡ piece_end from input → Laid at at' text text' (printed v m (take (to - from) (drop from input))) → m' ≡ left v m (take (to - from) (drop from input))
    → ran v from at m text (pieces (drop from input)) ≡ R → ran v to at' m' text' (pieces (drop to input)) ≡ R
unfolding slice
ran_again v from to at at' m m' text text' input R h g e l i inv = rw (l.past, l.laid, i, e) (sym (ran-turn v from at m text input h g) ∙ inv)

-- ---- it gets on

ran_grows : (v : Version) (from at : ℕ) (m text : List ℕ) (ps : List (List ℕ)) → from ≤ (ran v from at m text ps).from
unfolding ran
ran_grows v from at m text [] = omega arith
ran_grows v from at m text (p ∷ ps) =
    go _ (leb (at + 300) (length text)) (ran_grows v (from + length p) (at + length (printed v m p)) (left v m p) (lay text at (printed v m p)) ps)
  where
    go : (r : Ran) (t : Bool) → from + length p ≤ r.from → from ≤ (cond t r (stopped from at m text)).from
    go r true h = omega arith
    go r false h = omega arith

pub ran_onward : (v : Version) (from at : ℕ) (m text input : List ℕ) → at + 300 ≤ length text → from < length input
    → from < (ran v from at m text (pieces (drop from input))).from
ran_onward v from at m text input g h =
    rw (ran-turn v from at m text input h g)
    (lt_of_lt_of_le (end_past input from h) (ran_grows v _ _ _ _ (pieces (drop (piece_end from input) input))))

-- what the loop has found where it ends is what was promised
pub runs_of : (from next at : ℕ) (m₀ m text₀ text input : List ℕ) → stopped next at m text ≡ ran current from 0 m₀ text₀ (pieces (drop from input))
    → at ≤ length text → length text ≡ length text₀
    → Runs (ran current from 0 m₀ text₀ (pieces (drop from input))) input from (record { from = next; len = at }) m text
runs_of from next at m₀ m text₀ text input e h l =
    let f : next ≡ (ran current from 0 m₀ text₀ (pieces (drop from input))).from = ap (λ (a : Ran). a.from) e in
    record {
      from_is = f;
      len_is = ap (λ (a : Ran). a.len) e;
      image_is = ap (λ (a : Ran). a.image) e;
      text_is = ap (λ (a : Ran). a.text) e;
      fits = h;
      onward = λ g i. rw f (ran_onward current from 0 m₀ text₀ input (omega arith) i);
    }
