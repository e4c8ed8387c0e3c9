-- The portions put together are the text that the desk program is to print: whoever asks for the first one, and then again from where the last
-- call stopped, until the input's end, has printed all of it and served every piece. Assumes nothing.
use mathlib.Core.Path.{◌≡◌, refl, ap, ◌∙◌}
use mathlib.Core.List.{List, [], ◌∷◌, ◌++◌, append_assoc, append-nil}
use mathlib.Core.Bool.{Bool, true, false, cond}
use Prim.Native.Nat.{ℕ, zero, suc, ◌+◌, ◌≤◌, ◌<◌}
use native.Mathlib.Decide.{dec_lt}
use native.Mathlib.Omega.{arith}
use lib.ListN.{length, take, drop, length-take, length-append}
use lib.Seq.{take_at, take_all, length-take-le}
use lib.Dec.{leb, ltb}
use borrow.Author.Tests.{leb-true, lt-ltb, le-ltb}
use Rattle.laws.specs.Bytes.{lay, codes}
use Rattle.laws.proofs.Walks.{none_left}
use Rattle.laws.proofs.Bytes.{length-lay, lay-between}
use Rattle.text.specs.Cut.{pieces, piece_end}
use Rattle.text.proofs.Cuts.{piece_at, piece_reaches, pieces-from}
use Rattle.image.specs.declared.version.Version.{Version}
use Rattle.image.specs.Version.{current}
use Rattle.image.specs.Fresh.{fresh}
use Rattle.desk_run.specs.declared.turns.Progress.{Progress}
use Rattle.desk_run.specs.Desk.{printed, left, transcript, left_by, too_long_line, desk_text, desk_image, Ran, stopped, ran, started, Runs}
use Rattle.desk_run.proofs.Pieces.{printed-short}
use Rattle.desk_run.proofs.Ran.{ran_onward}
use Rattle.desk_run.proofs.Started.{too_long_lem, not_too_long, started_long, started-short}

-- ---- what every turn keeps, the whole keeps

-- K of where a call stopped
abbrev at_stop : {A : Type 0} → (ℕ → ℕ → List ℕ → List ℕ → A) → Ran → A
at_stop K r = K r.from r.len r.image r.text

module _ (v : Version) (input : List ℕ) where
  -- K is the same before and after a turn
  Turns : {A : Type 0} → (ℕ → ℕ → List ℕ → List ℕ → A) → Type 0
  Turns K =
      (from at : ℕ) (m text : List ℕ) → from < length input → at + 300 ≤ length text
      → let p = piece_at from input in
      K (piece_end from input) (at + length (printed v m p)) (left v m p) (lay text at (printed v m p)) ≡ K from at m text

  -- the first of the pieces from an index on
  first_of : (from : ℕ) (p : List ℕ) (ps : List (List ℕ)) → p ∷ ps ≡ pieces (drop from input)
      → (from < length input) × (p ≡ piece_at from input) × (ps ≡ pieces (drop (piece_end from input) input))
  unfolding pieces
  first_of from p ps e = go (dec_lt from (length input))
    where
      go : Dec (from < length input) → (from < length input) × (p ≡ piece_at from input) × (ps ≡ pieces (drop (piece_end from input) input))
      go (yes h) = let q = e ∙ pieces-from input from h in (h, cc, cc)
      go (no h) = let q : p ∷ ps ≡ [] = rw (none_left input from (omega arith)) at e in absurd (let z : ◌≡◌ {A = ℕ} 0 1 = cc in omega arith)

  ran_keeps : {A : Type 0} (K : ℕ → ℕ → List ℕ → List ℕ → A) → Turns K → (ps : List (List ℕ)) (from at : ℕ) (m text : List ℕ) → ps ≡ pieces (drop from input)
      → at_stop K (ran v from at m text ps) ≡ K from at m text
  unfolding ran Turns
  ran_keeps K keeps [] from at m text e = refl
  ran_keeps {A} K keeps (p ∷ ps) from at m text e =
      let f = first_of from p ps e in
      let to : from + length p ≡ piece_end from input = rw f.1 (piece_reaches input from f.0) in
      let later = ran_keeps K keeps ps (from + length p) (at + length (printed v m p)) (left v m p) (lay text at (printed v m p)) (rw to f.2) in
      go _ (leb (at + 300) (length text)) refl (λ h. later ∙ rw (to, f.1) (keeps from at m text f.0 h))
    where
      go : (r : Ran) (t : Bool) → leb (at + 300) (length text) ≡ t → (at + 300 ≤ length text → at_stop K r ≡ K from at m text)
          → at_stop K (cond t r (stopped from at m text)) ≡ K from at m text
      go r false h turn = refl
      go r true h turn = turn (leb-true _ _ h)

-- ---- what a call leaves

take-laid : (at : ℕ) (text bytes : List ℕ) → at + length bytes ≤ length text → take (at + length bytes) (lay text at bytes) ≡ take at text ++ bytes
take-laid at text bytes h =
    let l : length (take at text ++ bytes) ≡ at + length bytes = omega (arith, length-append (take at text) bytes, length-take-le at text (omega arith)) in
    ap (take (at + length bytes)) (lay-between text at bytes h) ∙ take_at (take at text ++ bytes) (drop (at + length bytes) text) (at + length bytes) l

module _ (v : Version) (input : List ℕ) where
  ran_long : (from at : ℕ) (m text : List ℕ) → length (ran v from at m text (pieces (drop from input))).text ≡ length text
  unfolding Turns
  ran_long from at m text = ran_keeps v input (λ f k n t. length t) (λ f k n t h g. length-lay t k _) _ from at m text refl

  -- the text that there is, and the text of what remains, are the text of all
  pub ran_remains : (from at : ℕ) (m text : List ℕ)
      → take (ran v from at m text (pieces (drop from input))).len (ran v from at m text (pieces (drop from input))).text
      ++ transcript v (ran v from at m text (pieces (drop from input))).image (pieces (drop (ran v from at m text (pieces (drop from input))).from input))
      ≡ take at text ++ transcript v m (pieces (drop from input))
  unfolding Turns transcript
  ran_remains from at m text =
      ran_keeps v input (λ f k n t. take k t ++ transcript v n (pieces (drop f input)))
      (λ f k n t h g. let p = piece_at f input in rw (take-laid k t (printed v n p) (omega (arith, printed-short v n p)), pieces-from input f h, append_assoc))
      _ from at m text refl

  -- and what remains leaves the image of all
  ran-leaves : (from at : ℕ) (m text : List ℕ)
      → let r = ran v from at m text (pieces (drop from input)) in
      left_by v r.image (pieces (drop r.from input)) ≡ left_by v m (pieces (drop from input))
  unfolding Turns left_by
  ran-leaves from at m text =
      ran_keeps v input (λ f k n t. left_by v n (pieces (drop f input))) (λ f k n t h g. rw (pieces-from input f h)) _ from at m text refl

-- ---- calling it again

-- what is printed from an index of the input on by calls on the same buffers, each from where the one before it stopped, until the input's end or
-- n of them
pub portions : ℕ → Version → List ℕ → ℕ → List ℕ → List ℕ → List ℕ
portions zero v input from m text = []
portions (suc n) v input from m text =
    let r = ran v from 0 m text (pieces (drop from input)) in
    cond (ltb from (length input)) (take r.len r.text ++ portions n v input r.from r.image r.text) []

pub portions_print : (n : ℕ) (v : Version) (input : List ℕ) (from : ℕ) (m text : List ℕ) → 300 ≤ length text → length input ≤ from + n
    → portions n v input from m text ≡ transcript v m (pieces (drop from input))
unfolding portions transcript pieces
portions_print zero v input from m text h g = rw (none_left input from (omega arith))
portions_print (suc n) v input from m text h g = go (dec_lt from (length input)) (λ f k t l o. portions_print n v input f k t l o)
  where
    go : Dec (from < length input)
        → ((f : ℕ) (k t : List ℕ) → 300 ≤ length t → length input ≤ f + n → portions n v input f k t ≡ transcript v k (pieces (drop f input)))
        → portions (suc n) v input from m text ≡ transcript v m (pieces (drop from input))
    go (no l) later = let e : length input ≤ from = omega arith in rw (le-ltb _ _ e, none_left input from e)
    go (yes l) later =
        let r = ran v from 0 m text (pieces (drop from input)) in
        let on : length input ≤ r.from + n = omega (arith, ran_onward v from 0 m text input (omega arith) l) in
        let long : 300 ≤ length r.text = omega (arith, ran_long v input from 0 m text) in
        rw (lt-ltb _ _ l, later r.from r.image r.text long on) (ran_remains v input from 0 m text)

-- ---- from the first portion on

-- with the text of what remains a first portion is the whole text, and what remains leaves the image of all
record Opens (r : Ran) (input m text : List ℕ) : Type 0 where
  long : length r.text ≡ length text
  remains : take r.len r.text ++ transcript current r.image (pieces (drop r.from input)) ≡ desk_text input
  leaves : left_by current r.image (pieces (drop r.from input)) ≡ desk_image input m

module _ (input m text : List ℕ) (room : 300 ≤ length text) where
  opens_long : 65536 < length input → Opens (started current input m text) input m text
  unfolding desk_text desk_image too_long_line codes transcript left_by pieces
  opens_long h =
      let none = none_left input (length input) (omega arith) in
      rw (started_long input current m text h)
      (record {
        long = length-lay text 0 too_long_line;
        remains = rw (too_long_lem input h, none, append-nil) (take-laid 0 text too_long_line (omega arith));
        leaves = rw (too_long_lem input h, none);
      })

  opens_short : length input ≤ 65536 → Opens (started current input m text) input m text
  unfolding desk_text desk_image
  opens_short h =
      rw (started-short input current m text h)
      (record {
        long = ran_long current input 0 0 (fresh current 1) text;
        remains = rw (not_too_long input h) (ran_remains current input 0 0 (fresh current 1) text);
        leaves = rw (not_too_long input h) (ran-leaves current input 0 0 (fresh current 1) text);
      })

  opens : Opens (started current input m text) input m text
  opens = go (dec_lt 65536 (length input))
    where
      go : Dec (65536 < length input) → Opens (started current input m text) input m text
      go (yes h) = opens_long h
      go (no h) = opens_short (omega arith)

-- what a program prints that asks for the first portion, and then for the next until the input's end or n times
pub program : ℕ → List ℕ → List ℕ → List ℕ → List ℕ
program n input m text =
    let r = started current input m text in
    take r.len r.text ++ portions n current input r.from r.image r.text

-- for every input it is the desk's text, whatever the image's buffer held, where the text has room for a line. As many calls are enough as the
-- input has bytes
pub desk_prints : (n : ℕ) (input m text : List ℕ) → 300 ≤ length text → length input ≤ n → program n input m text ≡ desk_text input
unfolding program
desk_prints n input m text h g =
    let r = started current input m text in
    let o = opens input m text h in
    rw (portions_print n current input r.from r.image r.text (omega arith) (omega arith)) o.remains

-- an input that does not fit into the buffer has the text of what does: its first 65,537 bytes decide
pub room_enough : (input : List ℕ) → desk_text (take 65537 input) ≡ desk_text input
unfolding desk_text
room_enough input = go (dec_lt 65536 (length input))
  where
    go : Dec (65536 < length input) → desk_text (take 65537 input) ≡ desk_text input
    go (yes h) = rw (too_long_lem input h, too_long_lem (take 65537 input) (omega (arith, length-take 65537 input)))
    go (no h) = rw (take_all 65537 input (omega arith))

-- ---- the image that a caller's loop comes to

-- what the pieces from an index on leave
abbrev pub end_image : List ℕ → ℕ → List ℕ → List ℕ
end_image input from m = left_by current m (pieces (drop from input))

pub at_end : (input : List ℕ) (from : ℕ) (m : List ℕ) → length input ≤ from → end_image input from m ≡ m
unfolding left_by pieces
at_end input from m h = rw (none_left input from h)

module _ (input : List ℕ) (r : Progress) (m m' text text' : List ℕ) where
  pub after_start : 300 ≤ length text → Runs (started current input m text) input 0 r m' text' → end_image input r.from m' ≡ desk_image input m
  after_start h s = rw (s.image_is, s.from_is) (opens input m text h).leaves

  pub after_run : (from : ℕ) → Runs (ran current from 0 m text (pieces (drop from input))) input from r m' text'
      → end_image input r.from m' ≡ end_image input from m
  after_run from s = rw (s.image_is, s.from_is) (ran-leaves current input from 0 m text)

-- ---- and the text

-- what is printed for the pieces from an index on
abbrev pub end_text : List ℕ → ℕ → List ℕ → List ℕ
end_text input from m = transcript current m (pieces (drop from input))

pub nothing_left : (input : List ℕ) (from : ℕ) (m : List ℕ) → length input ≤ from → end_text input from m ≡ []
unfolding transcript pieces
nothing_left input from m h = rw (none_left input from h)

-- each portion, with what is printed for the rest, is what was to be printed
module _ (input : List ℕ) (r : Progress) (m m' text text' : List ℕ) where
  pub text_after_start : 300 ≤ length text → Runs (started current input m text) input 0 r m' text'
      → take r.len text' ++ end_text input r.from m' ≡ desk_text input
  text_after_start h s = rw (s.text_is, s.len_is, s.image_is, s.from_is) (opens input m text h).remains

  pub text_after_run : (from : ℕ) → Runs (ran current from 0 m text (pieces (drop from input))) input from r m' text'
      → take r.len text' ++ end_text input r.from m' ≡ end_text input from m
  text_after_run from s = rw (s.text_is, s.len_is, s.image_is, s.from_is) (ran_remains current input from 0 m text)
