-- Reading a file, as code does it: frame by frame, what they have said so far, and each part's rows at their place in the table. Assumes nothing.
use Rattle.std.specs.Prelude.{◌≡◌, List, [], ◌∷◌, Bool, true, false, cond, not, ◌&&◌, ℕ, ◌-◌, ◌*◌, length, get_or, drop, eqb}
use Rattle.laws.specs.Bytes.{lay}
use Rattle.laws.specs.Bits.{bit, with_bit}
use Rattle.laws.specs.Checks.{within, all}
use Rattle.text.specs.Cut.{pieces}
use Rattle.frame.specs.Apart.{contents_of}
use Rattle.rules.specs.Rules.{byte}
use Rattle.survey.specs.declared.first.First.{First}
use Rattle.survey.specs.declared.sheet.Sheet.{Sheet}
use Rattle.survey.specs.File.{is_frame, contents_in, address_in, table_in, sends}

-- a part from 1 to 11 whose bit is not among those of the parts that came
unfoldable pub is_new : ℕ → ℕ → Bool
is_new w p = within 1 11 p && not (eqb (bit w (p - 1)) 1)

-- ---- one frame more, by its contents

-- it is for something else
abbrev pub strange : Sheet → Sheet
strange h = record { first = h.first; one = false; once = h.once; parts = h.parts; rows = h.rows }

-- its part came before, or is none
abbrev pub repeated : Sheet → Sheet
repeated h = record { first = h.first; one = h.one; once = false; parts = h.parts; rows = h.rows }

-- its part is counted, and its rows lie at their place
abbrev pub counted : Sheet → List ℕ → Sheet
counted h c =
    record {
      first = h.first;
      one = h.one;
      once = h.once;
      parts = with_bit h.parts (byte c 4 - 1);
      rows = lay h.rows (128 * (byte c 4 - 1)) (drop 4 c);
    }

unfoldable pub added : Sheet → List ℕ → Sheet
added h c = cond (sends h.first.address h.first.table c) (cond (is_new h.parts (byte c 4)) (counted h c) (repeated h)) (strange h)

-- ---- all of them

unfoldable pub gathered : Sheet → List (List ℕ) → Sheet
gathered h [] = h
gathered h (c ∷ cs) = gathered (added h c) cs

-- before the first, over what the room holds
abbrev pub blank : First → List ℕ → Sheet
blank f r = record { first = f; one = true; once = true; parts = 0; rows = r }

-- ---- what the code's steps give

-- the first piece is a frame, and has this address and this table
pub record Opens (s : List ℕ) (r : First) : Type 0 where
  pub good : is_frame (get_or (pieces s) 0 []) ≡ true
  pub address_is : r.address ≡ address_in (contents_in s)
  pub table_is : r.table ≡ table_in (contents_in s)

-- a piece is a frame, and is added
pub record Takes (f : List ℕ) (h x : Sheet) : Type 0 where
  pub good : is_frame f ≡ true
  pub adds : x ≡ added h (contents_of f)

-- every piece of a file is a frame: how many there are, and what all of them say
pub record Reads (s : List ℕ) (h x : Sheet) (n : ℕ) : Type 0 where
  pub good : all is_frame (pieces s) ≡ true
  pub frames_are : n ≡ length (pieces s)
  pub gathers : x ≡ gathered h (contents_in s)
