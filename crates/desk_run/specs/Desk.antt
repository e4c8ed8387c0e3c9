-- What the desk program prints (document 01, end of "Frames to hold the block to"). Assumes nothing.
use Rattle.std.specs.Prelude.{◌≡◌, List, [], ◌∷◌, ◌++◌, Bool, cond, ℕ, ◌+◌, ◌≤◌, ◌<◌, length, leb, ltb}
use Rattle.laws.specs.Bytes.{lay, zeros, codes}
use Rattle.reorder.specs.Reorder.{final}
use Rattle.text.specs.Cut.{pieces}
use Rattle.image.specs.declared.version.Version.{Version}
use Rattle.image.specs.Version.{current, image_length}
use Rattle.image.specs.Fresh.{fresh}
use Rattle.rules.specs.declared.switch.Switch.TheVariants.{Unsealed}
use Rattle.command.specs.Reply.{reply_in}
use Rattle.izk.specs.Heard.{heard}
use Rattle.izk.specs.Block.{served}
use Rattle.desk_run.specs.declared.turns.Progress.{Progress}
use Rattle.desk_run.specs.Line.{line_of}

-- ---- the whole text

-- a piece served unsealed with an output of its own: what is printed for it, and the image after it
unfoldable pub printed : Version → List ℕ → List ℕ → List ℕ
printed v m p = let a = served (heard Unsealed) v p m (zeros 269) in line_of a.number (reply_in a)

unfoldable pub left : Version → List ℕ → List ℕ → List ℕ
left v m p = (served (heard Unsealed) v p m (zeros 269)).image

-- the pieces in turn, on one image
unfoldable pub transcript : Version → List ℕ → List (List ℕ) → List ℕ
transcript v m [] = []
transcript v m (p ∷ ps) = printed v m p ++ transcript v (left v m p) ps

-- the image that they leave
unfoldable pub left_by : Version → List ℕ → List (List ℕ) → List ℕ
left_by v m ps = final (λ m p. (printed v m p, left v m p)) m ps

-- at most 65,536 bytes are served; a longer input has the one line
unfoldable pub too_long : List ℕ → Bool
too_long input = ltb 65536 (length input)

unfoldable pub too_long_line : List ℕ
too_long_line = codes "too long" ++ (10 ∷ [])

-- the text for an input, served on an image that is fresh at address 1
unfoldable pub desk_text : List ℕ → List ℕ
desk_text input = cond (too_long input) too_long_line (transcript current (fresh current 1) (pieces input))

-- and what the buffer for the image then holds, which an input that is too long leaves as it was
unfoldable pub desk_image : List ℕ → List ℕ → List ℕ
desk_image input m = cond (too_long input) m (left_by current (fresh current 1) (pieces input))

-- ---- the text in portions, as the program has no room for all of it

-- where in the input the serving stopped, how many bytes of the text there are, and what both buffers hold
pub record Ran : Type 0 where
  pub from : ℕ
  pub len : ℕ
  pub image : List ℕ
  pub text : List ℕ

abbrev pub stopped : ℕ → ℕ → List ℕ → List ℕ → Ran
stopped from at m text = record { from = from; len = at; image = m; text = text }

-- the pieces from an index of the input on are served while 300 bytes, more than any line has, are left of the text
unfoldable pub ran : Version → ℕ → ℕ → List ℕ → List ℕ → List (List ℕ) → Ran
ran v from at m text [] = stopped from at m text
ran v from at m text (p ∷ ps) =
    let rest = ran v (from + length p) (at + length (printed v m p)) (left v m p) (lay text at (printed v m p)) ps in
    cond (leb (at + 300) (length text)) rest (stopped from at m text)

-- the first portion: of an input that is too long the line, with nothing left to serve
unfoldable pub started : Version → List ℕ → List ℕ → List ℕ → Ran
started v input m text =
    let long = stopped (length input) (length too_long_line) m (lay text 0 too_long_line) in
    cond (too_long input) long (ran v 0 0 (fresh v 1) text (pieces input))

-- a function that returned r and left an image and a text has done what a says. The rest follows from that: the text is whole, and with room
-- for a line it moved on
pub record Runs (a : Ran) (input : List ℕ) (from : ℕ) (r : Progress) (image : List ℕ) (text : List ℕ) : Type 0 where
  pub from_is : r.from ≡ a.from
  pub len_is : r.len ≡ a.len
  pub image_is : image ≡ a.image
  pub text_is : text ≡ a.text
  pub fits : r.len ≤ length text
  pub onward : 300 ≤ length text → from < length input → from < r.from

-- what the first portion is asked with: the image has its full length, and the text room for a line
pub record Lent (m text : List ℕ) : Type 0 where
  pub full : length m ≡ image_length current
  pub room : 300 ≤ length text
