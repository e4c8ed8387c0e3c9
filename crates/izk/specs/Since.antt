-- What a list of frames has done to an image, served one after the other, told by the frames' own bytes and the numbers that they were given. The
-- switch may be turned between any two. It is what "since the image was fresh" means in document 01 ("The image"). Assumes nothing.
use Rattle.std.specs.Prelude.{List, [], ◌∷◌, Bool, false, cond, ◌&&◌, ◌||◌, ℕ, zero, suc, ◌+◌, eqb}
use Rattle.reorder.specs.Reorder.{final}
use Rattle.frame.specs.Apart.{contents_of}
use Rattle.image.specs.declared.version.Version.{Version}
use Rattle.rules.specs.declared.switch.Switch.{Switch}
use Rattle.rules.specs.Rules.{byte}
use Rattle.command.specs.Reply.{BuffersAfter}
use Rattle.izk.specs.Heard.{Hearing}
use Rattle.izk.specs.Block.{served}

-- the position of the switch, a frame, and the output that is lent with it, which may be too short
pub record Turn : Type 0 where
  pub switch : Switch
  pub frame : List ℕ
  pub out : List ℕ

-- ---- one turn after the other

module _ (ear : Switch → Hearing) (v : Version) where
  -- a turn, on the image that it finds
  abbrev pub in_turn : List ℕ → Turn → BuffersAfter
  in_turn m x = served (ear x.switch) v x.frame m x.out

  -- with the image that the next one finds
  abbrev pub turned : List ℕ → Turn → BuffersAfter × List ℕ
  turned m x = (in_turn m x, (in_turn m x).image)

  -- the image that is left in the end
  unfoldable pub left : List ℕ → List Turn → List ℕ
  left m xs = final turned m xs

  -- some turn met a test of the image that it found and of itself
  unfoldable pub ever : (List ℕ → Turn → Bool) → List ℕ → List Turn → Bool
  ever test m [] = false
  ever test m (x ∷ xs) = test m x || ever test (in_turn m x).image xs

-- ---- parts written

-- contents of a 59 that has the numbers of a table and a part
unfoldable pub writes_part : ℕ → ℕ → List ℕ → Bool
writes_part t p c = eqb (byte c 2) 59 && (eqb (byte c 3) t && eqb (byte c 4) p)

module _ (ear : Switch → Hearing) (v : Version) (t : ℕ) where
  -- a turn wrote part p of table t: its frame was accepted, and is a 59 that names them
  unfoldable pub wrote : ℕ → List ℕ → Turn → Bool
  wrote p m x = eqb (in_turn ear v m x).number 0 && writes_part t p (contents_of x.frame)

  -- some turn of a list did
  unfoldable pub ever_wrote : List ℕ → List Turn → ℕ → Bool
  ever_wrote m xs p = ever ear v (wrote p) m xs

-- how many of the numbers 1..n meet a test
unfoldable pub how_many : (ℕ → Bool) → ℕ → ℕ
how_many test zero = 0
how_many test (suc n) = cond (test (suc n)) 1 0 + how_many test n

-- the least of the n numbers from p on that does not meet it, 0 if there is none
unfoldable pub least_other : (ℕ → Bool) → ℕ → ℕ → ℕ
least_other test p zero = 0
least_other test p (suc n) = cond (test p) (least_other test (suc p) n) p
