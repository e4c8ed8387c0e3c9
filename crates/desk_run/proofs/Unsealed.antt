-- The desk program is unsealed (document 02, request 11): what it prints for a piece, and the image that it leaves, are those of the block before there
-- was a switch. Assumes nothing.
use mathlib.Core.Path.{◌≡◌, ap}
use mathlib.Core.List.{List}
use Prim.Native.Nat.{ℕ}
use Rattle.laws.specs.Bytes.{zeros}
use Rattle.image.specs.declared.version.Version.{Version}
use Rattle.command.specs.Reply.{BuffersAfter, reply_in}
use Rattle.izk.specs.Heard.{heard_before}
use Rattle.izk.specs.Block.{served}
use Rattle.izk.proofs.Sealed.{unsealed_as_before}
use Rattle.desk_run.specs.Line.{line_of}
use Rattle.desk_run.specs.Desk.{printed, left}

module _ (v : Version) (m p : List ℕ) where
  -- what the block of before does with the piece
  abbrev pub before : BuffersAfter
  before = served heard_before v p m (zeros 269)

  pub prints_as_before : printed v m p ≡ line_of before.number (reply_in before)
  unfolding printed
  prints_as_before = ap (λ (a : BuffersAfter). line_of a.number (reply_in a)) (unsealed_as_before v p m (zeros 269))

  pub leaves_as_before : left v m p ≡ before.image
  unfolding left
  leaves_as_before = ap (λ (a : BuffersAfter). a.image) (unsealed_as_before v p m (zeros 269))
