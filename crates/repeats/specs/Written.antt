-- When a frame is an accepted write of a cell, what it sends for the cell, and which of a list is the last such (document 02, request 14). All of it is told
-- by the frames' own bytes and the numbers that they were given. Assumes nothing.
use Rattle.std.specs.Prelude.{◌≡◌, ℕ, drop}
use mathlib.Core.List.{List, [], Memᴰ}
use Rattle.reorder.specs.Last.{NoneWrote, LastWrote}
use Rattle.frame.specs.Apart.{contents_of}
use Rattle.image.specs.declared.cell.Cell.{Cell}
use Rattle.image.specs.declared.cell.Cell.TheVariants.{Mask, Mode, Clock, Constants, Errors, Part, Table}
use Rattle.image.specs.declared.version.Version.{Version}
use Rattle.rules.specs.declared.switch.Switch.{Switch}
use Rattle.rules.specs.declared.switch.Switch.TheVariants.{Unsealed}
use Rattle.rules.specs.Rules.{byte}
use Rattle.command.specs.Reply.{BuffersAfter, refusal, sent}
use Rattle.command.specs.Uses.{uses, use_of}
use Rattle.izk.specs.Heard.{Hearing}
use Rattle.izk.specs.Since.{Turn, turned}
use Rattle.order.specs.Serving.{Call, nothing, step}

-- ---- one frame

-- how many bytes of a body stand before those that go into a cell: address and command; of constants and error tables their number; of a part its table and
-- its own number. A whole table is no cell, and none is written
abbrev pub ahead : Cell → ℕ
ahead Mask = 2
ahead Mode = 2
ahead Clock = 2
ahead (Constants c) = 3
ahead (Errors e) = 3
ahead (Part k p) = 4
ahead (Table k) = 3

-- what a frame sends for a cell: all that follows them
abbrev pub sent_for : Cell → List ℕ → List ℕ
sent_for d f = drop (ahead d) (contents_of f)

-- by document 01's sentence ("Cells"), the cells that a command writes with two bytes behind it
abbrev pub written_by : ℕ → ℕ → ℕ → List Cell
written_by k n p = (use_of k uses).writes n p

-- a frame that was given a number is an accepted write of a cell: it was done, and its command writes the cell
pub record Wrote (d : Cell) (f : List ℕ) (n : ℕ) : Type 0 where
  pub done_is : n ≡ 0
  pub names : let c = contents_of f in Memᴰ d (written_by (byte c 2) (byte c 3) (byte c 4))

-- ---- frames one after the other, each with any output, the switch turned between them or not

-- for places outside a list
abbrev pub no_turn : Turn
no_turn = record { switch = Unsealed; frame = []; out = [] }

abbrev pub no_answer : BuffersAfter
no_answer = sent (refusal 1 []) []

module _ (ear : Switch → Hearing) (v : Version) (d : Cell) (m : List ℕ) (xs : List Turn) where
  -- no turn is an accepted write of the cell
  abbrev pub Unwritten : Type 0
  Unwritten = NoneWrote (turned ear v) (λ x a. Wrote d x.frame a.number) no_turn no_answer m xs

  -- the turn at place k is, and none behind it
  abbrev pub LastWrite : ℕ → Type 0
  LastWrite = LastWrote (turned ear v) (λ x a. Wrote d x.frame a.number) no_turn no_answer m xs

-- ---- the same of calls with room for a reply, in one position of the switch

module _ (ear : Hearing) (v : Version) (d : Cell) (m : List ℕ) (xs : List Call) where
  abbrev pub UnwrittenCall : Type 0
  UnwrittenCall = NoneWrote (step ear v) (λ x a. Wrote d x.frame a.0) nothing (0, []) m xs

  abbrev pub LastCall : ℕ → Type 0
  LastCall = LastWrote (step ear v) (λ x a. Wrote d x.frame a.0) nothing (0, []) m xs
