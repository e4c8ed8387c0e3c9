-- The words of demand 3 and of request 14 for serving: a call, what it is answered, when two calls clash (document 01, "Cells"), and calls one after the
-- other by the promise. Assumes nothing.
use Rattle.std.specs.Prelude.{◌≡◌, ◌⊎◌, true, ℕ, ◌≤◌, length, take, replicate}
use mathlib.Core.List.{List, [], ◌∷◌, map, Memᴰ}
use Rattle.std.proofs.Math.Nat.{le_refl}
use Rattle.output.specs.Output.{Answer}
use Rattle.image.specs.declared.cell.Cell.{Cell}
use Rattle.image.specs.declared.version.Version.{Version}
use Rattle.image.specs.Version.{current}
use Rattle.image.specs.Usable.{usable, address}
use Rattle.rules.specs.declared.switch.Switch.{Switch}
use Rattle.rules.specs.Order.{Verdict}
use Rattle.command.specs.Reply.{reads_of, writes_of, reply_in, Serves}
use Rattle.izk.specs.Heard.{heard, Hearing}
use Rattle.izk.specs.Block.{served}

-- a frame, and an output with room, whatever stands in it
pub record Call : Type 0 where
  pub frame : List ℕ
  pub out : List ℕ
  pub room : 269 ≤ length out

-- a frame with an output of its own; and no frame, for places outside a list
abbrev pub call : List ℕ → Call
call f = record { frame = f; out = replicate 269 0; room = le_refl 269 }

abbrev pub nothing : Call
nothing = call []

-- what is sent, without the outputs: a buffer that is used twice has other old characters in another order
abbrev pub frames_of : List Call → List (List ℕ)
frames_of xs = map (λ x. x.frame) xs

-- the number and the reply, as it stands in the output; and the image. Characters behind the reply are not spoken of. The hearing, and so the position
-- of the switch, is one for all calls of a list (document 02, request 11)
abbrev pub step : Hearing → Version → List ℕ → Call → (ℕ × List ℕ) × List ℕ
step ear v m x = let a = served ear v x.frame m x.out in ((a.number, reply_in a), a.image)

-- a usable image of address a
abbrev pub Good : Version → ℕ → List ℕ → Type 0
Good v a m = (usable v m ≡ true) × (address m ≡ a)

-- the first writes a cell that the second reads or writes
abbrev pub Meets : Verdict → Verdict → Type 0
Meets x y = (c : Cell) × Memᴰ c (writes_of x) × (Memᴰ c (reads_of y) ⊎ Memᴰ c (writes_of y))

-- at a block of address a, one of the two does so to the other
abbrev pub Clash : Hearing → ℕ → Call → Call → Type 0
Clash ear a x y = Meets (ear a x.frame) (ear a y.frame) ⊎ Meets (ear a y.frame) (ear a x.frame)

-- ---- calls of `serve` one after the other on one image, by its promise

-- what each returned, with the reply that it left in its output, and the image that the last left
pub data Ran (s : Switch) : List ℕ → List Call → List (ℕ × List ℕ) → List ℕ → Type 0 where
  no_call : (m : List ℕ) → Ran s m [] [] m
  a_call : (m : List ℕ) (x : Call) (xs : List Call) (r : Answer) (left written : List ℕ) (rest : List (ℕ × List ℕ)) (m' : List ℕ)
      → Serves (served (heard s) current x.frame m x.out) r left written → Ran s left xs rest m'
      → Ran s m (x ∷ xs) ((r.number, take r.len written) ∷ rest) m'
