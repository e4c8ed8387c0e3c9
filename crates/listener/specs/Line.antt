-- A panel on a line: each byte is listened to, and a frame that is handed out is dealt with before the next byte. Assumes nothing.
use Rattle.std.specs.Prelude.{◌≡◌, List, [], ◌∷◌, ◌++◌, map, true, false, ℕ, ◌+◌}
use Rattle.std.proofs.Math.Option.{Option, some, none}
use Rattle.laws.specs.Checks.{among}
use Rattle.image.specs.Version.{current}
use Rattle.rules.specs.declared.switch.Switch.{Switch}
use Rattle.command.specs.Reply.{BuffersAfter}
use Rattle.izk.specs.Heard.{heard}
use Rattle.izk.specs.Block.{served}
use Rattle.listener.specs.declared.Listener.{Listener}
use Rattle.listener.specs.Handing.{takes, well_formed}

-- ---- the line

-- a frame, and what stands on the line behind it until the next
pub record Stretch : Type 0 where
  pub frame : List ℕ
  pub noise : List ℕ

abbrev pub line : List Stretch → List ℕ
line [] = []
line (x ∷ xs) = x.frame ++ (x.noise ++ line xs)

abbrev pub frames_of : List Stretch → List (List ℕ)
frames_of xs = map (λ x. x.frame) xs

-- every frame is well-formed, and no noise has a 3Ah
abbrev pub Clean : List Stretch → Type 0
Clean [] = Unit {0}
Clean (x ∷ xs) = (well_formed x.frame ≡ true) × ((among 58 x.noise ≡ false) × Clean xs)

-- ---- a panel that deals with frames by any step

-- the frames among what is handed out byte after byte, in their order
unfoldable pub frames : List (Option (List ℕ)) → List (List ℕ)
frames [] = []
frames (none ∷ os) = frames os
frames (some f ∷ os) = f ∷ frames os

module _ {S O : Type 0} (step : S → List ℕ → O × S) where
  -- what may have been handed out is dealt with
  abbrev pub dealt : S → Option (List ℕ) → List O × S
  dealt s none = ([], s)
  dealt s (some f) = ((step s f).0 ∷ [], (step s f).1)

  -- the outcomes over the bytes of a line, in their order
  unfoldable pub answers_on : Listener → S → List ℕ → List O
  answers_on l s [] = []
  answers_on l s (b ∷ bs) = (dealt s (takes l b).0).0 ++ answers_on (takes l b).1 (dealt s (takes l b).0).1 bs

  -- what the last byte leaves
  unfoldable pub left_on : Listener → S → List ℕ → S
  left_on l s [] = s
  left_on l s (b ∷ bs) = left_on (takes l b).1 (dealt s (takes l b).0).1 bs

-- ---- the block's panel

-- how many frames it has dealt with, refused ones too, its image, and its one output, in which every reply is laid
pub record Panel : Type 0 where
  pub turn : ℕ
  pub image : List ℕ
  pub out : List ℕ

-- a frame is served as the key then stands, which may be turned between any two
abbrev pub serves : (ℕ → Switch) → Panel → List ℕ → BuffersAfter × Panel
serves key p f =
    let a = served (heard (key p.turn)) current f p.image p.out in (a, record { turn = p.turn + 1; image = a.image; out = a.out })
