-- The four useless blocks that document 01 ("How tight the promises are") wants shut out, and one that document 02 (request 11) brings, each by what it
-- would do. Assumes nothing.
use Rattle.std.specs.Prelude.{◌≡◌, ◌≢◌, List, ℕ, zero, suc, ◌≤◌, length}
use Rattle.image.specs.Version.{current}
use Rattle.rules.specs.declared.switch.Switch.{Switch}
use Rattle.rules.specs.declared.switch.Switch.TheVariants.{Unsealed, Sealed}
use Rattle.command.specs.Reply.{refusal, BuffersAfter, sent, reply_in}
use Rattle.izk.specs.Heard.{heard}
use Rattle.izk.specs.Block.{served}
use Rattle.izk.specs.Frames.{ended}

-- a block as it looks from outside: its n-th call, from 0, with the position of the switch, on a frame, an image and an output. Of one run of calls,
-- what it keeps between them shows in n
abbrev pub Block : Type 0
Block = ℕ → Switch → List ℕ → List ℕ → List ℕ → BuffersAfter

-- it keeps the promise of serving at every call
abbrev pub Keeps : Block → Type 0
Keeps b = (n : ℕ) (s : Switch) (f m out : List ℕ) → b n s f m out ≡ served (heard s) current f m out

-- ---- each kind, in one position of the switch: one that is so in that position alone is useless too, but sealed, to store nothing is what is asked

abbrev pub RefusesAll : Switch → Block → Type 0
RefusesAll s b = (n : ℕ) (f m out : List ℕ) → (b n s f m out).number ≢ 0

abbrev pub RepliesTheSame : Switch → Block → Type 0
RepliesTheSame s b = (n k : ℕ) (f g m out : List ℕ) → reply_in (b n s f m out) ≡ reply_in (b k s g m out)

-- it acknowledges a write and stores nothing
abbrev pub StoresNothing : Switch → Block → Type 0
StoresNothing s b = (n : ℕ) (f m out : List ℕ) → (b n s f m out).image ≡ m

-- it serves its first frame and then only sends each frame back, where there is room for it
abbrev pub EchoesLater : Switch → Block → Type 0
EchoesLater s b = (n : ℕ) (f m out : List ℕ) → length f ≤ length out → reply_in (b (suc n) s f m out) ≡ f

-- sealed, it gives each frame the number that it has unsealed: who sends a write takes it for stored, whether it was or not
abbrev pub IgnoresSwitch : Block → Type 0
IgnoresSwitch b = (n : ℕ) (f m out : List ℕ) → (b n Sealed f m out).number ≡ (b n Unsealed f m out).number

-- ---- one block of each kind

abbrev pub refusing : Block
refusing n s f m out = sent (refusal 8 m) out

-- every frame is answered as a request for the mask would be
abbrev pub same_to_all : Block
same_to_all n s f m out = served (heard s) current (ended ":0132CD") m out

-- what serving reports and replies, on an image that stays
abbrev pub forgetting : Block
forgetting n s f m out = let a = served (heard s) current f m out in record { number = a.number; len = a.len; image = m; out = a.out }

abbrev pub echoing : Block
echoing zero s f m out = served (heard s) current f m out
echoing (suc n) s f m out = sent (record { number = 0; reply = f; image = m }) out

abbrev pub ignoring : Block
ignoring n s f m out = served (heard Unsealed) current f m out
