-- What is done with a body by its verdict: the number, the reply, the image, and what is left in both lent buffers. Assumes nothing.
use Rattle.std.specs.Prelude.{◌≡◌, List, [], ◌++◌, ℕ, ◌+◌, length, take}
use Rattle.laws.specs.Bytes.{lay}
use Rattle.output.specs.Output.{Answer}
use Rattle.frame.specs.Built.{frame_of}
use Rattle.image.specs.declared.cell.Cell.{Cell}
use Rattle.image.specs.declared.version.Version.{Version}
use Rattle.rules.specs.declared.rule.Act.{Act}
use Rattle.rules.specs.Order.{Verdict, Refused, Accepted}
use Rattle.command.specs.Act.{says, leaves, reads, writes}

-- a number, the reply's characters, and the image. A refusal has no reply and leaves the image
pub record Outcome : Type 0 where
  pub number : ℕ
  pub reply : List ℕ
  pub image : List ℕ

abbrev pub refusal : ℕ → List ℕ → Outcome
refusal n m = record { number = n; reply = []; image = m }

-- a reply without its checksum opens with the request's address, which is the image's, its command and the echo
abbrev pub reply_of : Version → ℕ → Act → Cell → List ℕ → List ℕ → List ℕ
reply_of v e a d c m = take (2 + e) c ++ says v a d m

abbrev pub done : Version → Verdict → List ℕ → List ℕ → Outcome
done v (Refused n) c m = refusal n m
done v (Accepted e a d) c m = record { number = 0; reply = frame_of (reply_of v e a d c m); image = leaves v a d c m }

-- ---- what is reported, and left in both lent buffers

pub record BuffersAfter : Type 0 where
  pub number : ℕ
  pub len : ℕ
  pub image : List ℕ
  pub out : List ℕ

-- the reply stands at the start of the output; the rest is unchanged. Of a refusal that is length 0 and the whole output
abbrev pub sent : Outcome → List ℕ → BuffersAfter
sent o out = record { number = o.number; len = length o.reply; image = o.image; out = lay out 0 o.reply }

-- the reply, as it stands in the output
abbrev pub reply_in : BuffersAfter → List ℕ
reply_in a = take a.len a.out

-- a function that returned r and left an image and an output has done what a says
pub record Serves (a : BuffersAfter) (r : Answer) (left : List ℕ) (written : List ℕ) : Type 0 where
  pub number_is : r.number ≡ a.number
  pub len_is : r.len ≡ a.len
  pub image_is : left ≡ a.image
  pub out_is : written ≡ a.out

-- ---- the cells of a frame, by its verdict; a refused one has none

abbrev pub reads_of : Verdict → List Cell
reads_of (Refused n) = []
reads_of (Accepted e a d) = reads a d

abbrev pub writes_of : Verdict → List Cell
writes_of (Refused n) = []
writes_of (Accepted e a d) = writes a d
