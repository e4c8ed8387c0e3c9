-- One piece: its reply and its line are short enough for the buffers, and the line is the one that is to be printed. Assumes nothing.
use mathlib.Core.Path.{◌≡◌, ap, ◌∙◌}
use mathlib.Core.List.{List}
use Prim.Native.Nat.{ℕ, ◌+◌, ◌≤◌, ◌<◌}
use native.Mathlib.Omega.{arith}
use lib.ListN.{length, take, length-take}
use Rattle.laws.specs.Bytes.{zeros}
use Rattle.laws.proofs.Bytes.{length-lay, length-zeros}
use Rattle.output.specs.Output.{Answer}
use Rattle.output.specs.Cursor.{Laid}
use Rattle.image.specs.declared.version.Version.{Version}
use Rattle.rules.specs.declared.switch.Switch.TheVariants.{Unsealed}
use Rattle.command.specs.Reply.{Serves}
use Rattle.izk.specs.Heard.{heard, Hearing, Lawful}
use Rattle.izk.specs.Block.{served}
use Rattle.izk.proofs.Hearing.{heard_lawful}
use Rattle.izk.proofs.Serving.{Way, early, through, way, answered-length, number_short}
use Rattle.desk_run.specs.Line.{line_of}
use Rattle.desk_run.specs.Desk.{printed}
use Rattle.desk_run.proofs.Lines.{line_most}

module _ (ear : Hearing) (ok : Lawful ear) (v : Version) (f m out : List ℕ) where
  served-short : (served ear v f m out).len ≤ 269
  served-short = go (way ear v f m out)
    where
      go : Way ear v f m out → (served ear v f m out).len ≤ 269
      go (early n i e) = rw e (omega arith)
      go (through u r e) = rw e (answered-length ear ok v f m u)

module _ (ear : Hearing) (v : Version) (f m out : List ℕ) where
  served_long : length (served ear v f m out).out ≡ length out
  served_long = go (way ear v f m out)
    where
      go : Way ear v f m out → length (served ear v f m out).out ≡ length out
      go (early n i e) = rw e (length-lay _ _ _)
      go (through u r e) = rw e (length-lay _ _ _)

-- a line over the start of a buffer of 269 bytes
pub line-short : (k n : ℕ) (out : List ℕ) → k < 100 → length out ≡ 269 → length (line_of k (take n out)) ≤ 273
line-short k n out g h = omega (arith, line_most k (take n out) g, length-take n out)

pub printed-short : (v : Version) (m p : List ℕ) → length (printed v m p) ≤ 273
unfolding printed
printed-short v m p =
    let a = served (heard Unsealed) v p m (zeros 269) in
    line-short a.number a.len a.out (number_short (heard Unsealed) (heard_lawful Unsealed) v p m (zeros 269))
    (served_long (heard Unsealed) v p m (zeros 269) ∙ length-zeros 269)

-- so a line that was laid where 300 bytes were left has not run over
pub laid_fits : (v : Version) (m p : List ℕ) (at at' : ℕ) (text text' : List ℕ) → Laid at at' text text' (printed v m p)
    → at + 300 ≤ length text → at' ≤ length text'
laid_fits v m p at at' text text' l h = omega (arith, printed-short v m p, ap length l.laid, length-lay text at (printed v m p))

-- a call that kept the promise of serving
module _ (v : Version) (p m : List ℕ) (r : Answer) (m' out : List ℕ) (s : Serves (served (heard Unsealed) v p m (zeros 269)) r m' out) where
  pub reply_short : r.len ≤ 269
  reply_short = rw s.len_is (served-short (heard Unsealed) (heard_lawful Unsealed) v p m (zeros 269))

  pub reply_number : r.number < 100
  reply_number = rw s.number_is (number_short (heard Unsealed) (heard_lawful Unsealed) v p m (zeros 269))

  pub reply_long : length out ≡ 269
  reply_long = ap length s.out_is ∙ served_long (heard Unsealed) v p m (zeros 269) ∙ length-zeros 269

  pub line_is : line_of r.number (take r.len out) ≡ printed v m p
  unfolding printed
  line_is = rw (s.number_is, s.len_is, s.out_is)
