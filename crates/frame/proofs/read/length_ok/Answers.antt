-- The range and the remainder are the definition's. Assumes nothing.
use mathlib.Core.Path.{◌≡◌, sym, ap, ◌∙◌}
use mathlib.Core.Bool.{Bool, ◌&&◌}
use Prim.Native.Nat.{◌%◌}
use lib.Dec.{eqb}
use Rattle.laws.specs.Checks.{within}
use Rattle.frame.specs.Apart.{length_ok}
use Rattle.frame.proofs.Answers.{in_range, length_is}
use Rattle.frame.proofs.read.length_ok.Goals.{After-contains}
use Rattle.frame.proofs.read.length_ok.Goals as goal

told : (c : After-contains) → (c.contains.result && eqb (c.args.n % 2) 1) ≡ length_ok c.args.n
unfolding length_ok
told c =
    let range : c.contains.result ≡ within 9 269 c.args.n =
    rw (c.contains.ensures.value, c.new.ensures.start, c.new.ensures.end, c.new.ensures.exhausted) (in_range 9 269 c.args.n) in
    ap (λ (t : Bool). t && eqb (c.args.n % 2) 1) range

pub returns : goal.returns
returns c = record { is = told c; bounds = λ h. length_is c.args.n (sym (told c) ∙ h) }
