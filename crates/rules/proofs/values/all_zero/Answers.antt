-- The fold is the test of all, from what it has found so far. Assumes nothing.
use mathlib.Core.Path.{◌≡◌, ◌∙◌}
use mathlib.Core.Bool.{Bool, true, ◌&&◌, and-true, and_assoc}
use mathlib.Core.List.{List, [], ◌∷◌}
use Prim.Native.Nat.{ℕ}
use lib.Dec.{eqb}
use Rattle.std.proofs.Common.{rules}
use Rattle.std.specs.List.{fold}
use Rattle.laws.specs.Checks.{all}
use Rattle.rules.proofs.values.all_zero.Goals as goal

all_folded : (l : List ℕ) (t : Bool) → fold (λ ok x. ok && eqb x 0) t l ≡ (t && all (λ x. eqb x 0) l)
unfolding all
all_folded [] t = rw and-true
all_folded (x ∷ l) t = all_folded l (t && eqb x 0) ∙ rw and_assoc

pub returns : goal.returns
returns c =
    let folded : c.fold.result ≡ fold (λ ok x. ok && eqb x 0) true c.args.bytes.now = search rules in
    folded ∙ all_folded c.args.bytes.now true
