-- What a command stores it stores from behind what names the cell: a test of its rule alone, and all fourteen are tested at once. Assumes nothing.
use Rattle.std.specs.Prelude.{Some}
use mathlib.Core.Path.{◌≡◌, refl, sym, ◌∙◌}
use mathlib.Core.List.{List}
use mathlib.Core.Bool.{Bool, true}
use Prim.Native.Nat.{ℕ}
use lib.Dec.{eqb}
use borrow.Author.Tests.{eqb-true}
use Rattle.laws.specs.Checks.{all}
use Rattle.image.specs.declared.cell.Cell.{Cell}
use Rattle.rules.specs.declared.rule.Act.{Act}
use Rattle.rules.specs.declared.rule.Act.TheVariants.{Show, Sign, Store}
use Rattle.rules.specs.declared.rule.Names.{Names}
use Rattle.rules.specs.declared.rule.Names.TheVariants as N
use Rattle.rules.specs.declared.rule.Rule.{Rule}
use Rattle.rules.specs.Rules.{byte, commands, rule_of}
use Rattle.rules.specs.Fits.{Follows}
use Rattle.rules.proofs.Fit.{found_tested}
use Rattle.command.specs.Uses.{cell_by}
use Rattle.command.proofs.Uses.{named_by_lem}
use Rattle.repeats.specs.Written.{ahead}

-- it goes by the kind of cell alone
ahead_by : (s : Names) (n p : ℕ) → ahead (cell_by s n p) ≡ ahead (cell_by s 0 0)
ahead_by N.Mask n p = refl
ahead_by N.Mode n p = refl
ahead_by N.Clock n p = refl
ahead_by N.Channel n p = refl
ahead_by N.TablePart n p = refl
ahead_by N.WholeTable n p = refl
ahead_by N.ErrorTable n p = refl
ahead_by N.ErrorRows n p = refl

abbrev stores_behind : Act → Names → Bool
stores_behind Show s = true
stores_behind Sign s = true
stores_behind (Store k) s = eqb k (ahead (cell_by s 0 0))

abbrev behind : ℕ → Rule → Bool
behind k r = stores_behind r.act r.names

commands-behind : all (λ l. behind l.number l.rule) commands ≡ true
unfolding all commands
commands-behind = refl

pub stored-from : {e k : ℕ} {d : Cell} (c : List ℕ) (r : Rule) → rule_of (byte c 2) commands ≡ Some r → Follows e (Store k) d r c → k ≡ ahead d
stored-from {d} c r found follows =
    let t = rw (← follows.acts) at (found_tested behind (byte c 2) r commands commands-behind found) in
    eqb-true _ _ t ∙ sym (ahead_by r.names (byte c 3) (byte c 4)) ∙ rw (named_by_lem r.names c d follows.names)
