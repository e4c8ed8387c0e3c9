-- The fourteen rules read and write what document 01 says, line by line; so does whatever follows one of them. Assumes nothing.
use Rattle.std.specs.Prelude.{Some}
use mathlib.Core.Path.{◌≡◌, refl, sym, ap, ◌∙◌}
use mathlib.Core.List.{List, [], ◌∷◌, map}
use mathlib.Core.Bool.{Bool, true, false, cond}
use Prim.Native.Nat.{ℕ}
use native.Mathlib.Omega.{arith}
use lib.Dec.{eqb}
use borrow.Author.Tests.{eqb-true}
use Rattle.image.specs.declared.cell.Cell.{Cell}
use Rattle.image.specs.Cell.{constants_named, errors_named, table_named, part_named}
use Rattle.rules.specs.declared.rule.Act.{Act}
use Rattle.rules.specs.declared.rule.Names.{Names}
use Rattle.rules.specs.declared.rule.Names.TheVariants as N
use Rattle.rules.specs.declared.rule.Rule.{Rule}
use Rattle.rules.specs.Rules.{Command, byte, rows_named, named_by, commands, rule_of}
use Rattle.rules.specs.Fits.{Follows}
use Rattle.rules.proofs.Naming.{when_cell}
use Rattle.command.specs.Act.{reads, writes}
use Rattle.command.specs.Uses.{uses, use_of, cell_by, use_by}

-- the computed statement
pub commands_use : map use_by commands ≡ uses
unfolding commands uses
commands_use = refl

-- ---- so of whatever follows a rule

-- what is named is given by the two bytes
pub named_by_lem : (s : Names) (c : List ℕ) (d : Cell) → named_by s c ≡ Some d → d ≡ cell_by s (byte c 3) (byte c 4)
unfolding constants_named errors_named table_named part_named rows_named
named_by_lem N.Mask c d e = cc
named_by_lem N.Mode c d e = cc
named_by_lem N.Clock c d e = cc
named_by_lem N.Channel c d e = sym (when_cell _ _ _ e).1
named_by_lem N.TablePart c d e = sym (when_cell _ _ _ e).1
named_by_lem N.WholeTable c d e = sym (when_cell _ _ _ e).1
named_by_lem N.ErrorTable c d e = sym (when_cell _ _ _ e).1
named_by_lem N.ErrorRows c d e = sym (when_cell _ _ _ e).1

found_use : (k : ℕ) (r : Rule) (ls : List Command) → rule_of k ls ≡ Some r → use_of k (map use_by ls) ≡ use_by (record { number = k; rule = r })
unfolding rule_of use_of
found_use k r [] i = absurd (let z : ◌≡◌ {A = ℕ} 0 1 = cc in omega arith)
found_use k r (l ∷ ls) i = go (eqb l.number k) refl i (λ j. found_use k r ls j)
  where
    go : (b : Bool) → eqb l.number k ≡ b → cond b (Some l.rule) (rule_of k ls) ≡ Some r
        → (rule_of k ls ≡ Some r → use_of k (map use_by ls) ≡ use_by (record { number = k; rule = r }))
        → cond b (use_by l) (use_of k (map use_by ls)) ≡ use_by (record { number = k; rule = r })
    go true e j ih =
        let n : l.number ≡ k = eqb-true _ _ e in
        let q : l.rule ≡ r = cc in
        rw (← n, ← q)
    go false e j ih = ih j

pub record Used (c : List ℕ) (a : Act) (d : Cell) : Type 0 where
  pub reads_are : reads a d ≡ (use_of (byte c 2) uses).reads (byte c 3) (byte c 4)
  pub writes_are : writes a d ≡ (use_of (byte c 2) uses).writes (byte c 3) (byte c 4)

pub follower_uses : {e : ℕ} {a : Act} {d : Cell} (c : List ℕ) (r : Rule) → rule_of (byte c 2) commands ≡ Some r → Follows e a d r c → Used c a d
follower_uses {a} {d} c r i f =
    let k = byte c 2 in
    let u : use_of k uses ≡ use_by (record { number = k; rule = r }) = ap (use_of k) (sym commands_use) ∙ found_use k r commands i in
    let n = named_by_lem r.names c d f.names in
    record { reads_are = rw (u, f.acts, n); writes_are = rw (u, f.acts, n) }
