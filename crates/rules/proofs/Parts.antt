-- Command 59 stores the part that it names, and no other command stores a part: what a command stores is a test of its rule alone, and all
-- fourteen are tested at once. Assumes nothing.
use mathlib.Core.Path.{◌≡◌, refl, sym, ap, ◌∙◌}
use mathlib.Core.List.{List}
use mathlib.Core.Bool.{Bool, true, false, cond}
use Prim.Native.Nat.{ℕ, ◌-◌, ◌≤◌}
use lib.Dec.{eqb}
use borrow.Author.Tests.{eqb-true, eq-eqb}
use Rattle.std.specs.Prelude.{Some}
use Rattle.laws.specs.Checks.{within, all}
use Rattle.laws.proofs.Tests.{and_both, within_is}
use Rattle.image.specs.declared.cell.Cell.{Cell}
use Rattle.image.specs.declared.cell.Cell.TheVariants as Cells
use Rattle.image.specs.Cell.{size, is_table, table_index, part_named}
use Rattle.rules.specs.declared.rule.Act.{Act}
use Rattle.rules.specs.declared.rule.Act.TheVariants.{Show, Sign, Store}
use Rattle.rules.specs.declared.rule.Names.{Names}
use Rattle.rules.specs.declared.rule.Names.TheVariants as N
use Rattle.rules.specs.declared.rule.Rule.{Rule}
use Rattle.rules.specs.Rules.{byte, commands, rule_of}
use Rattle.rules.specs.Fits.{Follows}
use Rattle.rules.proofs.Naming.{when_cell}
use Rattle.rules.proofs.Fit.{kind, names, found_tested}

-- ---- the test of a rule

-- a part has 128 bytes, and nothing else that a command names has as many
abbrev stores_part : Act → Names → Bool
stores_part Show s = false
stores_part Sign s = false
stores_part (Store k) s = eqb (size (kind s).first) 128

abbrev by59 : ℕ → Rule → Bool
by59 k r = cond (stores_part r.act r.names) (eqb k 59) true

commands_by_59 : all (λ l. by59 l.number l.rule) commands ≡ true
unfolding all commands
commands_by_59 = refl

-- ---- what an accepted body stores

module _ {e : ℕ} {a : Act} {d : Cell} (c : List ℕ) (r : Rule) (found : rule_of (byte c 2) commands ≡ Some r) (follows : Follows e a d r c) where
  pub part_by_59 : (n k p : ℕ) → a ≡ Store n → d ≡ Cells.Part k p → byte c 2 ≡ 59
  part_by_59 n k p i j =
      let big : size (kind r.names).first ≡ 128 = sym (names r.names c d follows.names).alike.sized ∙ ap size j in
      let t = found_tested by59 (byte c 2) r commands commands_by_59 found in
      eqb-true _ _ (rw (← follows.acts, i, eq-eqb _ _ big) at t)

  -- the part that a 59 stores, from index 4 of its body on
  pub record Stores59 : Type 0 where
    pub acts : a ≡ Store 4
    pub table : is_table (byte c 3) ≡ true
    pub low : 1 ≤ byte c 4
    pub cell : d ≡ Cells.Part (table_index (byte c 3)) (byte c 4 - 1)

  pub stores_59 : byte c 2 ≡ 59 → Stores59
  unfolding rule_of commands part_named
  stores_59 i =
      let f = rw i at found in
      let act : r.act ≡ Store 4 = cc in
      let s : r.names ≡ N.TablePart = cc in
      let n : part_named (byte c 3) (byte c 4) ≡ Some d = rw s at follows.names in
      let p = when_cell _ _ _ n in
      let b = and_both (is_table (byte c 3)) (within 1 11 (byte c 4)) p.0 in
      record { acts = follows.acts ∙ act; table = b.0; low = (within_is 1 11 (byte c 4) b.1).0; cell = sym p.1 }
