-- Each way out is what the definition adds there. Assumes nothing.
use mathlib.Core.Path.{◌≡◌, sym, ◌∙◌}
use mathlib.Core.Bool.{true}
use Prim.Native.Nat.{◌≤◌}
use native.Mathlib.Omega.{arith}
use lib.ListN.{length, length-drop}
use borrow.Author.Rules.{rules}
use Rattle.rules.specs.Rules.{byte}
use Rattle.survey.specs.File.{sends}
use Rattle.survey.specs.Gather.{is_new}
use Rattle.survey.proofs.Frames.{sent_is}
use Rattle.survey.proofs.PartNumbers.{new_is}
use Rattle.survey.proofs.Gathering.{strange-added, repeated-added, new-laid}
use Rattle.survey.proofs.sheet.Sheet.add.Goals.{Else-not-sends, Else-not-is_new}
use Rattle.survey.proofs.sheet.Sheet.add.Goals as goal

-- past the first way out it is a whole part for the address and the table
sent : (e : Else-not-sends) → sends e.args.self.now.first.address e.args.self.now.first.table e.args.c.now ≡ true
sent e = sym e.sends.ensures ∙ e.if-not-sends.false

long : (e : Else-not-sends) → length e.args.c.now ≡ 132
long e = (sent_is e.args.self.now.first.address e.args.self.now.first.table e.args.c.now (sent e)).long

-- past the second it is one of the eleven that did not come yet
new : (n : Else-not-is_new) → is_new n.args.self.now.parts (byte n.args.c.now 4) ≡ true
new n = sym n.is_new.ensures ∙ n.if-not-is_new.false

inside : (n : Else-not-is_new) → (1 ≤ byte n.args.c.now 4) × (byte n.args.c.now 4 ≤ 11)
inside n = let i = new_is n.args.self.now.parts (byte n.args.c.now 4) (new n) in (i.0, i.1)

pub returns-then-not-sends : goal.returns-then-not-sends
returns-then-not-sends c =
    sym (strange-added c.args.self.now c.args.c.now (sym c.sends.ensures ∙ c.if-not-sends.true))

pub bounds-c-3 : goal.bounds-c-3
bounds-c-3 c = omega (arith, long (goal.at.bounds-c-3 c).Else-not-sends)

pub returns-then-not-is_new : goal.returns-then-not-is_new
returns-then-not-is_new c =
    let old = sym c.is_new.ensures ∙ c.if-not-is_new.true in
    sym (repeated-added c.args.self.now c.args.c.now (sent (goal.at.returns-then-not-is_new c).Else-not-sends) old)

pub overflow_sub-k : goal.overflow_sub-k
overflow_sub-k c = omega (arith, inside (goal.at.overflow_sub-k c).Else-not-is_new)

pub slice_bounds-put_all-count : goal.slice_bounds-put_all-count
slice_bounds-put_all-count c = omega (arith, long (goal.at.slice_bounds-put_all-count c).Else-not-sends)

pub slice_bounds-put_all-start : goal.slice_bounds-put_all-start
slice_bounds-put_all-start c = omega (arith, long (goal.at.slice_bounds-put_all-start c).Else-not-sends)

pub put_all-requires : goal.put_all-requires
put_all-requires c =
    let p = goal.at.put_all-requires c in
    let i = inside p.Else-not-is_new in
    let l = long p.Else-not-sends in
    let d = length-drop 4 c.args.c.now in
    search rules

pub set_bit-self-requires : goal.set_bit-self-requires
set_bit-self-requires c = omega (arith, inside (goal.at.set_bit-self-requires c).Else-not-is_new)

pub returns : goal.returns
returns c =
    let p = goal.at.returns c in
    let laid = rw c.from.ensures at c.put_all.ensures.laid in
    let parts = rw c.from-2.ensures at c.set_bit-self.ensures in
    new-laid c.args.self.now c.args.c.now (sent p.Else-not-sends) _ _ (new p.Else-not-is_new) parts laid
