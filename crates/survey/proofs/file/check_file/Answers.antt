-- Each way out is the check that the definition has there. Assumes nothing.
use mathlib.Core.Path.{◌≡◌, refl, sym, ap, ◌∙◌}
use mathlib.Core.Bool.{Bool, true, false, not, cond}
use Prim.Native.Nat.{ℕ}
use Rattle.std.specs.Prelude.{Option, Some, None, is_some}
use Rattle.std.proofs.lemmas.Result.{err_from_is_err_and}
use Rattle.output.specs.Refusal.{number_in}
use Rattle.laws.specs.Bytes.{zeros}
use Rattle.laws.proofs.Bytes.{length-zeros}
use Rattle.image.specs.Cell.{is_table, table_index, index_named}
use Rattle.survey.proofs.Checking.{Known, Tabled}
use Rattle.survey.proofs.Checking.{too_long_is_17, first_is_17, broken_is_17, frames_wrong, stranger, address_0, no_table, part_again, rows_fall, rows_rise}
use Rattle.survey.proofs.file.check_file.Goals.{In_ok-frames, Else-is_none}
use Rattle.survey.proofs.file.check_file.Goals as goal

-- what was read, where every piece is a frame
known : (i : In_ok-frames) → Known i.args.file.now (zeros 1408) i.in_ok-first.first i.read.new.self i.in_ok-frames.frames
known i =
    record {
      short = i.if-file-gt-FILE_MOST.false;
      opens = rw i.in_ok-first.ensures.ok_part at i.first_of.ensures;
      reads = rw (i.new-sheet.ensures, i.in_ok-frames.ensures.ok_part) at i.read.ensures;
    }

-- whether the number that was asked is a table's
indexed : (t n : ℕ) (o : Option ℕ) (b : Bool) → o ≡ index_named n → n ≡ t → is_some o ≡ not b → is_table t ≡ not b
unfolding index_named
indexed t n o b named same some = go (is_table t) refl (ap is_some (rw same at named))
  where
    go : (c : Bool) → is_table t ≡ c → is_some o ≡ is_some (cond (is_table t) (Some (table_index t)) None) → is_table t ≡ not b
    go true e h = e ∙ sym (rw e at h) ∙ some
    go false e h = e ∙ sym (rw e at h) ∙ some

-- once 17 and 18 passed
passed : (f : Else-is_none) → Tabled f.args.file.now (zeros 1408) f.in_ok-first.first f.read.new.self f.in_ok-frames.frames
passed f =
    record {
      known =
          record {
            short = f.if-file-gt-FILE_MOST.false;
            opens = rw f.in_ok-first.ensures.ok_part at f.first_of.ensures;
            reads = rw (f.new-sheet.ensures, f.in_ok-frames.ensures.ok_part) at f.read.ensures;
          };
      eleven = f.if-frames-ne-FRAMES.false;
      one = f.if-not-sheet.false;
      address = f.if-first-eq0.false;
      table = indexed _ _ _ _ f.table_index.ensures f.from.ensures f.is_none.ensures ∙ ap not f.if-is_none.false;
    }

pub returns-then-file-gt-FILE_MOST : goal.returns-then-file-gt-FILE_MOST
returns-then-file-gt-FILE_MOST c = sym (too_long_is_17 _ c.if-file-gt-FILE_MOST.true)

pub returns-in_err-first : goal.returns-in_err-first
returns-in_err-first c =
    let p = err_from_is_err_and c.from_residual.result c.from_residual.ensures.1 in
    let none = c.in_err-first.ensures.ok_part in
    rw (p.1, p.2) (ap (λ r. number_in r) (rw none at c.in_err-first.ensures.value) ∙ sym (first_is_17 _ (rw none at c.first_of.ensures)))

pub returns-in_err-frames : goal.returns-in_err-frames
returns-in_err-frames c =
    let p = err_from_is_err_and c.from_residual-in_err-frames.result c.from_residual-in_err-frames.ensures.1 in
    let none = c.in_err-frames.ensures.ok_part in
    rw (p.1, p.2) (ap (λ r. number_in r) (rw none at c.in_err-frames.ensures.value) ∙ sym (broken_is_17 _ (rw none at c.read.ensures)))

pub returns-then-frames-ne-FRAMES : goal.returns-then-frames-ne-FRAMES
returns-then-frames-ne-FRAMES c = sym (frames_wrong (known (goal.at.returns-then-frames-ne-FRAMES c).In_ok-frames) c.if-frames-ne-FRAMES.true)

pub returns-then-not-sheet : goal.returns-then-not-sheet
returns-then-not-sheet c =
    sym (stranger (known (goal.at.returns-then-not-sheet c).In_ok-frames) c.if-frames-ne-FRAMES.false c.if-not-sheet.true)

pub returns-then-first-eq0 : goal.returns-then-first-eq0
returns-then-first-eq0 c =
    sym (address_0 (known (goal.at.returns-then-first-eq0 c).In_ok-frames) c.if-frames-ne-FRAMES.false c.if-first-eq0.true)

pub returns-then-is_none : goal.returns-then-is_none
returns-then-is_none c =
    let none = indexed _ _ _ _ c.table_index.ensures c.from.ensures c.is_none.ensures ∙ ap not c.if-is_none.true in
    sym (no_table (known (goal.at.returns-then-is_none c).In_ok-frames) c.if-frames-ne-FRAMES.false none)

pub returns-then-not-sheet-2 : goal.returns-then-not-sheet-2
returns-then-not-sheet-2 c =
    sym (part_again (passed (goal.at.returns-then-not-sheet-2 c).Else-is_none) c.if-not-sheet-2.true)

pub returns-then-not-rise_then_stay : goal.returns-then-not-rise_then_stay
returns-then-not-rise_then_stay c =
    let p = passed (goal.at.returns-then-not-rise_then_stay c).Else-is_none in
    sym (rows_fall p c.if-not-sheet-2.false (length-zeros 1408) (sym c.rise_then_stay.ensures ∙ c.if-not-rise_then_stay.true))

pub returns : goal.returns
returns c =
    let p = passed (goal.at.returns c).Else-is_none in
    sym (rows_rise p c.if-not-sheet-2.false (length-zeros 1408) (sym c.rise_then_stay.ensures ∙ c.if-not-rise_then_stay.false))
