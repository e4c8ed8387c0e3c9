-- What a write that succeeded appended joins what was written before it; of the portion behind it the text and the image follow. Assumes nothing.
use Rattle.std.proofs.Common.{◌≡◌, ◌≤◌, length, ℕ, List, [], ◌++◌, Option, Result, Ok, Err, OnOk, arith, sym, ap, ◌∙◌, subst, append_assoc, append-nil}
use Rattle.std.specs.Result.{result_and}
use Rattle.std.specs.Io.KnownBytes.{Appends}
use Rattle.std.proofs.KnownBytes.{Appends-nil, Appends-trans}
use Rattle.desk_run.proofs.Portions.{at_end, nothing_left, after_start, after_run, text_after_start, text_after_run}
use Rattle.desk.proofs.print_all.Goals as goal

-- bytes that were appended, with what is still to come, are the whole
abbrev Said : Option (List ℕ) → Option (List ℕ) → List ℕ → List ℕ → Type 0
Said old new rest all = (bytes : List ℕ) × Appends old new bytes × (bytes ++ rest ≡ all)

-- both were written
both : {E : Type 0} (before now : Result (Unit {0}) E) (a b c : Option (List ℕ)) (portion rest all : List ℕ)
    → OnOk before (Said a b (portion ++ rest) all) → OnOk now (Appends b c portion) → OnOk (result_and before now) (Said a c rest all)
both (Ok _) (Ok _) a b c portion rest all said put =
    (said.0 ++ portion, Appends-trans a b c said.0 portion said.1 put, append_assoc said.0 portion rest ∙ said.2)
both (Ok _) (Err _) a b c portion rest all said put = tt
both (Err _) now a b c portion rest all said put = tt

-- with nothing to come, they are the whole
done : {E : Type 0} (r : Result (Unit {0}) E) (a b : Option (List ℕ)) (rest all : List ℕ) → rest ≡ [] → OnOk r (Said a b rest all) → OnOk r (Appends a b all)
done (Ok _) a b rest all e said = subst (Appends a b) (sym (append-nil said.0) ∙ ap (λ l. said.0 ++ l) (sym e) ∙ said.2) said.1
done (Err _) a b rest all e said = tt

-- what is to come may be told anew
told : {E : Type 0} (r : Result (Unit {0}) E) (a b : Option (List ℕ)) (rest again all : List ℕ) → again ≡ rest → OnOk r (Said a b rest all) → OnOk r (Said a b again all)
told (Ok _) a b rest again all e said = (said.0, said.1, ap (λ l. said.0 ++ l) e ∙ said.2)
told (Err _) a b rest again all e said = tt

pub loop-portion-init : goal.loop-portion-init
loop-portion-init g c =
    let r = c.start-portion in
    record {
      fits = r.ensures.fits;
      text_length = omega arith;
      image_length = omega arith;
      image = after_start _ _ _ _ _ _ c.requires.room r.ensures;
      said = ([], Appends-nil _, text_after_start _ _ _ _ _ _ c.requires.room r.ensures);
    }

pub returns-then-input-portion-clause-image : goal.returns-then-input-portion-clause-image
returns-then-input-portion-clause-image g c =
    let end : length c.args.input.now ≤ c.loop-portion.portion.from = omega arith in
    sym (at_end _ _ _ end) ∙ c.loop-portion.invariant.image

pub returns-then-input-portion-clause-text : goal.returns-then-input-portion-clause-text
returns-then-input-portion-clause-text g c =
    let end : length c.args.input.now ≤ c.loop-portion.portion.from = omega arith in
    rw c.and-written.ensures
    (done _ _ _ _ _ (nothing_left _ _ _ end) (both _ _ _ _ _ _ _ _ c.loop-portion.invariant.said c.write_all.ensures.bytes))

pub loop-portion-preserved : goal.loop-portion-preserved
loop-portion-preserved g c =
    let r = c.run-portion in
    record {
      fits = r.ensures.fits;
      text_length = omega arith;
      image_length = omega arith;
      image = after_run _ _ _ _ _ _ _ r.ensures ∙ c.loop-portion.invariant.image;
      said =
          rw c.and-written.ensures
          (told _ _ _ _ _ _ (text_after_run _ _ _ _ _ _ _ r.ensures) (both _ _ _ _ _ _ _ _ c.loop-portion.invariant.said c.write_all.ensures.bytes));
    }
