-- A file read piece by piece: what a frame that was read gives, and what is left of the file after each. Assumes nothing.
use mathlib.Core.Path.{◌≡◌, refl, sym, ap, subst, ◌∙◌}
use mathlib.Core.Logic.{◌≢◌}
use mathlib.Core.List.{List, [], ◌∷◌, map}
use mathlib.Core.Bool.{true, false}
use Prim.Native.Nat.{ℕ, ◌+◌}
use native.Mathlib.Omega.{arith}
use lib.ListN.{length, get_or, take}
use Rattle.std.specs.Prelude.{Result, Ok, Err, Some, None}
use Rattle.std.specs.Result.{result_ok}
use Rattle.laws.specs.Checks.{within, all}
use Rattle.laws.proofs.Tests.{fails}
use Rattle.laws.proofs.Checks.{all_pass_is, all_pass_if}
use Rattle.output.specs.declared.refusal.Refusal.{Refusal}
use Rattle.output.specs.Refusal.{number_in}
use Rattle.output.specs.Output.{answer_of}
use Rattle.output.proofs.Refusals.{above_0}
use Rattle.text.specs.Cut.{pieces}
use Rattle.frame.specs.Apart.{contents_of, frame_checks, length_ok}
use Rattle.frame.specs.Read.{ReadInto}
use Rattle.frame.proofs.Passing.{read_0, read_passes}
use Rattle.survey.specs.declared.first.First.{First}
use Rattle.survey.specs.declared.sheet.Sheet.{Sheet}
use Rattle.survey.specs.File.{is_frame, contents_in}
use Rattle.survey.specs.Gather.{added, gathered, Opens, Takes, Reads}
use Rattle.survey.proofs.Frames.{address_at_lem, table_at_lem}

-- ---- a piece that was read

module _ {f w : List ℕ} (r : Result ℕ Refusal) (d : ReadInto f (answer_of r) w) where
  pub no_frame : None ≡ result_ok r → is_frame f ≡ false
  unfolding is_frame
  no_frame none = fails (is_frame f) (λ e. refused r none (read_0 d (all_pass_is (frame_checks f) e)))
    where
      refused : (r : Result ℕ Refusal) → None ≡ result_ok r → number_in r ≢ 0
      refused (Ok n) h z = cc
      refused (Err e) h z = let p = above_0 e in omega arith

  -- what it holds was read
  pub contents_read : {n : ℕ} → Some n ≡ result_ok r → ReadInto f (answer_of (Ok n)) w
  contents_read {n} some = subst (λ (q : Result ℕ Refusal). ReadInto f (answer_of q) w) (answered r some) d
    where
      answered : (r : Result ℕ Refusal) → Some n ≡ result_ok r → r ≡ Ok n
      answered (Ok k) h = cc
      answered (Err e) h = cc

module _ {f w : List ℕ} {n : ℕ} (d : ReadInto f (answer_of (Ok n)) w) where
  is_frame_lem : is_frame f ≡ true
  unfolding is_frame
  is_frame_lem = all_pass_if (frame_checks f) (read_passes d refl)

  -- what the code makes of it
  pub takes_frame : (h x : Sheet) → x ≡ added h (take n w) → Takes f h x
  takes_frame h x e = record { good = is_frame_lem; adds = e ∙ ap (added h) (d.contents_are refl) }

  -- and of a file's first, whose contents may end before byte 3, which then counts 0
  pub opens : (s : List ℕ) (ps : List (List ℕ)) → pieces s ≡ f ∷ ps → (x : First) → x.address ≡ get_or (take n w) 0 0 → x.table ≡ get_or (take n w) 2 0 → Opens s x
  opens s ps cut x address table =
      record {
        good = ap is_frame first ∙ is_frame_lem;
        address_is = address ∙ byte_is 0 ∙ sym (address_at_lem s);
        table_is = table ∙ byte_is 2 ∙ sym (table_at_lem s);
      }
    where
      first : get_or (pieces s) 0 [] ≡ f
      first = ap (λ (l : List (List ℕ)). get_or l 0 []) cut

      byte_is : (i : ℕ) → get_or (take n w) i 0 ≡ get_or (contents_of (get_or (pieces s) 0 [])) i 0
      byte_is i = ap (λ (c : List ℕ). get_or c i 0) (d.contents_are refl ∙ sym (ap contents_of first))

-- where a file has no piece, or the first is none, the first piece is no frame
pub opens_empty : (s : List ℕ) → length s ≡ 0 → is_frame (get_or (pieces s) 0 []) ≡ false
unfolding pieces is_frame all frame_checks length_ok within
opens_empty [] h = refl
opens_empty (b ∷ s) h = absurd (omega arith)

pub opens_none : (s f : List ℕ) (ps : List (List ℕ)) → pieces s ≡ f ∷ ps → is_frame f ≡ false → is_frame (get_or (pieces s) 0 []) ≡ false
opens_none s f ps cut n = ap (λ (l : List (List ℕ)). is_frame (get_or l 0 [])) cut ∙ n

-- ---- what is left of the file

module _ (s : List ℕ) (h : Sheet) where
  -- so many frames and what they said being behind
  pub record Left (l : List ℕ) (frames : ℕ) (x : Sheet) : Type 0 where
    pub count : frames + length (pieces l) ≡ length (pieces s)
    pub good : all is_frame (pieces l) ≡ all is_frame (pieces s)
    pub rest : gathered x (map contents_of (pieces l)) ≡ gathered h (contents_in s)

  pub left-all : Left s 0 h
  unfolding contents_in
  left-all = record { count = omega arith; good = refl; rest = refl }

  module _ {l f : List ℕ} {frames : ℕ} {x : Sheet} (left : Left l frames x) where
    -- the next piece is a frame
    pub left_less : (l' : List ℕ) → pieces l ≡ f ∷ pieces l' → (y : Sheet) → Takes f x y → Left l' (frames + 1) y
    unfolding all gathered
    left_less l' cut y d =
        record {
          count = omega (arith, left.count, ap length cut);
          good = sym (ap (all is_frame) cut ∙ rw d.good) ∙ left.good;
          rest = rw d.adds (sym (ap (λ (ps : List (List ℕ)). gathered x (map contents_of ps)) cut) ∙ left.rest);
        }

    -- it is none
    pub left_broken : (ps : List (List ℕ)) → pieces l ≡ f ∷ ps → is_frame f ≡ false → all is_frame (pieces s) ≡ false
    unfolding all
    left_broken ps cut n = sym left.good ∙ ap (all is_frame) cut ∙ rw n

  -- nothing is left
  pub left-none : {l : List ℕ} {frames : ℕ} {x : Sheet} → Left l frames x → length l ≡ 0 → Reads s h x frames
  unfolding all gathered pieces
  left-none {l = []} left e = record { good = sym left.good; frames_are = omega (arith, left.count); gathers = left.rest }
  left-none {l = b ∷ l} left e = absurd (omega arith)
