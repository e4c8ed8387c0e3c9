-- The four checks of a file in their order, and each number for its own reason, of any file. Assumes nothing.
use mathlib.Core.Path.{◌≡◌, refl, sym, ◌∙◌}
use mathlib.Core.List.{List, [], ◌∷◌, map, Memᴰ}
use mathlib.Core.Bool.{true, false}
use Prim.Native.Nat.{ℕ, ◌≤◌}
use Rattle.std.specs.Prelude.{Result}
use Rattle.laws.specs.Checks.{Check, first_failing, judged, Gives, AllPass, rising_from}
use Rattle.laws.proofs.Checks.{gives_first, lowest_given, none_fails, judged_passed}
use Rattle.output.specs.declared.refusal.Refusal.{Refusal}
use Rattle.output.specs.Refusal.{number_in}
use Rattle.output.proofs.Refusals.{one_result}
use Rattle.survey.specs.Rows.{rises_then_stays}
use Rattle.survey.specs.File.{contents_in, parts_in, table_sent, eleven_frames, is_one_table, each_once, file_checks, file_number}

module _ (s : List ℕ) where
  abbrev cs : List (List ℕ)
  cs = contents_in s

  -- ---- in their order

  pub file-numbered : map (λ c. c.number) (file_checks s) ≡ 17 ∷ (18 ∷ (19 ∷ (20 ∷ [])))
  file-numbered = refl

  pub file_rise : rising_from 0 (file_checks s) ≡ true
  unfolding rising_from
  file_rise = refl

  pub file_gives : Gives (file_checks s) (file_number s)
  unfolding file_number
  file_gives = gives_first (file_checks s)

  pub file_lowest : {c : Check} → Memᴰ c (file_checks s) → c.passes ≡ false → file_number s ≤ c.number
  file_lowest = lowest_given (file_checks s) _ file_rise file_gives

  -- the promise is an equation, and leaves one outcome
  pub file_one_outcome : (q r : ℕ) → q ≡ file_number s → r ≡ file_number s → q ≡ r
  file_one_outcome q r a b = a ∙ sym b

  -- the number leads back to what was returned
  pub file_one_result : (q r : Result (Unit {0}) Refusal) → number_in q ≡ file_number s → number_in r ≡ file_number s → q ≡ r
  file_one_result q r a b = one_result tt q r (a ∙ sym b) refl

  -- ---- 0 is all four

  pub passes-all : file_number s ≡ 0 → AllPass (file_checks s)
  unfolding file_number
  passes-all z = none_fails 0 (file_checks s) file_rise z

  pub all_pass_0 : AllPass (file_checks s) → file_number s ≡ 0
  unfolding file_number first_failing
  all_pass_0 p = judged_passed (λ n. n) (file_checks s) 0 p

  -- ---- each for its own reason

  pub no_frames_is_17 : eleven_frames s ≡ false → file_number s ≡ 17
  unfolding file_number first_failing judged
  no_frames_is_17 h = rw h

  module _ (frames : eleven_frames s ≡ true) where
    pub strange_is_18 : is_one_table cs ≡ false → file_number s ≡ 18
    unfolding file_number first_failing judged
    strange_is_18 h = rw (frames, h)

    module _ (table : is_one_table cs ≡ true) where
      pub parts_is_19 : each_once (parts_in cs) ≡ false → file_number s ≡ 19
      unfolding file_number first_failing judged
      parts_is_19 h = rw (frames, table, h)

      module _ (once : each_once (parts_in cs) ≡ true) where
        pub rows_is_20 : rises_then_stays (table_sent cs) ≡ false → file_number s ≡ 20
        unfolding file_number first_failing judged
        rows_is_20 h = rw (frames, table, once, h)
