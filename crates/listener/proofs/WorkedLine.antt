-- Two lines, worked. On the first, listening and serving are computed by their definitions and no law on lines is used, so it holds the definitions to the
-- documents' frames; the second meets the premises of the theorem on lines. Assumes nothing.
use mathlib.Core.Path.{◌≡◌, refl}
use mathlib.Core.List.{List, [], ◌∷◌, ◌++◌, map}
use mathlib.Core.Option.{some, none}
use mathlib.Core.Bool.{false}
use lib.ListN.{get_or, replicate}
use Rattle.laws.specs.Bytes.{slice, lay, zeros, padded, sum_of, word_at, codes}
use Rattle.laws.specs.Checks.{judged, within, every, all, among}
use Rattle.reorder.specs.Reorder.{outcomes, final}
use Rattle.frame.specs.Digits.{is_digit, value_of, char_of, chars_of, bytes_of, checksum_of}
use Rattle.frame.specs.Apart.{length_ok, ends_ok, inner, body_of, contents_of, sum_ok, frame_checks}
use Rattle.frame.specs.Built.{frame_of}
use Rattle.image.specs.Words.{table_word}
use Rattle.image.specs.Usable.{mark_ok, address_ok, count_ok, word_ok, usable}
use Rattle.image.specs.Fresh.{fresh}
use Rattle.storing.specs.Stored.{stored}
use Rattle.rules.specs.declared.switch.Switch.TheVariants.{Unsealed}
use Rattle.rules.specs.Rules.{commands, rule_of}
use Rattle.rules.specs.Seal.{lets}
use Rattle.rules.specs.Verdict.{tried, sought, recognised}
use Rattle.command.specs.Reply.{BuffersAfter, reply_in}
use Rattle.izk.specs.Heard.{heard, answered}
use Rattle.izk.specs.Block.{served}
use Rattle.izk.specs.Frames.{ended}
use Rattle.listener.specs.Listening.{ends_frame, step_of, before_at, stepped, listened, idle}
use Rattle.listener.specs.Handing.{gathered, handed, takes, end_at, well_formed}
use Rattle.listener.specs.Line.{line, frames_of, Clean, answers_on, left_on, Panel, serves}
use Rattle.listener.specs.WorkedLine.{noisy, spaced, stretches, key_turned, started}
use Rattle.listener.proofs.Line.{line_served_idle}

-- of its 36 bytes the 12th and the 34th hand a frame out; the start that was cut off is no part of the second
pub worked_handed : outcomes takes idle noisy
    ≡ replicate 11 none ++ (some (ended ":0132CD") ∷ (replicate 21 none ++ (some (ended ":01330FBD") ∷ (none ∷ (none ∷ [])))))
unfolding noisy idle listened stepped before_at step_of ends_frame gathered handed within slice lay zeros codes ended
worked_handed = refl

abbrev answers : List BuffersAfter
answers = answers_on (serves (λ _. Unsealed)) idle started noisy

-- and the panel, the key at unsealed, answers these two and nothing else
pub worked_answered : (map (λ a. a.number) answers ≡ 0 ∷ (0 ∷ [])) × (map reply_in answers ≡ ended ":013200CD" ∷ (ended ":01330FBD" ∷ []))
unfolding answers_on noisy started idle listened stepped before_at step_of ends_frame gathered handed ended served answered heard recognised sought lets tried
    rule_of commands mark_ok address_ok count_ok table_word word_ok usable fresh length_ok ends_ok inner body_of contents_of sum_ok frame_checks frame_of is_digit value_of
    char_of chars_of bytes_of checksum_of judged within every all slice lay zeros sum_of word_at codes
worked_answered = (refl, refl)

-- ---- frames with noise between

-- the theorem on lines is of this one
spaced_is : spaced ≡ codes "7F0" ++ line stretches
unfolding spaced stretches ended codes
spaced_is = refl

spaced_clean : Clean stretches
unfolding stretches well_formed end_at among every ended codes
spaced_clean = (refl, (refl, (refl, (refl, (refl, (refl, (refl, (refl, tt))))))))

no_colon : among 58 (codes "7F0") ≡ false
unfolding among codes
no_colon = refl

-- what the frames alone are answered, and the panel that they leave
pub answers_alone : List BuffersAfter
answers_alone = outcomes (serves key_turned) started (frames_of stretches)

pub left_alone : Panel
left_alone = final (serves key_turned) started (frames_of stretches)

-- so by the theorem it is with the line
pub spaced-served : (answers_on (serves key_turned) idle started spaced ≡ answers_alone) × (left_on (serves key_turned) idle started spaced ≡ left_alone)
unfolding answers_alone left_alone
spaced-served = rw spaced_is (line_served_idle key_turned started (codes "7F0") no_colon stretches spaced_clean)

-- the image that one leaves is the one that the next finds, and the key is turned between the second and the third; in the end four are counted, offset 6
-- has the mask, and the one output has the last reply
pub alone_served : (map (λ a. a.number) answers_alone ≡ 0 ∷ (0 ∷ (16 ∷ (0 ∷ []))))
    × ((map reply_in answers_alone ≡ ended ":01330FBD" ∷ (ended ":0133F0DC" ∷ ([] ∷ (ended ":0132F0DD" ∷ []))))
    × ((left_alone.turn ≡ 4) × ((get_or left_alone.image 6 0 ≡ 240) × (slice 0 11 left_alone.out ≡ ended ":0132F0DD"))))
unfolding answers_alone left_alone stretches key_turned started ended served answered heard recognised sought lets tried stored rule_of commands mark_ok
    address_ok count_ok
    table_word word_ok usable fresh length_ok ends_ok inner body_of contents_of sum_ok frame_checks frame_of is_digit value_of char_of chars_of bytes_of checksum_of judged
    within every all among slice lay zeros padded sum_of word_at codes
alone_served = (refl, (refl, (refl, (refl, refl))))
