-- The examples hold, and two lines beside them: every definition of serving is computed on them. Assumes nothing.
use mathlib.Core.Path.{◌≡◌, refl}
use mathlib.Core.Bool.{true}
use mathlib.Core.List.{[]}
use Rattle.laws.specs.Bytes.{slice, lay, zeros, padded, sum_of, two, word_at, codes}
use Rattle.laws.specs.Checks.{judged, within, every, all, among, same}
use Rattle.laws.specs.Bits.{with_bit}
use Rattle.frame.specs.Digits.{is_digit, value_of, char_of, chars_of, bytes_of, checksum_of}
use Rattle.frame.specs.Apart.{length_ok, ends_ok, inner, body_of, contents_of, sum_ok, frame_checks}
use Rattle.frame.specs.Built.{frame_of}
use Rattle.image.specs.Version.{current}
use Rattle.image.specs.Cell.{when, constants_named, errors_named, is_table, table_index, table_named, part_named}
use Rattle.image.specs.Words.{table_word}
use Rattle.image.specs.Usable.{mark_ok, address_ok, count_ok, word_ok, usable}
use Rattle.image.specs.Fresh.{fresh}
use Rattle.storing.specs.Stored.{stored}
use Rattle.rules.specs.declared.switch.Switch.TheVariants.{Sealed}
use Rattle.rules.specs.Rules.{rowed, rows_named, zero_from, blank, constants_ok, degrees, rises, clock_ok, mode_ok, commands, rule_of}
use Rattle.rules.specs.Seal.{lets}
use Rattle.rules.specs.Verdict.{tried, sought, recognised}
use Rattle.izk.specs.Heard.{heard, answered}
use Rattle.izk.specs.Block.{served}
use Rattle.izk.specs.Frames.{ended, on, after, right, example, examples}

-- on the fresh image P11's frame has another reply than after P10, so that the examples tell whether P10 was stored; and sealed, P2's frame has another
-- number, so that with it they tell whether the switch is asked
pub examples_hold : (all (right current) examples ≡ true) × (right current (example [] ":013F01BF" 0 ":013F0100BF" 0) ≡ true)
    × ((served (heard Sealed) current (ended ":01330FBD") (fresh current 1) (zeros 269)).number ≡ 16)
unfolding examples ended on after right served answered heard recognised sought lets tried rule_of commands rowed rows_named zero_from blank constants_ok
    degrees rises clock_ok mode_ok mark_ok address_ok count_ok table_word word_ok usable fresh stored when constants_named errors_named is_table
    table_index table_named part_named length_ok ends_ok inner body_of contents_of sum_ok frame_checks frame_of is_digit value_of char_of chars_of
    bytes_of checksum_of with_bit judged within every all among same slice lay zeros padded sum_of two word_at codes
examples_hold = (refl, refl, refl)
