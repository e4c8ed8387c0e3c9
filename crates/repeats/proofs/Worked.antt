-- A part sent twice, worked out: between the two sendings it is read, behind them it is read again by the same frame and the table's signature is asked; an
-- error table is replaced by a shorter one, the same part of another table is written, and a third sending is refused. In two orders, into two kinds of
-- outputs, the definition computes one image; the theorem's premises are computed on the list, and it is applied. Assumes nothing.
use mathlib.Core.Path.{◌≡◌, refl}
use mathlib.Core.Logic.{⊎_elim}
use mathlib.Core.List.{List, [], ◌∷◌, ◌++◌, map, Memᴰ}
use mathlib.Core.Bool.{Bool, true, ◌||◌}
use Prim.Native.Nat.{ℕ, ◌<◌}
use native.Mathlib.Omega.{arith}
use lib.ListN.{get_or, replicate}
use lib.Dec.{leb, lit<}
use borrow.Author.Tests.{leb-true}
use Rattle.laws.specs.Bytes.{slice, lay, zeros, padded, sum_of, two, word_at}
use Rattle.laws.specs.Checks.{judged, within, every, all}
use Rattle.laws.specs.Bits.{with_bit}
use Rattle.laws.proofs.Tests.{or_either, every_at}
use Rattle.reorder.specs.Reorder.{outcomes, final, pick, Reorders, KeepsClashes, SameService}
use Rattle.reorder.proofs.Tests.{undoes, reorders_of}
use Rattle.frame.specs.Digits.{is_digit, value_of, char_of, chars_of, bytes_of, checksum_of}
use Rattle.frame.specs.Apart.{length_ok, ends_ok, inner, body_of, contents_of, sum_ok, frame_checks}
use Rattle.frame.specs.Built.{frame_of}
use Rattle.image.specs.declared.cell.Cell.TheVariants.{Part}
use Rattle.image.specs.Version.{current}
use Rattle.image.specs.Cell.{run, when, is_table, table_index, table_named, part_named}
use Rattle.image.specs.Words.{table_word}
use Rattle.image.specs.Usable.{mark_ok, address_ok, count_ok, word_ok, usable}
use Rattle.image.specs.Fresh.{fresh}
use Rattle.storing.specs.Stored.{stored}
use Rattle.rules.specs.declared.switch.Switch.TheVariants.{Unsealed}
use Rattle.rules.specs.Rules.{rowed, rows_named, degrees, rises, commands, rule_of}
use Rattle.rules.specs.Seal.{lets}
use Rattle.rules.specs.Verdict.{tried, sought, recognised}
use Rattle.command.specs.Reply.{writes_of}
use Rattle.izk.specs.Heard.{heard, answered}
use Rattle.izk.specs.Block.{served}
use Rattle.izk.proofs.Hearing.{heard_lawful}
use Rattle.order.specs.Serving.{Call, call, nothing, frames_of, step, Clash}
use Rattle.order.proofs.Tests.{disjoint, no_shared, clear, apart, ordered, is_in_order, keeps_of}
use Rattle.order.proofs.Repeats.{repeats_serve}
use Rattle.order.proofs.Worked.{is_usable, refilled}
use Rattle.repeats.specs.Written.{LastCall}
use Rattle.repeats.proofs.Written.{Holds}
use Rattle.repeats.proofs.Last.{last_call_holds, wrote_exactly, last_call_stays}

-- part 3 of a table, all of its bytes alike
abbrev part3 : ℕ → ℕ → ℕ → Call
part3 a t b = call (frame_of (a ∷ (59 ∷ (t ∷ (3 ∷ replicate 128 b)))))

abbrev asked3 : Call
asked3 = call (frame_of (1 ∷ (60 ∷ (12 ∷ (3 ∷ [])))))

unfoldable pub calls : List Call
calls =
    part3 1 12 1
    ∷ (call (frame_of (1 ∷ (62 ∷ (1 ∷ (2 ∷ (10 ∷ (0 ∷ (5 ∷ (20 ∷ (0 ∷ (6 ∷ [])))))))))))
    ∷ (asked3
    ∷ (part3 1 2 7
    ∷ (part3 1 12 2
    ∷ (call (frame_of (1 ∷ (62 ∷ (1 ∷ (1 ∷ (15 ∷ (0 ∷ (9 ∷ []))))))))
    ∷ (call (frame_of (1 ∷ (61 ∷ (12 ∷ []))))
    ∷ (part3 2 12 9
    ∷ (asked3
    ∷ (call (frame_of (1 ∷ (51 ∷ (255 ∷ []))))
    ∷ [])))))))))

-- an order that keeps that of the calls that clash, and the places at which it has each
unfoldable pub other : List ℕ
other = 7 ∷ (9 ∷ (1 ∷ (0 ∷ (5 ∷ (2 ∷ (3 ∷ (4 ∷ (8 ∷ (6 ∷ [])))))))))

back : List ℕ
back = 3 ∷ (2 ∷ (5 ∷ (6 ∷ (7 ∷ (4 ∷ (9 ∷ (0 ∷ (8 ∷ (1 ∷ [])))))))))

undone : undoes back other ≡ true
unfolding undoes other back every
undone = refl

redone : undoes other back ≡ true
unfolding undoes other back every
redone = refl

keeps_theirs : is_in_order (heard Unsealed) 1 calls other ≡ true
unfolding is_in_order ordered apart clear disjoint all run calls other heard recognised sought lets tried rule_of commands when is_table table_index table_named
    part_named rowed rows_named degrees rises length_ok ends_ok inner body_of contents_of sum_ok frame_checks frame_of is_digit value_of char_of chars_of bytes_of
    checksum_of judged within every slice sum_of
keeps_theirs = refl

-- the same frames in that order, into longer outputs that hold other characters
unfoldable pub calls_again : List Call
calls_again =
    map refilled (
    part3 2 12 9
    ∷ (call (frame_of (1 ∷ (51 ∷ (255 ∷ []))))
    ∷ (call (frame_of (1 ∷ (62 ∷ (1 ∷ (2 ∷ (10 ∷ (0 ∷ (5 ∷ (20 ∷ (0 ∷ (6 ∷ [])))))))))))
    ∷ (part3 1 12 1
    ∷ (call (frame_of (1 ∷ (62 ∷ (1 ∷ (1 ∷ (15 ∷ (0 ∷ (9 ∷ []))))))))
    ∷ (asked3
    ∷ (part3 1 2 7
    ∷ (part3 1 12 2
    ∷ (asked3
    ∷ (call (frame_of (1 ∷ (61 ∷ (12 ∷ []))))
    ∷ [])))))))))
    )

same-frames : frames_of calls_again ≡ pick [] (frames_of calls) other
unfolding calls_again calls other
same-frames = refl

in_order : KeepsClashes (Clash (heard Unsealed) 1) nothing calls other
in_order = keeps_of (heard Unsealed) 1 calls other keeps_theirs

reordered : Reorders 10 other
unfolding back
reordered = reorders_of back other undone redone

pub same_service : SameService (step (heard Unsealed) current) (0, []) (fresh current 1) calls calls_again other
unfolding calls fresh lay zeros
same_service = repeats_serve Unsealed current calls calls_again other (fresh current 1) reordered same-frames in_order

-- ---- both orders, computed by the definition alone

-- one part of table 2 is held and one of table 12, the tenth in the image; a part sent twice counts once
unfoldable pub held_words : List ℕ
held_words = zeros 2 ++ (0 ∷ (4 ∷ (zeros 14 ++ (0 ∷ (4 ∷ zeros 12)))))

-- 128 times 7 is 3 times 256 and 128; 128 times 2 is 256; the short error table adds up to 25
unfoldable pub signatures : List ℕ
signatures = zeros 2 ++ (3 ∷ (128 ∷ (zeros 14 ++ (1 ∷ (0 ∷ (zeros 28 ++ (0 ∷ (25 ∷ zeros 14))))))))

-- the whole image: the mask that was written, the words, the short error table with zeros behind its row, both parts, the signatures, and 0 elsewhere
unfoldable pub expected : List ℕ
expected =
    (73 ∷ (90 ∷ (75 ∷ (0 ∷ (2 ∷ (1 ∷ (255 ∷ zeros 10)))))))
    ++ (held_words ++ (zeros 664 ++ ((1 ∷ (15 ∷ (0 ∷ (9 ∷ zeros 508)))) ++ (zeros 1664 ++ (replicate 128 7 ++ (zeros 11136 ++ (replicate 128 2
    ++ (zeros 9472 ++ signatures))))))))

pub both_orders : (final (step (heard Unsealed) current) (fresh current 1) calls ≡ expected)
    × (final (step (heard Unsealed) current) (fresh current 1) calls_again ≡ expected)
unfolding calls calls_again other held_words signatures expected served answered heard recognised sought lets tried stored rule_of commands mark_ok address_ok
    count_ok table_word word_ok usable fresh when is_table table_index table_named part_named rowed rows_named degrees rises length_ok ends_ok inner body_of contents_of
    sum_ok frame_checks frame_of is_digit value_of char_of chars_of bytes_of checksum_of with_bit judged within every all slice lay zeros padded sum_of two word_at
both_orders = (refl, refl)

-- what each is answered as the list stands: the part that was sent first, and behind the second sending, to the same frame, that one
unfoldable pub answers : List (ℕ × List ℕ)
answers =
    (0, frame_of (1 ∷ (59 ∷ (12 ∷ (3 ∷ [])))))
    ∷ ((0, frame_of (1 ∷ (62 ∷ (1 ∷ []))))
    ∷ ((0, frame_of (1 ∷ (60 ∷ (12 ∷ (3 ∷ replicate 128 1)))))
    ∷ ((0, frame_of (1 ∷ (59 ∷ (2 ∷ (3 ∷ [])))))
    ∷ ((0, frame_of (1 ∷ (59 ∷ (12 ∷ (3 ∷ [])))))
    ∷ ((0, frame_of (1 ∷ (62 ∷ (1 ∷ []))))
    ∷ ((0, frame_of (1 ∷ (61 ∷ (12 ∷ (1 ∷ (0 ∷ []))))))
    ∷ ((7, [])
    ∷ ((0, frame_of (1 ∷ (60 ∷ (12 ∷ (3 ∷ replicate 128 2)))))
    ∷ ((0, frame_of (1 ∷ (51 ∷ (255 ∷ []))))
    ∷ [])))))))))

pub answered_so : outcomes (step (heard Unsealed) current) (fresh current 1) calls ≡ answers
unfolding calls answers served answered heard recognised sought lets tried stored rule_of commands mark_ok address_ok count_ok table_word word_ok usable fresh when
    is_table table_index table_named part_named rowed rows_named degrees rises length_ok ends_ok inner body_of contents_of sum_ok frame_checks frame_of is_digit value_of
    char_of chars_of bytes_of checksum_of with_bit judged within every all slice lay zeros padded sum_of two word_at
answered_so = refl

-- ---- the last sending

-- of the calls behind the second sending none writes the part
abbrev writes_else : ℕ → Bool
writes_else n = leb n 4 || disjoint (Part 9 2 ∷ []) (writes_of (heard Unsealed 1 (get_or calls n nothing).frame))

none-behind : every writes_else 10 ≡ true
unfolding disjoint all run calls heard recognised sought lets tried rule_of commands when is_table table_index table_named part_named rowed rows_named degrees rises
    length_ok ends_ok inner body_of contents_of sum_ok frame_checks frame_of is_digit value_of char_of chars_of bytes_of checksum_of judged within every slice sum_of
none-behind = refl

second_writes : writes_of (heard Unsealed 1 (get_or calls 4 nothing).frame) ≡ Part 9 2 ∷ []
unfolding all calls heard recognised sought lets tried rule_of commands when is_table table_index part_named length_ok ends_ok inner body_of contents_of sum_ok
    frame_checks frame_of is_digit value_of char_of chars_of bytes_of checksum_of judged within every slice sum_of
second_writes = refl

-- so the second is the last accepted write of part 3 of table 12, the refused one behind it not counted
pub second_is_last : LastCall (heard Unsealed) current (Part 9 2) (fresh current 1) calls 4
unfolding calls fresh lay zeros
second_is_last =
    record {
      inside = lit< tt;
      wrote =
          (wrote_exactly (heard Unsealed) (heard_lawful Unsealed) current (Part 9 2) (fresh current 1) is_usable calls 4 (lit< tt)).1
          (rw second_writes (Memᴰ.head refl));
      none_later = λ n l i w.
          later n l i ((wrote_exactly (heard Unsealed) (heard_lawful Unsealed) current (Part 9 2) (fresh current 1) is_usable calls n i).0 w);
    }
  where
    later : (n : ℕ) → 4 < n → n < 10 → ¬ Memᴰ (Part 9 2) (writes_of (heard Unsealed 1 (get_or calls n nothing).frame))
    later n l i w =
        ⊎_elim (λ e. let z = leb-true n 4 e in omega arith) (λ e. no_shared (Part 9 2 ∷ []) _ e (Part 9 2) (Memᴰ.head refl) w)
        (or_either (leb n 4) _ (every_at writes_else 10 n none-behind i))

-- in the other order too, where it stands eighth
pub second_stays_last : LastCall (heard Unsealed) current (Part 9 2) (fresh current 1) calls_again 7
unfolding calls other fresh lay zeros
second_stays_last =
    last_call_stays (heard Unsealed) (heard_lawful Unsealed) current (Part 9 2) calls calls_again other (fresh current 1) reordered same-frames in_order 7
    (lit< tt) second_is_last

-- and the part ends with it
pub second_stays : Holds (Part 9 2) (get_or calls 4 nothing).frame (final (step (heard Unsealed) current) (fresh current 1) calls)
second_stays = last_call_holds (heard Unsealed) (heard_lawful Unsealed) current (Part 9 2) (fresh current 1) calls 4 second_is_last

-- ---- turned round, the other sending stays: the order of calls that clash does show

pub turned_round : (slice 14153 128 (final (step (heard Unsealed) current) (fresh current 1) (part3 1 12 1 ∷ (part3 1 12 2 ∷ []))) ≡ replicate 128 2)
    × (slice 14153 128 (final (step (heard Unsealed) current) (fresh current 1) (part3 1 12 2 ∷ (part3 1 12 1 ∷ []))) ≡ replicate 128 1)
unfolding served answered heard recognised sought lets tried stored rule_of commands mark_ok address_ok count_ok table_word word_ok usable fresh when is_table
    table_index part_named length_ok ends_ok inner body_of contents_of sum_ok frame_checks frame_of is_digit value_of char_of chars_of bytes_of checksum_of with_bit judged
    within every all slice lay zeros padded sum_of two word_at
turned_round = (refl, refl)
