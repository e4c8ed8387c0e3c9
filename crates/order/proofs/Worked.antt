-- A worked case of demand 3: all eleven parts of table 2 and two of table 12 are written, one part is read, one signature is asked for twice and
-- one frame is refused, in two orders, into two kinds of outputs. The theorem's premises are computed on it, so they are met by something.
-- Assumes nothing.
use mathlib.Core.Path.{◌≡◌, refl}
use mathlib.Core.List.{List, [], ◌∷◌, ◌++◌, map}
use mathlib.Core.Bool.{true}
use Prim.Native.Nat.{ℕ, zero, suc}
use native.Mathlib.Omega.{arith}
use lib.ListN.{replicate, length-replicate}
use Rattle.laws.specs.Bytes.{slice, lay, zeros, padded, sum_of, two, word_at}
use Rattle.laws.specs.Checks.{judged, within, every, all}
use Rattle.laws.specs.Bits.{with_bit}
use Rattle.reorder.specs.Reorder.{final, pick, SameService}
use Rattle.reorder.proofs.Tests.{undoes, reorders_of}
use Rattle.frame.specs.Digits.{is_digit, value_of, char_of, chars_of, bytes_of, checksum_of}
use Rattle.frame.specs.Apart.{length_ok, ends_ok, inner, body_of, contents_of, sum_ok, frame_checks}
use Rattle.frame.specs.Built.{frame_of}
use Rattle.image.specs.Version.{current}
use Rattle.image.specs.Cell.{run, when, is_table, table_index, table_named, part_named}
use Rattle.image.specs.Words.{table_word}
use Rattle.image.specs.Usable.{mark_ok, address_ok, count_ok, word_ok, usable}
use Rattle.image.specs.Fresh.{fresh}
use Rattle.image.proofs.FreshImage.{fresh-usable}
use Rattle.storing.specs.Stored.{stored}
use Rattle.rules.specs.declared.switch.Switch.TheVariants.{Unsealed}
use Rattle.rules.specs.Rules.{commands, rule_of}
use Rattle.rules.specs.Seal.{lets}
use Rattle.rules.specs.Verdict.{tried, sought, recognised}
use Rattle.izk.specs.Heard.{heard, answered}
use Rattle.izk.specs.Block.{served}
use Rattle.izk.proofs.Hearing.{heard_lawful}
use Rattle.order.specs.Serving.{Call, call, nothing, frames_of, step}
use Rattle.order.proofs.Demand3.{any_order_serves}
use Rattle.order.proofs.Tests.{disjoint, clear, apart, none_meet, quiet, no_clash_of}

-- n parts of table t from part p on, each byte of a part its number
unfoldable pub parts_sent : ℕ → ℕ → ℕ → List Call
parts_sent t p zero = []
parts_sent t p (suc n) = call (frame_of (1 ∷ (59 ∷ (t ∷ (p ∷ replicate 128 p))))) ∷ parts_sent t (suc p) n

-- two that read the same cells do not clash, and one for another block clashes with none
unfoldable pub others_sent : List Call
others_sent =
    call (frame_of (1 ∷ (61 ∷ (3 ∷ []))))
    ∷ (call (frame_of (1 ∷ (61 ∷ (3 ∷ []))))
    ∷ (call (frame_of (1 ∷ (60 ∷ (12 ∷ (3 ∷ [])))))
    ∷ (call (frame_of (2 ∷ (51 ∷ (255 ∷ []))))
    ∷ [])))

unfoldable pub calls : List Call
calls = parts_sent 2 1 11 ++ (parts_sent 12 1 2 ++ others_sent)

-- an order of the seventeen, and the places at which it has each
unfoldable pub other : List ℕ
other = 14 ∷ (12 ∷ (3 ∷ (0 ∷ (16 ∷ (10 ∷ (5 ∷ (11 ∷ (1 ∷ (13 ∷ (9 ∷ (2 ∷ (8 ∷ (15 ∷ (4 ∷ (7 ∷ (6 ∷ []))))))))))))))))

back : List ℕ
back = 3 ∷ (8 ∷ (11 ∷ (2 ∷ (14 ∷ (6 ∷ (16 ∷ (15 ∷ (12 ∷ (10 ∷ (5 ∷ (7 ∷ (1 ∷ (9 ∷ (0 ∷ (13 ∷ (4 ∷ []))))))))))))))))

undone : undoes back other ≡ true
unfolding undoes other back every
undone = refl

redone : undoes other back ≡ true
unfolding undoes other back every
redone = refl

no_two_meet : quiet (heard Unsealed) 1 calls ≡ true
unfolding quiet none_meet apart clear disjoint all run calls parts_sent others_sent heard recognised sought lets tried rule_of commands when is_table table_index
    table_named part_named length_ok ends_ok inner body_of contents_of sum_ok frame_checks frame_of is_digit value_of char_of chars_of bytes_of checksum_of judged
    within every slice sum_of
no_two_meet = refl

pub is_usable : usable current (fresh current 1) ≡ true
is_usable = fresh-usable current 1 (λ e. absurd (let z : ⊥ = omega arith in z))

-- the same frames in that order, into longer outputs that hold other characters
abbrev pub refilled : Call → Call
refilled x = record { frame = x.frame; out = replicate 300 42; room = rw (length-replicate {A = ℕ} 300 42) (omega arith) }

unfoldable pub calls_again : List Call
calls_again = map refilled (pick nothing calls other)

same-frames : frames_of calls_again ≡ pick [] (frames_of calls) other
unfolding calls_again calls parts_sent others_sent other
same-frames = refl

pub same_service : SameService (step (heard Unsealed) current) (0, []) (fresh current 1) calls calls_again other
unfolding calls parts_sent others_sent back fresh lay zeros
same_service =
    any_order_serves (heard Unsealed) (heard_lawful Unsealed) current 1 calls calls_again other (fresh current 1) (is_usable, refl)
    (reorders_of back other undone redone) same-frames (no_clash_of (heard Unsealed) 1 calls no_two_meet)

-- ---- both orders, computed by the definition alone

-- n parts of 128 bytes, from part p on, each byte of a part its number
unfoldable pub rows : ℕ → ℕ → List ℕ
rows p zero = []
rows p (suc n) = replicate 128 p ++ rows (suc p) n

-- the words of the sixteen tables: all eleven parts of table 2 are held, and the first two of table 12, the tenth in the image
unfoldable pub held_words : List ℕ
held_words = zeros 2 ++ (7 ∷ (255 ∷ (zeros 14 ++ (0 ∷ (3 ∷ zeros 12)))))

-- the 32 signatures: that of table 2 is 128 times 66, or 33 times 256; that of table 12, the tenth in the image, 128 times 3, or 256 and 128
unfoldable pub signatures : List ℕ
signatures = zeros 2 ++ (33 ∷ (0 ∷ (zeros 14 ++ (1 ∷ (128 ∷ zeros 44)))))

-- the whole image: mark, version and address, the words, the rows of both tables, the signatures, and 0 elsewhere
unfoldable pub expected : List ℕ
expected =
    (73 ∷ (90 ∷ (75 ∷ (0 ∷ (2 ∷ (1 ∷ zeros 11))))))
    ++ (held_words ++ (zeros 2584 ++ (rows 1 11 ++ (zeros 9856 ++ (rows 1 2 ++ (zeros 9600 ++ signatures))))))

-- as written, and otherwise, into the other outputs
pub both_orders : (final (step (heard Unsealed) current) (fresh current 1) calls ≡ expected)
    × (final (step (heard Unsealed) current) (fresh current 1) calls_again ≡ expected)
unfolding calls calls_again other parts_sent others_sent rows held_words signatures expected served answered heard recognised sought lets tried stored rule_of
    commands mark_ok address_ok count_ok table_word word_ok usable fresh when is_table table_index table_named part_named length_ok ends_ok inner body_of contents_of
    sum_ok frame_checks frame_of is_digit value_of char_of chars_of bytes_of checksum_of with_bit judged within every all slice lay zeros padded sum_of two word_at
both_orders = (refl, refl)

-- ---- false words

-- an image with two: that of table 2 is 10h, though its first part holds 128 times 5, and that of channel 0 is FFFFh
unfoldable pub falsified : List ℕ
falsified = lay (lay (lay (fresh current 1) 2633 (replicate 128 5)) 23755 (0 ∷ (16 ∷ []))) 23785 (255 ∷ (255 ∷ []))

-- two parts of table 2, both ways
unfoldable pub parts : List Call
parts = parts_sent 2 1 2

unfoldable pub parts_back : List Call
parts_back = parts_sent 2 2 1 ++ parts_sent 2 1 1

unfoldable pub false_signatures : List ℕ
false_signatures = zeros 2 ++ (255 ∷ (16 ∷ (zeros 28 ++ (255 ∷ (255 ∷ zeros 30)))))

-- one image is left: 10h less 128 times 5, and 128 times 3 more, is FF10h, remainder by 65,536; the word of channel 0 stays
pub either_order_false : (slice 23753 64 (final (step (heard Unsealed) current) falsified parts) ≡ false_signatures)
    × (final (step (heard Unsealed) current) falsified parts ≡ final (step (heard Unsealed) current) falsified parts_back)
unfolding falsified parts parts_back false_signatures parts_sent served answered heard recognised sought lets tried stored rule_of commands mark_ok address_ok
    count_ok table_word word_ok usable fresh when is_table table_index part_named length_ok ends_ok inner body_of contents_of sum_ok frame_checks frame_of is_digit
    value_of char_of chars_of bytes_of checksum_of with_bit judged within every all slice lay zeros padded sum_of two word_at
either_order_false = (refl, refl)
