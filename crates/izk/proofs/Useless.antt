-- None of the useless blocks keeps the promise, each breaks it at an example: three in each position of the switch, since P1 and P9 are served in both,
-- the one that stores nothing unsealed, and the one that ignores the switch between the two. Yet there are such blocks, and one that keeps it. Assumes
-- nothing.
use mathlib.Core.Path.{◌≡◌, refl, sym, ap, ◌∙◌}
use mathlib.Core.List.Memᴰ
use mathlib.Core.List.{List, [], ◌∷◌}
use mathlib.Core.Bool.{true, false, ◌&&◌}
use Prim.Native.Nat.{ℕ}
use Prim.Native.String.{String}
use native.Mathlib.Omega.{arith}
use lib.ListN.{length, get_or}
use lib.Seq.{take-length}
use lib.Dec.{eqb}
use borrow.Author.Tests.{eqb-true}
use Rattle.laws.specs.Bytes.{slice, zeros, codes}
use Rattle.laws.specs.Checks.{among, same}
use Rattle.laws.proofs.Tests.{and_both, same_is, all_of}
use Rattle.laws.proofs.Bytes.{length-zeros, lay-take}
use Rattle.frame.specs.Digits.{value_of, bytes_of}
use Rattle.frame.specs.Apart.{inner, body_of, contents_of}
use Rattle.image.specs.Version.{current}
use Rattle.image.specs.Fresh.{fresh}
use Rattle.rules.specs.declared.switch.Switch.{Switch}
use Rattle.rules.specs.declared.switch.Switch.TheVariants.{Unsealed, Sealed}
use Rattle.rules.specs.Rules.{byte}
use Rattle.rules.specs.Seal.{is_write}
use Rattle.command.specs.Reply.{BuffersAfter, reply_in}
use Rattle.izk.specs.Heard.{heard}
use Rattle.izk.specs.Block.{served}
use Rattle.izk.specs.Frames.{Example, ended, on, after, right, example, examples}
use Rattle.izk.specs.Useless.{Block, Keeps, RefusesAll, RepliesTheSame, StoresNothing, EchoesLater, IgnoresSwitch}
use Rattle.izk.specs.Useless.{refusing, same_to_all, forgetting, echoing, ignoring}
use Rattle.izk.proofs.Frames.{examples_hold}
use Rattle.izk.proofs.Sealed.{others_as_unsealed}

-- ---- what an example says

module _ (l : Example) (h : right current l ≡ true) where
  abbrev A : BuffersAfter
  A = on current (after current (fresh current 1) l.earlier) l.frame

  right_is : (eqb A.number l.number ≡ true) × ((same (reply_in A) (ended l.reply) && eqb (get_or A.image 6 0) l.mask) ≡ true)
  unfolding right
  right_is = and_both (eqb A.number l.number) (same (reply_in A) (ended l.reply) && eqb (get_or A.image 6 0) l.mask) h

  number_is : A.number ≡ l.number
  number_is = eqb-true _ _ right_is.0

  reply_is : reply_in A ≡ ended l.reply
  reply_is = same_is _ _ (and_both (same (reply_in A) (ended l.reply)) (eqb (get_or A.image 6 0) l.mask) right_is.1).0

abbrev P1 : Example
P1 = example [] ":0132CD" 0 ":013200CD" 0

abbrev P2 : Example
P2 = example [] ":01330FBD" 0 ":01330FBD" 15

abbrev P9 : Example
P9 = example [] ":013D01C1" 0 ":013D010000C1" 0

abbrev P11 : Example
P11 = example (":013E0101140005A6" ∷ []) ":013F01BF" 0 ":013F0101140005A5" 0

p1 : right current P1 ≡ true
unfolding examples
p1 = all_of (right current) examples_hold.0 (Memᴰ.head refl)

p2 : right current P2 ≡ true
unfolding examples
p2 = all_of (right current) examples_hold.0 (Memᴰ.tail (Memᴰ.head refl))

p9 : right current P9 ≡ true
unfolding examples
p9 = all_of (right current) examples_hold.0
    (Memᴰ.tail (Memᴰ.tail (Memᴰ.tail (Memᴰ.tail (Memᴰ.tail (Memᴰ.tail (Memᴰ.tail (Memᴰ.tail
    (Memᴰ.head refl)))))))))

p11 : right current P11 ≡ true
unfolding examples
p11 = all_of (right current) examples_hold.0
    (Memᴰ.tail (Memᴰ.tail (Memᴰ.tail (Memᴰ.tail (Memᴰ.tail (Memᴰ.tail (Memᴰ.tail (Memᴰ.tail
    (Memᴰ.tail (Memᴰ.tail (Memᴰ.head refl)))))))))))

-- texts of other lengths are other frames
other_length : (s t : String) (m n : ℕ) → length (ended s) ≡ m → length (ended t) ≡ n → (m ≡ n → ⊥) → ended s ≡ ended t → ⊥
other_length s t m n a b d e = d (sym a ∙ ap length e ∙ b)

-- P1 and P9 are no writes
abbrev Asks : String → Type 0
Asks t = is_write (byte (contents_of (ended t)) 2) ≡ false

asks : Asks ":0132CD" × Asks ":013D01C1"
unfolding among codes ended contents_of body_of inner bytes_of value_of slice
asks = (refl, refl)

-- ---- the five

-- a frame that is no write is served sealed as it is unsealed
either_way : (s : Switch) (m : List ℕ) (t : String) → Asks t → served (heard s) current (ended t) m (zeros 269) ≡ on current m t
unfolding on
either_way Unsealed m t w = refl
either_way Sealed m t w = others_as_unsealed current (ended t) m (zeros 269) w

module _ (b : Block) (keeps : Keeps b) where
  -- what a call of the block does with a frame given as text
  call : (n : ℕ) (s : Switch) (m : List ℕ) (t : String) → Asks t → b n s (ended t) m (zeros 269) ≡ on current m t
  call n s m t w = keeps n s (ended t) m (zeros 269) ∙ either_way s m t w

  module _ (s : Switch) where
    -- at P1
    pub not_refusing : ¬ RefusesAll s b
    unfolding after
    not_refusing r =
        r 0 (ended ":0132CD") (fresh current 1) (zeros 269) (ap (λ a. a.number) (call 0 s (fresh current 1) ":0132CD" asks.0) ∙ number_is P1 p1)

    -- at P1 and P9
    pub not_replying_the_same : ¬ RepliesTheSame s b
    unfolding after codes ended
    not_replying_the_same r =
        other_length ":013200CD" ":013D010000C1" 11 15 refl refl (λ e. absurd (let z : ⊥ = omega arith in z))
        (sym (reply_is P1 p1) ∙ sym (ap reply_in (call 0 s (fresh current 1) ":0132CD" asks.0))
        ∙ r 0 0 (ended ":0132CD") (ended ":013D01C1") (fresh current 1) (zeros 269) ∙ ap reply_in (call 0 s (fresh current 1) ":013D01C1" asks.1)
        ∙ reply_is P9 p9)

    -- at P1, as the second call
    pub not_echoing : ¬ EchoesLater s b
    unfolding after codes ended
    not_echoing r =
        other_length ":013200CD" ":0132CD" 11 9 refl refl (λ e. absurd (let z : ⊥ = omega arith in z))
        (sym (reply_is P1 p1) ∙ sym (ap reply_in (call 1 s (fresh current 1) ":0132CD" asks.0))
        ∙ r 0 (ended ":0132CD") (fresh current 1) (zeros 269) (rw (length-zeros 269) (omega arith)))

  -- at P11, unsealed; sealed, to store nothing is what is asked
  pub not_storing_nothing : ¬ StoresNothing Unsealed b
  unfolding after on codes ended
  not_storing_nothing r =
      other_length ":013F0101140005A5" ":013F0100BF" 19 13 refl refl (λ e. absurd (let z : ⊥ = omega arith in z))
      (sym (reply_is P11 p11)
      ∙ ap (λ (m : List ℕ). reply_in (on current m ":013F01BF")) kept
      ∙ reply_is (example [] ":013F01BF" 0 ":013F0100BF" 0) examples_hold.1)
    where
      kept : after current (fresh current 1) (":013E0101140005A6" ∷ []) ≡ fresh current 1
      kept =
          ap (λ a. a.image) (sym (keeps 0 Unsealed (ended ":013E0101140005A6") (fresh current 1) (zeros 269)))
          ∙ r 0 (ended ":013E0101140005A6") (fresh current 1) (zeros 269)

  -- at P2, whose frame is 0 unsealed and 16 sealed
  pub not_ignoring : ¬ IgnoresSwitch b
  unfolding after on
  not_ignoring r = let z : ◌≡◌ {A = ℕ} 16 0 = sym (number Sealed ∙ examples_hold.2) ∙ r 0 f m out ∙ number Unsealed ∙ number_is P2 p2 in omega arith
    where
      f : List ℕ
      f = ended ":01330FBD"

      m : List ℕ
      m = fresh current 1

      out : List ℕ
      out = zeros 269

      number : (s : Switch) → (b 0 s f m out).number ≡ (served (heard s) current f m out).number
      number s = ap (λ a. a.number) (keeps 0 s f m out)

-- ---- there are such blocks

-- each is of its kind, and does what its kind is known for: one replies to all, one acknowledges what it does not store, one serves its first frame
pub record UselessBlocks : Type 0 where
  pub refuses : (s : Switch) → RefusesAll s refusing
  pub same : (s : Switch) → RepliesTheSame s same_to_all
  pub same_replies : (n : ℕ) (s : Switch) (f : List ℕ) → (same_to_all n s f (fresh current 1) (zeros 269)).number ≡ 0
  pub forgets : (s : Switch) → StoresNothing s forgetting
  pub acknowledges : (n : ℕ) (s : Switch) (f m out : List ℕ) → ((forgetting n s f m out).number ≡ (served (heard s) current f m out).number)
      × (reply_in (forgetting n s f m out) ≡ reply_in (served (heard s) current f m out))
  pub echoes : (s : Switch) → EchoesLater s echoing
  pub ignores : IgnoresSwitch ignoring
  pub serves_first : (s : Switch) (f m out : List ℕ) → echoing 0 s f m out ≡ served (heard s) current f m out

pub useless_blocks : UselessBlocks
unfolding after
useless_blocks =
    record {
      refuses = λ s n f m out e. absurd (omega arith);
      same = λ s n k f g m out. refl;
      same_replies = λ n s f. ap (λ a. a.number) (either_way s (fresh current 1) ":0132CD" asks.0) ∙ number_is P1 p1;
      forgets = λ s n f m out. refl;
      acknowledges = λ n s f m out. (refl, refl);
      echoes = λ s n f m out h. lay-take out f h (length f) (omega arith) ∙ take-length f;
      ignores = λ n f m out. refl;
      serves_first = λ s f m out. refl;
    }

-- and there is a block that keeps the promise
pub some_keeps : Keeps (λ n s f m out. served (heard s) current f m out)
some_keeps n s f m out = refl
