-- 55, 61 and 64 answer with the word that the image keeps, true or false: no byte of the item stands in what they reply. And no word is judged. Assumes
-- nothing.
use Rattle.std.specs.Prelude.{Some}
use mathlib.Core.Path.{◌≡◌, refl, ap, ◌∙◌}
use mathlib.Core.List.{List, ◌++◌}
use mathlib.Core.Bool.{Bool, true, false}
use Prim.Native.Nat.{ℕ, ◌+◌, ◌-◌, ◌*◌, ◌≤◌, ◌<◌}
use native.Mathlib.Decide.{dec_le}
use native.Mathlib.Omega.{arith}
use lib.ListN.{length, get_or, take}
use Rattle.laws.specs.Bytes.{two, word_at}
use Rattle.frame.specs.Apart.{contents_of}
use Rattle.frame.specs.Built.{frame_of}
use Rattle.image.specs.declared.cell.Cell.{Cell}
use Rattle.image.specs.declared.version.Version.TheVariants.{V2}
use Rattle.image.specs.Cell.{constants_named, errors_named, table_index, table_named}
use Rattle.image.specs.Words.{kept_offset, signature_word}
use Rattle.image.specs.Usable.{usable, address}
use Rattle.image.proofs.UsableFacts.{usable_same}
use Rattle.rules.specs.declared.rule.Act.TheVariants.{Sign}
use Rattle.rules.specs.declared.rule.Rule.{Rule}
use Rattle.rules.specs.Order.{Accepted}
use Rattle.rules.specs.Rules.{byte, named_by, commands, rule_of}
use Rattle.rules.proofs.Naming.{when_cell}
use Rattle.izk.specs.Heard.{Hearing, Lawful}
use Rattle.izk.specs.Block.{served}
use Rattle.izk.proofs.Serving.{unusable_is_1, no_room_is_2, zero_is_accepted}
use Rattle.izk.proofs.Changes.{acceptance_by_address}
use Rattle.izk.proofs.ReadBack.{Replies, replies_as_said}

-- a command that was done replies its address, its own number and the byte behind it, and then the word at an offset that this byte gives
abbrev pub AnswersWord : ℕ → (ℕ → ℕ) → Type 0
AnswersWord k from = (ear : Hearing) → Lawful ear → (g m out : List ℕ) → byte (contents_of g) 2 ≡ k → (served ear V2 g m out).number ≡ 0
    → Replies (served ear V2 g m out) (frame_of (take 3 (contents_of g) ++ two (word_at m (from (byte (contents_of g) 3)))))

-- a rule that signs what one byte names
pub record Signs (k : ℕ) (from : ℕ → ℕ) : Type 0 where
  pub rule : Rule
  pub found : rule_of k commands ≡ Some rule
  pub echoes : rule.echo ≡ 1
  pub acts : rule.act ≡ Sign
  pub word : (c : List ℕ) (d : Cell) → named_by rule.names c ≡ Some d → signature_word d ≡ Some (from (byte c 3))

signs_answer : {k : ℕ} {from : ℕ → ℕ} → Signs k from → AnswersWord k from
signs_answer {from} r ear ok g m out is z =
    let (u, room, x) = zero_is_accepted ear ok V2 g m out z in
    let b = ok.follows (address m) g r.rule x.verdict (rw is r.found) in
    let h : ear (address m) g ≡ Accepted 1 Sign x.cell = x.verdict ∙ rw (b.echoes, b.acts, r.echoes, r.acts) in
    let w = r.word (contents_of g) x.cell b.names in
    rw w at (replies_as_said ear ok V2 g m 1 Sign x.cell h u out room)

-- ---- the three, by the offsets of document 02

signs_55 : Signs 55 (λ n. 23785 + 2 * n)
unfolding rule_of commands constants_named
signs_55 =
    record { rule = _; found = refl; echoes = refl; acts = refl; word = λ c d h. let p = when_cell _ _ _ h in rw (← p.1) (ap Some (omega arith)) }

signs_61 : Signs 61 (λ t. 23753 + 2 * table_index t)
unfolding rule_of commands table_named
signs_61 =
    record { rule = _; found = refl; echoes = refl; acts = refl; word = λ c d h. let p = when_cell _ _ _ h in rw (← p.1) }

signs_64 : Signs 64 (λ n. 23801 + 2 * (n - 1))
unfolding rule_of commands errors_named
signs_64 =
    record { rule = _; found = refl; echoes = refl; acts = refl; word = λ c d h. let p = when_cell _ _ _ h in rw (← p.1) (ap Some (omega arith)) }

-- on every image on which they are done, whatever its words are
pub answers-words : AnswersWord 55 (λ n. 23785 + 2 * n) × AnswersWord 61 (λ t. 23753 + 2 * table_index t) × AnswersWord 64 (λ n. 23801 + 2 * (n - 1))
answers-words = (signs_answer signs_55, signs_answer signs_61, signs_answer signs_64)

-- ---- and no word is judged

-- of two images of one length that have the same bytes before the words, and any words, a frame gets the same number: 1 and what follows ask nothing of
-- these
pub words_unjudged : (ear : Hearing) (f m m' out : List ℕ) → length m' ≡ length m → ((i : ℕ) → i < kept_offset 0 → get_or m' i 0 ≡ get_or m i 0)
    → (served ear V2 f m' out).number ≡ (served ear V2 f m out).number
words_unjudged ear f m m' out long same = go (usable V2 m) refl (dec_le 269 (length out))
  where
    alike : usable V2 m' ≡ usable V2 m
    alike = usable_same V2 m m' long (λ i l. same i (omega arith))

    go : (b : Bool) → usable V2 m ≡ b → Dec (269 ≤ length out) → (served ear V2 f m' out).number ≡ (served ear V2 f m out).number
    go false u r = rw (unusable_is_1 ear V2 f m out u, unusable_is_1 ear V2 f m' out (alike ∙ u))
    go true u (no r) = rw (no_room_is_2 ear V2 f m out u (omega arith), no_room_is_2 ear V2 f m' out (alike ∙ u) (omega arith))
    go true u (yes r) = acceptance_by_address ear V2 f m' m out out (alike ∙ u) u (same 5 (omega arith)) r r
