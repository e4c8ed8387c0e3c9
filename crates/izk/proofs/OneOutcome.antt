-- Each of the five promises leaves room for one outcome: two that meet it returned the same and left the same in every buffer. Said first of what is
-- reported in the documents' terms, then of the results that are returned. Assumes nothing.
use mathlib.Core.Path.{◌≡◌, refl, sym, ◌∙◌}
use mathlib.Core.List.{List}
use Prim.Native.Nat.{ℕ}
use Rattle.std.specs.Prelude.{Result}
use Rattle.output.specs.declared.refusal.Refusal.{Refusal}
use Rattle.output.specs.Refusal.{number_in}
use Rattle.output.specs.Output.{OutputAfter, Does, Answer, answer_of}
use Rattle.output.proofs.Outcomes.{alike, one_outcome}
use Rattle.output.proofs.Refusals.{one_result, one_answer}
use Rattle.frame.specs.Apart.{apart}
use Rattle.frame.specs.Built.{built}
use Rattle.image.specs.declared.parts.Held.{Held}
use Rattle.image.specs.Version.{current}
use Rattle.image.specs.Made.{Makes}
use Rattle.image.specs.Fresh.{freshened}
use Rattle.image.specs.Held.{held_parts, held_in, HeldAnswer}
use Rattle.image.proofs.OneOutcome.{makes_one_outcome, held_one_outcome, one_held_result}
use Rattle.rules.specs.declared.switch.Switch.{Switch}
use Rattle.command.specs.Reply.{Serves}
use Rattle.izk.specs.Heard.{heard}
use Rattle.izk.specs.Block.{served}

pub serve_one_outcome : (k : Switch) (f m out : List ℕ) (r s : Answer) (m' m'' o p : List ℕ) → Serves (served (heard k) current f m out) r m' o
    → Serves (served (heard k) current f m out) s m'' p
    → (r ≡ s) × (m' ≡ m'') × (o ≡ p)
serve_one_outcome k f m out r s m' m'' o p x y = (
  alike r s (x.number_is ∙ sym y.number_is) (x.len_is ∙ sym y.len_is),
  x.image_is ∙ sym y.image_is,
  x.out_is ∙ sym y.out_is,
)

pub take_apart_one_outcome : (f out : List ℕ) (r s : Answer) (o p : List ℕ) → Does (apart f out) r o → Does (apart f out) s p → (r ≡ s) × (o ≡ p)
take_apart_one_outcome f out = one_outcome (apart f out)

pub build_one_outcome : (c out : List ℕ) (r s : Answer) (o p : List ℕ) → Does (built c out) r o → Does (built c out) s p → (r ≡ s) × (o ≡ p)
build_one_outcome c out = one_outcome (built c out)

pub fresh_one_outcome : (m : List ℕ) (a r s : ℕ) (m' m'' : List ℕ) → Makes (freshened current m a) r m' → Makes (freshened current m a) s m''
    → (r ≡ s) × (m' ≡ m'')
fresh_one_outcome m a = makes_one_outcome (freshened current m a)

pub held_parts_one_outcome : (m : List ℕ) (t : ℕ) (r s : HeldAnswer) → r ≡ held_parts current m t → s ≡ held_parts current m t → r ≡ s
held_parts_one_outcome m t r s = held_one_outcome current m t r s

-- ---- of what is returned

pub serve_one_result : (k : Switch) (f m out : List ℕ) (r s : Result ℕ Refusal) (m' m'' o p : List ℕ)
    → Serves (served (heard k) current f m out) (answer_of r) m' o → Serves (served (heard k) current f m out) (answer_of s) m'' p
    → (r ≡ s) × (m' ≡ m'') × (o ≡ p)
serve_one_result k f m out r s m' m'' o p x y =
    let z = serve_one_outcome k f m out (answer_of r) (answer_of s) m' m'' o p x y in
    (one_answer r s z.0, z.1, z.2)

-- taking apart and building
module _ (a : OutputAfter) where
  pub output_one_result : (r s : Result ℕ Refusal) (o p : List ℕ) → Does a (answer_of r) o → Does a (answer_of s) p → (r ≡ s) × (o ≡ p)
  output_one_result r s o p x y = let z = one_outcome a (answer_of r) (answer_of s) o p x y in (one_answer r s z.0, z.1)

pub fresh_one_result : (m : List ℕ) (a : ℕ) (r s : Result (Unit {0}) Refusal) (m' m'' : List ℕ) → Makes (freshened current m a) (number_in r) m'
    → Makes (freshened current m a) (number_in s) m'' → (r ≡ s) × (m' ≡ m'')
fresh_one_result m a r s m' m'' x y =
    let z = fresh_one_outcome m a (number_in r) (number_in s) m' m'' x y in
    (one_result tt r s z.0 refl, z.1)

pub held_parts_one_result : (m : List ℕ) (t : ℕ) (r s : Result Held Refusal) → held_in r ≡ held_parts current m t → held_in s ≡ held_parts current m t
    → r ≡ s
held_parts_one_result m t r s x y = one_held_result r s (x ∙ sym y)
