-- The desk program prints what it printed when images were of version 1 and summed up each signature that was asked for (document 02, request 7): for every
-- input. From fresh images the two versions answer alike, piece by piece. Assumes nothing.
use mathlib.Core.Path.{◌≡◌, refl, sym, ap, ap₂}
use mathlib.Core.Bool.{cond}
use mathlib.Core.List.{List, [], ◌∷◌, ◌++◌}
use Prim.Native.Nat.{ℕ}
use native.Mathlib.Omega.{arith}
use lib.ListN.{take}
use Rattle.laws.specs.Bytes.{zeros}
use Rattle.text.specs.Cut.{pieces}
use Rattle.image.specs.declared.version.Version.TheVariants.{V1, V2}
use Rattle.image.specs.Fresh.{fresh}
use Rattle.rules.specs.declared.switch.Switch.TheVariants.{Unsealed}
use Rattle.izk.specs.Heard.{heard}
use Rattle.izk.specs.Since.{Turn}
use Rattle.izk.proofs.Hearing.{heard_lawful}
use Rattle.kept.specs.Same.{Same}
use Rattle.kept.proofs.Alike.{answer_alike, stays_same, fresh-same}
use Rattle.desk_run.specs.Line.{line_of}
use Rattle.desk_run.specs.Desk.{printed, left, transcript, too_long, too_long_line, desk_text}

-- the turn that a piece is
abbrev turn : List ℕ → Turn
turn p = record { switch = Unsealed; frame = p; out = zeros 269 }

printed_alike : (m n : List ℕ) → Same m n → (p : List ℕ) → printed V1 m p ≡ printed V2 n p
unfolding printed
printed_alike m n s p =
    ap (λ (a : ℕ × ℕ × List ℕ). line_of a.0 (take a.1 a.2)) (answer_alike m n s heard heard_lawful (turn p))

left-same : (m n : List ℕ) → Same m n → (p : List ℕ) → Same (left V1 m p) (left V2 n p)
unfolding left
left-same m n s p = stays_same m n s heard heard_lawful (turn p)

transcript_alike : (m n : List ℕ) → Same m n → (ps : List (List ℕ)) → transcript V1 m ps ≡ transcript V2 n ps
unfolding transcript
transcript_alike m n s [] = refl
transcript_alike m n s (p ∷ ps) =
    ap₂ (λ (l k : List ℕ). l ++ k) (printed_alike m n s p) (transcript_alike (left V1 m p) (left V2 n p) (left-same m n s p) ps)

pub prints_as_version_1 : (input : List ℕ) → desk_text input ≡ cond (too_long input) too_long_line (transcript V1 (fresh V1 1) (pieces input))
unfolding desk_text
prints_as_version_1 input =
    ap (cond (too_long input) too_long_line)
    (sym (transcript_alike (fresh V1 1) (fresh V2 1) (fresh-same 1 (λ e. absurd (let z : ⊥ = omega arith in z))) (pieces input)))
