-- Serving a frame on a lent image with a lent output: all its refusals, in their order, and what is left in both buffers.
-- Assumes nothing.
use Rattle.std.specs.Prelude.{List, [], ◌∷◌, ℕ, length, leb}
use Rattle.laws.specs.Checks.{check, judged}
use Rattle.image.specs.declared.version.Version.{Version}
use Rattle.image.specs.Usable.{usable}
use Rattle.command.specs.Reply.{refusal, BuffersAfter, sent}
use Rattle.izk.specs.Heard.{Hearing, answered}

-- checks 1 and 2 come before those of the frame; 269 is asked for also where the reply would fit in less
unfoldable pub served : Hearing → Version → List ℕ → List ℕ → List ℕ → BuffersAfter
served ear v f m out =
    judged (λ n. sent (refusal n m) out) (check 1 (usable v m) ∷ (check 2 (leb 269 (length out)) ∷ [])) (sent (answered ear v f m) out)
