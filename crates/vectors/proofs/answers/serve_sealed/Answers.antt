-- A sealed call leaves every byte of the image, by the promise of serving. Assumes nothing.
use Rattle.izk.proofs.SealedCalls.{sealed_call_leaves}
use Rattle.vectors.proofs.answers.serve_sealed.Goals as goal

pub returns : goal.returns
returns c = sealed_call_leaves _ _ _ _ _ _ c.serve.ensures
