-- The bytes are laid, and the number over theirs. Assumes nothing.
use mathlib.Core.Path.{◌∙◌}
use native.Mathlib.Omega.{arith}
use lib.Seq.{length-take-le}
use Rattle.versions.proofs.Making.{numbered-laid}
use Rattle.versions.proofs.put_common.Goals as goal

pub put_all-requires : goal.put_all-requires
put_all-requires c =
    omega (arith, c.requires.1, length-take-le 23753 c.args.source.now c.requires.0)

pub returns : goal.returns
returns c =
    let laid = numbered-laid c.args.version c.args.source.now c.args.target.now c.requires.0 c.requires.1 in
    c.put_word.ensures ∙ rw (c.from.ensures, c.number.ensures, c.put_all.ensures.laid) laid
