-- The first check that fails decides; past both the cleared buffer is marked from the front. Assumes nothing.
use mathlib.Core.Path.{refl}
use borrow.Author.Tests.{eq-eqb, ne_eqb}
use Rattle.laws.specs.Checks.{judged}
use Rattle.image.specs.Fresh.{freshened}
use Rattle.image.proofs.FreshImage.{fresh_is}
use Rattle.image.proofs.fresh.freshen.Goals as goal

pub returns-then-m-ne-IMAGE_LENGTH : goal.returns-then-m-ne-IMAGE_LENGTH
unfolding freshened judged
returns-then-m-ne-IMAGE_LENGTH c = rw (ne_eqb _ _ c.if-m-ne-IMAGE_LENGTH.true) (record { number_is = refl; image_is = refl })

pub returns-then-address-eq0 : goal.returns-then-address-eq0
unfolding freshened judged
returns-then-address-eq0 c = rw (eq-eqb _ _ c.if-m-ne-IMAGE_LENGTH.false, eq-eqb _ _ c.if-address-eq0.true) (record { number_is = refl; image_is = refl })

pub returns : goal.returns
unfolding freshened judged
returns c =
    let zeroed = c.fill.ensures.after (λ y e. e) in
    rw (eq-eqb _ _ c.if-m-ne-IMAGE_LENGTH.false, ne_eqb _ _ c.if-address-eq0.false)
    (record {
      number_is = refl;
      image_is =
          rw (c.put_word.ensures, c.copy_from_slice.ensures.after, c.from.ensures, c.number.ensures)
          (fresh_is _ _ _ c.if-m-ne-IMAGE_LENGTH.false zeroed);
    })
