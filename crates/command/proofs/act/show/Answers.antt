-- What counts of a cell lies inside the cell, and so inside the image. Assumes nothing.
use native.Mathlib.Omega.{arith}
use Rattle.command.proofs.Doing.{image_long, first_inside, shown-inside, shown_is, shown_few}
use Rattle.command.proofs.act.show.Goals as goal

pub bounds-m-from : goal.bounds-m-from
bounds-m-from c =
    omega (arith, image_long c.args.m.now c.requires.1, first_inside c.args.cell c.args.m.now c.requires.1 c.requires.0 c.offset-from.ensures)

pub slice_bounds-put_all-end : goal.slice_bounds-put_all-end
slice_bounds-put_all-end c =
    omega (
      arith,
      image_long c.args.m.now c.requires.1,
      shown-inside c.args.cell c.args.m.now c.requires.1 c.requires.0 c.offset-from.ensures c.extent.ensures,
    )

pub put_all-requires : goal.put_all-requires
put_all-requires c =
    let a = c.offset-from.ensures in
    omega (arith, c.requires.2, shown_few c.args.cell c.args.m.now c.requires.1 c.requires.0 a c.extent.ensures)

pub returns : goal.returns
returns c =
    let p = c.put_all.ensures in
    rw (← (shown_is c.args.cell c.args.m.now c.requires.1 c.requires.0 c.offset-from.ensures c.extent.ensures))
    p
