-- `write_cells` meets its contract: the leaf is filled from the first chain present on.
use native.Mathlib.Omega.{arith}
use Rattle.weights.proofs.LeafLaws.{kept_to_fill, kept_filled}
use Rattle.weights.proofs.write_cells.Goals as goal

pub fill-requires : goal.fill-requires
fill-requires c = kept_to_fill c.requires.leaf_ends c.those_present-present.ensures _ c.requires.room c.requires.none_large

pub returns : goal.returns
returns c =
    kept_filled c.requires.leaf_ends c.those_present-present.ensures c.args.out.now _ _
    (omega (arith, c.fill.auto.out, c.requires.room)) c.fill.ensures.next_place c.fill.ensures.written
