-- `write_leaf` meets its contract: the leaf's part of the area is lent, filled, and put back.
use mathlib.Core.Path.{sym, ap, ◌∙◌}
use Rattle.sums.specs.Lists.{some}
use Rattle.calls.specs.Start.{too_large}
use Rattle.fills.proofs.LeafLaws.{part_cells, part_length, length_cells, part_room, put_part}
use Rattle.fills.proofs.leaves.write_leaf.Goals as goal

pub write_cells-requires-clause-room : goal.write_cells-requires-clause-room
write_cells-requires-clause-room c = part_room _ _ _ c.requires.room ∙ sym (part_length _ _ _ c.requires.leaf _ c.reaches-chains.ensures)

pub write_cells-requires-clause-none_large : goal.write_cells-requires-clause-none_large
write_cells-requires-clause-none_large c = ap (some too_large) (part_cells _ _ _ c.requires.leaf _ c.reaches-chains.ensures) ∙ c.requires.none_large

pub returns : goal.returns
returns c =
    put_part c.args.n.now.base c.args.n.now.cells c.args.area.now (c.write_cells.ensures
    ∙ part_cells _ _ _ c.requires.leaf _ c.reaches-chains.ensures) (length_cells _ _ _ c.requires.leaf)
