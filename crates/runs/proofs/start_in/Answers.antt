-- `start_in` meets its contract: no room, a leaf too large, or filled.
use mathlib.Core.Path.{refl}
use Rattle.runs.proofs.StartLaws.{left_is, start_full, start_large, start_filled}
use Rattle.runs.proofs.start_in.Goals as goal

pub returns-then-no_room : goal.returns-then-no_room
returns-then-no_room c = let both = left_is (start_full _ _ _ c.requires _ c.no_room.ensures c.if-no_room.true) (refl, refl) in record { answer = both.0; left = both.1 }

pub returns-then-some_leaf_too_large : goal.returns-then-some_leaf_too_large
returns-then-some_leaf_too_large c = let both = left_is (start_large _ _ _ c.requires _ c.no_room.ensures c.if-no_room.false c.some_leaf_too_large.ensures c.if-some_leaf_too_large.true) (refl, refl) in record { answer = both.0; left = both.1 }

pub returns : goal.returns
returns c = let both = left_is (start_filled _ _ _ c.requires _ c.no_room.ensures c.if-no_room.false c.some_leaf_too_large.ensures c.if-some_leaf_too_large.false) (refl, c.fill.ensures) in record { answer = both.0; left = both.1 }
