-- `run_and_clear` meets its contract: 12 where the area has no room, else the runs, and the model's cells set to 0.
use Rattle.ratesheet.proofs.SheetLaws.{room_none, room_some}
use Rattle.ratesheet.proofs.run_and_clear.Goals as goal

pub returns-then-no_room : goal.returns-then-no_room
returns-then-no_room c = let e = room_none c.requires.full c.args.area.now c.no_room.ensures c.if-no_room.true in record { answer = e.0; left = e.1 }

pub returns : goal.returns
returns c =
    let both = room_some c.requires.full c.args.area.now c.no_room.ensures c.if-no_room.false c.run_all-answer.ensures.kept c.run_all-answer.ensures.answer c.clear.ensures in
    record { answer = both.0; left = both.1 }
