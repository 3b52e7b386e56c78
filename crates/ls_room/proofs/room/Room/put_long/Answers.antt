use Rattle.ls_room.proofs.Vocabulary.{RoomState, ap}
use Rattle.ls_room.proofs.Saying.{says_pending, says_then}
use Rattle.ls_room.proofs.room.Room.put_long.Goals as goal

pub returns-then-bytes-le-ROOM-clause-says : goal.returns-then-bytes-le-ROOM-clause-says
returns-then-bytes-le-ROOM-clause-says g c =
    let pending = ap (λ (r : RoomState). r.pending) c.append.ensures in
    let fault = ap (λ (r : RoomState). r.fault) c.append.ensures in
    says_then c.flush.ensures.says (says_pending _ _ _ _ _ pending fault)

pub returns-else-bytes-le-ROOM-clause-says : goal.returns-else-bytes-le-ROOM-clause-says
returns-else-bytes-le-ROOM-clause-says g c = says_then c.flush.ensures.says c.pass.ensures.says
