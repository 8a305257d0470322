use Rattle.events.proofs.Rooms.{rooms}
use Rattle.events.proofs.room_decides.Goals as goal

pub returns : goal.returns
returns c = rooms
