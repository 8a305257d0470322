use Rattle.laws.proofs.Marking.{message_marked}
use Rattle.laws.proofs.Naming.{message_named, whole_named}
use Rattle.laws.proofs.messages_name_their_records.Goals as goal

pub returns : goal.returns
returns c = record { message = message_named; marks = message_marked; whole = whole_named }
