use Rattle.messages.proofs.Carried as carried
use Rattle.messages.proofs.laws.item_records.Goals as goal

pub returns : goal.returns
returns c = record { gives = carried.record_given; silent = carried.none_asked; begun = carried.series_begun }
