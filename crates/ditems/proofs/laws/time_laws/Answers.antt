use Rattle.ditems.proofs.Bounds as bounds
use Rattle.ditems.proofs.Keeps as keeps
use Rattle.ditems.proofs.laws.time_laws.Goals as goal

pub returns : goal.returns
returns c =
    record {
      full_hour = keeps.full_hour;
      same_date = keeps.same_date;
      reading_day = bounds.reading_day;
      reading_second = bounds.reading_second;
      hour_24 = bounds.hour_24;
    }
