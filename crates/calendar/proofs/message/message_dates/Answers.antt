use Rattle.calendar.proofs.Nearest.{nearest_there, in_century, best_century, date_in_range}
use Rattle.calendar.proofs.Written as written
use Rattle.calendar.proofs.message.message_dates.Goals as goal

pub returns : goal.returns
returns c =
    record {
      nearest = nearest_there;
      century = in_century;
      nearest_century = best_century;
      in_range = date_in_range;
      written = written.written;
      whole_back = written.whole_back;
      short_back = written.short_back;
    }
