use Rattle.calendar.proofs.Dates.{day_numbers as TheLaw}
use Rattle.calendar.proofs.date.day_numbers.Goals as goal

pub returns : goal.returns
returns c = TheLaw
