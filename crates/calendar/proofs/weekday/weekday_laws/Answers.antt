use Rattle.calendar.proofs.Weekdays.{weekday_laws as TheLaw}
use Rattle.calendar.proofs.weekday.weekday_laws.Goals as goal

pub returns : goal.returns
returns c = TheLaw
