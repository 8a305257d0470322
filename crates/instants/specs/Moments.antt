-- Times in UTC by their parts.
use Rattle.std.specs.Prelude.{ℕ}
use Rattle.calendar.specs.declared.date.Date.{Date}
use Rattle.instants.specs.declared.utc_time.UtcTime.{UtcTime}
use Rattle.instants.specs.declared.utc_minute.UtcMinute.{UtcMinute}

-- the date of a time and the second of its day
abbrev pub moment : UtcTime → Date × ℕ
moment t = (t.date, t.second)

-- the date of a minute and the minute of its day
abbrev pub minute_of : UtcMinute → Date × ℕ
minute_of t = (t.date, t.minute)
