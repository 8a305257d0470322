use Rattle.std.proofs.Common.{true, false, refl, arith}
use Rattle.calendar.specs.Dates.{month_length, real, message_day, years_before, months_before}
use Rattle.calendar.specs.Messages.{candidate, nearer, nearest_date, message_date}
use Rattle.instants.specs.Moves.{month_from, by_months, moved}
use Rattle.daylight.specs.Spans.{before_change, between}
use Rattle.calendar.specs.Weekdays.{weekday, nth_sunday}
use Rattle.daylight.specs.Zones.{hours_of, one_letter}
use Rattle.ditems.specs.Moves.{count_of, move_of}
use Rattle.ditems.specs.Readings.{day_of, second_of}
use Rattle.openings.specs.Openings.{word_at, field, opened}
use Rattle.quantity.specs.Elements.{elements}
use Rattle.terms.specs.Items.{kind_item, after_item}
use Rattle.terms.specs.Observed.{shifted, step_reading, observed_at}
use Rattle.terms.specs.Settings.{interval_item}
use Rattle.values.specs.Reading.{read_for}
use Rattle.examples.proofs.SameDay.{same_day}
use Rattle.examples.specs.Worked.{day}
use Rattle.examples.proofs.worked.worked_examples.Goals as goal

pub returns : goal.returns
unfolding message_date nearest_date nearer candidate message_day real month_length years_before months_before weekday nth_sunday before_change between hours_of one_letter after_item kind_item interval_item move_of count_of observed_at day_of second_of step_reading shifted moved by_months month_from elements read_for opened field word_at
returns c =
    record {
      tie = refl;
      tie_behind = refl;
      tie_ahead = refl;
      nearer_ahead = refl;
      no_leap_day = refl;
      no_leap_day_refused = refl;
      no_leap_day_is_5 = refl;
      leap_day_ahead = refl;
      standard_time = same_day (day 2024 3 10) 7140 28740 _ false refl (omega arith) refl refl;
      daylight_time = same_day (day 2024 3 10) 7200 25200 _ true refl (omega arith) refl refl;
      start = same_day (day 2024 1 31) 43200 43200 _ false refl (omega arith) refl refl;
      cut_day = same_day (day 2024 2 29) 43200 43200 _ false refl (omega arith) refl refl;
      whole_day = same_day (day 2024 3 31) 43200 43200 _ false refl (omega arith) refl refl;
      km = refl;
      km_below = refl;
      missing_before = refl;
      missing_after = refl;
    }
