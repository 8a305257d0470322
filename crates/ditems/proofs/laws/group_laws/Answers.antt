use Rattle.ditems.proofs.Ones as ones
use Rattle.ditems.proofs.Several as several
use Rattle.ditems.proofs.laws.group_laws.Goals as goal

pub returns : goal.returns
returns c =
    record {
      one_group = ones.one_group;
      no_group = ones.no_group;
      half_group = ones.half_group;
      letters = ones.letters;
      next_group = several.next_group;
      past_second = several.past_second;
      full_year_of = several.full_year_of;
      half_year = several.half_year;
      past_year = several.past_year;
      hour_minute = several.hour_minute;
    }
