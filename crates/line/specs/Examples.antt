-- Two listing lines, written out.
use Rattle.std.specs.Prelude.{◌≡◌, ◌+◌, ◌*◌, true, false, [], ◌∷◌, ◌++◌, pos, Some, None, codes}
use Rattle.record.specs.Entries.{Entry}
use Rattle.record.specs.declared.series.Series.TheVariants.{Single, Later}
use Rattle.line.specs.Lines.{line}

-- a stage of 6.5617 feet, seen on 17 November 2026 at 12:00:05 and sent at 18:30
abbrev pub stage : Entry
stage = record {
  station = codes "ALBW3   ";
  observed = (record { year = 2026; month = 11; day = 17 }, 12 * 3600 + 5);
  created = Some (record { year = 2026; month = 11; day = 17 }, 18 * 60 + 30);
  code = codes "HGIRZZZ";
  duration = 0;
  value = Some (pos 65617);
  qualifier = 90;
  revised = false;
  series = Single;
  source = None;
}

-- a missing day of rain, revised, of a series, with a source
abbrev pub rain : Entry
rain = record {
  station = codes "KEOKUK08";
  observed = (record { year = 1999; month = 2; day = 3 }, 4 * 3600 + 5 * 60 + 6);
  created = None;
  code = codes "PPDRZZZ";
  duration = 2001;
  value = None;
  qualifier = 69;
  revised = true;
  series = Later;
  source = Some (codes "KWOH    ");
}

abbrev pub ExampleLines : Type 0
ExampleLines =
    (line stage ≡ codes "ALBW3    20261117120005 202611171830 HGIRZZZ 0000         6.5617 Z 0 0         " ++ 10 ∷ [])
    × (line rain ≡ codes "KEOKUK08 19990203040506              PPDRZZZ 2001     -9999.0000 E 1 2 KWOH    " ++ 10 ∷ [])
