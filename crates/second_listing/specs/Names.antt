-- How names are printed.
use Rattle.std.specs.Prelude.{ℕ, List, encode_utf8, flat_map}
use Rattle.second_listing.specs.declared.listing.Name.{Name}

-- each sign as a character, blanks among them
abbrev pub name_text : Name → List ℕ
name_text n = flat_map encode_utf8 n.signs
