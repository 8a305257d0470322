-- The words that zones are named by.
use Rattle.std.specs.Prelude.{ℕ, cond, ◌==◌, List, [], ◌∷◌, Option, None, Some, option_map}
use Rattle.second_time.specs.declared.zones.Daylight.{Daylight}
use Rattle.second_time.specs.declared.zones.Daylight.TheVariants.{Never, Always, ByLaw}
use Rattle.second_time.specs.declared.zones.Zone.{Zone}

-- hours behind UTC in standard time: Atlantic (A), Eastern (E), Central (C), Mountain (M), Pacific (P) and Alaska (L)
abbrev pub hours_of : ℕ → Option ℕ
hours_of letter =
    cond (letter == 65) (Some 4)
    (cond (letter == 69) (Some 5) (cond (letter == 67) (Some 6) (cond (letter == 77) (Some 7) (cond (letter == 80) (Some 8) (cond (letter == 76) (Some 9) None)))))

abbrev pub zone_with : Daylight → Option ℕ → Option Zone
zone_with daylight = option_map (λ hours. record { behind = hours; daylight = daylight })

-- a letter alone goes by the law, with S (83) it is standard time, and with D (68) daylight time; Z (90) alone is UTC
abbrev pub zone_of : List ℕ → Option Zone
zone_of [] = None
zone_of (a ∷ []) = cond (a == 90) (Some (record { behind = 0; daylight = Never })) (zone_with ByLaw (hours_of a))
zone_of (a ∷ b ∷ []) = cond (b == 83) (zone_with Never (hours_of a)) (cond (b == 68) (zone_with Always (hours_of a)) None)
zone_of (a ∷ b ∷ c ∷ rest) = None
