-- A day's eight digits, read as a date of a message. Assumes nothing.
use Rattle.std.proofs.Common.{◌≡◌, ℕ, List, length, Some, None, Option, unwrap_or, sym, ap, ◌∙◌, subst, inl, inr, arith}
use Rattle.calendar.specs.Messages.{message_date}
use Rattle.calendar.specs.Written.{ccyymmdd}
use Rattle.calendar.specs.declared.date.Date.{Date}
use Rattle.calendar.proofs.Nearest.{date_in_range}
use Rattle.calendar.proofs.Written.{whole_back, written}
use Rattle.listing.specs.Names.{Names, digits, no_day, other}

-- a date that eight bytes write is written with its century
with_century : (line : List ℕ) (d : Date) → length line ≡ 8 → message_date line no_day ≡ Some d → ccyymmdd d ≡ line
with_century line d long e =
    elim (written line no_day d e) [
      | inl four ↦ absurd (omega (arith, ap length four))
      | inr (inl six) ↦ absurd (omega (arith, ap length six.0))
      | inr (inr eight) ↦ sym eight
    ]

-- what is read of a line of eight bytes names its day, or no day
pub eight_name : (line : List ℕ) (o : Option Date) → length line ≡ 8 → o ≡ message_date line no_day → Names line (unwrap_or o no_day)
eight_name line None long e =
    other line (λ d is t. let none : None ≡ Some d = e ∙ ap (λ l. message_date l no_day) (sym t) ∙ whole_back no_day d is in absurd (cc))
eight_name line (Some d) long e =
    subst (λ l. Names l d) (with_century line d long (sym e)) (digits d (date_in_range line no_day d (sym e)))

-- and a line of another length names no day
pub others_name : (line : List ℕ) → (length line ≡ 8 → ⊥) → Names line no_day
others_name line differs = other line (λ d is t. differs (sym (ap length t)))
