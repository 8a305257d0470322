-- How wide the fields are.
use Rattle.std.proofs.Common.{◌≡◌, ℕ, true, List, [], ◌∷◌, ◌++◌, length, ℤ, IfSome, Some, None, Option, refl, ◌∙◌, append_assoc}
use Rattle.std.proofs.lemmas.Bool.{eqb-true, and_parts}
use Rattle.std.specs.Option.{option_map}
use Rattle.calendar.specs.declared.date.Date.{Date}
use Rattle.quantity.specs.Codes.{full_code}
use Rattle.record.specs.Stations.{station_text}
use Rattle.values.proofs.Back.{wide}
use Rattle.values.specs.Writing.{written}
use Rattle.line.specs.Lines.{minute_text, or_blank, spaced}

pub station_long : (text : List ℕ) → station_text text ≡ true → length text ≡ 8
station_long text e = eqb-true (length text) 8 (and_parts _ _ e).0

pub code_long : (signs : List ℕ) → full_code signs ≡ true → length signs ≡ 7
code_long signs e = eqb-true (length signs) 7 (and_parts _ _ e).0

pub value_long : (v : Option ℤ) → length (written v) ≡ 14
value_long v = wide v

pub created_long : (t : Option (Date × ℕ)) → length (or_blank 12 (option_map minute_text t)) ≡ 12
created_long None = refl
created_long (Some t) = refl

pub source_long : (s : Option (List ℕ)) → IfSome s (λ text. station_text text ≡ true) → length (or_blank 8 s) ≡ 8
source_long None h = refl
source_long (Some text) h = station_long text h

pub ten : (a b c d e f g h i j : List ℕ)
    → (((((((((a ++ 32 ∷ b) ++ 32 ∷ c) ++ 32 ∷ d) ++ 32 ∷ e) ++ 32 ∷ f) ++ 32 ∷ g) ++ 32 ∷ h) ++ 32 ∷ i) ++ 32 ∷ j) ++ 10 ∷ []
    ≡ spaced (a ∷ b ∷ c ∷ d ∷ e ∷ f ∷ g ∷ h ∷ i ∷ j ∷ [])
ten a b c d e f g h i j =
    append_assoc _ (32 ∷ j) _ ∙ append_assoc _ (32 ∷ i) _ ∙ append_assoc _ (32 ∷ h) _ ∙ append_assoc _ (32 ∷ g) _ ∙ append_assoc _ (32 ∷ f) _
    ∙ append_assoc _ (32 ∷ e) _ ∙ append_assoc _ (32 ∷ d) _ ∙ append_assoc _ (32 ∷ c) _ ∙ append_assoc _ (32 ∷ b) _
