-- A fact by cases of an option, from another.
use Rattle.std.proofs.Common.{Some, None, Option, MatchOption}

pub some_weaker : {X : Type 0} (o : Option X) {P P' : Type 0} {Q Q' : X → Type 0} → MatchOption o P Q → (P → P') → ((x : X) → Q x → Q' x) → MatchOption o P' Q'
some_weaker None p f h = f p
some_weaker (Some x) q f h = h x q
