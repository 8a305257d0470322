-- What a sink leaves alone: reflexive, and transitive from step to step.
pub record Ties {S : Type 0} (frame : S → S → Type 0) : Type 0 where
  pub stays : (s : S) → frame s s
  pub goes : (s t u : S) → frame s t → frame t u → frame s u
