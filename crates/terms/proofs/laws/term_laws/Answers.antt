use Rattle.terms.proofs.Changes as changes
use Rattle.terms.proofs.Openings as openings
use Rattle.terms.proofs.laws.term_laws.Goals as goal

pub returns : goal.returns
returns c =
    record {
      one_term = changes.one_term;
      among_steps_lem = changes.among_steps_lem;
      no_interval = changes.no_interval;
      either_order = changes.either_order;
      opens = openings.opens;
      first_step = openings.first_step;
      unmoved = openings.unmoved;
    }
