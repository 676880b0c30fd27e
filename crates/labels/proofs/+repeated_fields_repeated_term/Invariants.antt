-- `repeated_term` and `repeated_fields`: the code of a row decides, and the depth bound falls from a constructor to its parts.
use Rattle.labels.proofs.+repeated_fields_repeated_term.Given as goal

abbrev pub decreases-repeated_fields : goal.decreases-repeated_fields
decreases-repeated_fields l = l.bound

abbrev pub decreases-repeated_term : goal.decreases-repeated_term
decreases-repeated_term l = l.bound
