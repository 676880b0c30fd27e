-- `length_term` and `length_fields`: a constructor's own bytes and those of its parts. The depth bound falls from a constructor to its parts.
use Rattle.measuring.proofs.+length_fields_length_term.Given as goal

abbrev pub decreases-length_fields : goal.decreases-length_fields
decreases-length_fields l = l.bound

abbrev pub decreases-length_term : goal.decreases-length_term
decreases-length_term l = l.bound
