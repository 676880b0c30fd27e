-- `size_term` and `size_fields`: the code of a row decides, and the depth bound falls from a constructor to its parts.
use Rattle.rows.proofs.sizes.+size_fields_size_term.Given as goal

abbrev pub decreases-size_fields : goal.decreases-size_fields
decreases-size_fields l = l.bound

abbrev pub decreases-size_term : goal.decreases-size_term
decreases-size_term l = l.bound
