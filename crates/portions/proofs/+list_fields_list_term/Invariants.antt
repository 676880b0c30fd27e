-- `list_term` and `list_fields`: the code of a row decides, and the depth bound falls from a constructor to its parts.
use Rattle.portions.proofs.+list_fields_list_term.Given as goal

abbrev pub decreases-list_fields : goal.decreases-list_fields
decreases-list_fields l = l.bound

abbrev pub decreases-list_term : goal.decreases-list_term
decreases-list_term l = l.bound
