-- `resolve_term` and `resolve_fields`: the code of a row decides. A function is entered, its body walked, and the function left.
use Rattle.marking.proofs.+resolve_fields_resolve_term.Given as goal

abbrev pub decreases-resolve_fields : goal.decreases-resolve_fields
decreases-resolve_fields l = l.bound

abbrev pub decreases-resolve_term : goal.decreases-resolve_term
decreases-resolve_term l = l.bound
