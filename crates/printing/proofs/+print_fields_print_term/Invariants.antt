-- `print_term` and `print_fields`: what a constructor begins with, its parts and the parenthesis, each in what remains. The depth bound falls from a
-- constructor to its parts.
use Rattle.printing.proofs.+print_fields_print_term.Given as goal

abbrev pub decreases-print_fields : goal.decreases-print_fields
decreases-print_fields l = l.bound

abbrev pub decreases-print_term : goal.decreases-print_term
decreases-print_term l = l.bound
