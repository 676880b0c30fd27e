-- `left_recursive`: no lower nonterminal reaches itself.
use lib.ListN.{get_or}
use Rattle.kinds.specs.Kinds.{has_kind}
use Rattle.clashes.proofs.PairsLaws as laws
use Rattle.clashes.proofs.clash.left_recursive.Given as goal

abbrev pub invariant-loop-n : goal.invariant-loop-n
invariant-loop-n l = laws.Lowest l.many (λ k. has_kind (get_or l.calls k 0) k) l.n
