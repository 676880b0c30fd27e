-- `mention`: what is mentioned, and the items that are left.
use Prim.Native.Nat.{◌-◌}
use lib.ListN.{length}
use Rattle.firsts.proofs.MentionLaws as laws
use Rattle.firsts.proofs.items.mention.Given as goal

abbrev pub invariant-loop-s : goal.invariant-loop-s
invariant-loop-s l = laws.Mentioning l.table l.start l.found l.at

abbrev pub decreases-loop-s : goal.decreases-loop-s
decreases-loop-s l = length l.table - l.at
