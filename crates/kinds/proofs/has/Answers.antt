-- `has`: the digit at k, by a shift and a mask.
use Prim.Native.Nat.{◌/◌, ◌^◌}
use mathlib.Core.Path.{sym, ◌∙◌}
use lib.Bits.{and_mask}
use Rattle.kinds.specs.Kinds.{has_kind}
use Rattle.kinds.proofs.KindsLaws.{has_above}
use borrow.Author.Rules.{rules}
use borrow.Author.Tests.{le-ltb}
use Rattle.kinds.proofs.has.Goals as goal

pub returns-then-k-lt-KINDS : goal.returns-then-k-lt-KINDS
unfolding has_kind
returns-then-k-lt-KINDS c =
    cc (and_mask (c.args.m / 2 ^ c.args.k) 1)

pub returns-else-k-lt-KINDS : goal.returns-else-k-lt-KINDS
returns-else-k-lt-KINDS c =
    le-ltb c.args.k 64 c.if-k-lt-KINDS.false ∙ sym (has_above 64 c.args.m c.args.k (search rules) c.if-k-lt-KINDS.false)
