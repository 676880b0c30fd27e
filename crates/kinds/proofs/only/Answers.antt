-- `only`: the shift loses no digit.
use mathlib.Core.Path.{sym, ◌∙◌}
use native.Mathlib.Nat.{one-mul}
use lib.Dec.{lit<}
use lib.Pow.{shl_exact}
use Rattle.kinds.proofs.KindsLaws.{only_kind, only_none}
use borrow.Author.Rules.{rules}
use Rattle.kinds.proofs.only.Goals as goal

pub returns-then-k-lt-KINDS : goal.returns-then-k-lt-KINDS
returns-then-k-lt-KINDS c =
    let k = c.args.k in
    shl_exact 1 k 64 (lit< tt) (search rules) ∙ one-mul _ ∙ sym (only_kind k c.if-k-lt-KINDS.true)

pub returns-else-k-lt-KINDS : goal.returns-else-k-lt-KINDS
returns-else-k-lt-KINDS c = sym (only_none c.args.k c.if-k-lt-KINDS.false)
