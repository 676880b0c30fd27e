-- `compare_eights`: the eights passed agree.
use native.Mathlib.Omega.{arith}
use Rattle.spellings.proofs.Comparing as laws
use Rattle.spellings.proofs.compare_eights.Goals as goal

pub returns-then-a-b : goal.returns-then-a-b
returns-then-a-b c = search laws.lengths_differ

pub loop-i-init : goal.loop-i-init
loop-i-init c = search laws.passing_start

pub returns-then-eight : goal.returns-then-eight
returns-then-eight c =
    laws.passing_stop c.loop-i.invariant c.loop-i-test.true c.eight.ensures c.eight-in-loop-i.ensures c.if-eight.true

pub loop-i-preserved : goal.loop-i-preserved
loop-i-preserved c =
    laws.passing_next c.loop-i.invariant c.loop-i-test.true c.eight.ensures c.eight-in-loop-i.ensures (λ i. omega (arith, c.type_inv.a i))
    (λ i. omega (arith, c.type_inv.b i)) c.if-eight.false

pub compare_tail-requires : goal.compare_tail-requires
compare_tail-requires c = search laws.passing_end
