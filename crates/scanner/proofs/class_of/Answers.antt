-- `class_of`: where the search among keywords and outside names ended.
use mathlib.Core.Path.{refl}
use native.Mathlib.Omega.{arith}
use Rattle.scanner.proofs.MadeLaws as laws
use Rattle.scanner.proofs.class_of.Goals as goal

pub seek-seen-requires : goal.seek-seen-requires
seek-seen-requires c = record { planted = laws.lexical_planted c.requires.0.held; hash_value = c.requires.1 }

pub settle-spot-requires : goal.settle-spot-requires
settle-spot-requires c = record {
  planted = (laws.lexical_planted c.requires.0.held, c.requires.1);
  seeks = c.seek-seen.ensures;
}

pub overflow_cast-k : goal.overflow_cast-k
overflow_cast-k c =
    let found_there = c.settle-spot.ensures in
    omega (arith, laws.node_fits c.requires.0.held c.args.s.now refl c.settle-spot.result found_there c.in-Node.is)

pub returns-then-k-keywords : goal.returns-then-k-keywords
returns-then-k-keywords c = search laws.node_keyword

pub returns-else-k-keywords : goal.returns-else-k-keywords
returns-else-k-keywords c = search laws.node_outside

pub returns-in-Free : goal.returns-in-Free
returns-in-Free c = search laws.node_none
