-- `own_word`: where the search among the words met ended.
use mathlib.Core.Path.{sym, ap, ◌∙◌}
use native.Mathlib.Omega.{arith}
use Rattle.lexicon.specs.Trees.{hash_of}
use Rattle.scanner.proofs.MadeLaws as laws
use Rattle.scanner.proofs.own_word.Goals as goal

pub seek-seen-requires : goal.seek-seen-requires
seek-seen-requires c =
    let asked = c.requires.planted in record { planted = asked.0; hash_value = asked.1 ∙ ap hash_of (sym c.part-s.ensures) }

pub settle-spot-requires : goal.settle-spot-requires
settle-spot-requires c =
    let asked = c.requires.planted in record { planted = (asked.0, asked.1 ∙ ap hash_of (sym c.part-s.ensures)); seeks = c.seek-seen.ensures }

pub overflow_cast-i : goal.overflow_cast-i
overflow_cast-i c =
    let args = c.args in
    omega (
      arith,
      c.requires.at_le_longest_formula,
      laws.own_small args.mask args.formula.now args.words.now args.count args.links.now _ _ c.part-s.ensures c.settle-spot.result
          c.settle-spot.ensures c.in-Node.is,
    )

pub overflow_add-i : goal.overflow_add-i
overflow_add-i c =
    let args = c.args in
    omega (
      arith,
      c.requires.at_le_longest_formula,
      laws.own_small args.mask args.formula.now args.words.now args.count args.links.now _ _ c.part-s.ensures c.settle-spot.result
          c.settle-spot.ensures c.in-Node.is,
    )

pub returns-in-Node : goal.returns-in-Node
returns-in-Node c = search laws.own_node

pub returns-in-Free : goal.returns-in-Free
returns-in-Free c = search laws.own_free
