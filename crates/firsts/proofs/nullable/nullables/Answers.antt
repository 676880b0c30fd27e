-- `nullables`: what was found is nullable, and a pass that changes nothing has found all.
use borrow.Author.Rules.{rules}
use Rattle.firsts.proofs.NeedsLaws as laws
use Rattle.firsts.proofs.nullable.nullables.Goals as goal

pub needs_of-k-requires : goal.needs_of-k-requires
needs_of-k-requires c = record { needs_lent = laws.needs_lent c.requires.few; notes_lent = record { no_kinds = search rules; no_calls = search rules } }

pub loop-set-init : goal.loop-set-init
loop-set-init c = laws.found_start _

pub returns-then-more-set : goal.returns-then-more-set
returns-then-more-set c =
    record {
      nullables_are = laws.found_stop c.needs_of-k.ensures.held c.loop-set.invariant c.loop-set.down c.null_pass-more.ensures c.if-more-set.true;
      noted = c.needs_of-k.ensures.noted;
    }

pub loop-set-smaller : goal.loop-set-smaller
loop-set-smaller c =
    laws.found_less c.needs_of-k.ensures.held c.loop-set.invariant c.loop-set.down c.null_pass-more.ensures c.if-more-set.false

pub loop-set-preserved : goal.loop-set-preserved
loop-set-preserved c =
    laws.found_next c.needs_of-k.ensures.held c.loop-set.invariant c.loop-set.down c.null_pass-more.ensures
