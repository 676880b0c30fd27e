-- `clashing`: no lower nonterminal has a clash, and the pairs that are left decide.
use Rattle.clashes.proofs.PairsLaws as laws
use borrow.Author.Rules.{rules}
use Rattle.clashes.proofs.clash.clashing.Goals as goal

pub search-init : goal.search-init
search-init c = laws.lowest_start

pub first_place-i-requires :
    goal.first_place-i-requires
first_place-i-requires c = search rules

pub loop-i-init : goal.loop-i-init
loop-i-init c = laws.row_start _ c.first_place-i.ensures

pub loop-j-init : goal.loop-j-init
loop-j-init c = search laws.column_start

pub loop-j-smaller : goal.loop-j-smaller
loop-j-smaller c = search laws.column_less

pub loop-j-preserved : goal.loop-j-preserved
loop-j-preserved c = search laws.column_next

pub loop-i-smaller : goal.loop-i-smaller
loop-i-smaller c = search laws.row_less

pub loop-i-preserved : goal.loop-i-preserved
loop-i-preserved c = search laws.column_end

pub search-preserved : goal.search-preserved
search-preserved c =
    laws.lowest_next c.search.invariant c.search-test.true (laws.row_end c.loop-i.invariant c.loop-i-test.false)

pub returns-after-search : goal.returns-after-search
returns-after-search c = laws.lowest_end c.search.invariant c.search-test.false

pub returns-then-found : goal.returns-then-found
returns-then-found c =
    laws.lowest_stop c.search.invariant c.search-test.true
    (search laws.column_found)
