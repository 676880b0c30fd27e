-- `opening`: what is found, and the items that are left.
use Rattle.std.specs.Prelude.{Some}
use Prim.Native.Nat.{ℕ}
use mathlib.Core.Path.{◌≡◌, ◌∙◌, sym}
use mathlib.Core.List.{List}
use Rattle.grammar.specs.Lookup.{field_at}
use Rattle.productions.specs.Symbols.{symbol_step}
use Rattle.patterns.proofs.OpeningLaws as laws
use Rattle.patterns.proofs.openings.opening.Goals as goal

pub loop-s-init : goal.loop-s-init
loop-s-init c = laws.walk_start _ _ _ _

pub loop-s-smaller : goal.loop-s-smaller
loop-s-smaller c =
    let table : List ℕ = c.args.table.now in
    let item : Some (c.in-Some.s, c.in-Some.next) ≡ symbol_step table (field_at table c.loop-s.at) = sym c.in-Some.is ∙ c.item_at.ensures in
    search (laws.walk_less, item)

pub loop-s-preserved : goal.loop-s-preserved
loop-s-preserved c =
    let table : List ℕ = c.args.table.now in
    let item : Some (c.in-Some.s, c.in-Some.next) ≡ symbol_step table (field_at table c.loop-s.at) = sym c.in-Some.is ∙ c.item_at.ensures in
    search (laws.walk-next, item)

pub returns-else-found : goal.returns-else-found
returns-else-found c =
    let table : List ℕ = c.args.table.now in
    let item : Some (c.in-Some.s, c.in-Some.next) ≡ symbol_step table (field_at table c.loop-s.at) = sym c.in-Some.is ∙ c.item_at.ensures in
    search (laws.walk_stop, item)

pub returns : goal.returns
returns c = laws.walk_done c.loop-s.invariant (sym c.in_default.is ∙ c.item_at.ensures)
