-- `check_fields`: the fields left give what all of them give.
use Prim.Native.Nat.{ℕ, ◌-◌}
use mathlib.Core.Path.{◌∙◌}
use mathlib.Core.List.{List}
use native.Mathlib.Omega.{arith}
use lib.ListN.{drop, length-take}
use Rattle.grammar.specs.Lookup.{value_in}
use Rattle.grammar.proofs.LookupLaws.{Lies, field_lies}
use Rattle.sorts.specs.ByBytes.{FieldReady}
use Rattle.sorts.proofs.StepLaws as laws
use Rattle.sorts.proofs.check_fields.Goals as goal

pub loop-at-init : goal.loop-at-init
loop-at-init c = laws.sorting_start

pub slice_bounds-v-count : goal.slice_bounds-v-count
slice_bounds-v-count c =
    let table : List ℕ = c.args.table.now in
    let lies : Lies table c.loop-at.at c.field_at-field.result = field_lies table c.loop-at.at c.field_at-field.ensures in
    omega (arith, lies)

pub slice_bounds-v-start : goal.slice_bounds-v-start
slice_bounds-v-start c =
    let table : List ℕ = c.args.table.now in
    let lies : Lies table c.loop-at.at c.field_at-field.result = field_lies table c.loop-at.at c.field_at-field.ensures in
    omega (arith, lies)

pub slice_bounds-v-end : goal.slice_bounds-v-end
slice_bounds-v-end c =
    let table : List ℕ = c.args.table.now in
    let lies : Lies table c.loop-at.at c.field_at-field.result = field_lies table c.loop-at.at c.field_at-field.ensures in
    omega (arith, lies)

pub check_field-requires : goal.check_field-requires
check_field-requires c =
    let table : List ℕ = c.args.table.now in
    let lies : Lies table c.loop-at.at c.field_at-field.result = field_lies table c.loop-at.at c.field_at-field.ensures in
    let ready : FieldReady c.loop-at.known table (value_in table c.field_at-field.result) c.loop-at.sorts c.loop-at.stack
    = let field = c.field_at-field.result in
    let few = length-take (field.to - field.from) (drop field.from table) in
    record {
      short = c.requires.0;
      room =
          record {
            variables = c.loop-at.invariant.sorts ∙ c.requires.1.variables;
            places = omega (arith, few, lies, c.loop-at.invariant.full, c.requires.1.places);
          };
      counts =
          record {
            keywords = omega (arith, c.loop-at-test.true, c.loop-at.invariant.keywords, c.requires.0);
            outsides = omega (arith, c.loop-at-test.true, c.loop-at.invariant.outsides, c.requires.0);
          };
    } in
    ready

pub returns-in-Err : goal.returns-in-Err
returns-in-Err c =
    laws.sorting_stop c.loop-at.invariant c.field_at-field.ensures c.check_field.ensures c.in-Err.is

pub loop-at-smaller : goal.loop-at-smaller
loop-at-smaller c =
    let table : List ℕ = c.args.table.now in
    let lies : Lies table c.loop-at.at c.field_at-field.result = field_lies table c.loop-at.at c.field_at-field.ensures in
    omega (arith, lies.further c.loop-at-test.true, lies.inside)

pub returns : goal.returns
returns c = search laws.sorting_end

pub loop-at-preserved : goal.loop-at-preserved
loop-at-preserved c =
    laws.sorting_next c.loop-at.invariant c.field_at-field.ensures c.check_field.ensures c.loop-at-test.true
    c.in-Ok.is c.check_field.auto.heads c.check_field.auto.sorts c.check_field.auto.stack
