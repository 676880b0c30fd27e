-- `item_step`: what stands at the offset decides.
use Prim.Native.Nat.{◌+◌, ◌≤◌}
use mathlib.Core.Path.{refl}
use native.Mathlib.Omega.{arith}
use lib.ListN.{length}
use Rattle.steps.proofs.SourceLaws as sources
use Rattle.steps.proofs.ItemLaws as laws
use Rattle.steps.proofs.item_step.Goals as goal

pub returns-then-table-at-ne-ITEM_TAG : goal.returns-then-table-at-ne-ITEM_TAG
returns-then-table-at-ne-ITEM_TAG c =
    λ texts patterns there.
    record { does = λ I M reads g. refl; advances = sources.no_item there refl c.if-table-at-ne-ITEM_TAG.true; keeps = refl }

pub bounds-table-from : goal.bounds-table-from
bounds-table-from c =
    let inside : c.args.c.call.next + 3 + c.value_size.result ≤ length c.args.table.now =
    sources.field_inside c.requires.holds.goes_on c.value_size.ensures in
    let long : 2 ≤ c.value_size.result = sources.item_long c.requires.holds.goes_on c.value_size.ensures c.if-table-at-ne-ITEM_TAG.false in
    omega (arith, inside, long)

pub bounds-table-from-2 : goal.bounds-table-from-2
bounds-table-from-2 c =
    let inside : c.args.c.call.next + 3 + c.value_size.result ≤ length c.args.table.now =
    sources.field_inside c.requires.holds.goes_on c.value_size.ensures in
    let long : 2 ≤ c.value_size.result = sources.item_long c.requires.holds.goes_on c.value_size.ensures c.if-table-at-ne-ITEM_TAG.false in
    omega (arith, inside, long)

pub build_arguments-listed-requires : goal.build_arguments-listed-requires
build_arguments-listed-requires c =
    let inside : c.args.c.call.next + 3 + c.value_size.result ≤ length c.args.table.now =
    sources.field_inside c.requires.holds.goes_on c.value_size.ensures in
    let may = c.requires.holds in
    let as_long = sources.value_long may.goes_on c.value_size.ensures in
    record {
      whole = sources.item_whole may.goes_on c.value_size.ensures c.if-table-at-ne-ITEM_TAG.false;
      fits =
          record {
            small = omega (arith, as_long, inside, may.rooms.small);
            stack_long = omega (arith, as_long, inside, may.rooms.stack_long);
            rows_fit = may.rooms.rows_fit;
          };
    }

pub returns-then-kind-eq-CALL_ITEM : goal.returns-then-kind-eq-CALL_ITEM
returns-then-kind-eq-CALL_ITEM c =
    let inside : c.args.c.call.next + 3 + c.value_size.result ≤ length c.args.table.now =
    sources.field_inside c.requires.holds.goes_on c.value_size.ensures in
    let state = c.args.c.state in
    let as_long = sources.value_long c.requires.holds.goes_on c.value_size.ensures in
    rw c.call_step.ensures
    (λ texts patterns there.
    record {
      does =
          λ I M reads g.
          laws.call_stepped _ _ _ (sources.item_at there c.value_size.ensures c.if-table-at-ne-ITEM_TAG.false) c.if-kind-eq-CALL_ITEM.true I M state
          c.args.cells.now c.build_arguments-listed.result
          c.build_arguments-listed.new.out c.build_arguments-listed.new.cells
          (c.build_arguments-listed.ensures.lists I state M reads.rows_are g);
      advances =
          laws.call_advances (sources.item_at there c.value_size.ensures c.if-table-at-ne-ITEM_TAG.false) state c.build_arguments-listed.result _
          c.build_arguments-listed.ensures.few
          (omega (arith, as_long, inside));
      keeps = laws.call_keeps c.build_arguments-listed.result _ _ state _ c.build_arguments-listed.new.out c.build_arguments-listed.ensures.kept;
    })

pub returns : goal.returns
returns c =
    let state = c.args.c.state in
    rw c.read_step.ensures
    (λ texts patterns there.
    record {
      does =
          λ I M reads g.
          laws.read_stepped (sources.item_at there c.value_size.ensures c.if-table-at-ne-ITEM_TAG.false) I M state c.args.cells.now c.read_item.result
          (λ C. c.read_item.ensures.reads C I _ M c.args.cells.now reads.tokens_are) _;
      advances = laws.read_advances (sources.item_at there c.value_size.ensures c.if-table-at-ne-ITEM_TAG.false) state c.read_item.result
          c.read_item.ensures.spends;
      keeps = laws.read_keeps c.read_item.result _ _;
    })
