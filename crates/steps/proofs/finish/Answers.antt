-- `finish`: the template of the field that stands there, in its bytes or in rows.
use Prim.Native.Nat.{◌+◌, ◌≤◌}
use mathlib.Core.Path.{refl, ap, ◌∙◌}
use native.Mathlib.Omega.{arith}
use lib.ListN.{length}
use Rattle.grammar.specs.Table.{Template}
use Rattle.expansion.specs.Expansion.{build}
use Rattle.steps.proofs.SourceLaws as sources
use Rattle.steps.proofs.ItemLaws as laws
use Rattle.steps.proofs.TextLaws as texts
use Rattle.steps.proofs.finish.Goals as goal

pub build-value-requires : goal.build-value-requires
build-value-requires c =
    let inside : c.args.c.call.next + 3 + c.value_size.result ≤ length c.args.table.now = sources.field_inside c.requires.holds.goes_on c.value_size.ensures in
    let may = c.requires.holds in
    let long = sources.value_long may.goes_on c.value_size.ensures in
    record {
      ahead = sources.result_ahead may.goes_on c.value_size.ensures may.no_item c.if-table-at-eq-TEXT_TAG.false;
      fits =
          record {
            small = omega (arith, long, inside, may.rooms.small);
            stack_long = omega (arith, long, inside, may.rooms.stack_long);
            rows_fit = may.rooms.rows_fit;
          };
    }

pub text_result-copied-requires : goal.text_result-copied-requires
text_result-copied-requires c =
    let may = c.requires.holds in
    sources.text_hangs may.goes_on refl may.no_item c.if-table-at-eq-TEXT_TAG.true

pub returns-then-table-at-eq-TEXT_TAG : goal.returns-then-table-at-eq-TEXT_TAG
returns-then-table-at-eq-TEXT_TAG c =
    rw c.copied_step.ensures
    (λ patterns may.
    record {
      gives =
          λ I M er g.
          texts.copied_ran c.text_result-copied.result c.args.c.state c.text_result-copied.new.cells
          ∙ c.text_result-copied.ensures.gives I c.args.c.state M (er ∙ may.all_rows) g
          ∙ ap (λ (t : Template). build t I M c.args.c.state c.args.cells.now)
          (sources.result_held may.goes_on refl may.no_item c.if-table-at-eq-TEXT_TAG.true);
      stays = texts.copied_stays c.text_result-copied.result c.args.c.state;
    })

pub returns : goal.returns
returns c =
    λ patterns may.
    record {
      gives =
          λ I M er g.
          rw c.result_step.ensures
          (laws.result_built c.build-value.result c.args.c.state c.build-value.new.cells
          ∙ c.build-value.ensures.evaluates I c.args.c.state M er g
          ∙ rw (sources.result_is may.goes_on c.value_size.ensures may.no_item c.if-table-at-eq-TEXT_TAG.false));
      stays = rw c.result_step.ensures (laws.result_stays c.build-value.result c.args.c.state);
    }
