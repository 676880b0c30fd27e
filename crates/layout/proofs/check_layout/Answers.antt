-- `check_layout`: the fields that are left give what all of them give.
use Prim.Native.Nat.{ℕ, ◌+◌, ◌-◌, ◌≤◌}
use mathlib.Core.Path.{◌≡◌, sym, ◌∙◌}
use mathlib.Core.List.{List}
use lib.ListN.{length, take, drop, length-take}
use borrow.Author.Tests.{eqb-true}
use Rattle.std.proofs.lemmas.Result.{err_from_is_err_and}
use Rattle.grammar.proofs.LookupLaws.{front_inside}
use Rattle.decoding.specs.Layout.{initial_progress}
use Rattle.layout.proofs.RememberedLaws.{remembered_start, keyword_room, outside_room, remembered_next}
use Rattle.layout.proofs.LawsFields as laws
use native.Mathlib.Omega.{arith}
use Rattle.layout.proofs.check_layout.Goals as goal

pub returns-then-table-gt-LONGEST_TABLE : goal.returns-then-table-gt-LONGEST_TABLE
returns-then-table-gt-LONGEST_TABLE c = cc (laws.layout_long _ c.if-table-gt-LONGEST_TABLE.true)

pub loop-tag-init : goal.loop-tag-init
loop-tag-init c =
    let e = c.default-s.ensures in
    let fresh : c.default-s.result ≡ initial_progress =
    λ i. record {
      last = e.0 i;
      keywords = e.1.0 i;
      outsides = e.1.1.0 i;
      blocks = e.1.1.1.0 i;
      alternatives = e.1.1.1.1.0 i;
      items = e.1.1.1.1.1 i;
    } in
    (laws.turn_start fresh, remembered_start fresh)

pub returns-in-Nothing : goal.returns-in-Nothing
returns-in-Nothing c =
    c.check_end.ensures
    ∙ laws.turn_end c.loop-tag.invariant.0 c.if-table-gt-LONGEST_TABLE.false (sym c.in-Nothing.is ∙ c.front_at-front.ensures)

pub returns-in-Short : goal.returns-in-Short
returns-in-Short c =
    c.refused-in-Short.ensures
    ∙ laws.turn_cut c.loop-tag.invariant.0 c.if-table-gt-LONGEST_TABLE.false (sym c.in-Short.is ∙ c.front_at-front.ensures)

pub overflow_add-from : goal.overflow_add-from
overflow_add-from c = omega (arith, front_inside c.args.table.now c.loop-tag.at (sym c.in-Field.is ∙ c.front_at-front.ensures))

pub overflow_add-to : goal.overflow_add-to
overflow_add-to c = omega (arith, front_inside c.args.table.now c.loop-tag.at (sym c.in-Field.is ∙ c.front_at-front.ensures))

pub slice_bounds-v-end : goal.slice_bounds-v-end
slice_bounds-v-end c = omega (arith, front_inside c.args.table.now c.loop-tag.at (sym c.in-Field.is ∙ c.front_at-front.ensures))

pub returns-in_err-checked-in-Field : goal.returns-in_err-checked-in-Field
returns-in_err-checked-in-Field c =
    let p = err_from_is_err_and c.from_residual.result c.from_residual.ensures.1 in
    let stands = sym c.in-Field.is ∙ c.front_at-front.ensures in
    rw (p.1, p.2)
    (laws.turn_stopped c.loop-tag.invariant.0 stands c.if-table-gt-LONGEST_TABLE.false
    c.in_err-checked-in-Field.ensures)

pub loop-tag-smaller : goal.loop-tag-smaller
loop-tag-smaller c = omega (arith, front_inside c.args.table.now c.loop-tag.at (sym c.in-Field.is ∙ c.front_at-front.ensures))

pub remember-requires : goal.remember-requires
remember-requires c =
    let table : List ℕ = c.args.table.now in
    let at : ℕ = c.loop-tag.at in
    let tag : ℕ = c.in-Field.tag in
    let size : ℕ = c.in-Field.size in
    let stands = sym c.in-Field.is ∙ c.front_at-front.ensures in
    let inside = front_inside table at stands in
    let lent : List ℕ = take (at + 3 + size - (at + 3)) (drop (at + 3) table) in
    let place : at + 3 ≤ 65536 = omega (arith, inside) in
    let small : length lent ≤ 65536 = omega (arith, length-take (at + 3 + size - (at + 3)) (drop (at + 3) table), inside) in
    let further = c.in_ok-checked-in-Field.ensures in
    record {
      as_keyword =
          record {
            few = keyword_room c.loop-tag.invariant.0 c.loop-tag.invariant.1 stands further;
            hashed = λ e. c.spelling_hash-h.ensures.spelled (omega (arith, eqb-true tag 1 e));
            near = place;
            short = small;
          };
      as_outside =
          record {
            few = outside_room c.loop-tag.invariant.0 c.loop-tag.invariant.1 stands further;
            hashed = λ e. c.spelling_hash-h.ensures.spelled (omega (arith, eqb-true tag 2 e));
            near = place;
            short = small;
          };
    }

pub loop-tag-preserved : goal.loop-tag-preserved
loop-tag-preserved c =
    let stands = sym c.in-Field.is ∙ c.front_at-front.ensures in
    let further = c.in_ok-checked-in-Field.ensures in
    let e = c.remember.ensures in (
      laws.turn_next c.loop-tag.invariant.0 stands further,
      remembered_next c.loop-tag.invariant.0 c.loop-tag.invariant.1 stands further e.keywords_are e.outsides_are,
    )
