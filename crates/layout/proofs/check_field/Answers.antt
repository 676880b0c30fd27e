-- `check_field`: the first test that fails, in order.
use mathlib.Core.Path.{refl, sym, ap, ◌∙◌}
use mathlib.Core.Bool.{true, false}
use Rattle.std.specs.Prelude.{Ok}
use Rattle.layout.specs.Before.{fields_before, checking}
use Rattle.fields.proofs.Laws as laws
use Rattle.layout.proofs.check_field.Goals as goal

pub returns-then-not-is_known : goal.returns-then-not-is_known
returns-then-not-is_known c = cc (ap checking (laws.field_by _ _ _ _ _ false _ _ _ _
    (sym c.is_known.ensures ∙ c.if-not-is_known.true) refl refl refl refl))

pub returns-then-not-may_follow : goal.returns-then-not-may_follow
returns-then-not-may_follow c =
    let known = sym c.is_known.ensures ∙ c.if-not-is_known.false in
    c.stopped-then-not-may_follow.ensures
    ∙ sym (ap checking (laws.field_by _ _ _ _ _ true false _ _ _ known (sym c.may_follow.ensures ∙ c.if-not-may_follow.true) refl refl refl))

pub returns-then-not-is_spelled : goal.returns-then-not-is_spelled
returns-then-not-is_spelled c =
    let known = sym c.is_known.ensures ∙ c.if-not-is_known.false in
    let ordered = sym c.may_follow.ensures ∙ c.if-not-may_follow.false in
    let before = c.requires.remembered in
    let spelling = c.is_spelled.ensures (fields_before c.args.table.now c.args.at) before.keywords.indexed before.outsides.indexed in
    c.stopped-then-not-is_spelled.ensures
    ∙ sym (ap checking (laws.field_by _ _ _ _ _ true true false _ _ known ordered (sym spelling ∙ c.if-not-is_spelled.true) refl refl))

pub returns-then-not-has_room : goal.returns-then-not-has_room
returns-then-not-has_room c =
    let known = sym c.is_known.ensures ∙ c.if-not-is_known.false in
    let ordered = sym c.may_follow.ensures ∙ c.if-not-may_follow.false in
    let before = c.requires.remembered in
    let spelling = c.is_spelled.ensures (fields_before c.args.table.now c.args.at) before.keywords.indexed before.outsides.indexed in
    let spelled = sym spelling ∙ c.if-not-is_spelled.false in
    cc (ap checking (laws.field_by _ _ _ _ _ true true true false _ known ordered spelled
    (sym c.has_room.ensures ∙ c.if-not-has_room.true) refl))

pub returns-then-not-is_whole : goal.returns-then-not-is_whole
returns-then-not-is_whole c =
    let known = sym c.is_known.ensures ∙ c.if-not-is_known.false in
    let ordered = sym c.may_follow.ensures ∙ c.if-not-may_follow.false in
    let before = c.requires.remembered in
    let spelling = c.is_spelled.ensures (fields_before c.args.table.now c.args.at) before.keywords.indexed before.outsides.indexed in
    let spelled = sym spelling ∙ c.if-not-is_spelled.false in
    let room = sym c.has_room.ensures ∙ c.if-not-has_room.false in
    cc (ap checking (laws.field_by _ _ _ _ _ true true true true false known ordered
    spelled room (sym c.is_whole.ensures ∙ c.if-not-is_whole.true)))

pub further-requires : goal.further-requires
further-requires c = sym c.has_room.ensures ∙ c.if-not-has_room.false

pub returns : goal.returns
returns c =
    let known = sym c.is_known.ensures ∙ c.if-not-is_known.false in
    let ordered = sym c.may_follow.ensures ∙ c.if-not-may_follow.false in
    let before = c.requires.remembered in
    let spelling = c.is_spelled.ensures (fields_before c.args.table.now c.args.at) before.keywords.indexed before.outsides.indexed in
    let spelled = sym spelling ∙ c.if-not-is_spelled.false in
    let room = sym c.has_room.ensures ∙ c.if-not-has_room.false in
    ap Ok c.further.ensures
    ∙ sym (ap checking (laws.field_by _ _ _ _ _ true true true true true known ordered spelled
    room (sym c.is_whole.ensures ∙ c.if-not-is_whole.false)))
