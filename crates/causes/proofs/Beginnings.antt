-- A 4 never comes too late: fields that are reached are the first fields of a table.
use Prim.Native.Nat.{ℕ, zero, suc, ◌≤◌}
use mathlib.Core.Path.{◌≡◌, refl, sym, ap, ◌∙◌, subst⁻¹}
use mathlib.Core.Bool.{true, false, false≢true}
use mathlib.Core.List.{List, [], ◌∷◌, ◌++◌, reverse, reverse-cons, append_assoc}
use native.Mathlib.Omega.{arith}
use lib.ListN.{length}
use Rattle.grammar.specs.Sorts.{gives}
use Rattle.grammar.specs.Table.{Template, keyword, ide, number, Item, terminal, local, call, Mode, add, extend, update}
use Rattle.grammar.specs.Written.{template, no_result, WrittenAlternative, WrittenDefinition, Written}
use Rattle.grammar.specs.Values.{Field, field, template_then, item_value, mode_code, head_value}
use Rattle.grammar.specs.Encode.{table_fields}
use Rattle.decoding.specs.Layout.{follows}
use Rattle.decoding.specs.Decode.{Decoded, decoded, table_of}
use Rattle.decoding.specs.Within.{Each, each_none, each_more}
use Rattle.decoding.proofs.Accept.{by_tag}
use Rattle.decoding.proofs.Order.{left, with_keyword, with_outside, with_block, with_definition, with_alternative, with_item, with_result, with_root}
use Rattle.decoding.proofs.Order.{opens_keyword, opens_outside, opens_block, opens_definition, opens_alternative, opens_item, opens_result, opens_root}
use Rattle.causes.specs.Misplaced.{Known, last_tag, Whole, Reaches, at-start, past_field}
use Rattle.causes.specs.Misplaced as rules
use Rattle.causes.specs.Beginnings.{HasAlternative, Begins}
use Rattle.causes.proofs.FieldTests.{rule_known, rule_order}

-- parts of a table that are still to come behind a tag: each definition has an alternative, behind a head too
record Filled (last : ℕ) (rest : Decoded) : Type 0 where
  -- in the blocks still to come
  blocks : Each (Each HasAlternative) rest.blocks
  -- in the block that is open
  definitions : Each HasAlternative rest.definitions
  -- in the definition whose head was the last field
  begun : last ≡ 4 → 1 ≤ length rest.alternatives

-- Behind `last` stand the field and what is left behind it, as parts of a table.
abbrev Goes : ℕ → Field → Decoded → Type 0
Goes last f rest = (all : Decoded) × (left last all ≡ f ∷ left f.tag rest) × Filled last all

-- where a tag may come that may not follow 04, the last field is no 04
not_begun : (tag last : ℕ) → follows tag 4 ≡ false → follows tag last ≡ true → {A : Type 0} → last ≡ 4 → A
not_begun tag last n h e = absurd (false≢true (sym n ∙ ap (follows tag) (sym e) ∙ h))

-- a mode by its code
mode_of : (code : ℕ) → code ≤ 2 → (mode : Mode) × (mode_code mode ≡ code)
mode_of zero h = (add, refl)
mode_of (suc zero) h = (extend, refl)
mode_of (suc (suc zero)) h = (update, refl)
mode_of (suc (suc (suc code))) h = absurd (omega arith)

module _ (last : ℕ) (low : last ≤ 8) (rest : Decoded) where
  item_goes : (item : Item) → follows 6 last ≡ true → Filled 6 rest → Goes last (field 6 (item_value item)) rest
  unfolding follows
  item_goes item order g = (
    with_item item rest,
    opens_item rest item last low order,
    record { blocks = g.blocks; definitions = g.definitions; begun = not_begun 6 last refl order },
  )

  result_goes : (made : Template) → follows 7 last ≡ true → Filled 7 rest → Goes last (field 7 (template_then made [])) rest
  unfolding follows
  result_goes made order g = (
    with_result (template made) rest,
    opens_result rest made last low order,
    record { blocks = g.blocks; definitions = g.definitions; begun = not_begun 7 last refl order },
  )

  -- a field that is known, whole and in order goes in front of what is left behind it
  goes : {f : Field} → Known f → Whole f → follows f.tag last ≡ true → Filled f.tag rest → Goes last f rest
  unfolding follows head_value item_value
  goes (rules.keyword {spelling}) w order g = (
    with_keyword spelling rest,
    opens_keyword rest spelling last low order,
    record { blocks = g.blocks; definitions = each_none; begun = not_begun 1 last refl order },
  )
  goes (rules.outside_name {spelling}) w order g = (
    with_outside spelling rest,
    opens_outside rest spelling last low order,
    record { blocks = g.blocks; definitions = each_none; begun = not_begun 2 last refl order },
  )
  goes rules.block w order g = (
    with_block rest,
    opens_block rest last low order,
    record { blocks = each_more g.definitions g.blocks; definitions = each_none; begun = not_begun 3 last refl order },
  )
  goes (rules.definition {n} {mode} {result} {params} hn hm hr hp hl) w order g =
      let (m, is) = mode_of mode hm in
      let d : WrittenDefinition = record { nonterminal = n; mode = m; signature = gives params result; alternatives = rest.alternatives } in (
        with_definition d rest,
        cc (opens_definition rest d refl last low order, is),
        record { blocks = g.blocks; definitions = each_more (g.begun refl) g.definitions; begun = not_begun 4 last refl order },
      )
  goes rules.alternative w order g = (
    with_alternative rest,
    opens_alternative rest last low order,
    record { blocks = g.blocks; definitions = g.definitions; begun = λ e. omega arith },
  )
  goes (rules.keyword_item {k}) w order g = item_goes (terminal (keyword k)) order g
  goes (rules.ide_item {sort} l h) w order g = item_goes (terminal (ide sort)) order g
  goes rules.number_item w order g = item_goes (terminal number) order g
  goes rules.local_item w order g = item_goes local order g
  goes (rules.call_item {n} {templates} h) w order g =
      let (ts, within, bytes) = w.arguments refl refl in
      subst⁻¹ (λ v. Goes last (field 6 (4 ∷ n ∷ v)) rest) bytes (item_goes (call n ts) order g)
  goes rules.result w order g =
      let (t, within, bytes) = w.result refl in
      subst⁻¹ (λ v. Goes last (field 7 v) rest) bytes (result_goes t order g)
  goes (rules.root {n} h) w order g = (
    with_root n rest,
    opens_root rest n last low order,
    record { blocks = each_none; definitions = each_none; begun = not_begun 8 last refl order },
  )

-- a known tag is one of 1 to 8
known_low : {f : Field} → Known f → f.tag ≤ 8
known_low {f} known =
    by_tag (λ tag. tag ≤ 8) (omega arith) (omega arith) (omega arith) (omega arith) (omega arith) (omega arith) (omega arith) (omega arith)
    f.tag f.value (rule_known known)

module _ {bs : List ℕ} where
  last_low : {at : ℕ} {before : List Field} {rest : List ℕ} → Reaches bs at before rest → last_tag before ≤ 8
  last_low (at-start l) = omega arith
  last_low (past_field reached p) = known_low p.known

  -- whatever parts are left behind the fields that are reached, both together are a table
  reached_with : {at : ℕ} {before : List Field} {rest : List ℕ} → Reaches bs at before rest → (parts : Decoded) → Filled (last_tag before) parts
      → (table : Written) × Each (Each HasAlternative) table.blocks × (table_fields table ≡ reverse before ++ left (last_tag before) parts)
  unfolding left table_fields
  reached_with (at-start l) parts g = (table_of parts, g.blocks, refl)
  reached_with (past_field {at} {before} {f} {rest} reached p) parts g =
      let order = rule_order f.tag f.value (rule_known p.known) (last_tag before) p.in_order in
      let (all, is, filled) = goes (last_tag before) (last_low reached) parts p.known p.whole order g in
      let (table, has, fields) = reached_with reached all filled in (
        table,
        has,
        fields ∙ ap (λ l. reverse before ++ l) is ∙ sym (append_assoc (reverse before) (f ∷ []) (left f.tag parts))
            ∙ ap (λ l. l ++ left f.tag parts) (sym (reverse-cons f before)),
      )

  -- Fields that are reached are the first fields of a table.
  pub reached_begins : {at : ℕ} {before : List Field} {rest : List ℕ} → Reaches bs at before rest → Begins before
  reached_begins {before = before} reached =
      let one : WrittenAlternative = record { items = []; result = no_result } in
      let parts = decoded [] [] [] 0 [] (one ∷ []) [] no_result in
      let (table, has, fields) = reached_with reached parts (record { blocks = each_none; definitions = each_none; begun = λ e. omega arith }) in
      record { table = table; alternatives = has; behind = left (last_tag before) parts; fields = fields }
