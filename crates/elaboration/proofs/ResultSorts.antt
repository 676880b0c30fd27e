-- Checking results, alternatives and definitions is the judgement E ⊢ g ok.
use Prim.Native.Nat.{ℕ, ◌+◌}
use mathlib.Core.Path.{subst, subst⁻¹}
use mathlib.Core.Bool.{◌&&◌}
use mathlib.Core.List.{List, [], ◌∷◌, ◌++◌, append-nil, append_assoc}
use lib.ListN.{length}
use Rattle.answers.specs.Checked.{Checked, ok, ◌>>◌, need}
use Rattle.grammar.specs.Sorts.{Signature}
use Rattle.grammar.specs.SortTests.{fits}
use Rattle.grammar.specs.Table.{Alternative, Definition}
use Rattle.grammar.specs.Written.{WrittenResult, template, text, WrittenAlternative, WrittenDefinition, with_alternatives}
use Rattle.grammar.specs.Values.{head_value}
use Rattle.decoding.specs.Within.{Each, each_none, each_more}
use Rattle.judgements.specs.Sizes.{field_size, items_size, definition_size}
use Rattle.judgements.specs.CheckSorts.{is_closed, sort_of, is_sorted, check_items}
use Rattle.judgements.specs.Scopes.{Env, Scope}
use Rattle.judgements.specs.Judgements.{Numbered}
use Rattle.judgements.proofs.Accepting.{Accepts, needs_passed, needs_passes, bind_passed, bind_passes, then_passed, then_passes}
use Rattle.judgements.proofs.TemplateSorts.{both, pair, fits_rule, rule_fits, sorted_rule, rule_sorted}
use Rattle.judgements.proofs.BodySorts.{items_rule, rule_items}
use Rattle.texts.specs.Reading.{TextRead}
use Rattle.elaboration.specs.Contexts.{Before, scope_after}
use Rattle.elaboration.specs.CheckSequence.{Elaborated, none_yet, and_then, check_result, check_alternative, check_alternatives, check_bodies}
use Rattle.elaboration.specs.Elaboration.{ResultSorted, by_template, Bodies, no_alternative, by_choice, Ok, ok_empty, ok_definition}
use Rattle.elaboration.proofs.Ranges.{ResultFine, template_fine, text_fine, AlternativeFine, HeadFine, DefinitionFine}
use Rattle.elaboration.proofs.Normalizing.{Declared, Variables, variables_of}
use Rattle.elaboration.proofs.Rightness.{Right, text_rule, text_passes}

module _ (before : Before) (right : Right before) (own : Env) (declared : Declared (own ++ before.env)) where
  -- what the bodies are sorted under
  abbrev scope : Scope
  scope = scope_after before own

  -- ------------------------------------------------------------------ results

  -- a result that passes is elaborated to the check's value
  pub result_rule :
      (L : List ℕ) (B used at : ℕ) (result : WrittenResult) (P : TextRead → Type 0) → Variables L → ResultFine result
      → Accepts (check_result scope before L B used at result) P → (made : TextRead) × ResultSorted scope before L B used result made × P made
  result_rule L B used at (text n bs) P v (text_fine l) h = text_rule right v scope B used at n bs P h
  result_rule L B used at (template t) P v (template_fine w) h =
      let made : TextRead = record { template = t; used = used } in
      let tests : Checked (Unit {0}) = need (is_closed t scope (length L)) 9 at >> need (is_sorted t L && fits (sort_of t L) B) 11 at in
      let n = needs_passed (is_closed t scope (length L)) (is_sorted t L && fits (sort_of t L) B) 9 11 at (λ u. P made) (then_passed P tests (ok made) h) in
      let s = both (is_sorted t L) (fits (sort_of t L) B) n.1 in
      (made, by_template (sorted_rule scope L t w n.0 s.0) (fits_rule (sort_of t L) B s.1), n.2)

  -- and one that is elaborated passes
  pub rule_result :
      {L : List ℕ} {B used : ℕ} (at : ℕ) (result : WrittenResult) {made : TextRead} (P : TextRead → Type 0) → Variables L → ResultFine result
      → ResultSorted scope before L B used result made → P made → Accepts (check_result scope before L B used at result) P
  rule_result {L} {B} {used} at (text n bs) P v (text_fine l) r p = rw (text_passes right v scope B used at n bs l r) p
  rule_result {L} {B} {used} at (template t) P v w (by_template s f) p =
      let r = rule_sorted scope L t s in
      then_passes P (need (is_closed t scope (length L)) 9 at >> need (is_sorted t L && fits (sort_of t L) B) 11 at) (ok (record { template = t; used = used }))
      (needs_passes _ _ 9 11 at _ r.0 (pair (is_sorted t L) (fits (sort_of t L) B) r.1 (cc (r.2, rule_fits f))) p)

  -- ------------------------------------------------------------------ an alternative

  module _ (P : Elaborated Alternative → Type 0) {d : WrittenDefinition} (head : HeadFine d) (used at : ℕ) {alternative : WrittenAlternative}
      (w : AlternativeFine alternative) where
    abbrev S : Signature
    S = d.signature

    -- where its result stands
    abbrev from : ℕ
    from = at + 3 + items_size alternative.items

    -- an alternative with a template as its result
    abbrev whole : TextRead → Elaborated Alternative
    whole r = record { value = record { items = alternative.items; result = r.template }; used = r.used }

    alternative_rule :
        Accepts (check_alternative scope before S used at alternative) P
        → (L : List ℕ) × (made : TextRead) × Numbered scope S.params alternative.items L
        × ResultSorted scope before L S.result used alternative.result made × P (whole made)
    unfolding check_alternative
    alternative_rule h =
        let n = items_rule scope alternative.items S.params (at + 3) _ w.items
        (bind_passed P (check_items scope S.params (at + 3) alternative.items) _ h) in
        let r = result_rule n.0 S.result used from alternative.result _ (variables_of {G = scope} declared head w n.1) w.result
        (bind_passed P (check_result scope before n.0 S.result used from alternative.result) _ n.2) in
        (n.0, r.0, n.1, r.1, r.2)

    rule_alternative :
        {L : List ℕ} {made : TextRead} → Numbered scope S.params alternative.items L
        → ResultSorted scope before L S.result used alternative.result made
        → P (whole made) → Accepts (check_alternative scope before S used at alternative) P
    unfolding check_alternative
    rule_alternative {L} n r p =
        bind_passes P (check_items scope S.params (at + 3) alternative.items) _
        (rule_items scope (at + 3) _ n
        (bind_passes P (check_result scope before L S.result used from alternative.result) _ (rule_result from alternative.result _
        (variables_of {G = scope} declared head w n) w.result r p)))

  -- ------------------------------------------------------------------ alternatives and definitions

  -- what is behind those that are done
  abbrev pub behind_done : {A : Type 0} → Elaborated (List A) → List A → ℕ → Elaborated (List A)
  behind_done done others used = record { value = done.value ++ others; used = used }

  bodies_rule :
      (P : Elaborated (List Alternative) → Type 0) {d : WrittenDefinition} → HeadFine d → (done : Elaborated (List Alternative)) (at : ℕ)
      (choices : List WrittenAlternative) → Each AlternativeFine choices
      → Accepts (check_alternatives scope before d.signature done at choices) P
      → (others : List Alternative) × (used : ℕ) × Bodies scope before d.signature done.used choices others used × P (behind_done done others used)
  unfolding check_alternatives
  bodies_rule P z done at [] each_none h = ([], done.used, no_alternative, rw (append-nil done.value) h)
  bodies_rule P {d} z done at (a ∷ rest) (each_more w ws) h =
      let (L, made, n, r, p) =
      alternative_rule _ z done.used at w (bind_passed P (check_alternative scope before d.signature done.used at a) _ h) in
      let one : Alternative = record { items = a.items; result = made.template } in
      let (others, used, bs, q) = bodies_rule P z (and_then done one made.used) _ rest ws p in
      (one ∷ others, used, by_choice n r bs, subst (λ v. P (record { value = v; used = used })) (append_assoc done.value (one ∷ []) others) q)

  rule_bodies :
      (P : Elaborated (List Alternative) → Type 0) {d : WrittenDefinition} → HeadFine d → (done : Elaborated (List Alternative)) (at : ℕ)
      {choices : List WrittenAlternative} {others : List Alternative} {used : ℕ} → Each AlternativeFine choices
      → Bodies scope before d.signature done.used choices others used → P (behind_done done others used)
      → Accepts (check_alternatives scope before d.signature done at choices) P
  unfolding check_alternatives
  rule_bodies P z done at each_none no_alternative p = subst (λ v. P (record { value = v; used = done.used })) (append-nil done.value) p
  rule_bodies P {d} z done at (each_more w ws) (by_choice {a = a} {r = made} {others = others} {used' = used} n r bs) p =
      let one : Alternative = record { items = a.items; result = made.template } in
      bind_passes P (check_alternative scope before d.signature done.used at a) _
      (rule_alternative _ z done.used at w n r
      (rule_bodies P z (and_then done one made.used) _ ws bs
      (subst⁻¹ (λ v. P (record { value = v; used = used })) (append_assoc done.value (one ∷ []) others) p)))

  -- bodies that the check accepts are derived, and elaborated to its value
  pub ok_rule :
      (P : Elaborated (List Definition) → Type 0) (done : Elaborated (List Definition)) (at : ℕ) (ds : List WrittenDefinition) → Each DefinitionFine ds
      → Accepts (check_bodies scope before done at ds) P
      → (es : List Definition) × (used : ℕ) × Ok scope before done.used ds es used × P (behind_done done es used)
  unfolding check_bodies
  ok_rule P done at [] each_none h = ([], done.used, ok_empty, rw (append-nil done.value) h)
  ok_rule P done at (d ∷ ds) (each_more w ws) h =
      let from : ℕ = at + field_size (head_value d) in
      let (choices, next, b, p) = bodies_rule _ w.head (none_yet done.used) from d.alternatives w.alternatives
      (bind_passed P (check_alternatives scope before d.signature (none_yet done.used) from d.alternatives) _ h) in
      let one : Definition = with_alternatives d choices in
      let (es, used, o, q) = ok_rule P (and_then done one next) (at + definition_size d) ds ws p in
      (one ∷ es, used, ok_definition b o, subst (λ v. P (record { value = v; used = used })) (append_assoc done.value (one ∷ []) es) q)

  -- bodies that are derived are accepted
  pub rule_ok : (P : Elaborated (List Definition) → Type 0) (done : Elaborated (List Definition)) (at : ℕ) {ds : List WrittenDefinition}
      {es : List Definition} {used : ℕ} → Each DefinitionFine ds → Ok scope before done.used ds es used
      → P (behind_done done es used) → Accepts (check_bodies scope before done at ds) P
  unfolding check_bodies
  rule_ok P done at each_none ok_empty p = subst (λ v. P (record { value = v; used = done.used })) (append-nil done.value) p
  rule_ok P done at (each_more w ws) (ok_definition {d = d} {choices = choices} {es = es} {next = next} {used' = used} b o) p =
      let from : ℕ = at + field_size (head_value d) in
      let one : Definition = with_alternatives d choices in
      bind_passes P (check_alternatives scope before d.signature (none_yet done.used) from d.alternatives) _
      (rule_bodies _ w.head (none_yet done.used) from w.alternatives b
      (rule_ok P (and_then done one next) (at + definition_size d) ws o
      (subst⁻¹ (λ v. P (record { value = v; used = used })) (append_assoc done.value (one ∷ []) es) p)))
