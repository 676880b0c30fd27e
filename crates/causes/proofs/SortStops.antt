-- The check of sorts refuses exactly as the rules say: it stops at a part that is reached and fails.
use Prim.Native.Nat.{ℕ, ◌+◌}
use mathlib.Core.Path.{◌≡◌, refl, sym, ◌∙◌, subst}
use mathlib.Core.Logic.{◌↔◌}
use mathlib.Core.List.{List, [], ◌∷◌}
use native.Mathlib.Omega.{arith}
use Rattle.answers.specs.declared.Refusal.{Refusal}
use Rattle.answers.specs.Checked.{Checked, bad}
use Rattle.grammar.specs.Table.{Item, Alternative, Definition}
use Rattle.grammar.specs.Written.{WrittenAlternative, WrittenDefinition, Written}
use Rattle.grammar.specs.Values.{Field, field, head_value}
use Rattle.grammar.specs.Encode.{items_then, alternatives_then, definitions_then}
use Rattle.decoding.specs.Within.{Each, AlternativeWithin, DefinitionWithin, Within}
use Rattle.judgements.specs.Sizes.{field_size, spellings_size, items_size, alternatives_size, definitions_size, blocks_size}
use Rattle.judgements.specs.Scopes.{Env, Scope}
use Rattle.judgements.specs.CheckSorts.{collect, check_items}
use Rattle.judgements.specs.Judgements.{Numbered, Defines}
use Rattle.judgements.proofs.SizeLaws.{bytes_of, one_field, no_bytes, items_bytes, alternatives_bytes, definitions_bytes, front_size}
use Rattle.elaboration.specs.Contexts.{Before, at_first, scope_after}
use Rattle.elaboration.specs.CheckSequence.{none_yet, check_result, check_alternative, check_bodies, check_blocks, check_root, check_sorts}
use Rattle.elaboration.specs.Elaboration.{Bodies, Ok}
use Rattle.causes.specs.Missorted.{Part, head, result, root, Fails, At, Next, Derived, place_behind, head_place, body_place, Missorted}
use Rattle.causes.specs.Missorted as rules
use Rattle.causes.proofs.PartTests.{outcome, item_view, item_fails, result_view, result_fails, head_view, head_fails, root_view, root_fails}
use Rattle.causes.proofs.Walking.{no_refusal, first_or_next, then_is, this_of, Stop, stops, stopped, passes, passed}
use Rattle.causes.proofs.SortWalks.{items, alternatives, bodies, heads, check_block, blocks}

-- ------------------------------------------------------------------ the whole table

module _ (t : Written) where
  -- where the blocks begin
  abbrev first : ℕ
  first = spellings_size t.keywords + spellings_size t.outsides

  place_behind_lem : (bs : List (List WrittenDefinition)) (follow : List Field) → place_behind t bs follow ≡ first + blocks_size bs + bytes_of follow
  place_behind_lem = front_size t.keywords t.outsides

  -- the place of a head, and of what stands in a body
  head_place_lem : (bs : List (List WrittenDefinition)) (ds : List WrittenDefinition)
      → place_behind t bs (field 3 [] ∷ definitions_then ds []) ≡ first + blocks_size bs + 3 + definitions_size ds
  head_place_lem bs ds =
      omega (arith, place_behind_lem bs (field 3 [] ∷ definitions_then ds []), one_field (field 3 []) (definitions_then ds []), definitions_bytes [] ds, no_bytes)

  body_place_lem : (bs : List (List WrittenDefinition)) (ds : List WrittenDefinition) (d : WrittenDefinition) (choices : List WrittenAlternative) (is : List Item)
      → place_behind t bs (field 3 [] ∷ definitions_then ds (field 4 (head_value d) ∷ alternatives_then choices (field 5 [] ∷ items_then is [])))
      ≡ first + blocks_size bs + 3 + definitions_size ds + field_size (head_value d) + alternatives_size choices + 3 + items_size is
  body_place_lem bs ds d choices is =
      let items : List Field = field 5 [] ∷ items_then is [] in
      let body : List Field = field 4 (head_value d) ∷ alternatives_then choices items in
      omega (
        arith,
        place_behind_lem bs (field 3 [] ∷ definitions_then ds body),
        one_field (field 3 []) (definitions_then ds body),
        definitions_bytes body ds,
        one_field (field 4 (head_value d)) (alternatives_then choices items),
        alternatives_bytes items choices,
        one_field (field 5 []) (items_then is []),
        items_bytes [] is,
        no_bytes,
      )

  -- ------------------------------------------------------------------ from the check to the rules

  -- a part that is reached and fails, at its place
  missorted : {A : Type 0} {r r' : Refusal} {at place : ℕ} {p : Part} → rules.Reaches t at p → Fails place p r' → ◌≡◌ {A = Checked A} (bad r') (bad r)
      → place ≡ at → Missorted t r
  missorted {r' = r'} {p = p} reached f e q = subst (Missorted t) (cc) (rules.fails reached (subst (λ k. Fails k p r') q f))

  module _ {r : Refusal} (block : Stop blocks (at_first t) first t.blocks r) where
    -- what stands before the block
    abbrev P : Before
    P = block.state

    abbrev E : Env
    E = P.env

    -- the blocks before it are derived
    derived : Derived t block.here.before P
    unfolding blocks
    derived = block.before

    by_head : Stop (heads E) [] (block.place + 3) block.here.this r → Missorted t r
    unfolding heads blocks
    by_head stop =
        outcome (head_view E stop.state stop.here.this stop.place) (λ u c q. no_refusal (sym q ∙ stop.refused))
        (λ r' f q. missorted (rules.at_head block.here stop.here derived stop.before) f (sym q ∙ stop.refused)
        (omega (arith, head_place_lem block.here.before stop.here.before, block.place_is, stop.place_is)))

    -- in a body of the block, whose heads give `own`
    module _ (own : Env) (defines : Defines E [] block.here.this own)
        (body : Stop (bodies (scope_after P own) P) (none_yet P.used) (block.place + 3) block.here.this r) where
      abbrev G : Scope
      G = scope_after P own

      abbrev d : WrittenDefinition
      d = body.here.this

      -- the rows that the texts before the definition used
      abbrev before : ℕ
      before = body.state.used

      module _ (choice : Stop (alternatives G P d.signature) (none_yet before) (body.place + field_size (head_value d)) d.alternatives r) where
        abbrev a : WrittenAlternative
        a = choice.here.this

        abbrev params : List ℕ
        params = d.signature.params

        place : (is : List Item) → choice.place + 3 + items_size is ≡ body_place t block.here body.here choice.here is
        unfolding alternatives bodies blocks
        place is =
            omega (
              arith,
              body_place_lem block.here.before body.here.before d choice.here.before is,
              block.place_is,
              body.place_is,
              choice.place_is,
            )

        reached : {L : List ℕ} {is : List Item} {p : Part} → Numbered G params is L → Next G P L d.signature.result choice.state.used a is p
            → rules.Reaches t (body_place t block.here body.here choice.here is) p
        unfolding alternatives bodies blocks
        reached = rules.in_body block.here body.here choice.here derived defines body.before.1 choice.before.1

        by_item : AlternativeWithin a → Stop (items G) params (choice.place + 3) a.items r → Missorted t r
        unfolding items
        by_item w stop =
            outcome (item_view G stop.state stop.place stop.here.this (this_of stop.here w.items))
            (λ A s q. no_refusal (sym q ∙ stop.refused))
            (λ r' f q. missorted (reached stop.before (rules.next_item stop.here)) f (sym q ∙ stop.refused)
            (omega (arith, stop.place_is, place stop.here.before)))

        by_result : AlternativeWithin a → (L : List ℕ) → Numbered G params a.items L
            → check_result G P L d.signature.result choice.state.used (choice.place + 3 + items_size a.items) a.result ≡ bad r → Missorted t r
        by_result w L n h =
            outcome (result_view G L (choice.place + 3 + items_size a.items) P d.signature.result choice.state.used w.result)
            (λ u s q. no_refusal (sym q ∙ h))
            (λ r' f q. missorted (reached n rules.the_result) f (sym q ∙ h) (place a.items))

        by_alternative : AlternativeWithin a → check_alternative G P d.signature choice.state.used choice.place a ≡ bad r → Missorted t r
        unfolding check_alternative items
        by_alternative w h =
            let from : ℕ = choice.place + 3 + items_size a.items in
            first_or_next (check_items G params (choice.place + 3) a.items) _ h
            (λ h. by_item w (stops (items G) a.items params (choice.place + 3) w.items h))
            (λ L p h. first_or_next (check_result G P L d.signature.result choice.state.used from a.result) _ h
            (λ h. by_result w L (passes (items G) a.items params L (choice.place + 3) w.items p) h)
            (λ u q h. no_refusal h))

      by_body : DefinitionWithin d → Missorted t r
      unfolding bodies alternatives
      by_body w =
          let choice =
          stops (alternatives G P d.signature) d.alternatives (none_yet before) (body.place + field_size (head_value d)) w.alternatives
          body.refused in
          by_alternative choice (this_of choice.here w.alternatives) choice.refused

    by_block : Each DefinitionWithin block.here.this → Missorted t r
    unfolding blocks bodies heads
    by_block w =
        first_or_next (collect E [] (block.place + 3) block.here.this) _ block.refused
        (λ h. by_head (stops (heads E) block.here.this [] (block.place + 3) w h))
        (λ own p h. first_or_next (check_bodies (scope_after P own) P (none_yet P.used) (block.place + 3) block.here.this) _ h
        (λ h.
        let body = stops (bodies (scope_after P own) P) block.here.this (none_yet P.used) (block.place + 3) w h in
        by_body own (passes (heads E) block.here.this [] own (block.place + 3) w p) body (this_of body.here w))
        (λ u q h. no_refusal h))

  abbrev root_at : ℕ
  root_at = first + blocks_size t.blocks

  root_place : place_behind t t.blocks [] ≡ root_at
  root_place = omega (arith, place_behind_lem t.blocks [], no_bytes)

  -- A table that the check of sorts refuses is refused by the rules.
  pub sorts_rule : {r : Refusal} → Within t → check_sorts t ≡ bad r → Missorted t r
  unfolding check_sorts blocks
  sorts_rule {r} w e =
      first_or_next {C = Missorted t r} (check_blocks (at_first t) first t.blocks) _ e
      (λ h. let block = stops blocks t.blocks (at_first t) first w.blocks h in by_block block (this_of block.here w.blocks))
      (λ P p h. first_or_next (check_root P.env root_at t.root) _ (sym (then_is (check_root P.env root_at t.root) _) ∙ h)
      (λ h. outcome (root_view P.env root_at t.root) (λ u d q. no_refusal (sym q ∙ h))
      (λ r' f q. missorted (rules.at_root (passes blocks t.blocks (at_first t) P first w.blocks p)) f (sym q ∙ h) (sym root_place)))
      (λ u q h. no_refusal h))

  -- ------------------------------------------------------------------ from the rules to the check

  in_block : {r : Refusal} {P : Before} → Within t → (b : At t.blocks) → Derived t b.before P
      → check_block P (first + blocks_size b.before) b.this ≡ bad r → check_sorts t ≡ bad r
  unfolding check_sorts blocks
  in_block {P = P} w b s h =
      let stop : Stop blocks (at_first t) first t.blocks _
      = record { here = b; state = P; before = s; place = first + blocks_size b.before; place_is = refl; refused = h } in
      rw (stopped blocks w.blocks stop) refl

  at_root : {r : Refusal} {P : Before} → Within t → Derived t t.blocks P → check_root P.env root_at t.root ≡ bad r → check_sorts t ≡ bad r
  unfolding check_sorts blocks
  at_root {P = P} w s h = rw (passed blocks t.blocks (at_first t) P first w.blocks s, h) refl

  at_head : {r : Refusal} {P : Before} {own : Env} → Within t → (b : At t.blocks) (d : At b.this) → Derived t b.before P
      → Defines P.env [] d.before own
      → Fails (head_place t b d) (head P.env own d.this) r → check_sorts t ≡ bad r
  unfolding heads
  at_head {r} {P} {own} w b d s k f =
      let E : Env = P.env in
      let place : ℕ = first + blocks_size b.before in
      let stop : Stop (heads E) [] (place + 3) b.this r
      = record {
        here = d;
        state = own;
        before = k;
        place = head_place t b d;
        place_is = head_place_lem b.before d.before;
        refused = head_fails E own d.this (head_place t b d) f;
      } in
      in_block w b s (rw (stopped (heads E) (this_of b w.blocks) stop) refl)

  in_body : {r : Refusal} {P : Before} {own : Env} {es : List Definition} {others : List Alternative} {next used : ℕ} → Within t
      → (b : At t.blocks) (d : At b.this) (a : At d.this.alternatives)
      → Derived t b.before P
      → Defines P.env [] b.this own
      → Ok (scope_after P own) P P.used d.before es next
      → Bodies (scope_after P own) P d.this.signature next a.before others used
      → check_alternative (scope_after P own) P d.this.signature used
      (first + blocks_size b.before + 3 + definitions_size d.before + field_size (head_value d.this) + alternatives_size a.before) a.this
      ≡ bad r
      → check_sorts t ≡ bad r
  unfolding heads bodies alternatives
  in_body {r} {P} {own} {es} {others} {next} {used} w b d a s k o c h =
      let block = this_of b w.blocks in
      let G : Scope = scope_after P own in
      let place : ℕ = first + blocks_size b.before + 3 in
      let behind : ℕ = place + definitions_size d.before + field_size (head_value d.this) in
      let choice : Stop (alternatives G P d.this.signature) (none_yet next) behind d.this.alternatives r
      = record {
        here = a;
        state = record { value = others; used = used };
        before = (others, c, refl);
        place = _;
        place_is = refl;
        refused = h;
      } in
      let body : Stop (bodies G P) (none_yet P.used) place b.this r
      = record {
        here = d;
        state = record { value = es; used = next };
        before = (es, o, refl);
        place = place + definitions_size d.before;
        place_is = refl;
        refused = stopped (alternatives G P d.this.signature) (this_of d block).alternatives choice;
      } in
      in_block w b s (rw (passed (heads P.env) b.this [] own place block k, stopped (bodies G P) block body) refl)

  -- A table that is refused by the rules is refused by the check of sorts.
  pub rule_sorts : {r : Refusal} → Within t → Missorted t r → check_sorts t ≡ bad r
  unfolding check_alternative items
  rule_sorts w (rules.fails (rules.at_head b d s k) f) = at_head w b d s k f
  rule_sorts {r} w (rules.fails (rules.in_body {P} {own} {L} b d a s k o c n (rules.next_item i)) f) =
      let G : Scope = scope_after P own in
      let fine = this_of a (this_of d (this_of b w.blocks)).alternatives in
      let stop : Stop (items G) d.this.signature.params _ a.this.items r
      = record {
        here = i;
        state = L;
        before = n;
        place = body_place t b d a i.before;
        place_is = body_place_lem b.before d.before d.this a.before i.before;
        refused = item_fails G L (body_place t b d a i.before) (this_of i fine.items) f;
      } in
      in_body w b d a s k o c (rw (stopped (items G) fine.items stop) refl)
  rule_sorts {r} w (rules.fails (rules.in_body {P} {own} {L} {used = used} b d a s k o c n rules.the_result) f) =
      let G : Scope = scope_after P own in
      let fine = this_of a (this_of d (this_of b w.blocks)).alternatives in
      let place = body_place_lem b.before d.before d.this a.before a.this.items in
      in_body w b d a s k o c
      (rw (
        passed (items G) a.this.items d.this.signature.params L _ fine.items n,
        result_fails G L _ fine.result (subst (λ at. Fails at (result G P L d.this.signature.result used a.this.result) r) place f),
      ) refl)
  rule_sorts {r} w (rules.fails (rules.at_root {P} s) f) =
      at_root w s (root_fails P.env root_at (subst (λ at. Fails at (root P.env t.root) r) root_place f))

  -- The check of sorts refuses exactly as the rules do.
  pub missorted_exactly : Within t → (r : Refusal) → (check_sorts t ≡ bad r) ↔ Missorted t r
  missorted_exactly w r = (sorts_rule w, rule_sorts w)
