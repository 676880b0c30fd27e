-- The walks of the check of sorts over items, alternatives, definitions and blocks, with the judgement of what passed.
use Prim.Native.Nat.{ℕ, ◌+◌}
use mathlib.Core.Path.{◌≡◌, refl, sym, ap, ap₂, ◌∙◌, subst, subst⁻¹}
use mathlib.Core.Logic.{inl, inr}
use mathlib.Core.List.{List, [], ◌∷◌, ◌++◌, append-nil, append_assoc}
use native.Mathlib.Omega.{arith}
use Rattle.answers.specs.Checked.{Checked, ok, bad, ◌>>=◌}
use Rattle.grammar.specs.Sorts.{Signature}
use Rattle.grammar.specs.Table.{Item, Alternative, Mode, add, extend, update, Definition}
use Rattle.grammar.specs.Written.{WrittenResult, WrittenAlternative, WrittenDefinition, with_alternatives}
use Rattle.grammar.specs.Values.{item_value, head_value}
use Rattle.decoding.specs.Within.{Each, ItemWithin, AlternativeWithin, DefinitionWithin}
use Rattle.judgements.specs.Sizes.{field_size, items_size, alternative_size, alternatives_size, definition_size, definitions_size, blocks_size}
use Rattle.judgements.specs.Scopes.{Env, Scope, entry_of}
use Rattle.judgements.specs.CheckSorts.{consistent, collect, check_item, check_items}
use Rattle.judgements.specs.Judgements.{ItemSorted, Numbered, no_item, one_more, Defines, no_definition, by_add, by_extend, by_update}
use Rattle.texts.specs.Reading.{TextRead}
use Rattle.elaboration.specs.Contexts.{Before, behind_block, scope_after}
use Rattle.elaboration.specs.CheckSequence.{Elaborated, none_yet, and_then, check_result, check_alternative, check_alternatives, check_bodies, check_blocks}
use Rattle.elaboration.specs.Elaboration.{ResultSorted, Bodies, no_alternative, by_choice, Ok, ok_empty, ok_definition, Sequence, no_grammar, by_grammar}
use Rattle.causes.proofs.PartTests.{outcome, item_view, item_passes, result_view, result_passes, Consistent, head_view, inconsistent}
use Rattle.causes.proofs.Walking.{no_refusal, both_pass, then_is, Walk, passes, passed}

-- ------------------------------------------------------------------ bodies

-- some members are elaborated, and what they are elaborated to is laid behind that of those before
abbrev pub Laid : {A B : Type 0} → (ℕ → List A → List B → ℕ → Type 0) → Elaborated (List B) → List A → Elaborated (List B) → Type 0
Laid {B = B} Right done xs all = (made : List B) × Right done.used xs made all.used × (done.value ++ made ≡ all.value)

-- what is laid behind nothing more is what was done
pub none_laid : {A : Type 0} (done all : Elaborated (List A)) {made : List A} → (done.used ≡ all.used) × (made ≡ []) → done.value ++ made ≡ all.value
    → done ≡ all
none_laid done all (used, none) q =
    ap₂ (λ v u. record { value = v; used = u }) (sym (append-nil done.value) ∙ ap (done.value ++◌) (sym none) ∙ q) used

module _ (G : Scope) where
  -- an item that passes has the sort
  pub item_sorted : (L : List ℕ) (at : ℕ) {i : Item} {A : ℕ} → ItemWithin i → check_item G L at i ≡ ok A → ItemSorted G L i A
  item_sorted L at {i} {A} w e =
      outcome (item_view G L at i w) (λ B s q. subst (ItemSorted G L i) (let h : B ≡ A = cc in h) s) (λ r f q. no_refusal (sym e ∙ q))

  -- the items of an alternative: they number its variables
  unfoldable pub items : Walk (List ℕ) Item ℕ
  unfolding check_items items_size
  items =
      record {
        all = check_items G;
        one = λ L at i. check_item G L at i;
        next = λ L i A. L ++ (A ∷ []);
        bytes = λ i. field_size (item_value i);
        size = items_size;
        size_none = refl;
        size_more = λ i is. refl;
        at-end = λ L at. refl;
        goes_on = λ L at i is. refl;
        Leads = Numbered G;
        none = λ L. no_item;
        none_is = none_is;
        Fine = ItemWithin;
        more = λ L L' at i is A w e n. one_more (item_sorted L at w e) n;
        more_is = more_is;
      }
    where
      none_is : (L L' : List ℕ) → Numbered G L [] L' → L ≡ L'
      none_is L L' no_item = refl

      more_is : (L L' : List ℕ) (i : Item) (is : List Item) → ItemWithin i → Numbered G L (i ∷ is) L'
          → (A : ℕ) × ((at : ℕ) → check_item G L at i ≡ ok A) × Numbered G (L ++ (A ∷ [])) is L'
      more_is L L' i is w (one_more {A = A} s n) = (A, λ at. item_passes G L at s, n)

  module _ (P : Before) where
    module _ (S : Signature) where
      -- an alternative that passes numbers its variables, and its result has the sort; it is answered with the template of the result
      pub alternative_sorted : (used at : ℕ) (a : WrittenAlternative) {b : Elaborated Alternative} → AlternativeWithin a
          → check_alternative G P S used at a ≡ ok b
          → (L : List ℕ) × (made : TextRead) × Numbered G S.params a.items L × ResultSorted G P L S.result used a.result made
          × (record { value = record { items = a.items; result = made.template }; used = made.used } ≡ b)
      unfolding check_alternative items
      alternative_sorted used at a {b} w e =
          let from : ℕ = at + 3 + items_size a.items in
          let whole : TextRead → Elaborated Alternative = λ t. record { value = record { items = a.items; result = t.template }; used = t.used } in
          both_pass (check_items G S.params (at + 3) a.items) _ e
          (λ L p h. both_pass (check_result G P L S.result used from a.result) _ h
          (λ t q k. outcome (result_view G L from P S.result used w.result)
          (λ u r q'.
          let answered : whole t ≡ b = cc in
          let same : u ≡ t = cc in
          (L, u, passes items a.items S.params L (at + 3) w.items p, r, ap whole same ∙ answered))
          (λ r f q'. no_refusal (sym q ∙ q'))))

      -- and the other way round
      pub alternative_passes : (used at : ℕ) (a : WrittenAlternative) {L : List ℕ} {made : TextRead} → AlternativeWithin a
          → Numbered G S.params a.items L → ResultSorted G P L S.result used a.result made
          → check_alternative G P S used at a ≡ ok (record { value = record { items = a.items; result = made.template }; used = made.used })
      unfolding check_alternative items
      alternative_passes used at a {L} w n r =
          rw (passed items a.items S.params L (at + 3) w.items n, result_passes G L (at + 3 + items_size a.items) w.result r) refl

      -- no alternative is elaborated to none
      pub no_alternatives : {used used' : ℕ} {made : List Alternative} → Bodies G P S used [] made used' → (used ≡ used') × (made ≡ [])
      no_alternatives no_alternative = (refl, refl)

      -- the alternatives of a definition: each has its sort, and is elaborated
      unfoldable pub alternatives : Walk (Elaborated (List Alternative)) WrittenAlternative (Elaborated Alternative)
      unfolding check_alternatives alternatives_size
      alternatives =
          record {
            all = check_alternatives G P S;
            one = λ done at a. check_alternative G P S done.used at a;
            next = λ done a b. and_then done b.value b.used;
            bytes = alternative_size;
            size = alternatives_size;
            size_none = refl;
            size_more = λ a rest. refl;
            at-end = λ done at. refl;
            goes_on = λ done at a rest. refl;
            Leads = Laid (Bodies G P S);
            none = λ done. ([], no_alternative, append-nil done.value);
            none_is = λ done all (made, b, q). none_laid done all (no_alternatives b) q;
            Fine = AlternativeWithin;
            more = more;
            more_is = more_is;
          }
        where
          more : (done all : Elaborated (List Alternative)) (at : ℕ) (a : WrittenAlternative) (rest : List WrittenAlternative) (b : Elaborated Alternative)
              → AlternativeWithin a → check_alternative G P S done.used at a ≡ ok b → Laid (Bodies G P S) (and_then done b.value b.used) rest all
              → Laid (Bodies G P S) done (a ∷ rest) all
          more done all at a rest b w e laid =
              let (L, made, n, r, is) = alternative_sorted done.used at a w e in
              let (others, bs, q) = subst⁻¹ (λ z. Laid (Bodies G P S) (and_then done z.value z.used) rest all) is laid in
              (_, by_choice n r bs, sym (append_assoc done.value _ others) ∙ q)

          more_is : (done all : Elaborated (List Alternative)) (a : WrittenAlternative) (rest : List WrittenAlternative) → AlternativeWithin a
              → Laid (Bodies G P S) done (a ∷ rest) all → (b : Elaborated Alternative) × ((at : ℕ) → check_alternative G P S done.used at a ≡ ok b)
              × (Laid (Bodies G P S) (and_then done b.value b.used) rest all)
          more_is done all a rest w (made, by_choice {r = t} {others = others} n r bs, q) =
              let one : Alternative = record { items = a.items; result = t.template } in (
                record { value = one; used = t.used },
                λ at. alternative_passes done.used at a w n r,
                (others, bs, append_assoc done.value (one ∷ []) others ∙ q),
              )

    -- no definition is elaborated to none
    pub no_definitions : {used used' : ℕ} {made : List Definition} → Ok G P used [] made used' → (used ≡ used') × (made ≡ [])
    no_definitions ok_empty = (refl, refl)

    -- the bodies of a block's definitions: each is right, and elaborated
    unfoldable pub bodies : Walk (Elaborated (List Definition)) WrittenDefinition (Elaborated (List Alternative))
    unfolding check_bodies definitions_size alternatives
    bodies =
        record {
          all = check_bodies G P;
          one = λ done. check_definition done.used;
          next = λ done d e. and_then done (with_alternatives d e.value) e.used;
          bytes = definition_size;
          size = definitions_size;
          size_none = refl;
          size_more = λ d ds. refl;
          at-end = λ done at. refl;
          goes_on = λ done at d ds. refl;
          Leads = Laid (Ok G P);
          none = λ done. ([], ok_empty, append-nil done.value);
          none_is = λ done all (made, o, q). none_laid done all (no_definitions o) q;
          Fine = DefinitionWithin;
          more = more;
          more_is = more_is;
        }
      where
        check_definition : ℕ → ℕ → WrittenDefinition → Checked (Elaborated (List Alternative))
        check_definition used at d = check_alternatives G P d.signature (none_yet used) (at + field_size (head_value d)) d.alternatives

        more : (done all : Elaborated (List Definition)) (at : ℕ) (d : WrittenDefinition) (ds : List WrittenDefinition) (e : Elaborated (List Alternative))
            → DefinitionWithin d → check_definition done.used at d ≡ ok e
            → Laid (Ok G P) (and_then done (with_alternatives d e.value) e.used) ds all → Laid (Ok G P) done (d ∷ ds) all
        more done all at d ds e w p (es, o, q) =
            let (made, b, is) = passes (alternatives d.signature) d.alternatives (none_yet done.used) e _ w.alternatives p in (
              with_alternatives d made ∷ es,
              ok_definition b o,
              ap (λ z. done.value ++ (with_alternatives d z ∷ es)) is ∙ sym (append_assoc done.value (with_alternatives d e.value ∷ []) es) ∙ q,
            )

        more_is : (done all : Elaborated (List Definition)) (d : WrittenDefinition) (ds : List WrittenDefinition) → DefinitionWithin d
            → Laid (Ok G P) done (d ∷ ds) all → (e : Elaborated (List Alternative)) × ((at : ℕ) → check_definition done.used at d ≡ ok e)
            × (Laid (Ok G P) (and_then done (with_alternatives d e.value) e.used) ds all)
        more_is done all d ds w (made, ok_definition {choices = choices} {es = es} {next = next} b o, q) =
            let e : Elaborated (List Alternative) = record { value = choices; used = next } in (
              e,
              λ at. passed (alternatives d.signature) d.alternatives (none_yet done.used) e (at + field_size (head_value d)) w.alternatives
                  (choices, b, refl),
              (es, o, append_assoc done.value (with_alternatives d choices ∷ []) es ∙ q),
            )

-- ------------------------------------------------------------------ heads

module _ (E : Env) where
  -- a consistent head passes
  pub consistent_passes : (own : Env) (d : WrittenDefinition) (at : ℕ) → Consistent E own d at tt → consistent d.mode E own d at ≡ ok tt
  consistent_passes own d at c =
      outcome {C = consistent d.mode E own d at ≡ ok tt} (head_view E own d at) (λ u k e. e) (λ r f e. absurd (inconsistent E own d at f c))

  -- a consistent definition is one more
  pub define : {own own' : Env} {d : WrittenDefinition} {ds : List WrittenDefinition} → Consistent E own d 0 tt → Defines E (entry_of d ∷ own) ds own'
      → Defines E own (d ∷ ds) own'
  define (inl (m, o, e)) k = by_add m o e k
  define {own} {own'} {d} {ds} (inr (m, o, e)) k = by d.mode refl
    where
      by : (mode : Mode) → d.mode ≡ mode → Defines E own (d ∷ ds) own'
      by add q = absurd (m q)
      by extend q = by_extend q o e k
      by update q = by_update q o e k

  -- and the other way round
  pub defined : {own own' : Env} {d : WrittenDefinition} {ds : List WrittenDefinition} → Defines E own (d ∷ ds) own'
      → Consistent E own d 0 tt × Defines E (entry_of d ∷ own) ds own'
  defined (by_add m o e k) = (inl (m, o, e), k)
  defined (by_extend m o e k) = (inr (λ q. let z : ◌≡◌ {A = ℕ} 0 1 = cc in omega arith, o, e), k)
  defined (by_update m o e k) = (inr (λ q. let z : ◌≡◌ {A = ℕ} 0 1 = cc in omega arith, o, e), k)

  -- the heads of a block's definitions: they are defined one after the other
  unfoldable pub heads : Walk Env WrittenDefinition (Unit {0})
  unfolding collect definitions_size
  heads =
      record {
        all = collect E;
        one = λ own at d. consistent d.mode E own d at;
        next = λ own d u. entry_of d ∷ own;
        bytes = definition_size;
        size = definitions_size;
        size_none = refl;
        size_more = λ d ds. refl;
        at-end = λ own at. refl;
        goes_on = λ own at d ds. then_is (consistent d.mode E own d at) _;
        Leads = Defines E;
        none = λ own. no_definition;
        none_is = none_is;
        Fine = DefinitionWithin;
        more = λ own own' at d ds u w e k. outcome (head_view E own d at) (λ v c q. define c k) (λ r f q. no_refusal (sym e ∙ q));
        more_is = λ own own' d ds w k. let (c, rest) = defined k in (tt, λ at. consistent_passes own d at c, rest);
      }
    where
      none_is : (own own' : Env) → Defines {R = WrittenResult} E own [] own' → own ≡ own'
      none_is own own' no_definition = refl

-- ------------------------------------------------------------------ blocks

-- a block's heads, then its bodies; its value is what stands behind it
abbrev pub check_block : Before → ℕ → List WrittenDefinition → Checked Before
check_block P at b =
    collect P.env [] (at + 3) b
    >>= λ own. check_bodies (scope_after P own) P (none_yet P.used) (at + 3) b >>= λ e. ok (behind_block P own e.value e.used)

-- three checks, the third of which asks for the values of the first two
pub regrouped : {A B C D : Type 0} (first : Checked A) (second : A → Checked B) (join : A → B → C) (third : C → Checked D)
    → (first >>= λ a. second a >>= λ b. third (join a b)) ≡ (first >>= λ a. second a >>= λ b. ok (join a b)) >>= third
regrouped (bad r) second join third = refl
regrouped {B = B} (ok a) second join third = by (second a)
  where
    by : (checked : Checked B) → (checked >>= λ b. third (join a b)) ≡ ((checked >>= λ b. ok (join a b)) >>= third)
    by (ok b) = refl
    by (bad r) = refl

-- the blocks: each is derived and elaborated, and its signatures stand in front of the earlier ones
unfoldable pub blocks : Walk Before (List WrittenDefinition) Before
unfolding check_blocks blocks_size heads bodies
blocks =
    record {
      all = check_blocks;
      one = check_block;
      next = λ P b P'. P';
      bytes = λ b. 3 + definitions_size b;
      size = blocks_size;
      size_none = refl;
      size_more = λ b bs. omega arith;
      at-end = λ P at. refl;
      goes_on = goes_on;
      Leads = Sequence;
      none = λ P. no_grammar;
      none_is = none_is;
      Fine = Each DefinitionWithin;
      more = λ P P' at b bs Q w e s. both_pass (collect P.env [] (at + 3) b) _ e
          (λ own p h. both_pass (check_bodies (scope_after P own) P (none_yet P.used) (at + 3) b) _ h
          (λ d q same. derived P P' (at + 3) w p q
          (subst (λ R. Sequence R bs P') (let is : Q ≡ behind_block P own d.value d.used = cc in is) s)));
      more_is = more_is;
    }
  where
    none_is : (P P' : Before) → Sequence P [] P' → P ≡ P'
    none_is P P' no_grammar = refl

    goes_on : (P : Before) (at : ℕ) (b : List WrittenDefinition) (bs : List (List WrittenDefinition))
        → check_blocks P at (b ∷ bs) ≡ (check_block P at b >>= λ P'. check_blocks P' (at + (3 + definitions_size b)) bs)
    goes_on P at b bs =
        let next : ℕ = at + 3 + definitions_size b in
        let is : next ≡ at + (3 + definitions_size b) = omega arith in
        rw (← is)
        (regrouped (collect P.env [] (at + 3) b) (λ own. check_bodies (scope_after P own) P (none_yet P.used) (at + 3) b)
        (λ own e. behind_block P own e.value e.used) (λ P'. check_blocks P' next bs))

    derived : (P P' : Before) {own : Env} (at : ℕ) {b : List WrittenDefinition} {e : Elaborated (List Definition)} {bs : List (List WrittenDefinition)}
        → Each DefinitionWithin b → collect P.env [] at b ≡ ok own → check_bodies (scope_after P own) P (none_yet P.used) at b ≡ ok e
        → Sequence (behind_block P own e.value e.used) bs P' → Sequence P (b ∷ bs) P'
    derived P P' {own} at {b} {e} {bs} w p q s =
        let (made, o, is) = passes (bodies (scope_after P own) P) b (none_yet P.used) e at w q in
        by_grammar (passes (heads P.env) b [] own at w p) o (subst⁻¹ (λ h. Sequence (behind_block P own h e.used) bs P') is s)

    more_is : (P P' : Before) (b : List WrittenDefinition) (bs : List (List WrittenDefinition)) → Each DefinitionWithin b → Sequence P (b ∷ bs) P'
        → (Q : Before) × ((at : ℕ) → check_block P at b ≡ ok Q) × Sequence Q bs P'
    more_is P P' b bs w (by_grammar {own = own} {h = made} {used = used} d o s) = (
      behind_block P own made used,
      λ at. rw (
        passed (heads P.env) b [] own (at + 3) w d,
        passed (bodies (scope_after P own) P) b (none_yet P.used) (record { value = made; used = used }) (at + 3) w (made, o, refl),
      ) refl,
      s,
    )
