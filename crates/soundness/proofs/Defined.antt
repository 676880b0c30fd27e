-- A nonterminal that a well sorted table declares has a production: a call never meets an undefined one, 001's other way to `wrong`.
use Prim.Native.Nat.{ℕ, ◌≤◌, ◌<◌}
use mathlib.Core.Path.{◌≡◌, refl, sym, ap, subst⁻¹}
use mathlib.Core.Bool.{Bool, true, false, true≢false}
use mathlib.Core.List.{List, [], ◌∷◌, ◌++◌}
use native.Mathlib.Omega.{arith}
use lib.Dec.{eqb}
use lib.ListN.{length}
use borrow.Author.Tests.{eqb-true}
use Rattle.grammar.specs.Sorts.{Signature}
use Rattle.grammar.specs.Table.{Templates, Alternative, Mode, add, extend, update, Definition, Table, call}
use Rattle.grammar.specs.Written.{WrittenDefinition, Written, with_alternatives}
use Rattle.decoding.specs.Within.{Each, each_none, each_more, DefinitionWithin, Within, Among, among_first, among_later}
use Rattle.judgements.specs.Scopes.{Env, entry_of, Scope}
use Rattle.judgements.specs.Judgements.{Newest, newest_first, newest_later, ItemSorted, by_call, Defines, no_definition, by_add, by_extend, by_update}
use Rattle.judgements.specs.CheckSorts.{is_defined}
use Rattle.judgements.proofs.Environments.{newest_defined}
use Rattle.elaboration.specs.Elaboration.{Bodies, Ok, ok_empty, ok_definition, Sequence, no_grammar, by_grammar, Elaborates, scope_of}
use Rattle.elaboration.specs.Contexts.{Before}
use Rattle.elaboration.proofs.Elaborated.{as_many, normalized_behind}
use Rattle.productions.specs.Normal.{Production, productions_of, without, kept, defined, defined_all, normalized}
use Rattle.firsts.specs.Rules.{Of}

in_front_lem : {g : List Production} (more : List Production) {p : Production} → Among g p → Among (g ++ more) p
in_front_lem more among_first = among_first
in_front_lem more (among_later m) = among_later (in_front_lem more m)

in_back : (g : List Production) {more : List Production} {p : Production} → Among more p → Among (g ++ more) p
in_back [] m = m
in_back (q ∷ g) m = among_later (in_back g m)

-- a production of another nonterminal stays
in_without : (nonterminal : ℕ) {g : List Production} {p : Production} → (p.nonterminal ≡ nonterminal → ⊥) → Among g p → Among (without nonterminal g) p
unfolding without
in_without nonterminal d (among_first {x = p} {xs = g}) = go (eqb p.nonterminal nonterminal) refl
  where
    go : (test : Bool) → eqb p.nonterminal nonterminal ≡ test → Among (elim test [ true ↦ without nonterminal g | false ↦ p ∷ without nonterminal g ]) p
    go true e = absurd (d (eqb-true p.nonterminal nonterminal e))
    go false e = among_first
in_without nonterminal {p = p} d (among_later {y = q} {xs = g} m) = go (eqb q.nonterminal nonterminal) (in_without nonterminal d m)
  where
    go : (test : Bool) → Among (without nonterminal g) p → Among (elim test [ true ↦ without nonterminal g | false ↦ q ∷ without nonterminal g ]) p
    go true k = k
    go false k = among_later k

in_kept : (mode : Mode) (nonterminal : ℕ) {g : List Production} {p : Production} → (p.nonterminal ≡ nonterminal → ⊥) → Among g p
    → Among (kept mode nonterminal g) p
in_kept add nonterminal d k = k
in_kept extend nonterminal d k = k
in_kept update nonterminal d k = in_without nonterminal d k

-- the first alternative of a definition
first_of : (nonterminal : ℕ) (rest : List Alternative) → 1 ≤ length rest
    → (p : Production) × Among (productions_of nonterminal rest) p × (p.nonterminal ≡ nonterminal)
unfolding productions_of
first_of nonterminal [] h = absurd (omega (arith, h))
first_of nonterminal (a ∷ rest) h = (record { nonterminal = nonterminal; items = a.items; result = a.result }, among_first, refl)

-- each nonterminal of an environment has a production
abbrev Produced : Env → List Production → Type 0
Produced E g = (n : ℕ) (S : Signature) → Newest E n S → (p : Production) × Of g n p

definition_produced : {E : Env} {g : List Production} (definition : Definition) → 1 ≤ length definition.alternatives → definition.nonterminal < 64
    → Produced E g → Produced (entry_of definition ∷ E) (defined g definition)
definition_produced {g = g} definition some low h n S newest_first =
    let f = first_of definition.nonterminal definition.alternatives some in
    (f.0, record { member = in_back (kept definition.mode definition.nonterminal g) f.1; owned = f.2; small = low })
definition_produced definition some low h n S (newest_later k w) =
    let f = h n S w in
    let apart : f.0.nonterminal ≡ definition.nonterminal → ⊥ = λ e. k (cc (e, f.1.owned)) in
    (f.0, record { member = in_front_lem _ (in_kept definition.mode definition.nonterminal apart f.1.member); owned = f.1.owned; small = f.1.small })

-- one that is elaborated has an alternative if the one written has
elaborated_produced : {G : Scope} {P : Before} {E : Env} {g : List Production} (d : WrittenDefinition) {choices : List Alternative} {used used' : ℕ}
    → Bodies G P d.signature used d.alternatives choices used' → DefinitionWithin d → Produced E g
    → Produced (entry_of d ∷ E) (defined g (with_alternatives d choices))
elaborated_produced d {choices} b z h =
    definition_produced (with_alternatives d choices) (omega (arith, as_many b, z.alternative_count)) (omega (arith, z.nonterminal)) h

defines_produced : {G : Scope} {P : Before} {E own own' : Env} {ds : List WrittenDefinition} {es : List Definition} {g : List Production} {used used' : ℕ}
    → Defines E own ds own' → Ok G P used ds es used' → Each DefinitionWithin ds → Produced (own ++ E) g → Produced (own' ++ E) (defined_all g es)
unfolding defined_all
defines_produced no_definition ok_empty each_none h = h
defines_produced (by_add {d = d} e a c k) (ok_definition b o) (each_more z zs) h = defines_produced k o zs (elaborated_produced d b z h)
defines_produced (by_extend {d = d} e a c k) (ok_definition b o) (each_more z zs) h = defines_produced k o zs (elaborated_produced d b z h)
defines_produced (by_update {d = d} e a c k) (ok_definition b o) (each_more z zs) h = defines_produced k o zs (elaborated_produced d b z h)

sequence_produced : {P P' : Before} {gs : List (List WrittenDefinition)} → Sequence P gs P' → Each (Each DefinitionWithin) gs
    → Produced P.env (normalized P.blocks) → Produced P'.env (normalized P'.blocks)
sequence_produced no_grammar each_none h = h
sequence_produced (by_grammar {P = P} {own = own} {h = block} d o s) (each_more z zs) h =
    sequence_produced s zs (subst⁻¹ (Produced (own ++ P.env)) (normalized_behind P.blocks block) (defines_produced d o z h))

none_newest : {nonterminal : ℕ} {S : Signature} → Newest [] nonterminal S → ⊥
unfolding is_defined
none_newest k = true≢false (sym (newest_defined k))

-- A call that is well sorted in a table within the counts is of a nonterminal that has a production.
pub called_is_defined : {table : Written} {made : Table} → Within table → (elaborates : Elaborates table made) {L : List ℕ} {nonterminal A : ℕ}
    {ts : Templates} → ItemSorted (scope_of elaborates) L (call nonterminal ts) A → (p : Production) × Of (normalized made.blocks) nonterminal p
called_is_defined z elaborates (by_call {S = S} k f) =
    subst⁻¹ (Produced elaborates.last.env) (ap normalized elaborates.same_blocks) (sequence_produced elaborates.sequence z.blocks nothing) _ S k
  where
    nothing : Produced [] (normalized [])
    nothing n S k = absurd (none_newest k)
