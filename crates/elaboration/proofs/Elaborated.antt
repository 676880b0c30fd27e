-- What an elaborated table has of the table as written: the same heads, the same items, and of each result its template.
use Prim.Native.Nat.{ℕ}
use mathlib.Core.Path.{◌≡◌, refl, sym, ap, ◌∙◌}
use mathlib.Core.List.{List, [], ◌∷◌, ◌++◌, map, append-nil, append_assoc}
use lib.ListN.{length}
use Rattle.grammar.specs.Sorts.{Signature}
use Rattle.grammar.specs.Table.{Alternative, Definition, Table}
use Rattle.grammar.specs.Written.{WrittenResult, WrittenAlternative, WrittenDefinition, Written}
use Rattle.grammar.specs.Templated.{template_of, with_template, with_templates, templated}
use Rattle.decoding.specs.Within.{Each, each_none, each_more, ResultWithin, AlternativeWithin, DefinitionWithin, Within}
use Rattle.productions.specs.Normal.{Production, defined_all, normalized_from, normalized}
use Rattle.judgements.specs.Scopes.{Env, Scope}
use Rattle.judgements.specs.Judgements.{Defines, no_definition, by_add, by_extend, by_update}
use Rattle.texts.specs.Reading.{TextRead}
use Rattle.elaboration.specs.Contexts.{Before}
use Rattle.elaboration.specs.Elaboration.{ResultSorted, by_template, by_text, Bodies, no_alternative, by_choice, Ok, ok_empty, ok_definition}
use Rattle.elaboration.specs.Elaboration.{Sequence, no_grammar, by_grammar, Elaborates}

module _ {G : Scope} {P : Before} where
  -- Elaborated definitions have the heads of those written,
  pub same_heads : {E own own' : Env} {ds : List WrittenDefinition} {es : List Definition} {used used' : ℕ} → Ok G P used ds es used'
      → Defines E own ds own' → Defines E own es own'
  same_heads ok_empty no_definition = no_definition
  same_heads (ok_definition b o) (by_add m a c k) = by_add m a c (same_heads o k)
  same_heads (ok_definition b o) (by_extend m a c k) = by_extend m a c (same_heads o k)
  same_heads (ok_definition b o) (by_update m a c k) = by_update m a c (same_heads o k)

  -- and as many alternatives.
  pub as_many : {S : Signature} {choices : List WrittenAlternative} {others : List Alternative} {used used' : ℕ} → Bodies G P S used choices others used'
      → length others ≡ length choices
  as_many no_alternative = refl
  as_many (by_choice n r bs) = cc (as_many bs)

  -- a table within the layout has no text
  result_made : {L : List ℕ} {B used : ℕ} {result : WrittenResult} {made : TextRead} → ResultSorted G P L B used result made → ResultWithin result
      → made.template ≡ template_of result
  result_made (by_template s f) w = refl
  result_made (by_text _ _ _ _ _ r _) w = elim w [ ]

  bodies_made : {S : Signature} {choices : List WrittenAlternative} {others : List Alternative} {used used' : ℕ} → Bodies G P S used choices others used'
      → Each AlternativeWithin choices → others ≡ map with_template choices
  bodies_made no_alternative each_none = refl
  bodies_made (by_choice n r bs) (each_more w ws) = cc (result_made r w.result, bodies_made bs ws)

  block_made : {ds : List WrittenDefinition} {es : List Definition} {used used' : ℕ} → Ok G P used ds es used' → Each DefinitionWithin ds
      → es ≡ map with_templates ds
  block_made ok_empty each_none = refl
  block_made (ok_definition b o) (each_more w ws) = cc (bodies_made b w.alternatives, block_made o ws)

-- Blocks within the layout are elaborated to those with their templates.
pub blocks_made : {P P' : Before} {gs : List (List WrittenDefinition)} → Sequence P gs P' → Each (Each DefinitionWithin) gs
    → P'.blocks ≡ P.blocks ++ templated gs
blocks_made (no_grammar {P = P}) each_none = sym (append-nil P.blocks)
blocks_made (by_grammar {P = P} {h = h} {gs = gs} d o s) (each_more w ws) =
    blocks_made s ws ∙ append_assoc P.blocks (h ∷ []) (templated gs) ∙ ap (λ b. P.blocks ++ (b ∷ templated gs)) (block_made o w)

-- The blocks of an elaborated table within the layout are those written, with their templates.
pub elaborated_blocks : {table : Written} {made : Table} → Within table → Elaborates table made → made.blocks ≡ templated table.blocks
elaborated_blocks w e = e.same_blocks ∙ blocks_made e.sequence w.blocks

-- ------------------------------------------------------------------ what stands before

-- Blocks whose heads are derived one after the other, from E on.
pub data Headed : Env → List (List Definition) → Type 0 where
  headed_none : {E : Env} → Headed E []
  headed_more : {E own : Env} {h : List Definition} {hs : List (List Definition)} → Defines E [] h own → Headed (own ++ E) hs → Headed E (h ∷ hs)

-- What a sequence lays behind the blocks before has derived heads.
pub heads_derived : {P P' : Before} {gs : List (List WrittenDefinition)} → Sequence P gs P'
    → (hs : List (List Definition)) × Headed P.env hs × (P'.blocks ≡ P.blocks ++ hs)
heads_derived (no_grammar {P = P}) = ([], headed_none, sym (append-nil P.blocks))
heads_derived (by_grammar {P = P} {h = h} d o s) =
    let (hs, k, e) = heads_derived s in (h ∷ hs, headed_more (same_heads o d) k, e ∙ append_assoc P.blocks (h ∷ []) hs)

-- The spellings stay.
pub same_spellings : {P P' : Before} {gs : List (List WrittenDefinition)} → Sequence P gs P'
    → (P'.keywords ≡ P.keywords) × (P'.outsides ≡ P.outsides)
same_spellings no_grammar = (refl, refl)
same_spellings (by_grammar d o s) = same_spellings s

normal_behind : (g : List Production) (blocks : List (List Definition)) (h : List Definition)
    → normalized_from g (blocks ++ (h ∷ [])) ≡ defined_all (normalized_from g blocks) h
unfolding normalized_from
normal_behind g [] h = refl
normal_behind g (b ∷ blocks) h = normal_behind (defined_all g b) blocks h

-- The productions of one block more are those before, with what it defines.
pub normalized_behind : (blocks : List (List Definition)) (h : List Definition) → normalized (blocks ++ (h ∷ [])) ≡ defined_all (normalized blocks) h
normalized_behind = normal_behind []
