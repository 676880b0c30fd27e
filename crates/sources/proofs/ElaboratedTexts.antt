-- What a table is elaborated to is the table as written with the templates that its texts are read to, given by the offsets of their fields.
use Prim.Native.Nat.{ℕ, ◌+◌}
use mathlib.Core.Path.{◌≡◌, refl, sym, ap₂, ◌∙◌}
use mathlib.Core.List.{List, [], ◌∷◌, ◌++◌, append-nil, append_assoc}
use native.Mathlib.Omega.{arith}
use Rattle.grammar.specs.Sorts.{Signature}
use Rattle.grammar.specs.Table.{Template, variable, Alternative, Definition, Table}
use Rattle.grammar.specs.Values.{head_value}
use Rattle.grammar.specs.Written.{WrittenResult, WrittenAlternative, WrittenDefinition, Written, with_alternatives}
use Rattle.judgements.specs.Scopes.{Scope}
use Rattle.judgements.specs.Sizes.{field_size, items_size, alternative_size, definition_size, definitions_size}
use Rattle.texts.specs.Reading.{TextRead}
use Rattle.elaboration.specs.Contexts.{Before}
use Rattle.elaboration.specs.Elaboration.{ResultSorted, by_template, by_text, Bodies, no_alternative, by_choice, Ok, ok_empty, ok_definition}
use Rattle.elaboration.specs.Elaboration.{Sequence, no_grammar, by_grammar, Elaborates}
use Rattle.sources.specs.GivenTexts.{result_with, alternatives_with, definitions_with, blocks_with, first_block}
use Rattle.sources.proofs.GivenBlocks.{alternatives_alike, definitions_alike, blocks_alike, spliced, spliced_before, spliced_behind}

-- no text
abbrev nowhere : ℕ → Template
nowhere k = variable 0

module _ {G : Scope} {P : Before} where
  result_given : {L : List ℕ} {B used : ℕ} {result : WrittenResult} {made : TextRead} → ResultSorted G P L B used result made
      → (given : ℕ → Template) (at : ℕ) → made.template ≡ given at → made.template ≡ result_with given at result
  result_given (by_template s f) given at e = refl
  result_given (by_text n p d l c r f) given at e = e

  -- Alternatives that stand at an offset are elaborated to those with some given templates,
  pub bodies_given : {S : Signature} {choices : List WrittenAlternative} {others : List Alternative} {used used' : ℕ}
      → Bodies G P S used choices others used' → (at : ℕ) → (given : ℕ → Template) × (others ≡ alternatives_with given at choices)
  unfolding alternatives_with alternative_size
  bodies_given no_alternative at = (nowhere, refl)
  bodies_given (by_choice {a = a} {rest = rest} {r = r} n result bs) at =
      let behind : ℕ = at + alternative_size a in
      let (later, made) = bodies_given bs behind in
      let own : ℕ → Template = λ k. r.template in
      let place : ℕ = at + 3 + items_size a.items in (
        spliced behind own later,
        ap₂ (λ (t : Template) (alternatives : List Alternative). record { items = a.items; result = t } ∷ alternatives)
            (result_given result (spliced behind own later) place (spliced_before behind own later place (omega arith)))
            (made ∙ alternatives_alike later (spliced behind own later) rest behind (λ k l u. spliced_behind behind own later k l)),
      )

  -- and so are the definitions of a block.
  pub block_given : {ds : List WrittenDefinition} {es : List Definition} {used used' : ℕ} → Ok G P used ds es used' → (at : ℕ)
      → (given : ℕ → Template) × (es ≡ definitions_with given at ds)
  unfolding definitions_with definition_size
  block_given ok_empty at = (nowhere, refl)
  block_given (ok_definition {d = d} {ds = ds} b o) at =
      let behind : ℕ = at + definition_size d in
      let (own, choices-made) = bodies_given b (at + field_size (head_value d)) in
      let (later, made) = block_given o behind in (
        spliced behind own later,
        ap₂ (λ (choices : List Alternative) (definitions : List Definition). with_alternatives d choices ∷ definitions)
            (choices-made
            ∙ alternatives_alike own (spliced behind own later) d.alternatives (at + field_size (head_value d))
            (λ k l u. spliced_before behind own later k (omega (arith, u))))
            (made ∙ definitions_alike later (spliced behind own later) ds behind (λ k l u. spliced_behind behind own later k l)),
      )

-- Blocks that stand at an offset are laid behind those before with some given templates.
pub blocks_given : {P P' : Before} {gs : List (List WrittenDefinition)} → Sequence P gs P' → (at : ℕ)
    → (given : ℕ → Template) × (P'.blocks ≡ P.blocks ++ blocks_with given at gs)
unfolding blocks_with
blocks_given (no_grammar {P = P}) at = (nowhere, sym (append-nil P.blocks))
blocks_given (by_grammar {P = P} {g = g} {h = h} {gs = gs} d o s) at =
    let behind : ℕ = at + 3 + definitions_size g in
    let (own, block_made) = block_given o (at + 3) in
    let (later, made) = blocks_given s behind in (
      spliced behind own later,
      made
          ∙ append_assoc P.blocks (h ∷ []) (blocks_with later behind gs)
          ∙ ap₂ (λ (block : List Definition) (blocks : List (List Definition)). P.blocks ++ (block ∷ blocks))
          (block_made ∙ definitions_alike own (spliced behind own later) g (at + 3) (λ k l u. spliced_before behind own later k (omega (arith, u))))
          (blocks_alike later (spliced behind own later) gs behind (λ k l u. spliced_behind behind own later k l)),
    )

-- The blocks of an elaborated table, also of one with texts, are those written, with a template for each text by the offset of its field.
pub elaborated_given : {table : Written} {made : Table} → Elaborates table made
    → (given : ℕ → Template) × (made.blocks ≡ blocks_with given (first_block table) table.blocks)
elaborated_given {table} e = let (given, same) = blocks_given e.sequence (first_block table) in (given, e.same_blocks ∙ same)
