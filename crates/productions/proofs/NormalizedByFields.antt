-- Normalizing field by field gives the normalized grammar of a table.
use Prim.Native.Nat.{ℕ, ◌<◌, ◌≤◌}
use mathlib.Core.Path.{◌≡◌, refl, sym, ◌∙◌, ap}
use mathlib.Core.Bool.{false}
use mathlib.Core.List.{List, [], ◌∷◌, ◌++◌, map, append_assoc, append-nil}
use native.Mathlib.Omega.{arith}
use lib.Dec.{eqb, ltb}
use lib.ListN.{length, get_or, take, get_or-eq_default}
use borrow.Author.Tests.{ne_eqb, ltb-true, ltb-false}
use Rattle.spellings.proofs.BytesLaws.{by_test}
use Rattle.grammar.specs.Written.{no_result, WrittenDefinition, Written}
use Rattle.grammar.specs.Templated.{template_of, with_template, with_templates, templated}
use Rattle.grammar.specs.Encode.{field_bytes, table_fields, encode}
use Rattle.grammar.specs.Fields.{RawFields, end, cut, next, fields_of}
use Rattle.decoding.specs.Decode.{Decoded, put, put_nothing, put_keyword, put_outside, put_block, put_definition, put_alternative, put_item, put_result, put_root}
use Rattle.decoding.specs.Decode.{decode_fields, item_of, definition_of, mode_of}
use Rattle.decoding.specs.Within.{Each, DefinitionWithin, Within}
use Rattle.decoding.proofs.Split.{fields_of_bytes}
use Rattle.decoding.proofs.Order.{up_to_eight}
use Rattle.decoding.proofs.Rebuilt.{parts_built, front_built}
use Rattle.decoding.proofs.Fronts.{front_fields, front_bytes}
use Rattle.productions.specs.Normal.{Production, productions_of, kept, defined_all, normalized_from, normalized}
use Rattle.productions.specs.Index.{items_of, result_of, normalized_by}

-- the grammar that is left when the fields begin in a definition of n, behind the productions g
abbrev behind : Decoded → ℕ → List Production → List Production
behind b n g =
    normalized_from (defined_all (g ++ productions_of n (map with_template b.alternatives)) (map with_templates b.definitions)) (templated b.blocks)

-- ------------------------------------------------------------------ one field

-- the statement of some fields, for every definition that they begin in
record Agrees (fs : RawFields) (decoded : Decoded) : Type 0 where
  items : items_of fs ≡ decoded.items
  result : result_of fs ≡ template_of decoded.result
  normal : (nonterminal : ℕ) (g : List Production) → normalized_by fs nonterminal g ≡ behind decoded nonterminal g

abbrev Step : ℕ → Type 0
Step tag = (at : ℕ) (v : List ℕ) (fs : RawFields) (b : Decoded) → Agrees fs b → Agrees (next at tag v fs) (put tag v b)

-- a tag that is none of a definition, an alternative, an item or a result
step_other : (tag : ℕ) → eqb tag 4 ≡ false → eqb tag 5 ≡ false → eqb tag 6 ≡ false → eqb tag 7 ≡ false
    → ((value : List ℕ) (decoded : Decoded) → (put tag value decoded).items ≡ [])
    → ((value : List ℕ) (decoded : Decoded) → (put tag value decoded).result ≡ no_result)
    → ((value : List ℕ) (decoded : Decoded) (nonterminal : ℕ) (g : List Production) → behind (put tag value decoded) nonterminal g
    ≡ behind decoded nonterminal g) → Step tag
unfolding items_of result_of normalized_by
step_other tag e4 e5 e6 e7 no_items no_result same at v fs b h =
    record {
      items = rw (e6, items_of) (sym (no_items v b));
      result = rw (e6, e7, result_of) (sym (ap template_of (no_result v b)));
      normal = λ n g. rw (e4, e5, normalized_by) (h.normal n g ∙ sym (same v b n g));
    }

step_definition : Step 4
unfolding items_of result_of normalized_by put defined_all definition_of productions_of
step_definition at v fs b h =
    record {
      items = refl;
      result = refl;
      normal =
          λ n g.
          rw (append-nil g) (h.normal (get_or v 0 0) (kept (mode_of (get_or v 1 0)) (get_or v 0 0) g));
    }

step_alternative : Step 5
unfolding items_of result_of normalized_by put productions_of
step_alternative at v fs b h =
    record {
      items = refl;
      result = refl;
      normal =
          λ n g.
          let one : List Production = record { nonterminal = n; items = b.items; result = template_of b.result } ∷ [] in
          rw (h.items, h.result, ← (append_assoc g one (productions_of n (map with_template b.alternatives)))) (h.normal n (g ++ one));
    }

step_item : Step 6
unfolding items_of result_of normalized_by put
step_item at v fs b h = record { items = ap (◌∷◌ (item_of v)) h.items; result = h.result; normal = h.normal }

step_result : Step 7
unfolding items_of result_of normalized_by put
step_result at v fs b h = record { items = refl; result = refl; normal = h.normal }

step_known : (tag : ℕ) → tag ≤ 8 → Step tag
unfolding put productions_of normalized_from defined_all
step_known =
    up_to_eight Step (step_other 0 refl refl refl refl (λ v b. refl) (λ v b. refl) (λ v b n g. refl))
    (step_other 1 refl refl refl refl (λ v b. refl) (λ v b. refl) (λ v b n g. refl))
    (step_other 2 refl refl refl refl (λ v b. refl) (λ v b. refl) (λ v b n g. refl))
    (step_other 3 refl refl refl refl (λ v b. refl) (λ v b. refl) (λ v b n g. refl))
    step_definition
    step_alternative
    step_item
    step_result
    (step_other 8 refl refl refl refl (λ v b. refl) (λ v b. refl) (λ v b n g. refl))

-- a tag beyond those of document 01
put_unknown : (tag : ℕ) → 8 < tag → put tag ≡ put_nothing
unfolding put
put_unknown tag h =
    get_or-eq_default
    (put_nothing
    ∷ put_keyword
    ∷ put_outside
    ∷ put_block
    ∷ put_definition
    ∷ put_alternative
    ∷ put_item
    ∷ put_result
    ∷ put_root
    ∷ [])
    put_nothing
    h

step_unknown : (tag : ℕ) → 8 < tag → Step tag
step_unknown tag h =
    let e = put_unknown tag h in
    step_other tag (ne_eqb tag 4 (λ q. omega arith)) (ne_eqb tag 5 (λ q. omega arith)) (ne_eqb tag 6 (λ q. omega arith))
    (ne_eqb tag 7 (λ q. omega arith))
    (λ v b. ap (λ f. (f v b).items) e)
    (λ v b. ap (λ f. (f v b).result) e)
    (λ v b n g. ap (λ f. behind (f v b) n g) e)

-- ------------------------------------------------------------------ all fields

agrees : (fs : RawFields) → Agrees fs (decode_fields fs)
unfolding items_of result_of normalized_by decode_fields productions_of defined_all normalized_from
agrees (end at) = record { items = refl; result = refl; normal = λ n g. sym (append-nil g) }
agrees (cut at) = record { items = refl; result = refl; normal = λ n g. sym (append-nil g) }
agrees (next at tag v fs) =
    by_test (ltb 8 tag) (λ e. step_unknown tag (ltb-true 8 tag e) at v fs (decode_fields fs) (agrees fs))
    (λ e. step_known tag (ltb-false 8 tag e) at v fs (decode_fields fs) (agrees fs))

-- The normalized grammar of a table's templates is what the fields of its encoding give in order.
pub normalized_by_lem : (table : Written) → Within table → normalized_by (fields_of (encode table)) 0 [] ≡ normalized (templated table.blocks)
unfolding encode productions_of defined_all
normalized_by_lem table w =
    (agrees (fields_of (encode table))).normal 0 []
    ∙ ap (λ b. behind b 0 []) (ap decode_fields (fields_of_bytes (table_fields table)) ∙ parts_built table 0 w)

-- That of the blocks before a block is what the fields of the table's bytes up to that block give.
pub normalized_before : (table : Written) (before others : List (List WrittenDefinition)) → table.blocks ≡ before ++ others
    → Each (Each DefinitionWithin) before
    → normalized_by (fields_of (take (length (field_bytes (front_fields table before))) (encode table))) 0 [] ≡ normalized (templated before)
unfolding productions_of defined_all
normalized_before table before others whole w =
    let front : List ℕ = field_bytes (front_fields table before) in
    ap (λ bs. normalized_by (fields_of bs) 0 []) (front_bytes table before others whole)
    ∙ (agrees (fields_of front)).normal 0 []
    ∙ ap (λ b. behind b 0 []) (ap decode_fields (fields_of_bytes (front_fields table before)) ∙ front_built table.keywords table.outsides w)
