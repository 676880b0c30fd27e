-- Each production of a table, also of one with texts, goes on where it begins, if the template that is held for each text hangs together.
use Prim.Native.Nat.{ℕ, ◌+◌}
use mathlib.Core.Path.{◌≡◌, refl, sym, ap, subst, ◌∙◌}
use mathlib.Core.Bool.{true, ◌&&◌}
use mathlib.Core.Logic.{inl, inr}
use mathlib.Core.List.{List, [], ◌∷◌, ◌++◌}
use native.Mathlib.Omega.{arith}
use lib.Dec.{eqb, leb}
use lib.ListN.{length, get_or, take, drop}
use borrow.Author.Tests.{le-leb, eqb-true}
use Rattle.spellings.proofs.BytesLaws.{by_test}
use Rattle.grammar.specs.Table.{Item}
use Rattle.grammar.specs.Values.{Field, field, templates_then, item_value, head_value}
use Rattle.grammar.specs.Written.{WrittenResult, template, text, WrittenAlternative, WrittenDefinition, Written, result_field}
use Rattle.grammar.specs.Encode.{field_bytes, spellings_then, items_then, alternatives_then, definitions_then, blocks_then, encode}
use Rattle.grammar.specs.Fields.{RawFields, end, cut, next, fields_of}
use Rattle.decoding.specs.Prefix.{templates_of, is_templates, is_template}
use Rattle.decoding.specs.Decode.{mode_of}
use Rattle.decoding.specs.Within.{Each, each_none, each_more, ItemWithin, terminal_within, local_within, call_within, keyword_within, ide_within, number_within}
use Rattle.decoding.proofs.Split.{spread, fields_of_bytes}
use Rattle.decoding.proofs.Templates.{read_template, read_templates}
use Rattle.productions.specs.Index.{Place, places_by, places_of}
use Rattle.productions.proofs.Places.{Stands, stands, each_kept, each_snoc}
use Rattle.judgements.specs.Sizes.{blocks_size}
use Rattle.elaboration.proofs.Ranges.{ResultFine, template_fine, text_fine, AlternativeFine, DefinitionFine, TableFine}
use Rattle.steps.specs.HeldTexts.{TextHangs}
use Rattle.steps.specs.Source.{Source, Complete, GoesOn}
use Rattle.steps.proofs.SourceLaws.{goes_on}
use Rattle.sources.specs.GivenTexts.{first_block, AtTexts}
use Rattle.sources.proofs.FrontBytes.{front_then, root_field, whole_bytes, bytes_before}

-- behind each field 05 stands what is left of an alternative
abbrev Begins : List ℕ → RawFields → Type 0
Begins texts (end at) = Unit {0}
Begins texts (cut at) = Unit {0}
Begins texts (next at tag v fs) = (tag ≡ 5 → Complete texts fs) × Begins texts fs

-- ------------------------------------------------------------------ places

places_begun : (S : Source) (fs : RawFields) → Stands S.bytes fs → Begins S.texts fs → (nonterminal : ℕ) (ps : List Place)
    → Each (λ (p : Place). GoesOn S p.start) ps → Each (λ (p : Place). GoesOn S p.start) (places_by fs nonterminal ps)
unfolding places_by
places_begun S (end at) stand begins nonterminal ps each = each
places_begun S (cut at) stand begins nonterminal ps each = each
places_begun S (next at tag v fs) stand begins nonterminal ps each =
    let rest = places_begun S fs stand.2 begins.1 in
    by_test (eqb tag 4) (λ e. rw (e, places_by) (rest (get_or v 0 0) _ (each_kept (mode_of (get_or v 1 0)) (get_or v 0 0) ps each)))
    (λ e. by_test (eqb tag 5)
    (λ f. rw (e, f, places_by)
    (rest nonterminal _
    (each_snoc each (goes_on S (at + 3 + length v) (subst (Complete S.texts) (sym stand.1) (begins.0 (eqb-true tag 5 f)))))))
    (λ f. rw (e, f, places_by) (rest nonterminal ps each)))

-- ------------------------------------------------------------------ the fields of a table

item_complete : {i : Item} → ItemWithin i → (leb 2 (length (item_value i)) && is_templates (templates_of (drop 2 (item_value i)))) ≡ true
unfolding item_value templates_of
item_complete (terminal_within (keyword_within h)) = refl
item_complete (terminal_within (ide_within h l)) = refl
item_complete (terminal_within number_within) = refl
item_complete local_within = refl
item_complete (call_within {n} {ts} h w) =
    rw (le-leb 2 (length (4 ∷ n ∷ templates_then ts [])) (omega arith)) (ap is_templates (read_templates w))

module _ (texts : List ℕ) where
  -- so it is with some fields whose texts hang together
  abbrev Begun : List Field → Type 0
  Begun fs = (at : ℕ) → AtTexts (TextHangs texts) (spread at fs) → Begins texts (spread at fs)

  body_complete : {is : List Item} {result : WrittenResult} → Each ItemWithin is → ResultFine result → (follow : List Field) (at : ℕ)
      → AtTexts (TextHangs texts) (spread at (items_then is (result_field result ∷ follow)))
      → Complete texts (spread at (items_then is (result_field result ∷ follow)))
  unfolding Complete spread items_then
  body_complete each_none (template_fine w) follow at h = inl (refl, ap is_template (read_template w))
  body_complete each_none (text_fine l) follow at h = inr (refl, h.0 refl)
  body_complete (each_more {x = i} w ws) fine follow at h = (item_complete w, body_complete ws fine follow (at + (3 + length (item_value i))) h.1)

  other_begun : (tag : ℕ) (v : List ℕ) (follow : List Field) → (tag ≡ 5 → ⊥) → Begun follow → Begun (field tag v ∷ follow)
  unfolding spread
  other_begun tag v follow other goes at h = (λ e. absurd (other e), goes (at + (3 + length v)) h.1)

  spellings_begun : (tag : ℕ) → (tag ≡ 5 → ⊥) → (ss : List (List ℕ)) (follow : List Field) → Begun follow → Begun (spellings_then tag ss follow)
  unfolding spellings_then
  spellings_begun tag other [] follow goes = goes
  spellings_begun tag other (s ∷ ss) follow goes = other_begun tag s (spellings_then tag ss follow) other (spellings_begun tag other ss follow goes)

  items_begun : (is : List Item) (follow : List Field) → Begun follow → Begun (items_then is follow)
  unfolding items_then
  items_begun [] follow goes = goes
  items_begun (i ∷ is) follow goes = other_begun 6 (item_value i) (items_then is follow) (λ e. omega (arith, e)) (items_begun is follow goes)

  result_begun : (result : WrittenResult) (follow : List Field) → Begun follow → Begun (result_field result ∷ follow)
  result_begun (template t) follow goes = other_begun 7 _ follow (λ e. omega (arith, e)) goes
  result_begun (text n bs) follow goes = other_begun 9 _ follow (λ e. omega (arith, e)) goes

  alternatives_begun : {choices : List WrittenAlternative} → Each AlternativeFine choices → (follow : List Field) → Begun follow
      → Begun (alternatives_then choices follow)
  unfolding alternatives_then spread
  alternatives_begun each_none follow goes at h = goes at h
  alternatives_begun (each_more {x = a} {xs = rest} w ws) follow goes at h =
      let behind : List Field = alternatives_then rest follow in (
        λ e. body_complete w.items w.result behind (at + 3) h.1,
        items_begun a.items (result_field a.result ∷ behind) (result_begun a.result behind (alternatives_begun ws follow goes)) (at + 3) h.1,
      )

  definitions_begun : {ds : List WrittenDefinition} → Each DefinitionFine ds → (follow : List Field) → Begun follow → Begun (definitions_then ds follow)
  unfolding definitions_then
  definitions_begun each_none follow goes = goes
  definitions_begun (each_more {x = d} {xs = ds} w ws) follow goes =
      other_begun 4 (head_value d) (alternatives_then d.alternatives (definitions_then ds follow)) (λ e. omega (arith, e))
      (alternatives_begun w.alternatives (definitions_then ds follow) (definitions_begun ws follow goes))

  blocks_begun : {bs : List (List WrittenDefinition)} → Each (Each DefinitionFine) bs → (follow : List Field) → Begun follow → Begun (blocks_then bs follow)
  unfolding blocks_then
  blocks_begun each_none follow goes = goes
  blocks_begun (each_more {x = b} {xs = bs} w ws) follow goes =
      other_begun 3 [] (definitions_then b (blocks_then bs follow)) (λ e. omega (arith, e))
      (definitions_begun w (blocks_then bs follow) (blocks_begun ws follow goes))

  front_begun : (table : Written) {blocks : List (List WrittenDefinition)} → Each (Each DefinitionFine) blocks → (follow : List Field) → Begun follow
      → Begun (front_then table blocks follow)
  front_begun table {blocks} fine follow goes =
      let behind : List Field = blocks_then blocks follow in
      spellings_begun 1 (λ e. omega (arith, e)) table.keywords (spellings_then 2 table.outsides behind)
      (spellings_begun 2 (λ e. omega (arith, e)) table.outsides behind (blocks_begun fine follow goes))

module _ (S : Source) (table : Written) (hang : AtTexts (TextHangs S.texts) (fields_of S.bytes)) where
  front_goes_on : {blocks : List (List WrittenDefinition)} → Each (Each DefinitionFine) blocks → (follow : List Field) → Begun S.texts follow
      → S.bytes ≡ field_bytes (front_then table blocks follow) → Each (λ (p : Place). GoesOn S p.start) (places_of S.bytes)
  front_goes_on {blocks} fine follow goes bytes =
      let split : fields_of S.bytes ≡ spread 0 (front_then table blocks follow) = ap fields_of bytes ∙ fields_of_bytes (front_then table blocks follow) in
      let begins = front_begun S.texts table fine follow goes 0 (subst (AtTexts (TextHangs S.texts)) split hang) in
      places_begun S (fields_of S.bytes) (stands S.bytes) (subst (Begins S.texts) (sym split) begins) 0 [] each_none

  -- Each production of a source goes on where it begins, if its bytes are those of a table and what it holds for each text hangs together,
  pub places_go_on : TableFine table → S.bytes ≡ encode table → Each (λ (p : Place). GoesOn S p.start) (places_of S.bytes)
  unfolding spread
  places_go_on fine encoded =
      front_goes_on fine.blocks (root_field table) (other_begun S.texts 8 (table.root ∷ []) [] (λ e. omega (arith, e)) (λ at h. tt))
      (encoded ∙ whole_bytes table)

  -- and if they are those of a table up to a block.
  pub places_before : (before others : List (List WrittenDefinition)) → table.blocks ≡ before ++ others → Each (Each DefinitionFine) before
      → S.bytes ≡ take (first_block table + blocks_size before) (encode table) → Each (λ (p : Place). GoesOn S p.start) (places_of S.bytes)
  unfolding spread
  places_before before others whole fine encoded = front_goes_on fine [] (λ at h. tt) (encoded ∙ bytes_before table before others whole)
