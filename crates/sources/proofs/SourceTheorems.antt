-- What a run reads from a table's bytes and from where its texts are held is the grammar of the table that it is elaborated to.
use Prim.Native.Nat.{ℕ, ◌+◌}
use mathlib.Core.Path.{◌≡◌, refl, sym, ap, subst, ◌∙◌}
use mathlib.Core.List.{List, [], ◌++◌}
use lib.ListN.{take}
use Rattle.grammar.specs.Table.{Template, Definition, Table}
use Rattle.grammar.specs.Values.{Field}
use Rattle.grammar.specs.Written.{WrittenDefinition, Written}
use Rattle.grammar.specs.Encode.{field_bytes, encode}
use Rattle.grammar.specs.Fields.{RawFields, fields_of}
use Rattle.decoding.specs.Within.{Each}
use Rattle.decoding.proofs.Split.{spread, fields_of_bytes}
use Rattle.productions.specs.Index.{result_of}
use Rattle.productions.specs.Normal.{Production, normalized}
use Rattle.judgements.specs.Sizes.{blocks_size}
use Rattle.elaboration.specs.Elaboration.{Elaborates}
use Rattle.elaboration.proofs.Ranges.{DefinitionFine, TableFine}
use Rattle.steps.specs.HeldTexts.{text_at}
use Rattle.steps.specs.Source.{Source, result_in, alternative_at, productions_from}
use Rattle.sources.specs.GivenTexts.{blocks_with, first_block, ReadsResults, AtTexts, productions_read, normalized_with, TextsHeld}
use Rattle.sources.proofs.ElaboratedTexts.{elaborated_given}
use Rattle.sources.proofs.FrontBytes.{front_then, root_field, whole_bytes, bytes_before}
use Rattle.sources.proofs.Productions.{productions_walked}
use Rattle.sources.proofs.Walked.{front_walked}
use Rattle.sources.proofs.TextOffsets.{front_same}

-- fields that have no production
abbrev Bare : (RawFields → Template) → List Field → Type 0
Bare results follow = (at nonterminal : ℕ) (g : List Production) → normalized_with results (spread at follow) nonterminal g ≡ g

none_bare : (results : RawFields → Template) → Bare results []
unfolding spread normalized_with
none_bare results at nonterminal g = refl

root_bare : (results : RawFields → Template) (table : Written) → Bare results (root_field table)
unfolding spread normalized_with
root_bare results table at nonterminal g = refl

front_given : {results : RawFields → Template} {given : ℕ → Template} → ReadsResults results given → (table : Written) {blocks : List (List WrittenDefinition)}
    → Each (Each DefinitionFine) blocks → (follow : List Field) → Bare results follow
    → productions_read results (field_bytes (front_then table blocks follow)) ≡ normalized (blocks_with given (first_block table) blocks)
front_given {results} reads table {blocks} fine follow bare =
    productions_walked results (field_bytes (front_then table blocks follow))
    ∙ ap (λ (fs : RawFields). normalized_with results fs 0 []) (fields_of_bytes (front_then table blocks follow))
    ∙ front_walked reads table fine follow bare

-- The productions of a table's bytes, with a template given for each text, are those of its blocks with these.
pub productions_given : {results : RawFields → Template} {given : ℕ → Template} → ReadsResults results given → (table : Written) → TableFine table
    → productions_read results (encode table) ≡ normalized (blocks_with given (first_block table) table.blocks)
productions_given {results} reads table fine =
    ap (productions_read results) (whole_bytes table) ∙ front_given reads table fine.blocks (root_field table) (root_bare results table)

-- ------------------------------------------------------------------ the source of a run

-- A source reads of a field 07 the template of its bytes, of a field 09 the one that is held for its offset.
pub reads_held : (texts : List ℕ) → ReadsResults (result_in texts) (text_at texts)
unfolding result_in result_of
reads_held texts = record { behind_item = λ at v fs. refl; of_template = λ at v fs. refl; of_text = λ at v fs. refl }

-- Its productions are those that stand in its bytes, with results read so.
pub productions_held : (S : Source) → productions_from S ≡ productions_read (result_in S.texts) S.bytes
unfolding alternative_at
productions_held S = refl

front_held : {S : Source} {table : Written} {blocks : List (List WrittenDefinition)} {made : List (List Definition)} → TextsHeld S table blocks made
    → Each (Each DefinitionFine) blocks → (follow : List Field) → Bare (result_in S.texts) follow → S.bytes ≡ field_bytes (front_then table blocks follow)
    → productions_from S ≡ normalized made
front_held {S} {table} {blocks} h fine follow bare bytes =
    let fields : List Field = front_then table blocks follow in
    let split : fields_of S.bytes ≡ spread 0 fields = ap fields_of bytes ∙ fields_of_bytes fields in
    let agree = subst (AtTexts (λ k. text_at S.texts k ≡ h.given k)) split h.held in
    productions_held S
    ∙ ap (productions_read (result_in S.texts)) bytes
    ∙ front_given (reads_held S.texts) table fine follow bare
    ∙ ap normalized (front_same (text_at S.texts) h.given table blocks follow agree ∙ sym h.elaborated)

-- A table whose texts are held as the templates that it is elaborated to is run as the elaborated table: the productions of its source are those of that table.
pub run_as_elaborated : {S : Source} {table : Written} {made : List (List Definition)} → TextsHeld S table table.blocks made
    → TableFine table → S.bytes ≡ encode table → productions_from S ≡ normalized made
run_as_elaborated {S} {table} h fine encoded =
    front_held h fine.blocks (root_field table) (root_bare (result_in S.texts) table) (encoded ∙ whole_bytes table)

-- the templates that the texts of an elaborated table are read to, by the offsets of their fields
abbrev pub texts_of : {table : Written} {made : Table} → Elaborates table made → ℕ → Template
texts_of e = (elaborated_given e).0

-- So it is for a table that the judgements elaborate, if these templates are held.
pub elaborated_run : (S : Source) {table : Written} {made : Table} (elaborates : Elaborates table made) → TableFine table → S.bytes ≡ encode table
    → AtTexts (λ k. text_at S.texts k ≡ texts_of elaborates k) (fields_of S.bytes) → productions_from S ≡ normalized made.blocks
elaborated_run S elaborates fine encoded held =
    run_as_elaborated (record { given = texts_of elaborates; elaborated = (elaborated_given elaborates).1; held = held }) fine encoded

-- The bytes up to a block are run as what the blocks before it are elaborated to: a text of that block is read so.
pub run_before : {S : Source} {table : Written} {before : List (List WrittenDefinition)} {made : List (List Definition)}
    → TextsHeld S table before made → (others : List (List WrittenDefinition)) → table.blocks ≡ before ++ others
    → Each (Each DefinitionFine) before → S.bytes ≡ take (first_block table + blocks_size before) (encode table) → productions_from S ≡ normalized made
run_before {S} {table} {before} h others whole fine encoded =
    front_held h fine [] (none_bare (result_in S.texts)) (encoded ∙ bytes_before table before others whole)
