-- What an expansion means: the run of expansion/specs/Expansion is the parse by the rules of expansion/specs/Figure3, at the cost of
-- expansion/specs/Costs, and stops where specs/Stopping says. This holds of every table that passes, all tokens of a formula's
-- kinds whose words have numbers that a name can hold, and all rows and cells.
use Prim.Native.Nat.{ℕ, ◌*◌, ◌≤◌, ◌<◌}
use mathlib.Core.Path.{◌≡◌, refl, subst}
use mathlib.Core.Logic.{◌↔◌}
use mathlib.Core.Bool.{true}
use mathlib.Core.List.{List, [], ◌∷◌}
use native.Mathlib.Omega.{arith}
use lib.ListN.{length}
use Rattle.answers.specs.declared.Refusal.{Refusal}
use Rattle.answers.specs.Checked.{ok}
use Rattle.spellings.specs.Bytes.{is_word}
use Rattle.kinds.specs.Kinds.{word_kind}
use Rattle.grammar.specs.Table.{Lexicon, Template, Templates, none, Item, call, Table}
use Rattle.terms.specs.Cells.{columns}
use Rattle.decoding.specs.Within.{Each, Among}
use Rattle.tokens.specs.declared.Token.{Token}
use Rattle.tokens.specs.Scan.{scan}
use Rattle.clashes.specs.CheckFirsts.{check_firsts}
use Rattle.clashes.proofs.ClashTheorems.{passes_exactly}
use Rattle.grammar.specs.Sorts.{Signature}
use Rattle.grammar.specs.Sorts as Sorts
use Rattle.judgements.specs.Judgements.{Newest, ItemSorted, Body}
use Rattle.elaboration.specs.Elaboration.{scope_of}
use Rattle.judgements.specs.Judgements as Judgements
use Rattle.checker.specs.Passes.{grammar_of}
use Rattle.terms.specs.Term.{Name, Term}
use Rattle.terms.specs.Rows.{term_at}
use Rattle.terms.specs.Occurrences.{is_worded}
use Rattle.expansion.specs.declared.State.{State}
use Rattle.expansion.specs.Run.{Result, done, halt}
use Rattle.productions.specs.Normal.{Production}
use Rattle.firsts.specs.Rules.{Of}
use Rattle.expansion.specs.Figure3.{Value, term, Gives, GiveAll, give_none, Derives, by_end, by_terminal, by_call, Parses}
use Rattle.expansion.specs.Figure3 as Figure3
use Rattle.expansion.specs.ValueSorts.{Typed, typed_term, Matches, matches-none}
use Rattle.expansion.specs.Costs.{rows_in, Affords}
use Rattle.soundness.specs.Stopping.{Left, Refuses}
use Rattle.soundness.specs.Places.{given_in, Supplied, Placed}
use Rattle.expansion.specs.Parsing.{Runs, SmallWords}
use Rattle.expansion.proofs.Unique.{parses_one}
use Rattle.soundness.specs.Passing.{Passing, Lexemes}
use Rattle.soundness.proofs.Typing.{give_all_exist, items_typed, items_give, body_of, taken_of}
use Rattle.soundness.proofs.RowsMade.{Leaves, run_leaves_rows}
use Rattle.soundness.proofs.Setting.{Setting}
use Rattle.soundness.proofs.Normalizing.{table_fits}
use Rattle.soundness.proofs.Defined.{called_is_defined}
use Rattle.soundness.proofs.Sound.{run_sound}
use Rattle.soundness.proofs.Complete.{accepts, accepted}
use Rattle.soundness.proofs.StopSound.{run_halts}
use Rattle.soundness.proofs.StopComplete.{refuses_halts}
use Rattle.soundness.proofs.Placing.{parses_placed, parses_supplied, placed_worded}
use Rattle.soundness.proofs.Scanned.{scanned_small}

-- The words of a scan have numbers that a name can hold.
pub scanned_is_small : (lex : Lexicon) → length lex.outsides ≤ 64 → (formula : List ℕ) → SmallWords (scan lex formula).tokens
scanned_is_small = scanned_small

module _ (table : Table) (passing : Passing table) where
  -- A passing table has neither 12 nor 13.
  pub firsts_passed : check_firsts (grammar_of table) ≡ ok tt
  firsts_passed = (passes_exactly (grammar_of table)).1 (passing.meets.not_left_recursive, passing.meets.without_clash)

  -- ------------------------------------------------------------------ sorts

  -- Parsing respects typing (001, Theorem 1): under variables of their sorts, an alternative of sort B derives a value of sort B.
  pub parsing_respects_typing : {spell : ℕ → List ℕ} {M M' : List Value} {s s' : List Token} {i i' B : ℕ} {items : List Item}
      {result : Template} {L : List ℕ} {value : Value}
      → Body (scope_of passing.meets.elaborates) L items result B
      → Matches M L
      → Derives (grammar_of table) spell M s i items s' i' M'
      → Gives spell M' result value
      → Typed value B
  parsing_respects_typing b m d k = items_typed (table_fits passing.within passing.meets.elaborates) d m b k

  -- Behind items that are derived, the template of a well sorted alternative gives a value of its sort: never `wrong` (001, Theorem 1).
  pub never_wrong : {spell : ℕ → List ℕ} {M M' : List Value} {s s' : List Token} {i i' B : ℕ} {items : List Item} {result : Template} {L : List ℕ}
      → Body (scope_of passing.meets.elaborates) L items result B
      → Matches M L
      → Derives (grammar_of table) spell M s i items s' i' M'
      → (value : Value) × Gives spell M' result value × Typed value B
  never_wrong b m d = items_give (table_fits passing.within passing.meets.elaborates) d m b

  -- The productions of a normalized table are well sorted (001, section 4.2), each by the signature of its nonterminal.
  pub productions_sorted : {n : ℕ} {p : Production} → Of (grammar_of table) n p
      → (S : Signature) × Newest passing.meets.elaborates.last.env n S
      × Body (scope_of passing.meets.elaborates) S.params p.items p.result S.result
  productions_sorted {n} {p} o =
      let fit = (table_fits passing.within passing.meets.elaborates).each p o.member in
      let newest : Newest passing.meets.elaborates.last.env n fit.signature = rw (← o.owned) fit.newest in
      (fit.signature, newest, fit.body)

  -- Whatever a call of the root derives is a term (001, Corollary 1).
  pub root_derives_term : {spell : ℕ → List ℕ} {M : List Value} {s s' : List Token} {i i' : ℕ}
      → Derives (grammar_of table) spell [] s i (call table.root none ∷ []) s' i' M
      → (meant : Term Name) × (M ≡ term meant ∷ [])
  root_derives_term (by_call {v = v} give_none k d g by_end) =
      let F = table_fits passing.within passing.meets.elaborates in
      let matched : Matches [] passing.meets.elaborates.signature.params = rw passing.meets.elaborates.without matches-none in
      go v (subst (Typed v) passing.meets.elaborates.of_term (items_typed F d matched (body_of F (taken_of k) passing.meets.elaborates.defined) g))
    where
      go : (value : Value) → Typed value Sorts.term → (meant : Term Name) × (◌≡◌ {A = List Value} (value ∷ []) (term meant ∷ []))
      go (term u) typed_term = (u, refl)
      go Figure3.unit x = elim x [ ]
      go (Figure3.var _) x = elim x [ ]
      go (Figure3.binder _) x = elim x [ ]
      go (Figure3.label _) x = elim x [ ]
      go (Figure3.num _) x = elim x [ ]
      go (Figure3.fields _) x = elim x [ ]
  root_derives_term (by_terminal x _) = elim x [ ]

  -- A well sorted call, under variables of their sorts, has values for its arguments and a production of its nonterminal: it is never `wrong`.
  pub call_never_wrong : (spell : ℕ → List ℕ) {M : List Value} {L : List ℕ} {nonterminal A : ℕ} (ts : Templates) → Matches M L
      → ItemSorted (scope_of passing.meets.elaborates) L (call nonterminal ts) A
      → ((vs : List Value) × GiveAll spell M ts vs) × ((p : Production) × Of (grammar_of table) nonterminal p)
  call_never_wrong spell ts m (Judgements.by_call w f) =
      let k = give_all_exist spell m ts f in ((k.0, k.1), called_is_defined passing.within passing.meets.elaborates (Judgements.by_call w f))

  -- ------------------------------------------------------------------ readings

  module _ (lexemes : Lexemes) where
    -- Figure 3 derives the term from the table's root over all the tokens.
    abbrev pub ParsesAs : Term Name → Type 0
    ParsesAs u = Parses (grammar_of table) lexemes.spell table.root lexemes.tokens u

    -- A formula has one reading at most: two derivations from the root give the same term.
    pub derived_once : {first second : Term Name} → ParsesAs first → ParsesAs second → first ≡ second
    derived_once P Q = parses_one firsts_passed P Q

    -- Each place of a derived term holds what its sort asks for (01, "Whose name is whose").
    pub derived_is_placed : {meant : Term Name} (parses_as : ParsesAs meant) → Placed (given_in parses_as.derived) lexemes.spell meant
    derived_is_placed parses_as = parses_placed parses_as

    abbrev setting : ℕ → Setting (grammar_of table)
    setting rows =
        record {
          fit = table_fits passing.within passing.meets.elaborates;
          passed = firsts_passed;
          spell = lexemes.spell;
          tokens = lexemes.tokens;
          rows = rows;
          small = lexemes.small;
          formula = lexemes.formula;
          root = table.root;
          root_small = omega (arith, passing.within.root, passing.meets.elaborates.same_root);
          signature = passing.meets.elaborates.signature;
          defined = passing.meets.elaborates.defined;
          without = passing.meets.elaborates.without;
          of_term = passing.meets.elaborates.of_term;
        }

    -- What was given in its derivation is a token of the formula or one of the table's outside names.
    pub derived_is_supplied : {meant : Term Name} (parses_as : ParsesAs meant)
        → Each (Supplied lexemes.tokens (length table.outsides)) (given_in parses_as.derived)
    derived_is_supplied parses_as = rw passing.meets.elaborates.same_outsides (parses_supplied (setting 0) parses_as)

    -- So a derived term has only words for names and labels, if those of the formula and of the table are words.
    pub derived_is_worded : ((token : Token) → Among lexemes.tokens token → token.kind ≡ word_kind → is_word (lexemes.spell token.value) ≡ true)
        → ((number : ℕ) → number < length table.outsides → is_word (lexemes.spell number) ≡ true)
        → {derived : Term Name} → ParsesAs derived → is_worded derived ≡ true
    derived_is_worded words outsides P = placed_worded lexemes.spell (derived_is_supplied P) words outsides (derived_is_placed P)

    -- ------------------------------------------------------------------ runs and parses

    module _ (rows : ℕ) (cells : List ℕ) (room : rows * columns ≤ length cells) where
      -- An expansion over these rows and cells ends so.
      abbrev pub Answers : Result ℕ → Type 0
      Answers x = Runs (grammar_of table) table.root lexemes.tokens rows cells x

      -- What is accepted is derived: Figure 3 parses the whole formula as the term that the cells at exit show at the row given.
      pub accepted_is_derived : (row : ℕ) (state : State) (cells' : List ℕ) → Answers (done row state cells')
          → ParsesAs (term_at state.made lexemes.spell cells' row)
      accepted_is_derived = run_sound (setting rows) cells room

      -- A term is accepted exactly if it is derived within the limits.
      pub accepted_exactly : (meant : Term Name)
          → ((row : ℕ) × (state : State) × (cells' : List ℕ) × Answers (done row state cells') × (term_at state.made lexemes.spell cells' row ≡ meant))
          ↔ ((parses_as : ParsesAs meant) × Affords rows 0 0 0 parses_as.derived)
      accepted_exactly meant = (
        λ a.
            let P : ParsesAs meant = subst ParsesAs a.4 (accepted_is_derived a.0 a.1 a.2 a.3) in
            (P, (accepts (setting rows) P cells room a.0 a.1 a.2 a.3).affords),
        λ d.
            let b = accepted (setting rows) d.0 cells room d.1 in
            (b.0, b.1, b.2, b.3, (accepts (setting rows) d.0 cells room b.0 b.1 b.2 b.3).term_is),
      )

      -- Accepted beside a derivation, the cells show the term derived, and the state has counted the derivation's cells.
      pub accepted_as_derived : {meant : Term Name} (parses_as : ParsesAs meant) (row : ℕ) (state : State) (cells' : List ℕ) → Answers (done row state cells')
          → (term_at state.made lexemes.spell cells' row ≡ meant) × (state.made ≡ rows_in parses_as.derived)
      accepted_as_derived parses_as row state cells' e = let a = accepts (setting rows) parses_as cells room row state cells' e in (a.term_is, a.made_are)

      -- The term of an accepted expansion lies in the rows that it made, which are no more than there are.
      pub accepted_leaves : {row : ℕ} {state : State} {cells' : List ℕ} → Answers (done row state cells') → Leaves (setting rows) cells row state cells'
      accepted_leaves = run_leaves_rows (setting rows) cells room

      -- The rules stop with a refusal after so many cells were made.
      abbrev pub Refused : Refusal → ℕ → Type 0
      Refused refusal made = Refuses (grammar_of table) lexemes.spell rows lexemes.tokens table.root refusal made

      -- An expansion halts with a refusal exactly if the rules stop with it: the number, and all its values.
      pub refused_exactly : (refusal : Refusal) → ((cells' : List ℕ) × Answers (halt refusal cells')) ↔ ((made : ℕ) × Refused refusal made)
      refused_exactly refusal = (
        λ a.
            rw a.1 at (run_halts (setting rows) cells room),
        λ h. let halts = refuses_halts (setting rows) h.1 cells room in (halts.cells', halts.is),
      )

      -- It leaves the cells behind those that were made by then.
      pub refused_leaves : {refusal : Refusal} {made : ℕ} → Refused refusal made
          → (cells' : List ℕ) × Answers (halt refusal cells') × Left made cells cells'
      refused_leaves h = let halts = refuses_halts (setting rows) h cells room in (halts.cells', halts.is, halts.left)
