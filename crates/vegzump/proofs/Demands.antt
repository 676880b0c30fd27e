-- What is promised of an expansion, from the bytes of a table and a formula to the answer and to all that was lent, on one page. `expand`
-- (meaning/specs/Expand) and `check` (checker/specs/Check) are what the public calls promise by equation. What their answers mean, by rules: Meaning,
-- Naming, Origins and Hygiene of meaning/specs; below them Tiling and Unscanned (tokens), Figure3 and Costs (expansion), Stopping and Places (soundness),
-- Passes (checker), Unlaid, Misplaced and Missorted (causes).
--
-- The signs, here and in the contracts of src/*.rt:
--   requires { A }, ensures { A }                a caller has to show A before the call; A holds of the answer, `result`, with whatever A says of what was lent
--   x.now,  x.old,  x.new                        the list of bytes or numbers lent as x: what is only read; what is written, as the call begins, and as it ends
--   x ≡ y,  A ↔ B,  A × B,  A ⊎ B,  ¬ A          the same value; each if the other; both; one of the two; not
--   (x : T) → A,  {x : T} → A                    A for every x of T; the second is left out where it is used.  A → B: if A, then B
--   (x : T) × A                                  some x of T of which A holds
--   λ x. e,  x.f,  h.0,  h.1                     the function of x that gives e; field f of x; the first and the second part, of A ↔ B both directions
--   data R .. where, record R .. where           R holds by one of these rules, and by no other; R holds if all of these fields do
--   [],  x ∷ xs,  xs ++ ys,  get_or xs i d       no member; x, then xs; xs, then ys; member i, counted from 0, and d where there is none
use Rattle.std.specs.Prelude.{Ok, Err}
use Prim.Native.Nat.{ℕ, ◌*◌, ◌≤◌, ◌<◌}
use mathlib.Core.Path.{◌≡◌, refl}
use mathlib.Core.Logic.{◌↔◌, ◌⊎◌}
use mathlib.Core.List.{List, [], ◌∷◌, ◌++◌}
use lib.ListN.{length, get_or, take, drop}
use Rattle.answers.specs.declared.Refusal.{Refusal}
use Rattle.answers.specs.Refusals.{accepted}
use Rattle.grammar.specs.Table.{Template, Templates, none, Item, call}
use Rattle.grammar.specs.Sorts.{Signature}
use Rattle.judgements.specs.Judgements.{Newest, ItemSorted, Body}
use Rattle.elaboration.specs.Elaboration.{scope_of}
use Rattle.tokens.specs.declared.Token.{Token}
use Rattle.tokens.specs.Unscanned.{Unscans}
use Rattle.checker.specs.Syntax.{Syntax, syntax_of}
use Rattle.checker.specs.Check.{check}
use Rattle.checker.specs.Passes.{Passes}
use Rattle.checker.proofs.TableTheorems as checks
use Rattle.causes.specs.Unlaid.{RefusesTable, NotPassed}
use Rattle.causes.proofs.CauseTheorems as causes
use Rattle.productions.specs.Normal.{Production}
use Rattle.firsts.specs.Rules.{Of}
use Rattle.expansion.specs.Figure3.{Value, term, Gives, GiveAll, Derives}
use Rattle.expansion.specs.ValueSorts.{Typed, Matches}
use Rattle.soundness.specs.Passing.{passing_of}
use Rattle.soundness.specs.Stopping.{Refuses, Left}
use Rattle.soundness.proofs.ExpansionTheorems as expansion
use Rattle.terms.specs.Term.{Name, Term}
use Rattle.terms.specs.Cells.{columns, column, rows_lent}
use Rattle.terms.specs.Rows.{term_at}
use Rattle.terms.specs.Print.{print}
use Rattle.meaning.specs.Expand.{Expanded, expanded, expand_table, expand_by, expand}
use Rattle.meaning.specs.Naming.{Named}
use Rattle.meaning.specs.Each.{written}
use Rattle.meaning.specs.Meaning.{Scans, spell_of, Means, MeansWithin, cells_of, Cause, Accepts}
use Rattle.meaning.specs.Hygiene.{Demand3}
use Rattle.meaning.proofs.Stages.{expand_refused, expand_passed, means_one}
use Rattle.meaning.proofs.Exactly as exactly
use Rattle.meaning.proofs.Lent as lent
use Rattle.meaning.proofs.Hygiene as hygiene
use Rattle.vegzump.proofs.Refusing.{call_refuses}

-- `Passes table` (checker/specs/Passes): the bytes are the encoding of a table within document 01's counts, spellings and ranges that is well sorted by
-- the judgements of 001, which elaborate it to `passes.table`, and this has no left recursion, and of no nonterminal two alternatives that share an opening
-- or are both nullable. Statements on bytes ask that there are bytes; a table lent to a call has no other entries, so that the promises of the calls ask
-- nothing.
module _ (table : List ℕ) (bytes : (at : ℕ) → get_or table at 0 < 256) where
  -- The check passes a table exactly if it passes by the rules: the third promise of `check_table`.
  pub check_exactly : (check table ≡ Ok tt) ↔ Passes table
  check_exactly = checks.check_exactly table bytes

  -- It gives a refusal exactly if the rules of 1 to 13 do: the fourth promise of `check_table`.
  pub check_refused_exactly : (refusal : Refusal) → (check table ≡ Err refusal) ↔ RefusesTable table refusal
  check_refused_exactly = causes.refused_exactly table bytes

  -- A table passes, or is refused by these rules,
  pub passes_or_refuses : Passes table ⊎ ((refusal : Refusal) × RefusesTable table refusal)
  passes_or_refuses = causes.passes_or_refuses table bytes

  -- and by one of them at most.
  pub refused_once : (refusal other : Refusal) → RefusesTable table refusal → RefusesTable table other → refusal ≡ other
  refused_once = causes.refused_once table bytes

-- Every table, formula, cells and text, whatever `write` gives of a term to be written: `text_of`, its text, for `expand`; other calls write what document 02
-- puts in place of the text.
module _ (write : Term Name → List ℕ) (table formula cells text : List ℕ) where
  abbrev X : Expanded
  X = expand_by write table formula cells text

  -- Demand 2: a table that its check refuses gets that refusal, and nothing that was lent changes.
  pub refused_by_check : {refusal : Refusal} → check table ≡ Err refusal → X ≡ expanded (Err refusal) cells text
  refused_by_check refused = expand_refused write table refused formula cells text

  -- So a table of bytes that does not pass gets the one refusal that the rules of 1 to 13 give: the fourth promise of `expand`.
  pub not_passed : ((at : ℕ) → get_or table at 0 < 256) → NotPassed table cells text X.answer X.cells X.text
  not_passed bytes = call_refuses table bytes write formula refl

  -- The answer, and what is written, depend on how many cells and how much text are lent, and not on what they held.
  pub lent_alike : ((at : ℕ) → get_or table at 0 < 256) → (cells' text' : List ℕ) → length cells ≡ length cells' → length text ≡ length text'
      → let Y : Expanded = expand_by write table formula cells' text' in
      (X.answer ≡ Y.answer) × (take (written X.answer) X.text ≡ take (written Y.answer) Y.text)
  lent_alike bytes cells' text' many long = let q = lent.lent_alike write formula cells cells' text text' many long table bytes in (q.answers, q.texts)

  module _ (passes : Passes table) where
    -- What an expansion needs of the table: its lexicon, its productions and its root. Its keywords, K(g) of Figure 3, are those that occur in
    -- alternatives that the root reaches by calls (document 02, C-13; the page is KeywordTheorems).
    abbrev pub syntax : Syntax
    syntax = syntax_of passes.table

    -- The expansion is that of the syntax.
    by_syntax : X ≡ expand_table write syntax formula cells text
    by_syntax = expand_passed write table passes formula cells text

    -- A refusal is given exactly in its case of document 01's table of causes, with the values listed there.
    pub refused_exactly : (refusal : Refusal) → (X.answer ≡ Err refusal) ↔ Cause write syntax formula cells text refusal
    refused_exactly = rw by_syntax (exactly.refused_exactly write passes.table (passing_of passes) formula cells text)

    -- A formula is accepted exactly if Figure 3 derives a term that `Accepts` asks for; `made`, `size`, `bytes`: its cells, constructors, bytes.
    pub accepted_exactly : (made size bytes : ℕ)
        → (X.answer ≡ accepted made size bytes) ↔ ((meant : Term Name) × Accepts write syntax formula cells text meant made size bytes)
    accepted_exactly = rw by_syntax (exactly.accepted_exactly write passes.table (passing_of passes) formula cells text)

    -- Figure 3 derives one term at most.
    pub one_term : {meant other : Term Name} → Means syntax formula meant → Means syntax formula other → meant ≡ other
    one_term = means_one passes.table (passing_of passes) formula

    -- What is written of that term stands in the text of an acceptance, with what was lent behind it.
    pub accepted_text : (made size bytes : ℕ) → X.answer ≡ accepted made size bytes → {meant : Term Name}
        → Means syntax formula meant → X.text ≡ write meant ++ drop (length (write meant)) text
    accepted_text = rw by_syntax (exactly.accepted_text write passes.table (passing_of passes) formula cells text)

    -- A row of those made shows that term, whatever the other rows held, and each row made has the code of a constructor.
    pub accepted_cells : (made size bytes : ℕ) → X.answer ≡ accepted made size bytes → {meant : Term Name} (means : Means syntax formula meant)
        → ((row : ℕ) × (row < made) × (term_at made (spell_of syntax means.words) (take (made * columns) X.cells) row ≡ meant))
        × ((row : ℕ) → row < made → (0x20 ≤ column X.cells row 0) × (column X.cells row 0 ≤ 0x27))
    accepted_cells = rw by_syntax (exactly.accepted_cells write passes.table (passing_of passes) formula cells text)

    -- 14, 15 and 16 leave the cells as they were, too.
    pub cells_kept : (refusal : Refusal) → Unscans syntax.lexicon formula refusal → X.cells ≡ cells
    cells_kept = rw by_syntax (exactly.cells_kept write passes.table (passing_of passes) formula cells text)

    -- Acceptance, 22, 23 and 24 leave the cells behind those that the term costs.
    pub cells_behind : {meant : Term Name} (means_within : MeansWithin syntax formula cells meant) → Left (cells_of means_within) cells X.cells
    cells_behind within = rw by_syntax (exactly.cells_behind write passes.table (passing_of passes) formula cells text within)

    -- 17 to 21 leave the cells behind those that are made where the rules stop.
    pub cells_left : {refusal : Refusal} {made : ℕ} {tokens : List Token} {words : List (List ℕ)} → Scans syntax formula tokens words
        → Refuses syntax.productions (spell_of syntax words) (rows_lent (length cells)) tokens syntax.root refusal made
        → Left made cells X.cells
    cells_left scans h = rw by_syntax (exactly.cells_left write passes.table (passing_of passes) formula cells text scans h)

    -- ------------------------------------------------------------------ 001, Theorem 1

    -- behind items of an alternative of sort B, derived under variables of their sorts
    module _ {spell : ℕ → List ℕ} {M M' : List Value} {s s' : List Token} {i i' B : ℕ} {items : List Item} {result : Template} {L : List ℕ}
        (body : Body (scope_of passes.meets.elaborates) L items result B) (matches : Matches M L)
        (derives : Derives syntax.productions spell M s i items s' i' M') where
      -- Parsing respects typing: what its template gives is of sort B.
      pub parsing_respects_typing : {value : Value} → Gives spell M' result value → Typed value B
      parsing_respects_typing = expansion.parsing_respects_typing passes.table (passing_of passes) body matches derives

      -- It gives a value, and never `wrong`.
      pub never_wrong : (value : Value) × Gives spell M' result value × Typed value B
      never_wrong = expansion.never_wrong passes.table (passing_of passes) body matches derives

    -- Normalizing preserves typing (001, section 4.2): each production of the normalized grammar has the signature of its nonterminal.
    pub productions_sorted : {n : ℕ} {p : Production} → Of syntax.productions n p → (S : Signature) × Newest passes.meets.elaborates.last.env n S
        × Body (scope_of passes.meets.elaborates) S.params p.items p.result S.result
    productions_sorted = expansion.productions_sorted passes.table (passing_of passes)

    -- Whatever a call of the root derives is a term: Corollary 1.
    pub root_derives_term : {spell : ℕ → List ℕ} {M : List Value} {s s' : List Token} {i i' : ℕ}
        → Derives syntax.productions spell [] s i (call syntax.root none ∷ []) s' i' M → (meant : Term Name) × (M ≡ term meant ∷ [])
    root_derives_term = expansion.root_derives_term passes.table (passing_of passes)

    -- A well sorted call, under variables of their sorts, has values for its arguments and a production of its nonterminal: it is never `wrong`.
    pub call_never_wrong : (spell : ℕ → List ℕ) {M : List Value} {L : List ℕ} {nonterminal A : ℕ} (ts : Templates) → Matches M L
        → ItemSorted (scope_of passes.meets.elaborates) L (call nonterminal ts) A
        → ((vs : List Value) × GiveAll spell M ts vs) × ((p : Production) × Of syntax.productions nonterminal p)
    call_never_wrong = expansion.call_never_wrong passes.table (passing_of passes)

-- every table, formula, cells and text, where the text is written: `expand`
module _ (table formula cells text : List ℕ) where
  abbrev E : Expanded
  E = expand table formula cells text

  -- If the table passes, an expansion ends in a refusal in its case, and the text is as lent, or in the one term that Figure 3 derives, each part
  -- of the sort that its place demands, printed with the names that document 01 gives, so that each variable belongs by nesting to the binder that its
  -- origin calls for: the third promise of `expand`.
  pub demand_3 : Demand3 table formula cells text E.answer E.text
  demand_3 = hygiene.demand_3 table formula cells text

  -- New names, `_1`, `_2` and on from the left, go to each fresh binder, to each formula binder whose body holds an outside name of its spelling, and to
  -- their variables; all other names are as written, and so are variables that no binder has: `Named` (meaning/specs/Naming), apart from `rename`.
  pub accepted_names : (passes : Passes table) (made size bytes : ℕ) → E.answer ≡ accepted made size bytes → {meant : Term Name}
      → Means (syntax_of passes.table) formula meant
      → (shown : Term (List ℕ)) × (next : ℕ) × Named [] 1 meant shown next × (E.text ≡ print shown ++ drop (length (print shown)) text)
  accepted_names passes made size bytes accepted = hygiene.accepted_names (demand_3 passes) accepted
