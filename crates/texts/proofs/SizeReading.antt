-- The runs of a text's tokens read what the rules read loosely: words as outside names at Var and Label only, or as they stand at Binder too.
use Prim.Native.Nat.{ℕ, zero, suc, ◌+◌, ◌≤◌, ◌<◌}
use mathlib.Core.Path.{◌≡◌, refl, sym, ap, subst, subst⁻¹, ◌∙◌}
use mathlib.Core.Bool.{Bool, true, false, true≢false}
use mathlib.Core.List.{List, ◌∷◌}
use native.Mathlib.Omega.{arith}
use lib.Dec.{eqb}
use lib.ListN.{drop}
use borrow.Author.Tests.{eqb-false, ne_eqb}
use Rattle.spellings.proofs.BytesLaws.{by_test}
use Rattle.kinds.specs.Kinds.{word_kind, number_kind, keyword_kind, no_kind}
use Rattle.kinds.specs.TextKinds.{variable_kind, outside_kind, sort_of_kind}
use Rattle.grammar.specs.Limits.{most}
use Rattle.grammar.specs.Sorts.{Signature, var, binder, label}
use Rattle.grammar.specs.Table as Table
use Rattle.grammar.specs.Table.{Template, variable, outside_var, keyword, ide, number, place, Item, terminal, local, call}
use Rattle.terms.specs.Cells.{fresh_name}
use Rattle.tokens.specs.declared.Token.{Token}
use Rattle.productions.specs.Normal.{Production}
use Rattle.judgements.specs.Scopes.{Scope}
use Rattle.judgements.specs.Judgements.{Newest, ItemSorted}
use Rattle.judgements.specs.Judgements as Judgements
use Rattle.expansion.specs.declared.State.{State}
use Rattle.expansion.specs.Run.{Result, done, Run}
use Rattle.expansion.specs.TextTokens.{read_value, text_value, meets_ide}
use Rattle.expansion.specs.Expansion.{Input, next_token, token_taken, take_terminal, run_item}
use Rattle.expansion.specs.Costs.{rows_of}
use Rattle.expansion.proofs.AsBefore.{terminal_met, terminal_unmet, terminal_as_before}
use Rattle.expansion.proofs.Endings.{Ends}
use Rattle.copying.specs.RowTemplates.{is_variable_name, is_row_sort}
use Rattle.copying.specs.Hanging.{is_row_at}
use Rattle.texts.specs.Substitution.{substitute, substitute_all, template_list}
use Rattle.texts.specs.ReadingRules.{TextReads, by_keyword, by_variable, by_place, by_global, by_label}
use Rattle.texts.specs.Unread.{LooselyReads, by_text, by_word, by_local}
use Rattle.texts.proofs.TextSorts.{AllSorted}
use Rattle.texts.proofs.TextSetting.{Kept, outside_token}
use Rattle.texts.proofs.TextValues.{Any, Finished, is_call, Values, ValueDerives, Returned, Step, token_returned, fresh_returned, TextReader}
use Rattle.texts.proofs.TextTerminals.{Meets, meets_variable, meets_outside, meets_rule, variable_met, outside_met, seen, all_seen, seen_many}
use Rattle.texts.proofs.TextTerminals.{seen_other, seen_kind, seen_outside, seen_word, seen_value, NamedVariable, TextTokens, seen_picks, here}
use Rattle.texts.proofs.TextTerminals.{from_here, first_left, kind_is, next_token_lem, take_ends, kind_taken}
use Rattle.texts.proofs.Sizes.{ShowsSize, SizeShown, size_leaf, size_later, size_built, sizes_built}

-- ------------------------------------------------------------------ templates of which the size counts

-- No terminal that a rule reads is a call.
pub no_call : {binders : Bool} {s s' : List Token} {i i' : ℕ} {p : Item} {v : Template} → LooselyReads binders s i p s' i' v → is_call p ≡ false
no_call (by_text (by_keyword e)) = refl
no_call (by_text (by_variable A n e f w)) = refl
no_call (by_text (by_place n e f)) = refl
no_call (by_text (by_global e l)) = refl
no_call (by_text (by_label e l)) = refl
no_call (by_word e f) = refl
no_call by_local = refl

-- Templates of which only the size counts, as values of a reading.
abbrev pub loose_values : (N : ℕ) → Bool → Values N
loose_values N binders =
    record {
      Value = Template;
      Shows = SizeShown;
      Reads = LooselyReads binders;
      give = substitute;
      give_all = λ M ts. template_list (substitute_all M ts);
      later = λ g s. size_later g s;
      built = λ input. size_built input {N = N};
      built_all = λ input. sizes_built input {N = N};
      no_call = no_call;
    }

-- items in sequence, read loosely
abbrev pub LooselyDerives : Bool → List Production → List Template → List Token → ℕ → List Item → List Token → ℕ → List Template → Type 0
LooselyDerives binders g M s i ps s' i' M' = ValueDerives (loose_values 0 binders) g M s i ps s' i' M'

-- ------------------------------------------------------------------ terminals

-- what an ide gives is no row
ide_leaf : {cells : List ℕ} {made x : ℕ} (B : ℕ) → var ≤ B → B ≤ label → ShowsSize cells made B x 0
ide_leaf zero l h = absurd (omega arith)
ide_leaf (suc zero) l h = size_leaf refl
ide_leaf (suc (suc zero)) l h = size_leaf refl
ide_leaf (suc (suc (suc zero))) l h = size_leaf refl
ide_leaf (suc (suc (suc (suc B)))) l h = absurd (omega arith)

-- a variable is no row, at any sort
no_row : (sort x : ℕ) → is_variable_name x ≡ true → is_row_at sort x ≡ false
no_row sort x e = by_test (is_row_sort sort) (λ r. rw (r, e) refl) (λ r. rw r refl)

variable_leaf : {cells : List ℕ} {made B x : ℕ} → is_variable_name x ≡ true → ShowsSize cells made B x 0
variable_leaf {B = B} {x = x} e = size_leaf {sort = B} {x = x} (no_row B x e)

module _ (N : ℕ) (binders : Bool) (tokens : List Token) (rows : ℕ) (known : TextTokens tokens) (input : Input)
    (tokens_are : input.tokens ≡ all_seen binders tokens) where
  -- a token that a rule reads
  stepped : (item : Item) (B : ℕ) (s : State) (cells : List ℕ) (x : ℕ) (v : Template) → Kept rows s cells → SizeShown cells s.made B x v
      → ((here tokens s).kind ≡ no_kind → ⊥)
      → LooselyReads binders (here tokens s ∷ drop (s.at + 1) tokens) s.fresh item (drop (s.at + 1) tokens) s.fresh v
      → Step (loose_values N binders) tokens rows item B s cells x (token_taken s) cells
  stepped item B s cells x v kept leaf h r =
      record {
        value = v;
        rule = subst (λ ts. LooselyReads binders ts s.fresh item (drop (s.at + 1) tokens) s.fresh v) (sym (from_here tokens s h)) r;
        returned = token_returned s cells kept leaf refl refl;
      }

  ide_ends : (B : ℕ) → var ≤ B → B ≤ label → (s : State) (cells : List ℕ) → Kept rows s cells
      → Ends (Step (loose_values N binders) tokens rows (terminal (ide B)) B s cells) Any (take_terminal input (ide B) s cells)
  unfolding rows_of
  ide_ends B l h s cells kept =
      by_test (meets_ide (next_token input s).kind B)
      (λ e.
      subst⁻¹ (Ends (Step (loose_values N binders) tokens rows (terminal (ide B)) B s cells) Any) (terminal_met input (ide B) s cells e)
      (found (meets_rule (next_token input s).kind B e)))
      (λ e.
      subst⁻¹ (Ends (Step (loose_values N binders) tokens rows (terminal (ide B)) B s cells) Any) (terminal_unmet input (ide B) s cells e)
      (take_ends binders tokens input tokens_are s (Step (loose_values N binders) tokens rows (terminal (ide B)) B s cells) word_kind (read_value (ide B)) cells
      (λ q.
      let w = seen_word binders (here tokens s) q in
      read _ (outside_var (here tokens s).value) (ide_leaf B l h) (λ z. omega (arith, w.0, z)) (by_word w.0 (λ z. w.1)))))
    where
      same_kind : (next_token input s).kind ≡ (seen binders (here tokens s)).kind
      same_kind = kind_is binders tokens input tokens_are s

      read : (x : ℕ) (v : Template) → SizeShown cells s.made B x v → ((here tokens s).kind ≡ no_kind → ⊥)
          → LooselyReads binders (here tokens s ∷ drop (s.at + 1) tokens) s.fresh (terminal (ide B)) (drop (s.at + 1) tokens) s.fresh v
          → Step (loose_values N binders) tokens rows (terminal (ide B)) B s cells x (token_taken s) cells
      read x v leaf = stepped (terminal (ide B)) B s cells x v kept leaf

      found : {x : ℕ} → Meets (next_token input s).kind B → Step (loose_values N binders) tokens rows (terminal (ide B)) B s cells x (token_taken s) cells
      found {x} (meets_variable a o f) =
          let q : (here tokens s).kind ≡ (next_token input s).kind =
          seen_kind binders (here tokens s) (sym same_kind) (eqb-false (next_token input s).kind outside_kind o) in
          let k = known.variable s.at (omega (arith, q, a)) in
          read x (variable k.0) (ide_leaf B l h) (λ z. omega (arith, q, a, z))
          (by_text (by_variable (sort_of_kind (next_token input s).kind) k.0 (omega (arith, q, a)) k.1 f))
      found {x} (meets_outside e n) =
          let w : (here tokens s).kind ≡ word_kind = seen_outside binders (here tokens s) (known.small s.at) (sym same_kind ∙ e) in
          read x (outside_var (here tokens s).value) (ide_leaf B l h) (λ z. omega (arith, w, z)) (by_word w (λ z. absurd (n z)))

  -- What a terminal reads to its end, a rule reads,
  pub loose_step_ends : {G : Scope} → G.keywords ≤ most.keywords → (C : ℕ → List ℕ → Run ℕ) (item : Item) {L : List ℕ} {B : ℕ} → ItemSorted G L item B
      → is_call item ≡ false → (xs : List ℕ) (s : State) (cells : List ℕ) → Kept rows s cells
      → Ends (Step (loose_values N binders) tokens rows item B s cells) Any (run_item C input item xs s cells)
  unfolding rows_of
  loose_step_ends few C (terminal (keyword k)) {B = B} (Judgements.by_keyword l) c xs s cells kept =
      take_ends binders tokens input tokens_are s (Step (loose_values N binders) tokens rows (terminal (keyword k)) B s cells) (keyword_kind k) (λ v. 0) cells
      (λ e.
      let q : (here tokens s).kind ≡ keyword_kind k = seen_kind binders (here tokens s) e (λ z. omega arith) in
      stepped (terminal (keyword k)) B s cells 0 Table.unit kept (size_leaf refl) (λ z. omega (arith, q, z)) (by_text (by_keyword q)))
  loose_step_ends few C (terminal (ide B)) (Judgements.by_ide l h) c xs s cells kept = ide_ends B l h s cells kept
  loose_step_ends few C (terminal number) {B = B} w c xs s cells kept =
      take_ends binders tokens input tokens_are s (Step (loose_values N binders) tokens rows (terminal number) B s cells) number_kind (λ v. v) cells
      (λ e. absurd (known.no_number s.at (seen_kind binders (here tokens s) e (λ z. omega arith))))
  loose_step_ends few C (terminal (place B)) (Judgements.by_place l) c xs s cells kept =
      take_ends binders tokens input tokens_are s (Step (loose_values N binders) tokens rows (terminal (place B)) B s cells) (variable_kind B) (λ v. v) cells
      (λ e.
      let q : (here tokens s).kind ≡ variable_kind B = seen_kind binders (here tokens s) e (λ z. omega arith) in
      let k = known.variable s.at (omega arith) in
      stepped (terminal (place B)) B s cells (seen binders (here tokens s)).value (variable k.0) kept
      (variable_leaf (ap is_variable_name (seen_value binders (here tokens s)) ∙ k.2)) (λ z. omega (arith, q, z)) (by_text (by_place k.0 q k.1)))
  loose_step_ends few C local Judgements.by_local c xs s cells kept =
      record { value = outside_var s.fresh; rule = by_local; returned = fresh_returned s cells kept (size_leaf refl) refl refl }
  loose_step_ends few C (call n ts) w c xs s cells kept = absurd (true≢false c)

  -- ------------------------------------------------------------------ what a rule reads

  -- a token that is taken
  taken : (B : ℕ) {i : ℕ} (s : State) (cells : List ℕ) {t : Token} {ts : List Token} {v : Template} {result : Result ℕ} {x : ℕ} → Kept rows s cells
      → SizeShown cells s.made B x v → drop s.at tokens ≡ t ∷ ts → s.fresh ≡ i → result ≡ done x (token_taken s) cells
      → Finished (Returned (loose_values N binders) tokens rows B ts i v s 0 0 cells) result
  taken B s cells {x = x} kept leaf e f q =
      record { value = x; state = token_taken s; cells = cells; is = q; holds = token_returned s cells kept leaf (first_left tokens s e).1 f }

  next_kind_lem : (s : State) {t : Token} {ts : List Token} → drop s.at tokens ≡ t ∷ ts → (next_token input s).kind ≡ (seen binders t).kind
  next_kind_lem s e = ap (λ u. u.kind) (next_token_lem binders tokens input tokens_are s e)

  -- a word at an ide: as an outside name where it is no Binder, or as it stands
  word_taken : (B : ℕ) (s : State) (cells : List ℕ) {t : Token} {ts : List Token} → drop s.at tokens ≡ t ∷ ts → t.kind ≡ word_kind
      → (B ≡ binder → binders ≡ true) → (x : ℕ) × (take_terminal input (ide B) s cells ≡ done x (token_taken s) cells)
  word_taken B s cells {t} e w h = by binders refl
    where
      by : (given_binders : Bool) → binders ≡ given_binders → (x : ℕ) × (take_terminal input (ide B) s cells ≡ done x (token_taken s) cells)
      by true q =
          let k : (next_token input s).kind ≡ word_kind = next_kind_lem s e ∙ ap (λ b. (seen b t).kind) q ∙ w in (
            read_value (ide B) (next_token input s).value,
            terminal_as_before input (ide B) s cells (omega arith) ∙ kind_taken binders tokens input tokens_are s cells word_kind (read_value (ide B)) k,
          )
      by false q =
          let k : (next_token input s).kind ≡ outside_kind = next_kind_lem s e ∙ ap (λ b. (seen b t).kind) q ∙ outside_token t w in
          let n : eqb B binder ≡ false = ne_eqb B binder (λ z. true≢false (sym (h z) ∙ q)) in
          (text_value (ide B) (next_token input s), terminal_met input (ide B) s cells (ap (λ u. meets_ide u B) k ∙ outside_met B n))

  -- what a text's rule reads is read to its end
  text_done : {G : Scope} (C : ℕ → List ℕ → Run ℕ) (item : Item) {L : List ℕ} {B : ℕ} → ItemSorted G L item B
      → (xs : List ℕ) (s : State) (cells : List ℕ) → Kept rows s cells → {ts ts' : List Token} {i i' : ℕ} {v : Template}
      → drop s.at tokens ≡ ts → s.fresh ≡ i → TextReads ts i item ts' i' v
      → Finished (Returned (loose_values N binders) tokens rows B ts' i' v s 0 0 cells) (run_item C input item xs s cells)
  unfolding rows_of
  text_done C (terminal (keyword k)) (Judgements.by_keyword l) xs s cells kept e f (by_keyword {t = t} q) =
      taken 0 s cells kept (size_leaf refl) e f
      (kind_taken binders tokens input tokens_are s cells (keyword_kind k) (λ v. 0)
      (next_kind_lem s e ∙ ap (λ u. u.kind) (seen_other binders t (λ z. omega arith)) ∙ q))
  text_done C (terminal (ide B)) (Judgements.by_ide l h) xs s cells kept e f (by_variable {t = t} A n q u w) =
      let small : t.kind < outside_kind = subst (λ u. u.kind < outside_kind) (first_left tokens s e).0 (known.small s.at) in
      let k : (next_token input s).kind ≡ variable_kind A = next_kind_lem s e ∙ ap (λ u. u.kind) (seen_other binders t (λ z. omega arith)) ∙ q in
      taken B s cells kept (ide_leaf B l h) e f (terminal_met input (ide B) s cells (ap (λ u. meets_ide u B) k ∙ variable_met A B (omega arith) w))
  text_done C (terminal (ide B)) (Judgements.by_ide l h) xs s cells kept e f (by_global w o) =
      taken B s cells kept (ide_leaf B l h) e f (word_taken B s cells e w (λ z. absurd (omega arith))).1
  text_done C (terminal (ide B)) (Judgements.by_ide l h) xs s cells kept e f (by_label w o) =
      taken B s cells kept (ide_leaf B l h) e f (word_taken B s cells e w (λ z. absurd (omega arith))).1
  text_done C (terminal (place B)) (Judgements.by_place l) xs s cells kept e f (by_place {t = t} n q u) =
      let first = (first_left tokens s e).0 in
      let named = subst (λ u. NamedVariable u.value) first (known.variable s.at (omega (arith, ap (λ u. u.kind) first))) in
      let value : (next_token input s).value ≡ t.value = ap (λ u. u.value) (next_token_lem binders tokens input tokens_are s e) ∙ seen_value binders t in
      taken B s cells kept (variable_leaf (ap is_variable_name value ∙ named.2)) e f
      (kind_taken binders tokens input tokens_are s cells (variable_kind B) (λ v. v)
      (next_kind_lem s e ∙ ap (λ u. u.kind) (seen_other binders t (λ z. omega arith)) ∙ q))
  text_done C (terminal number) _ xs s cells kept e f x = elim x [ ]
  text_done C local _ xs s cells kept e f x = elim x [ ]
  text_done C (call _ _) _ xs s cells kept e f x = elim x [ ]

  -- and what a rule reads is read to its end.
  pub loose_step_done : {G : Scope} (C : ℕ → List ℕ → Run ℕ) (item : Item) {L : List ℕ} {B : ℕ} → ItemSorted G L item B
      → (xs : List ℕ) (s : State) (cells : List ℕ) → Kept rows s cells → {ts ts' : List Token} {i i' : ℕ} {v : Template}
      → drop s.at tokens ≡ ts → s.fresh ≡ i → LooselyReads binders ts i item ts' i' v
      → Finished (Returned (loose_values N binders) tokens rows B ts' i' v s 0 0 cells) (run_item C input item xs s cells)
  unfolding rows_of
  loose_step_done C item w xs s cells kept e f (by_text r) = text_done C item w xs s cells kept e f r
  loose_step_done C (terminal (ide B)) (Judgements.by_ide l h) xs s cells kept e f (by_word w q) =
      taken B s cells kept (ide_leaf B l h) e f (word_taken B s cells e w q).1
  loose_step_done C local Judgements.by_local xs s cells kept e f by_local =
      record {
        value = fresh_name s.fresh;
        state = record { at = s.at; fresh = s.fresh + 1; calls = s.calls; made = s.made };
        cells = cells;
        is = refl;
        holds = fresh_returned s cells kept (size_leaf refl) e (ap (λ m. m + 1) f);
      }

-- ------------------------------------------------------------------ the reader

-- A text's tokens are read so, where the productions are sorted.
abbrev pub loose_reader : {G : Scope} {g : List Production} (binders : Bool) → AllSorted G g → G.keywords ≤ most.keywords
    → ((n : ℕ) (S : Signature) → Newest G.env n S → n < most.nonterminals) → (rows : ℕ) (tokens : List Token) → TextTokens tokens
    → TextReader G g (loose_values G.outsides binders)
loose_reader {G} {g} binders all few declared rows tokens known =
    record {
      all = all;
      declared = declared;
      tokens = tokens;
      read = all_seen binders tokens;
      as_many = seen_many binders tokens;
      rows = rows;
      picks = λ n l at. seen_picks binders g n l tokens at (known.small at);
      step-ends = λ C input e item. loose_step_ends G.outsides binders tokens rows known input e few C item;
      step_done = λ C input e item. loose_step_done G.outsides binders tokens rows known input e C item;
    }
