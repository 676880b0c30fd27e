-- What a text's reading may give: values of any kind, what shows them, what reads them and what templates give. The run of a text and Figure 3 are joined once
-- for all of them (ValueReading, ValueRun).
use Prim.Native.Nat.{ℕ, ◌+◌, ◌*◌, ◌≤◌, ◌<◌}
use mathlib.Core.Path.{◌≡◌, refl, ap, subst, ◌∙◌}
use mathlib.Core.Bool.{Bool, true, false}
use mathlib.Core.List.{List, [], ◌∷◌, ◌++◌}
use native.Mathlib.Omega.{arith}
use lib.ListN.{length, get_or, drop}
use Rattle.answers.specs.declared.Refusal.{Refusal}
use Rattle.grammar.specs.Limits.{most}
use Rattle.grammar.specs.Sorts.{Signature}
use Rattle.grammar.specs.Table.{Template, Templates, Item, terminal, local, call}
use Rattle.terms.specs.Cells.{columns}
use Rattle.tokens.specs.declared.Token.{Token}
use Rattle.tokens.specs.Tokens.{end_token}
use Rattle.productions.specs.Normal.{Production}
use Rattle.judgements.specs.Scopes.{Scope}
use Rattle.judgements.specs.Judgements.{Newest, Fits, Sorted, Fill, ItemSorted}
use Rattle.expansion.specs.declared.State.{State}
use Rattle.expansion.specs.Run.{Result, done, halt, Run}
use Rattle.expansion.specs.Figure3.{◌⊢⟨◌∣◌⟩◌⇒⟨◌∣◌⟩◌}
use Rattle.expansion.specs.Expansion.{Input, Choice, chosen, next_token, token_taken, build, build_all, run_item, choice}
use Rattle.expansion.specs.Costs.{rows_of, rows_of_all}
use Rattle.expansion.proofs.CallLaws.{inner, inner_grammar, inner_tokens, inner_rows}
use Rattle.expansion.proofs.Choosing.{rule}
use Rattle.expansion.proofs.Endings.{Ends, Made, Full}
use Rattle.expansion.proofs.Shows.{Grown, grown_not}
use Rattle.texts.specs.Reading.{ready_text}
use Rattle.texts.specs.ReadingRules.{TextTaken}
use Rattle.texts.proofs.TextChoice.{TextPicks, picks, picks_none}
use Rattle.texts.proofs.TextSorts.{AllSorted}
use Rattle.texts.proofs.TextSetting.{Kept}

-- ------------------------------------------------------------------ how a run ends

abbrev pub Any : Refusal → Type 0
Any r = Unit {0}

-- A run that is done, and what then holds.
pub record Finished {A : Type 0} (P : A → State → List ℕ → Type 0) (result : Result A) : Type 0 where
  -- the value
  pub value : A
  -- the state
  pub state : State
  -- the cells
  pub cells : List ℕ
  -- the run is done with them
  pub is : result ≡ done value state cells
  -- what holds of them
  pub holds : P value state cells

-- A run that cannot be refused is done.
pub finished : {A : Type 0} (P : A → State → List ℕ → Type 0) (H : Refusal → Type 0) (result : Result A) → Ends P H result → ((r : Refusal) → H r → ⊥)
    → Finished P result
finished P H (done a s cells) p h = record { value = a; state = s; cells = cells; is = refl; holds = p }
finished P H (halt r cells) p h = absurd (h r p)

-- ------------------------------------------------------------------ the production that is taken

-- the tokens take one production of a nonterminal at most
abbrev pub TakenOnce : List Production → Type 0
TakenOnce g = (n : ℕ) (s : List Token) (p q : Production) → TextTaken g n s p → TextTaken g n s q → p ≡ q

-- A choice that picks what the tokens take then picks it.
pub once_chosen : {g : List Production} {n : ℕ} {s : List Token} {p : Production} {given_choice : Choice} → TakenOnce g → TextTaken g n s p
    → TextPicks g n s given_choice → given_choice ≡ chosen (rule g p)
once_chosen {g} {n} {s} {p} once t (picks q u e) = e ∙ ap (λ r. chosen (rule g r)) (once n s q p u t)
once_chosen {p = p} once t (picks_none f e) = absurd (f p t)

-- ------------------------------------------------------------------ numbers that show values

-- numbers of sorts show values, one each
pub data ShowAll {A : Type 0} (shows : ℕ → ℕ → A → Type 0) : List ℕ → List ℕ → List A → Type 0 where
  show_none : ShowAll shows [] [] []
  show_more : {B x : ℕ} {v : A} {L xs : List ℕ} {M : List A} → shows B x v → ShowAll shows L xs M → ShowAll shows (B ∷ L) (x ∷ xs) (v ∷ M)

-- What shows one value so shows all of them so.
pub show_map : {A : Type 0} {shows shows' : ℕ → ℕ → A → Type 0} {L xs : List ℕ} {M : List A} → ((B x : ℕ) (v : A) → shows B x v → shows' B x v)
    → ShowAll shows L xs M → ShowAll shows' L xs M
show_map f show_none = show_none
show_map f (show_more {B = B} {x = x} {v = v} h hs) = show_more (f B x v h) (show_map f hs)

-- One value more is shown.
pub show_and : {A : Type 0} {shows : ℕ → ℕ → A → Type 0} {L xs : List ℕ} {M : List A} {B x : ℕ} {v : A} → ShowAll shows L xs M → shows B x v
    → ShowAll shows (L ++ (B ∷ [])) (xs ++ (x ∷ [])) (M ++ (v ∷ []))
show_and show_none k = show_more k show_none
show_and (show_more h hs) k = show_more h (show_and hs k)

-- a call among the items
abbrev pub is_call : Item → Bool
is_call (terminal t) = false
is_call local = false
is_call (call n ts) = true

-- Values that a reading gives, where N outside names are defined.
pub record Values (N : ℕ) : Type 1 where
  -- the values
  pub Value : Type 0
  -- in these cells, with so many rows made, at this sort this number shows this value
  pub Shows : List ℕ → ℕ → ℕ → ℕ → Value → Type 0
  -- what a terminal reads
  pub Reads : List Token → ℕ → Item → List Token → ℕ → Value → Type 0
  -- what a template gives under values
  pub give : List Value → Template → Value
  -- and templates
  pub give_all : List Value → Templates → List Value
  -- what is shown stays shown as rows are made
  pub later : {made made' : ℕ} {cells cells' : List ℕ} {B x : ℕ} {v : Value} → Grown made cells made' cells' → Shows cells made B x v
      → Shows cells' made' B x v
  -- a template that is built is shown, at a sort that it fits
  pub built : (input : Input) {L : List ℕ} {A B : ℕ} {M : List Value} (t : Template) {xs : List ℕ} (s : State) (cells : List ℕ)
      → Sorted N L t A → Fits A B → input.rows * columns ≤ length cells → s.made ≤ input.rows → ShowAll (Shows cells s.made) L xs M
      → Ends (λ x s' c'. Made input.rows (rows_of t) s cells s' c' × Shows c' s'.made B x (give M t)) (Full input.rows (s.made + rows_of t))
      (build t input xs s cells)
  -- and so are templates
  pub built_all : (input : Input) {L Bs : List ℕ} {M : List Value} (ts : Templates) {xs : List ℕ} (s : State) (cells : List ℕ)
      → Fill N L ts Bs → input.rows * columns ≤ length cells → s.made ≤ input.rows → ShowAll (Shows cells s.made) L xs M
      → Ends (λ ys s' c'. Made input.rows (rows_of_all ts) s cells s' c' × ShowAll (Shows c' s'.made) Bs ys (give_all M ts))
      (Full input.rows (s.made + rows_of_all ts)) (build_all ts input xs s cells)
  -- no terminal is a call
  pub no_call : {s s' : List Token} {i i' : ℕ} {p : Item} {v : Value} → Reads s i p s' i' v → is_call p ≡ false

-- ------------------------------------------------------------------ what is given

module _ {N : ℕ} (values : Values N) where
  -- items in sequence, over these values
  abbrev pub ValueDerives : List Production → List values.Value → List Token → ℕ → List Item → List Token → ℕ → List values.Value → Type 0
  ValueDerives g M s i ps s' i' M' =
      ◌⊢⟨◌∣◌⟩◌⇒⟨◌∣◌⟩◌ values.Value values.Reads (TextTaken g) (λ M t v. v ≡ values.give M t) (λ M ts vs. vs ≡ values.give_all M ts) M s i ps s' i' M'

  -- numbers of sorts show values in these cells
  abbrev pub Shown : ℕ → List ℕ → List ℕ → List ℕ → List values.Value → Type 0
  Shown made cells L xs M = ShowAll (values.Shows cells made) L xs M

  -- What is shown stays shown.
  pub shown_later : {made made' : ℕ} {cells cells' : List ℕ} {L xs : List ℕ} {M : List values.Value} → Grown made cells made' cells'
      → Shown made cells L xs M → Shown made' cells' L xs M
  shown_later grown a = show_map (λ B x v h. values.later grown h) a

-- where an item has been run: the tokens and the counter that a derivation leaves, calls and rows counted on, and the value shown
pub record Returned {N : ℕ} (values : Values N) (tokens : List Token) (rows B : ℕ) (ts : List Token) (i : ℕ) (v : values.Value) (s : State) (calls made : ℕ)
    (cells : List ℕ) (x : ℕ) (s' : State) (cells' : List ℕ) : Type 0 where
  -- the tokens left
  pub left_is : drop s'.at tokens ≡ ts
  -- the counter of fresh names
  pub fresh_is : s'.fresh ≡ i
  -- so many calls are begun
  pub calls_is : s'.calls ≡ s.calls + calls
  -- so many rows are made
  pub made_is : s'.made ≡ s.made + made
  -- rows are added only
  pub grown : Grown s.made cells s'.made cells'
  -- the room is kept
  pub kept : Kept rows s' cells'
  -- the number shows the value
  pub shows : values.Shows cells' s'.made B x v

-- a terminal that is read, by the rules
pub record Step {N : ℕ} (values : Values N) (tokens : List Token) (rows : ℕ) (item : Item) (B : ℕ) (s : State) (cells : List ℕ) (x : ℕ) (s' : State)
    (cells' : List ℕ) : Type 0 where
  -- its value
  pub value : values.Value
  -- a rule reads it
  pub rule : values.Reads (drop s.at tokens) s.fresh item (drop s'.at tokens) s'.fresh value
  -- neither a call nor a row is made
  pub returned : Returned values tokens rows B (drop s'.at tokens) s'.fresh value s 0 0 cells x s' cells'

module _ {N : ℕ} {values : Values N} {tokens : List Token} {rows B : ℕ} (s : State) (cells : List ℕ) (kept : Kept rows s cells) {x : ℕ} {v : values.Value}
    (shows : values.Shows cells s.made B x v) where
  -- A token that is taken makes neither a call nor a row,
  pub token_returned : {ts : List Token} {i : ℕ} → drop (s.at + 1) tokens ≡ ts → s.fresh ≡ i
      → Returned values tokens rows B ts i v s 0 0 cells x (token_taken s) cells
  token_returned e f =
      record {
        left_is = e;
        fresh_is = f;
        calls_is = omega arith;
        made_is = omega arith;
        grown = grown_not s.made cells;
        kept = record { room = kept.room; fits = kept.fits };
        shows = shows;
      }

  -- nor does a fresh name.
  pub fresh_returned : {ts : List Token} {i : ℕ} → drop s.at tokens ≡ ts → s.fresh + 1 ≡ i
      → Returned values tokens rows B ts i v s 0 0 cells x (record { at = s.at; fresh = s.fresh + 1; calls = s.calls; made = s.made }) cells
  fresh_returned e f =
      record {
        left_is = e;
        fresh_is = f;
        calls_is = omega arith;
        made_is = omega arith;
        grown = grown_not s.made cells;
        kept = record { room = kept.room; fits = kept.fits };
        shows = shows;
      }

-- A grammar whose productions are sorted, the tokens of a text, and these as a run reads them.
pub record TextReader (G : Scope) (g : List Production) (values : Values G.outsides) : Type 0 where
  -- the productions are sorted
  pub all : AllSorted G g
  -- nonterminals are below 64, as the layout has them
  pub declared : (n : ℕ) (S : Signature) → Newest G.env n S → n < most.nonterminals
  -- the tokens
  pub tokens : List Token
  -- as the run reads them
  pub read : List Token
  -- they are as many
  pub as_many : length read ≡ length tokens
  -- the rows that there are
  pub rows : ℕ
  -- the choice picks what the tokens take
  pub picks : (n : ℕ) → n < most.nonterminals → (at : ℕ) → TextPicks g n (drop at tokens) (choice (ready_text g) n (get_or read at end_token).kind)
  -- a terminal that is run to its end is read by a rule
  pub step-ends : (C : ℕ → List ℕ → Run ℕ) (input : Input) → input.tokens ≡ read → (item : Item) {L : List ℕ} {B : ℕ} → ItemSorted G L item B
      → is_call item ≡ false → (xs : List ℕ) (s : State) (cells : List ℕ) → Kept rows s cells
      → Ends (Step values tokens rows item B s cells) Any (run_item C input item xs s cells)
  -- and what a rule reads is run to its end
  pub step_done : (C : ℕ → List ℕ → Run ℕ) (input : Input) → input.tokens ≡ read → (item : Item) {L : List ℕ} {B : ℕ} → ItemSorted G L item B
      → (xs : List ℕ) (s : State) (cells : List ℕ) → Kept rows s cells → {ts ts' : List Token} {i i' : ℕ} {v : values.Value} → drop s.at tokens ≡ ts
      → s.fresh ≡ i → values.Reads ts i item ts' i' v → Finished (Returned values tokens rows B ts' i' v s 0 0 cells) (run_item C input item xs s cells)

module _ {G : Scope} {g : List Production} {values : Values G.outsides} (reader : TextReader G g values) where
  -- the whole run reads this
  abbrev pub whole_input : Input
  whole_input = record { grammar = ready_text g; tokens = reader.read; rows = reader.rows }

  -- What a part of the run reads: this grammar, these tokens and these rows, whatever else it is told.
  pub record Lends (input : Input) : Type 0 where
    -- the grammar
    pub grammar_is : input.grammar ≡ ready_text g
    -- the tokens
    pub tokens_are : input.tokens ≡ reader.read
    -- the rows that there are
    pub rows_are : input.rows ≡ reader.rows

  -- The whole run reads this,
  pub lends_whole : Lends whole_input
  lends_whole = record { grammar_is = refl; tokens_are = refl; rows_are = refl }

  -- and what a call hands on has it, too.
  pub lends_inner : {input : Input} → Lends input → (state : State) → Lends (inner input state)
  lends_inner {input} lends state =
      record {
        grammar_is = inner_grammar input state ∙ lends.grammar_is;
        tokens_are = inner_tokens input state ∙ lends.tokens_are;
        rows_are = inner_rows input state ∙ lends.rows_are;
      }

  module _ {input : Input} (lends : Lends input) where
    -- Templates that are built as arguments are shown,
    pub arguments_built : {L Bs : List ℕ} {M : List values.Value} (ts : Templates) {xs : List ℕ} (s : State) (cells : List ℕ) → Fill G.outsides L ts Bs
        → Kept reader.rows s cells → Shown values s.made cells L xs M
        → Ends (λ ys s' c'. Made reader.rows (rows_of_all ts) s cells s' c' × Shown values s'.made c' Bs ys (values.give_all M ts))
        (Full reader.rows (s.made + rows_of_all ts)) (build_all ts input xs s cells)
    arguments_built {Bs = Bs} {M = M} ts {xs = xs} s cells w k a =
        subst
        (λ many. Ends (λ ys s' c'. Made many (rows_of_all ts) s cells s' c' × Shown values s'.made c' Bs ys (values.give_all M ts))
        (Full many (s.made + rows_of_all ts)) (build_all ts input xs s cells))
        lends.rows_are (values.built_all input ts s cells w (rw lends.rows_are k.room) (rw lends.rows_are k.fits) a)

    -- and so is one that is built as a result.
    pub result_built : {L : List ℕ} {A B : ℕ} {M : List values.Value} (t : Template) {xs : List ℕ} (s : State) (cells : List ℕ) → Sorted G.outsides L t A
        → Fits A B → Kept reader.rows s cells → Shown values s.made cells L xs M
        → Ends (λ x s' c'. Made reader.rows (rows_of t) s cells s' c' × values.Shows c' s'.made B x (values.give M t))
        (Full reader.rows (s.made + rows_of t)) (build t input xs s cells)
    result_built {B = B} {M = M} t {xs = xs} s cells w f k a =
        subst
        (λ many. Ends (λ x s' c'. Made many (rows_of t) s cells s' c' × values.Shows c' s'.made B x (values.give M t)) (Full many (s.made + rows_of t))
        (build t input xs s cells))
        lends.rows_are (values.built input t s cells w f (rw lends.rows_are k.room) (rw lends.rows_are k.fits) a)

    -- The choice picks what the tokens take.
    pub choice_picked : (s : State) (n : ℕ) (S : Signature) → Newest G.env n S
        → TextPicks g n (drop s.at reader.tokens) (choice input.grammar n (next_token input s).kind)
    choice_picked s n S newest = rw (lends.grammar_is, lends.tokens_are) (reader.picks n (reader.declared n S newest) s.at)
