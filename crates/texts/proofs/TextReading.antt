-- A text that is run to its end without a fresh name is derived by the rules, and its cells show the template derived: templates as values of a reading.
use Prim.Native.Nat.{ℕ, zero, suc, ◌+◌, ◌*◌, ◌≤◌, ◌<◌}
use mathlib.Core.Path.{◌≡◌, refl, sym, ap, subst, subst⁻¹, ◌∙◌}
use mathlib.Core.Bool.{true, false, true≢false}
use mathlib.Core.List.{List, [], ◌∷◌}
use native.Mathlib.Omega.{arith}
use lib.Dec.{eqb}
use lib.ListN.{length, drop}
use borrow.Author.Tests.{eqb-false, eq-eqb, ne_eqb}
use Rattle.spellings.proofs.BytesLaws.{by_test}
use Rattle.kinds.specs.Kinds.{word_kind, number_kind, keyword_kind, no_kind}
use Rattle.kinds.specs.TextKinds.{variable_kind, outside_kind, sort_of_kind}
use Rattle.grammar.specs.Sorts.{Signature, var, binder, label, num}
use Rattle.grammar.specs.SortTests.{fits}
use Rattle.grammar.specs.Table.{Template, Templates, variable, outside_var, outside_label, unit, none, more, keyword, ide, number, place, Item}
use Rattle.grammar.specs.Table.{terminal, local, call}
use Rattle.terms.specs.Cells.{columns, name_base, fresh_name}
use Rattle.tokens.specs.declared.Token.{Token}
use Rattle.tokens.specs.Variables.{variable_name}
use Rattle.productions.specs.Normal.{Production}
use Rattle.judgements.specs.Scopes.{Scope}
use Rattle.judgements.specs.Judgements.{Newest, Sorted, Fits, Fill, fill_none, fill_more, ItemSorted}
use Rattle.judgements.specs.Judgements as Judgements
use Rattle.expansion.specs.declared.State.{State}
use Rattle.expansion.specs.Run.{Result, done, Run}
use Rattle.expansion.specs.Figure3.{◌⊢⟨◌∣◌⟩◌⇒⟨◌∣◌⟩◌, by_end, by_terminal, by_call}
use Rattle.expansion.specs.TextTokens.{read_value, is_outside_kind, meets_ide, ide_value}
use Rattle.expansion.specs.Expansion.{Input, next_token, token_taken, take_terminal, build, build_all, run_item, run}
use Rattle.expansion.specs.Costs.{rows_of, rows_of_all, rows_in, Affords}
use Rattle.expansion.proofs.AsBefore.{terminal_met, terminal_unmet}
use Rattle.expansion.proofs.Endings.{Ends, ends_map, Made, Full}
use Rattle.copying.specs.RowTemplates.{text_template}
use Rattle.texts.specs.Substitution.{substitute, substitute_all, template_list}
use Rattle.texts.specs.ReadingRules.{TextTaken, TextReads, by_keyword, by_variable, by_place, by_global, by_label, TextDerives}
use Rattle.texts.proofs.Showing.{ShowsTemplate, shows_variable, shows_var, shows_label, shows_unit, shows_later, ShowTemplates, show_none, show_more}
use Rattle.texts.proofs.Showing.{build_ends, build_all_ends}
use Rattle.texts.proofs.ReadBack.{read_back}
use Rattle.texts.proofs.TextSorts.{SortedAt, AllNamed, text_sorted}
use Rattle.texts.proofs.TextSetting.{TextSetting, Kept, outside_token, same_value, outside_value, outside_value_lem, variable_value, strict_input}
use Rattle.texts.proofs.TextValues.{Any, Finished, is_call, ShowAll, Values, Returned, Step, token_returned, fresh_returned, TextReader}
use Rattle.texts.proofs.TextValues as Values
use Rattle.texts.proofs.TextTerminals.{Meets, meets_variable, meets_outside, meets_rule, variable_met, outside_met, seen_many, seen_kind, seen_outside}
use Rattle.texts.proofs.TextTerminals.{seen_other, seen_word, seen_picks, here, from_here, first_left, next_is, kind_is, take_ends, kind_taken}
use Rattle.texts.proofs.TextTerminals.{next_token_lem, all_seen, seen}
use Rattle.texts.proofs.SameCosts.{SameCosts, same_end, same_terminal, same_call, same_affords}
use Rattle.texts.proofs.ValueReading.{ReadWhole, run_derived}

-- ------------------------------------------------------------------ templates as values

-- what a text's terminals read; and a fresh name, which no rule of a text makes
pub data TemplateReads : List Token → ℕ → Item → List Token → ℕ → Template → Type 0 where
  as_text : {s s' : List Token} {i i' : ℕ} {p : Item} {v : Template} → TextReads s i p s' i' v → TemplateReads s i p s' i' v
  as_fresh : {s : List Token} {i : ℕ} → TemplateReads s i local s (i + 1) (outside_label (fresh_name i))

-- Neither is a call.
pub no_call : {s s' : List Token} {i i' : ℕ} {p : Item} {v : Template} → TemplateReads s i p s' i' v → is_call p ≡ false
no_call (as_text (by_keyword e)) = refl
no_call (as_text (by_variable A n e f w)) = refl
no_call (as_text (by_place n e f)) = refl
no_call (as_text (by_global e l)) = refl
no_call (as_text (by_label e l)) = refl
no_call as_fresh = refl

-- numbers show templates whatever their sorts are
abbrev AllShown : List ℕ → ℕ → List ℕ → List ℕ → List Template → Type 0
AllShown cells made L xs M = ShowAll (λ B x t. ShowsTemplate cells made x t) L xs M

without_sorts : {cells : List ℕ} {made : ℕ} {L xs : List ℕ} {M : List Template} → AllShown cells made L xs M → ShowTemplates made cells xs M
without_sorts Values.show_none = show_none
without_sorts (Values.show_more h hs) = show_more h (without_sorts hs)

with_sorts : {N : ℕ} {L Bs xs : List ℕ} (M : List Template) {cells : List ℕ} {made : ℕ} (ts : Templates) → Fill N L ts Bs
    → ShowTemplates made cells xs (template_list (substitute_all M ts)) → AllShown cells made Bs xs (template_list (substitute_all M ts))
unfolding template_list substitute
with_sorts M none fill_none show_none = Values.show_none
with_sorts M (more t ts) (fill_more h f fs) (show_more k ks) = Values.show_more k (with_sorts M ts fs ks)

-- A template that is built is shown,
pub template_built : {N : ℕ} (input : Input) {L : List ℕ} {A B : ℕ} {M : List Template} (t : Template) {xs : List ℕ} (s : State) (cells : List ℕ)
    → Sorted N L t A → Fits A B → input.rows * columns ≤ length cells → s.made ≤ input.rows → AllShown cells s.made L xs M
    → Ends (λ x s' c'. Made input.rows (rows_of t) s cells s' c' × ShowsTemplate c' s'.made x (substitute M t)) (Full input.rows (s.made + rows_of t))
    (build t input xs s cells)
template_built input t s cells w f room fit a = build_ends input t s cells w room fit (without_sorts a)

-- and so are templates.
pub templates_built : {N : ℕ} (input : Input) {L Bs : List ℕ} {M : List Template} (ts : Templates) {xs : List ℕ} (s : State) (cells : List ℕ)
    → Fill N L ts Bs → input.rows * columns ≤ length cells → s.made ≤ input.rows → AllShown cells s.made L xs M
    → Ends (λ ys s' c'. Made input.rows (rows_of_all ts) s cells s' c' × AllShown c' s'.made Bs ys (template_list (substitute_all M ts)))
    (Full input.rows (s.made + rows_of_all ts)) (build_all ts input xs s cells)
templates_built input {Bs = Bs} {M = M} ts {xs = xs} s cells w room fit a =
    ends_map (λ ys s' c'. Made input.rows (rows_of_all ts) s cells s' c' × ShowTemplates s'.made c' ys (template_list (substitute_all M ts)))
    (Full input.rows (s.made + rows_of_all ts))
    (λ ys s' c'. Made input.rows (rows_of_all ts) s cells s' c' × AllShown c' s'.made Bs ys (template_list (substitute_all M ts)))
    (Full input.rows (s.made + rows_of_all ts)) (build_all ts input xs s cells) (build_all_ends input ts s cells w room fit (without_sorts a))
    (λ ys s' c' b. (b.0, with_sorts M ts w b.1)) (λ r h. h)

-- Templates as values of a reading.
abbrev pub template_values : (N : ℕ) → Values N
template_values N =
    record {
      Value = Template;
      Shows = λ cells made B x t. ShowsTemplate cells made x t;
      Reads = TemplateReads;
      give = substitute;
      give_all = λ M ts. template_list (substitute_all M ts);
      later = shows_later;
      built = template_built {N = N};
      built_all = templates_built {N = N};
      no_call = no_call;
    }

-- ------------------------------------------------------------------ terminals

at_ide : (P : ℕ → Type 0) (B : ℕ) → var ≤ B → B ≤ label → (B ≡ binder → ⊥) → P var → P label → P B
at_ide P zero l h n a b = absurd (omega arith)
at_ide P (suc zero) l h n a b = a
at_ide P (suc (suc zero)) l h n a b = absurd (n refl)
at_ide P (suc (suc (suc zero))) l h n a b = b
at_ide P (suc (suc (suc (suc B)))) l h n a b = absurd (omega arith)

module _ {G : Scope} {g : List Production} (setting : TextSetting G g) where
  abbrev tokens : List Token
  tokens = setting.tokens

  -- the next token
  abbrev next_here : State → Token
  next_here s = here tokens s

  -- a terminal read so
  abbrev Stepped : Item → ℕ → State → List ℕ → ℕ → State → List ℕ → Type 0
  Stepped item B s cells x s' cells' = Step (template_values G.outsides) tokens setting.rows item B s cells x s' cells'

  -- a token that a rule reads
  stepped : (item : Item) (B : ℕ) (s : State) (cells : List ℕ) (x : ℕ) (v : Template) → Kept setting.rows s cells → ShowsTemplate cells s.made x v
      → ((next_here s).kind ≡ no_kind → ⊥)
      → TextReads (next_here s ∷ drop (s.at + 1) tokens) s.fresh item (drop (s.at + 1) tokens) s.fresh v
      → Stepped item B s cells x (token_taken s) cells
  stepped item B s cells x v kept w h r =
      record {
        value = v;
        rule =
            as_text (subst (λ ts. TextReads ts s.fresh item (drop (s.at + 1) tokens) s.fresh v) (sym (from_here tokens s h)) r);
        returned = token_returned s cells kept w refl refl;
      }

  module _ (input : Input) (tokens_are : input.tokens ≡ all_seen false tokens) (s : State) (cells : List ℕ) (kept : Kept setting.rows s cells) where
    -- a variable where an ide is read
    variable_stepped : (B kind : ℕ) → (seen false (next_here s)).kind ≡ kind → no_kind < kind → is_outside_kind kind ≡ false
        → fits (sort_of_kind kind) B ≡ true → Stepped (terminal (ide B)) B s cells (next_here s).value (token_taken s) cells
    variable_stepped B kind e l o f =
        let q : (next_here s).kind ≡ kind = seen_kind false (next_here s) e (eqb-false kind outside_kind o) in
        let n : (next_here s).value ≡ variable_name (setting.name s.at) = setting.named s.at (omega arith) in
        stepped (terminal (ide B)) B s cells (next_here s).value (variable (setting.name s.at)) kept
        (subst (λ y. ShowsTemplate cells s.made y (variable (setting.name s.at))) (sym n) shows_variable) (λ z. omega arith)
        (by_variable (sort_of_kind kind) (setting.name s.at) (omega arith) n f)

    -- one where a pattern place of its sort is read
    place_stepped : (B : ℕ) → B ≤ num → (seen false (next_here s)).kind ≡ variable_kind B
        → Stepped (terminal (place B)) B s cells (next_here s).value (token_taken s) cells
    place_stepped B l e =
        let q : (next_here s).kind ≡ variable_kind B = seen_kind false (next_here s) e (λ z. omega arith) in
        let n : (next_here s).value ≡ variable_name (setting.name s.at) = setting.named s.at (omega arith) in
        stepped (terminal (place B)) B s cells (next_here s).value (variable (setting.name s.at)) kept
        (subst (λ y. ShowsTemplate cells s.made y (variable (setting.name s.at))) (sym n) shows_variable) (λ z. omega arith)
        (by_place (setting.name s.at) q n)

    -- an outside name
    outside_stepped : (B : ℕ) → var ≤ B → B ≤ label → (B ≡ binder → ⊥) → (next_here s).kind ≡ word_kind
        → Stepped (terminal (ide B)) B s cells (outside_value B (next_here s).value) (token_taken s) cells
    outside_stepped B l h n w =
        at_ide (λ C. Stepped (terminal (ide C)) C s cells (outside_value C (next_here s).value) (token_taken s) cells) B l h n
        (stepped (terminal (ide var)) var s cells (outside_value var (next_here s).value) (outside_var (next_here s).value) kept shows_var (λ z. omega arith)
        (by_global w (setting.known s.at w)))
        (stepped (terminal (ide label)) label s cells (next_here s).value (outside_label (next_here s).value) kept shows_label (λ z. omega arith)
        (by_label w (setting.known s.at w)))

    ide_ends : (B : ℕ) → var ≤ B → B ≤ label → Ends (Stepped (terminal (ide B)) B s cells) Any (take_terminal input (ide B) s cells)
    ide_ends B l h =
        by_test (meets_ide (next_token input s).kind B)
        (λ e.
        subst⁻¹ (Ends (Stepped (terminal (ide B)) B s cells) Any) (terminal_met input (ide B) s cells e) (found (meets_rule (next_token input s).kind B e)))
        (λ e.
        subst⁻¹ (Ends (Stepped (terminal (ide B)) B s cells) Any) (terminal_unmet input (ide B) s cells e)
        (take_ends false tokens input tokens_are s (Stepped (terminal (ide B)) B s cells) word_kind (read_value (ide B)) cells
        (λ q. absurd (true≢false (sym (seen_word false (next_here s) q).1)))))
      where
        same_kind : (next_token input s).kind ≡ (seen false (next_here s)).kind
        same_kind = kind_is false tokens input tokens_are s

        value-is : (next_token input s).value ≡ (next_here s).value
        value-is = ap (λ t. t.value) (next_is false tokens input tokens_are s) ∙ same_value (next_here s)

        found : Meets (next_token input s).kind B
            → Stepped (terminal (ide B)) B s cells (ide_value (next_token input s).kind B (next_token input s).value) (token_taken s) cells
        found (meets_variable a o f) =
            subst (λ y. Stepped (terminal (ide B)) B s cells y (token_taken s) cells)
            (sym (variable_value (next_token input s).kind B (next_token input s).value o ∙ value-is))
            (variable_stepped B (next_token input s).kind (sym same_kind) a o f)
        found (meets_outside e n) =
            subst (λ y. Stepped (terminal (ide B)) B s cells y (token_taken s) cells)
            (sym (ap (ide_value (next_token input s).kind B) value-is
            ∙ outside_value_lem (next_token input s).kind B (next_here s).value (eq-eqb (next_token input s).kind outside_kind e)))
            (outside_stepped B l h n (seen_outside false (next_here s) (setting.small s.at) (sym same_kind ∙ e)))

    -- What a terminal reads to its end, a rule reads; or it is a fresh name.
    pub template_step_ends : (C : ℕ → List ℕ → Run ℕ) (item : Item) {L : List ℕ} {B : ℕ} → ItemSorted G L item B → is_call item ≡ false → (xs : List ℕ)
        → Ends (Stepped item B s cells) Any (run_item C input item xs s cells)
    template_step_ends C (terminal (keyword k)) {B = B} (Judgements.by_keyword l) c xs =
        take_ends false tokens input tokens_are s (Stepped (terminal (keyword k)) B s cells) (keyword_kind k) (λ v. 0) cells
        (λ e.
        let q : (next_here s).kind ≡ keyword_kind k = seen_kind false (next_here s) e (λ z. omega (arith, setting.few_keywords)) in
        stepped (terminal (keyword k)) B s cells 0 unit kept shows_unit (λ z. omega (arith, setting.few_keywords)) (by_keyword q))
    template_step_ends C (terminal (ide B)) (Judgements.by_ide l h) c xs = ide_ends B l h
    template_step_ends C (terminal number) {B = B} w c xs =
        take_ends false tokens input tokens_are s (Stepped (terminal number) B s cells) number_kind (λ v. v) cells
        (λ e. absurd (setting.no_number s.at (seen_kind false (next_here s) e (λ z. omega arith))))
    template_step_ends C (terminal (place B)) (Judgements.by_place l) c xs =
        take_ends false tokens input tokens_are s (Stepped (terminal (place B)) B s cells) (variable_kind B) (λ v. v) cells
        (λ e. subst (λ y. Stepped (terminal (place B)) B s cells y (token_taken s) cells) (sym (same_value (next_here s))) (place_stepped B l e))
    template_step_ends C local w c xs = record { value = _; rule = as_fresh; returned = fresh_returned s cells kept shows_label refl refl }
    template_step_ends C (call n ts) w c xs = absurd (true≢false c)

    -- ---------------------------------------------------------------- what a rule reads

    -- a token that is taken
    taken : {B i : ℕ} {t : Token} {ts : List Token} {v : Template} {result : Result ℕ} {x : ℕ} → ShowsTemplate cells s.made x v
        → drop s.at tokens ≡ t ∷ ts → s.fresh ≡ i → result ≡ done x (token_taken s) cells
        → Finished (Returned (template_values G.outsides) tokens setting.rows B ts i v s 0 0 cells) result
    taken {x = x} w e f q =
        record { value = x; state = token_taken s; cells = cells; is = q; holds = token_returned s cells kept w (first_left tokens s e).1 f }

    next_kind_lem : {t : Token} {ts : List Token} → drop s.at tokens ≡ t ∷ ts → (next_token input s).kind ≡ (seen false t).kind
    next_kind_lem e = ap (λ u. u.kind) (next_token_lem false tokens input tokens_are s e)

    next_value : {t : Token} {ts : List Token} → drop s.at tokens ≡ t ∷ ts → (next_token input s).value ≡ t.value
    next_value {t} e = ap (λ u. u.value) (next_token_lem false tokens input tokens_are s e) ∙ same_value t

    -- an outside name at a sort that is no Binder
    outside_taken : (B : ℕ) {t : Token} {ts : List Token} → drop s.at tokens ≡ t ∷ ts → t.kind ≡ word_kind → eqb B 2 ≡ false
        → take_terminal input (ide B) s cells ≡ done (outside_value B t.value) (token_taken s) cells
    outside_taken B {t} e h f =
        let k : (next_token input s).kind ≡ outside_kind = next_kind_lem e ∙ outside_token t h in
        terminal_met input (ide B) s cells (ap (λ u. meets_ide u B) k ∙ outside_met B f)
        ∙ ap (λ x. done x (token_taken s) cells)
        (ap (ide_value (next_token input s).kind B) (next_value e)
        ∙ outside_value_lem (next_token input s).kind B t.value (eq-eqb (next_token input s).kind outside_kind k))

    text_step_done : (C : ℕ → List ℕ → Run ℕ) (item : Item) {B : ℕ} (xs : List ℕ) {ts ts' : List Token} {i i' : ℕ} {v : Template}
        → drop s.at tokens ≡ ts → s.fresh ≡ i → TextReads ts i item ts' i' v
        → Finished (Returned (template_values G.outsides) tokens setting.rows B ts' i' v s 0 0 cells) (run_item C input item xs s cells)
    text_step_done C (terminal (keyword k)) xs e f (by_keyword {t = t} h) =
        taken shows_unit e f
        (kind_taken false tokens input tokens_are s cells (keyword_kind k) (λ v. 0)
        (next_kind_lem e ∙ ap (λ u. u.kind) (seen_other false t (λ q. omega arith)) ∙ h))
    text_step_done C (terminal (ide B)) xs e f (by_variable {t = t} A n h q w) =
        let small : t.kind < outside_kind = subst (λ u. u.kind < outside_kind) (first_left tokens s e).0 (setting.small s.at) in
        let k : (next_token input s).kind ≡ variable_kind A = next_kind_lem e ∙ ap (λ u. u.kind) (seen_other false t (λ z. omega arith)) ∙ h in
        let o : is_outside_kind (next_token input s).kind ≡ false = ne_eqb (next_token input s).kind outside_kind (λ z. omega arith) in
        taken (subst (λ y. ShowsTemplate cells s.made y (variable n)) (sym q) shows_variable) e f
        (terminal_met input (ide B) s cells (ap (λ u. meets_ide u B) k ∙ variable_met A B (omega arith) w)
        ∙ ap (λ x. done x (token_taken s) cells) (variable_value (next_token input s).kind B (next_token input s).value o ∙ next_value e))
    text_step_done C (terminal (place B)) xs e f (by_place {t = t} n h q) =
        taken (subst (λ y. ShowsTemplate cells s.made y (variable n)) (sym (next_value e ∙ q)) shows_variable) e f
        (kind_taken false tokens input tokens_are s cells (variable_kind B) (λ v. v)
        (next_kind_lem e ∙ ap (λ u. u.kind) (seen_other false t (λ z. omega arith)) ∙ h))
    text_step_done C (terminal (ide _)) xs e f (by_global h l) = taken shows_var e f (outside_taken var e h refl)
    text_step_done C (terminal (ide _)) xs e f (by_label h l) = taken shows_label e f (outside_taken label e h refl)
    text_step_done C (terminal number) xs e f x = elim x [ ]
    text_step_done C local xs e f x = elim x [ ]
    text_step_done C (call _ _) xs e f x = elim x [ ]

    -- What a rule reads is read to its end, and so is a fresh name.
    pub template_step_done : (C : ℕ → List ℕ → Run ℕ) (item : Item) {B : ℕ} (xs : List ℕ) {ts ts' : List Token} {i i' : ℕ} {v : Template}
        → drop s.at tokens ≡ ts → s.fresh ≡ i → TemplateReads ts i item ts' i' v
        → Finished (Returned (template_values G.outsides) tokens setting.rows B ts' i' v s 0 0 cells) (run_item C input item xs s cells)
    template_step_done C item xs e f (as_text r) = text_step_done C item xs e f r
    template_step_done C local xs e f as_fresh =
        record {
          value = fresh_name s.fresh;
          state = record { at = s.at; fresh = s.fresh + 1; calls = s.calls; made = s.made };
          cells = cells;
          is = refl;
          holds =
              fresh_returned s cells kept (subst (λ i. ShowsTemplate cells s.made (fresh_name s.fresh) (outside_label (fresh_name i))) f shows_label) e
              (ap (λ m. m + 1) f);
        }

  -- The strict run of a text reads templates.
  abbrev pub template_reader : TextReader G g (template_values G.outsides)
  template_reader =
      record {
        all = setting.all;
        declared = setting.declared;
        tokens = tokens;
        read = all_seen false tokens;
        as_many = seen_many false tokens;
        rows = setting.rows;
        picks = λ n l at. seen_picks false g n l tokens at (setting.small at);
        step-ends = λ C input e item w c xs s cells kept. template_step_ends input e s cells kept C item w c xs;
        step_done = λ C input e item w xs s cells kept q f r. template_step_done input e s cells kept C item xs q f r;
      }

-- ------------------------------------------------------------------ without a fresh name

-- items in sequence, over templates, fresh names among them
abbrev TemplateDerives : List Production → List Template → List Token → ℕ → List Item → List Token → ℕ → List Template → Type 0
TemplateDerives g M s i ps s' i' M' =
    ◌⊢⟨◌∣◌⟩◌⇒⟨◌∣◌⟩◌ Template TemplateReads (TextTaken g) (λ N t v. v ≡ substitute N t) (λ N ts vs. vs ≡ template_list (substitute_all N ts)) M s i ps s' i' M'

template_counts : {s s' : List Token} {i i' : ℕ} {p : Item} {v : Template} → TemplateReads s i p s' i' v → i ≤ i'
template_counts (as_text (by_keyword e)) = omega arith
template_counts (as_text (by_variable A n e f w)) = omega arith
template_counts (as_text (by_place n e f)) = omega arith
template_counts (as_text (by_global e l)) = omega arith
template_counts (as_text (by_label e l)) = omega arith
template_counts as_fresh = omega arith

derived_counts : {g : List Production} {M M' : List Template} {s s' : List Token} {i i' : ℕ} {ps : List Item} → TemplateDerives g M s i ps s' i' M' → i ≤ i'
derived_counts by_end = omega arith
derived_counts (by_terminal e d) = omega (arith, template_counts e, derived_counts d)
derived_counts (by_call vs t d v d') = omega (arith, derived_counts d, derived_counts d')

-- A derivation whose counter stays is one of a text, at the same cost,
pub derived_text : {g : List Production} {M M' : List Template} {s s' : List Token} {i i' : ℕ} {ps : List Item} (d : TemplateDerives g M s i ps s' i' M')
    → i' ≤ i → SameCosts TextReads d
derived_text by_end l = same_end
derived_text (by_terminal (as_text r) d) l = same_terminal r (derived_text d (omega (arith, template_counts (as_text r))))
derived_text (by_terminal as_fresh d) l = absurd (omega (arith, derived_counts d))
derived_text (by_call vs t d v d') l =
    same_call (derived_text d (omega (arith, derived_counts d'))) (derived_text d' (omega (arith, derived_counts d)))

-- and one of a text is such a derivation.
pub text_derived : {g : List Production} {M M' : List Template} {s s' : List Token} {i i' : ℕ} {ps : List Item} (d : TextDerives g M s i ps s' i' M')
    → SameCosts TemplateReads d
text_derived by_end = same_end
text_derived (by_terminal r d) = same_terminal (as_text r) (text_derived d)
text_derived (by_call vs t d v d') = same_call (text_derived d) (text_derived d')

-- ------------------------------------------------------------------ the whole text

module _ {G : Scope} {g : List Production} (setting : TextSetting G g) where
  -- A text's template by rules: it is derived from all tokens, within the limits and by as many rows as the run made.
  pub record ReadWithin (n : ℕ) (t : Template) (made : ℕ) : Type 0 where
    -- the derivation
    pub rule : TextDerives g [] setting.tokens 1 (call n none ∷ []) [] 1 (t ∷ [])
    -- it is within the limits
    pub affords : Affords setting.rows 0 0 0 rule
    -- its rows
    pub all_rows : rows_in rule ≡ made

  -- A text that is read: its template is derived, if no fresh name was made, and the number answered shows it.
  pub record Reads (n x : ℕ) (s : State) (cells : List ℕ) : Type 0 where
    -- its template
    pub value : Template
    -- the number shows it
    pub shows : ShowsTemplate cells s.made x value
    -- no more rows are made than there are
    pub few : s.made ≤ setting.rows
    -- fresh names are counted from 1
    pub counted : 1 ≤ s.fresh
    -- the rules derive it
    pub derived : s.fresh ≡ 1 → ReadWithin n value s.made

  -- a derivation of a text to any counter that is 1
  read_within : {n made i : ℕ} {t : Template} (d : TextDerives g [] setting.tokens 1 (call n none ∷ []) [] i (t ∷ [])) → Affords setting.rows 0 0 0 d
      → rows_in d ≡ made → i ≡ 1 → ReadWithin n t made
  read_within {n} {made} {t = t} d a e f =
      subst⁻¹
      (λ i. (d : TextDerives g [] setting.tokens 1 (call n none ∷ []) [] i (t ∷ [])) → Affords setting.rows 0 0 0 d → rows_in d ≡ made
      → ReadWithin n t made)
      f (λ d a e. record { rule = d; affords = a; all_rows = e }) d a e

  -- What a run of a text's tokens answers is derived by the rules, and the cells show it.
  pub run_reads : (n : ℕ) (S : Signature) (cells : List ℕ) → Newest G.env n S → S.params ≡ [] → setting.rows * columns ≤ length cells
      → Ends (Reads n) Any (run (strict_input setting) n cells)
  unfolding substitute template_list
  run_reads n S cells newest e room =
      ends_map (ReadWhole (template_reader setting) n S.result) Any (Reads n) Any (run (strict_input setting) n cells)
      (run_derived (template_reader setting) n S cells newest e refl room)
      (λ x s c d.
      record {
        value = d.value;
        shows = d.shows;
        few = d.few;
        counted = derived_counts d.rule;
        derived = λ f.
            let w = derived_text d.rule (omega (arith, f)) in read_within w.rule (same_affords w d.affords) (w.same_rows ∙ d.all_rows) f;
      })
      (λ r z. z)

  -- What a number shows that stands at a sort is read off the rows, a Unit too.
  pub read_sorted : {L : List ℕ} {made x B : ℕ} (cells : List ℕ) (t : Template) → G.outsides ≤ name_base → length L ≤ name_base → made ≤ name_base
      → ShowsTemplate cells made x t → SortedAt G.outsides L t B → text_template made cells B x ≡ t
  read_sorted cells t few short small h (A, w, f) = read_back few short cells t (omega arith) small h w f

  -- The template that is read off the cells of a text's run is the one that the rules derive from all its tokens, within the limits.
  pub text_read : {L : List ℕ} (n : ℕ) (S : Signature) (cells : List ℕ) → Newest G.env n S → S.params ≡ [] → setting.rows * columns ≤ length cells
      → AllNamed G.outsides L setting.tokens → G.outsides ≤ name_base → length L ≤ name_base → setting.rows ≤ name_base
      → {x : ℕ} {s : State} {cells' : List ℕ} → run (strict_input setting) n cells ≡ done x s cells' → s.fresh ≡ 1
      → ReadWithin n (text_template s.made cells' S.result x) s.made
  text_read {L = L} n S cells newest e room names few-names short small {x = x} {s = s} {cells' = cells'} runs f =
      let r : Reads n x s cells' = subst (Ends (Reads n) Any) runs (run_reads n S cells newest e room) in
      let d : ReadWithin n r.value s.made = r.derived f in
      let q : text_template s.made cells' S.result x ≡ r.value =
      read_sorted cells' r.value few-names short (omega (arith, r.few)) r.shows (text_sorted setting.all L newest e names d.rule) in
      subst (λ t. ReadWithin n t s.made) (sym q) d
