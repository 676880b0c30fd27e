-- A text that Figure 3 derives within the limits, over any values that a reading may give, is run to its end, and its cells show the value.
use Prim.Native.Nat.{ℕ, zero, suc, ◌+◌, ◌*◌, ◌≤◌, ◌<◌}
use mathlib.Core.Path.{◌≡◌, refl, sym, ap, subst, subst₂, ◌∙◌}
use mathlib.Core.Bool.{false, true≢false}
use mathlib.Core.List.{List, [], ◌∷◌, ◌++◌}
use native.Mathlib.Omega.{arith}
use lib.Dec.{ltb}
use lib.ListN.{length, drop, length-drop}
use borrow.Author.Tests.{lt-ltb, le-ltb}
use Rattle.grammar.specs.Sorts.{Signature}
use Rattle.grammar.specs.Table.{Template, Templates, none, Item, call}
use Rattle.terms.specs.Cells.{columns}
use Rattle.tokens.specs.declared.Token.{Token}
use Rattle.productions.specs.Normal.{Production}
use Rattle.judgements.specs.Scopes.{Scope}
use Rattle.judgements.specs.Judgements.{Newest, Fits, Sorted, Fill, Body, by_result, by_binding}
use Rattle.judgements.specs.Judgements as Judgements
use Rattle.expansion.specs.declared.State.{State}
use Rattle.expansion.specs.Run.{Result, done, Run, after}
use Rattle.expansion.specs.Limits.{most_calls}
use Rattle.expansion.specs.Figure3.{by_end, by_terminal, by_call}
use Rattle.expansion.specs.Costs.{rows_of, rows_of_all, open_in, calls_in, rows_in, Affords}
use Rattle.expansion.specs.Expansion.{Input, build, build_all, run_item, run_items, call_begun, run_call, initial_state, ended, run}
use Rattle.expansion.proofs.CallLaws.{inner, call_chosen}
use Rattle.expansion.proofs.Choosing.{rule}
use Rattle.expansion.proofs.Endings.{Made, Full}
use Rattle.expansion.proofs.Shows.{Grown, grown_not, grown_trans}
use Rattle.texts.specs.ReadingRules.{TextTaken}
use Rattle.texts.proofs.TextChoice.{taken_of}
use Rattle.texts.proofs.TextSetting.{Kept}
use Rattle.texts.proofs.TextValues.{Finished, finished, TakenOnce, once_chosen, show_none, show_and, Values, ValueDerives, Returned, TextReader}
use Rattle.texts.proofs.TextValues.{whole_input, Lends, lends_whole, lends_inner, Shown, shown_later, arguments_built, result_built, choice_picked}

module _ {G : Scope} {g : List Production} {values : Values G.outsides} (reader : TextReader G g values) (once : TakenOnce g) where
  abbrev tokens : List Token
  tokens = reader.tokens

  abbrev rows : ℕ
  rows = reader.rows

  abbrev left : State → List Token
  left s = drop s.at tokens

  -- ------------------------------------------------------------------ items and calls

  -- items that have been run
  record Went (t : Template) (B : ℕ) (ts : List Token) (i : ℕ) (M : List values.Value) (s : State) (calls made : ℕ) (cells : List ℕ) (ys : List ℕ)
      (s' : State) (cells' : List ℕ) : Type 0 where
    -- the tokens left
    left_is : left s' ≡ ts
    -- the counter of fresh names
    fresh_is : s'.fresh ≡ i
    -- so many calls are begun
    calls_is : s'.calls ≡ s.calls + calls
    -- so many rows are made
    made_is : s'.made ≡ s.made + made
    -- rows are added only
    grown : Grown s.made cells s'.made cells'
    -- the room is kept
    kept : Kept rows s' cells'
    -- the sorts of the variables
    sorts : List ℕ
    -- numbers show the values
    shown : Shown values s'.made cells' sorts ys M
    -- the sort of the result
    sort : ℕ
    -- it has this sort
    sorted : Sorted G.outsides sorts t sort
    -- which fits
    fitting : Fits sort B

  -- a call whose production is taken runs it
  call_runs : (depth n : ℕ) (S : Signature) {input : Input} → Lends reader input → Newest G.env n S → (xs : List ℕ) (s : State) (cells : List ℕ)
      (p : Production) → s.calls < most_calls → TextTaken g n (left s) p
      → run_call (suc depth) input n xs s cells
      ≡ after (run_items (run_call depth input) (inner input s) p.items xs (call_begun s) cells) (λ M. build p.result (inner input s) M)
  call_runs depth n S {input} lends newest xs s cells p l t =
      call_chosen depth input n xs s cells (rule g p) (lt-ltb s.calls most_calls l) (once_chosen once t (choice_picked reader lends s n S newest))

  -- items that are run, from any numbers that show M
  abbrev Runs : ℕ → List Item → Template → ℕ → List ℕ → List Token → ℕ → List Token → ℕ → List values.Value → List values.Value → ℕ → ℕ → Type 0
  Runs depth is t B L ts i ts' i' M M' calls made =
      (callee input : Input) → Lends reader callee → Lends reader input → (xs : List ℕ) (s : State) (cells : List ℕ) → left s ≡ ts → s.fresh ≡ i
      → Kept rows s cells → Shown values s.made cells L xs M → s.calls + calls ≤ most_calls → s.made + made ≤ rows
      → Finished (Went t B ts' i' M' s calls made cells) (run_items (run_call depth callee) input is xs s cells)

  -- the result of an alternative whose items are run
  result_done : {input : Input} → Lends reader input → (p : Production) {B : ℕ} {ts : List Token} {i : ℕ} {M : List values.Value} {v : values.Value}
      {calls made : ℕ} (s : State) (cells ys : List ℕ) (s₁ : State) (c₁ : List ℕ) → Went p.result B ts i M (call_begun s) calls made cells ys s₁ c₁
      → v ≡ values.give M p.result → s.made + (made + rows_of p.result) ≤ rows
      → Finished (Returned values tokens rows B ts i v s (calls + 1) (made + rows_of p.result) cells) (build p.result input ys s₁ c₁)
  result_done {input} lends p {B = B} {M = M} {v = v} s cells ys s₁ c₁ k e m =
      let r =
      finished (λ x s₂ c₂. Made rows (rows_of p.result) s₁ c₁ s₂ c₂ × values.Shows c₂ s₂.made B x (values.give M p.result))
      (Full rows (s₁.made + rows_of p.result)) (build p.result input ys s₁ c₁)
      (result_built reader lends p.result s₁ c₁ k.sorted k.fitting k.kept k.shown) (λ u h. omega (arith, h.beyond, k.made_is)) in
      record {
        value = r.value;
        state = r.state;
        cells = r.cells;
        is = r.is;
        holds =
            record {
              left_is = ap (λ at. drop at tokens) r.holds.0.at_kept ∙ k.left_is;
              fresh_is = r.holds.0.fresh_kept ∙ k.fresh_is;
              calls_is = omega (arith, r.holds.0.calls_kept, k.calls_is);
              made_is = omega (arith, r.holds.0.made_is, k.made_is);
              grown = grown_trans k.grown r.holds.0.grown;
              kept = record { room = rw r.holds.0.grown.as_many k.kept.room; fits = r.holds.0.fits };
              shows = subst (values.Shows r.cells r.state.made B r.value) (sym e) r.holds.1;
            };
      }

  -- a call whose production's items are run
  call_done : (depth n : ℕ) (S : Signature) (p : Production) {ts ts₁ : List Token} {i i₁ : ℕ} {vs M : List values.Value} {v : values.Value}
      {calls made : ℕ} → Newest G.env n S → Runs depth p.items p.result S.result S.params ts i ts₁ i₁ vs M calls made → TextTaken g n ts p
      → v ≡ values.give M p.result → {input : Input} → Lends reader input → (xs : List ℕ) (s : State) (cells : List ℕ) → left s ≡ ts → s.fresh ≡ i
      → Kept rows s cells → Shown values s.made cells S.params xs vs → s.calls + (calls + 1) ≤ most_calls
      → s.made + (made + rows_of p.result) ≤ rows
      → Finished (Returned values tokens rows S.result ts₁ i₁ v s (calls + 1) (made + rows_of p.result) cells) (run_call (suc depth) input n xs s cells)
  call_done depth n S p newest runs t e {input} lends xs s cells here count kept a c m =
      let within = lends_inner reader lends s in
      let k =
      runs input (inner input s) lends within xs (call_begun s) cells here count (record { room = kept.room; fits = kept.fits }) a (omega arith)
      (omega arith) in
      let r = result_done within p s cells k.value k.state k.cells k.holds e m in
      record {
        value = r.value;
        state = r.state;
        cells = r.cells;
        is =
            call_runs depth n S lends newest xs s cells p (omega arith) (subst (λ l. TextTaken g n l p) (sym here) t)
            ∙ ap (λ y. after y (λ N. build p.result (inner input s) N)) k.is
            ∙ r.is;
        holds = r.holds;
      }

  -- the same behind its arguments
  item_done : (C : ℕ → List ℕ → Run ℕ) {input : Input} → Lends reader input → (n B : ℕ) (ts : Templates) {L Bs : List ℕ} {M : List values.Value}
      {v : values.Value} {tokens₀ tokens₁ : List Token} {i i₁ : ℕ} {calls made : ℕ} → Fill G.outsides L ts Bs
      → ((xs : List ℕ) (s : State) (cells : List ℕ) → left s ≡ tokens₀ → s.fresh ≡ i → Kept rows s cells
      → Shown values s.made cells Bs xs (values.give_all M ts) → s.calls + calls ≤ most_calls → s.made + made ≤ rows
      → Finished (Returned values tokens rows B tokens₁ i₁ v s calls made cells) (C n xs s cells))
      → (xs : List ℕ) (s : State) (cells : List ℕ) → left s ≡ tokens₀ → s.fresh ≡ i → Kept rows s cells → Shown values s.made cells L xs M
      → s.calls + calls ≤ most_calls → s.made + (rows_of_all ts + made) ≤ rows
      → Finished (Returned values tokens rows B tokens₁ i₁ v s calls (rows_of_all ts + made) cells) (run_item C input (call n ts) xs s cells)
  item_done C {input} lends n B ts {Bs = Bs} {M = M} fill callee xs s cells here count kept a c m =
      let j =
      finished (λ ys s₁ c₁. Made rows (rows_of_all ts) s cells s₁ c₁ × Shown values s₁.made c₁ Bs ys (values.give_all M ts))
      (Full rows (s.made + rows_of_all ts)) (build_all ts input xs s cells) (arguments_built reader lends ts s cells fill kept a)
      (λ r h. omega (arith, h.beyond)) in
      let k =
      callee j.value j.state j.cells (ap (λ at. drop at tokens) j.holds.0.at_kept ∙ here) (j.holds.0.fresh_kept ∙ count)
      (record { room = rw j.holds.0.grown.as_many kept.room; fits = j.holds.0.fits }) j.holds.1
      (omega (arith, j.holds.0.calls_kept)) (omega (arith, j.holds.0.made_is)) in
      record {
        value = k.value;
        state = k.state;
        cells = k.cells;
        is = ap (λ y. after y (λ zs. C n zs)) j.is ∙ k.is;
        holds =
            record {
              left_is = k.holds.left_is;
              fresh_is = k.holds.fresh_is;
              calls_is = omega (arith, k.holds.calls_is, j.holds.0.calls_kept);
              made_is = omega (arith, k.holds.made_is, j.holds.0.made_is);
              grown = grown_trans j.holds.0.grown k.holds.grown;
              kept = k.holds.kept;
              shows = k.holds.shows;
            };
      }

  -- an item that is run, and then the items behind it
  then_done : (depth : ℕ) (item : Item) (is : List Item) {t : Template} {A B : ℕ} {L : List ℕ} {v : values.Value} {ts ts' : List Token} {i i' : ℕ}
      {M M' : List values.Value} {calls calls' made made' : ℕ} → Runs depth is t B (L ++ (A ∷ [])) ts i ts' i' (M ++ (v ∷ [])) M' calls' made'
      → {callee input : Input} → Lends reader callee → Lends reader input
      → (xs : List ℕ) (s : State) (cells : List ℕ) → Shown values s.made cells L xs M
      → Finished (Returned values tokens rows A ts i v s calls made cells) (run_item (run_call depth callee) input item xs s cells)
      → s.calls + (calls + calls') ≤ most_calls → s.made + (made + made') ≤ rows
      → Finished (Went t B ts' i' M' s (calls + calls') (made + made') cells) (run_items (run_call depth callee) input (item ∷ is) xs s cells)
  unfolding run_items
  then_done depth item is runs {callee} {input} lends within xs s cells a f c m =
      let h = f.holds in
      let q =
      runs callee input lends within (xs ++ (f.value ∷ [])) f.state f.cells h.left_is h.fresh_is h.kept
      (show_and (shown_later values h.grown a) h.shows) (omega (arith, h.calls_is)) (omega (arith, h.made_is)) in
      let w = q.holds in
      record {
        value = q.value;
        state = q.state;
        cells = q.cells;
        is = ap (λ x. after x (λ y. run_items (run_call depth callee) input is (xs ++ (y ∷ [])))) f.is ∙ q.is;
        holds =
            record {
              left_is = w.left_is;
              fresh_is = w.fresh_is;
              calls_is = omega (arith, w.calls_is, h.calls_is);
              made_is = omega (arith, w.made_is, h.made_is);
              grown = grown_trans h.grown w.grown;
              kept = w.kept;
              sorts = w.sorts;
              shown = w.shown;
              sort = w.sort;
              sorted = w.sorted;
              fitting = w.fitting;
            };
      }

  recounted : {t : Template} {B : ℕ} {ts : List Token} {i : ℕ} {M : List values.Value} {s : State} {cells : List ℕ} {calls calls' made made' : ℕ}
      {result : Result (List ℕ)} → calls ≡ calls' → made ≡ made' → Finished (Went t B ts i M s calls made cells) result
      → Finished (Went t B ts i M s calls' made' cells) result
  recounted {t} {B} {ts} {i} {M} {s} {cells} {result = result} e f h = subst₂ (λ c m. Finished (Went t B ts i M s c m cells) result) e f h

  -- items that are derived within the limits are run
  items_done : (depth : ℕ) {M M' : List values.Value} {ts ts' : List Token} {i i' : ℕ} {is : List Item} (d : ValueDerives values g M ts i is ts' i' M')
      {L : List ℕ} {t : Template} {B : ℕ} → Body G L is t B → open_in d ≤ depth → Runs depth is t B L ts i ts' i' M M' (calls_in d) (rows_in d)
  unfolding open_in calls_in rows_in run_items
  items_done depth by_end {L = L} (by_result {A = A} h f) o callee input lends within xs s cells e n kept a c m =
      record {
        value = xs;
        state = s;
        cells = cells;
        is = refl;
        holds =
            record {
              left_is = e;
              fresh_is = n;
              calls_is = omega arith;
              made_is = omega arith;
              grown = grown_not s.made cells;
              kept = kept;
              sorts = L;
              shown = a;
              sort = A;
              sorted = h;
              fitting = f;
            };
      }
  items_done depth (by_terminal {p = p} {ps = ps} r d) (by_binding h b) o callee input lends within xs s cells e n kept a c m =
      recounted (omega arith) (omega arith)
      (then_done depth p ps (items_done depth d b o) lends within xs s cells a
      (reader.step_done (run_call depth callee) input within.tokens_are p h xs s cells kept e n r) (omega arith) (omega arith))
  items_done zero (by_call vs t d v d') w o callee input lends within xs s cells e count kept a c m = absurd (omega arith)
  items_done (suc depth) {M = M} (by_call {M₁ = M₁} {n = n} {ts = ts} {ps = ps} {v = v} {p = p} vs t d g' d')
      (by_binding (Judgements.by_call {S = S} newest fill) b) o callee input lends within xs s cells e count kept a c m =
      recounted (omega arith) (omega arith)
      (then_done (suc depth) (call n ts) ps (items_done (suc depth) d' b (omega arith)) lends within xs s cells a
      (item_done (run_call (suc depth) callee) within n S.result ts fill
      (λ ys s₁ c₁ h j k w x y.
      call_done depth n S p newest (items_done depth d (reader.all.production_sorted n S p newest (taken_of t)) (omega arith)) t g' lends ys s₁ c₁ h j k
      (subst (Shown values s₁.made c₁ S.params ys) (sym vs) w) x y)
      xs s cells e count kept a (omega arith) (omega arith))
      (omega arith) (omega arith))

  -- ------------------------------------------------------------------ the whole text

  -- nothing is left over
  ended_done : (x : ℕ) (s : State) (cells : List ℕ) → left s ≡ [] → ended (whole_input reader) x s cells ≡ done x s cells
  ended_done x s cells e =
      let l : length tokens ≤ s.at = omega (arith, length-drop s.at tokens, ap length e) in
      let q : ltb s.at (length reader.read) ≡ false = le-ltb s.at (length reader.read) (omega (arith, reader.as_many)) in
      rw (q, ended) refl

  -- A value that the rules derive of a text within the limits is read: the run ends with its counter and its rows, and shows the value.
  pub run_done : (n : ℕ) (S : Signature) (cells : List ℕ) → Newest G.env n S → S.params ≡ [] → values.give_all [] none ≡ []
      → rows * columns ≤ length cells → {i : ℕ} {v : values.Value} (d : ValueDerives values g [] tokens 1 (call n none ∷ []) [] i (v ∷ []))
      → Affords rows 0 0 0 d
      → Finished (λ x s cells'. values.Shows cells' s.made S.result x v × (s.fresh ≡ i) × (s.made ≡ rows_in d)) (run (whole_input reader) n cells)
  unfolding open_in calls_in rows_in rows_of run
  run_done n S cells newest none-asked f room (by_terminal r d) affords = absurd (true≢false (values.no_call r))
  run_done n S cells newest none-asked f room (by_call {p = p} vs tk d₁ v by_end) affords =
      let q =
      call_done 1023 n S p newest (items_done 1023 d₁ (reader.all.production_sorted n S p newest (taken_of tk)) (omega (arith, affords.few_open))) tk v
      (lends_whole reader) [] initial_state cells refl refl (record { room = room; fits = omega arith })
      (subst₂ (λ L ws. Shown values 0 cells L [] ws) (sym none-asked) (sym (vs ∙ f)) show_none)
      (omega (arith, affords.few_calls)) (omega (arith, affords.few_rows)) in
      record {
        value = q.value;
        state = q.state;
        cells = q.cells;
        is = ap (λ y. after y (ended (whole_input reader))) q.is ∙ ended_done q.value q.state q.cells q.holds.left_is;
        holds = (q.holds.shows, q.holds.fresh_is, omega (arith, q.holds.made_is));
      }
