-- Every place of a derived term holds what its sort asks for, from the tokens of the formula or the names of the table.
use Prim.Native.Nat.{ℕ, ◌<◌}
use mathlib.Core.Path.{◌≡◌, refl}
use mathlib.Core.Bool.{true, and-eq-true_iff}
use mathlib.Core.List.{List, [], ◌∷◌, ◌++◌}
use Rattle.spellings.specs.Bytes.{is_word}
use Rattle.kinds.specs.Kinds.{word_kind}
use Rattle.grammar.specs.Table.{Template, Templates, none, more, Item}
use Rattle.grammar.specs.Table as Table
use Rattle.decoding.specs.Within.{Each, each_none, each_more, Among, among_first, among_later}
use Rattle.decoding.proofs.Spelled.{each_split}
use Rattle.judgements.specs.Judgements.{Sorted, Fill, fill_none, fill_more, Body, by_binding}
use Rattle.judgements.specs.Judgements as Judgements
use Rattle.tokens.specs.declared.Token.{Token}
use Rattle.productions.specs.Normal.{Production}
use Rattle.terms.specs.Term.{Name, Term, Fields}
use Rattle.terms.specs.Occurrences.{is_word_name, is_worded, is_worded_fields}
use Rattle.expansion.specs.Figure3.{Value, unit, var, binder, label, num, term, fields, Constructs, Bound, bound_first, bound_later, Gives, by_variable}
use Rattle.expansion.specs.Figure3.{by_global, by_label, by_constructor, by_unit, GiveAll, give_none, give_more, as_var, as_binder, as_label, ReadsAs}
use Rattle.expansion.specs.Figure3.{by_keyword, by_ide, by_number, by_local, Derives, by_end, by_terminal, by_call, Parses}
use Rattle.expansion.specs.Figure3 as Figure3
use Rattle.soundness.specs.Places.{Given, word_at, fresh_name, number_at, outside_name, outside_label, named_in, named_in_all, given_at, given_in}
use Rattle.soundness.specs.Places.{Supplied, supplied_word, supplied_fresh, supplied_number, supplied_outside, supplied_label}
use Rattle.soundness.specs.Places.{VarPlace, var_var, var_binder, var_local, var_outside, BinderPlace, binder_binder}
use Rattle.soundness.specs.Places.{binder_local, LabelPlace, label_label, label_outside, NumPlace, num_number, Placed, placed_variable, placed_function}
use Rattle.soundness.specs.Places.{placed_apply, placed_rcd, placed_dot, placed_number, PlacedFields, placed_nil, placed_cons}
use Rattle.soundness.proofs.Typing.{FitAll, taken_of, result_sorted}
use Rattle.elaboration.proofs.Normalizing.{each_append, each_at}
use Rattle.soundness.proofs.Setting.{Setting, root_body}

each_and : {A : Type 0} {P : A → Type 0} {xs : List A} {item : A} → Each P xs → P item → Each P (xs ++ (item ∷ []))
each_and each_none k = each_more k each_none
each_and (each_more h hs) k = each_more h (each_and hs k)

-- all of a list is in it
each_later : {A : Type 0} {item : A} {given xs : List A} → Each (Among given) xs → Each (Among (item ∷ given)) xs
each_later each_none = each_none
each_later (each_more h hs) = each_more (among_later h) (each_later hs)

each_has : {A : Type 0} (given : List A) → Each (Among given) given
each_has [] = each_none
each_has (x ∷ given) = each_more among_first (each_later (each_has given))

module _ (given : List Given) (spell : ℕ → List ℕ) where
  -- what a value holds was given where its sort says
  data From : Value → Type 0 where
    from_unit : From unit
    from_var : {name : Name} → VarPlace given spell name → From (var name)
    from_binder : {name : Name} → BinderPlace given spell name → From (binder name)
    from_label : {label_bytes : List ℕ} → LabelPlace given spell label_bytes → From (label label_bytes)
    from_num : {number : ℕ} → NumPlace given number → From (num number)
    from_term : {t : Term Name} → Placed given spell t → From (term t)
    from_fields : {list : Fields Name} → PlacedFields given spell list → From (fields list)

  binder_var : {name : Name} → BinderPlace given spell name → VarPlace given spell name
  binder_var (binder_binder h) = var_binder h
  binder_var (binder_local h) = var_local h

  bound_from : {M : List Value} {index : ℕ} {value : Value} → Each From M → Bound M index value → From value
  bound_from (each_more h hs) bound_first = h
  bound_from (each_more h hs) (bound_later b) = bound_from hs b
  bound_from each_none x = elim x [ ]

  constructs_from : {code : ℕ} {vs : List Value} {value : Value} → Constructs code vs value → Each From vs → From value
  constructs_from Figure3.makes_var (each_more (from_var x) each_none) = from_term (placed_variable x)
  constructs_from Figure3.makes_var_of_binder (each_more (from_binder x) each_none) = from_term (placed_variable (binder_var x))
  constructs_from Figure3.makes_fun (each_more (from_binder x) (each_more (from_term t) each_none)) = from_term (placed_function x t)
  constructs_from Figure3.makes_app (each_more (from_term t) (each_more (from_term u) each_none)) = from_term (placed_apply t u)
  constructs_from Figure3.makes_rcd (each_more (from_fields f) each_none) = from_term (placed_rcd f)
  constructs_from Figure3.makes_dot (each_more (from_term t) (each_more (from_label l) each_none)) = from_term (placed_dot t l)
  constructs_from Figure3.makes_nil each_none = from_fields placed_nil
  constructs_from Figure3.makes_cons (each_more (from_label l) (each_more (from_term t) (each_more (from_fields f) each_none))) =
      from_fields (placed_cons l t f)
  constructs_from Figure3.makes_num (each_more (from_num n) each_none) = from_term (placed_number n)

  first_of : {other : Given} {xs : List Given} → Each (Among given) (other ∷ xs) → Among given other
  first_of (each_more h hs) = h

  module _ {M : List Value} (each : Each From M) where
    mutual
      unfolding named_in named_in_all

      gives_from : (template : Template) {value : Value} → Each (Among given) (named_in template) → Gives spell M template value → From value
      gives_from (Table.variable i) a (by_variable b) = bound_from each b
      gives_from (Table.outside_var n) a by_global = from_var (var_outside (first_of a))
      gives_from (Table.outside_label n) a by_label = from_label (label_outside (first_of a))
      gives_from Table.unit a by_unit = from_unit
      gives_from (Table.make c ts) a (by_constructor g k) = constructs_from k (all_from ts a g)

      all_from : (ts : Templates) {vs : List Value} → Each (Among given) (named_in_all ts) → GiveAll spell M ts vs → Each From vs
      all_from none a give_none = each_none
      all_from (more t ts) a (give_more g gs) = let q = each_split (named_in t) a in each_more (gives_from t q.0 g) (all_from ts q.1 gs)

  terminal_from : {g : List Production} {s s' : List Token} {i i' : ℕ} {p : Item} {value : Value} (reads_as : ReadsAs g spell s i p s' i' value)
      → Each (Among given) (given_at reads_as) → From value
  unfolding given_at
  terminal_from (by_keyword reads_as) a = from_unit
  terminal_from (by_ide reads_as as_var) a = from_var (var_var (first_of a))
  terminal_from (by_ide reads_as as_binder) a = from_binder (binder_binder (first_of a))
  terminal_from (by_ide reads_as as_label) a = from_label (label_label (first_of a))
  terminal_from (by_number reads_as) a = from_num (num_number (first_of a))
  terminal_from by_local a = from_binder (binder_local (first_of a))

  items_from : {g : List Production} {M M' : List Value} {s s' : List Token} {i i' : ℕ} {is : List Item} (derives : Derives g spell M s i is s' i' M')
      → Each (Among given) (given_in derives) → Each From M → Each From M'
  unfolding given_in
  items_from by_end a m = m
  items_from (by_terminal e derives) a m =
      let q = each_split (given_at e) a in
      items_from derives q.1 (each_and m (terminal_from e q.0))
  items_from (by_call {ts = ts} {p = p} gs t derives q d') a m =
      let x = each_split (named_in_all ts) a in
      let y = each_split (given_in derives) x.1 in
      let z = each_split (named_in p.result) y.1 in
      let inner = items_from derives y.0 (all_from m ts x.0 gs) in
      items_from d' z.1 (each_and m (gives_from inner p.result z.0 q))

  from_placed : {t : Term Name} → Each From (term t ∷ []) → Placed given spell t
  from_placed (each_more (from_term h) each_none) = h

-- Every place of a derived term holds what its sort asks for.
pub parses_placed : {g : List Production} {spell : ℕ → List ℕ} {root : ℕ} {tokens : List Token} {other : Term Name} (parses : Parses g spell root tokens other)
    → Placed (given_in parses.derived) spell other
parses_placed {spell = spell} parses =
    let G = given_in parses.derived in
    from_placed G spell (items_from G spell parses.derived (each_has G) each_none)

-- ------------------------------------------------------------------ what is given

module _ {g : List Production} (fit_all : FitAll g) (tokens : List Token) (spell : ℕ → List ℕ) where
  abbrev N : ℕ
  N = fit_all.scope.outsides

  abbrev Known : Given → Type 0
  Known x = Supplied tokens N x

  mutual
    unfolding named_in named_in_all

    named_known : {L : List ℕ} {A : ℕ} (template : Template) → Sorted N L template A → Each Known (named_in template)
    named_known (Table.variable i) w = each_none
    named_known (Table.outside_var n) (Judgements.by_global l) = each_more (supplied_outside l) each_none
    named_known (Table.outside_label n) (Judgements.by_label l) = each_more (supplied_label l) each_none
    named_known (Table.make c ts) (Judgements.by_constructor l u f) = all_known ts f
    named_known Table.unit w = each_none

    all_known : {L Bs : List ℕ} (ts : Templates) → Fill N L ts Bs → Each Known (named_in_all ts)
    all_known none fill_none = each_none
    all_known (more t ts) (fill_more w f ws) = each_append (named_known t w) (all_known ts ws)

  -- a terminal leaves a part of the tokens
  terminal_known : {s s' : List Token} {i i' : ℕ} {p : Item} {value : Value} (reads_as : ReadsAs g spell s i p s' i' value) → Each (Among tokens) s
      → Each Known (given_at reads_as) × Each (Among tokens) s'
  unfolding given_at
  terminal_known (by_keyword reads_as) (each_more h hs) = (each_none, hs)
  terminal_known (by_ide reads_as w) (each_more h hs) = (each_more (supplied_word h reads_as) each_none, hs)
  terminal_known (by_number reads_as) (each_more h hs) = (each_more (supplied_number h reads_as) each_none, hs)
  terminal_known by_local hs = (each_more supplied_fresh each_none, hs)

  items_known : {M M' : List Value} {s s' : List Token} {i i' : ℕ} {is : List Item} {L : List ℕ} {result : Template} {B : ℕ}
      (derives : Derives g spell M s i is s' i' M') → Body fit_all.scope L is result B → Each (Among tokens) s
      → Each Known (given_in derives) × Each (Among tokens) s'
  unfolding given_in
  items_known by_end b a = (each_none, a)
  items_known (by_terminal e derives) (by_binding w b) a =
      let q = terminal_known e a in
      let z = items_known derives b q.1 in
      (each_append q.0 z.0, z.1)
  items_known (by_call {ts = ts} {p = p} gs t derives q d') (by_binding (Judgements.by_call w f) b) a =
      let body = (fit_all.each p (taken_of t).member).body in
      let x = items_known derives body a in
      let y = items_known d' b x.1 in
      (each_append (all_known ts f) (each_append x.0 (each_append (named_known p.result (result_sorted body).2) y.0)), y.1)

-- Whatever was given in a derivation is a token of the formula or a name of the table.
pub parses_supplied : {g : List Production} (setting : Setting g) {other : Term Name}
    (parses : Parses g setting.spell setting.root setting.tokens other)
    → Each (Supplied setting.tokens setting.fit.scope.outsides) (given_in parses.derived)
parses_supplied setting parses =
    (items_known setting.fit setting.tokens setting.spell parses.derived (root_body setting) (each_has setting.tokens)).0

-- ------------------------------------------------------------------ words

-- a word that is given is spelled as a word
abbrev Worded : (ℕ → List ℕ) → Given → Type 0
Worded spell (word_at B t) = is_word (spell t.value) ≡ true
Worded spell (fresh_name i) = Unit {0}
Worded spell (number_at t) = Unit {0}
Worded spell (outside_name n) = is_word (spell n) ≡ true
Worded spell (outside_label n) = is_word (spell n) ≡ true

module _ {tokens : List Token} {outside_count : ℕ} {given : List Given} (spell : ℕ → List ℕ) (known : Each (Supplied tokens outside_count) given)
    (words : (token : Token) → Among tokens token → token.kind ≡ word_kind → is_word (spell token.value) ≡ true)
    (outsides : (number : ℕ) → number < outside_count → is_word (spell number) ≡ true) where
  supplied_worded : {other : Given} → Supplied tokens outside_count other → Worded spell other
  supplied_worded (supplied_word h e) = words _ h e
  supplied_worded supplied_fresh = tt
  supplied_worded (supplied_number h e) = tt
  supplied_worded (supplied_outside l) = outsides _ l
  supplied_worded (supplied_label l) = outsides _ l

  worded : {other : Given} → Among given other → Worded spell other
  worded h = supplied_worded (each_at known h)

  var_worded : {name : Name} → VarPlace given spell name → is_word_name name ≡ true
  var_worded (var_var h) = worded h
  var_worded (var_binder h) = worded h
  var_worded (var_local h) = refl
  var_worded (var_outside h) = worded h

  label_worded : {label_bytes : List ℕ} → LabelPlace given spell label_bytes → is_word label_bytes ≡ true
  label_worded (label_label h) = worded h
  label_worded (label_outside h) = worded h

  mutual
    unfolding is_worded is_worded_fields

    -- a term whose names are placed has words only
    pub placed_worded : {other : Term Name} → Placed given spell other → is_worded other ≡ true
    placed_worded (placed_variable x) = var_worded x
    placed_worded (placed_function x t) = (and-eq-true_iff _ _).1 (var_worded (binder_var given spell x), placed_worded t)
    placed_worded (placed_apply t u) = (and-eq-true_iff _ _).1 (placed_worded t, placed_worded u)
    placed_worded (placed_rcd f) = fields_worded f
    placed_worded (placed_dot t l) = (and-eq-true_iff _ _).1 (placed_worded t, label_worded l)
    placed_worded (placed_number n) = refl

    fields_worded : {list : Fields Name} → PlacedFields given spell list → is_worded_fields list ≡ true
    fields_worded placed_nil = refl
    fields_worded (placed_cons l t f) = (and-eq-true_iff _ _).1 ((and-eq-true_iff _ _).1 (label_worded l, placed_worded t), fields_worded f)
