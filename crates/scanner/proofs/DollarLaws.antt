-- Laws of what the code finds where `$` may stand.
use Prim.Native.Nat.{ℕ, ◌+◌, ◌-◌, ◌<◌, ◌≤◌}
use mathlib.Core.Path.{◌≡◌, refl, sym, ap, ◌∙◌}
use mathlib.Core.Bool.{true, false, ◌&&◌}
use mathlib.Core.List.{List, [], ◌∷◌}
use native.Mathlib.Omega.{arith}
use lib.Dec.{eqb}
use lib.ListN.{length, get_or, take, drop, length-drop, get_or-eq_default, drop_of_length-le}
use lib.Seq.{drop-drop, get_or-drop}
use borrow.Author.Tests.{eq-eqb, ne_eqb, lt-ltb, leb-false}
use Rattle.spellings.specs.Bytes.{is_digit, is_symbol, longest_run, largest, value_of, is_number}
use Rattle.spellings.specs.Numbers.{number_of}
use Rattle.spellings.proofs.BytesLaws.{by_test, run_prefix, run_length}
use Rattle.grammar.specs.Table.{Lexicon}
use Rattle.grammar.specs.Variables.{most_variables}
use Rattle.kinds.specs.TextKinds.{variable_kind}
use Rattle.tokens.specs.declared.Step.TheVariants.{Emit}
use Rattle.tokens.specs.Tokens.{token, longest_formula}
use Rattle.tokens.specs.Variables.{dollar, dollar_digits, is_dollar, is_variable, dollars_below, variable_name, variable_token, VariableFront}
use Rattle.tokens.proofs.StepLaws.{front_byte, step_by_lem, rest_lent}
use Rattle.tokens.proofs.FrontLaws.{lexeme_variable}
use Rattle.tokens.proofs.VariableLaws.{no_variables, variable_front, none_found, none_above}
use Rattle.lexicon.specs.LexiconRoom.{variable_count_at, variables_at, sorts_in, lexicon_in, LexicalIn}
use Rattle.lexicon.proofs.SortLaws.{sorts_counted, sort_at}
use Rattle.std.proofs.Common.{Option, Some, None}
use Rattle.std.specs.Option.{is_some}
use Rattle.scanner.specs.Dollars.{variable_of, is_named}
use Rattle.scanner.specs.Stepping.{SymbolHere, Marks}

-- ------------------------------------------------------------------ `$` at an offset

module _ (text : List ℕ) (at : ℕ) where
  -- another byte is no `$`
  pub other_byte : (get_or text at 0 ≡ dollar → ⊥) → false ≡ is_dollar (drop at text)
  unfolding is_dollar
  other_byte other =
      let e : eqb (get_or (drop at text) 0 0) dollar ≡ false = ne_eqb (get_or (drop at text) 0 0) dollar (λ z. other (sym (front_byte text at) ∙ z)) in
      rw (e, is_dollar) refl

  -- `$` is one before a digit, by the byte behind it
  pub next_byte : get_or text at 0 ≡ dollar → is_digit (get_or text (at + 1) 0) ≡ is_dollar (drop at text)
  unfolding is_dollar
  next_byte here =
      let e : eqb (get_or (drop at text) 0 0) dollar ≡ true = eq-eqb (get_or (drop at text) 0 0) dollar (front_byte text at ∙ here) in
      rw (e, is_dollar) (ap is_digit (sym (get_or-drop at text 1 0)))

  -- at the end there is no digit behind it
  pub last_byte : get_or text at 0 ≡ dollar → at + 1 ≡ length text → false ≡ is_dollar (drop at text)
  last_byte here last =
      let past : length text ≤ at + 1 = omega arith in
      ap is_digit (sym (get_or-eq_default text 0 past)) ∙ next_byte here

  -- another byte begins no variable
  pub other_unnamed : (count : ℕ) → (get_or text at 0 ≡ dollar → ⊥) → is_variable count (drop at text) ≡ false
  other_unnamed count other = none_found (λ digits f. other (sym (front_byte text at) ∙ f.front.begins))

-- ------------------------------------------------------------------ the variable that it names

module _ (count : ℕ) (rest : List ℕ) where
  -- what is no variable is found to be none
  unnamed_is : is_variable count rest ≡ false → None ≡ variable_of count rest
  unnamed_is e = rw (e, variable_of) refl

  -- where there are no variables, there is none
  pub none_is : count ≡ 0 → None ≡ variable_of count rest
  none_is e = unnamed_is (rw e (no_variables rest))

  -- nor is there one where there is no `$` before a digit
  pub plain_is : false ≡ is_dollar rest → None ≡ variable_of count rest
  unfolding is_variable
  plain_is e = unnamed_is (rw (← e, is_variable) refl)

-- a number that is not too large is the value of its digits
value_told : (digits : List ℕ) {value : ℕ} → Some value ≡ number_of digits → value ≡ value_of digits
value_told digits {value} e =
    by_test (is_number digits) (λ t. let z : number_of digits ≡ Some (value_of digits) = rw (t, number_of) refl in cc)
    (λ t. let z : number_of digits ≡ None = rw (t, number_of) refl in let q : ◌≡◌ {A = ℕ} 0 1 = cc in absurd (omega arith))

large_told : (digits : List ℕ) → None ≡ number_of digits → largest < value_of digits
large_told digits e =
    by_test (is_number digits)
    (λ t. let z : number_of digits ≡ Some (value_of digits) = rw (t, number_of) refl in let q : ◌≡◌ {A = ℕ} 0 1 = cc in absurd (omega arith))
    (λ t. leb-false (value_of digits) largest t)

-- the digits behind an offset, as the code lends them
module _ (text : List ℕ) (at : ℕ) {size : ℕ} (counted : size ≡ length (longest_run is_digit (take (length text - (at + 1)) (drop (at + 1) text)))) where
  lent : take (length text - (at + 1)) (drop (at + 1) text) ≡ drop 1 (drop at text)
  lent = rest_lent text (at + 1) ∙ sym (drop-drop 1 at text)

  sized : size ≡ length (dollar_digits (drop at text))
  sized = cc (lent)

  taken : take size (take (length text - (at + 1)) (drop (at + 1) text)) ≡ dollar_digits (drop at text)
  taken = cc (lent, sized, run_prefix is_digit (drop 1 (drop at text)))

  -- they are fewer than the bytes of the text
  pub digits_few : at < length text → size < length text
  digits_few below = omega (arith, sized, run_length is_digit (drop 1 (drop at text)), length-drop 1 (drop at text), length-drop at text)

  -- digits worth less than `count` name a variable
  pub named_is : (count : ℕ) {value : ℕ} → true ≡ is_dollar (drop at text)
      → Some value ≡ number_of (take size (take (length text - (at + 1)) (drop (at + 1) text)))
      → value < count
      → Some (value, size + 1) ≡ variable_of count (drop at text)
  unfolding is_variable
  named_is count {value} here told below =
      let rest : List ℕ = drop at text in
      let v : value ≡ value_of (dollar_digits rest) = value_told _ told ∙ ap value_of taken in
      let e : is_variable count rest ≡ true = rw (← here, lt-ltb (value_of (dollar_digits rest)) count (omega arith), is_variable) refl in
      rw (e, variable_of, v, sized) refl

  -- digits worth more name none
  pub over_is : (count : ℕ) {value : ℕ} → Some value ≡ number_of (take size (take (length text - (at + 1)) (drop (at + 1) text))) → count ≤ value
      → None ≡ variable_of count (drop at text)
  over_is count told over = unnamed_is count (drop at text) (none_above count (drop at text) (omega (arith, value_told _ told, ap value_of taken)))

  -- nor do digits worth more than a number may be
  pub large_is : (count : ℕ) → None ≡ number_of (take size (take (length text - (at + 1)) (drop (at + 1) text))) → count ≤ most_variables
      → None ≡ variable_of count (drop at text)
  large_is count told few = unnamed_is count (drop at text) (none_above count (drop at text) (omega (arith, large_told _ told, ap value_of taken)))

-- what is found tells which variable stands at the front
record NamedBy (count : ℕ) (rest : List ℕ) (number size : ℕ) : Type 0 where
  -- it stands there
  front : VariableFront count rest (dollar_digits rest)
  -- its number is the value of its digits
  number_is : number ≡ value_of (dollar_digits rest)
  -- its token is `$` and the digits
  size_is : size ≡ 1 + length (dollar_digits rest)

module _ (count : ℕ) (rest : List ℕ) where
  named_found : is_variable count rest ≡ true → variable_of count rest ≡ Some (value_of (dollar_digits rest), length (dollar_digits rest) + 1)
  named_found e = rw (e, variable_of) refl

  named_by : {number size : ℕ} → Some (number, size) ≡ variable_of count rest → NamedBy count rest number size
  named_by {number} {size} found =
      by_test (is_variable count rest)
      (λ e.
      let z = named_found e in
      let same : ◌≡◌ {A = ℕ × ℕ} (number, size) (value_of (dollar_digits rest), length (dollar_digits rest) + 1) = cc in
      let n : number ≡ value_of (dollar_digits rest) = ap (λ (p : ℕ × ℕ). p.0) same in
      let l : size ≡ length (dollar_digits rest) + 1 = ap (λ (p : ℕ × ℕ). p.1) same in
      record { front = variable_front e; number_is = n; size_is = omega arith })
      (λ e. let z = unnamed_is count rest e in let q : ◌≡◌ {A = ℕ} 0 1 = cc in absurd (omega arith))

  unnamed_by : None ≡ variable_of count rest → is_variable count rest ≡ false
  unnamed_by found =
      by_test (is_variable count rest) (λ e. let z = named_found e in let q : ◌≡◌ {A = ℕ} 0 1 = cc in absurd (omega arith)) (λ e. e)

  -- ------------------------------------------------------------------ every `$` of a text

  -- what is no `$` before a digit may stand
  pub plain_named : false ≡ is_dollar rest → true ≡ is_named count rest
  plain_named e = rw (← e, is_named) refl

  -- so may a variable, and no other `$` before a digit
  pub dollar_named : true ≡ is_dollar rest → is_some (variable_of count rest) ≡ is_named count rest
  dollar_named here =
      by_test (is_variable count rest) (λ v. rw (← here, v, variable_of, is_named) refl) (λ v. rw (← here, v, variable_of, is_named) refl)

-- the text from an offset on passes exactly if the whole does
pub record Passing (count : ℕ) (text : List ℕ) (at : ℕ) : Type 0 where
  -- the offset is no further than the end
  pub within : at ≤ length text
  -- what is left gives what the whole gives
  pub rest : dollars_below count (drop at text) ≡ dollars_below count text

first_byte : (count : ℕ) (rest : List ℕ) → 0 < length rest → dollars_below count rest ≡ (is_named count rest && dollars_below count (drop 1 rest))
unfolding dollars_below
first_byte count [] some = absurd (omega arith)
first_byte count (b ∷ bs) some = refl

module _ {count : ℕ} {text : List ℕ} where
  -- at the front
  pub passing_start : Passing count text 0
  passing_start = record { within = omega arith; rest = refl }

  module _ {at : ℕ} (passing : Passing count text at) where
    step : at < length text → (is_named count (drop at text) && dollars_below count (drop (at + 1) text)) ≡ dollars_below count text
    step below =
        let some : 0 < length (drop at text) = omega (arith, length-drop at text) in
        cc (first_byte count (drop at text) some, drop-drop 1 at text, passing.rest)

    -- one more byte is passed
    pub passing_next : at < length text → true ≡ is_named count (drop at text) → Passing count text (at + 1)
    passing_next below named = record { within = omega arith; rest = rw (← named) at (step below) }

    -- a `$` that names none fails the whole
    pub passing_fails : at < length text → false ≡ is_named count (drop at text) → false ≡ dollars_below count text
    passing_fails below unnamed = rw (← unnamed) at (step below)

    -- at the end the whole passes
    pub passing_end : length text ≤ at → true ≡ dollars_below count text
    unfolding dollars_below
    passing_end past =
        let none : drop at text ≡ [] = drop_of_length-le text past in
        ap (dollars_below count) (sym none) ∙ passing.rest

-- ------------------------------------------------------------------ the step at a `$`

variable_marks : {lex : Lexicon} {at : ℕ} {rest : List ℕ} → VariableFront (length lex.variables) rest (dollar_digits rest)
    → Marks lex at rest (Emit (variable_token lex.variables at (dollar_digits rest)))
variable_marks {lex} {at} {rest} f =
    record {
      step_is = λ met. step_by_lem lex met at rest (lexeme_variable _ rest f);
      no_word =
          λ t e k.
          let z : (variable_token lex.variables at (dollar_digits rest)).kind ≡ t.kind = cc in
          omega (arith, z, k);
    }

-- a variable at an offset, by the lexicon's room
pub record VariableHere (table room formula : List ℕ) (at number size : ℕ) : Type 0 where
  -- its number is one of those that there may be
  pub few : number < most_variables
  -- the room has its sort
  pub held : variables_at + number < length room
  -- which is a byte
  pub small : get_or room (variables_at + number) 0 < 256
  -- its token is no longer than the formula
  pub ends : size ≤ length formula
  -- it makes a token of the kind of its sort
  pub marks : Marks (lexicon_in table room) at (drop at formula)
      (Emit (token (variable_kind (get_or room (variables_at + number) 0)) at size (variable_name number)))

-- what is found, by the variables that the lexicon's room has
module _ {table room tree : List ℕ} (rooms : LexicalIn table room tree) (formula : List ℕ) (at : ℕ) {count : ℕ}
    (counted : count ≡ get_or room variable_count_at 0) {variable : Option (ℕ × ℕ)} (found : variable ≡ variable_of count (drop at formula)) where
  sorts_many : count ≡ length (sorts_in room)
  sorts_many = counted ∙ sym (sorts_counted rooms.held.long rooms.sorts_fit)

  -- a variable that is found stands there
  pub variable_here : {number size : ℕ} → variable ≡ Some (number, size) → at < length formula → VariableHere table room formula at number size
  variable_here {number} {size} named inside =
      let rest : List ℕ = drop at formula in
      let told : NamedBy count rest number size = named_by count rest (sym named ∙ found) in
      let below : number < count = omega (arith, told.number_is, told.front.below) in
      let sort : get_or (sorts_in room) number 0 ≡ get_or room (variables_at + number) 0 = sort_at room number (omega arith) in
      let front : VariableFront (length (sorts_in room)) rest (dollar_digits rest) = rw (← sorts_many) told.front in
      record {
        few = omega (arith, rooms.sorts_fit.few);
        held = omega (arith, rooms.sorts_fit.few, rooms.held.long);
        small = rooms.sorts_fit.small number (omega arith);
        ends = omega (arith, told.size_is, run_length is_digit (drop 1 rest), length-drop 1 rest, length-drop at formula);
        marks = rw (← sort, told.number_is, told.size_is) (variable_marks front);
      }

  -- any other `$` is a symbol
  pub dollar_symbol : variable ≡ None → get_or formula at 0 ≡ dollar → at < length formula → length formula ≤ longest_formula
      → SymbolHere (lexicon_in table room) formula at
  dollar_symbol unnamed here below short =
      record {
        inside = below;
        short = short;
        symbol = rw here refl;
        unnamed = rw (← sorts_many) (unnamed_by count (drop at formula) (sym unnamed ∙ found));
      }

-- a symbol that is no `$`
pub other_symbol : (lex : Lexicon) {formula : List ℕ} {at : ℕ} → at < length formula → length formula ≤ longest_formula → is_symbol (get_or formula at 0) ≡ true
    → (get_or formula at 0 ≡ dollar → ⊥)
    → SymbolHere lex formula at
other_symbol lex {formula} {at} below short symbol other =
    record { inside = below; short = short; symbol = symbol; unnamed = other_unnamed formula at _ other }
