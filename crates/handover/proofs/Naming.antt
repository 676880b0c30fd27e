-- What the last step of an expansion asks of names, from the scan of a formula under a passed table.
use Rattle.std.specs.Prelude.{Ok}
use Prim.Native.Nat.{ℕ, zero, suc, ◌+◌, ◌<◌, ◌≤◌}
use mathlib.Core.Path.{◌≡◌, refl, sym, ap, ◌∙◌}
use mathlib.Core.Bool.{true}
use mathlib.Core.List.{List, []}
use native.Mathlib.Omega.{arith}
use lib.ListN.{length, get_or}
use Rattle.grammar.specs.Limits.{most}
use Rattle.spellings.specs.Bytes.{is_word}
use Rattle.grammar.specs.Lookup.{lexicon_of}
use Rattle.decoding.specs.Within.{Each, each_none, each_more, Different, different_none, different_more, Among}
use Rattle.decoding.proofs.Split.{Bytes}
use Rattle.tokens.specs.Scan.{scan}
use Rattle.scanner.specs.Rooms.{words_from, words_in}
use Rattle.tokens.specs.Tokens.{spelled}
use Rattle.tokens.proofs.WordsOfScan.{scan_plain}
use Rattle.tokens.proofs.ScannerTheorems.{tokens_counted}
use Rattle.writer.specs.Pool.{spelling_room}
use Rattle.writer.specs.Pool.{one_of, spanned, spelled_by, Words}
use Rattle.writer.proofs.SpellLaws.{Once, word_length, short_words, apart_lists, spelled_lists}
use Rattle.terms.specs.Term.{Name, outside, Term, Fields}
use Rattle.terms.specs.Names.{Distinct, VariableName, BinderName, WellNamed, WellNamedFields}
use Rattle.kinds.specs.Kinds.{word_kind}
use Rattle.tokens.specs.declared.Token.{Token}
use Rattle.soundness.specs.Places.{Given, word_at, outside_name, VarPlace, var_var, var_binder, var_local, var_outside, BinderPlace, binder_binder}
use Rattle.soundness.specs.Places.{binder_local, Placed, placed_variable, placed_function, placed_apply, placed_rcd, placed_dot, placed_number, PlacedFields}
use Rattle.soundness.specs.Places.{placed_nil, placed_cons}
use Rattle.soundness.specs.Places.{Supplied, supplied_word, supplied_outside}
use Rattle.elaboration.proofs.Normalizing as normalizing
use Rattle.checker.proofs.PassedNames.{NamesWithin, names_within}
use Rattle.checker.specs.Syntax.{syntax_of}
use Rattle.checker.specs.Passes.{Passes}
use Rattle.parser.proofs.Joining.{outsides_passed}

-- ------------------------------------------------------------------ lists

each_at : {A : Type 0} {P : A → Type 0} {xs : List A} → Each P xs → (index : ℕ) (default : A) → index < length xs → P (get_or xs index default)
each_at each_none index default l = absurd (omega arith)
each_at (each_more h hs) zero default l = h
each_at (each_more h hs) (suc index) default l = each_at hs index default (omega arith)

-- Different spellings stand once each.
pub different_once : {words : List (List ℕ)} → Different words → Once words
different_once different_none i j a b e = absurd (omega arith)
different_once (different_more h d) zero zero a b e = refl
different_once (different_more h d) zero (suc j) a b e = absurd (each_at h j [] (omega arith) e)
different_once (different_more h d) (suc i) zero a b e = absurd (each_at h i [] (omega arith) (sym e))
different_once (different_more h d) (suc i) (suc j) a b e = ap suc (different_once d i j (omega arith) (omega arith) e)

-- word `first` of those that a room of places names
words_at : (count first index : ℕ) (formula room : List ℕ) → index < count
    → get_or (words_from count formula room first) index [] ≡ spanned formula room (first + index)
unfolding words_from
words_at zero first index formula room h = absurd (omega arith)
words_at (suc count) first zero formula room h = let z : first + 0 ≡ first = omega arith in rw z refl
words_at (suc count) first (suc index) formula room h =
    let z : first + 1 + index ≡ first + suc index = omega arith in
    words_at count (first + 1) index formula room (omega arith) ∙ ap (spanned formula room) z

-- ------------------------------------------------------------------ names of a derived term

module _ {tokens : List Token} {outside_count : ℕ} {given : List Given} (spell : ℕ → List ℕ) (few : outside_count ≤ most.outsides)
    (known : Each (Supplied tokens outside_count) given)
    (words : (token : Token) → Among tokens token → token.kind ≡ word_kind → is_word (spell token.value) ≡ true)
    (outsides : (many : ℕ) → many < outside_count → is_word (spell many) ≡ true) where
  word_given : {B : ℕ} {token : Token} → Supplied tokens outside_count (word_at B token) → is_word (spell token.value) ≡ true
  word_given (supplied_word h e) = words _ h e

  outside_given : {index : ℕ} → Supplied tokens outside_count (outside_name index) → VariableName spell (outside (spell index))
  outside_given {index} (supplied_outside l) = (index, omega arith, refl, outsides index l)

  variable_named : {name : Name} → VarPlace given spell name → VariableName spell name
  variable_named (var_var h) = word_given (normalizing.each_at known h)
  variable_named (var_binder h) = word_given (normalizing.each_at known h)
  variable_named (var_local h) = tt
  variable_named (var_outside h) = outside_given (normalizing.each_at known h)

  binder_named : {name : Name} → BinderPlace given spell name → BinderName spell name
  binder_named (binder_binder h) = word_given (normalizing.each_at known h)
  binder_named (binder_local h) = tt

  mutual
    unfolding WellNamed WellNamedFields

    -- Of a term whose parts are of the sorts that their places demand, every name is one that can be printed.
    pub placed_named : {other : Term Name} → Placed given spell other → WellNamed spell other
    placed_named (placed_variable x) = variable_named x
    placed_named (placed_function x t) = (binder_named x, placed_named t)
    placed_named (placed_apply t u) = (placed_named t, placed_named u)
    placed_named (placed_rcd f) = fields_named f
    placed_named (placed_dot t l) = placed_named t
    placed_named (placed_number n) = tt

    fields_named : {fields : Fields Name} → PlacedFields given spell fields → WellNamedFields spell fields
    fields_named placed_nil = tt
    fields_named (placed_cons l t f) = (placed_named t, fields_named f)

-- ------------------------------------------------------------------ a passed table

module _ (bs : List ℕ) (bytes : Bytes bs) (passes : Passes bs) where
  -- the names of the table
  names : NamesWithin passes.written passes.table
  names = names_within passes.within passes.meets

  -- An outside name fits the room of a spelling.
  pub outsides_fit_lem : (number : ℕ) → length (one_of (lexicon_of bs).outsides number) < spelling_room
  outsides_fit_lem number =
      rw (outsides_passed bytes passes) (short_words passes.table.outsides (λ i l. each_at names.outsides i [] l) number)

  module _ (formula words : List ℕ) {many count : ℕ} (answered : (scan (syntax_of passes.table).lexicon formula).answer ≡ Ok (many, count))
      (words_are : words_in formula words count ≡ (scan (syntax_of passes.table).lexicon formula).words) where
    words_list : Words formula words count (scan (syntax_of passes.table).lexicon formula).words
    words_list =
        record {
          many = sym (tokens_counted (syntax_of passes.table).lexicon names.outside_count formula answered).1;
          each =
              λ i l.
              let z : 0 + i ≡ i = omega arith in
              rw (← words_are) (words_at count 0 i formula words l ∙ ap (spanned formula words) z);
        }

    -- The spellings that the last step reads are those of the formula's words and the table's outside names.
    pub spelled_by_lem : spelled_by bs formula words count ≡ spelled (syntax_of passes.table).lexicon (scan (syntax_of passes.table).lexicon formula).words
    spelled_by_lem =
        spelled_lists bs formula words (scan (syntax_of passes.table).lexicon formula).words words_list
        ∙ ap
        (λ (names : List (List ℕ)).
        spelled (record { keywords = []; outsides = names; variables = [] }) (scan (syntax_of passes.table).lexicon formula).words)
        (outsides_passed bytes passes)

    -- So has a word of the formula.
    pub words_fit_lem : (index : ℕ) → index < count → length (spanned formula words index) < spelling_room
    words_fit_lem index l =
        let plain = scan_plain (syntax_of passes.table).lexicon names.outside_count formula in
        let at = words_list.each index l in
        omega (
          arith,
          word_length (get_or (scan (syntax_of passes.table).lexicon formula).words index []) (plain.are_words index (omega (arith, words_list.many))),
          ap length at,
        )

    -- Different numbers stand for different spellings.
    pub distinct : Distinct (spelled_by bs formula words count)
    distinct =
        let plain = scan_plain (syntax_of passes.table).lexicon names.outside_count formula in
        rw spelled_by_lem
        (apart_lists (syntax_of passes.table).lexicon (scan (syntax_of passes.table).lexicon formula).words
        (different_once names.outsides_differ) plain.once plain.no_outside)
