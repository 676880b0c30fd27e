-- What is known of the lexeme at the front and of the token made of it.
use Prim.Native.Nat.{ℕ, suc, ◌-◌, ◌<◌, ◌≤◌}
use mathlib.Core.Path.{◌≡◌, refl, sym, ap, ◌∙◌, subst}
use mathlib.Core.Bool.{Bool, true, false}
use mathlib.Core.List.{List, [], ◌∷◌}
use native.Mathlib.Nat.{add-zero}
use native.Mathlib.Omega.{arith}
use lib.Dec.{leb}
use lib.ListN.{length, get_or, take, drop, length-take, length-drop}
use lib.Seq.{take_all, get_or-drop}
use borrow.Author.Tests.{leb-true, leb-false, le-leb, eq-eqb, ne_eqb}
use Rattle.spellings.specs.Bytes.{is_letter, is_digit, is_word_byte, is_separator, is_symbol, longest_run, largest, value_of}
use Rattle.spellings.proofs.BytesLaws.{run_taken, run_length, letter_word_byte}
use Rattle.grammar.specs.Table.{Lexicon}
use Rattle.kinds.specs.Kinds.{word_kind, no_kind}
use Rattle.tokens.specs.declared.Token.{Token}
use Rattle.tokens.specs.Variables.{is_variable}
use Rattle.tokens.specs.Scan.{Lexeme, Separator, Word, Number, Variable, Symbol, Fault}
use Rattle.tokens.specs.declared.Step.{Step}
use Rattle.tokens.specs.declared.Step.TheVariants.{Skip, Stop, Emit}
use Rattle.tokens.specs.Scan.{word_lexeme, number_lexeme, lexeme_of, kind_of, spelling_of, spelled_token, step_by, step_of}
use Rattle.tokens.specs.Tokens.{token}
use Rattle.tokens.specs.Unscanned.{Faulty, bad_byte, long_word, large_number}
use Rattle.tokens.proofs.LexemeLaws as lexemes

-- ------------------------------------------------------------------ the lexeme at the front

-- what a lexeme says of the bytes at the front, where there are `count` variables
abbrev pub Fits : ℕ → List ℕ → Lexeme → Type 0
Fits count rest Separator = is_separator (get_or rest 0 0) ≡ true
Fits count rest (Word n) = (is_letter (get_or rest 0 0) ≡ true) × (n ≡ length (longest_run is_word_byte rest)) × (n ≤ 31)
Fits count rest (Number n v) =
    (is_digit (get_or rest 0 0) ≡ true) × (n ≡ length (longest_run is_digit rest)) × (v ≡ value_of (longest_run is_digit rest)) × (v ≤ largest)
Fits count rest Variable = is_variable count rest ≡ true
Fits count rest Symbol = (is_variable count rest ≡ false) × (is_symbol (get_or rest 0 0) ≡ true)
Fits count rest Fault = Faulty rest

word_fits : (count : ℕ) (rest : List ℕ) (test : Bool) → is_letter (get_or rest 0 0) ≡ true → leb (length (longest_run is_word_byte rest)) 31 ≡ test
    → Fits count rest (word_lexeme (length (longest_run is_word_byte rest)))
word_fits count rest true l e =
    let h : length (longest_run is_word_byte rest) ≤ 31 = leb-true (length (longest_run is_word_byte rest)) 31 e in
    subst (Fits count rest) (sym (lexemes.word_fits (length (longest_run is_word_byte rest)) h)) (l, refl, h)
word_fits count rest false l e =
    let z : word_lexeme (length (longest_run is_word_byte rest)) ≡ Fault = rw (e, word_lexeme) refl in
    subst (Fits count rest) (sym z) (long_word l (leb-false (length (longest_run is_word_byte rest)) 31 e))

number_fits : (count : ℕ) (rest : List ℕ) (test : Bool) → is_digit (get_or rest 0 0) ≡ true → leb (value_of (longest_run is_digit rest)) largest ≡ test
    → Fits count rest (number_lexeme (longest_run is_digit rest))
number_fits count rest true d e =
    let z : number_lexeme (longest_run is_digit rest) ≡ Number (length (longest_run is_digit rest)) (value_of (longest_run is_digit rest))
    = rw (e, number_lexeme) refl in
    subst (Fits count rest) (sym z) (d, refl, refl, leb-true (value_of (longest_run is_digit rest)) largest e)
number_fits count rest false d e =
    let z : number_lexeme (longest_run is_digit rest) ≡ Fault = rw (e, number_lexeme) refl in
    subst (Fits count rest) (sym z) (large_number d (leb-false (value_of (longest_run is_digit rest)) largest e))

-- a byte that may be in a formula and is neither a letter nor a digit is a symbol
pub no_symbol : (byte : ℕ) → is_letter byte ≡ false → is_digit byte ≡ false → is_symbol byte ≡ false → 33 ≤ byte → byte ≤ 126 → ⊥
no_symbol byte l d y low high =
    let t : is_symbol byte ≡ true = rw (le-leb 33 byte low, le-leb byte 126 high, l, d) refl in
    let z : ◌≡◌ {A = ℕ} 0 1 = cc in
    omega arith

fits_by : (count : ℕ) (rest : List ℕ) (separator letter digit variable symbol : Bool) → is_separator (get_or rest 0 0) ≡ separator
    → is_letter (get_or rest 0 0) ≡ letter → is_digit (get_or rest 0 0) ≡ digit → is_variable count rest ≡ variable → is_symbol (get_or rest 0 0) ≡ symbol
    → Fits count rest (lexeme_of count rest)
fits_by count rest true letter digit variable symbol s l d v y =
    subst (Fits count rest) (sym (lexemes.lexeme_is count rest true letter digit variable symbol refl s l d v y)) s
fits_by count rest false true digit variable symbol s l d v y =
    subst (Fits count rest) (sym (lexemes.lexeme_is count rest false true digit variable symbol refl s l d v y)) (word_fits count rest _ l refl)
fits_by count rest false false true variable symbol s l d v y =
    subst (Fits count rest) (sym (lexemes.lexeme_is count rest false false true variable symbol refl s l d v y)) (number_fits count rest _ d refl)
fits_by count rest false false false true symbol s l d v y =
    subst (Fits count rest) (sym (lexemes.lexeme_is count rest false false false true symbol refl s l d v y)) v
fits_by count rest false false false false true s l d v y =
    subst (Fits count rest) (sym (lexemes.lexeme_is count rest false false false false true refl s l d v y)) (v, y)
fits_by count rest false false false false false s l d v y =
    subst (Fits count rest) (sym (lexemes.lexeme_is count rest false false false false false refl s l d v y))
    (bad_byte s (no_symbol (get_or rest 0 0) l d y))

-- the lexeme at the front is so by its bytes
pub lexeme_fits : (count : ℕ) (rest : List ℕ) (lexeme : Lexeme) → lexeme ≡ lexeme_of count rest → Fits count rest lexeme
lexeme_fits count rest lexeme e = subst (Fits count rest) (sym e) (fits_by count rest _ _ _ _ _ refl refl refl refl refl)

-- a run that begins has a byte
pub run_some : (test : ℕ → Bool) (spelling : List ℕ) → 0 < length spelling → test (get_or spelling 0 0) ≡ true → 0 < length (longest_run test spelling)
run_some test [] h e = absurd (omega arith)
run_some test (b ∷ bs) h e = let z : length (longest_run test (b ∷ bs)) ≡ suc (length (longest_run test bs)) = ap length (run_taken test b bs e) in omega arith

-- ------------------------------------------------------------------ the token

-- a token stands at its offset and lies in what is left
abbrev pub Lies : ℕ → List ℕ → Step → Type 0
Lies at rest Skip = Unit {0}
Lies at rest Stop = Unit {0}
Lies at rest (Emit t) = (t.at ≡ at) × (0 < t.size) × (t.size ≤ length rest)

lies_by : (lex : Lexicon) (words : List (List ℕ)) (at : ℕ) (rest : List ℕ) (lexeme : Lexeme) → 0 < length rest → Fits (length lex.variables) rest lexeme
    → Lies at rest (step_by lex words at rest lexeme)
lies_by lex words at rest Separator h f = tt
lies_by lex words at rest (Word n) h f =
    let some : 0 < length (longest_run is_word_byte rest) = run_some is_word_byte rest h (letter_word_byte (get_or rest 0 0) f.0) in
    (refl, omega (arith, length-take n rest), omega (arith, length-take n rest))
lies_by lex words at rest (Number n v) h f =
    let some : 0 < length (longest_run is_digit rest) = run_some is_digit rest h f.0 in
    (refl, omega arith, omega (arith, run_length is_digit rest))
lies_by lex words at rest Variable h f =
    (refl, omega arith, omega (arith, run_length is_digit (drop 1 rest), length-drop 1 rest))
lies_by lex words at rest Symbol h f = (refl, omega (arith, length-take 1 rest), omega (arith, length-take 1 rest))
lies_by lex words at rest Fault h f = tt

-- the step is the one for the lexeme at the front
pub step_by_lem : (lex : Lexicon) (words : List (List ℕ)) (at : ℕ) (rest : List ℕ) {lexeme : Lexeme} → lexeme ≡ lexeme_of (length lex.variables) rest
    → step_by lex words at rest lexeme ≡ step_of lex words at rest
unfolding step_of
step_by_lem lex words at rest e = ap (step_by lex words at rest) e

-- the definition's token lies in what is left
pub step_lies : (lex : Lexicon) (words : List (List ℕ)) (at : ℕ) (rest : List ℕ) (step : Step) → 0 < length rest
    → step ≡ step_of lex words at rest
    → Lies at rest step
step_lies lex words at rest step h e =
    let count : ℕ = length lex.variables in
    subst (Lies at rest) (step_by_lem lex words at rest refl ∙ sym e)
    (lies_by lex words at rest (lexeme_of count rest) h (lexeme_fits count rest (lexeme_of count rest) refl))

-- ------------------------------------------------------------------ the steps as the code takes them

module _ (lex : Lexicon) (words : List (List ℕ)) (at : ℕ) (spelling : List ℕ) (other : ℕ) where
  -- a token of a word has its spelling number
  pub token_word : {kind value : ℕ} → kind ≡ kind_of lex spelling other → kind ≡ 0 → value ≡ spelling_of lex words spelling
      → token kind at (length spelling) value ≡ spelled_token lex words at spelling (kind_of lex spelling other)
  token_word {kind} {value} e z v =
      ap (token kind at (length spelling))
      (cc (eq-eqb kind word_kind z))
      ∙ ap (spelled_token lex words at spelling) e

  -- any other has the value 0
  pub token_other : {kind : ℕ} → kind ≡ kind_of lex spelling other → (kind ≡ 0 → ⊥)
      → token kind at (length spelling) 0 ≡ spelled_token lex words at spelling (kind_of lex spelling other)
  token_other {kind} e z =
      ap (token kind at (length spelling))
      (cc (ne_eqb kind word_kind z))
      ∙ ap (spelled_token lex words at spelling) e

-- the first byte of what is left
pub front_byte : (formula : List ℕ) (at : ℕ) → get_or (drop at formula) 0 0 ≡ get_or formula at 0
front_byte formula at = cc (get_or-drop at formula 0 0, add-zero at)

-- the rest of a formula as the code lends it
pub rest_lent : (formula : List ℕ) (at : ℕ) → take (length formula - at) (drop at formula) ≡ drop at formula
rest_lent formula at = take_all (length formula - at) (drop at formula) (omega (arith, length-drop at formula))

-- a part of what is left is no longer than the formula
pub part_within : (formula : List ℕ) (at size : ℕ) {spelling : List ℕ} → spelling ≡ take size (drop at formula) → length spelling ≤ length formula
part_within formula at size e =
    omega (arith, ap length e, length-take size (drop at formula), length-drop at formula)

-- a symbol's token is the one that the step emits
pub emit_symbol : (lex : Lexicon) (words : List (List ℕ)) (at : ℕ) {spelling other : List ℕ} {read_token : Token}
    → read_token ≡ token (kind_of lex spelling no_kind) at (length spelling) 0
    → spelling ≡ other
    → Emit read_token ≡ Emit (spelled_token lex words at other (kind_of lex other no_kind))
emit_symbol lex words at {spelling} e f =
    ap Emit
    (cc (token_other lex words at spelling no_kind refl (lexemes.word_only lex spelling no_kind (λ z. omega (arith, z)))))
