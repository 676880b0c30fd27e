-- The classes of bytes are apart, and the bytes at the front tell the lexeme.
use Prim.Native.Nat.{ℕ, ◌≤◌}
use mathlib.Core.Path.{◌≡◌, refl, sym, ◌∙◌}
use mathlib.Core.Bool.{true, false, not, ◌&&◌}
use mathlib.Core.List.{List}
use native.Mathlib.Omega.{arith}
use lib.Dec.{leb}
use lib.ListN.{length, get_or}
use borrow.Author.Tests.{ne_eqb, le-leb, lt-leb, leb-true, not-true}
use Rattle.spellings.specs.Bytes.{is_letter, is_digit, is_word_byte, is_separator, is_symbol, longest_run, largest, value_of}
use Rattle.spellings.proofs.BytesLaws.{by_test}
use Rattle.tokens.specs.Variables.{dollar, is_variable, VariableFront}
use Rattle.tokens.specs.Scan.{Separator, Word, Number, Variable, Symbol, Fault}
use Rattle.tokens.specs.Scan.{number_lexeme, lexeme_of}
use Rattle.tokens.specs.Unscanned.{Faulty, bad_byte, long_word, large_number}
use Rattle.tokens.proofs.LexemeLaws.{word_fits, word_long, lexeme_is}
use Rattle.tokens.proofs.WordLaws.{both}
use Rattle.tokens.proofs.VariableLaws.{front_variable, none_found}

-- ------------------------------------------------------------------ the classes of bytes are apart

separator_low : (byte : ℕ) → 33 ≤ byte → is_separator byte ≡ false
separator_low byte h =
    rw (
      ne_eqb byte 9 (λ e. omega (arith, e)),
      ne_eqb byte 10 (λ e. omega (arith, e)),
      ne_eqb byte 13 (λ e. omega (arith, e)),
      ne_eqb byte 32 (λ e. omega (arith, e)),
    )
    refl

letter_high : (byte : ℕ) → is_letter byte ≡ true → 65 ≤ byte
letter_high byte e = by_test (leb 65 byte) (λ h. leb-true 65 byte h) later
  where
    later : leb 65 byte ≡ false → 65 ≤ byte
    later h =
        let f : (leb 97 byte && leb byte 122) ≡ true = rw h at e in
        omega (arith, leb-true 97 byte (both (leb 97 byte) (leb byte 122) f).0)

letter_low : (byte : ℕ) → is_letter byte ≡ true → byte ≤ 126
letter_low byte e = by_test (leb 65 byte && leb byte 90) (λ h. omega (arith, leb-true byte 90 (both (leb 65 byte) (leb byte 90) h).1)) later
  where
    later : (leb 65 byte && leb byte 90) ≡ false → byte ≤ 126
    later h =
        let f : (leb 97 byte && leb byte 122) ≡ true = rw h at e in
        omega (arith, leb-true byte 122 (both (leb 97 byte) (leb byte 122) f).1)

digit_range : (byte : ℕ) → is_digit byte ≡ true → (48 ≤ byte) × (byte ≤ 57)
digit_range byte e =
    let p = both (leb 48 byte) (leb byte 57) e in
    (leb-true 48 byte p.0, leb-true byte 57 p.1)

digit_no_letter : (byte : ℕ) → is_digit byte ≡ true → is_letter byte ≡ false
digit_no_letter byte e =
    let r = digit_range byte e in
    rw (lt-leb 65 byte (omega (arith, r.1)), lt-leb 97 byte (omega (arith, r.1))) refl

-- a byte that may be a symbol
pub record SymbolOnly (byte : ℕ) : Type 0 where
  -- it is not below the first symbol
  pub high : 33 ≤ byte
  -- it is not above the last
  pub low : byte ≤ 126
  -- it is no letter
  pub no_letter : is_letter byte ≡ false
  -- it is no digit
  pub no_digit : is_digit byte ≡ false

-- a symbol is a byte of 33 to 126 that is neither letter nor digit
pub symbol_only : (byte : ℕ) → is_symbol byte ≡ true → SymbolOnly byte
symbol_only byte e =
    let p = both (leb 33 byte && leb byte 126 && not (is_letter byte)) (not (is_digit byte)) e in
    let q = both (leb 33 byte && leb byte 126) (not (is_letter byte)) p.0 in
    let r = both (leb 33 byte) (leb byte 126) q.0 in
    record {
      high = leb-true 33 byte r.0;
      low = leb-true byte 126 r.1;
      no_letter = not-true (is_letter byte) q.1;
      no_digit = not-true (is_digit byte) p.1;
    }

-- a byte outside of 33 to 126 is none of them
module _ (byte : ℕ) (out : 33 ≤ byte → byte ≤ 126 → ⊥) where
  outside_letter : is_letter byte ≡ false
  outside_letter = by_test (is_letter byte) (λ e. absurd (out (omega (arith, letter_high byte e)) (letter_low byte e))) (λ e. e)

  outside_digit : is_digit byte ≡ false
  outside_digit =
      by_test (is_digit byte) (λ e. let r = digit_range byte e in absurd (out (omega (arith, r.0)) (omega (arith, r.1)))) (λ e. e)

  outside_symbol : is_symbol byte ≡ false
  outside_symbol = by_test (is_symbol byte) (λ e. let o = symbol_only byte e in absurd (out o.high o.low)) (λ e. e)

-- ------------------------------------------------------------------ the lexeme that the bytes at the front tell

module _ (count : ℕ) (rest : List ℕ) where
  -- a separator byte is a separator
  pub lexeme_separator : is_separator (get_or rest 0 0) ≡ true → Separator ≡ lexeme_of count rest
  lexeme_separator s = sym (lexeme_is count rest true _ _ _ _ refl s refl refl refl refl)

  -- a letter begins the word of all word bytes from it on, if they are not too many
  pub lexeme_word : is_letter (get_or rest 0 0) ≡ true → length (longest_run is_word_byte rest) ≤ 31
      → Word (length (longest_run is_word_byte rest)) ≡ lexeme_of count rest
  lexeme_word l h =
      let s : is_separator (get_or rest 0 0) ≡ false = separator_low (get_or rest 0 0) (omega (arith, letter_high (get_or rest 0 0) l)) in
      sym (lexeme_is count rest false true _ _ _ refl s l refl refl refl ∙ word_fits (length (longest_run is_word_byte rest)) h)

  -- a digit begins the number of all digits from it on, if it is not too large
  pub lexeme_number : is_digit (get_or rest 0 0) ≡ true → value_of (longest_run is_digit rest) ≤ largest
      → Number (length (longest_run is_digit rest)) (value_of (longest_run is_digit rest)) ≡ lexeme_of count rest
  lexeme_number d h =
      let s : is_separator (get_or rest 0 0) ≡ false = separator_low (get_or rest 0 0) (omega (arith, (digit_range (get_or rest 0 0) d).0)) in
      let f : number_lexeme (longest_run is_digit rest) ≡ Number (length (longest_run is_digit rest)) (value_of (longest_run is_digit rest))
      = rw (le-leb (value_of (longest_run is_digit rest)) largest h, number_lexeme) refl in
      sym (lexeme_is count rest false false true _ _ refl s (digit_no_letter (get_or rest 0 0) d) d refl refl ∙ f)

  -- a digit begins a number or a fault
  pub lexeme_digits : is_digit (get_or rest 0 0) ≡ true → lexeme_of count rest ≡ number_lexeme (longest_run is_digit rest)
  lexeme_digits d =
      let s : is_separator (get_or rest 0 0) ≡ false = separator_low (get_or rest 0 0) (omega (arith, (digit_range (get_or rest 0 0) d).0)) in
      lexeme_is count rest false false true _ _ refl s (digit_no_letter (get_or rest 0 0) d) d refl refl

  -- a symbol byte that begins no variable is a symbol
  pub lexeme_symbol : is_variable count rest ≡ false → is_symbol (get_or rest 0 0) ≡ true → Symbol ≡ lexeme_of count rest
  lexeme_symbol v y =
      let o = symbol_only (get_or rest 0 0) y in
      sym (lexeme_is count rest false false false false true refl (separator_low (get_or rest 0 0) o.high) o.no_letter o.no_digit v y)

  -- `$` and the digits of a variable are the variable
  pub lexeme_variable : {digits : List ℕ} → VariableFront count rest digits → Variable ≡ lexeme_of count rest
  lexeme_variable f =
      let z : dollar ≡ get_or rest 0 0 = sym f.front.begins in
      sym (lexeme_is count rest false false false true true z refl refl refl (front_variable f) refl)

  -- a bad byte, a long word or a large number is a fault
  pub lexeme_fault : Faulty rest → Fault ≡ lexeme_of count rest
  lexeme_fault (bad_byte s out) =
      let b : ℕ = get_or rest 0 0 in
      let l : is_letter b ≡ false = outside_letter b out in
      let d : is_digit b ≡ false = outside_digit b out in
      let y : is_symbol b ≡ false = outside_symbol b out in
      let v : is_variable count rest ≡ false = none_found (λ digits f. out (omega (arith, f.front.begins)) (omega (arith, f.front.begins))) in
      sym (lexeme_is count rest false false false false false refl s l d v y)
  lexeme_fault (long_word l h) =
      let s : is_separator (get_or rest 0 0) ≡ false = separator_low (get_or rest 0 0) (omega (arith, letter_high (get_or rest 0 0) l)) in
      sym (lexeme_is count rest false true _ _ _ refl s l refl refl refl ∙ word_long (length (longest_run is_word_byte rest)) h)
  lexeme_fault (large_number d h) =
      let s : is_separator (get_or rest 0 0) ≡ false = separator_low (get_or rest 0 0) (omega (arith, (digit_range (get_or rest 0 0) d).0)) in
      let f : number_lexeme (longest_run is_digit rest) ≡ Fault = rw (lt-leb (value_of (longest_run is_digit rest)) largest h, number_lexeme) refl in
      sym (lexeme_is count rest false false true _ _ refl s (digit_no_letter (get_or rest 0 0) d) d refl refl ∙ f)
