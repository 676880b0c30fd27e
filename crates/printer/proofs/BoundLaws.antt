-- A text has at most 46 bytes a constructor.
use Prim.Native.Nat.{ℕ, zero, suc, ◌+◌, ◌*◌, ◌<◌, ◌≤◌}
use mathlib.Core.Path.{◌≡◌}
use mathlib.Core.Bool.{Bool, true, false}
use mathlib.Core.List.{List}
use native.Mathlib.Omega.{arith}
use mir.Syntax.{w16, w32}
use mir.Val as val
use lib.ListN.{length, get_or}
use Rattle.spellings.proofs.DecimalLaws.{decimal_bound}
use Rattle.terms.specs.Cells.{column, columns}
use Rattle.terms.specs.Term.{Name, Term, Fields, size, size_fields}
use Rattle.terms.specs.Rows.{name_of, Constructor, var_row, fun_row, app_row, rcd_row, dot_row, nil_row, cons_row, num_row}
use Rattle.terms.specs.Rows.{constructor_of, term_by, is_cons, fields_by, term_at, field_list_at}
use Rattle.terms.specs.Rename.{new_name}
use Rattle.terms.specs.TextSize.{text_size, text_size_fields}
use Rattle.terms.specs.Labelled.{name_shown, labelled, labelled_fields}
use Rattle.spellings.specs.Bytes.{longest_word}
use Rattle.writer.specs.Pool.{spell_in}
use Rattle.printing.specs.PrintedParts.{term_part, part_text, PartFits}
use Rattle.measuring.specs.Lengths.{term_length}
use Rattle.measuring.specs.OwnLengths.{TextMeasurable}
use Rattle.measuring.proofs.OwnLaws.{spelling_short, written_short}
use Rattle.printer.specs.Printed.{PrintableBy}
use Rattle.rows.specs.Sizes.{no_spell}
use Rattle.rows.proofs.SizeLaws.{size_spell}
use Rattle.terms.proofs.TextLength.{text_length}

module _ (spell : ℕ → List ℕ) (cells numbers : List ℕ) (short : (number : ℕ) → length (spell number) ≤ longest_word)
    (few : (place : ℕ) → get_or numbers place 0 < 65536)
    (wide : (place : ℕ) → get_or cells place 0 < 4294967296) where
  name_short : (number value : ℕ) → number < 65536 → length (name_shown number (name_of spell value)) ≤ longest_word
  unfolding new_name
  name_short zero value h = written_short spell short value
  name_short (suc number) value h = omega (arith, decimal_bound 4 (suc number) (omega arith))

  abbrev Short : (ℕ → Term Name) → Type 0
  Short terms = (q p : ℕ) → text_size (labelled numbers p (terms q)) ≤ 46 * size (terms q)

  abbrev ShortFields : (ℕ → Fields Name) → Type 0
  ShortFields fields = (q p : ℕ) → text_size_fields (labelled_fields numbers p (fields q)) ≤ 46 * size_fields (fields q)

  module _ (terms : ℕ → Term Name) (fields : ℕ → Fields Name) (st : Short terms) (sf : ShortFields fields) (row place : ℕ) where
    by_term : (constructed : Constructor) → text_size (labelled numbers place (term_by constructed spell cells row terms fields)) ≤ 46 * size
        (term_by constructed spell cells row terms fields)
    unfolding term_by text_size labelled size
    by_term var_row = omega (arith, name_short (get_or numbers place 0) (column cells row 1) (few place))
    by_term fun_row = omega (arith, name_short (get_or numbers place 0) (column cells row 1) (few place), st (column cells row 2) (suc place))
    by_term app_row = omega (arith, st (column cells row 1) (suc place), st (column cells row 2) (suc place + size (terms (column cells row 1))))
    by_term rcd_row = omega (arith, sf (column cells row 1) (suc place))
    by_term dot_row = omega (arith, st (column cells row 1) (suc place), short (column cells row 2))
    by_term nil_row = omega (arith, decimal_bound 0 0 (omega arith))
    by_term cons_row = omega (arith, decimal_bound 0 0 (omega arith))
    by_term num_row = omega (arith, decimal_bound 9 (column cells row 1) (omega (arith, wide (row * columns + 1))))

    by_fields : (test : Bool)
        → text_size_fields (labelled_fields numbers place (fields_by test spell cells row terms fields)) ≤ 46 * size_fields
        (fields_by test spell cells row terms fields)
    unfolding fields_by text_size_fields labelled_fields size_fields
    by_fields true =
        omega (arith, st (column cells row 2) (suc place), sf (column cells row 3) (suc place + size (terms (column cells row 2))), short (column cells row 1))
    by_fields false = omega arith

  mutual
    unfolding term_at field_list_at text_size text_size_fields labelled labelled_fields size size_fields

    short_text : (depth row place : ℕ) → text_size (labelled numbers place (term_at depth spell cells row)) ≤ 46 * size (term_at depth spell cells row)
    short_text zero row place = omega (arith, decimal_bound 0 0 (omega arith))
    short_text (suc depth) row place =
        by_term (λ q. term_at depth spell cells q) (λ q. field_list_at depth spell cells q) (λ q n. short_text depth q n) (λ q n. short_fields depth q n) row place
        (constructor_of (column cells row 0))

    short_fields : (depth row place : ℕ) → text_size_fields (labelled_fields numbers place (field_list_at depth spell cells row)) ≤ 46 * size_fields
        (field_list_at depth spell cells row)
    short_fields zero row place = omega arith
    short_fields (suc depth) row place =
        by_fields (λ q. term_at depth spell cells q) (λ q. field_list_at depth spell cells q) (λ q n. short_text depth q n) (λ q n. short_fields depth q n) row
        place
        (is_cons (constructor_of (column cells row 0)))

module _ {pool cells numbers : List ℕ} {made root : ℕ} (printable_by : PrintableBy pool cells made root numbers)
    (wide : (place : ℕ) → val.Fits w32 (get_or cells place 0)) (few : (place : ℕ) → val.Fits w16 (get_or numbers place 0)) where
  -- cells are of 32 bits
  cells_wide : (place : ℕ) → get_or cells place 0 < 4294967296
  cells_wide place = omega (arith, wide place)

  -- and numbers of 16
  numbers_few : (place : ℕ) → get_or numbers place 0 < 65536
  numbers_few place = omega (arith, few place)

  -- the text of a term has at most 46 bytes for each number
  text_short : term_length pool cells numbers made root 0 ≤ length numbers * 46
  unfolding term_length
  text_short =
      omega (
        arith,
        size_spell made no_spell (spell_in pool) cells root,
        short_text (spell_in pool) cells numbers (spelling_short pool printable_by.short) numbers_few cells_wide made root 0,
        printable_by.marked,
      )

  -- the text of a term that is not too large can be measured
  pub measurable : TextMeasurable pool cells numbers made root
  measurable =
      record {
        weighable = record { short = printable_by.short; wide = cells_wide };
        room = omega (arith, text_short, printable_by.small);
        inside = printable_by.marked;
        few = printable_by.small;
      }

  fits_by : {text : List ℕ} → term_length pool cells numbers made root 0 ≤ length text → PartFits pool cells numbers (term_part made root) 0 text
  unfolding part_text term_length
  fits_by l =
      record {
        room = record { room = omega (arith, text_length (labelled numbers 0 (term_at made (spell_in pool) cells root))) };
        inside = omega (arith, printable_by.marked);
        few = printable_by.small;
      }

  -- it fits where 46 bytes a constructor are lent
  pub surely_fits : (text : List ℕ) → length numbers * 46 ≤ length text → PartFits pool cells numbers (term_part made root) 0 text
  surely_fits text l = fits_by (omega (arith, text_short))

  -- it fits where its length says so
  pub measured_fits : {text : List ℕ} {needed : ℕ} → needed ≡ length (part_text pool cells numbers (term_part made root) 0) → needed ≤ length text
      → PartFits pool cells numbers (term_part made root) 0 text
  unfolding part_text term_length
  measured_fits e l = fits_by (omega (arith, text_length (labelled numbers 0 (term_at made (spell_in pool) cells root))))

-- what is measured is the length of the text
pub measured_text : (pool cells numbers : List ℕ) (made root : ℕ) {count : ℕ}
    → count ≡ term_length pool cells numbers made root 0 → count ≡ length (part_text pool cells numbers (term_part made root) 0)
unfolding part_text term_length
measured_text pool cells numbers made root e = omega (arith, e, text_length (labelled numbers 0 (term_at made (spell_in pool) cells root)))
