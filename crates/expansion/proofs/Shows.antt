-- What a number of an expansion stands for: a row shows a term or a field list of the cells, a name's code its name, a label its
-- spelling, a number itself. What is shown stays shown: rows below those made never change.
use Prim.Native.Nat.{ℕ, zero, suc, ◌+◌, ◌*◌, ◌/◌, ◌%◌, ◌≤◌, ◌<◌}
use mathlib.Core.Path.{◌≡◌, refl, ap, ap₂, ◌∙◌}
use mathlib.Core.List.{List, [], ◌∷◌, ◌++◌}
use native.Mathlib.Omega.{arith}
use native.Mathlib.Decide.{dec_lt}
use lib.ListN.{length, get_or, take, drop, length-append, get_or-append}
use lib.Seq.{sets-eq, length-sets, length-take-le, get_or-take, get_or-append-add}
use Rattle.terms.specs.Cells.{columns, column, name_base, word_name, fresh_name, outside_name}
use Rattle.terms.specs.Term.{Name, word, fresh, outside, Term, Fields, variable, function, apply, rcd, dot}
use Rattle.terms.specs.Term as Terms
use Rattle.terms.specs.Rows.{Constructor, constructor_of, name_of, term_by, is_cons, fields_by, term_at, field_list_at}
use Rattle.expansion.specs.Figure3.{Value, unit, var, binder, label, num, term, fields, Constructs, Bound, bound_first, bound_later}
use Rattle.expansion.specs.Figure3 as Figure3
use Rattle.expansion.proofs.CellLaws.{with_row, filled, Row}

-- ------------------------------------------------------------------ cells that grow

-- the rows below `made` are the same
pub record Agree (made : ℕ) (cells cells' : List ℕ) : Type 0 where
  -- the cells of the rows made are the same
  pub same : (place : ℕ) → place < made * columns → get_or cells' place 0 ≡ get_or cells place 0

-- the code of a constructor
abbrev pub IsCode : ℕ → Type 0
IsCode code = (0x20 ≤ code) × (code ≤ 0x27)

-- from `made` rows to more: the old ones are the same, the new ones have constructors, and as many numbers are lent
pub record Grown (made : ℕ) (cells : List ℕ) (made' : ℕ) (cells' : List ℕ) : Type 0 where
  -- no row is lost
  pub more : made ≤ made'
  -- the rows made before are kept
  pub agree : Agree made cells cells'
  -- each row made since has the code of a constructor
  pub coded : (row : ℕ) → made ≤ row → row < made' → IsCode (column cells' row 0)
  -- the cells are as many
  pub as_many : length cells' ≡ length cells

-- no row is made
pub grown_not : (made : ℕ) (cells : List ℕ) → Grown made cells made cells
grown_not made cells =
    record { more = omega arith; agree = record { same = λ j h. refl }; coded = λ row l b. absurd (omega arith); as_many = refl }

agree_trans : {fewer more : ℕ} {cells cells' cells'' : List ℕ} → fewer ≤ more → Agree fewer cells cells' → Agree more cells' cells'' → Agree fewer cells cells''
agree_trans l h k = record { same = λ j b. k.same j (omega arith) ∙ h.same j b }

-- rows made in two steps
pub grown_trans : {made made' made'' : ℕ} {cells cells' cells'' : List ℕ} → Grown made cells made' cells' → Grown made' cells' made'' cells''
    → Grown made cells made'' cells''
grown_trans {made = made} {made' = made'} {made'' = made''} {cells'' = cells''} h k =
    record {
      more = omega arith;
      agree = agree_trans h.more h.agree k.agree;
      coded = λ row l b. by row l b (dec_lt row made');
      as_many = k.as_many ∙ h.as_many;
    }
  where
    by : (row : ℕ) → made ≤ row → row < made'' → Dec (row < made') → IsCode (column cells'' row 0)
    by row l b (yes before) = rw (k.agree.same (row * columns + 0) (omega arith)) (h.coded row l before)
    by row l b (no behind) = k.coded row (omega arith) b

-- ------------------------------------------------------------------ what a number shows

-- `row` is made, and every reading of the cells that has the rows made gives the term
pub record ShowsTerm (spell : ℕ → List ℕ) (made : ℕ) (cells : List ℕ) (row : ℕ) (t : Term Name) : Type 0 where
  -- its row is made
  pub below : row < made
  -- all cells that keep the rows show it
  pub read : (cells' : List ℕ) → Agree made cells cells' → (depth : ℕ) → row < depth → term_at depth spell cells' row ≡ t

-- the same of a field list
pub record ShowsFields (spell : ℕ → List ℕ) (made : ℕ) (cells : List ℕ) (row : ℕ) (list : Fields Name) : Type 0 where
  -- their row is made
  pub below : row < made
  -- all cells that keep the rows show them
  pub read : (cells' : List ℕ) → Agree made cells cells' → (depth : ℕ) → row < depth → field_list_at depth spell cells' row ≡ list

-- the number of a value: a row, a name's code, a label's spelling number or the number itself
pub data Shows (spell : ℕ → List ℕ) (made : ℕ) (cells : List ℕ) : ℕ → Value → Type 0 where
  shows_unit : Shows spell made cells 0 unit
  shows_var : {number : ℕ} {named : Name} → name_of spell number ≡ named → Shows spell made cells number (var named)
  shows_binder : {number : ℕ} {named : Name} → name_of spell number ≡ named → Shows spell made cells number (binder named)
  shows_label : {number : ℕ} → Shows spell made cells number (label (spell number))
  shows_num : {number : ℕ} → Shows spell made cells number (num number)
  shows_term : {row : ℕ} {t : Term Name} → ShowsTerm spell made cells row t → Shows spell made cells row (term t)
  shows_fields : {row : ℕ} {list : Fields Name} → ShowsFields spell made cells row list → Shows spell made cells row (fields list)

-- numbers that show values, one each
pub data ShowAll (spell : ℕ → List ℕ) (made : ℕ) (cells : List ℕ) : List ℕ → List Value → Type 0 where
  show_none : ShowAll spell made cells [] []
  show_more : {row : ℕ} {value : Value} {xs : List ℕ} {vs : List Value} → Shows spell made cells row value → ShowAll spell made cells xs vs
      → ShowAll spell made cells (row ∷ xs) (value ∷ vs)

-- what is shown stays shown
pub shows_later : {spell : ℕ → List ℕ} {made made' : ℕ} {cells cells' : List ℕ} {row : ℕ} {value : Value} → Grown made cells made' cells'
    → Shows spell made cells row value → Shows spell made' cells' row value
shows_later g shows_unit = shows_unit
shows_later g (shows_var e) = shows_var e
shows_later g (shows_binder e) = shows_binder e
shows_later g shows_label = shows_label
shows_later g shows_num = shows_num
shows_later g (shows_term {row = x} {t = t} h) =
    shows_term {row = x} {t = t} (record { below = omega arith; read = λ cells'' a k l. h.read cells'' (agree_trans g.more g.agree a) k l })
shows_later g (shows_fields {row = x} {list = f} h) =
    shows_fields {row = x} {list = f} (record { below = omega arith; read = λ cells'' a k l. h.read cells'' (agree_trans g.more g.agree a) k l })

-- what is shown stays shown as rows are made
pub all_later : {spell : ℕ → List ℕ} {made made' : ℕ} {cells cells' : List ℕ} {xs : List ℕ} {vs : List Value} → Grown made cells made' cells'
    → ShowAll spell made cells xs vs → ShowAll spell made' cells' xs vs
all_later g show_none = show_none
all_later g (show_more h hs) = show_more (shows_later g h) (all_later g hs)

-- one value more at the end, and the value of a variable
pub all_and : {spell : ℕ → List ℕ} {made : ℕ} {cells : List ℕ} {xs : List ℕ} {vs : List Value} {row : ℕ} {value : Value} → ShowAll spell made cells xs vs
    → Shows spell made cells row value → ShowAll spell made cells (xs ++ (row ∷ [])) (vs ++ (value ∷ []))
all_and show_none k = show_more k show_none
all_and (show_more h hs) k = show_more h (all_and hs k)

-- a variable's value is shown at its place
pub shows_bound : {spell : ℕ → List ℕ} {made : ℕ} {cells : List ℕ} {xs : List ℕ} {vs : List Value} {index : ℕ} {value : Value} → ShowAll spell made cells xs vs
    → Bound vs index value → Shows spell made cells (get_or xs index 0) value
shows_bound (show_more h hs) bound_first = h
shows_bound (show_more h hs) (bound_later b) = shows_bound hs b
shows_bound show_none x = elim x [ ]

-- ------------------------------------------------------------------ names

module _ (spell : ℕ → List ℕ) (number : ℕ) (small : number < name_base) where
  class : (class_number : ℕ) → (class_number * name_base + number) / name_base ≡ class_number
  class class_number = omega arith

  number_of : (class_number : ℕ) → (class_number * name_base + number) % name_base ≡ number
  number_of class_number = omega arith

  -- the number of a word is read as the word
  pub word_named : name_of spell (word_name number) ≡ word (spell number)
  unfolding name_of
  word_named = rw (class 1, name_of) (cc (number_of 1))

  -- that of a new name as the new name
  pub fresh_named : name_of spell (fresh_name number) ≡ fresh number
  unfolding name_of
  fresh_named = rw (class 2, name_of) (rw (class 2) (ap fresh (number_of 2)))

  -- that of an outside name as the outside name
  pub outside_named : name_of spell (outside_name number) ≡ outside (spell number)
  unfolding name_of
  outside_named = rw (class 3, name_of) (rw (class 3) (cc (number_of 3)))

-- ------------------------------------------------------------------ a new row

module _ (made : ℕ) (cells : List ℕ) {code : ℕ} {xs numbers : List ℕ} (row : Row code xs numbers) (room : made * columns + columns ≤ length cells) where
  front : List ℕ
  front = take (made * columns) cells

  front_length : length front ≡ made * columns
  unfolding front
  front_length = length-take-le (made * columns) cells (omega arith)

  split : (place : ℕ) → place < made * columns + columns → get_or (with_row cells made numbers) place 0 ≡ get_or (front ++ numbers) place 0
  unfolding front
  split place h =
      let n : length (front ++ numbers) ≡ made * columns + columns = rw (length-append, row.as_many, front_length) refl in
      cc (
        sets-eq numbers cells (made * columns) (rw row.as_many room),
        get_or-append (front ++ numbers) (drop (made * columns + length numbers) cells) 0 place (omega arith),
      )

  before_row : (place : ℕ) → place < made * columns → get_or (with_row cells made numbers) place 0 ≡ get_or cells place 0
  unfolding front
  before_row place h =
      split place (omega arith) ∙ get_or-append front numbers 0 place (omega (arith, front_length)) ∙ get_or-take (made * columns) cells place 0 h

  in_row : (column_number : ℕ) → column_number < columns
      → get_or (with_row cells made numbers) (made * columns + column_number) 0 ≡ get_or numbers column_number 0
  in_row column_number h =
      cc (split (made * columns + column_number) (omega arith), front_length, get_or-append-add front numbers column_number 0)

  -- one row more
  pub row_grown : IsCode code → Grown made cells (made + 1) (with_row cells made numbers)
  row_grown is_code =
      record {
        more = omega arith;
        agree = record { same = before_row };
        coded = λ other l b.
            let here : other ≡ made = omega arith in
            rw (here, in_row 0 (omega arith), row.holds 0 (omega arith)) is_code;
        as_many = length-sets cells (made * columns) numbers;
      }

  -- cells that have the new row too
  module _ (spell : ℕ → List ℕ) (cells' : List ℕ) (same : Agree (made + 1) (with_row cells made numbers) cells') where
    old : Agree made cells cells'
    old = agree_trans (omega arith) (record { same = before_row }) same

    at_column : (column_number : ℕ) → column_number < 4 → column cells' made column_number ≡ get_or (filled code xs) column_number 0
    at_column column_number h =
        same.same (made * columns + column_number) (omega arith) ∙ in_row column_number (omega arith) ∙ row.holds column_number h

    -- the term of the new row, by its constructor
    term_of : {constructed : Constructor} {t : Term Name} → constructor_of code ≡ constructed
        → ((depth : ℕ) → made ≤ depth → term_by constructed spell cells' made (λ q. term_at depth spell cells' q) (λ q. field_list_at depth spell cells' q) ≡ t)
        → (depth : ℕ) → made < depth → term_at depth spell cells' made ≡ t
    unfolding term_at
    term_of e h zero l = absurd (omega arith)
    term_of e h (suc depth) l = rw (at_column 0 (omega arith), e) (h depth (omega arith))

    fields_of_lem : {constructed : Constructor} {list : Fields Name} → constructor_of code ≡ constructed
        → ((depth : ℕ) → made ≤ depth → fields_by (is_cons constructed) spell cells' made (λ q. term_at depth spell cells' q)
        (λ q. field_list_at depth spell cells' q) ≡ list)
        → (depth : ℕ) → made < depth → field_list_at depth spell cells' made ≡ list
    unfolding field_list_at
    fields_of_lem e h zero l = absurd (omega arith)
    fields_of_lem e h (suc depth) l = rw (at_column 0 (omega arith), e) (h depth (omega arith))

    -- a column of the new row that holds `number`, which shows an argument
    name_in : {number : ℕ} {named : Name} (column_number : ℕ) → column_number < 4 → get_or (filled code xs) column_number 0 ≡ number
        → name_of spell number ≡ named
        → name_of spell (column cells' made column_number) ≡ named
    name_in column_number h e n = ap (name_of spell) (at_column column_number h ∙ e) ∙ n

    label_in : {number : ℕ} (column_number : ℕ) → column_number < 4 → get_or (filled code xs) column_number 0 ≡ number
        → spell (column cells' made column_number) ≡ spell number
    label_in column_number h e = ap spell (at_column column_number h ∙ e)

    term_in : {row : ℕ} {t : Term Name} (column_number : ℕ) → column_number < 4 → get_or (filled code xs) column_number 0 ≡ row
        → ShowsTerm spell made cells row t
        → (depth : ℕ) → made ≤ depth → term_at depth spell cells' (column cells' made column_number) ≡ t
    term_in column_number h e s depth l = ap (term_at depth spell cells') (at_column column_number h ∙ e) ∙ s.read cells' old depth (omega arith)

    fields_in : {row : ℕ} {list : Fields Name} (column_number : ℕ) → column_number < 4 → get_or (filled code xs) column_number 0 ≡ row
        → ShowsFields spell made cells row list → (depth : ℕ) → made ≤ depth → field_list_at depth spell cells' (column cells' made column_number) ≡ list
    fields_in column_number h e s depth l = ap (field_list_at depth spell cells') (at_column column_number h ∙ e) ∙ s.read cells' old depth (omega arith)

-- the new row of a constructor over shown arguments shows what is constructed
module _ (spell : ℕ → List ℕ) (made : ℕ) (cells numbers : List ℕ) (room : made * columns + columns ≤ length cells) where
  abbrev After : Value → Type 0
  After v = Shows spell (made + 1) (with_row cells made numbers) made v

  row_term : {t : Term Name} {code : ℕ} {xs : List ℕ} (row : Row code xs numbers) {constructed : Constructor} → constructor_of code ≡ constructed
      → ((cells' : List ℕ) → Agree (made + 1) (with_row cells made numbers) cells' → (depth : ℕ) → made ≤ depth
      → term_by constructed spell cells' made (λ q. term_at depth spell cells' q) (λ q. field_list_at depth spell cells' q) ≡ t)
      → After (term t)
  row_term {t} row e h =
      shows_term {row = made} {t = t} (record { below = omega arith; read = λ cells' a k l. term_of made cells row room spell cells' a e (h cells' a) k l })

  row_fields : {list : Fields Name} {code : ℕ} {xs : List ℕ} (row : Row code xs numbers) {constructed : Constructor} → constructor_of code ≡ constructed
      → ((cells' : List ℕ) → Agree (made + 1) (with_row cells made numbers) cells' → (depth : ℕ) → made ≤ depth
      → fields_by (is_cons constructed) spell cells' made (λ q. term_at depth spell cells' q) (λ q. field_list_at depth spell cells' q) ≡ list)
      → After (fields list)
  row_fields {list} row e h =
      shows_fields {row = made} {list = list} (record {
        below = omega arith;
        read =
            λ cells' a k l. fields_of_lem made cells row room spell cells' a e (h cells' a) k l;
      })

  variable_row : (number : ℕ) {named : Name} → Row 0x20 (number ∷ []) numbers → name_of spell number ≡ named → After (term (variable named))
  unfolding constructor_of term_by
  variable_row number row n =
      row_term row refl (λ cells' a k l. ap variable (name_in made cells row room spell cells' a 1 (omega arith) refl n))

  -- a constructor's row shows what it constructs
  pub row_shows : {code : ℕ} {xs : List ℕ} {vs : List Value} {value : Value} → Row code xs numbers → Constructs code vs value
      → ShowAll spell made cells xs vs → After value
  unfolding constructor_of term_by fields_by
  row_shows row Figure3.makes_var (show_more (shows_var {number = x} n) show_none) = variable_row x row n
  row_shows row Figure3.makes_var_of_binder (show_more (shows_binder {number = x} n) show_none) = variable_row x row n
  row_shows row Figure3.makes_fun (show_more (shows_binder {number = x} n) (show_more (shows_term {row = y} h) show_none)) =
      row_term row refl
      (λ cells' a k l. ap₂ function (name_in made cells row room spell cells' a 1 (omega arith) refl n)
      (term_in made cells row room spell cells' a 2 (omega arith) refl h k l))
  row_shows row Figure3.makes_app (show_more (shows_term {row = x} h) (show_more (shows_term {row = y} h') show_none)) =
      row_term row refl
      (λ cells' a k l. ap₂ apply (term_in made cells row room spell cells' a 1 (omega arith) refl h k l)
      (term_in made cells row room spell cells' a 2 (omega arith) refl h' k l))
  row_shows row Figure3.makes_rcd (show_more (shows_fields {row = x} h) show_none) =
      row_term row refl (λ cells' a k l. ap rcd (fields_in made cells row room spell cells' a 1 (omega arith) refl h k l))
  row_shows row Figure3.makes_dot (show_more (shows_term {row = x} h) (show_more (shows_label {number = y}) show_none)) =
      row_term row refl
      (λ cells' a k l. ap₂ dot (term_in made cells row room spell cells' a 1 (omega arith) refl h k l)
      (label_in made cells row room spell cells' a 2 (omega arith) refl))
  row_shows row Figure3.makes_nil show_none = row_fields row refl (λ cells' a k l. refl)
  row_shows row Figure3.makes_cons
      (show_more (shows_label {number = x}) (show_more (shows_term {row = y} {t = t} h) (show_more (shows_fields {row = z} h') show_none))) =
      row_fields row refl
      (λ cells' a k l.
      cc (
        label_in made cells row room spell cells' a 1 (omega arith) refl,
        term_in made cells row room spell cells' a 2 (omega arith) refl h k l,
        fields_in made cells row room spell cells' a 3 (omega arith) refl h' k l,
      ))
  row_shows row Figure3.makes_num (show_more (shows_num {number = x}) show_none) =
      row_term row refl (λ cells' a k l. ap Terms.number (at_column made cells row room spell cells' a 1 (omega arith)))
