-- Sums of weights over the trees at rows, and rows in order: what one pass over the rows tells. Nobody needs this to believe `expand`.
use Rattle.std.specs.Prelude.{ℕ, zero, suc, ◌+◌, ◌<◌, ◌≤◌, min, ◌≡◌, Bool, true, false, ◌&&◌, not, List, Option, Some, None, ltb, length, get_or}
use Rattle.terms.specs.Cells.{column, most_cells}
use Rattle.terms.specs.Rows.{Constructor, var_row, fun_row, app_row, rcd_row, dot_row, nil_row, cons_row, num_row, constructor_of}
use Rattle.rows.specs.declared.sums.Parts.{Parts}
use Rattle.rows.specs.declared.sums.Parts.TheVariants.{NoPart, OneTerm, TwoTerms, OneList, TermAndList}

-- ------------------------------------------------------------------ the parts of a row

-- the constructor of a row
abbrev pub row_is : List ℕ → ℕ → Constructor
row_is cells row = constructor_of (column cells row 0)

-- the rows of a constructor's parts: the terms and the field list that stand below it
unfoldable pub parts_of : Constructor → List ℕ → ℕ → Parts
parts_of var_row cells row = NoPart
parts_of fun_row cells row = OneTerm (column cells row 2)
parts_of app_row cells row = TwoTerms (column cells row 1) (column cells row 2)
parts_of rcd_row cells row = OneList (column cells row 1)
parts_of dot_row cells row = OneTerm (column cells row 1)
parts_of nil_row cells row = NoPart
parts_of cons_row cells row = TermAndList (column cells row 2) (column cells row 3)
parts_of num_row cells row = NoPart

abbrev pub parts_at : List ℕ → ℕ → Parts
parts_at cells row = parts_of (row_is cells row) cells row

-- ------------------------------------------------------------------ sums

-- what parts add up to, where `terms` and `fields` give the sums at the rows below
abbrev pub sum_of : Parts → (ℕ → ℕ) → (ℕ → ℕ) → ℕ
sum_of NoPart terms fields = 0
sum_of (OneTerm t) terms fields = terms t
sum_of (TwoTerms t u) terms fields = terms t + terms u
sum_of (OneList f) terms fields = fields f
sum_of (TermAndList t f) terms fields = terms t + fields f

-- the same where a room has the sum at each row
abbrev pub sum_in : List ℕ → Parts → ℕ
sum_in sums parts = sum_of parts (λ q. get_or sums q 0) (λ q. get_or sums q 0)

-- the sum of the weights over the tree at a row: the row's own and those of its parts. A part used twice counts at both places; `depth` bounds the depth.
unfoldable pub sum_at : ℕ → List ℕ → List ℕ → ℕ → ℕ
sum_at zero weights cells row = 0
sum_at (suc depth) weights cells row =
    get_or weights row 0 + sum_of (parts_at cells row) (λ q. sum_at depth weights cells q) (λ q. sum_at depth weights cells q)

-- ------------------------------------------------------------------ rows in order

-- the constructors that give Fields
abbrev pub is_fields : Constructor → Bool
is_fields var_row = false
is_fields fun_row = false
is_fields app_row = false
is_fields rcd_row = false
is_fields dot_row = false
is_fields nil_row = true
is_fields cons_row = true
is_fields num_row = false

-- a part that stands before a row and gives Term
abbrev pub is_term_before : List ℕ → ℕ → ℕ → Bool
is_term_before cells row part = ltb part row && not (is_fields (row_is cells part))

-- one that gives Fields
abbrev pub is_list_before : List ℕ → ℕ → ℕ → Bool
is_list_before cells row part = ltb part row && is_fields (row_is cells part)

-- the one or the other, as `fields` says
abbrev pub is_part_before : List ℕ → ℕ → ℕ → Bool → Bool
is_part_before cells row part true = is_list_before cells row part
is_part_before cells row part false = is_term_before cells row part

-- each part stands before a row and gives what its place asks
abbrev pub are_before : List ℕ → ℕ → Parts → Bool
are_before cells row NoPart = true
are_before cells row (OneTerm t) = is_term_before cells row t
are_before cells row (TwoTerms t u) = is_term_before cells row t && is_term_before cells row u
are_before cells row (OneList f) = is_list_before cells row f
are_before cells row (TermAndList t f) = is_term_before cells row t && is_list_before cells row f

-- so it is with the parts of each of the first rows
unfoldable pub are_ordered : List ℕ → ℕ → Bool
are_ordered cells zero = true
are_ordered cells (suc row) = are_ordered cells row && are_before cells row (parts_at cells row)

-- ------------------------------------------------------------------ what a pass tells

-- sums are cut off at a cap below this, so that none wraps
abbrev pub sum_limit : ℕ
sum_limit = 0x40000000

-- what a pass asks: room for no more rows than an expansion makes, and a cap
pub record Summable (weights : List ℕ) (cap : ℕ) : Type 0 where
  pub few : length weights ≤ most_cells
  pub capped : cap < sum_limit

-- whether the rows are in order, and then the sum at each of them
pub record SumsRows (cells : List ℕ) (cap : ℕ) (weights sums : List ℕ) (r : Bool) : Type 0 where
  pub long : length sums ≡ length weights
  pub told : r ≡ are_ordered cells (length weights)
  pub each : r ≡ true → (row depth : ℕ) → row < length weights → row < depth → get_or sums row 0 ≡ min cap (sum_at depth weights cells row)

-- the sum at a row that gives Term, where all rows are in order
abbrev pub total_by : Bool → ℕ → Option ℕ
total_by true sum = Some sum
total_by false sum = None

abbrev pub total_of : List ℕ → ℕ → List ℕ → ℕ → Option ℕ
total_of cells cap weights root =
    total_by (are_ordered cells (length weights) && is_term_before cells (length weights) root) (min cap (sum_at (length weights) weights cells root))
