-- Many formulas under one table, as the call `expand_each` has them: `expand` for one after the other. Its check is of the table alone: one serves all.
use Rattle.std.specs.Prelude.{ℕ, ◌-◌, ◌*◌, ◌/◌, min, List, [], ◌∷◌, ◌++◌, length, take, drop, Ok, Err}
use Rattle.answers.specs.Refusals.{Answer, numbered}
use Rattle.meaning.specs.Expand.{Expanded, expand}

-- Formulas lie one behind the other. One has the bytes from the end of the one before to its own end, as far as there are any; none if it ends no further.
abbrev pub formula_in : List ℕ → ℕ → ℕ → List ℕ
formula_in formulas from end = take (end - from) (drop from formulas)

-- an answer as four numbers: document 01's number, 0 for acceptance, and the three values
abbrev pub numbers_of : Answer → List ℕ
numbers_of answer = (numbered answer).number ∷ (numbered answer).a ∷ (numbered answer).b ∷ (numbered answer).c ∷ []

abbrev pub numbers_each : ℕ
numbers_each = 4

-- the bytes of text that an expansion has written; a refusal writes none
abbrev pub written : Answer → ℕ
written (Ok made) = made.length
written (Err r) = 0

-- what expansions leave: the numbers of their answers and their texts, each in order; the cells, and the text behind their texts
pub record Series : Type 0 where
  pub numbers : List ℕ
  pub texts : List ℕ
  pub cells : List ℕ
  pub rest : List ℕ

-- one expansion
abbrev pub alone : Expanded → Series
alone x = let n = written x.answer in record { numbers = numbers_of x.answer; texts = take n x.text; cells = x.cells; rest = drop n x.text }

-- some, and later ones
abbrev pub behind : Series → Series → Series
behind s later = record { numbers = s.numbers ++ later.numbers; texts = s.texts ++ later.texts; cells = later.cells; rest = later.rest }

-- The formulas with these ends, the first from `from` on. Each is lent the cells as the one before left them, and the text behind the texts of those before.
unfoldable pub expand_all : List ℕ → List ℕ → ℕ → List ℕ → List ℕ → List ℕ → Series
expand_all table formulas from [] cells text = record { numbers = []; texts = []; cells = cells; rest = text }
expand_all table formulas from (end ∷ ends) cells text =
    let first : Series = alone (expand table (formula_in formulas from end) cells text) in
    behind first (expand_all table formulas end ends first.cells first.rest)

-- how many formulas were expanded, and all that was lent as it is at exit
pub record ExpandedEach : Type 0 where
  pub count : ℕ
  pub answers : List ℕ
  pub cells : List ℕ
  pub text : List ℕ

-- As many are expanded as have an end and four places for their answers. What lies behind their answers, and behind their texts, is as it was.
unfoldable pub expand_each : List ℕ → List ℕ → List ℕ → List ℕ → List ℕ → List ℕ → ExpandedEach
expand_each table formulas ends answers cells text =
    let count : ℕ = min (length ends) (length answers / numbers_each) in
    let all : Series = expand_all table formulas 0 (take count ends) cells text in
    record { count = count; answers = all.numbers ++ drop (count * numbers_each) answers; cells = all.cells; text = all.texts ++ all.rest }
