-- What holds of the names of an expansion's term, and of the spellings behind them: what the code that tells names apart by number asks.
-- Nobody needs this to believe `expand`.
use Rattle.std.specs.Prelude.{ℕ, ◌<◌, ◌≡◌, true, List}
use Rattle.grammar.specs.Limits.{most}
use Rattle.spellings.specs.Bytes.{is_word}
use Rattle.terms.specs.Term.{Name, word, fresh, outside, Term, Fields, variable, function, apply, rcd, dot, number, nil, cons}

-- a word has one spelling number
abbrev pub Distinct : (ℕ → List ℕ) → Type 0
Distinct spell = (m n : ℕ) → is_word (spell m) ≡ true → spell m ≡ spell n → m ≡ n

-- a variable's name: a word, a fresh name, or an outside name, which is a word with a number below 64
abbrev pub VariableName : (ℕ → List ℕ) → Name → Type 0
VariableName spell (word s) = is_word s ≡ true
VariableName spell (fresh n) = Unit {0}
VariableName spell (outside s) = (m : ℕ) × (m < most.outsides) × (s ≡ spell m) × (is_word s ≡ true)

-- a binder's name: a word or a fresh name
abbrev pub BinderName : (ℕ → List ℕ) → Name → Type 0
BinderName spell (word s) = is_word s ≡ true
BinderName spell (fresh n) = Unit {0}
BinderName spell (outside s) = ⊥

-- every variable and every binder of a term has such a name
unfoldable mutual
  pub WellNamed : (ℕ → List ℕ) → Term Name → Type 0
  WellNamed spell (variable v) = VariableName spell v
  WellNamed spell (function b t) = BinderName spell b × WellNamed spell t
  WellNamed spell (apply t u) = WellNamed spell t × WellNamed spell u
  WellNamed spell (rcd f) = WellNamedFields spell f
  WellNamed spell (dot t l) = WellNamed spell t
  WellNamed spell (number n) = Unit {0}

  pub WellNamedFields : (ℕ → List ℕ) → Fields Name → Type 0
  WellNamedFields spell nil = Unit {0}
  WellNamedFields spell (cons l t f) = WellNamed spell t × WellNamedFields spell f
