-- What stands in front of a template in prefix form, and the templates that a constructor takes. These definitions mirror code:
-- nobody needs them to believe `expand`.
use Rattle.std.specs.Prelude.{ℕ, ◌+◌, ◌<◌, ◌≤◌, ◌≡◌, List, length, drop}
use Rattle.grammar.specs.Sorts.{arity}
use Rattle.grammar.specs.Table.{Templates, make, none, more}
use Rattle.decoding.specs.Prefix.{parsed, templates_of}
use Rattle.decoding.specs.Within.{count}
use Rattle.expansion.specs.declared.State.{State}
use Rattle.templates.specs.declared.Making.{Making}
use Rattle.templates.specs.declared.Head.{Head}
use Rattle.templates.specs.declared.Head.TheVariants.{Leaf, Node}
use Rattle.expansion.specs.Run.{done}
use Rattle.expansion.specs.Expansion.{Input, build}
use Rattle.templates.specs.Built.{RoomsFit, template_at, others_at}

-- templates in front of others
unfoldable pub join : Templates → Templates → Templates
join none us = us
join (more t ts) us = more t (join ts us)

-- a template that makes no cell has a value
abbrev pub HeadValue : List ℕ → ℕ → List ℕ → Head → Type 0
HeadValue v at M (Leaf x next) = (I : Input) (s : State) (cells : List ℕ) → build (template_at v at) I M s cells ≡ done x s cells
HeadValue v at M (Node b) = Unit {0}

-- the offset behind it, and what stands there
pub record Past (v : List ℕ) (at next : ℕ) : Type 0 where
  pub less : at < next
  pub inside : next ≤ length v
  pub read : templates_of (drop next v) ≡ parsed (others_at v at)

-- a constructor's templates stand behind it
pub record Takes (v : List ℕ) (at b : ℕ) : Type 0 where
  pub own : Templates
  pub is : template_at v at ≡ make b own
  pub many : count own ≡ arity b
  pub small : b < 256
  pub inside : at < length v
  pub read : templates_of (drop (at + 1) v) ≡ parsed (join own (others_at v at))

abbrev pub Heads : List ℕ → ℕ → Head → Type 0
Heads v at (Leaf x next) = Past v at next
Heads v at (Node b) = Takes v at b

-- what the template of a constructor asks
pub record MayMake (v : List ℕ) (from code : ℕ) (m : Making) (cells stack : List ℕ) : Type 0 where
  pub takes : Takes v from code
  pub fits : RoomsFit v m.rows cells stack
