-- What an acceptance of two values, and a refusal, tell: the values themselves.
use Rattle.std.specs.Prelude.{Result, Ok, Err}
use mathlib.Core.Path.{◌≡◌, ap}

-- two acceptances that are one have the same two values
pub ok_values : {A B E : Type 0} {a x : A} {b y : B} → ◌≡◌ {A = Result (A × B) E} (Ok (a, b)) (Ok (x, y)) → (a ≡ x) × (b ≡ y)
ok_values {A} {B} {E} {a} {x} {b} {y} e = (ap first e, ap second e)
  where
    first : Result (A × B) E → A
    first (Ok p) = p.0
    first (Err _) = a

    second : Result (A × B) E → B
    second (Ok p) = p.1
    second (Err _) = b
