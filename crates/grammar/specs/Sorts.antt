-- Sorts and constructors. Document 01, "Core and sorts"; 001, section 4.1: sorts B and signatures (B1, .., Bk)B.
use Rattle.std.specs.Prelude.{ℕ, ◌-◌, List, [], ◌∷◌, length, get_or}

-- the seven sorts by their codes
abbrev pub unit : ℕ
unit = 0

abbrev pub var : ℕ
var = 1

abbrev pub binder : ℕ
binder = 2

abbrev pub label : ℕ
label = 3

abbrev pub term : ℕ
term = 4

abbrev pub fields : ℕ
fields = 5

abbrev pub num : ℕ
num = 6

-- a signature: the sorts of the parameters and of the result
pub record Signature : Type 0 where
  pub params : List ℕ
  pub result : ℕ

abbrev pub gives : List ℕ → ℕ → Signature
gives ps r = record { params = ps; result = r }

-- the constructors in the order of their codes, from hex 20
unfoldable pub constructor_signatures : List Signature
constructor_signatures =
    gives (var ∷ []) term  -- 20 mkTermVar
    ∷ gives (binder ∷ term ∷ []) term  -- 21 mkTermFun
    ∷ gives (term ∷ term ∷ []) term  -- 22 mkTermApp
    ∷ gives (fields ∷ []) term  -- 23 mkTermRcd
    ∷ gives (term ∷ label ∷ []) term  -- 24 mkTermDot
    ∷ gives [] fields  -- 25 mkFieldNil
    ∷ gives (label ∷ term ∷ fields ∷ []) fields  -- 26 mkFieldCons
    ∷ gives (num ∷ []) term  -- 27 mkTermNum
    ∷ []

-- the signature of the constructor with code c
unfoldable pub constructor : ℕ → Signature
unfolding constructor_signatures
constructor c = get_or constructor_signatures (c - 0x20) (gives [] unit)

-- how many arguments it takes
abbrev pub arity : ℕ → ℕ
arity c = length (constructor c).params
