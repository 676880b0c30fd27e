-- Laws of the values of variables in an array of 16, and of the rows.
use Prim.Native.Nat.{ℕ, ◌+◌, ◌<◌, ◌≤◌}
use mathlib.Core.Path.{◌≡◌, refl, sym, ◌∙◌}
use mathlib.Core.Bool.{Bool, true, false}
use mathlib.Core.List.{List, [], ◌∷◌, ◌++◌}
use native.Mathlib.Omega.{arith}
use native.Mathlib.Numerals.{add-one, add-two, add-three}
use native.Mathlib.Decide.{ℕ_discrete, dec_lt}
use lib.Dec.{eqb}
use lib.ListN.{length, get_or, take, set, length-append, length-set, get_or-append}
use lib.Seq.{sets, get_or_at, get_or-set_same, get_or-set_other}
use borrow.Author.Tests.{eq-eqb, ne_eqb, lt-ltb, le-ltb}
use Rattle.terms.specs.Cells.{outside_name, rows_lent}
use Rattle.decoding.specs.Prefix.{name_by}
use Rattle.expansion.specs.declared.State.{State}
use Rattle.expansion.specs.Run.{done}
use Rattle.expansion.specs.Expansion.{Input, build}
use Rattle.templates.specs.Built.{RowsFit, RoomsFit, Holds, with_value}
use Rattle.grammar.specs.Limits.{most}

-- ------------------------------------------------------------------ variables

module _ (env values : List ℕ) (count : ℕ) (holds : Holds env count values) where
  -- a variable that is bound has its value
  pub picked : (index : ℕ) → index < 16 → index < count → get_or env index 0 ≡ get_or values index 0
  picked index small less = holds.same index small less

  -- one more
  longer : (value : ℕ) → length (values ++ (value ∷ [])) ≡ count + 1
  longer value = length-append values (value ∷ []) ∙ omega (arith, holds.count)

  older : (value index : ℕ) → index < count → get_or (values ++ (value ∷ [])) index 0 ≡ get_or values index 0
  older value index l = get_or-append values (value ∷ []) 0 index (omega (arith, holds.count))

  outside : (value : ℕ) → 16 ≤ count → Holds env (count + 1) (values ++ (value ∷ []))
  outside value l =
      record {
        long = holds.long;
        count = longer value;
        same = λ i small less. holds.same i small (omega arith) ∙ sym (older value i (omega arith));
      }

  inside : (value : ℕ) → count < 16 → Holds (set env count value) (count + 1) (values ++ (value ∷ []))
  inside value l =
      record {
        long = length-set env count value ∙ holds.long;
        count = longer value;
        same = λ i small less. by i less (ℕ_discrete i count);
      }
    where
      by : (index : ℕ) → index < count + 1 → Dec (index ≡ count) → get_or (set env count value) index 0 ≡ get_or (values ++ (value ∷ [])) index 0
      by index less (yes e) =
          rw e (get_or-set_same env count value 0 (omega (arith, holds.long)) ∙ sym (get_or_at values value [] 0 count holds.count))
      by index less (no n) =
          let l' : index < count = omega arith in
          get_or-set_other env count index value 0 n ∙ holds.same index (omega arith) l' ∙ sym (older value index l')

module _ (env : List ℕ) (count value : ℕ) where
  -- a value is kept at its place
  pub put_inside : count < 16 → set env count value ≡ with_value env count value
  unfolding with_value
  put_inside l = rw (lt-ltb count 16 l, with_value)

  -- from the seventeenth on, no value is kept
  pub put_outside : 16 ≤ count → env ≡ with_value env count value
  unfolding with_value
  put_outside l = rw (le-ltb count 16 l, with_value)

-- an array that holds some values holds one more
pub holds_more : {env env' : List ℕ} {count : ℕ} (value : ℕ) → env' ≡ with_value env count value → (values : List ℕ) → Holds env count values
    → Holds env' (count + 1) (values ++ (value ∷ []))
holds_more {env} {env'} {count} value e values holds = by (dec_lt count 16)
  where
    by : Dec (count < 16) → Holds env' (count + 1) (values ++ (value ∷ []))
    by (yes l) = rw (e ∙ sym (put_inside env count value l)) (inside env values count holds value l)
    by (no n) = rw (e ∙ sym (put_outside env count value (omega arith))) (outside env values count holds value (omega arith))

-- an array in which nothing is new from a place on
pub record KeptFrom (old env : List ℕ) (count : ℕ) : Type 0 where
  -- what stands there is as before
  pub stays : (place : ℕ) → count ≤ place → get_or env place 0 ≡ get_or old place 0

-- so behind one more value
pub kept_behind : {old env env' : List ℕ} {count : ℕ} (value : ℕ) → env' ≡ with_value env count value → KeptFrom old env count → KeptFrom old env' (count + 1)
kept_behind {old} {env} {env'} {count} value e kept = record { stays = λ place l. by place l (dec_lt count 16) }
  where
    by : (place : ℕ) → count + 1 ≤ place → Dec (count < 16) → get_or env' place 0 ≡ get_or old place 0
    by place l (yes h) =
        rw (e ∙ sym (put_inside env count value h)) (get_or-set_other env count place value 0 (λ z. omega arith) ∙ kept.stays place (omega arith))
    by place l (no n) = rw (e ∙ sym (put_outside env count value (omega arith))) (kept.stays place (omega arith))

-- ------------------------------------------------------------------ outside names

name_by_lem : (test : Bool) (number : ℕ) (input : Input) (values : List ℕ) (state : State) (cells : List ℕ)
    → build (name_by test number) input values state cells ≡ done (elim test [ true ↦ outside_name number | false ↦ number ]) state cells
unfolding build
name_by_lem true number input values state cells = refl
name_by_lem false number input values state cells = refl

module _ (tag number : ℕ) (input : Input) (values : List ℕ) (state : State) (cells : List ℕ) where
  name_is : (test : Bool) → eqb tag 0x10 ≡ test
      → build (name_by (eqb tag 0x10) number) input values state cells ≡ done (elim test [ true ↦ outside_name number | false ↦ number ]) state cells
  name_is test e = cc (name_by_lem test number input values state cells)

  -- a name after 0x10 is an outside name
  pub name_var : tag ≡ 0x10 → build (name_by (eqb tag 0x10) number) input values state cells ≡ done (outside_name number) state cells
  name_var e = name_is true (eq-eqb tag 0x10 e)

  -- after any other it is a label
  pub name_label : (tag ≡ 0x10 → ⊥) → build (name_by (eqb tag 0x10) number) input values state cells ≡ done number state cells
  name_label e = name_is false (ne_eqb tag 0x10 e)

-- ------------------------------------------------------------------ rows

-- the rows that cells have lie in them
pub rows_fit : {cells : List ℕ} {rows : ℕ} → rows ≡ rows_lent (length cells) → RowsFit rows cells
rows_fit e = record { few = omega arith; rows_long = omega arith }

-- so do the bytes of a field in the stack
pub rooms_fit : {bytes cells stack : List ℕ} {rows : ℕ} → length bytes ≤ most.bytes → length bytes ≤ length stack → rows ≡ rows_lent (length cells)
    → RoomsFit bytes rows cells stack
rooms_fit small long e = record { small = small; stack_long = long; rows_fit = rows_fit e }

-- four stores in a row
pub row_stored : (cells args : List ℕ) (place code : ℕ) → length args ≡ 3
    → set (set (set (set cells place code) (place + 1) (get_or args 0 0)) (place + 2) (get_or args 1 0)) (place + 3) (get_or args 2 0)
    ≡ sets cells place (code ∷ args)
row_stored cells [] place code e = absurd (omega arith)
row_stored cells (a ∷ []) place code e = absurd (omega arith)
row_stored cells (a ∷ b ∷ []) place code e = absurd (omega arith)
row_stored cells (a ∷ b ∷ c ∷ []) place code e = rw (add-one, add-two, add-three) refl
row_stored cells (a ∷ b ∷ c ∷ d ∷ l) place code e = absurd (omega arith)

-- arguments in an array of three, spare ones 0
abbrev pub spare : List ℕ → List ℕ
spare given = take 3 (given ++ 0 ∷ 0 ∷ 0 ∷ [])
