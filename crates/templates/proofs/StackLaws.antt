-- A template whose evaluation is under way: the constructors that are open, and what their templates still give. Each open constructor
-- stands in the stack as one number, with its arguments so far behind it.
use Prim.Native.Nat.{ℕ, zero, suc, ◌+◌, ◌-◌, ◌*◌, ◌<◌, ◌≤◌}
use mathlib.Core.Path.{◌≡◌, refl, sym, ap, ◌∙◌, subst}
use mathlib.Core.List.{List, [], ◌∷◌, ◌++◌, append_assoc, append-nil}
use native.Mathlib.Numerals.{add-one}
use native.Mathlib.Omega.{arith}
use lib.ListN.{length, get_or, take, drop, set, length-append, length-set}
use lib.Seq.{take-suc-set, take-take, take-add, take_at, drop_at, get_or-take, get_or_at, length-take-le}
use Rattle.answers.specs.declared.Refusal.{Refusal}
use Rattle.grammar.specs.Sorts.{arity}
use Rattle.grammar.specs.Table.{Template, Templates, make, none, more}
use Rattle.decoding.specs.Prefix.{SplitTemplates, short, taken, also_taken, take_templates}
use Rattle.decoding.specs.Within.{count}
use Rattle.expansion.specs.declared.State.{State}
use Rattle.expansion.specs.Run.{Result, done, halt, Run, return, after, ◌>>=◌}
use Rattle.expansion.specs.Expansion.{Input, build, build_all, cell}
use Rattle.templates.specs.Heads.{join}
use Rattle.templates.proofs.TemplateLaws.{regroup, first_built}

-- a constructor that is open: its arguments so far, and the templates left to it
pub record Pending : Type 0 where
  -- its code
  pub code : ℕ
  -- the arguments that it has
  pub given : List ℕ
  -- the templates of the others
  pub left : Templates

-- one argument more
abbrev pub fed : Pending → ℕ → Templates → Pending
fed p x ts = record { code = p.code; given = p.given ++ (x ∷ []); left = ts }

-- a constructor that waits for an argument
abbrev pub waits : Pending → Templates → Pending
waits p ts = record { code = p.code; given = p.given; left = ts }

-- a constructor with no argument yet
abbrev pub opened : ℕ → Templates → Pending
opened b ts = record { code = b; given = []; left = ts }

-- ------------------------------------------------------------------ what they give

-- the innermost one goes on with the templates left to it
abbrev pub going : Input → List ℕ → Pending → Run ℕ
going I M p s cells = after (build_all p.left I M s cells) (λ ys. cell I p.code (p.given ++ ys))

-- those around it take its value, each as its next argument
unfoldable pub resume : Input → List ℕ → List Pending → Result ℕ → Result ℕ
resume I M [] r = r
resume I M (p ∷ ps) r =
    resume I M ps
    (after (after r (λ x. build_all p.left I M >>= λ ys. return (x ∷ ys))) (λ ys. cell I p.code (p.given ++ ys)))

-- a refusal stays a refusal
pub resume_halt : (input : Input) (values : List ℕ) (ps : List Pending) (refusal : Refusal) (cells : List ℕ)
    → resume input values ps (halt refusal cells) ≡ halt refusal cells
unfolding resume
resume_halt input values [] refusal cells = refl
resume_halt input values (p ∷ ps) refusal cells = resume_halt input values ps refusal cells

module _ (input : Input) (values : List ℕ) (pending : Pending) (state : State) (cells : List ℕ) where
  -- a value is the next argument
  pub takes_value : (ps : List Pending) (row : ℕ)
      → resume input values (pending ∷ ps) (done row state cells) ≡ resume input values ps (going input values (fed pending row pending.left) state cells)
  unfolding resume
  takes_value ps row =
      ap (resume input values ps) (sym (regroup (cell input pending.code) pending.given row (build_all pending.left input values state cells)))

  -- the next template is evaluated, and the constructor waits for its value
  pub waits_for : (ps : List Pending) {template : Template} {ts : Templates} → pending.left ≡ more template ts
      → resume input values ps (going input values pending state cells) ≡ resume input values (waits pending ts ∷ ps) (build template input values state cells)
  unfolding resume
  waits_for ps {template} {ts} e =
      cc (first_built (cell input pending.code) pending.given input values template ts (build template input values state cells) state cells refl)

  -- no template is left
  pub makes_cell : pending.left ≡ none → going input values pending state cells ≡ cell input pending.code pending.given state cells
  unfolding build_all
  makes_cell e =
      cc (append-nil pending.given)

-- building a constructor begins with no argument
pub going_make : (input : Input) (values : List ℕ) (code : ℕ) (own : Templates) (state : State) (cells : List ℕ)
    → build (make code own) input values state cells ≡ going input values (opened code own) state cells
unfolding build
going_make input values code own state cells = refl

-- ------------------------------------------------------------------ the templates left to them

-- what is left of all that are open
unfoldable pub lefts : List Pending → Templates → Templates
lefts [] ts = ts
lefts (p ∷ ps) ts = join p.left (lefts ps ts)

-- each waits for one argument besides those that are left
unfoldable pub Filling : List Pending → Type 0
Filling [] = Unit {0}
Filling (p ∷ ps) = (count p.left + length p.given + 1 ≡ arity p.code) × (p.code < 256) × Filling ps

abbrev Took : ℕ → Templates → SplitTemplates → Type 0
Took k ts short = Unit {0}
Took k ts (taken us vs) = (count us ≡ k) × (ts ≡ join us vs)

also_took : (many : ℕ) (template : Template) (ts : Templates) (split : SplitTemplates) → Took many ts split
    → Took (suc many) (more template ts) (also_taken template split)
unfolding count join
also_took many template ts short h = tt
also_took many template ts (taken us vs) h = (ap suc h.0, ap (more template) h.1)

-- the first `many` of some templates, and the others, are these templates
pub took : (many : ℕ) (ts : Templates) → Took many ts (take_templates many ts)
unfolding take_templates count join
took zero ts = (refl, refl)
took (suc many) none = tt
took (suc many) (more t ts) = also_took many t ts (take_templates many ts) (took many ts)

-- templates taken, and those behind them
pub took_are : {many : ℕ} {ts us vs : Templates} → take_templates many ts ≡ taken us vs → (count us ≡ many) × (ts ≡ join us vs)
took_are {many} {ts} e = subst (Took many ts) e (took many ts)

-- ------------------------------------------------------------------ how they stand in the stack

unfoldable mutual
  -- the numbers of the open constructors: of each its code with the place of the one around it, then its arguments
  pub image : List Pending → List ℕ
  image [] = []
  image (p ∷ ps) = image ps ++ (p.code + 256 * place ps) ∷ p.given

  -- where the arguments of the innermost one begin
  pub place : List Pending → ℕ
  place [] = 0
  place (p ∷ ps) = length (image ps) + 1

-- only the outermost one has place 0
pub place_none : (ps : List Pending) → place ps ≡ 0 → ps ≡ []
unfolding place
place_none [] e = refl
place_none (p ∷ ps) e = absurd (omega arith)

-- how long the stack is
pub image_length : (pending : Pending) (ps : List Pending) → length (image (pending ∷ ps)) ≡ place (pending ∷ ps) + length pending.given
unfolding image place
image_length pending ps = length-append (image ps) ((pending.code + 256 * place ps) ∷ pending.given) ∙ omega arith

image_fed : (pending : Pending) (ps : List Pending) (row : ℕ) (ts : Templates) → image (pending ∷ ps) ++ (row ∷ []) ≡ image (fed pending row ts ∷ ps)
unfolding image
image_fed pending ps row ts = append_assoc (image ps) ((pending.code + 256 * place ps) ∷ pending.given) (row ∷ [])

image_opened : (pending : Pending) (ps : List Pending) (code : ℕ) (us ts : Templates)
    → image (pending ∷ ps) ++ ((code + 256 * place (pending ∷ ps)) ∷ []) ≡ image (opened code ts ∷ waits pending us ∷ ps)
unfolding image place
image_opened pending ps code us ts = refl

-- the numbers up to `top` stand for the open constructors
pub record Stands (stack : List ℕ) (pos top : ℕ) (pending : Pending) (ps : List Pending) : Type 0 where
  -- the stack is that high
  pub fits : top ≤ length stack
  -- it holds the numbers of the open constructors
  pub held : take top stack ≡ image (pending ∷ ps)
  -- the innermost one's arguments begin at this place
  pub pos_is : pos ≡ place (pending ∷ ps)

module _ {stack : List ℕ} {pos top : ℕ} {pending : Pending} {ps : List Pending} (stands : Stands stack pos top pending ps) where
  -- the top is behind the arguments given
  pub stands_top : top ≡ pos + length pending.given
  stands_top =
      cc (length-take-le top stack stands.fits, stands.held, image_length pending ps, stands.pos_is)

  -- the first pos - 1 numbers are those around it
  place_is : pos ≡ length (image ps) + 1
  unfolding place
  place_is = stands.pos_is

  stands_around : take (pos - 1) stack ≡ image ps
  unfolding image
  stands_around =
      let e : length (image ps) ≡ pos - 1 = omega (arith, place_is) in
      sym (take-take (pos - 1) top stack (omega (arith, stands_top)))
      ∙ ap (take (pos - 1)) stands.held
      ∙ take_at (image ps) ((pending.code + 256 * place ps) ∷ pending.given) (pos - 1) e

  -- the number in front of them
  pub stands_number : get_or stack (pos - 1) 0 ≡ pending.code + 256 * place ps
  unfolding image
  stands_number =
      let e : length (image ps) ≡ pos - 1 = omega (arith, place_is) in
      cc (
        get_or-take top stack (pos - 1) 0 (omega (arith, stands_top, place_is)),
        stands.held,
        get_or_at (image ps) (pending.code + 256 * place ps) pending.given 0 (pos - 1) e,
      )

  -- the arguments given
  pub stands_given : take (top - pos) (drop pos stack) ≡ pending.given
  unfolding image
  stands_given =
      let e : length (image ps ++ (pending.code + 256 * place ps) ∷ []) ≡ pos =
      length-append (image ps) ((pending.code + 256 * place ps) ∷ []) ∙ sym place_is in
      let z : pos + (top - pos) ≡ top = omega (arith, stands_top) in
      let l : length (take pos stack) ≡ pos = length-take-le pos stack (omega (arith, stands_top, stands.fits)) in
      cc (
        drop_at (take pos stack) (take (top - pos) (drop pos stack)) pos l,
        take-add pos (top - pos) stack,
        stands.held,
        append_assoc (image ps) ((pending.code + 256 * place ps) ∷ []) pending.given,
        drop_at (image ps ++ (pending.code + 256 * place ps) ∷ []) pending.given pos e,
      )

  -- one number more
  module _ (less : top < length stack) where
    one_more : (row : ℕ) → take (top + 1) (set stack top row) ≡ image (pending ∷ ps) ++ (row ∷ [])
    one_more row =
        cc (add-one top, take-suc-set stack top row less, stands.held)

    -- one argument more
    pub stands_fed : (row : ℕ) (ts : Templates) → Stands (set stack top row) pos (top + 1) (fed pending row ts) ps
    unfolding place
    stands_fed row ts =
        record {
          fits = omega (arith, length-set stack top row);
          held = one_more row ∙ image_fed pending ps row ts;
          pos_is = stands.pos_is;
        }

    -- one constructor more
    pub stands_opened : {packed_head code : ℕ} → packed_head ≡ code + 256 * pos → (us ts : Templates)
        → Stands (set stack top packed_head) (top + 1) (top + 1) (opened code ts) (waits pending us ∷ ps)
    unfolding place image
    stands_opened {packed_head} {code} e us ts =
        record {
          fits = omega (arith, length-set stack top packed_head);
          held =
              cc (one_more packed_head, stands.pos_is, image_opened pending ps code us ts);
          pos_is = cc (length-take-le top stack stands.fits, stands.held);
        }

-- the innermost one is closed, and its value is an argument of the one around it
pub stands_closed : {stack : List ℕ} {pos top : ℕ} {pending other : Pending} {qs : List Pending} → Stands stack pos top pending (other ∷ qs) → (row : ℕ)
    → Stands (set stack (pos - 1) row) (place (other ∷ qs)) pos (fed other row other.left) qs
stands_closed {stack} {pos} {top} {pending} {other} {qs} h row =
    let around : Stands stack (place (other ∷ qs)) (pos - 1) other qs
    = record { fits = omega (arith, stands_top h, h.fits); held = stands_around h; pos_is = refl } in
    let z : pos - 1 + 1 ≡ pos = omega (arith, place_is h) in
    rw z at (stands_fed around (omega (arith, stands_top h, place_is h, h.fits)) row other.left)

-- the first constructor
pub stands_start : (stack : List ℕ) → 0 < length stack → {packed_head code : ℕ} → packed_head ≡ code + 256 * 0 → (ts : Templates)
    → Stands (set stack 0 packed_head) 1 1 (opened code ts) []
unfolding image place
stands_start stack h {packed_head} {code} e ts =
    record {
      fits = omega (arith, length-set stack 0 packed_head);
      held = cc (take-suc-set stack 0 packed_head h);
      pos_is = refl;
    }
