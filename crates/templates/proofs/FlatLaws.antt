-- Laws of the loop over the arguments of a constructor while they are values: without a stack, one behind the other.
use Prim.Native.Nat.{ℕ, ◌+◌, ◌*◌, ◌<◌, ◌≤◌}
use mathlib.Core.Path.{◌≡◌, refl, sym, ap, ◌∙◌, subst}
use mathlib.Core.List.{List, [], ◌∷◌, ◌++◌}
use native.Mathlib.Omega.{arith}
use lib.ListN.{length, drop, set, length-append}
use lib.Seq.{sets}
use Rattle.grammar.specs.Sorts.{arity}
use Rattle.grammar.specs.Table.{Template, Templates, none, more}
use Rattle.grammar.proofs.ReaderLaws.{arity_few}
use Rattle.terms.specs.Cells.{columns}
use Rattle.decoding.specs.Prefix.{parsed, templates_of}
use Rattle.decoding.specs.Within.{count}
use Rattle.expansion.specs.declared.State.{State}
use Rattle.templates.specs.declared.Making.{Making}
use Rattle.templates.specs.declared.Head.{Head}
use Rattle.templates.specs.declared.Head.TheVariants.{Leaf}
use Rattle.expansion.specs.Expansion.{Input, build}
use Rattle.expansion.proofs.CellLaws.{cell_row}
use Rattle.templates.specs.Built.{Holds, with_made, Ahead, template_at, others_at}
use Rattle.templates.specs.Heads.{join, HeadValue, Past, Takes, Heads}
use Rattle.templates.specs.Flat.{FlatStored}
use Rattle.templates.proofs.VariableLaws.{spare}
use Rattle.templates.proofs.TemplateLaws.{template_is, others_are}
use Rattle.templates.proofs.StackLaws.{Pending, fed, waits, opened, going, resume, takes_value, waits_for, makes_cell, going_make}
use Rattle.templates.proofs.BuildLaws.{some_left, none_left}

-- One value more, in front of the spare ones.
pub spare_more : (given : List ℕ) (value : ℕ) → length given < 3 → set (spare given) (length given) value ≡ spare (given ++ (value ∷ []))
spare_more [] value h = refl
spare_more (a ∷ []) value h = refl
spare_more (a ∷ b ∷ []) value h = refl
spare_more (a ∷ b ∷ c ∷ given) value h = absurd (omega arith)

-- the first values of a constructor's arguments are read, and the templates left give with them what the constructor gives
pub record Reading (bytes : List ℕ) (from code : ℕ) (env : List ℕ) (variables at many : ℕ) (args : List ℕ) : Type 0 where
  -- the constructor, with the values that it has and the templates left to it
  pub inner : Pending
  -- it is that of the template
  pub code_is : inner.code ≡ code
  -- so many values are read
  pub counted : length inner.given ≡ many
  -- they and the templates left are as many as it takes
  pub filled : count inner.left + length inner.given ≡ arity code
  -- they stand in the array, the spare ones 0
  pub stands : args ≡ spare inner.given
  -- each took a byte at least
  pub past : from < at
  -- the offset is not past the bytes
  pub inside : at ≤ length bytes
  -- the templates left, then those behind the constructor's, are read at the offset
  pub read : templates_of (drop at bytes) ≡ parsed (join inner.left (others_at bytes from))
  -- what is left gives what the whole template gives
  pub rest :
      (input : Input) (state : State) (values cells : List ℕ) → Holds env variables values
      → going input values inner state cells ≡ build (template_at bytes from) input values state cells

-- no value is read at the start
pub reading_start : {bytes : List ℕ} {from code : ℕ} (takes : Takes bytes from code) (env : List ℕ) (variables : ℕ)
    → Reading bytes from code env variables (from + 1) 0 (0 ∷ 0 ∷ 0 ∷ [])
reading_start {bytes} {from} {code} takes env variables =
    record {
      inner = opened code takes.own;
      code_is = refl;
      counted = refl;
      filled = omega (arith, takes.many);
      stands = refl;
      past = omega arith;
      inside = omega (arith, takes.inside);
      read = takes.read;
      rest = λ I s M cells g. cc (going_make I M code takes.own s cells, takes.is);
    }

module _ {bytes : List ℕ} {from code : ℕ} {env : List ℕ} {variables at many : ℕ} {args : List ℕ}
    (reading : Reading bytes from code env variables at many args) {needed : ℕ} (arity_is : needed ≡ arity code) where
  -- a template is left to it
  module _ (less : many < needed) where
    -- the array has a place for its value
    pub reading_place : many < 3
    reading_place = omega (arith, arity_is, arity_few code)

    -- the next template, and those left behind it
    pub next-left : (template : Template) × (us : Templates) × (reading.inner.left ≡ more template us)
    next-left = some_left reading.inner.left (omega (arith, arity_is, reading.filled, reading.counted))

    -- it is read at the offset
    pub next_read : templates_of (drop at bytes) ≡ parsed (more next-left.0 (join next-left.1 (others_at bytes from)))
    unfolding join
    next_read = cc (reading.read, next-left.2)

    -- It stands ahead.
    abbrev pub reading_ahead : Ahead bytes at
    reading_ahead = record { template = next-left.0; others = join next-left.1 (others_at bytes from); read = next_read }

    -- It is a value, one more.
    pub reading_next : (head : Head) {value next : ℕ} → head ≡ Leaf value next
        → ((values : List ℕ) → Holds env variables values → HeadValue bytes at values head)
        → Heads bytes at head
        → Reading bytes from code env variables next (many + 1) (set args many value)
    unfolding count resume
    reading_next head {value} {next} er l hd =
        let q : Past bytes at next = subst (Heads bytes at) er hd in
        let inner = reading.inner in
        record {
          inner = fed inner value next-left.1;
          code_is = reading.code_is;
          counted = simp length-append (omega (arith, reading.counted));
          filled = simp length-append (omega (arith, reading.filled, ap count next-left.2));
          stands =
              ap (λ xs. set xs many value) reading.stands
              ∙ ap (λ n. set (spare inner.given) n value) (sym reading.counted)
              ∙ spare_more inner.given value (omega (arith, reading.counted, reading_place));
          past = omega (arith, reading.past, q.less);
          inside = q.inside;
          read = q.read ∙ ap parsed (others_are bytes at reading_ahead);
          rest =
              λ I s M cells g.
              sym (takes_value I M (waits inner next-left.1) s cells [] value)
              ∙ ap (resume I M (waits inner next-left.1 ∷ [])) (sym (subst (HeadValue bytes at M) er (l M g) I s cells))
              ∙ ap (λ t. resume I M (waits inner next-left.1 ∷ []) (build t I M s cells)) (template_is bytes at reading_ahead)
              ∙ sym (waits_for I M inner s cells [] next-left.2)
              ∙ reading.rest I s M cells g;
        }

  -- All its arguments are values: its row is made.
  pub reading_end : needed ≤ many → (m : Making) → m.count ≡ variables → m.made < m.rows → (cells : List ℕ) {cells' : List ℕ}
      → cells' ≡ sets cells (m.made * columns) (code ∷ args)
      → FlatStored bytes from env m cells at cells'
  unfolding join
  reading_end stop m em row cells {cells'} stored =
      let inner = reading.inner in
      let none_left' : inner.left ≡ none = none_left inner.left (omega (arith, arity_is, reading.filled, reading.counted)) in
      record {
        row = row;
        builds =
            record {
              evaluates =
                  λ I s M e g.
                  cc (
                    stored,
                    reading.stands,
                    reading.code_is,
                    cell_row I inner.code inner.given (with_made s m.made) cells (omega (arith, e)),
                    makes_cell I M inner (with_made s m.made) cells none_left',
                    reading.rest I (with_made s m.made) M cells (rw em at g),
                  );
              behind = (reading.past, reading.inside, cc (reading.read, none_left'));
            };
      }
