-- What the sort check of a table means.
use mathlib.Core.Path.{◌≡◌, refl, ap₂, subst}
use mathlib.Core.Logic.{◌↔◌}
use mathlib.Core.List.{[]}
use lib.ListN.{length}
use Rattle.answers.specs.declared.Refusal.{Refusal}
use Rattle.answers.specs.Checked.{ok, bad}
use Rattle.grammar.specs.Table.{Table}
use Rattle.grammar.specs.Written.{Written}
use Rattle.decoding.specs.Within.{Within, Among}
use Rattle.productions.specs.Normal.{Production, normalized}
use Rattle.judgements.specs.Judgements.{scope}
use Rattle.judgements.proofs.Accepting.{passed, passes}
use Rattle.elaboration.specs.Contexts.{Before, scope_after}
use Rattle.elaboration.specs.CheckSequence.{check_sorts}
use Rattle.elaboration.specs.Elaboration.{Elaborates, scope_of}
use Rattle.elaboration.proofs.Ranges.{TableFine, table_fine}
use Rattle.elaboration.proofs.Elaborated.{same_spellings}
use Rattle.elaboration.proofs.Normalizing.{each_at, Fit}
use Rattle.elaboration.proofs.Rightness.{right_first, right_last}
use Rattle.elaboration.proofs.SequenceSorts.{table_rule, rule_table}
use Rattle.elaboration.proofs.RefusalNumbers.{IsSortRefusal, table_sort}

-- A table, also one with texts, passes the sort check, which answers `made`, exactly if the judgements derive its sequence of grammars, elaborate it to that of
-- `made`, and its root is defined, without parameters, of sort Term.
pub elaborates_exactly : (table : Written) (made : Table) → TableFine table → (check_sorts table ≡ ok made) ↔ Elaborates table made
elaborates_exactly table made z = (
  λ e. let (found, elaborates, same) = table_rule _ table z (passed (check_sorts table) e) in subst (Elaborates table) same elaborates,
  λ e. passes (check_sorts table) (rule_table _ table z e refl),
)

-- So does a table within the counts and ranges of the layout.
pub sorts_exactly : (table : Written) (made : Table) → Within table → (check_sorts table ≡ ok made) ↔ Elaborates table made
sorts_exactly table made w = elaborates_exactly table made (table_fine w)

-- A table is elaborated in one way.
pub elaborated_once : {table : Written} {made other : Table} → TableFine table → Elaborates table made → Elaborates table other → made ≡ other
elaborated_once {table} {made} {other} z e f =
    let first : check_sorts table ≡ ok made = (elaborates_exactly table made z).1 e in
    let second : check_sorts table ≡ ok other = (elaborates_exactly table other z).1 f in
    cc

-- Each production of an elaborated table, also of one with texts, fits its scope: its body is sorted by the newest signature of its nonterminal.
pub elaborated_sorted : {table : Written} {made : Table} → TableFine table → (elaborates : Elaborates table made) → (p : Production)
    → Among (normalized made.blocks) p → Fit (scope_of elaborates) p
elaborated_sorted z elaborates p m =
    let last : Before = elaborates.last in
    let (ks, os) = same_spellings elaborates.sequence in
    let right = right_last (right_first z) elaborates.sequence z.blocks in
    let fit : Fit (scope_after last []) p = each_at right.fits (subst (λ bs. Among (normalized bs) p) elaborates.same_blocks m) in
    subst (λ G. Fit G p) (ap₂ (λ K N. scope (length K) (length N) last.env) ks os) fit

-- A table within the layout that does not pass is refused with 7, 8, 9 or 11; of the values, only the place can differ from 0.
pub sort_refusals : (table : Written) (refusal : Refusal) → Within table → check_sorts table ≡ bad refusal → IsSortRefusal refusal
sort_refusals = table_sort
