-- `size_term` and `size_fields`: the code of a row decides, and the depth bound falls from a constructor to its parts.
use native.Mathlib.Omega.{arith}
use Rattle.rows.proofs.SizeLaws as laws
use Rattle.rows.proofs.sizes.+size_fields_size_term.Goals as goal

pub size_fields-returns-then-left-eq0 : goal.size_fields-returns-then-left-eq0
size_fields-returns-then-left-eq0 measure c = omega arith

pub size_fields-returns-then-bound-eq0 : goal.size_fields-returns-then-bound-eq0
size_fields-returns-then-bound-eq0 measure c = search laws.shallow_fields

pub size_fields-size_term-behind-requires : goal.size_fields-size_term-behind-requires
size_fields-size_term-behind-requires measure c = (omega arith, tt)

pub size_fields-size_fields-requires : goal.size_fields-size_fields-requires
size_fields-size_fields-requires measure c = (omega arith, tt)

pub size_fields-returns-then-code-eq-FIELD_CONS : goal.size_fields-returns-then-code-eq-FIELD_CONS
size_fields-returns-then-code-eq-FIELD_CONS measure c = search laws.cons_left

pub size_fields-returns : goal.size_fields-returns
size_fields-returns measure c = search laws.nil-left

pub size_term-returns-then-left-eq0 : goal.size_term-returns-then-left-eq0
size_term-returns-then-left-eq0 measure c = omega arith

pub size_term-returns-then-bound-eq0 : goal.size_term-returns-then-bound-eq0
size_term-returns-then-bound-eq0 measure c = search laws.shallow

pub size_term-size_term-requires : goal.size_term-size_term-requires
size_term-size_term-requires measure c = (omega arith, tt)

pub size_term-size_term-behind-requires : goal.size_term-size_term-behind-requires
size_term-size_term-behind-requires measure c = (omega arith, tt)

pub size_term-size_term-requires-in-34 : goal.size_term-size_term-requires-in-34
size_term-size_term-requires-in-34 measure c = (omega arith, tt)

pub size_term-size_fields-requires : goal.size_term-size_fields-requires
size_term-size_fields-requires measure c = (omega arith, tt)

pub size_term-size_term-requires-in-36 : goal.size_term-size_term-requires-in-36
size_term-size_term-requires-in-36 measure c = (omega arith, tt)

pub size_term-returns-in-33 : goal.size_term-returns-in-33
size_term-returns-in-33 measure c = search laws.fun_left

pub size_term-returns-in-34 : goal.size_term-returns-in-34
size_term-returns-in-34 measure c = search laws.app_left

pub size_term-returns-in-35 : goal.size_term-returns-in-35
size_term-returns-in-35 measure c = search laws.rcd_left

pub size_term-returns-in-36 : goal.size_term-returns-in-36
size_term-returns-in-36 measure c = search laws.dot_left

pub size_term-returns-in_default : goal.size_term-returns-in_default
size_term-returns-in_default measure c = search laws.bare_left
