-- `fill`: no place, no fit, or the places of the template.
use Rattle.bodies.proofs.TemplateLoops as laws
use Rattle.bodies.proofs.templates.fill.Goals as goal

pub returns-in_err-under : goal.returns-in_err-under
returns-in_err-under c =
    rw c.from_residual-in_err-under.ensures (laws.fill_none c.in_ok-filling.was c.in_err-under.ensures)

pub returns-then-not-fitting : goal.returns-then-not-fitting
returns-then-not-fitting c =
    laws.fill_other c.in_ok-filling.was c.in_ok-under.ensures c.head_sort.ensures c.fits-fitting.ensures c.if-not-fitting.true

pub returns : goal.returns
returns c =
    laws.fill_fits c.in_ok-filling.was c.in_ok-under.ensures c.head_sort.ensures c.fits-fitting.ensures c.if-not-fitting.false
    c.open_places.ensures
