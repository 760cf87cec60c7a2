-- `run_all` meets its contract: 14 where the full model's value is too large, 15 where a numerator is, else the numbers.
use mathlib.Core.Path.{sym, ap, ◌∙◌}
use native.Mathlib.Omega.{arith}
use Rattle.std.specs.Prelude.{Err}
use Rattle.sums.proofs.HandedLaws.{handed_on, met_none, met_some}
use Rattle.ratesheet.proofs.SheetLaws.{cells_full, value_large, numerator_large, sheet_made, pairs_are, cells_are}
use Rattle.ratesheet.proofs.run_all.Goals as goal

pub run_value-requires-clause-ready : goal.run_value-requires-clause-ready
run_value-requires-clause-ready c = c.requires.full.ready

pub run_value-requires-clause-room : goal.run_value-requires-clause-room
run_value-requires-clause-room c = omega (arith, c.requires.room, cells_full c.requires.full)

pub returns-in_err-value-clause-answer : goal.returns-in_err-value-clause-answer
returns-in_err-value-clause-answer c =
    let met = met_none _ c.ok_or.ensures.value c.in_err-value.was in
    handed_on _ c.from_residual.ensures.1 ∙ ap Err (sym met.1) ∙ value_large c.requires.full c.run_value.ensures.value met.0

pub returns-in_err-numerators-clause-answer : goal.returns-in_err-numerators-clause-answer
returns-in_err-numerators-clause-answer c =
    let value = met_some _ _ c.ok_or.ensures.value c.in_ok-value.was in
    let met = met_none _ c.ok_or-2.ensures.value c.in_err-numerators.was in
    handed_on _ c.from_residual-in_err-numerators.ensures.1 ∙ ap Err (sym met.1)
    ∙ numerator_large c.requires.full c.run_value.ensures.value value c.numerators.ensures.numbers met.0

pub returns-clause-answer : goal.returns-clause-answer
returns-clause-answer c =
    let value = met_some _ _ c.ok_or.ensures.value c.in_ok-value.was in
    let numbers = met_some _ _ c.ok_or-2.ensures.value c.in_ok-numerators.was in
    sheet_made c.requires.full c.run_value.ensures.value value c.numerators.ensures.numbers numbers
    (pairs_are c.requires.full) (cells_are c.requires.full) c.busiest.ensures
