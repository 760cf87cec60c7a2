-- `numerator` meets its contract: a chain that is not granted has numerator 0, else its run's value is the numerator.
use mathlib.Core.Path.{ap, ◌∙◌}
use native.Mathlib.Omega.{arith}
use Rattle.arith.specs.Capped.{capped}
use Rattle.rates.proofs.LoweredLaws.{kept_same, kept_more, not_run, run_cells, run_value}
use Rattle.rates.proofs.numerator.Goals as goal

pub whole_value-requires : goal.whole_value-requires
whole_value-requires c =
    let g = c.requires.guaranteed in
    let windows = c.in-Ok.ensures in
    record { guaranteed = (g.0, windows.windows.0, windows.windows.1); room = omega (arith, g.2, run_cells _ g.0 _ _ windows.answer) }

pub returns-in-Err : goal.returns-in-Err
returns-in-Err c = record { value = not_run _ c.requires.guaranteed.0 _ _ c.in-Err.ensures.answer c.requires.guaranteed.1; kept = kept_same _ _ }

pub returns-in-Ok : goal.returns-in-Ok
returns-in-Ok c =
    let g = c.requires.guaranteed.0 in
    let windows = c.in-Ok.ensures.answer in
    record {
      value = c.whole_value.ensures.value ∙ ap capped (run_value _ g _ _ windows);
      kept = kept_more _ _ _ _ (run_cells _ g _ _ windows) c.whole_value.ensures.rest_kept;
    }
