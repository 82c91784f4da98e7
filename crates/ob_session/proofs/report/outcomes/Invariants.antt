use Rattle.std.proofs.Common.{◌≡◌, drop}
use Rattle.ob_session.specs.Report.{outcomes, outcomes_from}
use Rattle.ob_session.proofs.report.outcomes.Given as goal

abbrev pub invariant-loop-cell : goal.invariant-loop-cell
invariant-loop-cell l = outcomes_from l.values.items (drop l.cell-index l.cells) ≡ outcomes l.cells
