use Rattle.std.proofs.Common.{◌≡◌, ◌++◌, drop}
use Rattle.ob_session.specs.Report.{values_from}
use Rattle.ob_session.proofs.report.add_values.Given as goal

abbrev pub invariant-loop-place : goal.invariant-loop-place
invariant-loop-place l = l.events ++ values_from l.main l.observed l.values l.place (drop l.place l.cells) ≡ l.fn.events ++ values_from l.main l.observed l.values 0 l.cells
