use Rattle.std.proofs.Common.{◌≡◌, ◌++◌, drop}
use Rattle.ob_session.specs.Report.{runs_from}
use Rattle.ob_session.proofs.report.add_runs.Given as goal

abbrev pub invariant-loop-place : goal.invariant-loop-place
invariant-loop-place l = l.events ++ runs_from l.main l.before l.now l.place (drop l.place l.cells) ≡ l.fn.events ++ runs_from l.main l.before l.now 0 l.cells
