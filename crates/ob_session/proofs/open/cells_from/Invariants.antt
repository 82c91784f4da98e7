use Rattle.std.proofs.Common.{◌≡◌, [], drop, map}
use Rattle.ob_session.specs.declared.world.Cell.{Cell}
use Rattle.ob_session.specs.Inputs.{IsBuiltUp}
use Rattle.ob_session.specs.Known.{names_of}
use Rattle.ob_session.specs.World.{cells_from}
use Rattle.ob_session.proofs.open.cells_from.Given as goal

abbrev pub invariant-loop-new : goal.invariant-loop-new
invariant-loop-new l =
    (cells_from l.cells (drop l.new-index l.all) ≡ cells_from [] l.all) × IsBuiltUp (map (λ (c : Cell). c.input) l.cells) × (l.known ≡ names_of l.cells)
