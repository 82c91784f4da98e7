-- What holds of every world: a flag of each kind for each cell, and cells read cells before them.
use Rattle.std.specs.Prelude.{◌≡◌, length, map}
use Rattle.ob_session.specs.declared.world.World.{World}
use Rattle.ob_session.specs.Inputs.{IsBuiltUp}

pub record IsSound (w : World) : Type 0 where
  pub observed : length w.observed ≡ length w.cells
  pub live : length w.live ≡ length w.cells
  pub built_up : IsBuiltUp (map (λ c. c.input) w.cells)
