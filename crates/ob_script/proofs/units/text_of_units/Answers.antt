use Rattle.std.proofs.Common.{arith}
use Rattle.ob_script.proofs.Utf16.{lossy_end}
use Rattle.ob_script.proofs.units.text_of_units.Goals as goal

pub returns : goal.returns
returns c = lossy_end _ _ c.loop-place.place (omega arith) c.loop-place.invariant.1
