-- Entries that are read in turn: those that were read stand before those that are still to be read.
use Rattle.std.proofs.Common.{List, ◌++◌}
use Rattle.std.specs.Prelude.{Result, Ok, Err}
use Rattle.ob_base.specs.declared.cause.Cause.{Cause}

abbrev pub put_before : {X : Type 0} → List X → Result (List X) Cause → Result (List X) Cause
put_before xs (Ok ys) = Ok (xs ++ ys)
put_before xs (Err cause) = Err cause
