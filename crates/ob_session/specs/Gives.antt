-- An answer against what a definition gives.
use Rattle.std.specs.Prelude.{◌≡◌, Option, Some, None, Result, Ok, Err}
use Rattle.ob_session.specs.declared.open.OpenError.{OpenError}
use Rattle.ob_session.specs.declared.open.OpenError.TheVariants as errors

-- memory is the one free answer
abbrev pub Fails : {Y : Type 0} → OpenError → Option Y → Type 0
Fails errors.NoMemory given = Unit {0}
Fails errors.NotBuilt given = given ≡ None

abbrev pub Gives : {Y : Type 0} → Result Y OpenError → Option Y → Type 0
Gives (Ok y) given = given ≡ Some y
Gives (Err e) given = Fails e given
