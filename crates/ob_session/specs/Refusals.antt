-- Answers against what the definitions give. Want of memory is the one free answer, and leaves the world.
use Rattle.std.specs.Prelude.{◌≡◌, Result, Ok, Err}
use Rattle.ob_base.specs.declared.cause.Cause.{Cause}
use Rattle.ob_session.specs.declared.answer.CommandError.{CommandError}
use Rattle.ob_session.specs.declared.answer.CommandError.TheVariants as errors
use Rattle.ob_session.specs.declared.world.World.{World}

abbrev pub Opens : Result World CommandError → Result World Cause → Type 0
Opens (Ok w) given = given ≡ Ok w
Opens (Err (errors.Refused c)) given = given ≡ Err c
Opens (Err errors.NoMemory) given = Unit {0}

abbrev pub Accepts : World → World → Result (Unit {0}) CommandError → Result World Cause → Type 0
Accepts old new (Ok u) given = given ≡ Ok new
Accepts old new (Err (errors.Refused c)) given = (given ≡ Err c) × (new ≡ old)
Accepts old new (Err errors.NoMemory) given = new ≡ old
