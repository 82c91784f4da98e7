-- What a reader answers, against what its line reads as. Want of memory is the one free answer.
use Rattle.std.specs.Prelude.{◌≡◌, Result, Ok, Err}
use Rattle.ob_base.specs.declared.cause.Cause.{Cause}
use Rattle.ob_script.specs.declared.read_error.ReadError.{ReadError}
use Rattle.ob_script.specs.declared.read_error.ReadError.TheVariants as errors

abbrev pub Refuses : {X : Type 0} → ReadError → Result X Cause → Type 0
Refuses errors.NoMemory reads = Unit {0}
Refuses (errors.Refused cause) reads = reads ≡ Err cause

abbrev pub Gives : {X : Type 0} → Result X ReadError → Result X Cause → Type 0
Gives (Ok x) reads = reads ≡ Ok x
Gives (Err error) reads = Refuses error reads

-- the same of an answer that is seen under view
abbrev pub GivesSeen : {X Y : Type 0} → (X → Y) → Result X ReadError → Result Y Cause → Type 0
GivesSeen view (Ok x) reads = reads ≡ Ok (view x)
GivesSeen view (Err error) reads = Refuses error reads
