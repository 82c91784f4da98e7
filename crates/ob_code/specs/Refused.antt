-- Why a chunk was refused: want of memory, or the first instruction that breaks the rules; the chunk is handed back.
use Rattle.std.specs.Prelude.{◌≡◌, Some}
use Rattle.ob_code.specs.Rules.{first_break}
use Rattle.ob_code.specs.declared.check.CheckError.{CheckError}
use Rattle.ob_code.specs.declared.check.CheckError.TheVariants as error
use Rattle.ob_code.specs.declared.chunk.Chunk.{Chunk}

abbrev pub IsRefusedFor : Chunk → CheckError → Type 0
IsRefusedFor chunk (error.Bad bad) = (bad.chunk ≡ chunk) × (first_break chunk ≡ Some (record { function = bad.function; place = bad.place }))
IsRefusedFor chunk error.NoMemory = Unit {0}
