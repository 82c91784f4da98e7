-- What a read of a source and a write to a sink do.
use Rattle.std.specs.Prelude.{◌≡◌, ◌≤◌, ℕ, ◌+◌, ◌-◌, ◌^◌, min, List, [], ◌<◌, length, take, ⊤}
use Rattle.std.specs.declared.option.Option.{Option}
use Rattle.std.specs.Io.KnownBytes.{Consumes, Keeps, Appends, IsAtEnd}
use Rattle.ob_io.specs.declared.outside.ReadAnswer.{ReadAnswer}
use Rattle.ob_io.specs.declared.outside.ReadAnswer.TheVariants as read
use Rattle.ob_io.specs.declared.outside.WriteAnswer.{WriteAnswer}
use Rattle.ob_io.specs.declared.outside.WriteAnswer.TheVariants as write

-- a count of 64 bits that goes up by one, and stands still at its last value (this project)
abbrev pub next_count : ℕ → ℕ
next_count n = min (n + 1) (2 ^ 64 - 1)

-- a count of 64 bits rose, or stands at its last value
abbrev pub Rose : ℕ → ℕ → Type 0
Rose before now = next_count before ≤ now

-- a reader or a writer of the system: the bytes that it has left or holds, where std knows them,
-- and how often it failed
pub record SystemState : Type 0 where
  pub bytes : Option (List ℕ)
  pub faults : ℕ

-- the count of faults after a read or a write, where each `Failed` counts and nothing else does
abbrev pub faults_after_read : ℕ → ReadAnswer → ℕ
faults_after_read faults read.Failed = next_count faults
faults_after_read faults (read.Got n) = faults
faults_after_read faults read.End = faults

abbrev pub faults_after_write : ℕ → WriteAnswer → ℕ
faults_after_write faults write.Failed = next_count faults
faults_after_write faults (write.Took n) = faults

-- a read gives at least one byte, and no more than there is room for
abbrev pub IsCount : ReadAnswer → ℕ → Type 0
IsCount (read.Got n) room = (1 ≤ n) × (n ≤ room)
IsCount read.End room = ⊤
IsCount read.Failed room = ⊤

-- what a read takes of the bytes that are left: the first n, which stand in the buffer then; at
-- `End` none is left; at `Failed` none is taken
abbrev pub Takes : Option (List ℕ) → Option (List ℕ) → ReadAnswer → List ℕ → Type 0
Takes old new (read.Got n) buf = Consumes old new (take n buf)
Takes old new read.End buf = IsAtEnd old × Keeps old new
Takes old new read.Failed buf = Keeps old new

-- what stands in a buffer after a read that began at its front
abbrev pub Fills : Option (List ℕ) → Option (List ℕ) → ReadAnswer → List ℕ → Type 0
Fills old new (read.Got n) buf = (0 < length buf) × Consumes old new buf
Fills old new read.End buf = (buf ≡ []) × IsAtEnd old × Keeps old new
Fills old new read.Failed buf = (buf ≡ []) × Keeps old new

-- a write takes at least one byte, and no more than it was given
abbrev pub IsTaken : WriteAnswer → ℕ → Type 0
IsTaken (write.Took n) len = (1 ≤ n) × (n ≤ len)
IsTaken write.Failed len = ⊤

-- what a write adds to the bytes that are held: the first n of its piece, or at `Failed` none
abbrev pub Gains : Option (List ℕ) → Option (List ℕ) → WriteAnswer → List ℕ → Type 0
Gains old new (write.Took n) piece = Appends old new (take n piece)
Gains old new write.Failed piece = Keeps old new

-- known bytes grow by a front of these
abbrev pub AppendsFront : Option (List ℕ) → Option (List ℕ) → List ℕ → Type 0
AppendsFront old new bytes = (n : ℕ) × Appends old new (take n bytes)
