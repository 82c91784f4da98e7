-- What a contract sees of `Codes`: for each number its chunk, or none. The prelude has the numbers from 0 to 6.
use Rattle.std.specs.Prelude.{◌≡◌, ◌≢◌, ℕ, ◌-◌, nat_lt, List, Option, None, slice_get, slice_index_or, if◌then◌else◌}
use Rattle.ob_code.specs.declared.chunk.Chunk.{Chunk}

pub record Numbered : Type 0 where
  pub prelude : List Chunk
  pub added : List (Option Chunk)

-- the chunk of a number
abbrev pub chunk_at : Numbered → ℕ → Option Chunk
chunk_at codes number =
    if nat_lt number 7 then slice_get codes.prelude number else slice_index_or codes.added (number - 7) None

-- the number has this chunk, or none, and each other number has what it had
pub record Updates (old new : Numbered) (number : ℕ) (chunk : Option Chunk) : Type 0 where
  pub changed : chunk_at new number ≡ chunk
  pub others : (other : ℕ) → other ≢ number → chunk_at new other ≡ chunk_at old other
