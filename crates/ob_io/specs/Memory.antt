-- Sources and sinks in memory, which do what they were told at each call (this project).
use Rattle.std.specs.Prelude.{ℕ, ◌-◌, ◌||◌, min, Bool, List, [], ◌∷◌, length, take, drop, ◌++◌, nat_eq, nat_le, if◌then◌else◌}
use Rattle.std.specs.List.{list_any}
use Rattle.ob_io.specs.Outside.{next_count}
use Rattle.ob_io.specs.declared.outside.ReadAnswer.{ReadAnswer}
use Rattle.ob_io.specs.declared.outside.ReadAnswer.TheVariants as read
use Rattle.ob_io.specs.declared.outside.WriteAnswer.{WriteAnswer}
use Rattle.ob_io.specs.declared.outside.WriteAnswer.TheVariants as write

-- a source in memory: the bytes that are left, the sizes of the pieces to come, the numbers of the
-- calls that fail (from 1), how many calls there were, and how many of them failed
pub record Reading : Type 0 where
  pub left : List ℕ
  pub sizes : List ℕ
  pub failing : List ℕ
  pub calls : ℕ
  pub faults : ℕ

-- a sink in memory: the bytes that it holds, how many it has room for in all, the numbers of the
-- calls that fail (from 1), how many calls there were, and how many of them failed
pub record Writing : Type 0 where
  pub held : List ℕ
  pub room : ℕ
  pub failing : List ℕ
  pub calls : ℕ
  pub faults : ℕ

-- whether the call after so many is one that fails
abbrev pub fails_next : List ℕ → ℕ → Bool
fails_next failing calls = list_any (λ number. nat_eq number (next_count calls)) failing

-- the least of the next size, where there is one, the buffer's length and the number of bytes left
abbrev pub piece_size : List ℕ → ℕ → ℕ → ℕ
piece_size [] room left = min room left
piece_size (size ∷ sizes) room left = min size (min room left)

-- the answer where the call doesn't fail: `End` where no byte is left
abbrev pub piece_of : List ℕ → List ℕ → ℕ → ReadAnswer
piece_of [] sizes room = read.End
piece_of (byte ∷ bytes) sizes room = read.Got (piece_size sizes room (length (byte ∷ bytes)))

abbrev pub read_answer : Reading → ℕ → ReadAnswer
read_answer s room = if fails_next s.failing s.calls then read.Failed else piece_of s.left s.sizes room

-- the source after that answer: a call that doesn't fail uses one size up
abbrev pub after_read : Reading → ReadAnswer → Reading
after_read s (read.Got n) = record s { left = drop n s.left; sizes = drop 1 s.sizes; calls = next_count s.calls }
after_read s read.End = record s { sizes = drop 1 s.sizes; calls = next_count s.calls }
after_read s read.Failed = record s { calls = next_count s.calls; faults = next_count s.faults }

-- `Failed` at a call that is to fail and where no room is left, else the lesser of the piece and the room
abbrev pub write_answer : Writing → ℕ → WriteAnswer
write_answer s piece = if fails_next s.failing s.calls || nat_le s.room (length s.held) then write.Failed else write.Took (min piece (s.room - length s.held))

-- the sink after that answer to a write of this piece
abbrev pub after_write : Writing → List ℕ → WriteAnswer → Writing
after_write s piece (write.Took n) = record s { held = s.held ++ take n piece; calls = next_count s.calls }
after_write s piece write.Failed = record s { calls = next_count s.calls; faults = next_count s.faults }

-- the answer of a source that never fails and hands out all that there is room for
abbrev pub pure_answer : List ℕ → ℕ → ReadAnswer
pure_answer left room = piece_of left [] room
