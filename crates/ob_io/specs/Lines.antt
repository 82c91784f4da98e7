-- The next line of an input, under a limit for each line and one for the whole (this project).
use Rattle.std.specs.Prelude.{◌≡◌, ℕ, ◌+◌, ◌≤◌, ◌==◌, ◌&&◌, Bool, true, false, List, [], length, take, drop, nat_lt, nat_le, None, Some, IfSome, ⊤, if◌then◌else◌}
use Rattle.std.specs.List.{position_or_len}
use Rattle.std.specs.declared.option.Option.{Option}
use Rattle.std.specs.Io.KnownBytes.{Keeps}
use Rattle.ob_io.specs.declared.next_line.NextLine.{NextLine}
use Rattle.ob_io.specs.declared.next_line.NextLine.TheVariants.{Line, End, LineTooLong, InputTooLong, ReadFault, NoMemory}

-- the line feed, U+000A
abbrev pub is_line_feed : ℕ → Bool
is_line_feed byte = byte == 10

-- how many bytes stand before the first line feed, or in all where there is none
abbrev pub line_len : List ℕ → ℕ
line_len bytes = position_or_len is_line_feed bytes

-- What comes next where these bytes are still to come. A byte of a line passes the line limit where
-- `line_limit` bytes of the line stand before it. A byte passes the input limit where `input_left`
-- bytes stand before it; where a line feed is one of these, its line comes first. The limit that is
-- passed first decides, and of both at one byte the line's.
unfoldable pub next_of : ℕ → ℕ → List ℕ → NextLine
next_of line_limit input_left bytes = if length bytes == 0 then End
    else if nat_lt line_limit (line_len bytes) && nat_le line_limit input_left then LineTooLong
    else if nat_lt input_left (length bytes) && nat_le input_left (line_len bytes) then InputTooLong
    else Line (take (line_len bytes) bytes)

-- how many bytes the line feed of a line has, where its end was the input's
abbrev pub feed_len : Bool → ℕ
feed_len ended = if ended then 0 else 1

-- How a call of `next_line` ends, over the bytes that were to come and those that are to come after
-- it, where they are known, and whether the input's end was met. A line goes with its line feed;
-- with each other answer the bytes stay.
abbrev pub IsNext : ℕ → ℕ → Option (List ℕ) → Option (List ℕ) → Bool → NextLine → Type 0
IsNext line_limit input_left old new ended (Line line) = IfSome old (λ bytes.
    (next_of line_limit input_left bytes ≡ Line line) × (new ≡ Some (drop (length line + 1) bytes)) × (ended ≡ nat_le (length bytes) (length line)))
IsNext line_limit input_left old new ended End = IfSome old (λ bytes. next_of line_limit input_left bytes ≡ End) × Keeps old new × (ended ≡ true)
IsNext line_limit input_left old new ended LineTooLong = IfSome old (λ bytes. next_of line_limit input_left bytes ≡ LineTooLong) × Keeps old new × (ended ≡ false)
IsNext line_limit input_left old new ended InputTooLong = IfSome old (λ bytes. next_of line_limit input_left bytes ≡ InputTooLong) × Keeps old new × (ended ≡ false)
IsNext line_limit input_left old new ended ReadFault = Keeps old new × (ended ≡ false)
IsNext line_limit input_left old new ended NoMemory = Keeps old new × (ended ≡ false)

-- a line as far as it has come: no line feed, and no byte that passes a limit
pub record IsPartial (line_limit input_left : ℕ) (line : List ℕ) : Type 0 where
  pub no_feed : line_len line ≡ length line
  pub short : length line ≤ line_limit
  pub within : length line ≤ input_left

-- no answer yet: what was to come has come whole, into the line, which goes on
abbrev pub IsMore : ℕ → ℕ → List ℕ → List ℕ → List ℕ → Option NextLine → Type 0
IsMore line_limit input_left kept line buffer None = (line ≡ kept) × (buffer ≡ []) × IsPartial line_limit input_left line
IsMore line_limit input_left kept line buffer (Some answer) = ⊤

-- What holds over any source: a line is within the limits, with its line feed within the input's,
-- and hands out at least a byte; after a fault only a part of a line is kept.
abbrev pub IsWithin : ℕ → ℕ → List ℕ → Bool → NextLine → Type 0
IsWithin line_limit input_left kept ended (Line line) = (line_len line ≡ length line) × (length line ≤ line_limit)
    × (1 ≤ length line + feed_len ended) × (length line + feed_len ended ≤ input_left)
IsWithin line_limit input_left kept ended End = ⊤
IsWithin line_limit input_left kept ended LineTooLong = ⊤
IsWithin line_limit input_left kept ended InputTooLong = ⊤
IsWithin line_limit input_left kept ended ReadFault = IsPartial line_limit input_left kept
IsWithin line_limit input_left kept ended NoMemory = ⊤

-- how many bytes of the input an answer hands out
abbrev pub handed_out : Bool → NextLine → ℕ
handed_out ended (Line line) = length line + feed_len ended
handed_out ended End = 0
handed_out ended LineTooLong = 0
handed_out ended InputTooLong = 0
handed_out ended ReadFault = 0
handed_out ended NoMemory = 0

-- A reader of lines: the bytes that it took from its source and still keeps, its two limits, in
-- bytes, how many bytes it handed out, line feeds included, and whether it met the input's end.
pub record LineState : Type 0 where
  pub kept : List ℕ
  pub line_limit : ℕ
  pub input_limit : ℕ
  pub handed : ℕ
  pub ended : Bool
