-- What a whole input is answered with (this project).
use Rattle.std.specs.Prelude.{ℕ, zero, suc, ◌+◌, ◌-◌, List, [], ◌∷◌, ◌++◌, length, drop, nat_le, Result, Ok, Err, if◌then◌else◌}
use Rattle.std.specs.List.{flat_map}
use Rattle.ob_base.specs.declared.cause.Cause.{Cause}
use Rattle.ob_io.specs.declared.next_line.NextLine.{NextLine}
use Rattle.ob_io.specs.declared.next_line.NextLine.TheVariants as coming
use Rattle.ob_io.specs.Lines.{next_of, feed_len, is_line_feed}
use Rattle.ob_session.specs.declared.reply.Reply.{Reply}
use Rattle.ob_session.specs.declared.reply.Reply.TheVariants as reply
use Rattle.ob_session.specs.declared.exit.Exit.{Exit}
use Rattle.ob_session.specs.declared.exit.Exit.TheVariants as exit
use Rattle.ob_session.specs.declared.world.World.{World}
use Rattle.ob_session.specs.Answer.{open_world, replies}
use Rattle.ob_session.specs.Show.{show}

-- the most bytes of a line, its line feed aside, and of an input
abbrev pub line_limit : ℕ
line_limit = 1048576

abbrev pub input_limit : ℕ
input_limit = 67108864

-- what comes next where these bytes are to come and so many may come
abbrev pub next_from : ℕ → List ℕ → NextLine
next_from left bytes = next_of line_limit left bytes

-- one answer where a line comes next, another where none does
abbrev pub on_line : {X : Type 0} → NextLine → (List ℕ → X) → X → X
on_line (coming.Line line) f other = f line
on_line coming.End f other = other
on_line coming.LineTooLong f other = other
on_line coming.InputTooLong f other = other
on_line coming.ReadFault f other = other
on_line coming.NoMemory f other = other

-- the bytes behind a line and its line feed, and how many may come then
abbrev pub behind : List ℕ → List ℕ → List ℕ
behind bytes line = drop (length line + 1) bytes

abbrev pub left_behind : ℕ → List ℕ → List ℕ → ℕ
left_behind left bytes line = left - (length line + feed_len (nat_le (length bytes) (length line)))

-- the first n lines that come, or all if there are fewer, and what stands behind them in place of a line
abbrev pub lines_up_to : ℕ → ℕ → List ℕ → List (List ℕ)
lines_up_to zero left bytes = []
lines_up_to (suc n) left bytes = on_line (next_from left bytes) (λ line. line ∷ lines_up_to n (left_behind left bytes line) (behind bytes line)) []

abbrev pub end_up_to : ℕ → ℕ → List ℕ → NextLine
end_up_to zero left bytes = coming.End
end_up_to (suc n) left bytes = on_line (next_from left bytes) (λ line. end_up_to n (left_behind left bytes line) (behind bytes line)) (next_from left bytes)

-- the lines that count, of which there are at most as many as bytes, and how they end: with the input, or at a limit
abbrev pub lines : ℕ → List ℕ → List (List ℕ)
lines left bytes = lines_up_to (suc (length bytes)) left bytes

abbrev pub end : ℕ → List ℕ → NextLine
end left bytes = end_up_to (suc (length bytes)) left bytes

-- the lines of these bytes that a line feed ends, of which the first begins with those before
abbrev pub fed_from : List ℕ → List ℕ → List (List ℕ)
fed_from line [] = []
fed_from line (b ∷ bytes) = if is_line_feed b then line ∷ fed_from [] bytes else fed_from (line ++ b ∷ []) bytes

abbrev pub fed_lines : List ℕ → List (List ℕ)
fed_lines bytes = fed_from [] bytes

abbrev pub exit_of : NextLine → Exit
exit_of (coming.Line line) = exit.Done
exit_of coming.End = exit.Done
exit_of coming.LineTooLong = exit.LineTooLong
exit_of coming.InputTooLong = exit.InputTooLong
exit_of coming.ReadFault = exit.ReadFault
exit_of coming.NoMemory = exit.NoMemory

-- a missing first line counts as an empty one
abbrev pub with_first : List (List ℕ) → NextLine → List (List ℕ)
with_first [] coming.End = [] ∷ []
with_first lines other = lines

abbrev pub all_lines : List ℕ → List (List ℕ)
all_lines input = with_first (lines input_limit input) (end input_limit input)

abbrev pub opened : Result World Cause → List (List ℕ) → List Reply
opened (Err cause) more = reply.BadBundle cause ∷ []
opened (Ok w) more = reply.Accepted ∷ replies w more

abbrev pub trace_of : List (List ℕ) → List Reply
trace_of [] = []
trace_of (first ∷ more) = opened (open_world first) more

-- the replies and reports to an input
unfoldable pub trace : List ℕ → List Reply
trace input = trace_of (all_lines input)

-- those to the lines that had come whole in these bytes, its front
abbrev pub trace_part : List ℕ → List Reply
trace_part taken = trace_of (fed_lines taken)

-- their bytes
abbrev pub out : List ℕ → List ℕ
out input = flat_map show (trace input)

abbrev pub finish_opened : Result World Cause → Exit → Exit
finish_opened (Err cause) end = exit.BadBundle
finish_opened (Ok w) end = end

abbrev pub finish_of : List (List ℕ) → Exit → Exit
finish_of [] end = end
finish_of (first ∷ more) end = finish_opened (open_world first) end

-- how a session on an input ends: with a refused first line, at a limit, or with the input
unfoldable pub finish : List ℕ → Exit
finish input = finish_of (all_lines input) (exit_of (end input_limit input))
