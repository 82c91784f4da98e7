-- How a session ends, and what it has appended then (this project).
use Rattle.std.specs.Prelude.{◌≡◌, ℕ, List, [], ◌∷◌, ◌++◌, Bool, true, false, bytes_eq, codes, IfSome, Some, String, string_bytes, map, take}
use Rattle.std.specs.declared.alloc.Global.{Global}
use Rattle.std.specs.declared.option.Option.{Option}
use Rattle.std.specs.List.{flat_map}
use Rattle.std.specs.Io.KnownBytes.{Appends, Consumes, IsAtEnd}
use Rattle.ob_io.specs.Outside.{AppendsFront}
use Rattle.ob_session.specs.declared.exit.Exit.{Exit}
use Rattle.ob_session.specs.declared.exit.Exit.TheVariants as exit
use Rattle.ob_session.specs.declared.reply.Reply.{Reply}
use Rattle.ob_session.specs.declared.reply.Reply.TheVariants as reply
use Rattle.ob_base.specs.declared.cause.Cause.{Cause}
use Rattle.ob_session.specs.Show.{show, line_end}
use Rattle.ob_session.specs.Trace.{trace, trace_part, finish}

abbrev pub usage_line : List ℕ
usage_line = codes "usage: notebook_run run | flatten | make N" ++ line_end

-- whether the words are `run` alone
abbrev pub is_run : List (List ℕ) → Bool
is_run [] = false
is_run (word ∷ []) = bytes_eq word (codes "run")
is_run (word ∷ other ∷ words) = false

abbrev pub word_bytes : List (String Global) → List (List ℕ)
word_bytes words = map (λ w. string_bytes w) words

-- the bytes of the first k of these replies were appended, whole, for some k
abbrev pub AppendsSome : Option (List ℕ) → Option (List ℕ) → List Reply → Type 0
AppendsSome old new all = (k : ℕ) × Appends old new (flat_map show (take k all))

-- a session ended as stated, and the bytes of all its replies were appended
abbrev pub EndsAs : Exit → Option (List ℕ) → (List ℕ → List Reply) → (List ℕ → Exit) → Option (List ℕ) → Option (List ℕ) → Type 0
EndsAs end input all finish old new = IfSome input (λ i. (finish i ≡ end) × Appends old new (flat_map show (all i)))

-- the bytes of the replies to what was taken of the input were appended
abbrev pub AppendsPart : List ℕ → Option (List ℕ) → (List ℕ → List Reply) → Option (List ℕ) → Option (List ℕ) → Type 0
AppendsPart input rest part old new = (taken : List ℕ) × Consumes (Some input) rest taken × Appends old new (flat_map show (part taken))

-- How a session ends over an input that has these replies and this end, and to a part of which there are those replies: by
-- the bytes that were to come and those that are still to come, and by what the sink held and holds, where these are known.
abbrev pub AllEnds : Option (List ℕ) → Option (List ℕ) → (List ℕ → List Reply) → (List ℕ → List Reply) → (List ℕ → Exit) → Option (List ℕ) → Option (List ℕ) → Exit → Type 0
AllEnds input rest all part finish old new exit.Done = EndsAs exit.Done input all finish old new × IfSome input (λ i. IsAtEnd rest)
AllEnds input rest all part finish old new exit.BadBundle = EndsAs exit.BadBundle input all finish old new
AllEnds input rest all part finish old new exit.LineTooLong = EndsAs exit.LineTooLong input all finish old new
AllEnds input rest all part finish old new exit.InputTooLong = EndsAs exit.InputTooLong input all finish old new
AllEnds input rest all part finish old new exit.ReadFault = IfSome input (λ i. AppendsPart i rest part old new)
AllEnds input rest all part finish old new exit.WriteFault = IfSome input (λ i. AppendsFront old new (flat_map show (all i)))
AllEnds input rest all part finish old new exit.NoMemory = IfSome input (λ i. AppendsSome old new (all i))
AllEnds input rest all part finish old new exit.Usage = ⊥

-- the word `run`
abbrev pub RunEnds : Option (List ℕ) → Option (List ℕ) → Option (List ℕ) → Option (List ℕ) → Exit → Type 0
RunEnds input rest old new end = AllEnds input rest trace trace_part finish old new end

-- other words
abbrev pub UsageEnds : Option (List ℕ) → Option (List ℕ) → Exit → Type 0
UsageEnds old new exit.Usage = Appends old new usage_line
UsageEnds old new exit.WriteFault = AppendsFront old new usage_line
UsageEnds old new exit.Done = ⊥
UsageEnds old new exit.BadBundle = ⊥
UsageEnds old new exit.ReadFault = ⊥
UsageEnds old new exit.NoMemory = ⊥
UsageEnds old new exit.LineTooLong = ⊥
UsageEnds old new exit.InputTooLong = ⊥

abbrev pub Ends : Bool → Option (List ℕ) → Option (List ℕ) → Option (List ℕ) → Option (List ℕ) → Exit → Type 0
Ends true input rest old new end = RunEnds input rest old new end
Ends false input rest old new end = UsageEnds old new end

-- a refused first line
abbrev pub Refuses : Cause → Option (List ℕ) → Option (List ℕ) → Exit → Type 0
Refuses cause old new exit.BadBundle = Appends old new (show (reply.BadBundle cause))
Refuses cause old new exit.WriteFault = AppendsFront old new (show (reply.BadBundle cause))
Refuses cause old new exit.NoMemory = new ≡ old
Refuses cause old new exit.Done = ⊥
Refuses cause old new exit.Usage = ⊥
Refuses cause old new exit.ReadFault = ⊥
Refuses cause old new exit.LineTooLong = ⊥
Refuses cause old new exit.InputTooLong = ⊥
