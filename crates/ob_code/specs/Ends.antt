-- A run has one end, and a call comes to one thing.
use Rattle.std.specs.Prelude.{◌≡◌, ℕ}
use Rattle.ob_actions.specs.Act.{Out}
use Rattle.ob_actions.specs.Core.{Core}
use Rattle.ob_actions.specs.Requests.{Request, Reply}
use Rattle.ob_actions.specs.World.{World}
use Rattle.ob_code.specs.Code.{Code}
use Rattle.ob_code.specs.Codes.{Numbered}
use Rattle.ob_code.specs.Configs.{Here, Frames, Config, Running}
use Rattle.ob_code.specs.Runs.{calls_to}
use Rattle.ob_code.specs.Steps.{Calls, Leads}
use Rattle.ob_code.specs.declared.chunk.Chunk.{Chunk}

-- nothing follows
abbrev pub IsFinal : Config → Type 0
IsFinal (Running place st es s o) = ⊥
IsFinal _ = Unit {0}

-- two outcomes of one request are the same
abbrev pub ComesToOne : Calls → Type 0
ComesToOne calls =
    (request : Request) (s : Core) (fs : Frames) (p q : Out Core Reply) (gs hs : Frames) → calls request s fs p gs → calls request s fs q hs → (p ≡ q) × (gs ≡ hs)

-- two ends of a run from one configuration are the same
abbrev pub EndsAtOne : World → Calls → Type 0
EndsAtOne world calls =
    (chunk : Chunk) (code : Code) (here : Here) (a c d : Config) → IsFinal c → IsFinal d
    → Leads world calls chunk code here a c → Leads world calls chunk code here a d → c ≡ d

-- at each depth
abbrev pub CallsComeToOne : Type 0
CallsComeToOne = (world : World) (codes : Numbered) (depth : ℕ) → ComesToOne (calls_to world codes depth)

abbrev pub RunsEndAtOne : Type 0
RunsEndAtOne = (world : World) (codes : Numbered) (depth : ℕ) → EndsAtOne world (calls_to world codes depth)
