-- Where a session stands between two lines.
use Rattle.std.specs.Prelude.{◌≡◌, ◌≤◌, ℕ, ◌-◌, List, [], IsTrue, IfSome}
use Rattle.std.specs.declared.option.Option.{Option}
use Rattle.ob_io.specs.Lines.{LineState}
use Rattle.ob_session.specs.declared.world.World.{World}
use Rattle.ob_session.specs.Sound.{IsSound}
use Rattle.ob_session.specs.Trace.{line_limit, input_limit}

-- a reader with the limits of a session
pub record IsReading (r : LineState) : Type 0 where
  pub line : r.line_limit ≡ line_limit
  pub input : r.input_limit ≡ input_limit
  pub within : r.handed ≤ input_limit

-- where the reader met the input's end, no byte is to come
abbrev pub IsOver : LineState → Option (List ℕ) → Type 0
IsOver r coming = IsTrue r.ended → IfSome coming (λ b. b ≡ [])

-- a world between two lines: there were no more ticks than bytes
pub record IsBetween (w : World) (r : LineState) : Type 0 where
  pub sound : IsSound w
  pub ticks : w.ticks ≤ r.handed

-- how many bytes may still come
abbrev pub left_of : LineState → ℕ
left_of r = r.input_limit - r.handed
