-- One line of a session.
use Rattle.std.specs.Prelude.{◌≡◌, ℕ, List, length, Bool, nat_le, Some, None}
use Rattle.ob_io.specs.Lines.{line_len}
use Rattle.std.specs.declared.option.Option.{Option}
use Rattle.std.specs.Io.KnownBytes.{Appends}
use Rattle.ob_io.specs.declared.next_line.NextLine.TheVariants as coming
use Rattle.ob_session.specs.declared.world.World.{World}
use Rattle.ob_session.specs.Answer.{answer}
use Rattle.ob_session.specs.Show.{show}
use Rattle.ob_session.specs.Trace.{next_from, behind, left_behind}

-- bytes with no line feed
abbrev pub IsUnfed : List ℕ → Type 0
IsUnfed bytes = line_len bytes ≡ length bytes

-- a line comes, with its line feed unless it met the input's end, and its reply was appended
pub record IsAnswered (left after : ℕ) (bytes rest : List ℕ) (ended : Bool) (w new : World) (held holds : Option (List ℕ)) : Type 0 where
  pub line : List ℕ
  pub unfed : IsUnfed line
  pub end_met : ended ≡ nat_le (length bytes) (length line)
  pub comes : next_from left bytes ≡ coming.Line line
  pub rest_is : rest ≡ behind bytes line
  pub left_is : after ≡ left_behind left bytes line
  pub world : new ≡ (answer w line).1
  pub appended : Appends held holds (show (answer w line).0)

-- the same, where the bytes to come are known
abbrev pub GoesOn : ℕ → ℕ → Option (List ℕ) → Option (List ℕ) → Bool → World → World → Option (List ℕ) → Option (List ℕ) → Type 0
GoesOn left after None rest ended w new held holds = Unit {0}
GoesOn left after (Some bytes) None ended w new held holds = ⊥
GoesOn left after (Some bytes) (Some rest) ended w new held holds = IsAnswered left after bytes rest ended w new held holds
