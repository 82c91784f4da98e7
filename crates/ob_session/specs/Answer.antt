-- The reply to a line, and the world after it (this project).
use Rattle.std.specs.Prelude.{ℕ, List, [], ◌∷◌, Option, Some, None, Result, Ok, Err}
use Rattle.ob_base.specs.declared.cause.Cause.{Cause}
use Rattle.ob_base.specs.declared.cause.Cause.TheVariants as cause
use Rattle.ob_base.specs.declared.command.Command.{Command}
use Rattle.ob_base.specs.declared.command.Command.TheVariants as command
use Rattle.ob_script.specs.declared.bundle.BundleLine.{BundleLine}
use Rattle.ob_script.specs.Bundles.{bundle_of_line}
use Rattle.ob_script.specs.Commands.{command_of_line}
use Rattle.ob_session.specs.declared.reply.Reply.{Reply}
use Rattle.ob_session.specs.declared.reply.Reply.TheVariants as reply
use Rattle.ob_session.specs.declared.world.World.{World}
use Rattle.ob_session.specs.Report.{tick_report, after_tick}
use Rattle.ob_session.specs.World.{world_of, accepts}

abbrev pub built : Option World → Result World Cause
built None = Err cause.NotBuilt
built (Some w) = Ok w

abbrev pub open_bundle : Result BundleLine Cause → Result World Cause
open_bundle (Err c) = Err c
open_bundle (Ok b) = built (world_of b.main b.notebooks)

-- the world that a first line opens, or why it is refused
unfoldable pub open_world : List ℕ → Result World Cause
open_world line = open_bundle (bundle_of_line line)

abbrev pub settled : World → Result World Cause → Reply × World
settled w (Ok new) = (reply.Accepted, new)
settled w (Err c) = (reply.Refused c, w)

abbrev pub answer_command : World → Result Command Cause → Reply × World
answer_command w (Err c) = (reply.Refused c, w)
answer_command w (Ok command.Tick) = (reply.Report (tick_report w), after_tick w)
answer_command w (Ok other) = settled w (accepts w other)

unfoldable pub answer : World → List ℕ → Reply × World
answer w line = answer_command w (command_of_line line)

-- the replies to lines, one after another
abbrev pub replies : World → List (List ℕ) → List Reply
replies w [] = []
replies w (line ∷ lines) = (answer w line).0 ∷ replies (answer w line).1 lines
