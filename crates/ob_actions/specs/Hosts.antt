-- Calls of host functions (this project).
use Rattle.std.specs.Prelude.{ℤ, pos, ◌==◌, List, Option, Some, None, if◌then◌else◌}
use Rattle.ob_hosts.specs.Entry.{HostEntry}
use Rattle.ob_hosts.specs.Value.{host_value}
use Rattle.ob_items.specs.declared.thrown.Thrown.TheVariants as T
use Rattle.ob_items.specs.declared.value.Value.{Value}
use Rattle.ob_items.specs.declared.value.Value.TheVariants as V
use Rattle.ob_values.specs.Effects.{argument, number_of}
use Rattle.ob_actions.specs.Act.{Act, ◌>>=◌, pure}
use Rattle.ob_actions.specs.Core.{Core}
use Rattle.ob_actions.specs.Meters.{takes_step, throws}
use Rattle.ob_actions.specs.World.{World}

-- the second number of a host function that takes one is 0
abbrev pub second_number : HostEntry → List Value → Option ℤ
second_number host args = if host.arity == 2 then number_of (argument args 1) else Some (pos 0)

module _ (world : World) where
  abbrev pub host_result : Option ℤ → Act Core Value
  host_result None = throws world T.DivisionByZero
  host_result (Some n) = pure (V.Int n)

  abbrev pub host_on : HostEntry → Option ℤ → Option ℤ → Act Core Value
  host_on host (Some a) (Some b) = host_result (host_value host.code a b)
  host_on host _ _ = throws world T.BadArgument

  -- no value of a program names a host function that isn't in the table
  abbrev pub host_call : Option HostEntry → List Value → Act Core Value
  host_call None args = throws world T.NotAFunction
  host_call (Some host) args =
      takes_step world >>= (λ _. host_on host (number_of (argument args 0)) (second_number host args))
