-- Generator objects: what they keep, and how a loop leaves one (ECMA-262, "Generator Objects", in this project's profile).
use Rattle.std.specs.Prelude.{false, Option, Some, if◌then◌else◌}
use Rattle.ob_items.specs.Bodies.{kept_of}
use Rattle.ob_items.specs.declared.frame.Taken.{Taken}
use Rattle.ob_items.specs.declared.frame.Taken.TheVariants as K
use Rattle.ob_items.specs.declared.item.Body.TheVariants as B
use Rattle.ob_items.specs.declared.thrown.Thrown.TheVariants as T
use Rattle.ob_items.specs.declared.value.Ref.{Ref}
use Rattle.ob_values.specs.Store.{read_item, is_frozen, written}
use Rattle.ob_actions.specs.Act.{Act, updates}
use Rattle.ob_actions.specs.Core.{Core, with_store}
use Rattle.ob_actions.specs.Meters.{throws}
use Rattle.ob_actions.specs.World.{World}

-- what the generator object at a reference keeps
abbrev pub kept_in : Core → Ref → Option Taken
kept_in s r = read_item kept_of s.store r

-- the state in which a generator object keeps this; a frozen one stays as it is
abbrev pub keeps : Ref → Taken → Core → Core
keeps r kept s =
    if is_frozen s.store r then s else with_store (written kept_of (λ _. B.Generator kept) s.store r false) s

-- the state in which a generator object that a loop left has ended, unless it runs
abbrev pub end_kept : Ref → Option Taken → Core → Core
end_kept r (Some (K.Held frame)) s = keeps r K.Ended s
end_kept r _ s = s

abbrev pub end_left : Ref → Core → Core
end_left r s = end_kept r (kept_in s r) s

module _ (world : World) where
  -- a loop leaves a generator object before its end, and no throw goes on: one that runs throws
  abbrev pub leave_kept : Ref → Option Taken → Act Core (Unit {0})
  leave_kept r (Some K.Runs) = throws world T.GeneratorRunning
  leave_kept r _ = updates (end_left r)

  abbrev pub leave : Ref → Act Core (Unit {0})
  leave r s = leave_kept r (kept_in s r) s
