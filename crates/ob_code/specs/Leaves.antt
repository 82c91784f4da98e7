-- How a throw, a `break`, a `continue` and a `return` pass what is open (ECMA-262, "The Completion Record Specification Type", and "The try
-- Statement").
use Rattle.std.specs.Prelude.{List, [], ◌∷◌, Some}
use Rattle.ob_items.specs.declared.value.Value.{Value}
use Rattle.ob_items.specs.declared.value.Value.TheVariants as V
use Rattle.ob_actions.specs.Act.{Out, Go, Threw, Refused}
use Rattle.ob_actions.specs.Core.{Core}
use Rattle.ob_actions.specs.Generators.{leave, end_left}
use Rattle.ob_actions.specs.World.{World}
use Rattle.ob_code.specs.Configs.{Own, Frames, Config, Running, Done}
use Rattle.ob_code.specs.declared.entry.Entry.{Entry}
use Rattle.ob_code.specs.declared.entry.Entry.TheVariants as entry
use Rattle.ob_code.specs.declared.entry.Leaving.{Leaving}
use Rattle.ob_code.specs.declared.entry.Leaving.TheVariants as leaving

-- a call that nothing keeps any longer
abbrev pub ended : Leaving → Core → Out Core Value
ended leaving.Break s = Go V.Undefined s
ended leaving.Continue s = Go V.Undefined s
ended (leaving.Return v) s = Go v s
ended (leaving.Throw v) s = Threw v s

-- after an action that has no result
abbrev pub after : Out Core (Unit {0}) → Frames → (Value → Core → Config) → (Core → Config) → Config
after (Go _ s) frames throw next = next s
after (Threw v s) frames throw next = throw v s
after (Refused l s) frames throw next = Done (Refused l s) frames

module _ (world : World) where
  abbrev pub leaves : Leaving → List Entry → Core → Own → Config
  leaves l [] s o = Done (ended l s) o.frames
  leaves (leaving.Throw v) (entry.Handler place ∷ es) s o = Running place (v ∷ []) es s o
  leaves l (entry.Handler place ∷ es) s o = leaves l es s o
  leaves leaving.Break (entry.Turn out again ∷ es) s o = Running out [] es s o
  leaves leaving.Continue (entry.Turn out again ∷ es) s o = Running again [] (entry.Turn out again ∷ es) s o
  leaves l (entry.Turn out again ∷ es) s o = leaves l es s o
  leaves leaving.Break (entry.Elements out again r i ∷ es) s o = Running out [] es s o
  leaves leaving.Continue (entry.Elements out again r i ∷ es) s o = Running again [] (entry.Elements out again r i ∷ es) s o
  leaves l (entry.Elements out again r i ∷ es) s o = leaves l es s o
  leaves leaving.Break (entry.Pulls out again r ∷ es) s o =
      after (leave world r s) o.frames (λ v t. leaves (leaving.Throw v) es t o) (λ t. Running out [] es t o)
  leaves leaving.Continue (entry.Pulls out again r ∷ es) s o = Running again [] (entry.Pulls out again r ∷ es) s o
  leaves (leaving.Return v) (entry.Pulls out again r ∷ es) s o =
      after (leave world r s) o.frames (λ w t. leaves (leaving.Throw w) es t o) (λ t. leaves (leaving.Return v) es t o)
  leaves (leaving.Throw v) (entry.Pulls out again r ∷ es) s o = leaves (leaving.Throw v) es (end_left r s) o
  leaves l (entry.Last place ∷ es) s o = Running place [] (entry.After (Some l) ∷ es) s o
  leaves l (entry.After how ∷ es) s o = leaves l es s o

  -- how an action goes on, in a call in which this is open
  abbrev pub given : {A : Type 0} → Out Core A → List Entry → Own → (A → Core → Config) → Config
  given (Go a s) es o k = k a s
  given (Threw v s) es o k = leaves (leaving.Throw v) es s o
  given (Refused l s) es o k = Done (Refused l s) o.frames
