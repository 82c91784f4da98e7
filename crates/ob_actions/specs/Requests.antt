-- What goes one call deeper, what it answers, and calls as plans (this project).
use Rattle.std.specs.Prelude.{ℕ, Bool, List}
use Rattle.ob_items.specs.declared.value.Ref.{Ref}
use Rattle.ob_items.specs.declared.value.Value.{Value}
use Rattle.ob_actions.specs.Act.{Out, Go, Threw, Refused, Act, then_with}
use Rattle.ob_actions.specs.Core.{Core}

-- a call of a function value, a call of a text of the prelude by its number, or a resumption of a generator object
pub data Request : Type 0 where
  Closure : Ref → List Value → Request
  Prelude : ℕ → List Value → Request
  Resume : Ref → Value → Request

-- a value, and whether a generator object has ended
pub record Reply : Type 0 where
  pub value : Value
  pub ended : Bool

-- what an action of a call does up to the one request that goes deeper, if there is one, and what it does with the reply
pub data Plan (A : Type 0) : Type 0 where
  Ends : Out Core A → Plan A
  Asks : Request → Core → (Reply → Act Core A) → Plan A

abbrev pub Planned : Type 0 → Type 0
Planned A = Core → Plan A

-- an action as a plan
abbrev pub at_once : {A : Type 0} → Act Core A → Planned A
at_once m s = Ends (m s)

-- the value of a request's reply
abbrev pub reply_value : Reply → Act Core Value
reply_value reply s = Go reply.value s

abbrev pub asks_value : Request → Planned Value
asks_value request s = Asks request s reply_value

-- an action, then a plan
abbrev pub plan_after : {A B : Type 0} → Out Core A → (A → Planned B) → Plan B
plan_after (Go a s) k = k a s
plan_after (Threw v s) k = Ends (Threw v s)
plan_after (Refused l s) k = Ends (Refused l s)

-- a plan, then an action
abbrev pub plan_then : {A B : Type 0} → Plan A → (A → Act Core B) → Plan B
plan_then (Ends o) k = Ends (then_with o k)
plan_then (Asks request s j) k = Asks request s (λ reply t. then_with (j reply t) k)
