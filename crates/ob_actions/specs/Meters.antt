-- The meters of a run (this project): what an action costs, and which limit refuses it.
--
-- For one action the tests come in this order: calls deep, elements, steps. An action that one of them refuses isn't carried out, and nothing
-- of it is charged. A fault that the action throws comes before its tests.
use Rattle.std.specs.Prelude.{ℕ, zero, suc, ◌+◌, ◌-◌, nat_lt, List, length, Option, Some, None, Result, Ok, Err, if◌then◌else◌}
use Rattle.std.specs.Option.{option_map_or}
use Rattle.ob_base.specs.declared.limits.Limit.TheVariants as limit
use Rattle.ob_items.specs.Items.{live}
use Rattle.ob_items.specs.Messages.{message_of, kind_of_thrown}
use Rattle.ob_items.specs.declared.error.OpError.{OpError}
use Rattle.ob_items.specs.declared.error.OpError.TheVariants as E
use Rattle.ob_items.specs.declared.item.Body.{Body}
use Rattle.ob_items.specs.declared.item.Body.TheVariants as B
use Rattle.ob_items.specs.declared.thrown.Thrown.{Thrown}
use Rattle.ob_items.specs.declared.value.Ref.{Ref}
use Rattle.ob_items.specs.declared.value.Value.{Value}
use Rattle.ob_items.specs.declared.value.Value.TheVariants as V
use Rattle.ob_values.specs.Effects as effects
use Rattle.ob_values.specs.Operators.{Made, Number, Text, made_value, after_made}
use Rattle.ob_values.specs.Store.{Store, region_of, with_region, elements_in, with_new, next_ref, literal_ref, with_literal_in, text_cost}
use Rattle.ob_actions.specs.Act.{Go, Refused, Act, ◌>>=◌, pure, raise, refuse}
use Rattle.ob_actions.specs.Core.{Core, with_store, with_left}
use Rattle.ob_actions.specs.World.{World}

-- a fault of an operator or a builtin: it throws, or a limit refuses the action; memory is none of this
abbrev pub fails : {A : Type 0} → (Thrown → Act Core A) → OpError → Act Core A
fails throw (E.Throws t) = throw t
fails throw E.HeapFull = refuse limit.Elements
fails throw E.StepsOut = refuse limit.Steps
fails throw E.NoMemory = refuse limit.Steps

module _ (world : World) where
  -- an action that makes so many elements, each of which takes a step, and takes so many steps besides
  abbrev pub spend : ℕ → ℕ → Act Core (Unit {0})
  spend made steps s =
      if nat_lt 50000 (elements_in s.store world.region + made) then Refused limit.Elements s
      else if nat_lt s.left (made + steps) then Refused limit.Steps s
      else Go tt (with_left (s.left - (made + steps)) s)

  -- so many elements; none are no action
  abbrev pub charges : ℕ → Act Core (Unit {0})
  charges zero = pure tt
  charges (suc n) = spend (suc n) 0

  -- a call, a turn of a loop or a resumption
  abbrev pub takes_step : Act Core (Unit {0})
  takes_step = spend 0 1

  -- a new item of so many elements, which were charged
  abbrev pub allocate : Body → ℕ → Act Core Ref
  allocate body cost s =
      Go (next_ref s.store world.region) (with_store (with_new s.store world.region (live body) cost) s)

  -- a new item of so many elements
  abbrev pub makes : Body → ℕ → Act Core Ref
  makes body cost = spend cost 0 >>= (λ _. allocate body cost)

  -- a text that stands in the text of a program, or that the language itself has: it costs nothing
  abbrev pub literal : List ℕ → Act Core Ref
  literal units s =
      Go (literal_ref s.store world.region units) (with_store (with_literal_in s.store world.region units) s)

  abbrev pub literal_value : List ℕ → Act Core Value
  literal_value units = literal units >>= (λ r. pure (V.Ref r))

  -- an error of the language is thrown: its value costs an element
  abbrev pub throws : {A : Type 0} → Thrown → Act Core A
  throws t =
      spend 1 0 >>= (λ _. literal (message_of t) >>= (λ message.
      allocate (B.Error (kind_of_thrown t) message) 1 >>= (λ r. raise (V.Ref r))))

  -- elements that no item has: those of what leaves the run
  abbrev pub with_elements : ℕ → Store → Store
  with_elements n store =
      option_map_or (λ c. with_region store world.region.0 (record { items = c.items; elements = c.elements + n; literals = c.literals }))
      (region_of store world.region.0) store

  abbrev pub counts : ℕ → Act Core (Unit {0})
  counts n = spend n 0 >>= (λ _ s. Go tt (with_store (with_elements n s.store) s))

  -- what a binary operator gives
  abbrev pub made : Result Made OpError → Act Core Value
  made (Ok (Number n)) s = Go (V.Int n) s
  made (Ok (Text units)) s =
      Go (made_value s.store world.region (Text units))
      (with_store (after_made s.store world.region (Text units)) (with_left (s.left - text_cost (length units)) s))
  made (Err e) s = fails throws e s

  -- what a function or method that is built in gives, after the call's own step: one action
  abbrev pub done : Result effects.Effect OpError → Act Core Value
  done (Ok e) s = Go e.value (with_store e.store (with_left (s.left - (e.elements + e.steps)) s))
  done (Err e) s = fails throws e s

  abbrev pub done_or : Thrown → Option (Result effects.Effect Thrown) → Act Core Value
  done_or t None s = throws t s
  done_or t (Some answer) s = done (effects.answer_of s.store s.left answer) s
