-- How a statement ends, and what follows (ECMA-262, "The Completion Record Specification Type", and "GeneratorYield").
use Rattle.std.specs.Prelude.{List, [], ◌∷◌, ◌++◌}
use Rattle.ob_items.specs.declared.value.Value.{Value}
use Rattle.ob_items.specs.declared.value.Value.TheVariants as V
use Rattle.ob_actions.specs.Act.{Out, Go, Threw, Refused, Act, then_with, pure}
use Rattle.ob_sem.specs.Pending.{Pending, Taker}
use Rattle.ob_sem.specs.Whole.{Whole}

-- it goes on, leaves a loop or a turn, returns, or stands still at a `yield` with what is still to be done
pub data Flow : Type 0 where
  Next : Flow
  Broke : Flow
  Continued : Flow
  Returned : Value → Flow
  Yielded : Value → Taker → List Pending → Flow

-- what follows a statement of a block; at a `yield` this frame comes after what the statement left
abbrev pub after_flow : Flow → Pending → Act Whole Flow → Act Whole Flow
after_flow Next p k = k
after_flow (Yielded v t ps) p k = pure (Yielded v t (ps ++ p ∷ []))
after_flow f p k = pure f

-- what follows a turn of a loop
abbrev pub after_turn : Flow → Pending → Act Whole Flow → Act Whole Flow
after_turn Next p k = k
after_turn Continued p k = k
after_turn Broke p k = pure Next
after_turn (Returned v) p k = pure (Returned v)
after_turn (Yielded v t ps) p k = pure (Yielded v t (ps ++ p ∷ []))

-- a throw goes to the handler, a limit passes it, and at a `yield` the handler stays
abbrev pub caught : Pending → Out Whole Flow → (Value → Act Whole Flow) → Out Whole Flow
caught p (Go (Yielded v t ps) s) handler = Go (Yielded v t (ps ++ p ∷ [])) s
caught p (Go f s) handler = Go f s
caught p (Threw v s) handler = handler v s
caught p (Refused l s) handler = Refused l s

-- a last part that doesn't go on hides how the `try` ended
abbrev pub ends_as : Act Whole Flow → Flow → Act Whole Flow
ends_as m Next = m
ends_as m f = pure f

abbrev pub finished : Pending → Out Whole Flow → Act Whole Flow → Out Whole Flow
finished p (Go (Yielded v t ps) s) last = Go (Yielded v t (ps ++ p ∷ [])) s
finished p (Go f s) last = then_with (last s) (ends_as (pure f))
finished p (Threw v s) last = then_with (last s) (ends_as (λ t. Threw v t))
finished p (Refused l s) last = Refused l s

-- the value that a function gives: without `return` it is undefined
abbrev pub result_of : Flow → Value
result_of (Returned v) = v
result_of _ = V.Undefined
