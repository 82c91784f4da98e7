-- Actions: what a step of evaluation does with a state, and how it ends (ECMA-262, "The Completion Record Specification Type"; limits are
-- this project's).
use Rattle.std.specs.Prelude.{Bool, if◌then◌else◌}
use Rattle.ob_base.specs.declared.limits.Limit.{Limit}
use Rattle.ob_items.specs.declared.value.Value.{Value}

-- an action ends with a result, throws a value, or meets a limit; each leaves a state
pub data Out (S A : Type 0) : Type 0 where
  Go : A → S → Out S A
  Threw : Value → S → Out S A
  Refused : Limit → S → Out S A

abbrev pub Act : Type 0 → Type 0 → Type 0
Act S A = S → Out S A

-- what follows a result; a throw and a limit pass it
abbrev pub then_with : {S A B : Type 0} → Out S A → (A → Act S B) → Out S B
then_with (Go a s) k = k a s
then_with (Threw v s) k = Threw v s
then_with (Refused l s) k = Refused l s

-- one action, then another
unfoldable pub ◌>>=◌ : {S A B : Type 0} → Act S A → (A → Act S B) → Act S B
m >>= k = λ s. then_with (m s) k

infixl 10 ◌>>=◌
abbrev pub pure : {S A : Type 0} → A → Act S A
pure a s = Go a s

abbrev pub raise : {S A : Type 0} → Value → Act S A
raise v s = Threw v s

abbrev pub refuse : {S A : Type 0} → Limit → Act S A
refuse l s = Refused l s

-- what is read of the state
abbrev pub asks : {S A : Type 0} → (S → A) → Act S A
asks f s = Go (f s) s

-- a change of the state
abbrev pub updates : {S : Type 0} → (S → S) → Act S (Unit {0})
updates f s = Go tt (f s)

-- one of two actions
abbrev pub choose : {S A : Type 0} → Bool → Act S A → Act S A → Act S A
choose b one other s = if b then one s else other s
