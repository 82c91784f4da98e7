-- What a call by number leaves (this project).
use Rattle.std.specs.Prelude.{◌≡◌, ◌≢◌, ℕ, List, Option, None, Result, Err, IfOk, OnErr}
use Rattle.std.specs.Option.{option_map_or}
use Rattle.ob_items.specs.declared.error.OpError.{OpError}
use Rattle.ob_items.specs.declared.error.OpError.TheVariants as E
use Rattle.ob_items.specs.declared.thrown.Thrown.{Thrown}
use Rattle.ob_items.specs.declared.value.Ref.{Ref}
use Rattle.ob_items.specs.declared.value.RegionKey.{RegionKey}
use Rattle.ob_items.specs.declared.value.Value.{Value}
use Rattle.ob_values.specs.BuiltinNames.{builtin_numbered}
use Rattle.ob_values.specs.Builtins.{array_method, text_method}
use Rattle.ob_values.specs.Effects.{Effect, Answers, Leaves, answer_of}
use Rattle.ob_values.specs.Fixed.{KeepsFixed}
use Rattle.ob_values.specs.Operators.{AddsValue}
use Rattle.ob_values.specs.Sound.{Pointer}
use Rattle.ob_values.specs.Store.{Store}
use Rattle.ob_values.specs.TextMethods.{units_at}
use Rattle.ob_values.specs.declared.done.Done.{Done}

-- what the method of a number gives of an array
abbrev pub array_call : Store → RegionKey → ℕ → Ref → List Value → Option (Result Effect Thrown)
array_call s region number r args = option_map_or (λ b. array_method s region b r args) (builtin_numbered number) None

-- what the method of a number gives of a text
abbrev pub text_call : Store → RegionKey → ℕ → Ref → List Value → Option (Result Effect Thrown)
text_call s region number r args = option_map_or (λ b. text_method s region b (units_at s r) args) (builtin_numbered number) None

-- a call gives what is to be answered and leaves the store that goes with it; a refusal other than by memory leaves all as
-- it was; its value is sound beside all roots that reach these pointers, and what is frozen or never written stays
pub record CarriesOut (old new : Store) (left : ℕ) (used : List Pointer) (call : Result Effect Thrown) (result : Result Done OpError) : Type 0 where
  pub answer : Answers result (answer_of old left call)
  pub store : Leaves result (answer_of old left call) new
  pub err : result ≢ Err E.NoMemory → OnErr result (new ≡ old)
  pub sound : IfOk result (λ done. AddsValue old new used done.value)
  pub fixed : KeepsFixed old new
