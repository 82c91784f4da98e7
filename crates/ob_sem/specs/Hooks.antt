-- The hooks of a run, which are called when it is invalidated (this project; after Observable's `invalidation`).
use Rattle.std.specs.Prelude.{ℕ, suc, List, [], ◌∷◌, ◌++◌, Option, Some, None}
use Rattle.ob_items.specs.declared.error.Failure.{Failure}
use Rattle.ob_items.specs.declared.error.Failure.TheVariants as F
use Rattle.ob_items.specs.declared.value.Ref.{Ref}
use Rattle.ob_items.specs.declared.value.Value.{Value}
use Rattle.ob_values.specs.Store.{Store, with_mark}
use Rattle.ob_actions.specs.Act.{Out, Go, Threw, Refused}
use Rattle.ob_actions.specs.Calls.{call_value}
use Rattle.ob_actions.specs.Core.{Core, Effect}
use Rattle.ob_sem.specs.Called.{call_to}
use Rattle.ob_sem.specs.Runs.{Run, budget, depth, fresh}
use Rattle.ob_sem.specs.Setting.{Setting}
use Rattle.ob_sem.specs.Whole.{Whole, Kept, carries}

-- what a hook leaves: how it failed, if it did, the texts that it logged, and its changes
pub record Hook : Type 0 where
  pub failure : Option Failure
  pub logs : List (List ℕ)
  pub effects : List Effect

-- all hooks of one invalidation: what each left, the steps that they share, and the store
pub record Hooks : Type 0 where
  pub hooks : List Hook
  pub left : ℕ
  pub store : Store
  pub suspended : Kept

abbrev pub hook_of : Option Failure → Core → Hook
hook_of failure s = record { failure = failure; logs = s.logs; effects = s.effects }

abbrev pub with_hook : Hooks → Option Failure → Whole → Hooks
with_hook before failure s = record {
  hooks = before.hooks ++ hook_of failure s.core ∷ [];
  left = s.core.left;
  store = s.core.store;
  suspended = s.suspended;
}

-- a hook that meets the limit of steps is charged what was granted, and the next goes on with what is left
abbrev pub after_hook : Hooks → Out Whole Value → Hooks
after_hook before (Go v s) = with_hook before None s
after_hook before (Threw v s) = with_hook before (Some (F.Threw v)) s
after_hook before (Refused l s) = with_hook before (Some (F.Limit l)) s

module _ (set : Setting) where
  -- a hook is called without arguments, at depth 1
  abbrev pub call_hook : Hooks → Value → Hooks
  call_hook before f =
      after_hook before
      (carries (call_to set (suc depth)) (call_value set.world f []) (fresh before.store before.suspended [] before.left))

  abbrev pub call_hooks : Hooks → List Value → Hooks
  call_hooks before [] = before
  call_hooks before (f ∷ hooks) = call_hooks (call_hook before f) hooks

  -- the invalidation object of a run is frozen, and its hooks are called in order
  abbrev pub invalidate : Ref → Run → Hooks
  invalidate object r =
      call_hooks (record { hooks = []; left = budget; store = with_mark r.store object; suspended = r.suspended }) r.hooks
