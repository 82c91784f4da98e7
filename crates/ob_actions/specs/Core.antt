-- What the actions of a run read and change (this project).
use Rattle.std.specs.Prelude.{ℕ, List, [], ◌∷◌, ◌++◌, Option}
use Rattle.ob_base.specs.declared.operators.ChangeOp.{ChangeOp}
use Rattle.ob_base.specs.declared.plain.Plain.{Plain}
use Rattle.ob_items.specs.declared.value.Value.{Value}
use Rattle.ob_values.specs.Store.{Store}

-- a change of a mutable, by the number of its holder
pub record Effect : Type 0 where
  pub holder : ℕ
  pub op : ChangeOp
  pub value : Plain

-- the store, the steps that are left, the locals of the call that runs (none before the declaration has run), and the output of the
-- segment: the texts that were logged, the changes, and the functions that `invalidation.then` keeps
pub record Core : Type 0 where
  pub store : Store
  pub left : ℕ
  pub locals : List (Option Value)
  pub logs : List (List ℕ)
  pub effects : List Effect
  pub hooks : List Value

abbrev pub with_store : Store → Core → Core
with_store store s =
    record { store = store; left = s.left; locals = s.locals; logs = s.logs; effects = s.effects; hooks = s.hooks }

abbrev pub with_left : ℕ → Core → Core
with_left left s =
    record { store = s.store; left = left; locals = s.locals; logs = s.logs; effects = s.effects; hooks = s.hooks }

abbrev pub with_locals : List (Option Value) → Core → Core
with_locals locals s =
    record { store = s.store; left = s.left; locals = locals; logs = s.logs; effects = s.effects; hooks = s.hooks }

abbrev pub with_log : List ℕ → Core → Core
with_log text s =
    record { store = s.store; left = s.left; locals = s.locals; logs = s.logs ++ text ∷ []; effects = s.effects; hooks = s.hooks }

abbrev pub with_effect : Effect → Core → Core
with_effect e s =
    record { store = s.store; left = s.left; locals = s.locals; logs = s.logs; effects = s.effects ++ e ∷ []; hooks = s.hooks }

abbrev pub with_hook : Value → Core → Core
with_hook f s =
    record { store = s.store; left = s.left; locals = s.locals; logs = s.logs; effects = s.effects; hooks = s.hooks ++ f ∷ [] }
