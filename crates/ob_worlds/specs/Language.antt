-- What is asked of the language: how texts read, and what runs of them give. It stands for the definitions of evaluation.
use Rattle.std.specs.Prelude.{◌≡◌, ℕ, suc, Bool, true, List, Option}
use Rattle.ob_base.specs.declared.plain.Plain.{Plain}
use Rattle.ob_base.specs.declared.limits.Limit.{Limit}
use Rattle.ob_tree_types.specs.declared.cell.CellTree.{CellTree}
use Rattle.ob_names.specs.declared.form.NameRef.{NameRef}
use Rattle.ob_worlds.specs.Reader.{Reader}
use Rattle.ob_base.specs.Labels.{Label}
use Rattle.ob_worlds.specs.Labels.{Place}

-- Why a variable fails that has no outcome of its own, by where that began: a name without or with several definitions at a place, an
-- input that failed without a message, or else the message.
pub data Reason : Type 0 where
  NotDefined : Place → Reason
  Ambiguous : Place → Reason
  Unresolved : Label → NameRef → Reason
  Says : List ℕ → Reason

-- A TypeError that comes from no run: what a Shown shows is a property of null or undefined, or the first value of a mutable is no plain
-- data.
pub data Fault : Type 0 where
  NoProperty NotPlain : Fault

-- The text doesn't read; an error of the runtime; a thrown value; an error that a Shown or a Holder throws itself; a limit.
pub data Failure (V : Type 0) : Type 0 where
  Syntax : Failure V
  Runtime : Reason → Failure V
  Threw : V → Failure V
  Throws : Fault → Failure V
  Limited : Limit → Failure V

pub data Outcome (V : Type 0) : Type 0 where
  Value : V → Outcome V
  Failed : Failure V → Outcome V

-- how a mutable is changed: by `=`, `+=`, `-=`, `*=`, `++`, `--`
pub data Change : Type 0 where
  Set Add Sub Mul Up Down : Change

-- a change of a mutable, by a run that has its Holder among its inputs
pub record Effect : Type 0 where
  pub holder : Label
  pub change : Change
  pub value : Plain

-- what a hook left: its logs, and its failure as it is written, if it failed
pub record HookResult : Type 0 where
  pub logs : List (List ℕ)
  pub failure : Option (List ℕ)

-- what the hooks of a run left, in their order, and what they cost in all
pub record Invalidated : Type 0 where
  pub hooks : List HookResult
  pub effects : List Effect
  pub cost : ℕ

-- V are values, each with the store that it stands in, and R the states of runs.
pub record Language (V R : Type 0) : Type 0 where
  -- how texts are read
  pub reader : Reader
  pub undefined : V
  -- the value of a Holder
  pub holder : Label → V
  -- plain data as the outcome of a Shown, frozen
  pub placed : Label → Plain → V
  pub plain_of : V → Option Plain
  -- a view's property `value`; none where the view is null or undefined
  pub value_of_view : V → Option V
  -- whether it is an object with a property `value` of its own
  pub has_value : V → Bool
  -- the message of an error value
  pub error_message : V → Option (List ℕ)
  pub inspected : V → List ℕ
  -- a message as a report writes it: with escapes, and cut
  pub message_text : List ℕ → List ℕ
  -- a thrown value as a report writes it
  pub thrown_text : V → List ℕ
  -- the state of a run: of a variable, its cell, the values of its inputs by their names, and the number of its segments, from 1
  pub run : Label → CellTree → List (NameRef × V) → ℕ → R
  pub outcome_of : R → Outcome V
  pub has_ended : R → Bool
  -- whether the last segment was an end that kept the outcome
  pub ends_quietly : R → Bool
  -- of the last segment
  pub cost : R → ℕ
  pub logs : R → List (List ℕ)
  pub effects : R → List Effect
  -- the hooks, called on that state
  pub invalidated : R → Invalidated
  -- the current value of a mutable after a change; none where the operator throws or gives no plain data
  pub changed : Change → Plain → Plain → Option Plain

-- what holds of runs
pub record IsLanguage {V R : Type 0} (E : Language V R) : Type 0 where
  pub keeps : (l : Label) (t : CellTree) (is : List (NameRef × V)) (n : ℕ) → E.ends_quietly (E.run l t is (suc (suc n))) ≡ true
      → E.outcome_of (E.run l t is (suc (suc n))) ≡ E.outcome_of (E.run l t is (suc n))
