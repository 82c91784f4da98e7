-- The laws of evaluation: what every request keeps, however deep, and every body of a function, however they end.
use Rattle.std.specs.Prelude.{◌≡◌, ◌≢◌, ◌≤◌, ℕ, Bool, List, Some, IsTrue}
use Rattle.ob_items.specs.Item.{Item}
use Rattle.ob_items.specs.declared.value.Ref.{Ref}
use Rattle.ob_items.specs.declared.value.Value.{Value}
use Rattle.ob_tree_types.specs.declared.tree.Function.{Function}
use Rattle.ob_values.specs.Fixed.{is_fixed, KeepsFixed}
use Rattle.ob_values.specs.Store.{Store, item_of, region_of, elements_in}
use Rattle.ob_values.specs.Freeze.{Freezes}
use Rattle.ob_actions.specs.Act.{Out, Go, Threw, Refused}
use Rattle.ob_actions.specs.Freezing.{freeze}
use Rattle.ob_actions.specs.Requests.{Request}
use Rattle.ob_actions.specs.Within.{Each, IfThere, Good, GoodItems, GoodLocals, GoodRequest, Reachable, IsClosed}
use Rattle.ob_sem.specs.Called.{call_to, call_body}
use Rattle.ob_sem.specs.Runs.{Run, begin, step}
use Rattle.ob_sem.specs.Scope.{Scope}
use Rattle.ob_sem.specs.Setting.{Setting}
use Rattle.ob_sem.specs.Whole.{Whole}
use Rattle.ob_sem.specs.Within.{GoodScope, GoodEntry, GoodTexts}

-- the state in which an action ends has the property
abbrev pub Ends : {S A : Type 0} → (S → Type 0) → Out S A → Type 0
Ends P (Go a s) = P s
Ends P (Threw v s) = P s
Ends P (Refused l s) = P s

-- of the state before and the state in which it ends
pub record Keeps (set : Setting) (R : Whole → Whole → Type 0) : Type 0 where
  pub requests : (depth : ℕ) (request : Request) (s : Whole) → Ends (R s) (call_to set depth request s)
  pub bodies : (depth : ℕ) (f : Function) (args : List Value) (sc : Scope) (s : Whole) → Ends (R s) (call_body set (call_to set depth) f args sc s)

-- the steps that are left never rise
abbrev pub StepsFall : Type 0
StepsFall = (set : Setting) → Keeps set (λ s t. t.core.left ≤ s.core.left)

-- the elements of the run's region never fall
abbrev pub ElementsRise : Type 0
ElementsRise = (set : Setting) → Keeps set (λ s t. elements_in s.core.store set.world.region ≤ elements_in t.core.store set.world.region)

-- an item of any region that is frozen or never written stays as it is
abbrev pub FixedStays : Type 0
FixedStays =
    (set : Setting) → Keeps set (λ s t. (r : Ref) (item : Item) → item_of s.core.store r ≡ Some item → IsTrue (is_fixed item) → item_of t.core.store r ≡ Some item)

-- ---- a run changes its own region alone

-- the references into the run's own region, and some outside
abbrev pub InReach : Setting → (Ref → Bool) → Ref → Type 0
InReach set outside = Reachable set.world.region.0 (λ r. IsTrue (outside r))

-- all that the state refers to is in reach
pub record IsWithin (set : Setting) (outside : Ref → Bool) (s : Whole) : Type 0 where
  pub items : IfThere (GoodItems (InReach set outside)) (region_of s.core.store set.world.region.0)
  pub locals : GoodLocals (InReach set outside) s.core.locals
  pub suspended : Each (GoodEntry (InReach set outside)) s.suspended

-- all other regions are as they were
abbrev pub OthersStay : Setting → Whole → Whole → Type 0
OthersStay set s t = (key : ℕ) → key ≢ set.world.region.0 → region_of t.core.store key ≡ region_of s.core.store key

pub record RunsAlone (set : Setting) (outside : Ref → Bool) (s : Whole) : Type 0 where
  pub requests : (depth : ℕ) (request : Request) → GoodRequest (InReach set outside) request → Ends (OthersStay set s) (call_to set depth request s)
  pub bodies : (depth : ℕ) (f : Function) (args : List Value) (sc : Scope) → Each (Good (InReach set outside)) args → GoodScope (InReach set outside) sc
      → Ends (OthersStay set s) (call_body set (call_to set depth) f args sc s)

-- where all that a run reaches outside its own region is frozen or never written, no other region changes
abbrev pub OwnRegionAlone : Type 0
OwnRegionAlone =
    (set : Setting) (outside : Ref → Bool) (s : Whole) → IsClosed set.world.region.0 (λ r. IsTrue (outside r)) s.core.store → IsWithin set outside s
    → GoodTexts (InReach set outside) set → RunsAlone set outside s

-- ---- runs

-- at each segment of a run, its end and the freezing of its outcome with it, what is frozen or never written stays so and keeps its body
pub record RunKeepsFixed (set : Setting) : Type 0 where
  pub begins : (f : Function) (code : ℕ) (inputs : List Value) (store : Store) → KeepsFixed store (begin set f code inputs store).store
  pub steps : (r : Run) → KeepsFixed r.store (step set r).store

abbrev pub RunsKeepFixed : Type 0
RunsKeepFixed = (set : Setting) → RunKeepsFixed set

-- ---- freezing

-- a store that has the mark at exactly what a value reaches is the one that freezing computes
abbrev pub FreezingIsComputed : Type 0
FreezingIsComputed = (old new : Store) (value : Value) → Freezes old new value → new ≡ freeze value old
