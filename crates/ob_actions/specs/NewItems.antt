-- New arrays, objects, function values and generator objects (ECMA-262, "Array Initializer", "Object Initializer",
-- "InstantiateOrdinaryFunctionExpression" and "OrdinaryCreateFromConstructor"; the costs are this project's).
use Rattle.std.specs.Prelude.{ℕ, ◌+◌, List, [], length, Option}
use Rattle.ob_items.specs.Properties.{no_properties}
use Rattle.ob_items.specs.declared.frame.Frame.{Frame}
use Rattle.ob_items.specs.declared.frame.Taken.TheVariants as K
use Rattle.ob_items.specs.declared.item.Body.TheVariants as B
use Rattle.ob_items.specs.declared.value.CodeKey.{CodeKey}
use Rattle.ob_items.specs.declared.value.Ref.{Ref}
use Rattle.ob_items.specs.declared.value.Value.{Value}
use Rattle.ob_items.specs.declared.value.Value.TheVariants as V
use Rattle.ob_actions.specs.Act.{Act, ◌>>=◌, pure}
use Rattle.ob_actions.specs.Core.{Core}
use Rattle.ob_actions.specs.Meters.{makes}
use Rattle.ob_actions.specs.World.{World}

-- the frame that stands in the store for a generator that stands still; what it will do is kept beside the store
abbrev pub blank_frame : ℕ → Ref → Frame
blank_frame code inputs =
    record { code = record { code = code; function = 0 }; place = 0; boxes = []; inputs = inputs; locals = []; operands = []; catches = [] }

module _ (world : World) where
  -- an array literal of n costs 1 + n, after its parts
  abbrev pub new_array : List Value → Act Core Value
  new_array values = makes world (B.Array values) (1 + length values) >>= (λ r. pure (V.Ref r))

  -- an object literal costs 1 at first
  abbrev pub new_object : Act Core Value
  new_object = makes world (B.Object no_properties) 1 >>= (λ r. pure (V.Ref r))

  -- a function value: its code, the boxes that it keeps, the array of its inputs, and the invalidation object where its text refers to that
  abbrev pub new_closure : CodeKey → List Ref → Ref → Option Ref → Act Core Value
  new_closure code boxes inputs invalidation =
      makes world (B.Closure (record { code = code; boxes = boxes; inputs = inputs; invalidation = invalidation })) 1 >>= (λ r. pure (V.Ref r))

  -- a generator object that stands still before its body
  abbrev pub new_generator : Frame → Act Core Ref
  new_generator frame = makes world (B.Generator (K.Held frame)) 1
