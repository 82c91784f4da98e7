-- What an item is, by its kind.
use Rattle.std.specs.Prelude.{ℕ, List, Option, Some, None, length}
use Rattle.ob_items.specs.Properties.{Keyed}
use Rattle.ob_items.specs.declared.value.Ref.{Ref}
use Rattle.ob_items.specs.declared.value.Value.{Value}
use Rattle.ob_items.specs.declared.value.Kind.{Kind}
use Rattle.ob_items.specs.declared.value.Kind.TheVariants as K
use Rattle.ob_items.specs.declared.frame.Frame.{Frame}
use Rattle.ob_items.specs.declared.frame.Taken.{Taken}
use Rattle.ob_items.specs.declared.frame.Taken.TheVariants as T
use Rattle.ob_items.specs.declared.item.Body.{Body}
use Rattle.ob_items.specs.declared.item.Body.TheVariants as B
use Rattle.ob_items.specs.declared.item.Closure.{Closure}

-- the units of a text
abbrev pub text_of : Body → Option (List ℕ)
text_of (B.Text units) = Some units
text_of _ = None

-- the elements of an array that a program can write
abbrev pub array_of : Body → Option (List Value)
array_of (B.Array values) = Some values
array_of _ = None

-- the values of an array of inputs
abbrev pub inputs_of : Body → Option (List Value)
inputs_of (B.Inputs values) = Some values
inputs_of _ = None

-- the elements of an array, an array of inputs too
abbrev pub elements_of : Body → Option (List Value)
elements_of (B.Array values) = Some values
elements_of (B.Inputs values) = Some values
elements_of _ = None

-- the properties of an object
abbrev pub properties_of : Body → Option Keyed
properties_of (B.Object properties) = Some properties
properties_of _ = None

-- what a box holds
abbrev pub box_of : Body → Option (Option Value)
box_of (B.Box value) = Some value
box_of _ = None

abbrev pub closure_of : Body → Option Closure
closure_of (B.Closure closure) = Some closure
closure_of _ = None

-- what a generator object keeps
abbrev pub kept_of : Body → Option Taken
kept_of (B.Generator kept) = Some kept
kept_of _ = None

-- the text of an error's message
abbrev pub message_of_error : Body → Option Ref
message_of_error (B.Error kind message) = Some message
message_of_error _ = None

-- how many hooks an invalidation object has counted
abbrev pub hooks_of : Body → Option ℕ
hooks_of (B.Invalidation hooks) = Some hooks
hooks_of _ = None

abbrev pub kind_of : Body → Kind
kind_of (B.Text units) = K.Text
kind_of (B.Array values) = K.Array
kind_of (B.Object properties) = K.Object
kind_of (B.Box value) = K.Box
kind_of (B.Closure closure) = K.Closure
kind_of (B.Generator kept) = K.Generator
kind_of (B.Error kind message) = K.Error kind
kind_of (B.Invalidation hooks) = K.Invalidation
kind_of (B.Inputs values) = K.Array

-- what stays of what a generator object kept, once that is taken
abbrev pub after_take : Taken → Taken
after_take (T.Held frame) = T.Runs
after_take T.Runs = T.Runs
after_take T.Ended = T.Ended

-- what a generator object keeps once a frame is put back, or none for its end
abbrev pub kept_from : Option Frame → Taken
kept_from None = T.Ended
kept_from (Some frame) = T.Held frame

-- how many units a text has, or elements an array
abbrev pub length_of : Body → Option ℕ
length_of (B.Text units) = Some (length units)
length_of (B.Array values) = Some (length values)
length_of (B.Inputs values) = Some (length values)
length_of _ = None
