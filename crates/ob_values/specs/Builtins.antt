-- What a call of a function or method that is built in gives, by its number (this project).
use Rattle.std.specs.Prelude.{ℕ, List, Option, Some, None, Result}
use Rattle.std.specs.Option.{option_map_or}
use Rattle.ob_items.specs.declared.thrown.Thrown.{Thrown}
use Rattle.ob_items.specs.declared.value.Ref.{Ref}
use Rattle.ob_items.specs.declared.value.RegionKey.{RegionKey}
use Rattle.ob_items.specs.declared.value.Value.{Value}
use Rattle.ob_items.specs.declared.item.Body.{Body}
use Rattle.ob_items.specs.declared.item.Body.TheVariants as B
use Rattle.ob_values.specs.Store.{Store, item_of}
use Rattle.ob_values.specs.ArrayMethods as arrays
use Rattle.ob_values.specs.BuiltinNames.{Builtin, Push, Pop, Shift, Reverse, Slice, Concat, IndexOf, Includes, Join, SliceText, Repeat, PadStart, FindText, HasText, StartsWith, EndsWith, Split, CharCodeAt, Min, Max, Abs, Sign, Keys, Values, Entries, HasOwn, IsArray, ToText, MakeError, builtin_numbered}
use Rattle.ob_values.specs.Effects.{Effect}
use Rattle.ob_values.specs.Functions as functions
use Rattle.ob_values.specs.ObjectFunctions as objects
use Rattle.ob_values.specs.TextMethods as texts

-- a method of the array at r
abbrev pub array_method : Store → RegionKey → Builtin → Ref → List Value → Option (Result Effect Thrown)
array_method s region Push r args = Some (arrays.push s r args)
array_method s region Pop r args = Some (arrays.pop s r)
array_method s region Shift r args = Some (arrays.shift s r)
array_method s region Reverse r args = Some (arrays.reverse_in_place s r)
array_method s region Slice r args = Some (arrays.slice s region r args)
array_method s region Concat r args = Some (arrays.concat s region r args)
array_method s region IndexOf r args = Some (arrays.index_of s region r args)
array_method s region Includes r args = Some (arrays.includes s region r args)
array_method s region Join r args = Some (arrays.join s region r args)
array_method s region _ r args = None

-- a method of a text
abbrev pub text_method : Store → RegionKey → Builtin → List ℕ → List Value → Option (Result Effect Thrown)
text_method s region SliceText units args = Some (texts.slice_text s region units args)
text_method s region Repeat units args = Some (texts.repeat_text s region units args)
text_method s region PadStart units args = Some (texts.pad_start s region units args)
text_method s region FindText units args = Some (texts.index_of_text s region units args)
text_method s region HasText units args = Some (texts.includes_text s region units args)
text_method s region StartsWith units args = Some (texts.starts_with_text s region units args)
text_method s region EndsWith units args = Some (texts.ends_with_text s region units args)
text_method s region Split units args = Some (texts.split s region units args)
text_method s region CharCodeAt units args = Some (texts.char_code_at s region units args)
text_method s region _ units args = None

-- a method of an array or of a text; none is one of other items
abbrev pub method_of : Store → RegionKey → Builtin → Ref → Body → List Value → Option (Result Effect Thrown)
method_of s region b r (B.Array values) args = array_method s region b r args
method_of s region b r (B.Text units) args = text_method s region b units args
method_of s region b r _ args = None

-- a function
abbrev pub function_of : Store → RegionKey → Builtin → List Value → Option (Result Effect Thrown)
function_of s region Min args = Some (functions.math_min s region args)
function_of s region Max args = Some (functions.math_max s region args)
function_of s region Abs args = Some (functions.math_abs s region args)
function_of s region Sign args = Some (functions.math_sign s region args)
function_of s region Keys args = Some (objects.object_keys s region args)
function_of s region Values args = Some (objects.object_values s region args)
function_of s region Entries args = Some (objects.object_entries s region args)
function_of s region HasOwn args = Some (objects.has_own s region args)
function_of s region IsArray args = Some (objects.is_array s region args)
function_of s region ToText args = Some (functions.to_text s region args)
function_of s region (MakeError kind) args = Some (functions.make_error s region kind args)
function_of s region _ args = None

-- what the method of a number gives of the item at r; none where that item has no such method, or another carries it out
abbrev pub method_call : Store → RegionKey → ℕ → Ref → List Value → Option (Result Effect Thrown)
method_call s region number r args =
    option_map_or (λ b. option_map_or (λ item. method_of s region b r item.body args) (item_of s r) None) (builtin_numbered number) None

-- what the function of a number gives; none where that is no function, or another carries it out
abbrev pub function_call : Store → RegionKey → ℕ → List Value → Option (Result Effect Thrown)
function_call s region number args = option_map_or (λ b. function_of s region b args) (builtin_numbered number) None
