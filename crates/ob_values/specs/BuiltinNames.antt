-- The names and numbers of the functions and methods that are built in (this project; the names are ECMA-262's, but for
-- `log` and `invalidation`).
use Rattle.std.specs.Prelude.{ℕ, ◌+◌, ◌==◌, ◌++◌, List, [], ◌∷◌, map, Option, Some, None, position, unwrap_or, nat_eq, slice_get, codes, if◌then◌else◌}
use Rattle.std.specs.Option.{option_map}
use Rattle.std.specs.Cmp.Lexicographic.{pointwise}
use Rattle.ob_items.specs.declared.value.ErrorKind.{ErrorKind}
use Rattle.ob_items.specs.declared.value.ErrorKind.TheVariants as K
use Rattle.ob_items.specs.declared.value.Kind.{Kind}
use Rattle.ob_items.specs.declared.value.Kind.TheVariants as S

-- the functions and methods that one call carries out: not those of the prelude, and none that needs a run
pub data Builtin : Type 0 where
  Push : Builtin
  Pop : Builtin
  Shift : Builtin
  Reverse : Builtin
  Slice : Builtin
  Concat : Builtin
  IndexOf : Builtin
  Includes : Builtin
  Join : Builtin
  SliceText : Builtin
  Repeat : Builtin
  PadStart : Builtin
  FindText : Builtin
  HasText : Builtin
  StartsWith : Builtin
  EndsWith : Builtin
  Split : Builtin
  CharCodeAt : Builtin
  Min : Builtin
  Max : Builtin
  Abs : Builtin
  Sign : Builtin
  Keys : Builtin
  Values : Builtin
  Entries : Builtin
  HasOwn : Builtin
  IsArray : Builtin
  ToText : Builtin
  MakeError : ErrorKind → Builtin

-- a name, and what carries it out; none where that is the prelude or a run
abbrev pub Row : Type 0
Row = List ℕ × Option Builtin

abbrev pub array_methods : List Row
array_methods = (codes "push", Some Push) ∷ (codes "pop", Some Pop) ∷ (codes "shift", Some Shift) ∷ (codes "reverse", Some Reverse)
    ∷ (codes "slice", Some Slice) ∷ (codes "concat", Some Concat) ∷ (codes "indexOf", Some IndexOf)
    ∷ (codes "includes", Some Includes) ∷ (codes "join", Some Join) ∷ (codes "map", None) ∷ (codes "filter", None)
    ∷ (codes "forEach", None) ∷ (codes "some", None) ∷ (codes "every", None) ∷ (codes "reduce", None) ∷ []

abbrev pub text_methods : List Row
text_methods = (codes "slice", Some SliceText) ∷ (codes "repeat", Some Repeat) ∷ (codes "padStart", Some PadStart)
    ∷ (codes "indexOf", Some FindText) ∷ (codes "includes", Some HasText) ∷ (codes "startsWith", Some StartsWith)
    ∷ (codes "endsWith", Some EndsWith) ∷ (codes "split", Some Split) ∷ (codes "charCodeAt", Some CharCodeAt) ∷ []

abbrev pub generator_methods : List Row
generator_methods = (codes "next", None) ∷ []

abbrev pub invalidation_methods : List Row
invalidation_methods = (codes "then", None) ∷ []

abbrev pub math_functions : List Row
math_functions = (codes "min", Some Min) ∷ (codes "max", Some Max) ∷ (codes "abs", Some Abs) ∷ (codes "sign", Some Sign) ∷ []

abbrev pub object_functions : List Row
object_functions = (codes "keys", Some Keys) ∷ (codes "values", Some Values) ∷ (codes "entries", Some Entries)
    ∷ (codes "hasOwn", Some HasOwn) ∷ []

abbrev pub array_functions : List Row
array_functions = (codes "isArray", Some IsArray) ∷ (codes "from", None) ∷ []

-- what a call of each of the nine names carries out: `Math`, `Object` and `Array` are no functions, and `log` and
-- `invalidation` need a run
abbrev pub named_functions : List (Option Builtin)
named_functions = None ∷ None ∷ None ∷ Some ToText ∷ Some (MakeError K.Error) ∷ Some (MakeError K.TypeError)
    ∷ Some (MakeError K.RangeError) ∷ None ∷ None ∷ []

-- all rows but those of the nine names, in the order of their numbers
abbrev pub rows : List Row
rows = array_methods ++ text_methods ++ generator_methods ++ invalidation_methods ++ math_functions ++ object_functions ++ array_functions

-- what a call of the builtin of a number carries out: the nine names have the numbers from 0, then come the rows; the host
-- functions follow
abbrev pub builtin_numbered : ℕ → Option Builtin
builtin_numbered n = unwrap_or (slice_get (named_functions ++ map (λ (row : Row). row.1) rows) n) None

-- the number of the row of a name, where the first row has the number `first`
abbrev pub number_in : ℕ → List Row → List ℕ → Option ℕ
number_in first rows name = option_map (λ k. first + k) (position (λ (row : Row). pointwise nat_eq row.0 name) rows)

-- the number of the method of a name that items of a kind have
abbrev pub method_number : Kind → List ℕ → Option ℕ
method_number S.Array name = number_in 9 array_methods name
method_number S.Text name = number_in 24 text_methods name
method_number S.Generator name = number_in 33 generator_methods name
method_number S.Invalidation name = number_in 34 invalidation_methods name
method_number _ name = None

-- the number of the function of a name that `Math`, `Object` or `Array` has, by the number of these
abbrev pub property_number : ℕ → List ℕ → Option ℕ
property_number builtin name =
    if builtin == 0 then number_in 35 math_functions name
    else if builtin == 1 then number_in 39 object_functions name
    else if builtin == 2 then number_in 43 array_functions name
    else None
