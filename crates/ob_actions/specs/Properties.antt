-- Properties (ECMA-262, "Property Accessors", "Array Exotic Objects" and "Object Initializer", in this project's profile; faults and costs are
-- this project's).
use Rattle.std.specs.Prelude.{ℕ, ◌==◌, pos, nat_lt, List, [], ◌∷◌, length, Option, Some, None, slice_get, unwrap_or, bytes_eq, codes, if◌then◌else◌}
use Rattle.std.specs.Option.{option_map_or}
use Rattle.ob_items.specs.Bodies.{array_of, properties_of}
use Rattle.ob_items.specs.IndexText.{index_in}
use Rattle.ob_items.specs.Items.{with_element}
use Rattle.ob_items.specs.Properties.{Keyed, property, with_property}
use Rattle.ob_items.specs.declared.item.Body.{Body}
use Rattle.ob_items.specs.declared.item.Body.TheVariants as B
use Rattle.ob_items.specs.declared.thrown.Thrown.TheVariants as T
use Rattle.ob_items.specs.declared.value.ErrorKind.{ErrorKind}
use Rattle.ob_items.specs.declared.value.Ref.{Ref}
use Rattle.ob_items.specs.declared.value.Value.{Value}
use Rattle.ob_items.specs.declared.value.Value.TheVariants as V
use Rattle.ob_values.specs.BuiltinNames.{property_number}
use Rattle.ob_values.specs.Inspect.{error_name}
use Rattle.ob_values.specs.ObjectFunctions.{key_in}
use Rattle.ob_values.specs.Store.{body_of, is_frozen, is_new_in, written}
use Rattle.ob_actions.specs.Act.{Go, Act, ◌>>=◌, pure}
use Rattle.ob_actions.specs.Core.{Core, with_store}
use Rattle.ob_actions.specs.Meters.{charges, makes, literal_value, throws}
use Rattle.ob_actions.specs.World.{World}

-- a key: a word of the text, or a value
pub data Key : Type 0 where
  Word : List ℕ → Key
  Computed : Value → Key

-- the element at an index, where the key is an index text
abbrev pub indexed : {X : Type 0} → List X → List ℕ → Option X
indexed xs key = option_map_or (λ i. slice_get xs i) (index_in key) None

module _ (world : World) where
  -- the units of a key: a number or a text, else it is bad
  abbrev pub units_of_key : Key → Act Core (List ℕ)
  units_of_key (Word units) s = Go units s
  units_of_key (Computed v) s = option_map_or (λ units. pure units s) (key_in s.store v) (throws world T.BadKey s)

  -- ---- reads: a missing property is undefined

  -- a text of one unit, which an index makes
  abbrev pub unit_text : Option ℕ → Act Core Value
  unit_text None = pure V.Undefined
  unit_text (Some u) = makes world (B.Text (u ∷ [])) 1 >>= (λ r. pure (V.Ref r))

  abbrev pub text_property : List ℕ → List ℕ → Act Core Value
  text_property units key =
      if bytes_eq key (codes "length") then pure (V.Int (pos (length units))) else unit_text (indexed units key)

  abbrev pub array_property : List Value → List ℕ → Value
  array_property values key =
      if bytes_eq key (codes "length") then V.Int (pos (length values)) else unwrap_or (indexed values key) V.Undefined

  abbrev pub error_property : ErrorKind → Ref → List ℕ → Act Core Value
  error_property kind message key =
      if bytes_eq key (codes "name") then literal_value world (error_name kind)
      else if bytes_eq key (codes "message") then pure (V.Ref message)
      else pure V.Undefined

  -- functions, generator objects and invalidation objects have none
  abbrev pub item_property : Option Body → List ℕ → Act Core Value
  item_property (Some (B.Text units)) key = text_property units key
  item_property (Some (B.Array values)) key = pure (array_property values key)
  item_property (Some (B.Object properties)) key = pure (unwrap_or (property properties key) V.Undefined)
  item_property (Some (B.Error kind message)) key = error_property kind message key
  item_property _ key = pure V.Undefined

  -- `Math`, `Object` and `Array` have their functions
  abbrev pub builtin_property : ℕ → List ℕ → Value
  builtin_property n key = option_map_or (λ k. V.Builtin k) (property_number n key) V.Undefined

  abbrev pub property_at : Value → List ℕ → Act Core Value
  property_at (V.Ref r) key s = item_property (body_of s.store r) key s
  property_at (V.Builtin n) key s = Go (builtin_property n key) s
  property_at v key s = Go V.Undefined s

  -- `a.b` and `a[k]`
  abbrev pub get_property : Value → Key → Act Core Value
  get_property V.Undefined k = throws world T.NoProperty
  get_property V.Null k = throws world T.NoProperty
  get_property v k = units_of_key k >>= property_at v

  -- ---- writes: the tests are, in this order, that the value is an array or an object, that the key is one, for an array an index, that the
  -- item isn't frozen, and that the index isn't past the end

  -- below the length it replaces, at the length it appends, which costs an element
  abbrev pub put_element : Ref → ℕ → ℕ → Value → Act Core (Unit {0})
  put_element r count i v s =
      if is_frozen s.store r then throws world T.Frozen s
      else if nat_lt count i then throws world T.PastEnd s
      else (charges world (if i == count then 1 else 0)
      >>= (λ _ t. Go tt (with_store (written array_of (with_element i v) t.store r (i == count)) t))) s

  abbrev pub set_element : Ref → ℕ → Option ℕ → Value → Act Core (Unit {0})
  set_element r count None v = throws world T.CannotSet
  set_element r count (Some i) v = put_element r count i v

  abbrev pub with_new_property : List ℕ → Value → Keyed → Body
  with_new_property key v properties = B.Object (with_property properties key v)

  -- a new property costs an element
  abbrev pub put_property : Ref → List ℕ → Value → Act Core (Unit {0})
  put_property r key v s =
      if is_frozen s.store r then throws world T.Frozen s
      else (charges world (if is_new_in s.store r key then 1 else 0)
      >>= (λ _ t. Go tt (with_store (written properties_of (with_new_property key v) t.store r (is_new_in t.store r key)) t))) s

  abbrev pub set_item : Ref → Option Body → Key → Value → Act Core (Unit {0})
  set_item r (Some (B.Array values)) k v = units_of_key k >>= (λ key. set_element r (length values) (index_in key) v)
  set_item r (Some (B.Object properties)) k v = units_of_key k >>= (λ key. put_property r key v)
  set_item r _ k v = throws world T.CannotSet

  -- `a.b = v` and `a[k] = v`
  abbrev pub set_property : Value → Key → Value → Act Core (Unit {0})
  set_property (V.Ref r) k v s = set_item r (body_of s.store r) k v s
  set_property a k v s = throws world T.CannotSet s
