-- The text of a value (this project; the escapes are ECMA-262's, "String Literals").
use Rattle.std.specs.Prelude.{ℕ, zero, suc, ◌-◌, ◌==◌, ◌&&◌, ◌||◌, Bool, true, false, nat_lt, nat_le, List, [], ◌∷◌, ◌++◌, length, take, is_some, unwrap_or, Option, Some, None, codes, if◌then◌else◌}
use Rattle.std.specs.Option.{option_map, option_map_or}
use Rattle.std.specs.Fmt.{signed_decimal}
use Rattle.ob_base.specs.Escapes.{is_ascii_word, units_text}
use Rattle.ob_base.specs.declared.limits.Limit.{Limit}
use Rattle.ob_base.specs.declared.limits.Limit.TheVariants as L
use Rattle.ob_items.specs.Bodies.{text_of}
use Rattle.ob_items.specs.IndexText.{index_in}
use Rattle.ob_items.specs.Properties.{Keyed, count, entries_of}
use Rattle.ob_items.specs.declared.properties.Property.{Property}
use Rattle.ob_items.specs.declared.error.Failure.{Failure}
use Rattle.ob_items.specs.declared.error.Failure.TheVariants as F
use Rattle.ob_items.specs.declared.value.ErrorKind.{ErrorKind}
use Rattle.ob_items.specs.declared.value.ErrorKind.TheVariants as K
use Rattle.ob_items.specs.declared.value.Value.{Value}
use Rattle.ob_items.specs.declared.value.Value.TheVariants as V
use Rattle.ob_items.specs.declared.value.Ref.{Ref}
use Rattle.ob_items.specs.declared.item.Body.{Body}
use Rattle.ob_items.specs.declared.item.Body.TheVariants as B
use Rattle.ob_values.specs.Store.{Store, item_of, read_item}

-- ---- texts

-- what stands after a text of more than 100 units, which is cut after 100
abbrev pub dots : List ℕ → List ℕ
dots units = if nat_lt 100 (length units) then codes "..." else []

-- a text in quotes
unfoldable pub quoted : List ℕ → List ℕ
quoted units = 34 ∷ (units_text true (take 100 units) ++ 34 ∷ dots units)

-- a message, without quotes
unfoldable pub message_text : List ℕ → List ℕ
message_text units = units_text false (take 100 units) ++ dots units

-- ---- keys

-- an ASCII name or a reserved word (which is made as a name is), or an array index, of at most 100 units
unfoldable pub is_plain_key : List ℕ → Bool
is_plain_key units = nat_le (length units) 100 && (is_ascii_word units || is_some (index_in units))

-- a plain key as it is, another in quotes
unfoldable pub key_text : List ℕ → List ℕ
key_text units = if is_plain_key units then units else quoted units

-- ---- values

-- the text so far, and how many values may still be printed
pub record Page : Type 0 where
  pub text : List ℕ
  pub left : ℕ

abbrev pub write : List ℕ → Page → Page
write text page = record { text = page.text ++ text; left = page.left }

-- a value takes one
abbrev pub take_one : Page → Page
take_one page = record { text = page.text; left = page.left - 1 }

-- what f prints of each part: the first behind this separator, the others behind commas; where no value may be printed any
-- more, `...` stands in the place of the next part, and the list ends
abbrev pub print_parts : {X : Type 0} → (X → Page → Page) → List ℕ → List X → Page → Page
print_parts f separator [] page = page
print_parts f separator (x ∷ xs) page =
    if page.left == 0 then write (codes "...") (write separator page)
    else print_parts f (codes ", ") xs (f x (write separator page))

abbrev pub error_name : ErrorKind → List ℕ
error_name K.Error = codes "Error"
error_name K.TypeError = codes "TypeError"
error_name K.RangeError = codes "RangeError"
error_name K.ReferenceError = codes "ReferenceError"

-- the units of an error's message
abbrev pub message_units : Store → Ref → List ℕ
message_units s message = unwrap_or (read_item text_of s message) []

abbrev pub error_text : Store → ErrorKind → Ref → List ℕ
error_text s kind message = error_name kind ++ codes "(" ++ quoted (message_units s message) ++ codes ")"

-- an array or object that is not opened
abbrev pub closed_array : List Value → List ℕ
closed_array [] = codes "[]"
closed_array (v ∷ vs) = codes "[...]"

abbrev pub closed_object : Keyed → List ℕ
closed_object properties = if count properties == 0 then codes "{}" else codes "{...}"

-- an item that is not opened; no program has a box or an array of inputs as a value
abbrev pub item_text : Store → Body → List ℕ
item_text s (B.Text units) = quoted units
item_text s (B.Array values) = closed_array values
item_text s (B.Object properties) = closed_object properties
item_text s (B.Box value) = codes "undefined"
item_text s (B.Closure closure) = codes "function"
item_text s (B.Generator kept) = codes "generator"
item_text s (B.Error kind message) = error_text s kind message
item_text s (B.Invalidation hooks) = codes "invalidation"
item_text s (B.Inputs values) = codes "undefined"

-- `Math`, `Object` and `Array`; `invalidation`; and the functions
abbrev pub builtin_text : ℕ → List ℕ
builtin_text n = if nat_lt n 3 then codes "builtin" else if n == 8 then codes "invalidation" else codes "function"

-- a value, where f prints an item
abbrev pub print_value : (Ref → Page → Page) → Value → Page → Page
print_value f V.Undefined page = write (codes "undefined") (take_one page)
print_value f V.Null page = write (codes "null") (take_one page)
print_value f (V.Bool b) page = write (if b then codes "true" else codes "false") (take_one page)
print_value f (V.Int n) page = write (signed_decimal n) (take_one page)
print_value f (V.Builtin n) page = write (builtin_text n) (take_one page)
print_value f (V.Holder n) page = write (codes "undefined") (take_one page)
print_value f (V.Ref r) page = f r (take_one page)

-- a key and a value
abbrev pub print_property : (Value → Page → Page) → Property → Page → Page
print_property f p page = f p.value (write (codes ": ") (write (key_text p.key) page))

-- an item that is opened, where f prints a value in it
abbrev pub print_opened : (Value → Page → Page) → Store → Body → Page → Page
print_opened f s (B.Array values) page = write (codes "]") (print_parts f [] values (write (codes "[") page))
print_opened f s (B.Object properties) page = write (codes "}") (print_parts (print_property f) [] (entries_of properties) (write (codes "{") page))
print_opened f s body page = write (item_text s body) page

-- an item, where it and what stands in it are opened for so many levels
unfoldable pub print_body : ℕ → Store → Body → Page → Page
print_body zero s body page = write (item_text s body) page
print_body (suc n) s body page =
    print_opened (print_value (λ r inner. option_map_or (λ item. print_body n s item.body inner) (item_of s r) (write (codes "undefined") inner))) s body page

-- the item that a reference points to; where there is none, `undefined`
abbrev pub print_at : ℕ → Store → Ref → Page → Page
print_at n s r page = option_map_or (λ item. print_body n s item.body page) (item_of s r) (write (codes "undefined") page)

-- the text of a value: at most 200 values, to depth 6
abbrev pub inspect_text : Store → Value → List ℕ
inspect_text s value = (print_value (print_at 6 s) value (record { text = []; left = 200 })).text

-- ---- failures

abbrev pub limit_message : Limit → List ℕ
limit_message L.Steps = codes "too many steps"
limit_message L.Elements = codes "too many elements"
limit_message L.Calls = codes "too many calls"

-- the kind and the message of an error
abbrev pub error_in : Store → Body → Option (ErrorKind × List ℕ)
error_in s (B.Error kind message) = Some (kind, message_units s message)
error_in s _ = None

abbrev pub error_of : Store → Value → Option (ErrorKind × List ℕ)
error_of s (V.Ref r) = option_map_or (λ item. error_in s item.body) (item_of s r) None
error_of s _ = None

-- what was thrown: an error by its name and message, another value by its text
abbrev pub thrown_text : Store → Value → List ℕ
thrown_text s value =
    option_map_or (λ e. error_name e.0 ++ codes ": " ++ message_text e.1) (error_of s value) (codes "thrown " ++ inspect_text s value)

-- a failure in a report (this project)
abbrev pub failure_text : Store → Failure → List ℕ
failure_text s F.Syntax = codes "SyntaxError"
failure_text s (F.Runtime message) = codes "RuntimeError: " ++ message_text message
failure_text s (F.Threw value) = thrown_text s value
failure_text s (F.Limit limit) = codes "RangeError: " ++ limit_message limit

-- the message, if the failure has one: of the runtime, of a limit, or of a thrown error
abbrev pub failure_message : Store → Failure → Option (List ℕ)
failure_message s F.Syntax = None
failure_message s (F.Runtime message) = Some message
failure_message s (F.Threw value) = option_map (λ e. e.1) (error_of s value)
failure_message s (F.Limit limit) = Some (limit_message limit)
