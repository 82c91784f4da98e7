-- The operators on values (ECMA-262, "ApplyStringOrNumericBinaryOperator", "IsLessThan", "The typeof Operator",
-- "Unary Operators" and "ToBoolean", in this project's profile; the errors and the costs are this project's).
use Rattle.std.specs.Prelude.{ℕ, ◌+◌, ◌==◌, ◌++◌, ◌||◌, not, Bool, true, false, ℤ, pos, neg_ℤ, List, [], ◌∷◌, length, Option, Some, None, is_some, Result, Ok, Err, nat_lt, codes, if◌then◌else◌}
use Rattle.std.specs.Int.{bit_not, w32}
use Rattle.std.specs.List.{Contains}
use Rattle.std.specs.Ordering.{int_eq, int_cmp, nat_cmp, is_lt, is_gt}
use Rattle.std.specs.declared.cmp.Ordering.{Ordering}
use Rattle.std.specs.Option.{option_map, option_map_or, option_and_then}
use Rattle.std.specs.Cmp.Lexicographic.{slice_cmp}
use Rattle.ob_base.specs.declared.operators.BinaryOp.{BinaryOp}
use Rattle.ob_base.specs.declared.operators.BinaryOp.TheVariants as O
use Rattle.ob_base.specs.declared.operators.CompareOp.{CompareOp}
use Rattle.ob_base.specs.declared.operators.CompareOp.TheVariants as C
use Rattle.ob_base.specs.declared.operators.UnaryOp.{UnaryOp}
use Rattle.ob_base.specs.declared.operators.UnaryOp.TheVariants as U
use Rattle.ob_items.specs.Bodies.{text_of}
use Rattle.ob_items.specs.Items.{live}
use Rattle.ob_items.specs.Numbers.{number_result, is_in_range, ranged, bits_of, signed}
use Rattle.ob_items.specs.declared.error.OpError.{OpError}
use Rattle.ob_items.specs.declared.error.OpError.TheVariants as E
use Rattle.ob_items.specs.declared.thrown.Thrown.{Thrown}
use Rattle.ob_items.specs.declared.thrown.Thrown.TheVariants as T
use Rattle.ob_items.specs.declared.value.RegionKey.{RegionKey}
use Rattle.ob_items.specs.declared.value.Value.{Value}
use Rattle.ob_items.specs.declared.value.Value.TheVariants as V
use Rattle.ob_items.specs.declared.item.Body.{Body}
use Rattle.ob_items.specs.declared.item.Body.TheVariants as B
use Rattle.ob_values.specs.Reach.{Reaches}
use Rattle.ob_values.specs.Sound.{Pointer, pointers_of, leads_to, IsSound}
use Rattle.ob_values.specs.Store.{Store, item_of, read_item, elements_in, text_cost, with_new, next_ref}
use Rattle.ob_values.specs.Values.{same_value, string_of}

-- ---- what the operators leave

-- a number lies from -(2^53-1) to 2^53-1
abbrev pub is_ranged : Value → Bool
is_ranged (V.Int n) = is_in_range n
is_ranged _ = true

-- whatever the roots are: if they reach these pointers, what was sound from them stays so, and the value is sound beside
-- them
abbrev pub AddsValue : Store → Store → List Pointer → Value → Type 0
AddsValue old new used value =
    (roots : List Pointer) → ((p : Pointer) → Contains used p → Reaches (leads_to old) roots p) → IsSound old roots → IsSound new (pointers_of (value ∷ []) ++ roots)

-- ---- operands

-- the units of a value that is a text
abbrev pub text_in : Store → Value → Option (List ℕ)
text_in s (V.Ref r) = read_item text_of s r
text_in s _ = None

-- falsy are undefined, null, false, 0 and the empty text
abbrev pub is_truthy : Store → Value → Bool
is_truthy s V.Undefined = false
is_truthy s V.Null = false
is_truthy s (V.Bool b) = b
is_truthy s (V.Int n) = not (int_eq n (pos 0))
is_truthy s (V.Builtin _) = true
is_truthy s (V.Holder _) = false
is_truthy s (V.Ref r) = option_map_or (λ units. not (length units == 0)) (read_item text_of s r) true

-- ---- the binary operators

-- what an operator gives: a number, or the units of a new text
pub data Made : Type 0 where
  Number : ℤ → Made
  Text : List ℕ → Made

-- a result outside the range throws, whatever the operator
abbrev pub within_range : Result ℤ Thrown → Result ℤ Thrown
within_range (Ok n) = ranged n
within_range (Err t) = Err t

abbrev pub made_number : Result ℤ Thrown → Result Made Thrown
made_number (Ok n) = Ok (Number n)
made_number (Err t) = Err t

-- a text beside a value that has a text
abbrev pub joined : Store → Value → Value → Option (List ℕ)
joined s a b =
    if is_some (text_in s a) || is_some (text_in s b) then option_and_then (λ x. option_map (λ y. x ++ y) (string_of s b)) (string_of s a)
    else None

-- the sum of operands of which one is no number
abbrev pub text_sum : Option (List ℕ) → Result Made Thrown
text_sum None = Err T.WrongOperand
text_sum (Some units) = if nat_lt 65536 (length units) then Err T.TextTooLong else Ok (Text units)

-- what an operator gives of two values, or what it throws
abbrev pub binary_result : Store → BinaryOp → Value → Value → Result Made Thrown
binary_result s op (V.Int a) (V.Int b) = made_number (within_range (number_result op a b))
binary_result s O.Add a b = text_sum (joined s a b)
binary_result s _ _ _ = Err T.WrongOperand

-- an action that makes so many elements and takes so many steps besides one for each of these, where its region has
-- `elements` and there are `left` steps: it meets the limit of elements, or else that of steps, or else is carried out
abbrev pub limited : {X : Type 0} → ℕ → ℕ → ℕ → ℕ → X → Result X OpError
limited elements left made steps x =
    if nat_lt 50000 (elements + made) then Err E.HeapFull
    else if nat_lt left (made + steps) then Err E.StepsOut
    else Ok x

-- a fault that is thrown comes before the limits; a number is no element
abbrev pub charged : ℕ → ℕ → Result Made Thrown → Result Made OpError
charged elements left (Err t) = Err (E.Throws t)
charged elements left (Ok (Number n)) = Ok (Number n)
charged elements left (Ok (Text units)) = limited elements left (text_cost (length units)) 0 (Text units)

abbrev pub binary_answer : Store → RegionKey → BinaryOp → Value → Value → ℕ → Result Made OpError
binary_answer s region op a b left = charged (elements_in s region) left (binary_result s op a b)

-- the value that an operator gives where its text is made in a region
abbrev pub made_value : Store → RegionKey → Made → Value
made_value s region (Number n) = V.Int n
made_value s region (Text units) = V.Ref (next_ref s region)

-- the store after it: a text more, or nothing else
abbrev pub after_made : Store → RegionKey → Made → Store
after_made s region (Number n) = s
after_made s region (Text units) = with_new s region (live (B.Text units)) (text_cost (length units))

-- ---- the comparisons

-- what a comparison gives of an order
abbrev pub compares : CompareOp → Ordering → Bool
compares C.Less o = is_lt o
compares C.Greater o = is_gt o
compares C.LessEq o = not (is_gt o)
compares C.GreaterEq o = not (is_lt o)
compares C.Same o = false
compares C.NotSame o = false

-- the order of two numbers, or of two texts by their units
abbrev pub order_of : Store → Value → Value → Option Ordering
order_of s (V.Int a) (V.Int b) = Some (int_cmp a b)
order_of s a b = option_and_then (λ x. option_map (λ y. slice_cmp nat_cmp x y) (text_in s b)) (text_in s a)

abbrev pub ordered : CompareOp → Option Ordering → Result Bool Thrown
ordered op None = Err T.WrongOperand
ordered op (Some o) = Ok (compares op o)

abbrev pub compare_result : Store → CompareOp → Value → Value → Result Bool Thrown
compare_result s C.Same a b = Ok (same_value s a b)
compare_result s C.NotSame a b = Ok (not (same_value s a b))
compare_result s op a b = ordered op (order_of s a b)

-- ---- the unary operators

abbrev pub number_value : Result ℤ Thrown → Result Value Thrown
number_value (Ok n) = Ok (V.Int n)
number_value (Err t) = Err t

-- what a unary operator other than `typeof` gives, or what it throws
abbrev pub unary_result : Store → UnaryOp → Value → Result Value Thrown
unary_result s U.Not a = Ok (V.Bool (not (is_truthy s a)))
unary_result s U.Minus (V.Int n) = number_value (ranged (neg_ℤ n))
unary_result s U.Plus (V.Int n) = number_value (ranged n)
unary_result s U.BitNot (V.Int n) = Ok (V.Int (signed (bit_not w32 (bits_of n))))
unary_result s U.Void a = Ok V.Undefined
unary_result s _ _ = Err T.WrongOperand

-- the text of `typeof`
abbrev pub typeof_body : Body → List ℕ
typeof_body (B.Text _) = codes "string"
typeof_body (B.Closure _) = codes "function"
typeof_body _ = codes "object"

-- `Math`, `Object`, `Array` and `invalidation` are objects, the other builtins functions
abbrev pub typeof_builtin : ℕ → List ℕ
typeof_builtin n = if nat_lt n 3 || (n == 8) then codes "object" else codes "function"

abbrev pub typeof_value : Store → Value → List ℕ
typeof_value s V.Undefined = codes "undefined"
typeof_value s V.Null = codes "object"
typeof_value s (V.Bool _) = codes "boolean"
typeof_value s (V.Int _) = codes "number"
typeof_value s (V.Builtin n) = typeof_builtin n
typeof_value s (V.Holder _) = codes "undefined"
typeof_value s (V.Ref r) = option_map_or (λ item. typeof_body item.body) (item_of s r) (codes "undefined")
