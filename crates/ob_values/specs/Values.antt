-- When values are the same, and what text they have.
use Rattle.std.specs.Prelude.{ℕ, ◌&&◌, Bool, true, false, List, Option, Some, None, nat_eq, not, codes, if◌then◌else◌}
use Rattle.std.specs.Ordering.{int_eq}
use Rattle.std.specs.Option.{option_map_or}
use Rattle.std.specs.Fmt.{signed_decimal}
use Rattle.std.specs.Cmp.Lexicographic.{pointwise}
use Rattle.ob_items.specs.Bodies.{text_of}
use Rattle.ob_items.specs.declared.value.Value.{Value}
use Rattle.ob_items.specs.declared.value.Value.TheVariants as V
use Rattle.ob_items.specs.declared.value.Ref.{Ref}
use Rattle.ob_values.specs.Store.{Store, read_item}

abbrev pub ref_eq : Ref → Ref → Bool
ref_eq a b = nat_eq a.region.0 b.region.0 && nat_eq a.item b.item

-- two items are the same: texts by their units, all else by identity
abbrev pub same_item : Store → Ref → Ref → Bool
same_item s a b =
    option_map_or (λ x. option_map_or (λ y. pointwise nat_eq x y) (read_item text_of s b) (ref_eq a b)) (read_item text_of s a) (ref_eq a b)

-- `===`: of one kind and equal (ECMA-262, "IsStrictlyEqual")
abbrev pub same_value : Store → Value → Value → Bool
same_value s V.Undefined V.Undefined = true
same_value s V.Null V.Null = true
same_value s (V.Bool a) (V.Bool b) = if a then b else not b
same_value s (V.Int a) (V.Int b) = int_eq a b
same_value s (V.Builtin a) (V.Builtin b) = nat_eq a b
same_value s (V.Holder a) (V.Holder b) = nat_eq a b
same_value s (V.Ref a) (V.Ref b) = same_item s a b
same_value _ _ _ = false

-- what `String` gives (ECMA-262, "ToString", in this project's profile): none for what it refuses
abbrev pub string_of : Store → Value → Option (List ℕ)
string_of s V.Undefined = Some (codes "undefined")
string_of s V.Null = Some (codes "null")
string_of s (V.Bool b) = Some (if b then codes "true" else codes "false")
string_of s (V.Int n) = Some (signed_decimal n)
string_of s (V.Builtin _) = None
string_of s (V.Holder _) = None
string_of s (V.Ref r) = read_item text_of s r
