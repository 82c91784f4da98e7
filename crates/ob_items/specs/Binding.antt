-- What the box of a captured binding holds.
use Rattle.std.specs.Prelude.{Option, Some, None}
use Rattle.ob_items.specs.declared.value.Value.{Value}
use Rattle.ob_items.specs.declared.value.Value.TheVariants as V
use Rattle.ob_items.specs.declared.binding.Content.{Content}
use Rattle.ob_items.specs.declared.binding.Content.TheVariants as C

abbrev pub content_value : Content → Option Value
content_value C.Nothing = None
content_value C.Undefined = Some V.Undefined
content_value C.Null = Some V.Null
content_value (C.Bool flag) = Some (V.Bool flag)
content_value (C.Int number) = Some (V.Int number)
content_value (C.Builtin number) = Some (V.Builtin number)
content_value (C.Holder number) = Some (V.Holder number)
content_value (C.Ref r) = Some (V.Ref r)
