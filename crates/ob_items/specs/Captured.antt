-- How a function value keeps the boxes of the bindings that it captured.
use Rattle.std.specs.Prelude.{List, [], ◌∷◌}
use Rattle.ob_items.specs.declared.value.Ref.{Ref}
use Rattle.ob_items.specs.declared.function_value.CapturedBoxes.{CapturedBoxes}
use Rattle.ob_items.specs.declared.function_value.CapturedBoxes.TheVariants as C

-- the boxes that are kept so
abbrev pub captured : CapturedBoxes → List Ref
captured C.Empty = []
captured (C.One only) = only.value ∷ []
captured (C.Several boxes) = boxes
