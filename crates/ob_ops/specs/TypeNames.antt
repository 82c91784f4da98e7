-- The names of types.
use Rattle.std.specs.Prelude.{ℕ, List, codes}
use Rattle.ob_ops.specs.declared.type_name.TypeName.{TypeName}
use Rattle.ob_ops.specs.declared.type_name.TypeName.TheVariants as N

-- the text that `typeof` gives (ECMA-262, "The typeof Operator")
abbrev pub text_of_type : TypeName → List ℕ
text_of_type N.Undefined = codes "undefined"
text_of_type N.Object = codes "object"
text_of_type N.Boolean = codes "boolean"
text_of_type N.Number = codes "number"
text_of_type N.Text = codes "string"
text_of_type N.Function = codes "function"
