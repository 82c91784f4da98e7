-- Texts in UTF-8 as UTF-16.
use Rattle.std.specs.Prelude.{ℕ, List}
use Rattle.std.specs.Char.Escape.{encode_utf16}
use Rattle.std.specs.List.{flat_map}
use Rattle.std.specs.Str.{chars}

-- the UTF-16 code units of a text in UTF-8 (ECMA-262, "The String Type")
unfoldable pub utf16 : List ℕ → List ℕ
utf16 text = flat_map encode_utf16 (chars text)
