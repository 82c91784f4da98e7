-- The tokens of a printed tree, and their text.
use Rattle.std.specs.Prelude.{ℕ, ℤ, Bool, true, not, ◌&&◌, List, [], ◌∷◌, ◌++◌, if◌then◌else◌}
use Rattle.std.specs.Fmt.{signed_decimal}
use Rattle.ob_base.specs.Escapes.{is_ascii_word, units_text}
use Rattle.ob_tree.specs.Words.{is_reserved}

-- a name or a reserved word; a punctuator; a number; a text, by its UTF-16 units
pub data Token : Type 0 where
  Word : List ℕ → Token
  Mark : List ℕ → Token
  Number : ℤ → Token
  Quoted : List ℕ → Token

-- ---- texts in quotes, and keys

unfoldable pub quoted : List ℕ → List ℕ
quoted units = 34 ∷ units_text true units ++ 34 ∷ []

-- an ASCII name, which no reserved word is
unfoldable pub is_ascii_name : List ℕ → Bool
is_ascii_name units = is_ascii_word units && not (is_reserved units)

-- a key is a word where it is an ASCII name, else a text
unfoldable pub key_token : List ℕ → Token
key_token units = if is_ascii_name units then Word units else Quoted units

-- ---- the text of tokens

abbrev pub spelled : Token → List ℕ
spelled (Word name) = name
spelled (Mark mark) = mark
spelled (Number n) = signed_decimal n
spelled (Quoted units) = quoted units

-- a space before each
unfoldable pub spaced : List Token → List ℕ
spaced [] = []
spaced (t ∷ ts) = 32 ∷ spelled t ++ spaced ts

-- one space between two
abbrev pub text_of : List Token → List ℕ
text_of [] = []
text_of (t ∷ ts) = spelled t ++ spaced ts
