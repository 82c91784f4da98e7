-- The pieces that a text is cut into, and where each may stand.
use Rattle.std.specs.Prelude.{◌≡◌, ◌≢◌, ℕ, pos, negsuc, ◌+◌, ◌*◌, ◌≤◌, Bool, true, false, not, ◌==◌, List, [], ◌∷◌, ◌++◌, codes, Option, Some, None, encode_utf8_all}
use Rattle.std.specs.List.{list_any}
use Rattle.std.specs.Char.{digit_value}
use Rattle.std.specs.Char.Escape.{encode_utf16}
use Rattle.ob_base.specs.declared.reserved.ReservedWord.{ReservedWord}
use Rattle.ob_base.specs.Reserved.{spelling}
use Rattle.ob_base.specs.Integers.{greatest}
use Rattle.ob_lex.specs.declared.punctuator.Punctuator.{Punctuator}
use Rattle.ob_lex.specs.declared.punctuator.Punctuator.TheVariants.{QuestionDot}
use Rattle.ob_lex.specs.declared.token.TokenKind.TheVariants as kind
use Rattle.ob_lex.specs.declared.piece.Piece.{Piece}
use Rattle.ob_lex.specs.declared.piece.Piece.TheVariants as piece
use Rattle.ob_lex.specs.Words.{mark_spelling}
use Rattle.ob_lex.specs.Characters.{Characters, is_white_space, is_line_end, starts_name, continues_name, is_digit, is_quote, base_of, is_plain, is_escaped, escaped, begins_with_digit, ends_number, holds}

-- each character passes the test
abbrev pub Each : (ℕ → Bool) → Characters → Type 0
Each test [] = Unit {0}
Each test (c ∷ cs) = (test c ≡ true) × Each test cs

-- one character, which passes the test
abbrev pub IsOne : (ℕ → Bool) → Characters → Type 0
IsOne test [] = ⊥
IsOne test (c ∷ []) = test c ≡ true
IsOne test (c ∷ d ∷ cs) = ⊥

-- `//` and what stands before the line's end, or `/*`, what holds no `*/`, and `*/`; the flag says whether it holds a line end
-- (ECMA-262, "Comments")
pub data IsComment : Characters → Bool → Type 0 where
  to_line_end : (inner : Characters) → Each (λ c. not (is_line_end c)) inner → IsComment (47 ∷ 47 ∷ inner) false
  closed : (inner : Characters) → holds (codes "*/") inner ≡ false → IsComment (47 ∷ 42 ∷ inner ++ (42 ∷ 47 ∷ [])) (list_any is_line_end inner)

-- the characters of names and reserved words
abbrev pub IsWord : Characters → Type 0
IsWord [] = ⊥
IsWord (c ∷ cs) = (starts_name c ≡ true) × Each continues_name cs

-- after digits of the base with the first value these digits follow, single `_` between two of them, and the value is then the second
pub data Digits (base : ℕ) : ℕ → Characters → ℕ → Type 0 where
  no_more : (n : ℕ) → Digits base n [] n
  digit : (n m d : ℕ) (ds : Characters) → is_digit base d ≡ true → Digits base (n * base + digit_value d) ds m → Digits base n (d ∷ ds) m
  separated : (n m d : ℕ) (ds : Characters) → is_digit base d ≡ true → Digits base (n * base + digit_value d) ds m → Digits base n (95 ∷ d ∷ ds) m

-- a number and its value (ECMA-262, "Numeric Literals", of integers)
pub data IsNumber : Characters → ℕ → Type 0 where
  zero_alone : IsNumber (48 ∷ []) 0
  decimal : (d n : ℕ) (ds : Characters) → is_digit 10 d ≡ true → (d == 48) ≡ false → Digits 10 (digit_value d) ds n → IsNumber (d ∷ ds) n
  in_base : (x base d n : ℕ) (ds : Characters) → base_of x ≡ Some base → is_digit base d ≡ true → Digits base (digit_value d) ds n
      → IsNumber (48 ∷ x ∷ d ∷ ds) n

-- the value of hexadecimal digits after digits of a value
abbrev pub hex_value : ℕ → Characters → ℕ
hex_value n [] = n
hex_value n (d ∷ ds) = hex_value (n * 16 + digit_value d) ds

-- what stands after a backslash, the code that it gives, none for a line that goes on, and what follows
-- (ECMA-262, "String Literals", EscapeSequence and LineContinuation)
pub data IsEscape : Characters → Option ℕ → Characters → Type 0 where
  character : (c : ℕ) (after : Characters) → is_escaped c ≡ true → IsEscape (c ∷ []) (Some (escaped c)) after
  null : (after : Characters) → begins_with_digit after ≡ false → IsEscape (48 ∷ []) (Some 0) after
  two_digits : (a b : ℕ) (after : Characters) → Each (is_digit 16) (a ∷ b ∷ []) → IsEscape (120 ∷ a ∷ b ∷ []) (Some (hex_value 0 (a ∷ b ∷ []))) after
  four_digits : (a b c d : ℕ) (after : Characters) → Each (is_digit 16) (a ∷ b ∷ c ∷ d ∷ [])
      → IsEscape (117 ∷ a ∷ b ∷ c ∷ d ∷ []) (Some (hex_value 0 (a ∷ b ∷ c ∷ d ∷ []))) after
  in_braces : (d : ℕ) (ds after : Characters) → Each (is_digit 16) (d ∷ ds) → hex_value 0 (d ∷ ds) ≤ 0x10FFFF
      → IsEscape (117 ∷ 123 ∷ d ∷ ds ++ (125 ∷ [])) (Some (hex_value 0 (d ∷ ds))) after
  line_end : (c : ℕ) (after : Characters) → is_line_end c ≡ true → IsEscape (c ∷ []) None after
  line_ends : (after : Characters) → IsEscape (13 ∷ 10 ∷ []) None after

-- the UTF-16 units of a code point; of one from 0xD800 to 0xDFFF that number alone (ECMA-262, UTF16EncodeCodePoint)
abbrev pub units_of : Option ℕ → List ℕ
units_of None = []
units_of (Some code) = encode_utf16 code

-- what follows an opening quote, the closing one with it, and the units that it means
pub data Inside (quote : ℕ) : Characters → List ℕ → Type 0 where
  closes : Inside quote (quote ∷ []) []
  plain : (c : ℕ) (cs : Characters) (units : List ℕ) → is_plain quote c ≡ true → Inside quote cs units → Inside quote (c ∷ cs) (encode_utf16 c ++ units)
  escape : (escape cs : Characters) (code : Option ℕ) (units : List ℕ) → IsEscape escape code cs → Inside quote cs units
      → Inside quote (92 ∷ escape ++ cs) (units_of code ++ units)

-- a text and its units (ECMA-262, "String Literals")
abbrev pub IsText : Characters → List ℕ → Type 0
IsText [] units = ⊥
IsText (quote ∷ cs) units = (is_quote quote ≡ true) × Inside quote cs units

-- `?.` stands before no digit (ECMA-262, "Punctuators", OptionalChainingPunctuator)
abbrev pub may_precede : Punctuator → Characters → Bool
may_precede QuestionDot rest = not (begins_with_digit rest)
may_precede _ rest = true

-- these characters are such a piece, and may stand before that rest
abbrev pub IsPiece : Piece → Characters → Characters → Type 0
IsPiece piece.WhiteSpace text rest = IsOne is_white_space text
IsPiece piece.LineEnd text rest = IsOne is_line_end text
IsPiece (piece.Comment breaks) text rest = IsComment text breaks
IsPiece (piece.Token (kind.Name name)) text rest = IsWord text × (((word : ReservedWord) → text ≢ spelling word) × (name ≡ encode_utf8_all text))
IsPiece (piece.Token (kind.Reserved word)) text rest = text ≡ spelling word
IsPiece (piece.Token (kind.Number (pos n))) text rest = IsNumber text n × ((n ≤ greatest) × (ends_number rest ≡ true))
IsPiece (piece.Token (kind.Number (negsuc n))) text rest = ⊥
IsPiece (piece.Token (kind.Text units)) text rest = IsText text units
IsPiece (piece.Token (kind.Punctuator mark)) text rest = (text ≡ mark_spelling mark) × (may_precede mark rest ≡ true)
