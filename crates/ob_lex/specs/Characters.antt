-- What a character of a text may be part of. A character is its code point.
use Rattle.std.specs.Prelude.{ℕ, Bool, true, false, not, ◌||◌, ◌&&◌, ◌==◌, nat_le, nat_lt, List, [], ◌∷◌, Option, None, Some, if◌then◌else◌, length, encode_utf8_all}
use Rattle.std.specs.Char.{digit_value}
use Rattle.unicode_ident.specs.Ident.{is_xid_start, is_xid_continue}

-- the characters of a text
abbrev pub Characters : Type 0
Characters = List ℕ

-- how many bytes characters take in UTF-8
abbrev pub bytes : Characters → ℕ
bytes text = length (encode_utf8_all text)

-- ECMA-262, "White Space": tab, vertical tab, form feed, no-break spaces and the space separators of Unicode
unfoldable pub is_white_space : ℕ → Bool
is_white_space c = c == 9 || c == 11 || c == 12 || c == 32 || c == 0xA0 || c == 0x1680 || (nat_le 0x2000 c && nat_le c 0x200A)
    || c == 0x202F || c == 0x205F || c == 0x3000 || c == 0xFEFF

-- ECMA-262, "Line Terminators": line feed, carriage return, line separator, paragraph separator
unfoldable pub is_line_end : ℕ → Bool
is_line_end c = c == 10 || c == 13 || c == 0x2028 || c == 0x2029

-- ECMA-262, "Names and Keywords": `$`, `_` or XID_Start
unfoldable pub starts_name : ℕ → Bool
starts_name c = c == 36 || c == 95 || is_xid_start c

-- `$` or XID_Continue, to which `_` belongs
unfoldable pub continues_name : ℕ → Bool
continues_name c = c == 36 || is_xid_continue c

-- a digit of the base, up to 36
unfoldable pub is_digit : ℕ → ℕ → Bool
is_digit base c = nat_lt (digit_value c) base

-- the value of a digit of the base
abbrev pub digit_of : ℕ → ℕ → Option ℕ
digit_of base c = if is_digit base c then Some (digit_value c) else None

-- `"` or `'`
unfoldable pub is_quote : ℕ → Bool
is_quote c = c == 34 || c == 39

-- the base of a number that begins with `0` and this character (ECMA-262, "Numeric Literals")
unfoldable pub base_of : ℕ → Option ℕ
base_of c =
    if c == 120 || c == 88 then Some 16
    else if c == 111 || c == 79 then Some 8
    else if c == 98 || c == 66 then Some 2
    else None

-- a character that stands for itself in a text between these quotes: no quote, backslash, line feed or carriage return
unfoldable pub is_plain : ℕ → ℕ → Bool
is_plain quote c = not (c == quote || c == 92 || c == 10 || c == 13)

-- a character that a backslash may stand before alone: no line end, no digit, no `x` or `u`
unfoldable pub is_escaped : ℕ → Bool
is_escaped c = not (is_line_end c || c == 120 || c == 117 || is_digit 10 c)

-- the code that such a character then gives (ECMA-262, "String Single Character Escape Sequences")
unfoldable pub escaped : ℕ → ℕ
escaped c =
    if c == 98 then 8
    else if c == 116 then 9
    else if c == 110 then 10
    else if c == 118 then 11
    else if c == 102 then 12
    else if c == 114 then 13
    else c

-- whether a text begins with a digit
abbrev pub begins_with_digit : Characters → Bool
begins_with_digit [] = false
begins_with_digit (c ∷ cs) = is_digit 10 c

-- whether a number may end before a text: neither a character of a name nor `.` follows
abbrev pub ends_number : Characters → Bool
ends_number [] = true
ends_number (c ∷ cs) = not (continues_name c || c == 46)

-- whether a text begins with a word
abbrev pub begins : Characters → Characters → Bool
begins [] text = true
begins (w ∷ ws) [] = false
begins (w ∷ ws) (c ∷ cs) = w == c && begins ws cs

-- whether a word stands somewhere in a text
abbrev pub holds : Characters → Characters → Bool
holds word [] = begins word []
holds word (c ∷ cs) = begins word (c ∷ cs) || holds word cs
