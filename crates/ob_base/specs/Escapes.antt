-- How the UTF-16 units of a text are written in ASCII and UTF-8, and which texts are plain words (the escapes are of ECMA-262, "String Literals";
-- which of them are used is this project's).
use Rattle.std.specs.Prelude.{ℕ, ◌/◌, ◌%◌, Bool, false, ◌&&◌, ◌||◌, ◌==◌, nat_lt, List, [], ◌∷◌, ◌++◌, if◌then◌else◌}
use Rattle.std.specs.List.{list_all}
use Rattle.std.specs.Char.{encode_utf8, digit_char, is_ascii_digit, is_ascii_alphabetic}
use Rattle.std.specs.Char.Utf16.{is_high_surrogate, is_low_surrogate, surrogate_pair_char}

-- a unit below 0x20, 0x7f, a line or paragraph separator, or a surrogate
abbrev pub is_hidden : ℕ → Bool
is_hidden u = nat_lt u 0x20 || u == 0x7F || u == 0x2028 || u == 0x2029 || is_high_surrogate u || is_low_surrogate u

-- `\u` and four hexadecimal digits
abbrev pub hex_escape : ℕ → List ℕ
hex_escape u = 92 ∷ 117 ∷ digit_char (u / 0x1000) ∷ digit_char (u / 0x100 % 16) ∷ digit_char (u / 0x10 % 16) ∷ digit_char (u % 16) ∷ []

-- a hidden unit, or the character itself
abbrev pub other_text : ℕ → List ℕ
other_text u = if is_hidden u then hex_escape u else encode_utf8 u

-- a unit that is half of no pair: `\\`, `\n`, `\r` and `\t` stand for these four, and between quotes `\"` for a quote
unfoldable pub unit_text : Bool → ℕ → List ℕ
unit_text in_quotes u =
    if (u == 34) && in_quotes then 92 ∷ 34 ∷ []
    else if u == 92 then 92 ∷ 92 ∷ []
    else if u == 10 then 92 ∷ 110 ∷ []
    else if u == 13 then 92 ∷ 114 ∷ []
    else if u == 9 then 92 ∷ 116 ∷ []
    else other_text u

-- the units of a text, a pair of surrogates as the character that it stands for
abbrev pub units_text : Bool → List ℕ → List ℕ
units_text in_quotes [] = []
units_text in_quotes (u ∷ []) = unit_text in_quotes u
units_text in_quotes (u ∷ v ∷ us) =
    if is_high_surrogate u && is_low_surrogate v then encode_utf8 (surrogate_pair_char u v) ++ units_text in_quotes us
    else unit_text in_quotes u ++ units_text in_quotes (v ∷ us)

-- ---- words

-- `$`, `_` and the letters of ASCII; and its digits too
abbrev pub starts_ascii_word : ℕ → Bool
starts_ascii_word u = u == 36 || u == 95 || is_ascii_alphabetic u

abbrev pub continues_ascii_word : ℕ → Bool
continues_ascii_word u = starts_ascii_word u || is_ascii_digit u

abbrev pub begins_ascii_word : List ℕ → Bool
begins_ascii_word [] = false
begins_ascii_word (u ∷ us) = starts_ascii_word u

-- a name or a reserved word whose characters are of ASCII
abbrev pub is_ascii_word : List ℕ → Bool
is_ascii_word units = begins_ascii_word units && list_all continues_ascii_word units
