-- The tokens as functions that read the text from the left. The laws in `proofs/` say that they give the pieces of `Pieces.antt` and the
-- tokens of `Tokens.antt`, and all of them; the code gives what they give.
use Rattle.std.specs.Prelude.{◌≡◌, ◌≤◌, ℕ, zero, suc, pos, ◌+◌, ◌-◌, ◌*◌, Bool, false, not, ◌||◌, ◌&&◌, ◌==◌, nat_le, List, [], ◌∷◌, ◌++◌, length, take, drop, codes, encode_utf8_all, Option, Some, None, option_map, if◌then◌else◌, Result, Ok, Err}
use Rattle.std.specs.Char.{digit_value}
use Rattle.ob_base.specs.declared.reserved.ReservedWord.{ReservedWord}
use Rattle.ob_base.specs.Reserved.{reserved_word}
use Rattle.ob_lex.specs.declared.punctuator.Punctuator.{Punctuator}
use Rattle.ob_lex.specs.declared.token.TokenKind.{TokenKind}
use Rattle.ob_lex.specs.declared.token.TokenKind.TheVariants as kind
use Rattle.ob_lex.specs.declared.token.Token.{Token}
use Rattle.ob_lex.specs.declared.piece.Piece.{Piece}
use Rattle.ob_lex.specs.declared.piece.Piece.TheVariants as piece
use Rattle.ob_lex.specs.declared.quoted.Element.{Element}
use Rattle.ob_lex.specs.declared.quoted.Element.TheVariants as element
use Rattle.ob_lex.specs.declared.error.LexError.{LexError}
use Rattle.ob_lex.specs.declared.error.LexError.TheVariants as errors
use Rattle.ob_lex.specs.Words.{mark_spelling, marks_of}
use Rattle.ob_lex.specs.Characters.{Characters, bytes, is_white_space, is_line_end, starts_name, continues_name, is_digit, is_quote, base_of, escaped, begins_with_digit, ends_number, begins}
use Rattle.ob_base.specs.Integers.{greatest}
use Rattle.ob_lex.specs.Pieces.{units_of, may_precede}
use Rattle.ob_lex.specs.Tokens.{breaks_after, shown}

-- what is read at the front of a text, and the rest
abbrev pub Read : Type 0 → Type 0
Read A = Option (A × Characters)

abbrev pub read_map : {A B : Type 0} → (A → B) → Read A → Read B
read_map f None = None
read_map f (Some p) = Some (f p.0, p.1)

-- how many characters at the front pass the test
abbrev pub run : (ℕ → Bool) → Characters → ℕ
run test [] = 0
run test (c ∷ cs) = if test c then suc (run test cs) else 0

-- ---- words

abbrev pub word_kind : Characters → Option ReservedWord → TokenKind
word_kind name None = kind.Name (encode_utf8_all name)
word_kind name (Some w) = kind.Reserved w

-- the word with which the text begins, of that many characters
unfoldable pub word_at : ℕ → Characters → Read TokenKind
word_at n text = Some (word_kind (take n text) (reserved_word (take n text)), drop n text)

-- ---- numbers

abbrev pub digits_next : ℕ → ℕ → ℕ → Characters → (ℕ → Read ℕ) → Read ℕ
digits_next base n c cs go = if nat_le (n * base + digit_value c) greatest then go (n * base + digit_value c) else None

abbrev pub begins_digit : ℕ → Characters → Bool
begins_digit base [] = false
begins_digit base (c ∷ cs) = is_digit base c

-- digits of the base and single `_` between them, after digits of a value; none where the value passes the greatest number
abbrev pub digits_from : ℕ → ℕ → Characters → Read ℕ
digits_from base n [] = Some (n, [])
digits_from base n (c ∷ cs) =
    if is_digit base c then digits_next base n c cs (λ m. digits_from base m cs)
    else if c == 95 && begins_digit base cs then digits_from base n cs
    else Some (n, c ∷ cs)

abbrev pub number_digits : ℕ → ℕ → Characters → Read ℕ
number_digits base d ds = if is_digit base d then digits_from base (digit_value d) ds else None

abbrev pub first_digit : ℕ → Characters → Read ℕ
first_digit base [] = None
first_digit base (d ∷ ds) = number_digits base d ds

abbrev pub based : ℕ → Characters → Option ℕ → Read ℕ
based x cs None = Some (0, x ∷ cs)
based x cs (Some base) = first_digit base cs

abbrev pub after_zero : Characters → Read ℕ
after_zero [] = Some (0, [])
after_zero (x ∷ cs) = based x cs (base_of x)

abbrev pub ended : Read ℕ → Read TokenKind
ended None = None
ended (Some p) = if ends_number p.1 then Some (kind.Number (pos p.0), p.1) else None

-- the number that begins with this digit
unfoldable pub number_at : ℕ → Characters → Read TokenKind
number_at c cs = ended (if c == 48 then after_zero cs else number_digits 10 c cs)

-- ---- texts

abbrev pub two_digits : Characters → Read (Option ℕ)
two_digits [] = None
two_digits (a ∷ []) = None
two_digits (a ∷ b ∷ cs) = if is_digit 16 a && is_digit 16 b then Some (Some (digit_value a * 16 + digit_value b), cs) else None

abbrev pub four_digits : Characters → Read (Option ℕ)
four_digits [] = None
four_digits (a ∷ []) = None
four_digits (a ∷ b ∷ []) = None
four_digits (a ∷ b ∷ c ∷ []) = None
four_digits (a ∷ b ∷ c ∷ d ∷ cs) =
    if is_digit 16 a && is_digit 16 b && is_digit 16 c && is_digit 16 d
    then Some (Some (((digit_value a * 16 + digit_value b) * 16 + digit_value c) * 16 + digit_value d), cs)
    else None

-- digits and `}`, after digits of a value
abbrev pub to_brace : ℕ → Characters → Read (Option ℕ)
to_brace n [] = None
to_brace n (c ∷ cs) =
    if is_digit 16 c then (if nat_le (n * 16 + digit_value c) 0x10FFFF then to_brace (n * 16 + digit_value c) cs else None)
    else if c == 125 then Some (Some n, cs)
    else None

abbrev pub in_braces : Characters → Read (Option ℕ)
in_braces [] = None
in_braces (d ∷ ds) = if is_digit 16 d then to_brace (digit_value d) ds else None

abbrev pub unicode_at : Characters → Read (Option ℕ)
unicode_at [] = None
unicode_at (c ∷ cs) = if c == 123 then in_braces cs else four_digits (c ∷ cs)

-- a line feed after a carriage return goes with it
abbrev pub after_line_end : ℕ → Characters → Characters
after_line_end c [] = []
after_line_end c (d ∷ ds) = if c == 13 && d == 10 then ds else d ∷ ds

-- what stands after a backslash, as the code that it gives
unfoldable pub escape_at : Characters → Read (Option ℕ)
escape_at [] = None
escape_at (c ∷ cs) =
    if is_line_end c then Some (None, after_line_end c cs)
    else if c == 120 then two_digits cs
    else if c == 117 then unicode_at cs
    else if is_digit 10 c then (if c == 48 && not (begins_with_digit cs) then Some (Some 0, cs) else None)
    else Some (Some (escaped c), cs)

-- the closing quote, a character or an escape
unfoldable pub element_at : ℕ → Characters → Read Element
element_at quote [] = None
element_at quote (c ∷ cs) =
    if c == quote then Some (element.Closes, cs)
    else if c == 92 then read_map (λ code. element.Gives code) (escape_at cs)
    else if c == 10 || c == 13 then None
    else Some (element.Gives (Some c), cs)

abbrev pub with_units : List ℕ → Read (List ℕ) → Read (List ℕ)
with_units units more = read_map (λ after. units ++ after) more

abbrev pub after_element : Element → Characters → (Characters → Read (List ℕ)) → Read (List ℕ)
after_element element.Closes rest go = Some ([], rest)
after_element (element.Gives code) rest go = with_units (units_of code) (go rest)

abbrev pub then_inside : Read Element → (Characters → Read (List ℕ)) → Read (List ℕ)
then_inside None go = None
then_inside (Some p) go = after_element p.0 p.1 go

-- what stands up to the closing quote; the first number bounds the elements, for which the count of the characters is enough
unfoldable pub inside : ℕ → ℕ → Characters → Read (List ℕ)
inside zero quote text = None
inside (suc n) quote text = then_inside (element_at quote text) (inside n quote)

abbrev pub text_at : ℕ → Characters → Read TokenKind
text_at quote cs = read_map (λ units. kind.Text units) (inside (length cs) quote cs)

-- ---- comments and punctuators

-- what stands up to the first `*/` and whether it, or what came before, holds a line end
unfoldable pub to_close : Bool → Characters → Read Bool
to_close breaks [] = None
to_close breaks (c ∷ cs) = if begins (codes "*/") (c ∷ cs) then Some (breaks, drop 1 cs) else to_close (breaks || is_line_end c) cs

abbrev pub comment_after : ℕ → Characters → Read Bool
comment_after c cs =
    if c == 47 then Some (false, drop (run (λ c. not (is_line_end c)) cs) cs)
    else if c == 42 then to_close false cs
    else None

unfoldable pub comment_at : Characters → Read Bool
comment_at [] = None
comment_at (a ∷ []) = None
comment_at (a ∷ b ∷ cs) = if a == 47 then comment_after b cs else None

abbrev pub first_mark : List Punctuator → Characters → Read Punctuator
first_mark [] text = None
first_mark (m ∷ ms) text =
    if begins (mark_spelling m) text && may_precede m (drop (length (mark_spelling m)) text)
    then Some (m, drop (length (mark_spelling m)) text)
    else first_mark ms text

abbrev pub comment_or_mark : Read Bool → Read Punctuator → Read Piece
comment_or_mark None marks = read_map (λ m. piece.Token (kind.Punctuator m)) marks
comment_or_mark (Some p) marks = Some (piece.Comment p.0, p.1)

-- ---- pieces

-- the piece at the front of the text
unfoldable pub piece_at : Characters → Read Piece
piece_at [] = None
piece_at (c ∷ cs) =
    if is_white_space c then Some (piece.WhiteSpace, cs)
    else if is_line_end c then Some (piece.LineEnd, cs)
    else if starts_name c then read_map (λ k. piece.Token k) (word_at (suc (run continues_name cs)) (c ∷ cs))
    else if is_digit 10 c then read_map (λ k. piece.Token k) (number_at c cs)
    else if is_quote c then read_map (λ k. piece.Token k) (text_at c cs)
    else comment_or_mark (comment_at (c ∷ cs)) (first_mark (marks_of c) (c ∷ cs))

abbrev pub with_front : List Token → Option (List Token) → Option (List Token)
with_front front more = option_map (λ after. front ++ after) more

abbrev pub then_cut : Bool → ℕ → Characters → Read Piece → (Bool → ℕ → Characters → Option (List Token)) → Option (List Token)
then_cut breaks at text None go = None
then_cut breaks at text (Some p) go =
    let end = at + (bytes text - bytes p.1) in with_front (shown p.0 at end breaks) (go (breaks_after p.0 breaks) end p.1)

-- the tokens of the text from this byte on; the first number bounds the pieces, for which the count of the characters is enough
unfoldable pub cut : ℕ → Bool → ℕ → Characters → Option (List Token)
cut turns breaks at [] = Some []
cut zero breaks at (c ∷ cs) = None
cut (suc n) breaks at (c ∷ cs) = then_cut breaks at (c ∷ cs) (piece_at (c ∷ cs)) (cut n)

-- a code point, where there is one
abbrev pub IsCode : Element → Type 0
IsCode element.Closes = Unit {0}
IsCode (element.Gives None) = Unit {0}
IsCode (element.Gives (Some code)) = code ≤ 0x10FFFF

-- nothing was read; where memory is wanting nothing is said
abbrev pub Fails : {B : Type 0} → LexError → Option B → Type 0
Fails errors.Bad read = read ≡ None
Fails errors.NoMemory read = Unit {0}

-- the answer is what was read
abbrev pub Gives : {A B : Type 0} → (A → B) → Result A LexError → Option B → Type 0
Gives view (Ok x) read = read ≡ Some (view x)
Gives view (Err error) read = Fails error read
