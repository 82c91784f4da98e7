-- The tokens of a text are of kinds that some text has.
use Rattle.std.proofs.Common.{◌≡◌, ◌≢◌, ℕ, pos, negsuc, ◌+◌, ◌<◌, Bool, true, false, ◌&&◌, ◌==◌, cond, List, [], ◌∷◌, ◌++◌, Option, Some, None, refl, ap, sym, ◌∙◌, arith}
use Rattle.std.specs.Char.{digit_value}
use Rattle.std.specs.Char.Escape.{encode_utf16}
use Rattle.std.specs.Str.{chars, IsUtf8}
use Rattle.std.proofs.Math.Utf8.{scalars, scalar}
use Rattle.std.proofs.lemmas.Bool.Decides.{nat_tests}
use Rattle.std.proofs.lemmas.Str.{scalars-chars}
use Rattle.ob_base.specs.declared.reserved.ReservedWord.{ReservedWord}
use Rattle.ob_base.specs.Reserved.{spelling, reserved_word}
use Rattle.ob_base.proofs.ReservedWords.{reserved_sound}
use Rattle.ob_lex.specs.declared.piece.Piece.{Piece}
use Rattle.ob_lex.specs.declared.piece.Piece.TheVariants as piece
use Rattle.ob_lex.specs.declared.token.Token.{Token}
use Rattle.ob_lex.specs.declared.token.TokenKind.{TokenKind}
use Rattle.ob_lex.specs.declared.token.TokenKind.TheVariants as kind
use Rattle.ob_lex.specs.Characters.{Characters, bytes, is_digit, escaped}
use Rattle.ob_lex.specs.Pieces.{hex_value, IsEscape, character, null, two_digits, four_digits, in_braces, line_end, line_ends, units_of, Inside, closes, plain, escape, IsText, IsPiece}
use Rattle.ob_lex.specs.Tokens.{Tokens, Cuts, done, next, shown}
use Rattle.ob_lex.proofs.Classes.{both}
use Rattle.ob_lex.proofs.Words.{reserved_encoded}
use Rattle.ob_print_law.proofs.Valid.{ValidKind, Valid, Units}
use Rattle.ob_print_law.proofs.Encoding.{units_append, encode_units, below_limit}

parts : (a b : Characters) → scalars (a ++ b) ≡ true → (scalars a ≡ true) × (scalars b ≡ true)
parts [] b h = (refl, h)
parts (c ∷ cs) b h = let p = both (scalar c) (scalars (cs ++ b)) h in let q = parts cs b p.1 in (ap (λ x. x && scalars cs) p.0 ∙ q.0, q.1)

-- ---- names

no_reserved : (front : Characters) → ((w : ReservedWord) → front ≢ spelling w) → (o : Option ReservedWord) → reserved_word front ≡ o → reserved_word front ≡ None
no_reserved front unmet None e = e
no_reserved front unmet (Some w) e = absurd (unmet w (reserved_sound w front e))

-- ---- texts

hex_below : (c : ℕ) → is_digit 16 c ≡ true → digit_value c < 16
unfolding is_digit
hex_below c h = grind (arith, nat_tests)

escaped_below : (c : ℕ) → scalar c ≡ true → escaped c < 0x110000
unfolding escaped
escaped_below c h = go (c == 98) (c == 116) (c == 110) (c == 118) (c == 102) (c == 114)
  where
    go : (a b d e f g : Bool) → cond a 8 (cond b 9 (cond d 10 (cond e 11 (cond f 12 (cond g 13 c))))) < 0x110000
    go true b d e f g = omega arith
    go false true d e f g = omega arith
    go false false true e f g = omega arith
    go false false false true f g = omega arith
    go false false false false true g = omega arith
    go false false false false false true = omega arith
    go false false false false false false = below_limit c h

escape_units : {front : Characters} {code : Option ℕ} {after : Characters} → IsEscape front code after → scalars front ≡ true → Units (units_of code)
escape_units (character c after h) s = let p = both (scalar c) true s in encode_units (escaped c) (escaped_below c p.0)
escape_units (null after h) s = encode_units 0 (omega arith)
escape_units (two_digits a b after h) s = let p = hex_below a h.0 in let q = hex_below b h.1.0 in encode_units (hex_value 0 (a ∷ b ∷ [])) (omega (arith, p, q))
escape_units (four_digits a b c d after h) s =
    let p = hex_below a h.0 in
    let q = hex_below b h.1.0 in
    let r = hex_below c h.1.1.0 in
    let t = hex_below d h.1.1.1.0 in
    encode_units (hex_value 0 (a ∷ b ∷ c ∷ d ∷ [])) (omega (arith, p, q, r, t))
escape_units (in_braces d ds after h le) s = encode_units (hex_value 0 (d ∷ ds)) (omega (arith, le))
escape_units (line_end c after h) s = tt
escape_units (line_ends after) s = tt

inside_units : (quote : ℕ) {front : Characters} {units : List ℕ} → Inside quote front units → scalars front ≡ true → Units units
inside_units quote closes s = tt
inside_units quote (plain c cs us h d) s =
    let p = both (scalar c) (scalars cs) s in units_append (encode_utf16 c) us (encode_units c (below_limit c p.0)) (inside_units quote d p.1)
inside_units quote (escape f cs code us h d) s =
    let p = parts f cs s in units_append (units_of code) us (escape_units h p.0) (inside_units quote d p.1)

text_units : (front : Characters) (units : List ℕ) → IsText front units → scalars front ≡ true → Units units
text_units [] units h s = absurd h
text_units (q ∷ cs) units h s = inside_units q h.1 (both (scalar q) (scalars cs) s).1

-- ---- tokens

piece_valid : (k : TokenKind) (front rest : Characters) → IsPiece (piece.Token k) front rest → scalars front ≡ true → ValidKind k
piece_valid (kind.Name x) front rest h s =
    ((front, (h.0, (s, h.1.1))), ap reserved_word h.1.1 ∙ reserved_encoded front ∙ no_reserved front h.1.0 (reserved_word front) refl)
piece_valid (kind.Reserved w) front rest h s = tt
piece_valid (kind.Number (pos n)) front rest h s = h.1.0
piece_valid (kind.Number (negsuc n)) front rest h s = h
piece_valid (kind.Text units) front rest h s = text_units front units h s
piece_valid (kind.Punctuator m) front rest h s = tt

shown_valid : (k : Piece) (front rest : Characters) (start end : ℕ) (breaks : Bool) (tokens : List Token) → IsPiece k front rest → scalars front ≡ true → Valid tokens → Valid (shown k start end breaks ++ tokens)
shown_valid piece.WhiteSpace front rest start end breaks tokens h s v = v
shown_valid piece.LineEnd front rest start end breaks tokens h s v = v
shown_valid (piece.Comment b) front rest start end breaks tokens h s v = v
shown_valid (piece.Token k) front rest start end breaks tokens h s v = (piece_valid k front rest h s, v)

cuts_valid : {breaks : Bool} {at : ℕ} {text : Characters} {tokens : List Token} → Cuts breaks at text tokens → scalars text ≡ true → Valid tokens
cuts_valid (done breaks at) s = tt
cuts_valid (next breaks at k text front rest tokens e d more) s =
    let p = parts front rest (ap scalars (sym e) ∙ s) in
    shown_valid k front rest at (at + bytes front) breaks tokens d.allowed p.0 (cuts_valid more p.1)

pub text_valid : (text : List ℕ) (tokens : List Token) → IsUtf8 text → Tokens (chars text) tokens → Valid tokens
text_valid text tokens u d = cuts_valid d (scalars-chars text u)
