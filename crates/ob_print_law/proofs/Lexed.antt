-- The text of printed tokens is cut into these tokens again.
use Rattle.std.proofs.Common.{◌≡◌, ℕ, pos, negsuc, ◌+◌, true, false, List, [], ◌∷◌, ◌++◌, length, Some, refl, ap, sym, subst, ◌∙◌, arith, length-append}
use Rattle.std.specs.Prelude.{encode_utf8_all}
use Rattle.std.specs.Str.{chars}
use Rattle.std.proofs.Math.Utf8.{scalars}
use Rattle.std.proofs.lemmas.Str.{chars-encodes, encodes-append}
use Rattle.ob_base.specs.Reserved.{reserved_word}
use Rattle.ob_lex.specs.declared.piece.Piece.{Piece}
use Rattle.ob_lex.specs.declared.piece.Piece.TheVariants as piece
use Rattle.ob_lex.specs.declared.token.Token.{Token}
use Rattle.ob_lex.specs.declared.token.TokenKind.TheVariants as kind
use Rattle.ob_lex.specs.Characters.{Characters, is_white_space}
use Rattle.ob_lex.specs.Tokens as lexer
use Rattle.ob_lex.specs.Tokens.{IsLongest, Cuts}
use Rattle.ob_lex.specs.Reading.{piece_at}
use Rattle.ob_lex.proofs.Classes.{white, white_first}
use Rattle.ob_lex.proofs.Front.{at_class, read_front, read_is_longest}
use Rattle.ob_lex.proofs.Tools.{split_once}
use Rattle.ob_tree.specs.Tokens.{Token as Printed, Word, Mark, Number, Quoted, spelled, spaced, text_of}
use Rattle.ob_tree.specs.Print.{Tokens}
use Rattle.ob_print_law.proofs.Placed.{kind_of, kind_by, mark_named, end_at, token, next, placed}
use Rattle.ob_print_law.proofs.Valid.{Lexes, AllLex}
use Rattle.ob_print_law.proofs.Cutting.{Free, IsCut, Itself, word_cut, number_cut, decimal_itself}
use Rattle.ob_print_law.proofs.CutMarks.{mark_cut, mark_itself}
use Rattle.ob_print_law.proofs.CutTexts.{scalars_append, quotes}

-- ---- one token

-- the characters of a printed token, and that they are cut off as that token
record CutOut (p : Printed) : Type 0 where
  cs : Characters
  spell : encode_utf8_all cs ≡ spelled p
  are : scalars cs ≡ true
  cut : IsCut cs (kind_of p)

record CutMark (x : List ℕ) : Type 0 where
  is : Itself x
  cut : IsCut x (kind.Punctuator (mark_named x))

mark_out : (x : List ℕ) → Lexes (Mark x) → CutMark x
mark_out x h = record { is = subst Itself h (mark_itself (mark_named x)); cut = subst (λ y. IsCut y (kind.Punctuator (mark_named x))) h (mark_cut (mark_named x)) }

cut_out : (p : Printed) → Lexes p → CutOut p
cut_out (Word x) h = record {
  cs = h.0;
  spell = sym h.1.1.1;
  are = h.1.1.0;
  cut = subst (λ y. IsCut h.0 (kind_by y (reserved_word y))) (sym h.1.1.1) (word_cut h.0 h.1.0);
}
cut_out (Mark x) h = let m = mark_out x h in record { cs = x; spell = m.is.1; are = m.is.0; cut = m.cut }
cut_out (Number (pos n)) h = let i = decimal_itself n h in record { cs = spelled (Number (pos n)); spell = i.1; are = i.0; cut = number_cut n h }
cut_out (Number (negsuc n)) h = absurd h
cut_out (Quoted units) h = let q = quotes units h in record { cs = q.cs; spell = q.spell; are = q.are; cut = q.cut }

-- ---- one step

is_longest : (k : Piece) (cs rest : Characters) → piece_at (cs ++ rest) ≡ Some (k, rest) → IsLongest k cs rest
is_longest k cs rest e =
    let x = read_front (cs ++ rest) rest k e in
    let s = split_once cs rest x.0 rest x.1.0 (omega (arith, ap length x.1.0, length-append cs rest, length-append x.0 rest)) in
    subst (λ l. IsLongest k l rest) (sym s.0) (read_is_longest (cs ++ rest) rest k e)

space_read : (rest : Characters) → piece_at (32 ∷ rest) ≡ Some (piece.WhiteSpace, rest)
unfolding is_white_space
space_read rest = at_class 32 rest white (white_first 32 refl)

space_step : (at : ℕ) (rest : Characters) (tokens : List Token) → Cuts false (at + 1) rest tokens → Cuts false at (32 ∷ rest) tokens
unfolding lib.Utf8.encode
space_step at rest tokens d = lexer.next false at piece.WhiteSpace (32 ∷ rest) (32 ∷ []) rest tokens refl (is_longest piece.WhiteSpace (32 ∷ []) rest (space_read rest)) d

token_step : (at : ℕ) (p : Printed) (c : CutOut p) (rest : Characters) (tokens : List Token) → Free rest → Cuts false (end_at at p) rest tokens → Cuts false at (c.cs ++ rest) (token at p ∷ tokens)
token_step at p c rest tokens f d =
    let e : length (encode_utf8_all c.cs) ≡ length (spelled p) = ap length c.spell in
    let before : Cuts false (at + length (encode_utf8_all c.cs)) rest tokens = subst (λ n. Cuts false (at + n) rest tokens) (sym e) d in
    subst (λ n. Cuts false at (c.cs ++ rest) (record { kind = kind_of p; start = at; end = at + n; break_before = false } ∷ tokens)) e
    (lexer.next false at (piece.Token (kind_of p)) (c.cs ++ rest) c.cs rest tokens refl (is_longest (piece.Token (kind_of p)) c.cs rest (c.cut rest f)) before)

-- ---- all of them

-- the characters of a text from a byte on, and what they are cut into
record Laid (at : ℕ) (bytes : List ℕ) (tokens : List Token) : Type 0 where
  cs : Characters
  spell : encode_utf8_all cs ≡ bytes
  are : scalars cs ≡ true
  free : Free cs
  cuts : Cuts false at cs tokens

spaced_laid : (ps : Tokens) → AllLex ps → (at : ℕ) → Laid at (spaced ps) (placed (at + 1) ps)
unfolding spaced lib.Utf8.encode
spaced_laid [] h at = record { cs = []; spell = refl; are = refl; free = tt; cuts = lexer.done false at }
spaced_laid (p ∷ ps) h at =
    let c = cut_out p h.0 in
    let m = spaced_laid ps h.1 (end_at (at + 1) p) in
    record {
      cs = 32 ∷ c.cs ++ m.cs;
      spell = ap (λ b. 32 ∷ b) (encodes-append c.cs m.cs ∙ ap (λ b. b ++ encode_utf8_all m.cs) c.spell ∙ ap (λ b. spelled p ++ b) m.spell);
      are = scalars_append c.cs m.cs c.are m.are;
      free = refl;
      cuts = space_step at (c.cs ++ m.cs) (placed (at + 1) (p ∷ ps)) (token_step (at + 1) p c m.cs (placed (next (at + 1) p) ps) m.free m.cuts);
    }

record Text (bytes : List ℕ) (tokens : List Token) : Type 0 where
  cs : Characters
  spell : encode_utf8_all cs ≡ bytes
  are : scalars cs ≡ true
  cuts : Cuts false 0 cs tokens

text_laid : (ps : Tokens) → AllLex ps → Text (text_of ps) (placed 0 ps)
text_laid [] h = record { cs = []; spell = refl; are = refl; cuts = lexer.done false 0 }
text_laid (p ∷ ps) h =
    let c = cut_out p h.0 in
    let m = spaced_laid ps h.1 (end_at 0 p) in
    record {
      cs = c.cs ++ m.cs;
      spell = encodes-append c.cs m.cs ∙ ap (λ b. b ++ encode_utf8_all m.cs) c.spell ∙ ap (λ b. spelled p ++ b) m.spell;
      are = scalars_append c.cs m.cs c.are m.are;
      cuts = token_step 0 p c m.cs (placed (next 0 p) ps) m.free m.cuts;
    }

-- the text of printed tokens has these tokens
pub printed_text : (ps : Tokens) → AllLex ps → lexer.Tokens (chars (text_of ps)) (placed 0 ps)
printed_text ps h =
    let t = text_laid ps h in
    let same : chars (text_of ps) ≡ t.cs = ap chars (sym t.spell) ∙ chars-encodes t.cs t.are in
    subst (λ l. lexer.Tokens l (placed 0 ps)) (sym same) t.cuts
