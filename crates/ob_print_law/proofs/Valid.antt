-- Which tokens a text can have, and which tokens of a printed tree are cut out of its text again.
use Rattle.std.proofs.Common.{◌≡◌, ℕ, pos, negsuc, ◌<◌, ◌≤◌, true, List, [], ◌∷◌, ◌++◌, None, subst}
use Rattle.std.specs.Prelude.{encode_utf8_all}
use Rattle.std.proofs.Math.Utf8.{scalars}
use Rattle.ob_base.specs.Integers.{greatest}
use Rattle.ob_base.specs.Reserved.{reserved_word}
use Rattle.ob_lex.specs.Pieces.{IsWord}
use Rattle.ob_lex.specs.Words.{mark_spelling}
use Rattle.ob_lex.specs.declared.token.Token.{Token}
use Rattle.ob_lex.specs.declared.token.TokenKind.{TokenKind}
use Rattle.ob_lex.specs.declared.token.TokenKind.TheVariants as kind
use Rattle.ob_tree.specs.Tokens.{Token as Printed, Word, Mark, Number, Quoted}
use Rattle.ob_tree.specs.Print.{Tokens}
use Rattle.ob_grammar.specs.Marks.{IsName}
use Rattle.ob_print_law.proofs.Placed.{mark_named}

-- units of 16 bits
abbrev pub Units : List ℕ → Type 0
Units [] = Unit {0}
Units (u ∷ us) = (u < 0x10000) × Units us

-- a token that its own text is read as
abbrev pub Lexes : Printed → Type 0
Lexes (Word x) = (cs : List ℕ) × (IsWord cs × ((scalars cs ≡ true) × (x ≡ encode_utf8_all cs)))
Lexes (Mark x) = mark_spelling (mark_named x) ≡ x
Lexes (Number (pos n)) = n ≤ greatest
Lexes (Number (negsuc n)) = ⊥
Lexes (Quoted units) = Units units

abbrev pub AllLex : Tokens → Type 0
AllLex [] = Unit {0}
AllLex (p ∷ ps) = Lexes p × AllLex ps

-- a name, which no reserved word is
abbrev pub ValidName : List ℕ → Type 0
ValidName x = Lexes (Word x) × (reserved_word x ≡ None)

-- a token that some text has
abbrev pub ValidKind : TokenKind → Type 0
ValidKind (kind.Name x) = ValidName x
ValidKind (kind.Reserved w) = Unit {0}
ValidKind (kind.Number n) = Lexes (Number n)
ValidKind (kind.Text units) = Units units
ValidKind (kind.Punctuator m) = Unit {0}

abbrev pub Valid : List Token → Type 0
Valid [] = Unit {0}
Valid (t ∷ ts) = ValidKind t.kind × Valid ts

pub named : (x : List ℕ) (t : Token) → IsName x t → ValidKind t.kind → ValidName x
named x t h v = subst ValidKind h v

pub lex_append : (a b : Tokens) → AllLex a → AllLex b → AllLex (a ++ b)
lex_append [] b h k = k
lex_append (p ∷ ps) b h k = (h.0, lex_append ps b h.1 k)
