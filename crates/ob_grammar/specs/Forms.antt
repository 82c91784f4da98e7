-- What a piece ends in, which decides what may stand after it: whether it can be assigned to, and which tokens go on with it.
use Rattle.std.specs.Prelude.{◌≡◌, ℕ, ◌≤◌, ◌⊎◌, Bool, true, false, List, [], ◌∷◌}
use Rattle.ob_lex.specs.declared.punctuator.Punctuator.TheVariants as mark
use Rattle.ob_lex.specs.declared.token.Token.{Token}
use Rattle.ob_lex.specs.declared.token.TokenKind.{TokenKind}
use Rattle.ob_lex.specs.declared.token.TokenKind.TheVariants as kind
use Rattle.ob_grammar.specs.declared.form.Form.{Form}
use Rattle.ob_grammar.specs.declared.form.Form.TheVariants.{Target, Other, Updated, Closed, Bare}
use Rattle.ob_grammar.specs.Marks.{IsMark, rank}

-- the form of what ends in a piece of that form
abbrev pub edge : Form → Form
edge Target = Other
edge Other = Other
edge Updated = Updated
edge Closed = Closed
edge Bare = Bare

-- a token before which no value stands behind `return` or `yield`
unfoldable pub ends_value : TokenKind → Bool
ends_value (kind.Punctuator mark.Semicolon) = true
ends_value (kind.Punctuator mark.Comma) = true
ends_value (kind.Punctuator mark.CloseBrace) = true
ends_value _ = false

abbrev pub NoValue : Token → Type 0
NoValue t = (t.break_before ≡ true) ⊎ (ends_value t.kind ≡ true)

-- the token does not go on with a piece of that form at a rule that takes tokens of ranks below n
abbrev pub Quiet : Form → ℕ → Token → Type 0
Quiet Target n t = n ≤ rank t
Quiet Other n t = n ≤ rank t
Quiet Updated n t = (n ≤ rank t) ⊎ (rank t ≤ 1)
Quiet Closed n t = (n ≤ rank t) ⊎ (rank t ≤ 14)
Quiet Bare n t = NoValue t × ((n ≤ rank t) ⊎ (rank t ≤ 16))

abbrev pub Stops : Form → ℕ → List Token → Type 0
Stops f n [] = Unit {0}
Stops f n (t ∷ ts) = Quiet f n t

-- The `;` at the end of a statement whose last part has that form: what stands there, and what follows it. It may be left out before `}`,
-- at the end of the text, and before a token after a line break where no rule lets that token go on, `,` with a declaration and `;` itself
-- among them (ECMA-262, "Rules of Automatic Semicolon Insertion").
pub data Ends (f : Form) : List Token → List Token → Type 0 where
  written : (t : Token) (ts : List Token) → IsMark mark.Semicolon t → Ends f (t ∷ ts) ts
  before_brace : (t : Token) (ts : List Token) → IsMark mark.CloseBrace t → Ends f (t ∷ ts) (t ∷ ts)
  at_end : Ends f [] []
  at_line : (t : Token) (ts : List Token) → t.break_before ≡ true → Stops f 19 (t ∷ ts) → Ends f (t ∷ ts) (t ∷ ts)
