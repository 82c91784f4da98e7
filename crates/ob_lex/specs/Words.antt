-- The punctuators, and how each is written.
use Rattle.std.specs.Prelude.{ℕ, ◌==◌, List, [], ◌∷◌, codes, if◌then◌else◌}
use Rattle.ob_lex.specs.declared.punctuator.Punctuator.{Punctuator}
use Rattle.ob_lex.specs.declared.punctuator.Punctuator.TheVariants as mark

-- the characters of a punctuator
unfoldable pub mark_spelling : Punctuator → List ℕ
mark_spelling mark.OpenBrace = codes "{"
mark_spelling mark.CloseBrace = codes "}"
mark_spelling mark.OpenParenthesis = codes "("
mark_spelling mark.CloseParenthesis = codes ")"
mark_spelling mark.OpenBracket = codes "["
mark_spelling mark.CloseBracket = codes "]"
mark_spelling mark.Dot = codes "."
mark_spelling mark.Semicolon = codes ";"
mark_spelling mark.Comma = codes ","
mark_spelling mark.Less = codes "<"
mark_spelling mark.Greater = codes ">"
mark_spelling mark.LessEqual = codes "<="
mark_spelling mark.GreaterEqual = codes ">="
mark_spelling mark.Equal = codes "=="
mark_spelling mark.NotEqual = codes "!="
mark_spelling mark.Same = codes "==="
mark_spelling mark.NotSame = codes "!=="
mark_spelling mark.Plus = codes "+"
mark_spelling mark.Minus = codes "-"
mark_spelling mark.Star = codes "*"
mark_spelling mark.Slash = codes "/"
mark_spelling mark.Percent = codes "%"
mark_spelling mark.StarStar = codes "**"
mark_spelling mark.PlusPlus = codes "++"
mark_spelling mark.MinusMinus = codes "--"
mark_spelling mark.ShiftLeft = codes "<<"
mark_spelling mark.ShiftRight = codes ">>"
mark_spelling mark.ShiftRightUnsigned = codes ">>>"
mark_spelling mark.Ampersand = codes "&"
mark_spelling mark.Bar = codes "|"
mark_spelling mark.Caret = codes "^"
mark_spelling mark.Not = codes "!"
mark_spelling mark.Tilde = codes "~"
mark_spelling mark.And = codes "&&"
mark_spelling mark.Or = codes "||"
mark_spelling mark.Coalesce = codes "??"
mark_spelling mark.Question = codes "?"
mark_spelling mark.QuestionDot = codes "?."
mark_spelling mark.Colon = codes ":"
mark_spelling mark.Assign = codes "="
mark_spelling mark.PlusAssign = codes "+="
mark_spelling mark.MinusAssign = codes "-="
mark_spelling mark.StarAssign = codes "*="
mark_spelling mark.SlashAssign = codes "/="
mark_spelling mark.PercentAssign = codes "%="
mark_spelling mark.StarStarAssign = codes "**="
mark_spelling mark.ShiftLeftAssign = codes "<<="
mark_spelling mark.ShiftRightAssign = codes ">>="
mark_spelling mark.ShiftRightUnsignedAssign = codes ">>>="
mark_spelling mark.AmpersandAssign = codes "&="
mark_spelling mark.BarAssign = codes "|="
mark_spelling mark.CaretAssign = codes "^="
mark_spelling mark.AndAssign = codes "&&="
mark_spelling mark.OrAssign = codes "||="
mark_spelling mark.CoalesceAssign = codes "??="
mark_spelling mark.Arrow = codes "=>"
mark_spelling mark.Ellipsis = codes "..."

-- the punctuators that begin with a character, the longer before the shorter
unfoldable pub marks_of : ℕ → List Punctuator
marks_of c =
    if c == 123 then mark.OpenBrace ∷ []
    else if c == 125 then mark.CloseBrace ∷ []
    else if c == 40 then mark.OpenParenthesis ∷ []
    else if c == 41 then mark.CloseParenthesis ∷ []
    else if c == 91 then mark.OpenBracket ∷ []
    else if c == 93 then mark.CloseBracket ∷ []
    else if c == 46 then mark.Ellipsis ∷ mark.Dot ∷ []
    else if c == 59 then mark.Semicolon ∷ []
    else if c == 44 then mark.Comma ∷ []
    else if c == 60 then mark.ShiftLeftAssign ∷ mark.LessEqual ∷ mark.ShiftLeft ∷ mark.Less ∷ []
    else if c == 62 then mark.ShiftRightUnsignedAssign ∷ mark.ShiftRightUnsigned ∷ mark.ShiftRightAssign ∷ mark.GreaterEqual ∷ mark.ShiftRight ∷ mark.Greater ∷ []
    else if c == 61 then mark.Same ∷ mark.Equal ∷ mark.Arrow ∷ mark.Assign ∷ []
    else if c == 33 then mark.NotSame ∷ mark.NotEqual ∷ mark.Not ∷ []
    else if c == 43 then mark.PlusPlus ∷ mark.PlusAssign ∷ mark.Plus ∷ []
    else if c == 45 then mark.MinusMinus ∷ mark.MinusAssign ∷ mark.Minus ∷ []
    else if c == 42 then mark.StarStarAssign ∷ mark.StarStar ∷ mark.StarAssign ∷ mark.Star ∷ []
    else if c == 47 then mark.SlashAssign ∷ mark.Slash ∷ []
    else if c == 37 then mark.PercentAssign ∷ mark.Percent ∷ []
    else if c == 38 then mark.AndAssign ∷ mark.And ∷ mark.AmpersandAssign ∷ mark.Ampersand ∷ []
    else if c == 124 then mark.OrAssign ∷ mark.Or ∷ mark.BarAssign ∷ mark.Bar ∷ []
    else if c == 94 then mark.CaretAssign ∷ mark.Caret ∷ []
    else if c == 126 then mark.Tilde ∷ []
    else if c == 63 then mark.CoalesceAssign ∷ mark.Coalesce ∷ mark.QuestionDot ∷ mark.Question ∷ []
    else if c == 58 then mark.Colon ∷ []
    else []
