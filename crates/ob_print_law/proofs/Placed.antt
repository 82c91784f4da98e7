-- The tokens that the tokens of a printed tree are cut into.
use Rattle.std.proofs.Common.{◌≡◌, ℕ, ◌+◌, false, List, [], ◌∷◌, ◌++◌, length, Option, Some, None, refl, ap}
use Rattle.std.specs.Prelude.{codes, bytes_eq, if◌then◌else◌}
use Rattle.ob_base.specs.declared.reserved.ReservedWord.{ReservedWord}
use Rattle.ob_base.specs.declared.reserved.ReservedWord.TheVariants as word
use Rattle.ob_base.specs.Reserved.{spelling, reserved_word}
use Rattle.ob_base.proofs.ReservedWords.{reserved_found}
use Rattle.ob_lex.specs.declared.punctuator.Punctuator.{Punctuator}
use Rattle.ob_lex.specs.declared.punctuator.Punctuator.TheVariants as mark
use Rattle.ob_lex.specs.declared.token.Token.{Token}
use Rattle.ob_lex.specs.declared.token.TokenKind.{TokenKind}
use Rattle.ob_lex.specs.declared.token.TokenKind.TheVariants as kind
use Rattle.ob_lex.specs.Words.{mark_spelling, marks_of}
use Rattle.ob_tree.specs.Tokens.{Token as Printed, Word, Mark, Number, Quoted, spelled}
use Rattle.ob_tree.specs.Print.{Tokens}

-- ---- kinds

abbrev pub kind_by : List ℕ → Option ReservedWord → TokenKind
kind_by x None = kind.Name x
kind_by x (Some w) = kind.Reserved w

abbrev pub find_mark : List Punctuator → List ℕ → Punctuator
find_mark [] x = mark.Semicolon
find_mark (m ∷ ms) x = if bytes_eq (mark_spelling m) x then m else find_mark ms x

-- the punctuator of a mark
unfoldable pub mark_named : List ℕ → Punctuator
mark_named [] = mark.Semicolon
mark_named (c ∷ cs) = find_mark (marks_of c) (c ∷ cs)

abbrev pub kind_of : Printed → TokenKind
kind_of (Word x) = kind_by x (reserved_word x)
kind_of (Mark x) = kind.Punctuator (mark_named x)
kind_of (Number n) = kind.Number n
kind_of (Quoted units) = kind.Text units

-- ---- places

-- the byte where a token ends that starts at a byte
abbrev pub end_at : ℕ → Printed → ℕ
end_at at p = at + length (spelled p)

-- the token at a byte
abbrev pub token : ℕ → Printed → Token
token at p = record { kind = kind_of p; start = at; end = end_at at p; break_before = false }

-- where the next token starts, behind one space
abbrev pub next : ℕ → Printed → ℕ
next at p = end_at at p + 1

-- the tokens from a byte on
abbrev pub placed : ℕ → Tokens → List Token
placed at [] = []
placed at (p ∷ ps) = token at p ∷ placed (next at p) ps

-- these tokens, and a part behind them from some byte on
pub record Reach (R : List Token → List Token → Type 0) (at : ℕ) (all rest : Tokens) : Type 0 where
  pub to : ℕ
  pub reads : R (placed at all) (placed to rest)

-- printed tokens read so before all others
abbrev pub Reader : (List Token → List Token → Type 0) → Tokens → Type 0
Reader R ps = (at : ℕ) (rest : Tokens) → Reach R at (ps ++ rest) rest

-- ---- marks and words

pub word_is : (w : ReservedWord) → kind_of (Word (spelling w)) ≡ kind.Reserved w
word_is w = ap (kind_by (spelling w)) (reserved_found w)

pub name_is : (x : List ℕ) → reserved_word x ≡ None → kind_of (Word x) ≡ kind.Name x
name_is x h = ap (kind_by x) h

pub open_is : kind_of (Mark (codes "(")) ≡ kind.Punctuator mark.OpenParenthesis
unfolding mark_named mark_spelling marks_of
open_is = refl

pub close_is : kind_of (Mark (codes ")")) ≡ kind.Punctuator mark.CloseParenthesis
unfolding mark_named mark_spelling marks_of
close_is = refl

pub bracket_is : kind_of (Mark (codes "[")) ≡ kind.Punctuator mark.OpenBracket
unfolding mark_named mark_spelling marks_of
bracket_is = refl

pub close_bracket_is : kind_of (Mark (codes "]")) ≡ kind.Punctuator mark.CloseBracket
unfolding mark_named mark_spelling marks_of
close_bracket_is = refl

pub brace_is : kind_of (Mark (codes "{")) ≡ kind.Punctuator mark.OpenBrace
unfolding mark_named mark_spelling marks_of
brace_is = refl

pub close_brace_is : kind_of (Mark (codes "}")) ≡ kind.Punctuator mark.CloseBrace
unfolding mark_named mark_spelling marks_of
close_brace_is = refl

pub comma_is : kind_of (Mark (codes ",")) ≡ kind.Punctuator mark.Comma
unfolding mark_named mark_spelling marks_of
comma_is = refl

pub semicolon_is : kind_of (Mark (codes ";")) ≡ kind.Punctuator mark.Semicolon
unfolding mark_named mark_spelling marks_of
semicolon_is = refl

pub dot_is : kind_of (Mark (codes ".")) ≡ kind.Punctuator mark.Dot
unfolding mark_named mark_spelling marks_of
dot_is = refl

pub colon_is : kind_of (Mark (codes ":")) ≡ kind.Punctuator mark.Colon
unfolding mark_named mark_spelling marks_of
colon_is = refl

pub question_is : kind_of (Mark (codes "?")) ≡ kind.Punctuator mark.Question
unfolding mark_named mark_spelling marks_of
question_is = refl

pub assign_is : kind_of (Mark (codes "=")) ≡ kind.Punctuator mark.Assign
unfolding mark_named mark_spelling marks_of
assign_is = refl

pub arrow_is : kind_of (Mark (codes "=>")) ≡ kind.Punctuator mark.Arrow
unfolding mark_named mark_spelling marks_of
arrow_is = refl

pub star_is : kind_of (Mark (codes "*")) ≡ kind.Punctuator mark.Star
unfolding mark_named mark_spelling marks_of
star_is = refl

pub viewof_is : kind_of (Word (codes "viewof")) ≡ kind.Reserved word.Viewof
unfolding spelling
viewof_is = word_is word.Viewof

pub new_is : kind_of (Word (codes "new")) ≡ kind.Reserved word.New
unfolding spelling
new_is = word_is word.New

pub function_is : kind_of (Word (codes "function")) ≡ kind.Reserved word.Function
unfolding spelling
function_is = word_is word.Function

pub let_is : kind_of (Word (codes "let")) ≡ kind.Reserved word.Let
unfolding spelling
let_is = word_is word.Let

pub const_is : kind_of (Word (codes "const")) ≡ kind.Reserved word.Const
unfolding spelling
const_is = word_is word.Const

pub yield_is : kind_of (Word (codes "yield")) ≡ kind.Reserved word.Yield
unfolding spelling
yield_is = word_is word.Yield

pub mutable_is : kind_of (Word (codes "mutable")) ≡ kind.Reserved word.Mutable
unfolding spelling
mutable_is = word_is word.Mutable

pub if_is : kind_of (Word (codes "if")) ≡ kind.Reserved word.If
unfolding spelling
if_is = word_is word.If

pub else_is : kind_of (Word (codes "else")) ≡ kind.Reserved word.Else
unfolding spelling
else_is = word_is word.Else

pub while_is : kind_of (Word (codes "while")) ≡ kind.Reserved word.While
unfolding spelling
while_is = word_is word.While

pub do_is : kind_of (Word (codes "do")) ≡ kind.Reserved word.Do
unfolding spelling
do_is = word_is word.Do

pub for_is : kind_of (Word (codes "for")) ≡ kind.Reserved word.For
unfolding spelling
for_is = word_is word.For

pub break_is : kind_of (Word (codes "break")) ≡ kind.Reserved word.Break
unfolding spelling
break_is = word_is word.Break

pub continue_is : kind_of (Word (codes "continue")) ≡ kind.Reserved word.Continue
unfolding spelling
continue_is = word_is word.Continue

pub return_is : kind_of (Word (codes "return")) ≡ kind.Reserved word.Return
unfolding spelling
return_is = word_is word.Return

pub throw_is : kind_of (Word (codes "throw")) ≡ kind.Reserved word.Throw
unfolding spelling
throw_is = word_is word.Throw

pub try_is : kind_of (Word (codes "try")) ≡ kind.Reserved word.Try
unfolding spelling
try_is = word_is word.Try

pub catch_is : kind_of (Word (codes "catch")) ≡ kind.Reserved word.Catch
unfolding spelling
catch_is = word_is word.Catch

pub import_is : kind_of (Word (codes "import")) ≡ kind.Reserved word.Import
unfolding spelling
import_is = word_is word.Import

pub with_is : kind_of (Word (codes "with")) ≡ kind.Reserved word.With
unfolding spelling
with_is = word_is word.With

pub true_is : kind_of (Word (codes "true")) ≡ kind.Reserved word.True
unfolding spelling
true_is = word_is word.True

pub false_is : kind_of (Word (codes "false")) ≡ kind.Reserved word.False
unfolding spelling
false_is = word_is word.False

pub null_is : kind_of (Word (codes "null")) ≡ kind.Reserved word.Null
unfolding spelling
null_is = word_is word.Null

pub undefined_is : kind_of (Word (codes "undefined")) ≡ kind.Reserved word.Undefined
unfolding spelling
undefined_is = word_is word.Undefined

pub typeof_is : kind_of (Word (codes "typeof")) ≡ kind.Reserved word.Typeof
unfolding spelling
typeof_is = word_is word.Typeof

pub void_is : kind_of (Word (codes "void")) ≡ kind.Reserved word.Void
unfolding spelling
void_is = word_is word.Void
