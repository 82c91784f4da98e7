-- What the grammar asks of a single token, and the tables of the operators.
use Rattle.std.specs.Prelude.{◌≡◌, ℕ, Bool, true, false, if◌then◌else◌, List, [], ◌∷◌, Option, Some, None}
use Rattle.std.specs.Fmt.{signed_decimal}
use Rattle.ob_base.specs.declared.operators.BinaryOp.TheVariants as binary
use Rattle.ob_base.specs.declared.operators.CompareOp.TheVariants as compare
use Rattle.ob_base.specs.declared.operators.UnaryOp.{UnaryOp}
use Rattle.ob_base.specs.declared.operators.UnaryOp.TheVariants as unary
use Rattle.ob_grammar.specs.declared.form.Infix.{Infix}
use Rattle.ob_grammar.specs.declared.form.Infix.TheVariants.{Computes, Compares, Chooses}
use Rattle.ob_lex.specs.declared.punctuator.Punctuator.{Punctuator}
use Rattle.ob_lex.specs.declared.punctuator.Punctuator.TheVariants as mark
use Rattle.ob_base.specs.declared.reserved.ReservedWord.{ReservedWord}
use Rattle.ob_base.specs.declared.reserved.ReservedWord.TheVariants as word
use Rattle.ob_lex.specs.declared.token.Token.{Token}
use Rattle.ob_lex.specs.declared.token.TokenKind.{TokenKind}
use Rattle.ob_lex.specs.declared.token.TokenKind.TheVariants as kind
use Rattle.ob_base.specs.Reserved.{spelling}
use Rattle.ob_base.specs.Utf16.{utf16}
use Rattle.ob_base.specs.declared.operators.LogicOp.TheVariants as logic
use Rattle.ob_base.specs.declared.operators.AssignOp.{AssignOp}
use Rattle.ob_base.specs.declared.operators.AssignOp.TheVariants as assign
use Rattle.ob_base.specs.declared.operators.UpdateOp.{UpdateOp}
use Rattle.ob_base.specs.declared.operators.UpdateOp.TheVariants as count
use Rattle.ob_base.specs.declared.operators.ChangeOp.{ChangeOp}
use Rattle.ob_base.specs.declared.operators.ChangeOp.TheVariants as change
use Rattle.ob_tree_types.specs.declared.tree.Expr.{Expr}
use Rattle.ob_tree_types.specs.declared.tree.Expr.TheVariants as node

-- the token is this punctuator, this reserved word, this name
abbrev pub IsMark : Punctuator → Token → Type 0
IsMark m t = t.kind ≡ kind.Punctuator m

abbrev pub IsWord : ReservedWord → Token → Type 0
IsWord w t = t.kind ≡ kind.Reserved w

abbrev pub IsName : List ℕ → Token → Type 0
IsName x t = t.kind ≡ kind.Name x

-- no line break stands before the token
abbrev pub SameLine : Token → Type 0
SameLine t = t.break_before ≡ false

-- something stands there, with no line break before it
abbrev pub StartsOnLine : List Token → Type 0
StartsOnLine [] = ⊥
StartsOnLine (t ∷ ts) = SameLine t

-- what stands there does not begin with this punctuator, with this reserved word
abbrev pub NotMark : Punctuator → List Token → Type 0
NotMark m [] = Unit {0}
NotMark m (t ∷ ts) = ¬ (IsMark m t)

abbrev pub NotWord : ReservedWord → List Token → Type 0
NotWord w [] = Unit {0}
NotWord w (t ∷ ts) = ¬ (IsWord w t)

-- ---- words, keys, literals

-- the bytes of a name or reserved word
unfoldable pub word_of : TokenKind → Option (List ℕ)
word_of (kind.Name x) = Some x
word_of (kind.Reserved w) = Some (spelling w)
word_of _ = None

-- the key that a token is in an object literal: that of a number is its decimal text (ECMA-262, "Object Initializer", PropertyName)
unfoldable pub key_of : TokenKind → Option (List ℕ)
key_of (kind.Name x) = Some (utf16 x)
key_of (kind.Reserved w) = Some (spelling w)
key_of (kind.Number n) = Some (signed_decimal n)
key_of (kind.Text units) = Some units
key_of (kind.Punctuator m) = None

-- ECMA-262, "Primary Expression" (Literal); `undefined` is a reserved word here
unfoldable pub literal_of : TokenKind → Option Expr
literal_of (kind.Number n) = Some (node.Int n)
literal_of (kind.Text units) = Some (node.Text units)
literal_of (kind.Reserved word.True) = Some (node.Bool true)
literal_of (kind.Reserved word.False) = Some (node.Bool false)
literal_of (kind.Reserved word.Null) = Some node.Null
literal_of (kind.Reserved word.Undefined) = Some node.Undefined
literal_of _ = None

-- ---- operators

-- How loosely a token ties what follows it to what stands before it; 19 where it ties nothing. `++`, `--` and `=>` tie nothing after a line
-- break (ECMA-262, "Update Expressions" and "Arrow Function Definitions").
unfoldable pub mark_rank : Bool → Punctuator → ℕ
mark_rank breaks mark.Dot = 0
mark_rank breaks mark.OpenParenthesis = 0
mark_rank breaks mark.OpenBracket = 0
mark_rank breaks mark.PlusPlus = if breaks then 19 else 1
mark_rank breaks mark.MinusMinus = if breaks then 19 else 1
mark_rank breaks mark.StarStar = 2
mark_rank breaks mark.Star = 3
mark_rank breaks mark.Slash = 3
mark_rank breaks mark.Percent = 3
mark_rank breaks mark.Plus = 4
mark_rank breaks mark.Minus = 4
mark_rank breaks mark.ShiftLeft = 5
mark_rank breaks mark.ShiftRight = 5
mark_rank breaks mark.ShiftRightUnsigned = 5
mark_rank breaks mark.Less = 6
mark_rank breaks mark.Greater = 6
mark_rank breaks mark.LessEqual = 6
mark_rank breaks mark.GreaterEqual = 6
mark_rank breaks mark.Same = 7
mark_rank breaks mark.NotSame = 7
mark_rank breaks mark.Ampersand = 8
mark_rank breaks mark.Caret = 9
mark_rank breaks mark.Bar = 10
mark_rank breaks mark.And = 11
mark_rank breaks mark.Or = 12
mark_rank breaks mark.Coalesce = 13
mark_rank breaks mark.Question = 14
mark_rank breaks mark.Assign = 15
mark_rank breaks mark.PlusAssign = 15
mark_rank breaks mark.MinusAssign = 15
mark_rank breaks mark.StarAssign = 15
mark_rank breaks mark.SlashAssign = 15
mark_rank breaks mark.PercentAssign = 15
mark_rank breaks mark.StarStarAssign = 15
mark_rank breaks mark.ShiftLeftAssign = 15
mark_rank breaks mark.ShiftRightAssign = 15
mark_rank breaks mark.ShiftRightUnsignedAssign = 15
mark_rank breaks mark.AmpersandAssign = 15
mark_rank breaks mark.BarAssign = 15
mark_rank breaks mark.CaretAssign = 15
mark_rank breaks mark.AndAssign = 15
mark_rank breaks mark.OrAssign = 15
mark_rank breaks mark.CoalesceAssign = 15
mark_rank breaks mark.Arrow = if breaks then 19 else 16
mark_rank breaks mark.Comma = 17
mark_rank breaks mark.Semicolon = 18
mark_rank breaks _ = 19

unfoldable pub rank_by : Bool → TokenKind → ℕ
rank_by breaks (kind.Punctuator m) = mark_rank breaks m
rank_by breaks _ = 19

abbrev pub rank : Token → ℕ
rank t = rank_by t.break_before t.kind

-- two operands joined by an operator
abbrev pub joined : Infix → Expr → Expr → Expr
joined (Computes op) a b = node.Binary op a b
joined (Compares op) a b = node.Compare op a b
joined (Chooses op) a b = node.Logic op a b

-- ECMA-262, "Multiplicative Operators" to "Binary Logical Operators"
unfoldable pub infix_of : TokenKind → Option Infix
infix_of (kind.Punctuator mark.Star) = Some (Computes binary.Mul)
infix_of (kind.Punctuator mark.Slash) = Some (Computes binary.Div)
infix_of (kind.Punctuator mark.Percent) = Some (Computes binary.Rem)
infix_of (kind.Punctuator mark.Plus) = Some (Computes binary.Add)
infix_of (kind.Punctuator mark.Minus) = Some (Computes binary.Sub)
infix_of (kind.Punctuator mark.ShiftLeft) = Some (Computes binary.Shl)
infix_of (kind.Punctuator mark.ShiftRight) = Some (Computes binary.Shr)
infix_of (kind.Punctuator mark.ShiftRightUnsigned) = Some (Computes binary.ShrUnsigned)
infix_of (kind.Punctuator mark.Less) = Some (Compares compare.Less)
infix_of (kind.Punctuator mark.Greater) = Some (Compares compare.Greater)
infix_of (kind.Punctuator mark.LessEqual) = Some (Compares compare.LessEq)
infix_of (kind.Punctuator mark.GreaterEqual) = Some (Compares compare.GreaterEq)
infix_of (kind.Punctuator mark.Same) = Some (Compares compare.Same)
infix_of (kind.Punctuator mark.NotSame) = Some (Compares compare.NotSame)
infix_of (kind.Punctuator mark.Ampersand) = Some (Computes binary.BitAnd)
infix_of (kind.Punctuator mark.Caret) = Some (Computes binary.BitXor)
infix_of (kind.Punctuator mark.Bar) = Some (Computes binary.BitOr)
infix_of (kind.Punctuator mark.And) = Some (Chooses logic.And)
infix_of (kind.Punctuator mark.Or) = Some (Chooses logic.Or)
infix_of (kind.Punctuator mark.Coalesce) = Some (Chooses logic.Nullish)
infix_of _ = None

-- ECMA-262, "Unary Operators"
unfoldable pub unary_of : TokenKind → Option UnaryOp
unary_of (kind.Punctuator mark.Not) = Some unary.Not
unary_of (kind.Punctuator mark.Minus) = Some unary.Minus
unary_of (kind.Punctuator mark.Plus) = Some unary.Plus
unary_of (kind.Punctuator mark.Tilde) = Some unary.BitNot
unary_of (kind.Reserved word.Typeof) = Some unary.Typeof
unary_of (kind.Reserved word.Void) = Some unary.Void
unary_of _ = None

-- ECMA-262, "Update Expressions"
unfoldable pub update_of : TokenKind → Option UpdateOp
update_of (kind.Punctuator mark.PlusPlus) = Some count.Up
update_of (kind.Punctuator mark.MinusMinus) = Some count.Down
update_of _ = None

-- ECMA-262, "Assignment Operators"
unfoldable pub assign_of : TokenKind → Option AssignOp
assign_of (kind.Punctuator mark.Assign) = Some assign.Set
assign_of (kind.Punctuator mark.PlusAssign) = Some (assign.Binary binary.Add)
assign_of (kind.Punctuator mark.MinusAssign) = Some (assign.Binary binary.Sub)
assign_of (kind.Punctuator mark.StarAssign) = Some (assign.Binary binary.Mul)
assign_of (kind.Punctuator mark.SlashAssign) = Some (assign.Binary binary.Div)
assign_of (kind.Punctuator mark.PercentAssign) = Some (assign.Binary binary.Rem)
assign_of (kind.Punctuator mark.StarStarAssign) = Some (assign.Binary binary.Pow)
assign_of (kind.Punctuator mark.ShiftLeftAssign) = Some (assign.Binary binary.Shl)
assign_of (kind.Punctuator mark.ShiftRightAssign) = Some (assign.Binary binary.Shr)
assign_of (kind.Punctuator mark.ShiftRightUnsignedAssign) = Some (assign.Binary binary.ShrUnsigned)
assign_of (kind.Punctuator mark.AmpersandAssign) = Some (assign.Binary binary.BitAnd)
assign_of (kind.Punctuator mark.BarAssign) = Some (assign.Binary binary.BitOr)
assign_of (kind.Punctuator mark.CaretAssign) = Some (assign.Binary binary.BitXor)
assign_of (kind.Punctuator mark.AndAssign) = Some (assign.Logic logic.And)
assign_of (kind.Punctuator mark.OrAssign) = Some (assign.Logic logic.Or)
assign_of (kind.Punctuator mark.CoalesceAssign) = Some (assign.Logic logic.Nullish)
assign_of _ = None

-- what follows `mutable` and a name: with a value, and without (this project)
unfoldable pub change_of : TokenKind → Option ChangeOp
change_of (kind.Punctuator mark.Assign) = Some change.Set
change_of (kind.Punctuator mark.PlusAssign) = Some change.Add
change_of (kind.Punctuator mark.MinusAssign) = Some change.Sub
change_of (kind.Punctuator mark.StarAssign) = Some change.Mul
change_of _ = None

unfoldable pub step_of : TokenKind → Option ChangeOp
step_of (kind.Punctuator mark.PlusPlus) = Some change.Up
step_of (kind.Punctuator mark.MinusMinus) = Some change.Down
step_of _ = None

-- `const` (true) or `let` (ECMA-262, "Let and Const Declarations")
unfoldable pub declares_constant : TokenKind → Option Bool
declares_constant (kind.Reserved word.Const) = Some true
declares_constant (kind.Reserved word.Let) = Some false
declares_constant _ = None
