-- The marks of operators are read as these operators.
use Rattle.std.proofs.Common.{◌≡◌, ℕ, ◌+◌, false, List, Some, refl, ap}
use Rattle.std.specs.Prelude.{codes}
use Rattle.ob_base.specs.declared.operators.BinaryOp.TheVariants as binary
use Rattle.ob_base.specs.declared.operators.CompareOp.TheVariants as compare
use Rattle.ob_base.specs.declared.operators.UnaryOp.{UnaryOp}
use Rattle.ob_base.specs.declared.operators.UnaryOp.TheVariants as unary
use Rattle.ob_lex.specs.declared.punctuator.Punctuator.TheVariants as mark
use Rattle.ob_lex.specs.declared.token.TokenKind.TheVariants as kind
use Rattle.ob_lex.specs.Words.{mark_spelling, marks_of}
use Rattle.ob_base.specs.declared.operators.LogicOp.TheVariants as logic
use Rattle.ob_base.specs.declared.operators.AssignOp.{AssignOp}
use Rattle.ob_base.specs.declared.operators.AssignOp.TheVariants as assign
use Rattle.ob_base.specs.declared.operators.UpdateOp.{UpdateOp}
use Rattle.ob_base.specs.declared.operators.UpdateOp.TheVariants as count
use Rattle.ob_base.specs.declared.operators.ChangeOp.{ChangeOp}
use Rattle.ob_base.specs.declared.operators.ChangeOp.TheVariants as change
use Rattle.ob_tree.specs.Tokens.{Mark}
use Rattle.ob_tree.specs.Print.{assign_mark, update_mark, change_mark, unary_token}
use Rattle.ob_grammar.specs.declared.form.Infix.{Infix}
use Rattle.ob_grammar.specs.declared.form.Infix.TheVariants.{Computes, Compares, Chooses}
use Rattle.ob_grammar.specs.Marks.{mark_rank, rank_by, infix_of, unary_of, update_of, assign_of}
use Rattle.ob_print_law.proofs.Placed.{mark_named, kind_of, typeof_is, void_is}
use Rattle.ob_print_law.proofs.Valid.{Lexes}
use Rattle.ob_print_law.proofs.Rules.{climbed}

-- a mark that joins two operands at a level of the chain, counted from the tightest
pub record InfixAt (x : List ℕ) (op : Infix) : Type 0 where
  pub level : ℕ
  pub left : ℕ
  pub top : climbed left level ≡ 9
  pub rank_is : rank_by false (kind_of (Mark x)) ≡ level + 3
  pub op_is : infix_of (kind_of (Mark x)) ≡ Some op
  pub lexes : Lexes (Mark x)

pub mul_at : InfixAt (codes "*") (Computes binary.Mul)
unfolding mark_named mark_spelling marks_of rank_by mark_rank infix_of
mul_at = record { level = 0; left = 9; top = refl; rank_is = refl; op_is = refl; lexes = refl }

pub div_at : InfixAt (codes "/") (Computes binary.Div)
unfolding mark_named mark_spelling marks_of rank_by mark_rank infix_of
div_at = record { level = 0; left = 9; top = refl; rank_is = refl; op_is = refl; lexes = refl }

pub rem_at : InfixAt (codes "%") (Computes binary.Rem)
unfolding mark_named mark_spelling marks_of rank_by mark_rank infix_of
rem_at = record { level = 0; left = 9; top = refl; rank_is = refl; op_is = refl; lexes = refl }

pub add_at : InfixAt (codes "+") (Computes binary.Add)
unfolding mark_named mark_spelling marks_of rank_by mark_rank infix_of
add_at = record { level = 1; left = 8; top = refl; rank_is = refl; op_is = refl; lexes = refl }

pub sub_at : InfixAt (codes "-") (Computes binary.Sub)
unfolding mark_named mark_spelling marks_of rank_by mark_rank infix_of
sub_at = record { level = 1; left = 8; top = refl; rank_is = refl; op_is = refl; lexes = refl }

pub shl_at : InfixAt (codes "<<") (Computes binary.Shl)
unfolding mark_named mark_spelling marks_of rank_by mark_rank infix_of
shl_at = record { level = 2; left = 7; top = refl; rank_is = refl; op_is = refl; lexes = refl }

pub shr_at : InfixAt (codes ">>") (Computes binary.Shr)
unfolding mark_named mark_spelling marks_of rank_by mark_rank infix_of
shr_at = record { level = 2; left = 7; top = refl; rank_is = refl; op_is = refl; lexes = refl }

pub shr_unsigned_at : InfixAt (codes ">>>") (Computes binary.ShrUnsigned)
unfolding mark_named mark_spelling marks_of rank_by mark_rank infix_of
shr_unsigned_at = record { level = 2; left = 7; top = refl; rank_is = refl; op_is = refl; lexes = refl }

pub bit_and_at : InfixAt (codes "&") (Computes binary.BitAnd)
unfolding mark_named mark_spelling marks_of rank_by mark_rank infix_of
bit_and_at = record { level = 5; left = 4; top = refl; rank_is = refl; op_is = refl; lexes = refl }

pub bit_xor_at : InfixAt (codes "^") (Computes binary.BitXor)
unfolding mark_named mark_spelling marks_of rank_by mark_rank infix_of
bit_xor_at = record { level = 6; left = 3; top = refl; rank_is = refl; op_is = refl; lexes = refl }

pub bit_or_at : InfixAt (codes "|") (Computes binary.BitOr)
unfolding mark_named mark_spelling marks_of rank_by mark_rank infix_of
bit_or_at = record { level = 7; left = 2; top = refl; rank_is = refl; op_is = refl; lexes = refl }

pub less_at : InfixAt (codes "<") (Compares compare.Less)
unfolding mark_named mark_spelling marks_of rank_by mark_rank infix_of
less_at = record { level = 3; left = 6; top = refl; rank_is = refl; op_is = refl; lexes = refl }

pub greater_at : InfixAt (codes ">") (Compares compare.Greater)
unfolding mark_named mark_spelling marks_of rank_by mark_rank infix_of
greater_at = record { level = 3; left = 6; top = refl; rank_is = refl; op_is = refl; lexes = refl }

pub less_eq_at : InfixAt (codes "<=") (Compares compare.LessEq)
unfolding mark_named mark_spelling marks_of rank_by mark_rank infix_of
less_eq_at = record { level = 3; left = 6; top = refl; rank_is = refl; op_is = refl; lexes = refl }

pub greater_eq_at : InfixAt (codes ">=") (Compares compare.GreaterEq)
unfolding mark_named mark_spelling marks_of rank_by mark_rank infix_of
greater_eq_at = record { level = 3; left = 6; top = refl; rank_is = refl; op_is = refl; lexes = refl }

pub same_at : InfixAt (codes "===") (Compares compare.Same)
unfolding mark_named mark_spelling marks_of rank_by mark_rank infix_of
same_at = record { level = 4; left = 5; top = refl; rank_is = refl; op_is = refl; lexes = refl }

pub not_same_at : InfixAt (codes "!==") (Compares compare.NotSame)
unfolding mark_named mark_spelling marks_of rank_by mark_rank infix_of
not_same_at = record { level = 4; left = 5; top = refl; rank_is = refl; op_is = refl; lexes = refl }

pub and_at : InfixAt (codes "&&") (Chooses logic.And)
unfolding mark_named mark_spelling marks_of rank_by mark_rank infix_of
and_at = record { level = 8; left = 1; top = refl; rank_is = refl; op_is = refl; lexes = refl }

pub or_at : InfixAt (codes "||") (Chooses logic.Or)
unfolding mark_named mark_spelling marks_of rank_by mark_rank infix_of
or_at = record { level = 9; left = 0; top = refl; rank_is = refl; op_is = refl; lexes = refl }

-- `??`
pub nullish_rank : rank_by false (kind_of (Mark (codes "??"))) ≡ 13
unfolding mark_named mark_spelling marks_of rank_by mark_rank
nullish_rank = refl

pub nullish_op : infix_of (kind_of (Mark (codes "??"))) ≡ Some (Chooses logic.Nullish)
unfolding mark_named mark_spelling marks_of infix_of
nullish_op = refl

pub nullish_lexes : Lexes (Mark (codes "??"))
unfolding mark_named mark_spelling marks_of
nullish_lexes = refl

-- `**`
pub power_is : kind_of (Mark (codes "**")) ≡ kind.Punctuator mark.StarStar
unfolding mark_named mark_spelling marks_of
power_is = refl

pub power_lexes : Lexes (Mark (codes "**"))
unfolding mark_named mark_spelling marks_of
power_lexes = refl

pub open_lexes : Lexes (Mark (codes "("))
unfolding mark_named mark_spelling marks_of
open_lexes = refl

pub close_lexes : Lexes (Mark (codes ")"))
unfolding mark_named mark_spelling marks_of
close_lexes = refl

pub bracket_lexes : Lexes (Mark (codes "["))
unfolding mark_named mark_spelling marks_of
bracket_lexes = refl

pub close_bracket_lexes : Lexes (Mark (codes "]"))
unfolding mark_named mark_spelling marks_of
close_bracket_lexes = refl

pub brace_lexes : Lexes (Mark (codes "{"))
unfolding mark_named mark_spelling marks_of
brace_lexes = refl

pub close_brace_lexes : Lexes (Mark (codes "}"))
unfolding mark_named mark_spelling marks_of
close_brace_lexes = refl

pub comma_lexes : Lexes (Mark (codes ","))
unfolding mark_named mark_spelling marks_of
comma_lexes = refl

pub semicolon_lexes : Lexes (Mark (codes ";"))
unfolding mark_named mark_spelling marks_of
semicolon_lexes = refl

pub dot_lexes : Lexes (Mark (codes "."))
unfolding mark_named mark_spelling marks_of
dot_lexes = refl

pub colon_lexes : Lexes (Mark (codes ":"))
unfolding mark_named mark_spelling marks_of
colon_lexes = refl

pub question_lexes : Lexes (Mark (codes "?"))
unfolding mark_named mark_spelling marks_of
question_lexes = refl

pub equals_lexes : Lexes (Mark (codes "="))
unfolding mark_named mark_spelling marks_of
equals_lexes = refl

pub arrow_lexes : Lexes (Mark (codes "=>"))
unfolding mark_named mark_spelling marks_of
arrow_lexes = refl

pub star_lexes : Lexes (Mark (codes "*"))
unfolding mark_named mark_spelling marks_of
star_lexes = refl

pub not_lexes : Lexes (Mark (codes "!"))
unfolding mark_named mark_spelling marks_of
not_lexes = refl

pub minus_lexes : Lexes (Mark (codes "-"))
unfolding mark_named mark_spelling marks_of
minus_lexes = refl

pub plus_lexes : Lexes (Mark (codes "+"))
unfolding mark_named mark_spelling marks_of
plus_lexes = refl

pub tilde_lexes : Lexes (Mark (codes "~"))
unfolding mark_named mark_spelling marks_of
tilde_lexes = refl

pub assign_lexes : (op : AssignOp) → Lexes (Mark (assign_mark op))
unfolding mark_named mark_spelling marks_of
assign_lexes assign.Set = refl
assign_lexes (assign.Binary binary.Add) = refl
assign_lexes (assign.Binary binary.Sub) = refl
assign_lexes (assign.Binary binary.Mul) = refl
assign_lexes (assign.Binary binary.Div) = refl
assign_lexes (assign.Binary binary.Rem) = refl
assign_lexes (assign.Binary binary.Pow) = refl
assign_lexes (assign.Binary binary.BitAnd) = refl
assign_lexes (assign.Binary binary.BitOr) = refl
assign_lexes (assign.Binary binary.BitXor) = refl
assign_lexes (assign.Binary binary.Shl) = refl
assign_lexes (assign.Binary binary.Shr) = refl
assign_lexes (assign.Binary binary.ShrUnsigned) = refl
assign_lexes (assign.Logic logic.And) = refl
assign_lexes (assign.Logic logic.Or) = refl
assign_lexes (assign.Logic logic.Nullish) = refl

pub assign_op : (op : AssignOp) → assign_of (kind_of (Mark (assign_mark op))) ≡ Some op
unfolding mark_named mark_spelling marks_of assign_of
assign_op assign.Set = refl
assign_op (assign.Binary binary.Add) = refl
assign_op (assign.Binary binary.Sub) = refl
assign_op (assign.Binary binary.Mul) = refl
assign_op (assign.Binary binary.Div) = refl
assign_op (assign.Binary binary.Rem) = refl
assign_op (assign.Binary binary.Pow) = refl
assign_op (assign.Binary binary.BitAnd) = refl
assign_op (assign.Binary binary.BitOr) = refl
assign_op (assign.Binary binary.BitXor) = refl
assign_op (assign.Binary binary.Shl) = refl
assign_op (assign.Binary binary.Shr) = refl
assign_op (assign.Binary binary.ShrUnsigned) = refl
assign_op (assign.Logic logic.And) = refl
assign_op (assign.Logic logic.Or) = refl
assign_op (assign.Logic logic.Nullish) = refl

pub update_lexes : (op : UpdateOp) → Lexes (Mark (update_mark op))
unfolding mark_named mark_spelling marks_of
update_lexes count.Up = refl
update_lexes count.Down = refl

pub update_op : (op : UpdateOp) → update_of (kind_of (Mark (update_mark op))) ≡ Some op
unfolding mark_named mark_spelling marks_of update_of
update_op count.Up = refl
update_op count.Down = refl

pub change_lexes : (op : ChangeOp) → Lexes (Mark (change_mark op))
unfolding mark_named mark_spelling marks_of
change_lexes change.Set = refl
change_lexes change.Add = refl
change_lexes change.Sub = refl
change_lexes change.Mul = refl
change_lexes change.Up = refl
change_lexes change.Down = refl

pub unary_op : (op : UnaryOp) → unary_of (kind_of (unary_token op)) ≡ Some op
unfolding mark_named mark_spelling marks_of unary_of
unary_op unary.Not = refl
unary_op unary.Minus = refl
unary_op unary.Plus = refl
unary_op unary.BitNot = refl
unary_op unary.Typeof = ap unary_of typeof_is
unary_op unary.Void = ap unary_of void_is
