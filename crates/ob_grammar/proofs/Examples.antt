-- What some texts read as, by computing the descent.
use Rattle.std.proofs.Common.{◌≡◌, ℕ, pos, true, false, List, [], ◌∷◌, Option, Some, None, refl, rules}
use Rattle.std.specs.Prelude.{codes}
use Rattle.ob_base.specs.declared.operators.BinaryOp.TheVariants as binary
use Rattle.ob_lex.specs.declared.punctuator.Punctuator.{Punctuator}
use Rattle.ob_lex.specs.declared.punctuator.Punctuator.TheVariants as mark
use Rattle.ob_base.specs.declared.reserved.ReservedWord.{ReservedWord}
use Rattle.ob_base.specs.declared.reserved.ReservedWord.TheVariants as word
use Rattle.ob_lex.specs.declared.token.Token.{Token}
use Rattle.ob_lex.specs.declared.token.TokenKind.{TokenKind}
use Rattle.ob_lex.specs.declared.token.TokenKind.TheVariants as kind
use Rattle.ob_tree_types.specs.declared.tree.Expr.TheVariants as node
use Rattle.ob_tree_types.specs.declared.tree.FnBody.TheVariants as body
use Rattle.ob_tree_types.specs.declared.tree.Stmt.TheVariants as stmt
use Rattle.ob_tree_types.specs.declared.cell.CellTree.{CellTree}
use Rattle.ob_tree_types.specs.declared.cell.CellTree.TheVariants as cell
use Rattle.ob_base.specs.declared.operators.CompareOp.TheVariants as compare
use Rattle.ob_base.specs.declared.operators.LogicOp.TheVariants as logic
use Rattle.ob_base.specs.declared.operators.AssignOp.TheVariants as assign
use Rattle.ob_base.specs.declared.operators.UpdateOp.TheVariants as count
use Rattle.ob_base.specs.declared.operators.ChangeOp.TheVariants as change
use Rattle.ob_tree_types.specs.declared.tree.PropNode.TheVariants as prop
use Rattle.ob_tree_types.specs.declared.tree.DeclValue.TheVariants as value
use Rattle.ob_tree_types.specs.declared.tree.ForHead.TheVariants as head
use Rattle.ob_tree_types.specs.declared.cell.SpecForm.TheVariants as form
use Rattle.ob_base.specs.Reserved.{spelling}
use Rattle.std.specs.Fmt.{digits}
use Rattle.ob_tree_types.specs.declared.tree.Expr.{out-Expr, the_lemmas}
use Rattle.ob_grammar.specs.Grammar.{arrow_function}
use Rattle.ob_grammar.specs.Cells.{of_block, of_value}
use Rattle.ob_base.specs.Utf16.{utf16}
use Rattle.ob_grammar.specs.Marks.{word_of, key_of, literal_of, mark_rank, rank_by, infix_of, unary_of, update_of, assign_of, change_of, step_of, declares_constant}
use Rattle.ob_grammar.specs.Forms.{ends_value}
use Rattle.ob_grammar.specs.Yields.{yields_in, yields}
use Rattle.ob_grammar.specs.Early.{is_free_of_errors}
use Rattle.ob_grammar.specs.Limits.{open_after, most_open}
use Rattle.ob_grammar.specs.Taking.{opens_parenthesis, closes_parenthesis, opens_bracket, closes_bracket, opens_brace, closes_brace, is_comma, is_semicolon, is_colon, is_question, is_star, is_star_star, is_assign, is_arrow, is_else, is_while, is_catch, is_yield, is_function, is_with, name_of, text_of, is_of, is_as, is_from, take, next_is, one, starts_on_line, no_value, is_quiet, end_of, parameters, arrow_sign, arrow_head, signature_of, names, names_after}
use Rattle.ob_grammar.specs.Reading.{kept, list_from, list_of, prop_of, props_from, items_from, block_of, function_rest, primary_by, primary_of, step_by, steps_from, left_of, count_behind, updated_of, prefixed_of, raise, power_of, operands_from, operands_of, chain_of, short_of, conditional_of, assigned_of, arrow_body, whole_of, held_of, decl_of, decls_from, decls_of, assigned_yield, changed_of, test_of, if_of, while_of, do_of, optional, head_by, head_of, of_head, for_of, catch_of, try_of, statement_by, statement_of, item_by, item_of, reads, reads_statement}
use Rattle.ob_grammar.specs.ReadingCells.{form_of, spec_of, specs_from, specs_of, import_of, body_of, bare_of, cell_head, cell_by, cell_of, parsed}

-- a token on the same line, and one after a line break
abbrev same : TokenKind → Token
same k = record { kind = k; start = 0; end = 0; break_before = false }

abbrev after_break : TokenKind → Token
after_break k = record { kind = k; start = 0; end = 0; break_before = true }

abbrev m : Punctuator → Token
m p = same (kind.Punctuator p)

abbrev w : ReservedWord → Token
w p = same (kind.Reserved p)

abbrev name : List ℕ → Token
name x = same (kind.Name x)

abbrev int : ℕ → Token
int n = same (kind.Number (pos n))

-- what tokens read as, with trees of loops at most so deep, and pieces nested at most 20 deep; and whether the cell that they derive has early errors
reads_within : ℕ → List Token → Option CellTree
unfolding denote.Hole.Carrier.out out-Expr kept digits spelling word_of utf16 key_of literal_of mark_rank rank_by infix_of unary_of update_of assign_of change_of step_of declares_constant ends_value yields_in yields is_free_of_errors open_after most_open opens_parenthesis closes_parenthesis opens_bracket closes_bracket opens_brace closes_brace is_comma is_semicolon is_colon is_question is_star is_star_star is_assign is_arrow is_else is_while is_catch is_yield is_function is_with name_of text_of is_of is_as is_from take next_is one starts_on_line no_value is_quiet end_of parameters arrow_sign arrow_head signature_of names names_after list_from list_of prop_of props_from items_from block_of function_rest primary_by primary_of step_by steps_from left_of count_behind updated_of prefixed_of raise power_of operands_from operands_of chain_of short_of conditional_of assigned_of arrow_body whole_of held_of decl_of decls_from decls_of assigned_yield changed_of test_of if_of while_of do_of optional head_by head_of of_head for_of catch_of try_of statement_by statement_of item_by item_of reads reads_statement form_of spec_of specs_from specs_of import_of body_of bare_of cell_head cell_by cell_of parsed
reads_within limit ts = cell_of limit 20 ts

abbrev reads_as : List Token → Option CellTree
reads_as ts = reads_within 200 ts

-- x = 1 - 2 - 3
grouped_to_the_left : reads_as (name (codes "x") ∷ m mark.Assign ∷ int 1 ∷ m mark.Minus ∷ int 2 ∷ m mark.Minus ∷ int 3 ∷ [])
    ≡ Some (cell.Named (codes "x") (of_value (node.Binary binary.Sub (node.Binary binary.Sub (node.Int (pos 1)) (node.Int (pos 2))) (node.Int (pos 3)))))
unfolding reads_within
grouped_to_the_left = search (rules, the_lemmas)

-- x = 2 ** 3 ** 2
power_groups_to_the_right : reads_as (name (codes "x") ∷ m mark.Assign ∷ int 2 ∷ m mark.StarStar ∷ int 3 ∷ m mark.StarStar ∷ int 2 ∷ [])
    ≡ Some (cell.Named (codes "x") (of_value (node.Binary binary.Pow (node.Int (pos 2)) (node.Binary binary.Pow (node.Int (pos 3)) (node.Int (pos 2))))))
unfolding reads_within
power_groups_to_the_right = refl

-- -a ** b
no_sign_before_a_power : reads_as (m mark.Minus ∷ name (codes "a") ∷ m mark.StarStar ∷ name (codes "b") ∷ [])
    ≡ None
unfolding reads_within
no_sign_before_a_power = refl

-- a ?? b || c
no_or_behind_coalesce : reads_as (name (codes "a") ∷ m mark.Coalesce ∷ name (codes "b") ∷ m mark.Or ∷ name (codes "c") ∷ [])
    ≡ None
unfolding reads_within
no_or_behind_coalesce = search (rules, the_lemmas)

-- a || b ?? c
no_coalesce_behind_or : reads_as (name (codes "a") ∷ m mark.Or ∷ name (codes "b") ∷ m mark.Coalesce ∷ name (codes "c") ∷ [])
    ≡ None
unfolding reads_within
no_coalesce_behind_or = search (rules, the_lemmas)

-- a ?? b ?? c
coalesce : reads_as (name (codes "a") ∷ m mark.Coalesce ∷ name (codes "b") ∷ m mark.Coalesce ∷ name (codes "c") ∷ [])
    ≡ Some (cell.Bare (of_value (node.Logic logic.Nullish (node.Logic logic.Nullish (node.Name (codes "a")) (node.Name (codes "b"))) (node.Name (codes "c")))))
unfolding reads_within
coalesce = search (rules, the_lemmas)

-- a || b && c
and_binds_tighter : reads_as (name (codes "a") ∷ m mark.Or ∷ name (codes "b") ∷ m mark.And ∷ name (codes "c") ∷ [])
    ≡ Some (cell.Bare (of_value (node.Logic logic.Or (node.Name (codes "a")) (node.Logic logic.And (node.Name (codes "b")) (node.Name (codes "c"))))))
unfolding reads_within
and_binds_tighter = search (rules, the_lemmas)

-- a < b === c
compares : reads_as (name (codes "a") ∷ m mark.Less ∷ name (codes "b") ∷ m mark.Same ∷ name (codes "c") ∷ [])
    ≡ Some (cell.Bare (of_value (node.Compare compare.Same (node.Compare compare.Less (node.Name (codes "a")) (node.Name (codes "b"))) (node.Name (codes "c")))))
unfolding reads_within
compares = search (rules, the_lemmas)

-- a => {}
arrow_block : reads_as (name (codes "a") ∷ m mark.Arrow ∷ m mark.OpenBrace ∷ m mark.CloseBrace ∷ [])
    ≡ Some (cell.Bare (of_value (node.Arrow (arrow_function (codes "a" ∷ []) (body.Items [])))))
unfolding reads_within
arrow_block = refl

-- (a, b,) => a
arrow_list : reads_as (m mark.OpenParenthesis ∷ name (codes "a") ∷ m mark.Comma ∷ name (codes "b") ∷ m mark.Comma ∷ m mark.CloseParenthesis ∷ m mark.Arrow ∷ name (codes "a") ∷ [])
    ≡ Some (cell.Bare (of_value (node.Arrow (arrow_function (codes "a" ∷ codes "b" ∷ []) (body.Value (node.Name (codes "a")))))))
unfolding reads_within
arrow_list = refl

-- a (line break) => 1
arrow_after_break : reads_as (name (codes "a") ∷ after_break (kind.Punctuator mark.Arrow) ∷ int 1 ∷ [])
    ≡ None
unfolding reads_within
arrow_after_break = refl

-- (a, b)
no_comma_operator : reads_as (m mark.OpenParenthesis ∷ name (codes "a") ∷ m mark.Comma ∷ name (codes "b") ∷ m mark.CloseParenthesis ∷ [])
    ≡ None
unfolding reads_within
no_comma_operator = refl

-- { do ; while (0) x }
do_semi : reads_as (m mark.OpenBrace ∷ w word.Do ∷ m mark.Semicolon ∷ w word.While ∷ m mark.OpenParenthesis ∷ int 0 ∷ m mark.CloseParenthesis ∷ name (codes "x") ∷ m mark.CloseBrace ∷ [])
    ≡ Some (cell.Bare (of_block (stmt.DoWhile stmt.Empty (node.Int (pos 0)) ∷ stmt.Expr (node.Name (codes "x")) ∷ [])))
unfolding reads_within
do_semi = refl

-- { do ; while (0); x }
do_semi_taken : reads_as (m mark.OpenBrace ∷ w word.Do ∷ m mark.Semicolon ∷ w word.While ∷ m mark.OpenParenthesis ∷ int 0 ∷ m mark.CloseParenthesis ∷ m mark.Semicolon ∷ name (codes "x") ∷ m mark.CloseBrace ∷ [])
    ≡ Some (cell.Bare (of_block (stmt.DoWhile stmt.Empty (node.Int (pos 0)) ∷ stmt.Expr (node.Name (codes "x")) ∷ [])))
unfolding reads_within
do_semi_taken = refl

-- { let a = 1 (line break) let b }
two_lets : reads_as (m mark.OpenBrace ∷ w word.Let ∷ name (codes "a") ∷ m mark.Assign ∷ int 1 ∷ after_break (kind.Reserved word.Let) ∷ name (codes "b") ∷ m mark.CloseBrace ∷ [])
    ≡ Some (cell.Bare (of_block (stmt.Let (record { name = codes "a"; value = value.Value (node.Int (pos 1)) } ∷ []) ∷ stmt.Let (record { name = codes "b"; value = value.Nothing } ∷ []) ∷ [])))
unfolding reads_within
two_lets = refl

-- { let a = 1 let b = 2 }
two_lets_one_line : reads_as (m mark.OpenBrace ∷ w word.Let ∷ name (codes "a") ∷ m mark.Assign ∷ int 1 ∷ w word.Let ∷ name (codes "b") ∷ m mark.Assign ∷ int 2 ∷ m mark.CloseBrace ∷ [])
    ≡ None
unfolding reads_within
two_lets_one_line = refl

-- { return (line break) 1 }
return_break : reads_as (m mark.OpenBrace ∷ w word.Return ∷ after_break (kind.Number (pos 1)) ∷ m mark.CloseBrace ∷ [])
    ≡ Some (cell.Bare (of_block (stmt.Return None ∷ (stmt.Expr (node.Int (pos 1))) ∷ [])))
unfolding reads_within
return_break = refl

-- { throw (line break) 1 }
throw_break : reads_as (m mark.OpenBrace ∷ w word.Throw ∷ after_break (kind.Number (pos 1)) ∷ m mark.CloseBrace ∷ [])
    ≡ None
unfolding reads_within
throw_break = refl

-- { a (line break) ++b }
count_after_break : reads_as (m mark.OpenBrace ∷ name (codes "a") ∷ after_break (kind.Punctuator mark.PlusPlus) ∷ name (codes "b") ∷ m mark.CloseBrace ∷ [])
    ≡ Some (cell.Bare (of_block ((stmt.Expr (node.Name (codes "a"))) ∷ (stmt.Expr (node.Update count.Up true (node.Name (codes "b")))) ∷ [])))
unfolding reads_within
count_after_break = refl

-- { a++ (line break) (b) }
call_after_count : reads_as (m mark.OpenBrace ∷ name (codes "a") ∷ m mark.PlusPlus ∷ after_break (kind.Punctuator mark.OpenParenthesis) ∷ name (codes "b") ∷ m mark.CloseParenthesis ∷ m mark.CloseBrace ∷ [])
    ≡ Some (cell.Bare (of_block ((stmt.Expr (node.Update count.Up false (node.Name (codes "a")))) ∷ (stmt.Expr (node.Name (codes "b"))) ∷ [])))
unfolding reads_within
call_after_count = refl

-- { a (line break) (b) }
call_after_break : reads_as (m mark.OpenBrace ∷ name (codes "a") ∷ after_break (kind.Punctuator mark.OpenParenthesis) ∷ name (codes "b") ∷ m mark.CloseParenthesis ∷ m mark.CloseBrace ∷ [])
    ≡ Some (cell.Bare (of_block ((stmt.Expr (node.Call (node.Name (codes "a")) ((node.Name (codes "b")) ∷ []))) ∷ [])))
unfolding reads_within
call_after_break = search (rules, the_lemmas)

-- { a = () => {} (line break) (b) }
call_after_arrow : reads_as (m mark.OpenBrace ∷ name (codes "a") ∷ m mark.Assign ∷ m mark.OpenParenthesis ∷ m mark.CloseParenthesis ∷ m mark.Arrow ∷ m mark.OpenBrace ∷ m mark.CloseBrace ∷ after_break (kind.Punctuator mark.OpenParenthesis) ∷ name (codes "b") ∷ m mark.CloseParenthesis ∷ m mark.CloseBrace ∷ [])
    ≡ Some (cell.Bare (of_block ((stmt.Expr (node.Assign assign.Set (node.Name (codes "a")) (node.Arrow (arrow_function [] (body.Items []))))) ∷ (stmt.Expr (node.Name (codes "b"))) ∷ [])))
unfolding reads_within
call_after_arrow = refl

-- { if (a) if (b) ; else ; }
else_nearest : reads_as (m mark.OpenBrace ∷ w word.If ∷ m mark.OpenParenthesis ∷ name (codes "a") ∷ m mark.CloseParenthesis ∷ w word.If ∷ m mark.OpenParenthesis ∷ name (codes "b") ∷ m mark.CloseParenthesis ∷ m mark.Semicolon ∷ w word.Else ∷ m mark.Semicolon ∷ m mark.CloseBrace ∷ [])
    ≡ Some (cell.Bare (of_block (stmt.If (node.Name (codes "a")) (stmt.If (node.Name (codes "b")) stmt.Empty (Some stmt.Empty)) None ∷ [])))
unfolding reads_within
else_nearest = refl

-- { for (;;) ; }
for_nothing : reads_as (m mark.OpenBrace ∷ w word.For ∷ m mark.OpenParenthesis ∷ m mark.Semicolon ∷ m mark.Semicolon ∷ m mark.CloseParenthesis ∷ m mark.Semicolon ∷ m mark.CloseBrace ∷ [])
    ≡ Some (cell.Bare (of_block (stmt.For head.Nothing None None stmt.Empty ∷ [])))
unfolding reads_within
for_nothing = refl

-- { for (const y of z) ; }
for_of_const : reads_as (m mark.OpenBrace ∷ w word.For ∷ m mark.OpenParenthesis ∷ w word.Const ∷ name (codes "y") ∷ name (codes "of") ∷ name (codes "z") ∷ m mark.CloseParenthesis ∷ m mark.Semicolon ∷ m mark.CloseBrace ∷ [])
    ≡ Some (cell.Bare (of_block (stmt.ForOf true (codes "y") (node.Name (codes "z")) stmt.Empty ∷ [])))
unfolding reads_within
for_of_const = refl

-- { for (let i = 0; i < n; i++) ; }
for_let : reads_as (m mark.OpenBrace ∷ w word.For ∷ m mark.OpenParenthesis ∷ w word.Let ∷ name (codes "i") ∷ m mark.Assign ∷ int 0 ∷ m mark.Semicolon ∷ name (codes "i") ∷ m mark.Less ∷ name (codes "n") ∷ m mark.Semicolon ∷ name (codes "i") ∷ m mark.PlusPlus ∷ m mark.CloseParenthesis ∷ m mark.Semicolon ∷ m mark.CloseBrace ∷ [])
    ≡ Some (cell.Bare (of_block (stmt.For (head.Let (record { name = codes "i"; value = value.Value (node.Int (pos 0)) } ∷ [])) (Some (node.Compare compare.Less (node.Name (codes "i")) (node.Name (codes "n")))) (Some (node.Update count.Up false (node.Name (codes "i")))) stmt.Empty ∷ [])))
unfolding reads_within
for_let = search (rules, the_lemmas)

-- { for (let i = 0 (line break)  i < n; i++) ; }
for_head_no_insert : reads_as (m mark.OpenBrace ∷ w word.For ∷ m mark.OpenParenthesis ∷ w word.Let ∷ name (codes "i") ∷ m mark.Assign ∷ int 0 ∷ after_break (kind.Name (codes "i")) ∷ m mark.Less ∷ name (codes "n") ∷ m mark.Semicolon ∷ name (codes "i") ∷ m mark.PlusPlus ∷ m mark.CloseParenthesis ∷ m mark.Semicolon ∷ m mark.CloseBrace ∷ [])
    ≡ None
unfolding reads_within
for_head_no_insert = refl

-- { x = yield (line break) 1 }
yield_assigned : reads_as (m mark.OpenBrace ∷ name (codes "x") ∷ m mark.Assign ∷ w word.Yield ∷ after_break (kind.Number (pos 1)) ∷ m mark.CloseBrace ∷ [])
    ≡ Some (cell.Bare (of_block (stmt.Yield (Some (codes "x")) None ∷ (stmt.Expr (node.Int (pos 1))) ∷ [])))
unfolding reads_within
yield_assigned = refl

-- { let x = yield 1, y = 2 }
yield_decl : reads_as (m mark.OpenBrace ∷ w word.Let ∷ name (codes "x") ∷ m mark.Assign ∷ w word.Yield ∷ int 1 ∷ m mark.Comma ∷ name (codes "y") ∷ m mark.Assign ∷ int 2 ∷ m mark.CloseBrace ∷ [])
    ≡ Some (cell.Bare (of_block (stmt.Let (record { name = codes "x"; value = value.Yield (Some (node.Int (pos 1))) } ∷ record { name = codes "y"; value = value.Value (node.Int (pos 2)) } ∷ []) ∷ [])))
unfolding reads_within
yield_decl = refl

-- function f() {};
function_cell : reads_as (w word.Function ∷ name (codes "f") ∷ m mark.OpenParenthesis ∷ m mark.CloseParenthesis ∷ m mark.OpenBrace ∷ m mark.CloseBrace ∷ m mark.Semicolon ∷ [])
    ≡ Some (cell.Function (record { name = Some (codes "f"); params = []; generator = false; body = body.Items [] }))
unfolding reads_within
function_cell = refl

-- (function f() {})
function_in_parens : reads_as (m mark.OpenParenthesis ∷ w word.Function ∷ name (codes "f") ∷ m mark.OpenParenthesis ∷ m mark.CloseParenthesis ∷ m mark.OpenBrace ∷ m mark.CloseBrace ∷ m mark.CloseParenthesis ∷ [])
    ≡ Some (cell.Bare (of_value (node.Function (record { name = Some (codes "f"); params = []; generator = false; body = body.Items [] }))))
unfolding reads_within
function_in_parens = refl

-- function f() {}.x
function_member : reads_as (w word.Function ∷ name (codes "f") ∷ m mark.OpenParenthesis ∷ m mark.CloseParenthesis ∷ m mark.OpenBrace ∷ m mark.CloseBrace ∷ m mark.Dot ∷ name (codes "x") ∷ [])
    ≡ Some (cell.Bare (of_value (node.Member (node.Function (record { name = Some (codes "f"); params = []; generator = false; body = body.Items [] })) (codes "x"))))
unfolding reads_within
function_member = search (rules, the_lemmas)

-- function* () {}
function_nameless : reads_as (w word.Function ∷ m mark.Star ∷ m mark.OpenParenthesis ∷ m mark.CloseParenthesis ∷ m mark.OpenBrace ∷ m mark.CloseBrace ∷ [])
    ≡ Some (cell.Bare (of_value (node.Function (record { name = None; params = []; generator = true; body = body.Items [] }))))
unfolding reads_within
function_nameless = refl

-- { function f(a) {} }
function_statement : reads_as (m mark.OpenBrace ∷ w word.Function ∷ name (codes "f") ∷ m mark.OpenParenthesis ∷ name (codes "a") ∷ m mark.CloseParenthesis ∷ m mark.OpenBrace ∷ m mark.CloseBrace ∷ m mark.CloseBrace ∷ [])
    ≡ Some (cell.Bare (of_block (stmt.Function (record { name = Some (codes "f"); params = (codes "a" ∷ []); generator = false; body = body.Items [] }) ∷ [])))
unfolding reads_within
function_statement = refl

-- {a: 1}
object_not_first : reads_as (m mark.OpenBrace ∷ name (codes "a") ∷ m mark.Colon ∷ int 1 ∷ m mark.CloseBrace ∷ [])
    ≡ None
unfolding reads_within
object_not_first = refl

-- ({a, 16: 1, "s": 2, [k]: 3, if: 4,})
object : reads_as (m mark.OpenParenthesis ∷ m mark.OpenBrace ∷ name (codes "a") ∷ m mark.Comma ∷ int 16 ∷ m mark.Colon ∷ int 1 ∷ m mark.Comma ∷ same (kind.Text (codes "s")) ∷ m mark.Colon ∷ int 2 ∷ m mark.Comma ∷ m mark.OpenBracket ∷ name (codes "k") ∷ m mark.CloseBracket ∷ m mark.Colon ∷ int 3 ∷ m mark.Comma ∷ w word.If ∷ m mark.Colon ∷ int 4 ∷ m mark.Comma ∷ m mark.CloseBrace ∷ m mark.CloseParenthesis ∷ [])
    ≡ Some (cell.Bare (of_value (node.Object (prop.Short (codes "a") ∷ prop.Fixed (codes "16") (node.Int (pos 1)) ∷ prop.Fixed (codes "s") (node.Int (pos 2)) ∷ prop.Computed (node.Name (codes "k")) (node.Int (pos 3)) ∷ prop.Fixed (codes "if") (node.Int (pos 4)) ∷ []))))
unfolding reads_within
object = refl

-- (a) = 1
assign_parens : reads_as (m mark.OpenParenthesis ∷ name (codes "a") ∷ m mark.CloseParenthesis ∷ m mark.Assign ∷ int 1 ∷ [])
    ≡ None
unfolding reads_within
assign_parens = refl

-- a.b = c = 1
assign_member : reads_as (name (codes "a") ∷ m mark.Dot ∷ name (codes "b") ∷ m mark.Assign ∷ name (codes "c") ∷ m mark.Assign ∷ int 1 ∷ [])
    ≡ Some (cell.Bare (of_value (node.Assign assign.Set (node.Member (node.Name (codes "a")) (codes "b")) (node.Assign assign.Set (node.Name (codes "c")) (node.Int (pos 1))))))
unfolding reads_within
assign_member = search (rules, the_lemmas)

-- --f(x)
count_call : reads_as (m mark.MinusMinus ∷ name (codes "f") ∷ m mark.OpenParenthesis ∷ name (codes "x") ∷ m mark.CloseParenthesis ∷ [])
    ≡ None
unfolding reads_within
count_call = search (rules, the_lemmas)

-- ++a(c).d
count_member : reads_as (m mark.PlusPlus ∷ name (codes "a") ∷ m mark.OpenParenthesis ∷ name (codes "c") ∷ m mark.CloseParenthesis ∷ m mark.Dot ∷ name (codes "d") ∷ [])
    ≡ Some (cell.Bare (of_value (node.Update count.Up true (node.Member (node.Call (node.Name (codes "a")) ((node.Name (codes "c")) ∷ [])) (codes "d")))))
unfolding reads_within
count_member = search (rules, the_lemmas)

-- new F(1)(2)
new_call : reads_as (w word.New ∷ name (codes "F") ∷ m mark.OpenParenthesis ∷ int 1 ∷ m mark.CloseParenthesis ∷ m mark.OpenParenthesis ∷ int 2 ∷ m mark.CloseParenthesis ∷ [])
    ≡ Some (cell.Bare (of_value (node.Call (node.New (codes "F") ((node.Int (pos 1)) ∷ [])) ((node.Int (pos 2)) ∷ []))))
unfolding reads_within
new_call = search (rules, the_lemmas)

-- import {a as b, viewof c, mutable d,} with {e} from "n"
import_cell : reads_as (w word.Import ∷ m mark.OpenBrace ∷ name (codes "a") ∷ name (codes "as") ∷ name (codes "b") ∷ m mark.Comma ∷ w word.Viewof ∷ name (codes "c") ∷ m mark.Comma ∷ w word.Mutable ∷ name (codes "d") ∷ m mark.Comma ∷ m mark.CloseBrace ∷ w word.With ∷ m mark.OpenBrace ∷ name (codes "e") ∷ m mark.CloseBrace ∷ name (codes "from") ∷ same (kind.Text (codes "n")) ∷ [])
    ≡ Some (cell.Import (record { specs = (record { form = form.Plain; source = codes "a"; alias = Some (codes "b") } ∷ record { form = form.Viewof; source = codes "c"; alias = None } ∷ record { form = form.Mutable; source = codes "d"; alias = None } ∷ []); with = Some (record { form = form.Plain; source = codes "e"; alias = None } ∷ []); from = codes "n" }))
unfolding reads_within
import_cell = refl

-- viewof x
viewof_name : reads_as (w word.Viewof ∷ name (codes "x") ∷ [])
    ≡ Some (cell.Bare (of_value (node.ViewofName (codes "x"))))
unfolding reads_within
viewof_name = refl

-- viewof x = 1;
view_cell : reads_as (w word.Viewof ∷ name (codes "x") ∷ m mark.Assign ∷ int 1 ∷ m mark.Semicolon ∷ [])
    ≡ Some (cell.View (codes "x") (of_value (node.Int (pos 1))))
unfolding reads_within
view_cell = refl

-- mutable x = 1
mutable_cell : reads_as (w word.Mutable ∷ name (codes "x") ∷ m mark.Assign ∷ int 1 ∷ [])
    ≡ Some (cell.Mutable (codes "x") (of_value (node.Int (pos 1))))
unfolding reads_within
mutable_cell = refl

-- mutable x
mutable_alone : reads_as (w word.Mutable ∷ name (codes "x") ∷ [])
    ≡ None
unfolding reads_within
mutable_alone = refl

-- { mutable x += 1; mutable x++ }
mutable_changes : reads_as (m mark.OpenBrace ∷ w word.Mutable ∷ name (codes "x") ∷ m mark.PlusAssign ∷ int 1 ∷ m mark.Semicolon ∷ w word.Mutable ∷ name (codes "x") ∷ m mark.PlusPlus ∷ m mark.CloseBrace ∷ [])
    ≡ Some (cell.Bare (of_block (stmt.Change (codes "x") change.Add (Some (node.Int (pos 1))) ∷ stmt.Change (codes "x") change.Up None ∷ [])))
unfolding reads_within
mutable_changes = refl

-- { try { } catch (e) { } }
try_catch : reads_as (m mark.OpenBrace ∷ w word.Try ∷ m mark.OpenBrace ∷ m mark.CloseBrace ∷ w word.Catch ∷ m mark.OpenParenthesis ∷ name (codes "e") ∷ m mark.CloseParenthesis ∷ m mark.OpenBrace ∷ m mark.CloseBrace ∷ m mark.CloseBrace ∷ [])
    ≡ Some (cell.Bare (of_block (stmt.Try [] (Some (record { name = Some (codes "e"); items = [] })) None ∷ [])))
unfolding reads_within
try_catch = refl

-- x = { yield 1 }
generator_body : reads_as (name (codes "x") ∷ m mark.Assign ∷ m mark.OpenBrace ∷ w word.Yield ∷ int 1 ∷ m mark.CloseBrace ∷ [])
    ≡ Some (cell.Named (codes "x") (of_block (stmt.Yield None (Some (node.Int (pos 1))) ∷ [])))
unfolding reads_within
generator_body = refl

-- a ? b : c ? d : e
conditional : reads_as (name (codes "a") ∷ m mark.Question ∷ name (codes "b") ∷ m mark.Colon ∷ name (codes "c") ∷ m mark.Question ∷ name (codes "d") ∷ m mark.Colon ∷ name (codes "e") ∷ [])
    ≡ Some (cell.Bare (of_value (node.Cond (node.Name (codes "a")) (node.Name (codes "b")) (node.Cond (node.Name (codes "c")) (node.Name (codes "d")) (node.Name (codes "e"))))))
unfolding reads_within
conditional = refl

-- { while (a) b; }
while_loop : reads_as (m mark.OpenBrace ∷ w word.While ∷ m mark.OpenParenthesis ∷ name (codes "a") ∷ m mark.CloseParenthesis ∷ name (codes "b") ∷ m mark.Semicolon ∷ m mark.CloseBrace ∷ [])
    ≡ Some (cell.Bare (of_block (stmt.While (node.Name (codes "a")) (stmt.Expr (node.Name (codes "b"))) ∷ [])))
unfolding reads_within
while_loop = refl

--
empty_cell : reads_as ([])
    ≡ Some cell.Empty
unfolding reads_within
empty_cell = refl

-- ;
semi_alone : reads_as (m mark.Semicolon ∷ [])
    ≡ None
unfolding reads_within
semi_alone = refl

-- 1;;
two_semis : reads_as (int 1 ∷ m mark.Semicolon ∷ m mark.Semicolon ∷ [])
    ≡ None
unfolding reads_within
two_semis = refl

-- async
async_cell : reads_as (w word.Async ∷ [])
    ≡ None
unfolding reads_within
async_cell = refl

-- class A {}
class_cell : reads_as (w word.Class ∷ name (codes "A") ∷ m mark.OpenBrace ∷ m mark.CloseBrace ∷ [])
    ≡ None
unfolding reads_within
class_cell = refl

-- { if (a) b (line break) else c }
if_else_break : reads_as (m mark.OpenBrace ∷ w word.If ∷ m mark.OpenParenthesis ∷ name (codes "a") ∷ m mark.CloseParenthesis ∷ name (codes "b") ∷ after_break (kind.Reserved word.Else) ∷ name (codes "c") ∷ m mark.CloseBrace ∷ [])
    ≡ Some (cell.Bare (of_block (stmt.If (node.Name (codes "a")) (stmt.Expr (node.Name (codes "b"))) (Some (stmt.Expr (node.Name (codes "c")))) ∷ [])))
unfolding reads_within
if_else_break = refl

-- { a++ (line break) -b }
minus_after_break : reads_as (m mark.OpenBrace ∷ name (codes "a") ∷ m mark.PlusPlus ∷ after_break (kind.Punctuator mark.Minus) ∷ name (codes "b") ∷ m mark.CloseBrace ∷ [])
    ≡ Some (cell.Bare (of_block ((stmt.Expr (node.Binary binary.Sub (node.Update count.Up false (node.Name (codes "a"))) (node.Name (codes "b")))) ∷ [])))
unfolding reads_within
minus_after_break = search (rules, the_lemmas)

-- { let a (line break) (b) }
let_then_paren : reads_as (m mark.OpenBrace ∷ w word.Let ∷ name (codes "a") ∷ after_break (kind.Punctuator mark.OpenParenthesis) ∷ name (codes "b") ∷ m mark.CloseParenthesis ∷ m mark.CloseBrace ∷ [])
    ≡ Some (cell.Bare (of_block (stmt.Let (record { name = codes "a"; value = value.Nothing } ∷ []) ∷ (stmt.Expr (node.Name (codes "b"))) ∷ [])))
unfolding reads_within
let_then_paren = refl

-- { let a (line break) = 1 }
let_then_assign : reads_as (m mark.OpenBrace ∷ w word.Let ∷ name (codes "a") ∷ after_break (kind.Punctuator mark.Assign) ∷ int 1 ∷ m mark.CloseBrace ∷ [])
    ≡ Some (cell.Bare (of_block (stmt.Let (record { name = codes "a"; value = value.Value (node.Int (pos 1)) } ∷ []) ∷ [])))
unfolding reads_within
let_then_assign = refl

-- { let a (line break) , b }
let_comma_break : reads_as (m mark.OpenBrace ∷ w word.Let ∷ name (codes "a") ∷ after_break (kind.Punctuator mark.Comma) ∷ name (codes "b") ∷ m mark.CloseBrace ∷ [])
    ≡ Some (cell.Bare (of_block (stmt.Let (record { name = codes "a"; value = value.Nothing } ∷ record { name = codes "b"; value = value.Nothing } ∷ []) ∷ [])))
unfolding reads_within
let_comma_break = refl

-- { let a = yield (line break) , b }
yield_comma_break : reads_as (m mark.OpenBrace ∷ w word.Let ∷ name (codes "a") ∷ m mark.Assign ∷ w word.Yield ∷ after_break (kind.Punctuator mark.Comma) ∷ name (codes "b") ∷ m mark.CloseBrace ∷ [])
    ≡ Some (cell.Bare (of_block (stmt.Let (record { name = codes "a"; value = value.Yield None } ∷ record { name = codes "b"; value = value.Nothing } ∷ []) ∷ [])))
unfolding reads_within
yield_comma_break = refl

-- { if (a) function f() {} }
expr_function_stmt : reads_as (m mark.OpenBrace ∷ w word.If ∷ m mark.OpenParenthesis ∷ name (codes "a") ∷ m mark.CloseParenthesis ∷ w word.Function ∷ name (codes "f") ∷ m mark.OpenParenthesis ∷ m mark.CloseParenthesis ∷ m mark.OpenBrace ∷ m mark.CloseBrace ∷ m mark.CloseBrace ∷ [])
    ≡ None
unfolding reads_within
expr_function_stmt = refl

-- { a (line break) ; }
semi_own_line : reads_as (m mark.OpenBrace ∷ name (codes "a") ∷ after_break (kind.Punctuator mark.Semicolon) ∷ m mark.CloseBrace ∷ [])
    ≡ Some (cell.Bare (of_block ((stmt.Expr (node.Name (codes "a"))) ∷ [])))
unfolding reads_within
semi_own_line = refl

-- a.b.c, where a loop may make trees of depth 3
a_loop_keeps : reads_within 3 (name (codes "a") ∷ m mark.Dot ∷ name (codes "b") ∷ m mark.Dot ∷ name (codes "c") ∷ [])
    ≡ Some (cell.Bare (of_value (node.Member (node.Member (node.Name (codes "a")) (codes "b")) (codes "c"))))
unfolding reads_within
a_loop_keeps = search (rules, the_lemmas)

-- a.b.c, where a loop may make trees of depth 2
a_loop_refuses : reads_within 2 (name (codes "a") ∷ m mark.Dot ∷ name (codes "b") ∷ m mark.Dot ∷ name (codes "c") ∷ [])
    ≡ None
unfolding reads_within
a_loop_refuses = search (rules, the_lemmas)

-- a + b + c, where a loop may make trees of depth 2
a_chain_refuses : reads_within 2 (name (codes "a") ∷ m mark.Plus ∷ name (codes "b") ∷ m mark.Plus ∷ name (codes "c") ∷ [])
    ≡ None
unfolding reads_within
a_chain_refuses = search (rules, the_lemmas)
