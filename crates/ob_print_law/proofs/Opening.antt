-- No more brackets are open at once in the printed tokens of a tree than the tree is deep: by induction over a reading of it.
use Rattle.std.proofs.Common.{◌≡◌, ℕ, ◌+◌, ◌≤◌, max, Bool, true, false, List, [], ◌∷◌, ◌++◌, Option, Some, None, map, ap, sym, subst, ◌∙◌, arith}
use Rattle.std.specs.Prelude.{codes}
use Rattle.ob_base.specs.declared.operators.BinaryOp.TheVariants.{Pow}
use Rattle.ob_base.specs.declared.operators.BinaryOp.{BinaryOp}
use Rattle.ob_base.specs.declared.operators.UnaryOp.{UnaryOp}
use Rattle.ob_base.specs.declared.operators.AssignOp.{AssignOp}
use Rattle.ob_base.specs.declared.operators.UpdateOp.{UpdateOp}
use Rattle.ob_base.specs.declared.operators.ChangeOp.{ChangeOp}
use Rattle.ob_lex.specs.declared.punctuator.Punctuator.{Punctuator}
use Rattle.ob_lex.specs.declared.token.Token.{Token}
use Rattle.ob_lex.specs.declared.token.TokenKind.{TokenKind}
use Rattle.ob_lex.specs.declared.token.TokenKind.TheVariants as kind
use Rattle.ob_base.specs.declared.reserved.ReservedWord.TheVariants as word
use Rattle.ob_tree_types.specs.declared.tree.Expr.{Expr}
use Rattle.ob_tree_types.specs.declared.tree.Expr.TheVariants as node
use Rattle.ob_tree_types.specs.declared.tree.PropNode.{PropNode}
use Rattle.ob_tree_types.specs.declared.tree.PropNode.TheVariants as prop
use Rattle.ob_tree_types.specs.declared.tree.Function.{Function}
use Rattle.ob_tree_types.specs.declared.tree.FnBody.{FnBody}
use Rattle.ob_tree_types.specs.declared.tree.FnBody.TheVariants as body
use Rattle.ob_tree_types.specs.declared.tree.Decl.{Decl}
use Rattle.ob_tree_types.specs.declared.tree.DeclValue.TheVariants as value
use Rattle.ob_tree_types.specs.declared.tree.Stmt.{Stmt}
use Rattle.ob_tree_types.specs.declared.tree.Stmt.TheVariants as stmt
use Rattle.ob_tree_types.specs.declared.tree.ForHead.{ForHead}
use Rattle.ob_tree_types.specs.declared.tree.ForHead.TheVariants as head
use Rattle.ob_tree_types.specs.declared.tree.CatchPart.{CatchPart}
use Rattle.ob_tree.specs.Depth.{deepest, expr_depth, prop_depth, stmt_depth, body_depth, head_depth, catch_depth, decl_depth, function_depth}
use Rattle.ob_tree.specs.Tokens.{Token as Printed, Word, Mark, Number, Quoted, key_token}
use Rattle.ob_tree.specs.Print.{Tokens, Shown, binary_mark, compare_mark, logic_mark, assign_mark, update_mark, change_mark, unary_token, in_parentheses, in_brackets, in_braces, ended, listed, joined, operand_by, operand, tokens_of, name_token, name_if_there, target_if_there, star_if, params_tokens, declares, const_word, for_parts, catch_name, shown, expr_tokens, prop_tokens, stmt_tokens, body_tokens, head_tokens, catch_tokens, decl_tokens, function_tokens}
use Rattle.ob_grammar.specs.declared.form.Form.{Form}
use Rattle.ob_grammar.specs.declared.form.Infix.{Infix}
use Rattle.ob_grammar.specs.declared.form.Infix.TheVariants.{Computes, Compares, Chooses}
use Rattle.ob_grammar.specs.declared.piece.Signature.{Signature}
use Rattle.ob_grammar.specs.Marks.{literal_of}
use Rattle.ob_grammar.specs.Marks as marks
use Rattle.ob_grammar.specs.Grammar.{Rule, Reads, Continues, Steps, ReadsList, ReadsProps, ReadsProp, ReadsArrowBody, ReadsFunction, ReadsBlock, ReadsItems, ReadsItem, ReadsDecls, ReadsDecl, ReadsYield, ReadsStmt, ReadsTest, ReadsHead, ReadsOptional, ReadsCatch, arrow_function, function_of}
use Rattle.ob_grammar.specs.Grammar.{arrow, assigned, unassigned, chosen, unchosen, disjoined, coalesced, operands, unraised, raised, signed, unsigned, counted_before, counted_behind, uncounted, steps, literal, name, viewof_name, made, parentheses, array, object, function_expression, no_more, goes_on, no_step, member, index, call, no_item, last_item, more_list, no_prop, last_prop, more_props, short_prop, fixed_prop, computed_prop, block_body, value_body, function, block, no_items, more_items, statement, let_item, const_item, function_item, last_decl, more_decls, decl_name, decl_value, decl_yield, yield_alone, yield_value, block_statement, empty, expression, yielded, yield_assigned, changed, stepped, if_alone, if_else, while_loop, do_loop, do_loop_ended, for_loop, for_of, break, continue, return_alone, return_value, throw, try_catch, test, no_head, let_head, const_head, expr_head, absent, present, catch_all, catch_name as catch_named}
use Rattle.ob_grammar.proofs.Depths as depths
use Rattle.ob_print_law.proofs.Listed.{fused}
use Rattle.ob_print_law.proofs.Rows as rows
use Rattle.ob_print_law.proofs.Nesting.{Opens, Flat, none_open, flat_open, append_open, weaker, parentheses_open, brackets_open, braces_open, flat_word, flat_quoted, flat_number, flat_key, flat_semicolon, flat_dot, flat_colon, flat_question, flat_equals, flat_arrow, flat_star, flat_binary, flat_compare, flat_logic, flat_assign, flat_update, flat_change, flat_unary, EachOpens, EachDeep, to_deepest, listed_opens, joined_opens}

-- ---- what is to be shown

abbrev ExprOpens : Expr → Type 0
ExprOpens a = Opens (expr_depth a) (expr_tokens a)

abbrev EachExpr : List Expr → Type 0
EachExpr items = EachDeep expr_depth expr_tokens items

abbrev PropOpens : PropNode → Type 0
PropOpens p = Opens (prop_depth p) (prop_tokens p)

abbrev BodyOpens : FnBody → Type 0
BodyOpens b = Opens (1 + body_depth b) (body_tokens b)

abbrev pub FunctionOpens : Function → Type 0
FunctionOpens f = Opens (1 + function_depth f) (Word (codes "function") ∷ (function_tokens f).declared)

abbrev StmtOpens : Stmt → Type 0
StmtOpens a = Opens (stmt_depth a) (stmt_tokens a)

abbrev pub EachStmt : List Stmt → Type 0
EachStmt items = EachDeep stmt_depth stmt_tokens items

abbrev DeclOpens : Decl → Type 0
DeclOpens d = Opens (decl_depth d) (decl_tokens d)

abbrev EachDecl : List Decl → Type 0
EachDecl ds = EachDeep decl_depth decl_tokens ds

abbrev HeadOpens : ForHead → Type 0
HeadOpens h = Opens (head_depth h) (head_tokens h)

abbrev MayOpen : Option Expr → Type 0
MayOpen a = Opens (depths.optional_depth a) (rows.optional_tokens a)

abbrev CatchOpens : CatchPart → Type 0
CatchOpens p = Opens (1 + catch_depth p) (catch_tokens p)

as_is : {d e : ℕ} {ps qs : Tokens} → e ≡ d → qs ≡ ps → Opens d ps → Opens e qs
as_is {d} {e} {ps} {qs} he hq h = subst (Opens e) (sym hq) (weaker h (omega (arith, he)))

-- tokens that open nothing
flat_is : {e : ℕ} {ps qs : Tokens} → qs ≡ ps → Opens 0 ps → Opens e qs
flat_is {e} {ps} {qs} hq h = subst (Opens e) (sym hq) (weaker h (omega arith))

-- an operand by the depth of its node
operand_opens_by : (s : Shown) (d : ℕ) → Opens d s.tokens → (b : Bool) → Opens (1 + d) (operand_by b s.tokens)
operand_opens_by s d h true = weaker h (omega arith)
operand_opens_by s d h false = parentheses_open s.tokens h

operand_opens : (a : Expr) (d : ℕ) → expr_depth a ≤ d → ExprOpens a → Opens (1 + d) (operand (shown a))
operand_opens a d le h = operand_opens_by (shown a) d (weaker h le) (shown a).alone

exprs_open : (items : List Expr) → EachExpr items → Opens (deepest (map expr_depth items)) (listed (rows.exprs_tokens items))
exprs_open items h = subst (λ l. Opens (deepest (map expr_depth items)) (listed l)) (sym (fused items)) (listed_opens (deepest (map expr_depth items)) expr_tokens items (to_deepest expr_depth expr_tokens items h))

-- ---- expressions

leaf_opens : (a : Expr) (p : Printed) → Flat p → expr_tokens a ≡ p ∷ [] → ExprOpens a
leaf_opens a p f e = flat_is e (flat_open p f (none_open 0))

between_opens : (a b : Expr) (d : ℕ) (m : Printed) → Flat m → expr_depth a ≤ d → expr_depth b ≤ d → ExprOpens a → ExprOpens b → Opens (1 + d) (operand (shown a) ++ m ∷ operand (shown b))
between_opens a b d m f la lb h k = append_open (operand (shown a)) (m ∷ operand (shown b)) (operand_opens a d la h) (flat_open m f (operand_opens b d lb k))

binary_opens : (a b : Expr) (o : BinaryOp) → ExprOpens a → ExprOpens b → ExprOpens (node.Binary o a b)
binary_opens a b o h k =
    as_is (depths.binary_depth o a b) (ap tokens_of (rows.binary_shown o a b)) (between_opens a b (max (expr_depth a) (expr_depth b)) (Mark (binary_mark o)) (flat_binary o) (omega arith) (omega arith) h k)

joined_opens_by : (a b : Expr) (o : Infix) → ExprOpens a → ExprOpens b → ExprOpens (marks.joined o a b)
joined_opens_by a b (Computes o) h k = binary_opens a b o h k
joined_opens_by a b (Compares o) h k =
    as_is (depths.joined_depth (Compares o) a b) (ap tokens_of (rows.compare_shown o a b))
    (between_opens a b (max (expr_depth a) (expr_depth b)) (Mark (compare_mark o)) (flat_compare o) (omega arith) (omega arith) h k)
joined_opens_by a b (Chooses o) h k =
    as_is (depths.joined_depth (Chooses o) a b) (ap tokens_of (rows.logic_shown o a b))
    (between_opens a b (max (expr_depth a) (expr_depth b)) (Mark (logic_mark o)) (flat_logic o) (omega arith) (omega arith) h k)

cond_opens : (a b c : Expr) → ExprOpens a → ExprOpens b → ExprOpens c → ExprOpens (node.Cond a b c)
cond_opens a b c h k l =
    let d = max (expr_depth a) (max (expr_depth b) (expr_depth c)) in
    as_is (depths.cond_depth a b c) (ap tokens_of (rows.cond_shown a b c))
    (append_open (operand (shown a)) (Mark (codes "?") ∷ operand (shown b) ++ Mark (codes ":") ∷ operand (shown c)) (operand_opens a d (omega arith) h)
    (flat_open (Mark (codes "?")) flat_question
    (append_open (operand (shown b)) (Mark (codes ":") ∷ operand (shown c)) (operand_opens b d (omega arith) k) (flat_open (Mark (codes ":")) flat_colon (operand_opens c d (omega arith) l)))))

word_opens : (a : Expr) (x : List ℕ) → expr_tokens a ≡ Word x ∷ [] → ExprOpens a
word_opens a x e = leaf_opens a (Word x) (flat_word x) e

literal_opens : (k : TokenKind) (a : Expr) → literal_of k ≡ Some a → ExprOpens a
unfolding literal_of
literal_opens (kind.Number n) a e = let h : node.Int n ≡ a = cc in subst ExprOpens h (leaf_opens (node.Int n) (Number n) (flat_number n) (ap tokens_of (rows.int_shown n)))
literal_opens (kind.Text units) a e = let h : node.Text units ≡ a = cc in subst ExprOpens h (leaf_opens (node.Text units) (Quoted units) (flat_quoted units) (ap tokens_of (rows.text_shown units)))
literal_opens (kind.Reserved word.True) a e = let h : node.Bool true ≡ a = cc in subst ExprOpens h (word_opens (node.Bool true) (codes "true") (ap tokens_of (rows.bool_shown true)))
literal_opens (kind.Reserved word.False) a e = let h : node.Bool false ≡ a = cc in subst ExprOpens h (word_opens (node.Bool false) (codes "false") (ap tokens_of (rows.bool_shown false)))
literal_opens (kind.Reserved word.Null) a e = let h : node.Null ≡ a = cc in subst ExprOpens h (word_opens node.Null (codes "null") (ap tokens_of rows.null_shown))
literal_opens (kind.Reserved word.Undefined) a e = let h : node.Undefined ≡ a = cc in subst ExprOpens h (word_opens node.Undefined (codes "undefined") (ap tokens_of rows.undefined_shown))
literal_opens _ a e = cc

name_opens : (x : List ℕ) → ExprOpens (node.Name x)
name_opens x = word_opens (node.Name x) x (ap tokens_of (rows.name_shown x))

viewof_opens : (x : List ℕ) → ExprOpens (node.ViewofName x)
viewof_opens x = flat_is (ap tokens_of (rows.viewof_shown x)) (flat_open (Word (codes "viewof")) (flat_word (codes "viewof")) (flat_open (Word x) (flat_word x) (none_open 0)))

unary_opens : (a : Expr) (o : UnaryOp) → ExprOpens a → ExprOpens (node.Unary o a)
unary_opens a o h = as_is (depths.unary_depth o a) (ap tokens_of (rows.unary_shown o a)) (flat_open (unary_token o) (flat_unary o) (operand_opens a (expr_depth a) (omega arith) h))

before_opens : (a : Expr) (o : UpdateOp) → ExprOpens a → ExprOpens (node.Update o true a)
before_opens a o h = as_is (depths.update_depth o true a) (ap tokens_of (rows.update_before_shown o a)) (flat_open (Mark (update_mark o)) (flat_update o) (operand_opens a (expr_depth a) (omega arith) h))

behind_opens : (a : Expr) (o : UpdateOp) → ExprOpens a → ExprOpens (node.Update o false a)
behind_opens a o h =
    as_is (depths.update_depth o false a) (ap tokens_of (rows.update_behind_shown o a))
    (append_open (operand (shown a)) (Mark (update_mark o) ∷ []) (operand_opens a (expr_depth a) (omega arith) h) (flat_open (Mark (update_mark o)) (flat_update o) (none_open (1 + expr_depth a))))

assign_opens : (a b : Expr) (o : AssignOp) → ExprOpens a → ExprOpens b → ExprOpens (node.Assign o a b)
assign_opens a b o h k =
    as_is (depths.assign_depth o a b) (ap tokens_of (rows.assign_shown o a b)) (between_opens a b (max (expr_depth a) (expr_depth b)) (Mark (assign_mark o)) (flat_assign o) (omega arith) (omega arith) h k)

member_opens : (a : Expr) (x : List ℕ) → ExprOpens a → ExprOpens (node.Member a x)
member_opens a x h =
    as_is (depths.member_depth a x) (ap tokens_of (rows.member_shown a x))
    (append_open (operand (shown a)) (Mark (codes ".") ∷ Word x ∷ []) (operand_opens a (expr_depth a) (omega arith) h)
    (flat_open (Mark (codes ".")) flat_dot (flat_open (Word x) (flat_word x) (none_open (1 + expr_depth a)))))

index_opens : (a k : Expr) → ExprOpens a → ExprOpens k → ExprOpens (node.Index a k)
index_opens a k h l =
    let d = max (expr_depth a) (expr_depth k) in
    as_is (depths.index_depth a k) (ap tokens_of (rows.index_shown a k))
    (append_open (operand (shown a)) (in_brackets (expr_tokens k)) (operand_opens a d (omega arith) h) (brackets_open {d = d} (expr_tokens k) (weaker l (omega arith))))

call_opens : (a : Expr) (args : List Expr) → ExprOpens a → EachExpr args → ExprOpens (node.Call a args)
call_opens a args h l =
    let d = max (expr_depth a) (deepest (map expr_depth args)) in
    let list = listed (rows.exprs_tokens args) in
    as_is (depths.call_depth a args) (ap tokens_of (rows.call_shown a args))
    (append_open (operand (shown a)) (in_parentheses list) (operand_opens a d (omega arith) h) (parentheses_open {d = d} list (weaker (exprs_open args l) (omega arith))))

new_opens : (x : List ℕ) (args : List Expr) → EachExpr args → ExprOpens (node.New x args)
new_opens x args l =
    as_is (depths.made_depth x args) (ap tokens_of (rows.new_shown x args))
    (flat_open (Word (codes "new")) (flat_word (codes "new")) (flat_open (Word x) (flat_word x) (parentheses_open (listed (rows.exprs_tokens args)) (exprs_open args l))))

array_opens : (items : List Expr) → EachExpr items → ExprOpens (node.Array items)
array_opens items l = as_is (depths.array_depth items) (ap tokens_of (rows.array_shown items)) (brackets_open (listed (rows.exprs_tokens items)) (exprs_open items l))

object_opens : (ps : List PropNode) → EachDeep prop_depth prop_tokens ps → ExprOpens (node.Object ps)
object_opens ps l =
    as_is (depths.object_depth ps) (ap tokens_of (rows.object_shown ps)) (braces_open (listed (map prop_tokens ps)) (listed_opens (deepest (map prop_depth ps)) prop_tokens ps (to_deepest prop_depth prop_tokens ps l)))

function_opens : (f : Function) → FunctionOpens f → ExprOpens (node.Function f)
function_opens f h = as_is (depths.function_expression_depth f) (ap tokens_of (rows.function_shown f)) h

-- ---- functions

each_name : (d : ℕ) (xs : List (List ℕ)) → EachOpens d name_token xs
each_name d [] = tt
each_name d (x ∷ xs) = (flat_open (Word x) (flat_word x) (none_open d), each_name d xs)

params_open : (d : ℕ) (xs : List (List ℕ)) → Opens (1 + d) (params_tokens xs)
params_open d xs = parentheses_open (listed (map name_token xs)) (listed_opens d name_token xs (each_name d xs))

star_opens : (d : ℕ) (b : Bool) → Opens d (star_if b)
star_opens d true = flat_open (Mark (codes "*")) flat_star (none_open d)
star_opens d false = none_open d

own_opens : (d : ℕ) (x : Option (List ℕ)) → Opens d (name_if_there x)
own_opens d None = none_open d
own_opens d (Some x) = flat_open (Word x) (flat_word x) (none_open d)

items_open : (items : List Stmt) → EachStmt items → Opens (1 + deepest (map stmt_depth items)) (in_braces (joined (map stmt_tokens items)))
items_open items h = braces_open (joined (map stmt_tokens items)) (joined_opens (deepest (map stmt_depth items)) stmt_tokens items (to_deepest stmt_depth stmt_tokens items h))

items_body_opens : (items : List Stmt) → EachStmt items → BodyOpens (body.Items items)
items_body_opens items h = let e = depths.items_depth items in as_is (ap (λ d. 1 + d) e) (rows.items_shown items) (items_open items h)

value_body_opens : (a : Expr) → ExprOpens a → BodyOpens (body.Value a)
value_body_opens a h = as_is (ap (λ d. 1 + d) (depths.body_value_depth a)) (rows.body_value_shown a) (parentheses_open (expr_tokens a) h)

arrow_opens : (xs : List (List ℕ)) (b : FnBody) → BodyOpens b → ExprOpens (node.Arrow (arrow_function xs b))
arrow_opens xs b h =
    as_is (depths.arrow_depth (arrow_function xs b) ∙ ap (λ d. 1 + d) (depths.function_of_depth None xs false b)) (ap tokens_of (rows.arrow_shown (arrow_function xs b)) ∙ rows.function_arrow None xs false b)
    (append_open (params_tokens xs) (Mark (codes "=>") ∷ body_tokens b) (params_open (body_depth b) xs) (flat_open (Mark (codes "=>")) flat_arrow h))

function_opens_by : (s : Signature) (items : List Stmt) → EachStmt items → FunctionOpens (function_of s items)
function_opens_by s items h =
    let b = body.Items items in
    let d = body_depth b in
    as_is (ap (λ d. 1 + d) (depths.function_of_depth s.name s.params s.generator b)) (ap (λ l. Word (codes "function") ∷ l) (rows.function_declared s.name s.params s.generator b))
    (flat_open (Word (codes "function")) (flat_word (codes "function"))
    (append_open (star_if s.generator) (name_if_there s.name ++ (params_tokens s.params ++ body_tokens b)) (star_opens (1 + d) s.generator)
    (append_open (name_if_there s.name) (params_tokens s.params ++ body_tokens b) (own_opens (1 + d) s.name)
    (append_open (params_tokens s.params) (body_tokens b) (params_open d s.params) (items_body_opens items h)))))

-- ---- properties

short_opens : (x : List ℕ) → PropOpens (prop.Short x)
short_opens x = flat_is (rows.short_shown x) (flat_open (Word x) (flat_word x) (none_open 0))

fixed_opens : (key : List ℕ) (a : Expr) → ExprOpens a → PropOpens (prop.Fixed key a)
fixed_opens key a h =
    as_is (depths.fixed_depth key a) (rows.fixed_shown key a) (flat_open (key_token key) (flat_key key) (flat_open (Mark (codes ":")) flat_colon (weaker h (omega arith))))

computed_opens : (k a : Expr) → ExprOpens k → ExprOpens a → PropOpens (prop.Computed k a)
computed_opens k a h l =
    let d = max (expr_depth k) (expr_depth a) in
    as_is (depths.computed_depth k a) (rows.computed_shown k a)
    (append_open (in_brackets (expr_tokens k)) (Mark (codes ":") ∷ expr_tokens a) (brackets_open {d = d} (expr_tokens k) (weaker h (omega arith)))
    (flat_open (Mark (codes ":")) flat_colon (weaker l (omega arith))))

-- ---- declarations

name_decl_opens : (x : List ℕ) → DeclOpens (record { name = x; value = value.Nothing })
name_decl_opens x = flat_is (rows.nothing_shown x) (flat_open (Word x) (flat_word x) (none_open 0))

value_decl_opens : (x : List ℕ) (a : Expr) → ExprOpens a → DeclOpens (record { name = x; value = value.Value a })
value_decl_opens x a h =
    as_is (depths.decl_value_depth x (value.Value a) ∙ depths.value_value_depth a) (rows.value_shown x a) (flat_open (Word x) (flat_word x) (flat_open (Mark (codes "=")) flat_equals h))

yield_opens : (a : Option Expr) → MayOpen a → Opens (depths.optional_depth a) (Word (codes "yield") ∷ rows.optional_tokens a)
yield_opens a h = flat_open (Word (codes "yield")) (flat_word (codes "yield")) h

yield_decl_opens : (x : List ℕ) (a : Option Expr) → MayOpen a → DeclOpens (record { name = x; value = value.Yield a })
yield_decl_opens x a h =
    as_is (depths.decl_value_depth x (value.Yield a) ∙ depths.value_yield_depth a) (rows.yield_value_shown x a) (flat_open (Word x) (flat_word x) (flat_open (Mark (codes "=")) flat_equals (yield_opens a h)))

decls_open : (w : List ℕ) (ds : List Decl) → EachDecl ds → Opens (deepest (map decl_depth ds)) (declares w (map decl_tokens ds))
decls_open w ds h = flat_open (Word w) (flat_word w) (listed_opens (deepest (map decl_depth ds)) decl_tokens ds (to_deepest decl_depth decl_tokens ds h))

-- ---- statements

end_opens : {d : ℕ} (ps : Tokens) → Opens d ps → Opens d (ended ps)
end_opens {d} ps h = append_open ps (Mark (codes ";") ∷ []) h (flat_open (Mark (codes ";")) flat_semicolon (none_open d))

block_opens : (items : List Stmt) → EachStmt items → StmtOpens (stmt.Block items)
block_opens items h = as_is (depths.block_depth items) (rows.block_shown items) (items_open items h)

empty_opens : StmtOpens stmt.Empty
empty_opens = flat_is rows.empty_shown (flat_open (Mark (codes ";")) flat_semicolon (none_open 0))

expression_opens : (a : Expr) → ExprOpens a → StmtOpens (stmt.Expr a)
expression_opens a h = as_is (depths.expression_depth a) (rows.expr_shown a) (end_opens (in_parentheses (expr_tokens a)) (parentheses_open (expr_tokens a) h))

let_opens : (ds : List Decl) → EachDecl ds → StmtOpens (stmt.Let ds)
let_opens ds h = as_is (depths.let_depth ds) (rows.let_shown ds) (end_opens (declares (codes "let") (map decl_tokens ds)) (weaker (decls_open (codes "let") ds h) (omega arith)))

const_opens : (ds : List Decl) → EachDecl ds → StmtOpens (stmt.Const ds)
const_opens ds h = as_is (depths.const_depth ds) (rows.const_shown ds) (end_opens (declares (codes "const") (map decl_tokens ds)) (weaker (decls_open (codes "const") ds h) (omega arith)))

function_item_opens : (f : Function) → FunctionOpens f → StmtOpens (stmt.Function f)
function_item_opens f h = as_is (depths.function_item_depth f) (rows.function_item_shown f) h

target_opens : {d : ℕ} (x : Option (List ℕ)) (ps : Tokens) → Opens d ps → Opens d (target_if_there x ++ ps)
target_opens None ps h = h
target_opens (Some x) ps h = flat_open (Word x) (flat_word x) (flat_open (Mark (codes "=")) flat_equals h)

yield_stmt_opens : (x : Option (List ℕ)) (a : Option Expr) → MayOpen a → StmtOpens (stmt.Yield x a)
yield_stmt_opens x a h =
    as_is (depths.yield_depth x a) (rows.yield_shown x a)
    (end_opens (target_if_there x ++ Word (codes "yield") ∷ rows.optional_tokens a)
    (target_opens x (Word (codes "yield") ∷ rows.optional_tokens a) (weaker (yield_opens a h) (omega arith))))

change_opens : (x : List ℕ) (o : ChangeOp) (a : Option Expr) → MayOpen a → StmtOpens (stmt.Change x o a)
change_opens x o a h =
    as_is (depths.change_depth x o a) (rows.change_shown x o a)
    (end_opens (Word (codes "mutable") ∷ Word x ∷ Mark (change_mark o) ∷ rows.optional_tokens a)
    (flat_open (Word (codes "mutable")) (flat_word (codes "mutable")) (flat_open (Word x) (flat_word x) (flat_open (Mark (change_mark o)) (flat_change o) (weaker h (omega arith))))))

if_alone_opens : (a : Expr) (s : Stmt) → ExprOpens a → StmtOpens s → StmtOpens (stmt.If a s None)
if_alone_opens a s h k =
    let d = max (expr_depth a) (max (stmt_depth s) 0) in
    as_is (depths.if_alone_depth a s) (rows.if_alone_shown a s)
    (flat_open (Word (codes "if")) (flat_word (codes "if"))
    (append_open (in_parentheses (expr_tokens a)) (stmt_tokens s ++ []) (parentheses_open {d = d} (expr_tokens a) (weaker h (omega arith)))
    (append_open (stmt_tokens s) [] (weaker k (omega arith)) (none_open (1 + d)))))

if_else_opens : (a : Expr) (s u : Stmt) → ExprOpens a → StmtOpens s → StmtOpens u → StmtOpens (stmt.If a s (Some u))
if_else_opens a s u h k l =
    let d = max (expr_depth a) (max (stmt_depth s) (stmt_depth u)) in
    as_is (depths.if_else_depth a s u) (rows.if_else_shown a s u)
    (flat_open (Word (codes "if")) (flat_word (codes "if"))
    (append_open (in_parentheses (expr_tokens a)) (stmt_tokens s ++ Word (codes "else") ∷ stmt_tokens u) (parentheses_open {d = d} (expr_tokens a) (weaker h (omega arith)))
    (append_open (stmt_tokens s) (Word (codes "else") ∷ stmt_tokens u) (weaker k (omega arith))
    (flat_open (Word (codes "else")) (flat_word (codes "else")) (weaker l (omega arith))))))

while_opens : (a : Expr) (s : Stmt) → ExprOpens a → StmtOpens s → StmtOpens (stmt.While a s)
while_opens a s h k =
    let d = max (expr_depth a) (stmt_depth s) in
    as_is (depths.while_depth a s) (rows.while_shown a s)
    (flat_open (Word (codes "while")) (flat_word (codes "while"))
    (append_open (in_parentheses (expr_tokens a)) (stmt_tokens s) (parentheses_open {d = d} (expr_tokens a) (weaker h (omega arith))) (weaker k (omega arith))))

do_opens : (s : Stmt) (a : Expr) → StmtOpens s → ExprOpens a → StmtOpens (stmt.DoWhile s a)
do_opens s a k h =
    let d = max (stmt_depth s) (expr_depth a) in
    as_is (depths.do_depth s a) (rows.do_shown s a)
    (end_opens (Word (codes "do") ∷ stmt_tokens s ++ (Word (codes "while") ∷ in_parentheses (expr_tokens a)))
    (flat_open (Word (codes "do")) (flat_word (codes "do"))
    (append_open (stmt_tokens s) (Word (codes "while") ∷ in_parentheses (expr_tokens a)) (weaker k (omega arith))
    (flat_open (Word (codes "while")) (flat_word (codes "while")) (parentheses_open {d = d} (expr_tokens a) (weaker h (omega arith)))))))

for_opens : (h : ForHead) (a b : Option Expr) (s : Stmt) → HeadOpens h → MayOpen a → MayOpen b → StmtOpens s → StmtOpens (stmt.For h a b s)
for_opens h a b s p q r k =
    let x = depths.optional_depth a in
    let y = depths.optional_depth b in
    let d = max (head_depth h) (max x (max y (stmt_depth s))) in
    let tail = Mark (codes ";") ∷ rows.optional_tokens a ++ Mark (codes ";") ∷ rows.optional_tokens b in
    let parts = for_parts (head_tokens h) (rows.optional_tokens a) (rows.optional_tokens b) in
    as_is (depths.for_depth h a b s) (rows.for_shown h a b s)
    (flat_open (Word (codes "for")) (flat_word (codes "for"))
    (append_open (in_parentheses parts) (stmt_tokens s)
    (parentheses_open {d = d} parts
    (append_open (head_tokens h) tail (weaker p (omega arith))
    (flat_open (Mark (codes ";")) flat_semicolon
    (append_open (rows.optional_tokens a) (Mark (codes ";") ∷ rows.optional_tokens b) (weaker q (omega arith)) (flat_open (Mark (codes ";")) flat_semicolon (weaker r (omega arith)))))))
    (weaker k (omega arith))))

for_of_opens : (b : Bool) (x : List ℕ) (a : Expr) (s : Stmt) → ExprOpens a → StmtOpens s → StmtOpens (stmt.ForOf b x a s)
for_of_opens b x a s h k =
    let d = max (expr_depth a) (stmt_depth s) in
    let parts = Word (const_word b) ∷ Word x ∷ Word (codes "of") ∷ expr_tokens a in
    as_is (depths.for_of_depth b x a s) (rows.for_of_shown b x a s)
    (flat_open (Word (codes "for")) (flat_word (codes "for"))
    (append_open (in_parentheses parts) (stmt_tokens s)
    (parentheses_open {d = d} parts
    (flat_open (Word (const_word b)) (flat_word (const_word b)) (flat_open (Word x) (flat_word x) (flat_open (Word (codes "of")) (flat_word (codes "of")) (weaker h (omega arith))))))
    (weaker k (omega arith))))

jump_opens : (a : Stmt) (w : List ℕ) → stmt_tokens a ≡ ended (Word w ∷ []) → StmtOpens a
jump_opens a w e = flat_is e (end_opens (Word w ∷ []) (flat_open (Word w) (flat_word w) (none_open 0)))

return_opens : (a : Option Expr) → MayOpen a → StmtOpens (stmt.Return a)
return_opens a h =
    as_is (depths.return_depth a) (rows.return_shown a)
    (end_opens (Word (codes "return") ∷ rows.optional_tokens a) (flat_open (Word (codes "return")) (flat_word (codes "return")) (weaker h (omega arith))))

throw_opens : (a : Expr) → ExprOpens a → StmtOpens (stmt.Throw a)
throw_opens a h =
    as_is (depths.throw_depth a) (rows.throw_shown a)
    (end_opens (Word (codes "throw") ∷ expr_tokens a) (flat_open (Word (codes "throw")) (flat_word (codes "throw")) (weaker h (omega arith))))

catch_name_opens : (d : ℕ) (x : Option (List ℕ)) → Opens (1 + d) (catch_name x)
catch_name_opens d None = none_open (1 + d)
catch_name_opens d (Some x) = parentheses_open (name_token x) (flat_open (Word x) (flat_word x) (none_open d))

catch_opens : (x : Option (List ℕ)) (items : List Stmt) → EachStmt items → CatchOpens (record { name = x; items = items })
catch_opens x items h =
    let d = deepest (map stmt_depth items) in
    as_is (ap (λ d. 1 + d) (depths.catch_part_depth x items)) (rows.catch_shown x items)
    (flat_open (Word (codes "catch")) (flat_word (codes "catch")) (append_open (catch_name x) (in_braces (joined (map stmt_tokens items))) (catch_name_opens d x) (items_open items h)))

try_opens : (items : List Stmt) (p : CatchPart) → EachStmt items → CatchOpens p → StmtOpens (stmt.Try items (Some p) None)
try_opens items p h k =
    let d = max (deepest (map stmt_depth items)) (max (catch_depth p) 0) in
    let b = in_braces (joined (map stmt_tokens items)) in
    as_is (depths.try_depth items p) (rows.try_shown items p)
    (flat_open (Word (codes "try")) (flat_word (codes "try"))
    (append_open b (catch_tokens p ++ []) (weaker (items_open items h) (omega arith))
    (append_open (catch_tokens p) [] (weaker k (omega arith)) (none_open (1 + d)))))

-- ---- the head of a `for`

no_head_opens : HeadOpens head.Nothing
no_head_opens = flat_is rows.no_head_shown (none_open 0)

let_head_opens : (ds : List Decl) → EachDecl ds → HeadOpens (head.Let ds)
let_head_opens ds h = as_is (depths.let_head_depth ds) (rows.let_head_shown ds) (decls_open (codes "let") ds h)

const_head_opens : (ds : List Decl) → EachDecl ds → HeadOpens (head.Const ds)
const_head_opens ds h = as_is (depths.const_head_depth ds) (rows.const_head_shown ds) (decls_open (codes "const") ds h)

expr_head_opens : (a : Expr) → ExprOpens a → HeadOpens (head.Expr a)
expr_head_opens a h = as_is (depths.expr_head_depth a) (rows.expr_head_shown a) h

-- ---- constructor by constructor

mutual
  pub opens : {r : Rule} {ts : List Token} {a : Expr} {f : Form} {rest : List Token} → Reads r ts a f rest → Opens (expr_depth a) (expr_tokens a)
  opens (arrow ts mid rest t xs b f h1 h2 h3 d) = arrow_opens xs b (body_opens d)
  opens (assigned ts mid rest t o a b f d1 h d2) = assign_opens a b o (opens d1) (opens d2)
  opens (unassigned ts rest a f d) = opens d
  opens (chosen ts first second rest q c a b e f g h d1 h1 d2 h2 d3) = cond_opens a b e (opens d1) (opens d2) (opens d3)
  opens (unchosen ts rest a f d) = opens d
  opens (disjoined ts rest a f d) = opens d
  opens (coalesced ts mid rest first a f g d1 d2) = continued d2 (opens d1)
  opens (operands k ts mid rest first a f g d1 d2) = continued d2 (opens d1)
  opens (unraised ts rest a f d) = opens d
  opens (raised ts mid rest t a b f g d1 h d2) = binary_opens a b Pow (opens d1) (opens d2)
  opens (signed t ts rest o a f h d) = unary_opens a o (opens d)
  opens (unsigned ts rest a f d) = opens d
  opens (counted_before t ts rest o a h d) = before_opens a o (opens d)
  opens (counted_behind ts rest t o a d h1 h2) = behind_opens a o (opens d)
  opens (uncounted ts rest a f d) = opens d
  opens (steps ts mid rest first a f g d1 d2) = stepped_on d2 (opens d1)
  opens (literal t ts a h) = literal_opens t.kind a h
  opens (name t ts x h) = name_opens x
  opens (viewof_name t n ts x h1 h2) = viewof_opens x
  opens (made t n p ts rest x args h1 h2 h3 d) = new_opens x args (list_opens d)
  opens (parentheses t c ts rest a f h1 d h2) = opens d
  opens (array t ts rest items h d) = array_opens items (list_opens d)
  opens (object t ts rest ps h d) = object_opens ps (props_open d)
  opens (function_expression ts rest g d) = function_opens g (function_open d)

  continued : {r : Rule} {n : ℕ} {a b : Expr} {f g : Form} {ts rest : List Token} → Continues r n a f ts b g rest → Opens (expr_depth a) (expr_tokens a) → Opens (expr_depth b) (expr_tokens b)
  continued (no_more r n a f ts) p = p
  continued (goes_on r n a b c f g h t ts mid rest o hr ho d1 d2) p = continued d2 (joined_opens_by a b o p (opens d1))

  stepped_on : {a b : Expr} {f g : Form} {ts rest : List Token} → Steps a f ts b g rest → Opens (expr_depth a) (expr_tokens a) → Opens (expr_depth b) (expr_tokens b)
  stepped_on (no_step a f ts) p = p
  stepped_on (member a b f g t n x ts rest h1 h2 d) p = stepped_on d (member_opens a x p)
  stepped_on (index a b k f g h t c ts mid rest h1 d1 h2 d2) p = stepped_on d2 (index_opens a k p (opens d1))
  stepped_on (call a b f g t args ts mid rest h d1 d2) p = stepped_on d2 (call_opens a args p (list_opens d1))

  list_opens : {close : Punctuator} {ts : List Token} {items : List Expr} {rest : List Token} → ReadsList close ts items rest → EachDeep expr_depth expr_tokens items
  list_opens (no_item close t ts h) = tt
  list_opens (last_item close c ts rest a f d h) = (opens d, tt)
  list_opens (more_list close c ts mid rest a f items d h d2) = (opens d, list_opens d2)

  props_open : {ts : List Token} {ps : List PropNode} {rest : List Token} → ReadsProps ts ps rest → EachDeep prop_depth prop_tokens ps
  props_open (no_prop t ts h) = tt
  props_open (last_prop c ts rest p d h) = (prop_opens d, tt)
  props_open (more_props c ts mid rest p ps d h d2) = (prop_opens d, props_open d2)

  prop_opens : {ts : List Token} {p : PropNode} {rest : List Token} → ReadsProp ts p rest → Opens (prop_depth p) (prop_tokens p)
  prop_opens (short_prop t ts x h) = short_opens x
  prop_opens (fixed_prop t c ts rest key a f h1 h2 d) = fixed_opens key a (opens d)
  prop_opens (computed_prop t e c ts mid rest k a f g h1 d1 h2 h3 d2) = computed_opens k a (opens d1) (opens d2)

  body_opens : {ts : List Token} {b : FnBody} {f : Form} {rest : List Token} → ReadsArrowBody ts b f rest → Opens (1 + body_depth b) (body_tokens b)
  body_opens (block_body ts rest items d) = items_body_opens items (block_open d)
  body_opens (value_body ts rest a f h d) = value_body_opens a (opens d)

  pub function_open : {ts : List Token} {g : Function} {rest : List Token} → ReadsFunction ts g rest → FunctionOpens g
  function_open (function t ts mid rest g items h1 h2 d) = function_opens_by g items (block_open d)

  pub block_open : {ts : List Token} {items : List Stmt} {rest : List Token} → ReadsBlock ts items rest → EachStmt items
  block_open (block t ts rest items h d) = all_open d

  all_open : {ts : List Token} {items : List Stmt} {rest : List Token} → ReadsItems ts items rest → EachDeep stmt_depth stmt_tokens items
  all_open (no_items t ts h) = tt
  all_open (more_items ts mid rest a items d1 d2) = (item_opens d1, all_open d2)

  item_opens : {ts : List Token} {a : Stmt} {rest : List Token} → ReadsItem ts a rest → Opens (stmt_depth a) (stmt_tokens a)
  item_opens (statement ts rest a d) = stmt_opens d
  item_opens (let_item t ts mid rest ds f h d e) = let_opens ds (decls_opens d)
  item_opens (const_item t ts mid rest ds f h d e) = const_opens ds (decls_opens d)
  item_opens (function_item ts rest g x d h) = function_item_opens g (function_open d)

  decls_opens : {ts : List Token} {ds : List Decl} {f : Form} {rest : List Token} → ReadsDecls ts ds f rest → EachDeep decl_depth decl_tokens ds
  decls_opens (last_decl ts rest a f d) = (decl_opens d, tt)
  decls_opens (more_decls c ts mid rest a ds f g d h d2) = (decl_opens d, decls_opens d2)

  decl_opens : {ts : List Token} {a : Decl} {f : Form} {rest : List Token} → ReadsDecl ts a f rest → Opens (decl_depth a) (decl_tokens a)
  decl_opens (decl_name t ts x h) = name_decl_opens x
  decl_opens (decl_value t q ts rest x a f h1 h2 d) = value_decl_opens x a (opens d)
  decl_opens (decl_yield t q ts rest x a f h1 h2 d) = yield_decl_opens x a (yields_open d)

  yields_open : {ts : List Token} {a : Option Expr} {f : Form} {rest : List Token} → ReadsYield ts a f rest → Opens (depths.optional_depth a) (rows.optional_tokens a)
  yields_open (yield_alone t ts h) = none_open 0
  yields_open (yield_value t ts rest a f h1 h2 d) = opens d

  stmt_opens : {ts : List Token} {a : Stmt} {rest : List Token} → ReadsStmt ts a rest → Opens (stmt_depth a) (stmt_tokens a)
  stmt_opens (block_statement ts rest items d) = block_opens items (block_open d)
  stmt_opens (empty t ts h) = empty_opens
  stmt_opens (expression ts mid rest a f h1 h2 d e) = expression_opens a (opens d)
  stmt_opens (yielded ts mid rest a f d e) = yield_stmt_opens None a (yields_open d)
  stmt_opens (yield_assigned t q ts mid rest x a f h1 h2 d e) = yield_stmt_opens (Some x) a (yields_open d)
  stmt_opens (changed t n q ts mid rest x o a f h1 h2 h3 d e) = change_opens x o (Some a) (opens d)
  stmt_opens (stepped t n q ts rest x o h1 h2 h3 h4 e) = change_opens x o None (none_open 0)
  stmt_opens (if_alone t ts mid rest a b h d1 d2 unmet) = if_alone_opens a b (test_opens d1) (stmt_opens d2)
  stmt_opens (if_else t e ts mid next rest a b c h1 d1 d2 h2 d3) = if_else_opens a b c (test_opens d1) (stmt_opens d2) (stmt_opens d3)
  stmt_opens (while_loop t ts mid rest a b h d1 d2) = while_opens a b (test_opens d1) (stmt_opens d2)
  stmt_opens (do_loop t w ts mid rest b a h1 d1 h2 d2 unmet) = do_opens b a (stmt_opens d1) (test_opens d2)
  stmt_opens (do_loop_ended t w e ts mid rest b a h1 d1 h2 d2 h3) = do_opens b a (stmt_opens d1) (test_opens d2)
  stmt_opens (for_loop t p ts tested counted turn rest h a b c h1 h2 d1 d2 d3 d4) = for_opens h a b c (head_opens d1) (optional_opens d2) (optional_opens d3) (stmt_opens d4)
  stmt_opens (for_of t p d n o c ts mid rest constant x a f b h1 h2 h3 h4 h5 d1 h6 d2) = for_of_opens constant x a b (opens d1) (stmt_opens d2)
  stmt_opens (break t ts rest h e) = jump_opens stmt.Break (codes "break") rows.break_shown
  stmt_opens (continue t ts rest h e) = jump_opens stmt.Continue (codes "continue") rows.continue_shown
  stmt_opens (return_alone t ts rest h e) = return_opens None (none_open 0)
  stmt_opens (return_value t ts mid rest a f h1 h2 d e) = return_opens (Some a) (opens d)
  stmt_opens (throw t ts mid rest a f h1 h2 d e) = throw_opens a (opens d)
  stmt_opens (try_catch t c ts mid rest items p h1 d1 h2 d2) = try_opens items p (block_open d1) (caught_opens d2)

  test_opens : {ts : List Token} {a : Expr} {rest : List Token} → ReadsTest ts a rest → Opens (expr_depth a) (expr_tokens a)
  test_opens (test t c ts rest a f h1 d h2) = opens d

  head_opens : {ts : List Token} {h : ForHead} {rest : List Token} → ReadsHead ts h rest → Opens (head_depth h) (head_tokens h)
  head_opens (no_head t ts h) = no_head_opens
  head_opens (let_head t e ts rest ds f h1 d h2) = let_head_opens ds (decls_opens d)
  head_opens (const_head t e ts rest ds f h1 d h2) = const_head_opens ds (decls_opens d)
  head_opens (expr_head e ts rest a f d h) = expr_head_opens a (opens d)

  optional_opens : {close : Punctuator} {ts : List Token} {a : Option Expr} {rest : List Token} → ReadsOptional close ts a rest → Opens (depths.optional_depth a) (rows.optional_tokens a)
  optional_opens (absent close t ts h) = none_open 0
  optional_opens (present close c ts rest a f d h) = opens d

  caught_opens : {ts : List Token} {p : CatchPart} {rest : List Token} → ReadsCatch ts p rest → Opens (1 + catch_depth p) (catch_tokens p)
  caught_opens (catch_all ts rest items d) = catch_opens None items (block_open d)
  caught_opens (catch_named t n c ts rest x items h1 h2 h3 d) = catch_opens (Some x) items (block_open d)
