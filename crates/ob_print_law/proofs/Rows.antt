-- The tokens of a tree, variant by variant.
use Rattle.std.proofs.Common.{◌≡◌, ℕ, ℤ, Bool, true, false, List, [], ◌∷◌, ◌++◌, Option, Some, None, option_map, map, rules}
use Rattle.std.specs.Prelude.{codes}
use Rattle.ob_base.specs.declared.operators.BinaryOp.{BinaryOp}
use Rattle.ob_base.specs.declared.operators.CompareOp.{CompareOp}
use Rattle.ob_base.specs.declared.operators.UnaryOp.{UnaryOp}
use Rattle.ob_base.specs.declared.operators.AssignOp.{AssignOp}
use Rattle.ob_base.specs.declared.operators.ChangeOp.{ChangeOp}
use Rattle.ob_base.specs.declared.operators.LogicOp.{LogicOp}
use Rattle.ob_base.specs.declared.operators.UpdateOp.{UpdateOp}
use Rattle.ob_tree_types.specs.declared.tree.Expr.{Expr, the_lemmas}
use Rattle.ob_tree_types.specs.declared.tree.Expr.TheVariants as node
use Rattle.ob_tree_types.specs.declared.tree.PropNode.{PropNode}
use Rattle.ob_tree_types.specs.declared.tree.PropNode.TheVariants as prop
use Rattle.ob_tree_types.specs.declared.tree.Function.{Function}
use Rattle.ob_tree_types.specs.declared.tree.FnBody.{FnBody}
use Rattle.ob_tree_types.specs.declared.tree.FnBody.TheVariants as body
use Rattle.ob_tree_types.specs.declared.tree.Decl.{Decl}
use Rattle.ob_tree_types.specs.declared.tree.DeclValue.TheVariants as value
use Rattle.ob_tree_types.specs.declared.tree.Stmt.{Stmt}
use Rattle.ob_tree_types.specs.declared.tree.Stmt.TheVariants as stmt
use Rattle.ob_tree_types.specs.declared.tree.ForHead.{ForHead}
use Rattle.ob_tree_types.specs.declared.tree.ForHead.TheVariants as head
use Rattle.ob_tree_types.specs.declared.tree.CatchPart.{CatchPart}
use Rattle.ob_tree.specs.Tokens.{Word, Mark, Number, Quoted, key_token}
use Rattle.ob_tree.specs.Print.{Tokens, binary_mark, compare_mark, logic_mark, assign_mark, update_mark, change_mark, unary_token, in_parentheses, in_brackets, in_braces, ended, listed, joined, operand, tokens_of, name_if_there, target_if_there, star_if, bool_word, stands, wants, between, params_tokens, declares, catch_name, else_part, const_word, for_parts, shown, expr_tokens, prop_tokens, stmt_tokens, body_tokens, head_tokens, catch_tokens, decl_tokens, function_tokens}

-- the tokens of an expression that may be missing
abbrev pub optional_tokens : Option Expr → Tokens
optional_tokens None = []
optional_tokens (Some a) = expr_tokens a

-- the tokens of expressions
abbrev pub exprs_tokens : List Expr → List Tokens
exprs_tokens items = map tokens_of (map shown items)

-- ---- expressions

pub undefined_shown : shown node.Undefined ≡ stands (Word (codes "undefined") ∷ [])
undefined_shown = search (rules, the_lemmas)

pub null_shown : shown node.Null ≡ stands (Word (codes "null") ∷ [])
null_shown = search (rules, the_lemmas)

pub bool_shown : (b : Bool) → shown (node.Bool b) ≡ stands (Word (bool_word b) ∷ [])
bool_shown b = search (rules, the_lemmas)

pub int_shown : (n : ℤ) → shown (node.Int n) ≡ stands (Number n ∷ [])
int_shown n = search (rules, the_lemmas)

pub text_shown : (units : List ℕ) → shown (node.Text units) ≡ stands (Quoted units ∷ [])
text_shown units = search (rules, the_lemmas)

pub name_shown : (x : List ℕ) → shown (node.Name x) ≡ stands (Word x ∷ [])
name_shown x = search (rules, the_lemmas)

pub viewof_shown : (x : List ℕ) → shown (node.ViewofName x) ≡ stands (Word (codes "viewof") ∷ Word x ∷ [])
viewof_shown x = search (rules, the_lemmas)

pub array_shown : (items : List Expr) → shown (node.Array items) ≡ stands (in_brackets (listed (exprs_tokens items)))
array_shown items = search (rules, the_lemmas)

pub object_shown : (props : List PropNode) → shown (node.Object props) ≡ wants (in_braces (listed (map prop_tokens props)))
object_shown props = search (rules, the_lemmas)

pub function_shown : (f : Function) → shown (node.Function f) ≡ wants (Word (codes "function") ∷ (function_tokens f).declared)
function_shown f = search (rules, the_lemmas)

pub arrow_shown : (f : Function) → shown (node.Arrow f) ≡ wants (function_tokens f).arrow
arrow_shown f = search (rules, the_lemmas)

pub unary_shown : (op : UnaryOp) (a : Expr) → shown (node.Unary op a) ≡ wants (unary_token op ∷ operand (shown a))
unary_shown op a = search (rules, the_lemmas)

pub binary_shown : (op : BinaryOp) (a b : Expr) → shown (node.Binary op a b) ≡ between (binary_mark op) (shown a) (shown b)
binary_shown op a b = search (rules, the_lemmas)

pub compare_shown : (op : CompareOp) (a b : Expr) → shown (node.Compare op a b) ≡ between (compare_mark op) (shown a) (shown b)
compare_shown op a b = search (rules, the_lemmas)

pub logic_shown : (op : LogicOp) (a b : Expr) → shown (node.Logic op a b) ≡ between (logic_mark op) (shown a) (shown b)
logic_shown op a b = search (rules, the_lemmas)

pub cond_shown : (a b c : Expr) → shown (node.Cond a b c)
    ≡ wants (operand (shown a) ++ (Mark (codes "?") ∷ operand (shown b) ++ Mark (codes ":") ∷ operand (shown c)))
cond_shown a b c = search (rules, the_lemmas)

pub assign_shown : (op : AssignOp) (a b : Expr) → shown (node.Assign op a b) ≡ between (assign_mark op) (shown a) (shown b)
assign_shown op a b = search (rules, the_lemmas)

pub update_before_shown : (op : UpdateOp) (a : Expr) → shown (node.Update op true a) ≡ wants (Mark (update_mark op) ∷ operand (shown a))
update_before_shown op a = search (rules, the_lemmas)

pub update_behind_shown : (op : UpdateOp) (a : Expr) → shown (node.Update op false a) ≡ wants (operand (shown a) ++ Mark (update_mark op) ∷ [])
update_behind_shown op a = search (rules, the_lemmas)

pub member_shown : (a : Expr) (x : List ℕ) → shown (node.Member a x) ≡ stands (operand (shown a) ++ Mark (codes ".") ∷ Word x ∷ [])
member_shown a x = search (rules, the_lemmas)

pub index_shown : (a k : Expr) → shown (node.Index a k) ≡ stands (operand (shown a) ++ in_brackets (expr_tokens k))
index_shown a k = search (rules, the_lemmas)

pub call_shown : (a : Expr) (args : List Expr) → shown (node.Call a args) ≡ stands (operand (shown a) ++ in_parentheses (listed (exprs_tokens args)))
call_shown a args = search (rules, the_lemmas)

pub new_shown : (x : List ℕ) (args : List Expr) → shown (node.New x args) ≡ stands (Word (codes "new") ∷ Word x ∷ in_parentheses (listed (exprs_tokens args)))
new_shown x args = search (rules, the_lemmas)

-- ---- properties

pub short_shown : (x : List ℕ) → prop_tokens (prop.Short x) ≡ Word x ∷ []
short_shown x = search (rules, the_lemmas)

pub fixed_shown : (key : List ℕ) (a : Expr) → prop_tokens (prop.Fixed key a) ≡ key_token key ∷ Mark (codes ":") ∷ expr_tokens a
fixed_shown key a = search (rules, the_lemmas)

pub computed_shown : (k a : Expr) → prop_tokens (prop.Computed k a) ≡ in_brackets (expr_tokens k) ++ Mark (codes ":") ∷ expr_tokens a
computed_shown k a = search (rules, the_lemmas)

-- ---- functions

pub function_declared : (x : Option (List ℕ)) (xs : List (List ℕ)) (g : Bool) (b : FnBody)
    → (function_tokens (record { name = x; params = xs; generator = g; body = b })).declared ≡ star_if g ++ (name_if_there x ++ (params_tokens xs ++ body_tokens b))
function_declared x xs g b = search (rules, the_lemmas)

pub function_arrow : (x : Option (List ℕ)) (xs : List (List ℕ)) (g : Bool) (b : FnBody)
    → (function_tokens (record { name = x; params = xs; generator = g; body = b })).arrow ≡ params_tokens xs ++ Mark (codes "=>") ∷ body_tokens b
function_arrow x xs g b = search (rules, the_lemmas)

pub items_shown : (items : List Stmt) → body_tokens (body.Items items) ≡ in_braces (joined (map stmt_tokens items))
items_shown items = search (rules, the_lemmas)

pub body_value_shown : (a : Expr) → body_tokens (body.Value a) ≡ in_parentheses (expr_tokens a)
body_value_shown a = search (rules, the_lemmas)

-- ---- declarations

pub nothing_shown : (x : List ℕ) → decl_tokens (record { name = x; value = value.Nothing }) ≡ Word x ∷ []
nothing_shown x = search (rules, the_lemmas)

pub value_shown : (x : List ℕ) (a : Expr) → decl_tokens (record { name = x; value = value.Value a }) ≡ Word x ∷ Mark (codes "=") ∷ expr_tokens a
value_shown x a = search (rules, the_lemmas)

pub yield_value_shown : (x : List ℕ) (a : Option Expr) → decl_tokens (record { name = x; value = value.Yield a }) ≡ Word x ∷ Mark (codes "=") ∷ Word (codes "yield") ∷ optional_tokens a
yield_value_shown x None = search (rules, the_lemmas)
yield_value_shown x (Some a) = search (rules, the_lemmas)

-- ---- statements

pub block_shown : (items : List Stmt) → stmt_tokens (stmt.Block items) ≡ in_braces (joined (map stmt_tokens items))
block_shown items = search (rules, the_lemmas)

pub empty_shown : stmt_tokens stmt.Empty ≡ Mark (codes ";") ∷ []
empty_shown = search (rules, the_lemmas)

pub expr_shown : (a : Expr) → stmt_tokens (stmt.Expr a) ≡ ended (in_parentheses (expr_tokens a))
expr_shown a = search (rules, the_lemmas)

pub let_shown : (ds : List Decl) → stmt_tokens (stmt.Let ds) ≡ ended (declares (codes "let") (map decl_tokens ds))
let_shown ds = search (rules, the_lemmas)

pub const_shown : (ds : List Decl) → stmt_tokens (stmt.Const ds) ≡ ended (declares (codes "const") (map decl_tokens ds))
const_shown ds = search (rules, the_lemmas)

pub function_item_shown : (f : Function) → stmt_tokens (stmt.Function f) ≡ Word (codes "function") ∷ (function_tokens f).declared
function_item_shown f = search (rules, the_lemmas)

pub yield_shown : (x : Option (List ℕ)) (a : Option Expr) → stmt_tokens (stmt.Yield x a) ≡ ended (target_if_there x ++ Word (codes "yield") ∷ optional_tokens a)
yield_shown x None = search (rules, the_lemmas)
yield_shown x (Some a) = search (rules, the_lemmas)

pub change_shown : (x : List ℕ) (op : ChangeOp) (a : Option Expr)
    → stmt_tokens (stmt.Change x op a) ≡ ended (Word (codes "mutable") ∷ Word x ∷ Mark (change_mark op) ∷ optional_tokens a)
change_shown x op None = search (rules, the_lemmas)
change_shown x op (Some a) = search (rules, the_lemmas)

if_shown : (a : Expr) (s : Stmt) (o : Option Stmt) → stmt_tokens (stmt.If a s o) ≡ Word (codes "if") ∷ in_parentheses (expr_tokens a) ++ (stmt_tokens s ++ else_part (option_map stmt_tokens o))
if_shown a s o = search (rules, the_lemmas)

pub if_alone_shown : (a : Expr) (s : Stmt) → stmt_tokens (stmt.If a s None) ≡ Word (codes "if") ∷ in_parentheses (expr_tokens a) ++ (stmt_tokens s ++ [])
if_alone_shown a s = if_shown a s None

pub if_else_shown : (a : Expr) (s u : Stmt)
    → stmt_tokens (stmt.If a s (Some u)) ≡ Word (codes "if") ∷ in_parentheses (expr_tokens a) ++ (stmt_tokens s ++ Word (codes "else") ∷ stmt_tokens u)
if_else_shown a s u = if_shown a s (Some u)

pub while_shown : (a : Expr) (s : Stmt) → stmt_tokens (stmt.While a s) ≡ Word (codes "while") ∷ in_parentheses (expr_tokens a) ++ stmt_tokens s
while_shown a s = search (rules, the_lemmas)

pub do_shown : (s : Stmt) (a : Expr)
    → stmt_tokens (stmt.DoWhile s a) ≡ ended (Word (codes "do") ∷ stmt_tokens s ++ (Word (codes "while") ∷ in_parentheses (expr_tokens a)))
do_shown s a = search (rules, the_lemmas)

pub for_shown : (h : ForHead) (a b : Option Expr) (s : Stmt)
    → stmt_tokens (stmt.For h a b s) ≡ Word (codes "for") ∷ in_parentheses (for_parts (head_tokens h) (optional_tokens a) (optional_tokens b)) ++ stmt_tokens s
for_shown h None None s = search (rules, the_lemmas)
for_shown h (Some a) None s = search (rules, the_lemmas)
for_shown h None (Some b) s = search (rules, the_lemmas)
for_shown h (Some a) (Some b) s = search (rules, the_lemmas)

pub for_of_shown : (constant : Bool) (x : List ℕ) (a : Expr) (s : Stmt) → stmt_tokens (stmt.ForOf constant x a s)
    ≡ Word (codes "for") ∷ in_parentheses (Word (const_word constant) ∷ Word x ∷ Word (codes "of") ∷ expr_tokens a) ++ stmt_tokens s
for_of_shown constant x a s = search (rules, the_lemmas)

pub break_shown : stmt_tokens stmt.Break ≡ ended (Word (codes "break") ∷ [])
break_shown = search (rules, the_lemmas)

pub continue_shown : stmt_tokens stmt.Continue ≡ ended (Word (codes "continue") ∷ [])
continue_shown = search (rules, the_lemmas)

pub return_shown : (a : Option Expr) → stmt_tokens (stmt.Return a) ≡ ended (Word (codes "return") ∷ optional_tokens a)
return_shown None = search (rules, the_lemmas)
return_shown (Some a) = search (rules, the_lemmas)

pub throw_shown : (a : Expr) → stmt_tokens (stmt.Throw a) ≡ ended (Word (codes "throw") ∷ expr_tokens a)
throw_shown a = search (rules, the_lemmas)

pub try_shown : (items : List Stmt) (p : CatchPart)
    → stmt_tokens (stmt.Try items (Some p) None) ≡ Word (codes "try") ∷ in_braces (joined (map stmt_tokens items)) ++ (catch_tokens p ++ [])
try_shown items p = search (rules, the_lemmas)

pub catch_shown : (x : Option (List ℕ)) (items : List Stmt)
    → catch_tokens (record { name = x; items = items }) ≡ Word (codes "catch") ∷ catch_name x ++ in_braces (joined (map stmt_tokens items))
catch_shown x items = search (rules, the_lemmas)

-- ---- the head of a `for`

pub no_head_shown : head_tokens head.Nothing ≡ []
no_head_shown = search (rules, the_lemmas)

pub let_head_shown : (ds : List Decl) → head_tokens (head.Let ds) ≡ declares (codes "let") (map decl_tokens ds)
let_head_shown ds = search (rules, the_lemmas)

pub const_head_shown : (ds : List Decl) → head_tokens (head.Const ds) ≡ declares (codes "const") (map decl_tokens ds)
const_head_shown ds = search (rules, the_lemmas)

pub expr_head_shown : (a : Expr) → head_tokens (head.Expr a) ≡ expr_tokens a
expr_head_shown a = search (rules, the_lemmas)
