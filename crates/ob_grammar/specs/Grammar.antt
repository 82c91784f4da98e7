-- The grammar of expressions and statements, a constructor for each case of each rule. `Reads rule ts a f rest` says that the tokens ts
-- begin with a piece that the rule reads as a, that rest is what follows that piece, and that f is what the piece ends in. The other
-- families say the same of their rules. [ ] is optional, { }* is any number; `nlb`: no line break stands there.
use Rattle.std.specs.Prelude.{◌≡◌, ℕ, zero, suc, ◌+◌, Bool, true, false, List, [], ◌∷◌, codes, Option, Some, None}
use Rattle.ob_base.specs.declared.operators.BinaryOp.TheVariants.{Pow}
use Rattle.ob_base.specs.declared.operators.UnaryOp.{UnaryOp}
use Rattle.ob_lex.specs.declared.punctuator.Punctuator.{Punctuator}
use Rattle.ob_lex.specs.declared.punctuator.Punctuator.TheVariants as mark
use Rattle.ob_base.specs.declared.reserved.ReservedWord.TheVariants as word
use Rattle.ob_lex.specs.declared.token.Token.{Token}
use Rattle.ob_base.specs.declared.operators.AssignOp.{AssignOp}
use Rattle.ob_base.specs.declared.operators.UpdateOp.{UpdateOp}
use Rattle.ob_base.specs.declared.operators.ChangeOp.{ChangeOp}
use Rattle.ob_tree_types.specs.declared.tree.Expr.{Expr}
use Rattle.ob_tree_types.specs.declared.tree.Expr.TheVariants as node
use Rattle.ob_tree_types.specs.declared.tree.PropNode.{PropNode}
use Rattle.ob_tree_types.specs.declared.tree.PropNode.TheVariants as prop
use Rattle.ob_tree_types.specs.declared.tree.Function.{Function}
use Rattle.ob_tree_types.specs.declared.tree.FnBody.{FnBody}
use Rattle.ob_tree_types.specs.declared.tree.FnBody.TheVariants as body
use Rattle.ob_tree_types.specs.declared.tree.Decl.{Decl}
use Rattle.ob_tree_types.specs.declared.tree.DeclValue.TheVariants as value
use Rattle.ob_tree_types.specs.declared.tree.Stmt.{Stmt}
use Rattle.ob_tree_types.specs.declared.tree.Stmt.TheVariants as stmt
use Rattle.ob_tree_types.specs.declared.tree.ForHead.{ForHead}
use Rattle.ob_tree_types.specs.declared.tree.ForHead.TheVariants as head
use Rattle.ob_tree_types.specs.declared.tree.CatchPart.{CatchPart}
use Rattle.ob_grammar.specs.Marks.{IsMark, IsWord, IsName, SameLine, StartsOnLine, NotMark, NotWord, word_of, key_of, literal_of, rank, joined, infix_of, unary_of, update_of, assign_of, change_of, step_of, declares_constant}
use Rattle.ob_grammar.specs.declared.form.Infix.{Infix}
use Rattle.ob_grammar.specs.declared.form.Form.{Form}
use Rattle.ob_grammar.specs.declared.form.Form.TheVariants.{Target, Other, Updated, Closed, Bare}
use Rattle.ob_grammar.specs.Forms.{edge, Ends}
use Rattle.ob_grammar.specs.declared.piece.Signature.{Signature}
use Rattle.ob_grammar.specs.Lists.{ReadsArrowHead, ReadsSignature}

pub data Rule : Type 0 where
  -- Expr
  whole : Rule
  -- Cond
  conditional : Rule
  short : Rule
  -- Product, Sum, Shift, Rel, Equal, BitAnd, BitXor, BitOr, And, Or are 0 to 9: the operators of ranks 3 to 12
  chain : ℕ → Rule
  power : Rule
  -- Unary
  prefixed : Rule
  update : Rule
  left : Rule
  primary : Rule

-- the rule of the operands of a chain
abbrev pub tighter : ℕ → Rule
tighter zero = power
tighter (suc k) = chain k

-- a function of these parameters without a name, which is no generator
abbrev pub arrow_function : List (List ℕ) → FnBody → Function
arrow_function xs b = record { name = None; params = xs; generator = false; body = b }

abbrev pub function_of : Signature → List Stmt → Function
function_of s items = record { name = s.name; params = s.params; generator = s.generator; body = body.Items items }

mutual
  -- ---- expressions (ECMA-262, "ECMAScript Language: Expressions")

  pub data Reads : Rule → List Token → Expr → Form → List Token → Type 0 where
    -- Expr = (Name | Params) nlb "=>" (Block | Expr) | Target AssignOp Expr | Cond  ("Assignment Operators", "Arrow Function Definitions")
    arrow : (ts mid rest : List Token) (t : Token) (xs : List (List ℕ)) (b : FnBody) (f : Form) → ReadsArrowHead ts xs (t ∷ mid) → IsMark mark.Arrow t
        → SameLine t → ReadsArrowBody mid b f rest → Reads whole ts (node.Arrow (arrow_function xs b)) f rest
    assigned : (ts mid rest : List Token) (t : Token) (op : AssignOp) (a b : Expr) (f : Form) → Reads left ts a Target (t ∷ mid)
        → assign_of t.kind ≡ Some op → Reads whole mid b f rest → Reads whole ts (node.Assign op a b) (edge f) rest
    unassigned : (ts rest : List Token) (a : Expr) (f : Form) → Reads conditional ts a f rest → Reads whole ts a f rest
    -- Cond = Short ["?" Expr ":" Expr]  ("Conditional Operator")
    chosen : (ts first second rest : List Token) (q c : Token) (a b d : Expr) (f g h : Form) → Reads short ts a f (q ∷ first) → IsMark mark.Question q
        → Reads whole first b g (c ∷ second) → IsMark mark.Colon c → Reads whole second d h rest → Reads conditional ts (node.Cond a b d) (edge h) rest
    unchosen : (ts rest : List Token) (a : Expr) (f : Form) → Reads short ts a f rest → Reads conditional ts a f rest
    -- Short = Or | BitOr {"??" BitOr}*  ("Binary Logical Operators")
    disjoined : (ts rest : List Token) (a : Expr) (f : Form) → Reads (chain 9) ts a f rest → Reads short ts a f rest
    coalesced : (ts mid rest : List Token) (first a : Expr) (f g : Form) → Reads (chain 7) ts first f mid → Continues (chain 7) 13 first f mid a g rest
        → Reads short ts a g rest
    -- Or = And {"||" And}*, And, BitOr, BitXor, BitAnd, Equal, Rel, Shift, Sum, Product = Power {("*" | "/" | "%") Power}*
    operands : (k : ℕ) (ts mid rest : List Token) (first a : Expr) (f g : Form) → Reads (tighter k) ts first f mid
        → Continues (tighter k) (k + 3) first f mid a g rest → Reads (chain k) ts a g rest
    -- Power = Unary | Update "**" Power  ("Exponentiation Operator")
    unraised : (ts rest : List Token) (a : Expr) (f : Form) → Reads prefixed ts a f rest → Reads power ts a f rest
    raised : (ts mid rest : List Token) (t : Token) (a b : Expr) (f g : Form) → Reads update ts a f (t ∷ mid) → IsMark mark.StarStar t
        → Reads power mid b g rest → Reads power ts (node.Binary Pow a b) (edge g) rest
    -- Unary = ("!" | "-" | "+" | "~" | "typeof" | "void") Unary | Update  ("Unary Operators")
    signed : (t : Token) (ts rest : List Token) (op : UnaryOp) (a : Expr) (f : Form) → unary_of t.kind ≡ Some op → Reads prefixed ts a f rest
        → Reads prefixed (t ∷ ts) (node.Unary op a) (edge f) rest
    unsigned : (ts rest : List Token) (a : Expr) (f : Form) → Reads update ts a f rest → Reads prefixed ts a f rest
    -- Update = ("++" | "--") Target | Target nlb ("++" | "--") | Left  ("Update Expressions")
    counted_before : (t : Token) (ts rest : List Token) (op : UpdateOp) (a : Expr) → update_of t.kind ≡ Some op → Reads left ts a Target rest
        → Reads update (t ∷ ts) (node.Update op true a) Other rest
    counted_behind : (ts rest : List Token) (t : Token) (op : UpdateOp) (a : Expr) → Reads left ts a Target (t ∷ rest) → update_of t.kind ≡ Some op
        → SameLine t → Reads update ts (node.Update op false a) Updated rest
    uncounted : (ts rest : List Token) (a : Expr) (f : Form) → Reads left ts a f rest → Reads update ts a f rest
    -- Left = Primary {"." Word | "[" Expr "]" | Args}*  ("Left-Hand-Side Expressions"). A piece of form target is:
    -- Target = Name | Left "." Word | Left "[" Expr "]"
    steps : (ts mid rest : List Token) (first a : Expr) (f g : Form) → Reads primary ts first f mid → Steps first f mid a g rest → Reads left ts a g rest
    -- Primary = Number | Text | "true" | "false" | "null" | "undefined" | Name  ("Primary Expression")
    literal : (t : Token) (ts : List Token) (a : Expr) → literal_of t.kind ≡ Some a → Reads primary (t ∷ ts) a Other ts
    name : (t : Token) (ts : List Token) (x : List ℕ) → IsName x t → Reads primary (t ∷ ts) (node.Name x) Target ts
    -- | "viewof" Name  (this project)
    viewof_name : (t n : Token) (ts : List Token) (x : List ℕ) → IsWord word.Viewof t → IsName x n → Reads primary (t ∷ n ∷ ts) (node.ViewofName x) Other ts
    -- | "new" Name Args  ("The new Operator")
    made : (t n p : Token) (ts rest : List Token) (x : List ℕ) (args : List Expr) → IsWord word.New t → IsName x n → IsMark mark.OpenParenthesis p
        → ReadsList mark.CloseParenthesis ts args rest → Reads primary (t ∷ n ∷ p ∷ ts) (node.New x args) Other rest
    -- | "(" Expr ")"  ("The Grouping Operator")
    parentheses : (t c : Token) (ts rest : List Token) (a : Expr) (f : Form) → IsMark mark.OpenParenthesis t → Reads whole ts a f (c ∷ rest)
        → IsMark mark.CloseParenthesis c → Reads primary (t ∷ ts) a Other rest
    -- | "[" [Expr {"," Expr}* [","]] "]"  ("Array Initializer")
    array : (t : Token) (ts rest : List Token) (items : List Expr) → IsMark mark.OpenBracket t → ReadsList mark.CloseBracket ts items rest
        → Reads primary (t ∷ ts) (node.Array items) Other rest
    -- | "{" [Prop {"," Prop}* [","]] "}"  ("Object Initializer")
    object : (t : Token) (ts rest : List Token) (props : List PropNode) → IsMark mark.OpenBrace t → ReadsProps ts props rest
        → Reads primary (t ∷ ts) (node.Object props) Other rest
    -- | "function" ["*"] [Name] Params Block  ("Function Definitions", "Generator Function Definitions")
    function_expression : (ts rest : List Token) (g : Function) → ReadsFunction ts g rest → Reads primary ts (node.Function g) Other rest

  -- any number of an operator of that rank and an operand of that rule, grouped to the left
  pub data Continues : Rule → ℕ → Expr → Form → List Token → Expr → Form → List Token → Type 0 where
    no_more : (r : Rule) (n : ℕ) (a : Expr) (f : Form) (ts : List Token) → Continues r n a f ts a f ts
    goes_on : (r : Rule) (n : ℕ) (a b c : Expr) (f g h : Form) (t : Token) (ts mid rest : List Token) (op : Infix) → rank t ≡ n
        → infix_of t.kind ≡ Some op → Reads r ts b g mid → Continues r n (joined op a b) (edge g) mid c h rest → Continues r n a f (t ∷ ts) c h rest

  -- {"." Word | "[" Expr "]" | Args}*
  pub data Steps : Expr → Form → List Token → Expr → Form → List Token → Type 0 where
    no_step : (a : Expr) (f : Form) (ts : List Token) → Steps a f ts a f ts
    member : (a b : Expr) (f g : Form) (t n : Token) (x : List ℕ) (ts rest : List Token) → IsMark mark.Dot t → word_of n.kind ≡ Some x
        → Steps (node.Member a x) Target ts b g rest → Steps a f (t ∷ n ∷ ts) b g rest
    index : (a b k : Expr) (f g h : Form) (t c : Token) (ts mid rest : List Token) → IsMark mark.OpenBracket t → Reads whole ts k h (c ∷ mid)
        → IsMark mark.CloseBracket c → Steps (node.Index a k) Target mid b g rest → Steps a f (t ∷ ts) b g rest
    -- Args = "(" [Expr {"," Expr}* [","]] ")"
    call : (a b : Expr) (f g : Form) (t : Token) (args : List Expr) (ts mid rest : List Token) → IsMark mark.OpenParenthesis t
        → ReadsList mark.CloseParenthesis ts args mid → Steps (node.Call a args) Other mid b g rest → Steps a f (t ∷ ts) b g rest

  -- [Expr {"," Expr}* [","]] and the mark that closes the list
  pub data ReadsList : Punctuator → List Token → List Expr → List Token → Type 0 where
    no_item : (close : Punctuator) (t : Token) (ts : List Token) → IsMark close t → ReadsList close (t ∷ ts) [] ts
    last_item : (close : Punctuator) (c : Token) (ts rest : List Token) (a : Expr) (f : Form) → Reads whole ts a f (c ∷ rest) → IsMark close c → ReadsList close ts (a ∷ []) rest
    more_list : (close : Punctuator) (c : Token) (ts mid rest : List Token) (a : Expr) (f : Form) (items : List Expr) → Reads whole ts a f (c ∷ mid) → IsMark mark.Comma c
        → ReadsList close mid items rest → ReadsList close ts (a ∷ items) rest

  -- [Prop {"," Prop}* [","]] "}"
  pub data ReadsProps : List Token → List PropNode → List Token → Type 0 where
    no_prop : (t : Token) (ts : List Token) → IsMark mark.CloseBrace t → ReadsProps (t ∷ ts) [] ts
    last_prop : (c : Token) (ts rest : List Token) (p : PropNode) → ReadsProp ts p (c ∷ rest) → IsMark mark.CloseBrace c → ReadsProps ts (p ∷ []) rest
    more_props : (c : Token) (ts mid rest : List Token) (p : PropNode) (ps : List PropNode) → ReadsProp ts p (c ∷ mid) → IsMark mark.Comma c
        → ReadsProps mid ps rest → ReadsProps ts (p ∷ ps) rest

  -- Prop = Name | (Word | Text | Number | "[" Expr "]") ":" Expr
  pub data ReadsProp : List Token → PropNode → List Token → Type 0 where
    short_prop : (t : Token) (ts : List Token) (x : List ℕ) → IsName x t → ReadsProp (t ∷ ts) (prop.Short x) ts
    fixed_prop : (t c : Token) (ts rest : List Token) (key : List ℕ) (a : Expr) (f : Form) → key_of t.kind ≡ Some key → IsMark mark.Colon c
        → Reads whole ts a f rest → ReadsProp (t ∷ c ∷ ts) (prop.Fixed key a) rest
    computed_prop : (t e c : Token) (ts mid rest : List Token) (k a : Expr) (f g : Form) → IsMark mark.OpenBracket t → Reads whole ts k f (e ∷ c ∷ mid)
        → IsMark mark.CloseBracket e → IsMark mark.Colon c → Reads whole mid a g rest → ReadsProp (t ∷ ts) (prop.Computed k a) rest

  -- Block | Expr, behind "=>"; the expression does not begin with "{"
  pub data ReadsArrowBody : List Token → FnBody → Form → List Token → Type 0 where
    block_body : (ts rest : List Token) (items : List Stmt) → ReadsBlock ts items rest → ReadsArrowBody ts (body.Items items) Closed rest
    value_body : (ts rest : List Token) (a : Expr) (f : Form) → NotMark mark.OpenBrace ts → Reads whole ts a f rest
        → ReadsArrowBody ts (body.Value a) (edge f) rest

  -- "function" ["*"] [Name] Params Block
  pub data ReadsFunction : List Token → Function → List Token → Type 0 where
    function : (t : Token) (ts mid rest : List Token) (s : Signature) (items : List Stmt) → IsWord word.Function t → ReadsSignature ts s mid
        → ReadsBlock mid items rest → ReadsFunction (t ∷ ts) (function_of s items) rest

  -- ---- statements and declarations (ECMA-262, "ECMAScript Language: Statements and Declarations")

  -- Block = "{" {Item}* "}"  ("Block")
  pub data ReadsBlock : List Token → List Stmt → List Token → Type 0 where
    block : (t : Token) (ts rest : List Token) (items : List Stmt) → IsMark mark.OpenBrace t → ReadsItems ts items rest → ReadsBlock (t ∷ ts) items rest

  -- {Item}* "}"
  pub data ReadsItems : List Token → List Stmt → List Token → Type 0 where
    no_items : (t : Token) (ts : List Token) → IsMark mark.CloseBrace t → ReadsItems (t ∷ ts) [] ts
    more_items : (ts mid rest : List Token) (s : Stmt) (items : List Stmt) → ReadsItem ts s mid → ReadsItems mid items rest → ReadsItems ts (s ∷ items) rest

  -- Item = Stmt | ("let" | "const") Decl {"," Decl}* ";" | "function" ["*"] Name Params Block  ("Let and Const Declarations")
  pub data ReadsItem : List Token → Stmt → List Token → Type 0 where
    statement : (ts rest : List Token) (s : Stmt) → ReadsStmt ts s rest → ReadsItem ts s rest
    let_item : (t : Token) (ts mid rest : List Token) (ds : List Decl) (f : Form) → IsWord word.Let t → ReadsDecls ts ds f mid → Ends f mid rest
        → ReadsItem (t ∷ ts) (stmt.Let ds) rest
    const_item : (t : Token) (ts mid rest : List Token) (ds : List Decl) (f : Form) → IsWord word.Const t → ReadsDecls ts ds f mid → Ends f mid rest
        → ReadsItem (t ∷ ts) (stmt.Const ds) rest
    function_item : (ts rest : List Token) (g : Function) (x : List ℕ) → ReadsFunction ts g rest → g.name ≡ Some x → ReadsItem ts (stmt.Function g) rest

  -- Decl {"," Decl}*
  pub data ReadsDecls : List Token → List Decl → Form → List Token → Type 0 where
    last_decl : (ts rest : List Token) (d : Decl) (f : Form) → ReadsDecl ts d f rest → ReadsDecls ts (d ∷ []) f rest
    more_decls : (c : Token) (ts mid rest : List Token) (d : Decl) (ds : List Decl) (f g : Form) → ReadsDecl ts d f (c ∷ mid) → IsMark mark.Comma c
        → ReadsDecls mid ds g rest → ReadsDecls ts (d ∷ ds) g rest

  -- Decl = Name ["=" (Expr | Yield)]
  pub data ReadsDecl : List Token → Decl → Form → List Token → Type 0 where
    decl_name : (t : Token) (ts : List Token) (x : List ℕ) → IsName x t → ReadsDecl (t ∷ ts) (record { name = x; value = value.Nothing }) Closed ts
    decl_value : (t q : Token) (ts rest : List Token) (x : List ℕ) (a : Expr) (f : Form) → IsName x t → IsMark mark.Assign q → Reads whole ts a f rest
        → ReadsDecl (t ∷ q ∷ ts) (record { name = x; value = value.Value a }) f rest
    decl_yield : (t q : Token) (ts rest : List Token) (x : List ℕ) (a : Option Expr) (f : Form) → IsName x t → IsMark mark.Assign q → ReadsYield ts a f rest
        → ReadsDecl (t ∷ q ∷ ts) (record { name = x; value = value.Yield a }) f rest

  -- Yield = "yield" [nlb Expr]  ("Generator Function Definitions")
  pub data ReadsYield : List Token → Option Expr → Form → List Token → Type 0 where
    yield_alone : (t : Token) (ts : List Token) → IsWord word.Yield t → ReadsYield (t ∷ ts) None Bare ts
    yield_value : (t : Token) (ts rest : List Token) (a : Expr) (f : Form) → IsWord word.Yield t → StartsOnLine ts → Reads whole ts a f rest
        → ReadsYield (t ∷ ts) (Some a) f rest

  pub data ReadsStmt : List Token → Stmt → List Token → Type 0 where
    -- Stmt = Block | ";"  ("Block", "Empty Statement")
    block_statement : (ts rest : List Token) (items : List Stmt) → ReadsBlock ts items rest → ReadsStmt ts (stmt.Block items) rest
    empty : (t : Token) (ts : List Token) → IsMark mark.Semicolon t → ReadsStmt (t ∷ ts) stmt.Empty ts
    -- | Expr ";", which begins neither with "{" nor with "function"  ("Expression Statement")
    expression : (ts mid rest : List Token) (a : Expr) (f : Form) → NotMark mark.OpenBrace ts → NotWord word.Function ts → Reads whole ts a f mid
        → Ends f mid rest → ReadsStmt ts (stmt.Expr a) rest
    -- | Yield ";" | Name "=" Yield ";"
    yielded : (ts mid rest : List Token) (a : Option Expr) (f : Form) → ReadsYield ts a f mid → Ends f mid rest → ReadsStmt ts (stmt.Yield None a) rest
    yield_assigned : (t q : Token) (ts mid rest : List Token) (x : List ℕ) (a : Option Expr) (f : Form) → IsName x t → IsMark mark.Assign q
        → ReadsYield ts a f mid → Ends f mid rest → ReadsStmt (t ∷ q ∷ ts) (stmt.Yield (Some x) a) rest
    -- | "mutable" Name ("=" | "+=" | "-=" | "*=") Expr ";" | "mutable" Name nlb ("++" | "--") ";"  (this project)
    changed : (t n q : Token) (ts mid rest : List Token) (x : List ℕ) (op : ChangeOp) (a : Expr) (f : Form) → IsWord word.Mutable t → IsName x n
        → change_of q.kind ≡ Some op → Reads whole ts a f mid → Ends f mid rest → ReadsStmt (t ∷ n ∷ q ∷ ts) (stmt.Change x op (Some a)) rest
    stepped : (t n q : Token) (ts rest : List Token) (x : List ℕ) (op : ChangeOp) → IsWord word.Mutable t → IsName x n → step_of q.kind ≡ Some op
        → SameLine q → Ends Bare ts rest → ReadsStmt (t ∷ n ∷ q ∷ ts) (stmt.Change x op None) rest
    -- | "if" "(" Expr ")" Stmt ["else" Stmt], the "else" of the nearest "if"  ("The if Statement")
    if_alone : (t : Token) (ts mid rest : List Token) (a : Expr) (s : Stmt) → IsWord word.If t → ReadsTest ts a mid → ReadsStmt mid s rest
        → NotWord word.Else rest → ReadsStmt (t ∷ ts) (stmt.If a s None) rest
    if_else : (t e : Token) (ts mid next rest : List Token) (a : Expr) (s u : Stmt) → IsWord word.If t → ReadsTest ts a mid → ReadsStmt mid s (e ∷ next)
        → IsWord word.Else e → ReadsStmt next u rest → ReadsStmt (t ∷ ts) (stmt.If a s (Some u)) rest
    -- | "while" "(" Expr ")" Stmt  ("The while Statement")
    while_loop : (t : Token) (ts mid rest : List Token) (a : Expr) (s : Stmt) → IsWord word.While t → ReadsTest ts a mid → ReadsStmt mid s rest
        → ReadsStmt (t ∷ ts) (stmt.While a s) rest
    -- | "do" Stmt "while" "(" Expr ")" [";"], a ";" that stands there included  ("The do-while Statement")
    do_loop : (t w : Token) (ts mid rest : List Token) (s : Stmt) (a : Expr) → IsWord word.Do t → ReadsStmt ts s (w ∷ mid) → IsWord word.While w
        → ReadsTest mid a rest → NotMark mark.Semicolon rest → ReadsStmt (t ∷ ts) (stmt.DoWhile s a) rest
    do_loop_ended : (t w e : Token) (ts mid rest : List Token) (s : Stmt) (a : Expr) → IsWord word.Do t → ReadsStmt ts s (w ∷ mid) → IsWord word.While w
        → ReadsTest mid a (e ∷ rest) → IsMark mark.Semicolon e → ReadsStmt (t ∷ ts) (stmt.DoWhile s a) rest
    -- | "for" "(" [("let" | "const") Decl {"," Decl}* | Expr] ";" [Expr] ";" [Expr] ")" Stmt  ("The for Statement")
    for_loop : (t p : Token) (ts tested counted turn rest : List Token) (h : ForHead) (a b : Option Expr) (s : Stmt) → IsWord word.For t
        → IsMark mark.OpenParenthesis p → ReadsHead ts h tested → ReadsOptional mark.Semicolon tested a counted
        → ReadsOptional mark.CloseParenthesis counted b turn → ReadsStmt turn s rest → ReadsStmt (t ∷ p ∷ ts) (stmt.For h a b s) rest
    -- | "for" "(" ("let" | "const") Name "of" Expr ")" Stmt  ("The for-in, for-of, and for-await-of Statements")
    for_of : (t p d n o c : Token) (ts mid rest : List Token) (constant : Bool) (x : List ℕ) (a : Expr) (f : Form) (s : Stmt) → IsWord word.For t
        → IsMark mark.OpenParenthesis p → declares_constant d.kind ≡ Some constant → IsName x n → IsName (codes "of") o → Reads whole ts a f (c ∷ mid)
        → IsMark mark.CloseParenthesis c → ReadsStmt mid s rest → ReadsStmt (t ∷ p ∷ d ∷ n ∷ o ∷ ts) (stmt.ForOf constant x a s) rest
    -- | "break" ";" | "continue" ";"  ("The break Statement", "The continue Statement")
    break : (t : Token) (ts rest : List Token) → IsWord word.Break t → Ends Bare ts rest → ReadsStmt (t ∷ ts) stmt.Break rest
    continue : (t : Token) (ts rest : List Token) → IsWord word.Continue t → Ends Bare ts rest → ReadsStmt (t ∷ ts) stmt.Continue rest
    -- | "return" [nlb Expr] ";"  ("The return Statement")
    return_alone : (t : Token) (ts rest : List Token) → IsWord word.Return t → Ends Bare ts rest → ReadsStmt (t ∷ ts) (stmt.Return None) rest
    return_value : (t : Token) (ts mid rest : List Token) (a : Expr) (f : Form) → IsWord word.Return t → StartsOnLine ts → Reads whole ts a f mid
        → Ends f mid rest → ReadsStmt (t ∷ ts) (stmt.Return (Some a)) rest
    -- | "throw" nlb Expr ";"  ("The throw Statement")
    throw : (t : Token) (ts mid rest : List Token) (a : Expr) (f : Form) → IsWord word.Throw t → StartsOnLine ts → Reads whole ts a f mid
        → Ends f mid rest → ReadsStmt (t ∷ ts) (stmt.Throw a) rest
    -- | "try" Block "catch" ["(" Name ")"] Block  ("The try Statement")
    try_catch : (t c : Token) (ts mid rest : List Token) (items : List Stmt) (p : CatchPart) → IsWord word.Try t → ReadsBlock ts items (c ∷ mid)
        → IsWord word.Catch c → ReadsCatch mid p rest → ReadsStmt (t ∷ ts) (stmt.Try items (Some p) None) rest

  -- "(" Expr ")"
  pub data ReadsTest : List Token → Expr → List Token → Type 0 where
    test : (t c : Token) (ts rest : List Token) (a : Expr) (f : Form) → IsMark mark.OpenParenthesis t → Reads whole ts a f (c ∷ rest)
        → IsMark mark.CloseParenthesis c → ReadsTest (t ∷ ts) a rest

  -- [("let" | "const") Decl {"," Decl}* | Expr] ";"
  pub data ReadsHead : List Token → ForHead → List Token → Type 0 where
    no_head : (t : Token) (ts : List Token) → IsMark mark.Semicolon t → ReadsHead (t ∷ ts) head.Nothing ts
    let_head : (t e : Token) (ts rest : List Token) (ds : List Decl) (f : Form) → IsWord word.Let t → ReadsDecls ts ds f (e ∷ rest)
        → IsMark mark.Semicolon e → ReadsHead (t ∷ ts) (head.Let ds) rest
    const_head : (t e : Token) (ts rest : List Token) (ds : List Decl) (f : Form) → IsWord word.Const t → ReadsDecls ts ds f (e ∷ rest)
        → IsMark mark.Semicolon e → ReadsHead (t ∷ ts) (head.Const ds) rest
    expr_head : (e : Token) (ts rest : List Token) (a : Expr) (f : Form) → Reads whole ts a f (e ∷ rest) → IsMark mark.Semicolon e
        → ReadsHead ts (head.Expr a) rest

  -- [Expr] and the mark behind it
  pub data ReadsOptional : Punctuator → List Token → Option Expr → List Token → Type 0 where
    absent : (close : Punctuator) (t : Token) (ts : List Token) → IsMark close t → ReadsOptional close (t ∷ ts) None ts
    present : (close : Punctuator) (c : Token) (ts rest : List Token) (a : Expr) (f : Form) → Reads whole ts a f (c ∷ rest) → IsMark close c → ReadsOptional close ts (Some a) rest

  -- ["(" Name ")"] Block
  pub data ReadsCatch : List Token → CatchPart → List Token → Type 0 where
    catch_all : (ts rest : List Token) (items : List Stmt) → ReadsBlock ts items rest → ReadsCatch ts (record { name = None; items = items }) rest
    catch_name : (t n c : Token) (ts rest : List Token) (x : List ℕ) (items : List Stmt) → IsMark mark.OpenParenthesis t → IsName x n
        → IsMark mark.CloseParenthesis c → ReadsBlock ts items rest → ReadsCatch (t ∷ n ∷ c ∷ ts) (record { name = Some x; items = items }) rest
