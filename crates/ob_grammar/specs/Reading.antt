-- The descent on expressions and statements, as functions on lists of tokens. `inner` and `nested` read a piece one nesting deeper: what
-- stands in brackets, a statement in a statement, or what an operator has on its right, so that no nesting is without a bracket or a deeper
-- tree. A number bounds the turns of a loop, and `limit` the depth of a tree that the turns of a loop build, since nothing else does.
use Rattle.std.specs.Prelude.{ℕ, zero, suc, ◌+◌, Bool, true, false, ◌==◌, nat_le, List, [], ◌∷◌, length, Option, Some, None, option_and_then, if◌then◌else◌}
use Rattle.ob_base.specs.declared.operators.BinaryOp.TheVariants.{Pow}
use Rattle.ob_base.specs.declared.operators.UnaryOp.{UnaryOp}
use Rattle.ob_lex.specs.declared.punctuator.Punctuator.TheVariants as mark
use Rattle.ob_base.specs.declared.reserved.ReservedWord.TheVariants as word
use Rattle.ob_lex.specs.declared.token.Token.{Token}
use Rattle.ob_lex.specs.declared.token.TokenKind.{TokenKind}
use Rattle.ob_lex.specs.declared.token.TokenKind.TheVariants as kind
use Rattle.ob_base.specs.declared.operators.AssignOp.{AssignOp}
use Rattle.ob_base.specs.declared.operators.UpdateOp.{UpdateOp}
use Rattle.ob_base.specs.declared.operators.ChangeOp.{ChangeOp}
use Rattle.ob_tree_types.specs.declared.tree.Expr.{Expr}
use Rattle.ob_tree_types.specs.declared.tree.Expr.TheVariants as node
use Rattle.ob_tree_types.specs.declared.tree.PropNode.{PropNode}
use Rattle.ob_tree_types.specs.declared.tree.PropNode.TheVariants as prop
use Rattle.ob_tree_types.specs.declared.tree.Function.{Function}
use Rattle.ob_tree_types.specs.declared.tree.FnBody.TheVariants as body
use Rattle.ob_tree_types.specs.declared.tree.Decl.{Decl}
use Rattle.ob_tree_types.specs.declared.tree.DeclValue.{DeclValue}
use Rattle.ob_tree_types.specs.declared.tree.DeclValue.TheVariants as value
use Rattle.ob_tree_types.specs.declared.tree.Stmt.{Stmt}
use Rattle.ob_tree_types.specs.declared.tree.Stmt.TheVariants as stmt
use Rattle.ob_tree_types.specs.declared.tree.ForHead.{ForHead}
use Rattle.ob_tree_types.specs.declared.tree.ForHead.TheVariants as head
use Rattle.ob_tree_types.specs.declared.tree.CatchPart.{CatchPart}
use Rattle.ob_tree.specs.Depth.{expr_depth}
use Rattle.ob_grammar.specs.Marks.{word_of, key_of, literal_of, rank, joined, infix_of, unary_of, update_of, assign_of, change_of, step_of, declares_constant}
use Rattle.ob_grammar.specs.declared.form.Infix.{Infix}
use Rattle.ob_grammar.specs.declared.form.Form.{Form}
use Rattle.ob_grammar.specs.declared.form.Form.TheVariants.{Target, Other, Updated, Closed, Bare}
use Rattle.ob_grammar.specs.Forms.{edge}
use Rattle.ob_grammar.specs.Grammar.{Rule, whole, conditional, short, chain, power, prefixed, update, left, primary, arrow_function, function_of}
use Rattle.ob_grammar.specs.declared.piece.Piece.{Piece}
use Rattle.ob_grammar.specs.declared.form.Level.{Level}
use Rattle.ob_grammar.specs.declared.form.Level.TheVariants as level
use Rattle.ob_grammar.specs.declared.piece.Body.{Body}
use Rattle.ob_grammar.specs.declared.piece.Held.{Held}
use Rattle.ob_grammar.specs.declared.piece.One.{One}
use Rattle.ob_grammar.specs.declared.piece.Several.{Several}
use Rattle.ob_grammar.specs.declared.piece.Each.{Each}
use Rattle.ob_grammar.specs.Taking.{Read, Parser, ◌>>=◌, mapped, piece, opens_parenthesis, closes_parenthesis, opens_bracket, closes_bracket, opens_brace, closes_brace, is_comma, is_semicolon, is_colon, is_question, is_star_star, is_assign, is_else, is_while, is_catch, is_yield, is_of, name_of, take, next_is, before, one, starts_on_line, no_value, ended, if_taken, arrow_head, signature_of}

abbrev pub declared : List ℕ → DeclValue → Form → One
declared x v f = record { decl = record { name = x; value = v }; form = f }

abbrev pub also_declared : Decl → Several → Several
also_declared d s = record { decls = d ∷ s.decls; form = s.form }

-- goes on with a piece whose tree is no deeper than the limit
unfoldable pub kept : ℕ → Piece → (Piece → Parser Piece) → Parser Piece
kept limit p go ts = if nat_le (expr_depth p.tree) limit then go p ts else None

module _ (limit : ℕ) (inner : Rule → Parser Piece) (nested : Level → Parser Stmt) where
  -- ---- lists

  abbrev pub list_by : Bool → Bool → Expr → Parser (List Expr) → Parser (List Expr)
  list_by true comma a more ts = Some (a ∷ [], ts)
  list_by false true a more ts = mapped (λ items. a ∷ items) (more ts)
  list_by false false a more ts = None

  abbrev pub after_item : (TokenKind → Bool) → Parser (List Expr) → Piece → Parser (List Expr)
  after_item closes more p [] = None
  after_item closes more p (c ∷ ts) = list_by (closes c.kind) (is_comma c.kind) p.tree more ts

  abbrev pub list_at : Option (List Token) → (TokenKind → Bool) → Parser (List Expr) → Parser (List Expr)
  list_at (Some rest) closes more ts = Some ([], rest)
  list_at None closes more ts = inner whole ts >>= after_item closes more

  -- expressions up to the mark that closes the list
  unfoldable pub list_from : (TokenKind → Bool) → ℕ → Parser (List Expr)
  list_from closes zero ts = None
  list_from closes (suc n) ts = list_at (take closes ts) closes (list_from closes n) ts

  unfoldable pub list_of : (TokenKind → Bool) → Parser (List Expr)
  list_of closes ts = list_from closes (length ts) ts

  abbrev pub computed_of : Parser PropNode
  computed_of ts = inner whole ts >>= λ k mid. if_taken (take closes_bracket mid) (λ colon. if_taken (take is_colon colon) (λ rest. mapped (λ p. prop.Computed k.tree p.tree) (inner whole rest)))

  abbrev pub named_prop : Option (List ℕ) → Parser PropNode
  named_prop (Some x) ts = Some (prop.Short x, ts)
  named_prop None ts = None

  abbrev pub keyed_prop : Option (List ℕ) → Parser PropNode
  keyed_prop (Some key) ts = mapped (λ p. prop.Fixed key p.tree) (inner whole ts)
  keyed_prop None ts = None

  abbrev pub prop_by : Bool → Option (List Token) → TokenKind → Parser PropNode
  prop_by true colon k ts = computed_of ts
  prop_by false (Some rest) k ts = keyed_prop (key_of k) rest
  prop_by false None k ts = named_prop (name_of k) ts

  unfoldable pub prop_of : Parser PropNode
  prop_of [] = None
  prop_of (t ∷ ts) = prop_by (opens_bracket t.kind) (take is_colon ts) t.kind ts

  abbrev pub props_by : Bool → Bool → PropNode → Parser (List PropNode) → Parser (List PropNode)
  props_by true comma p more ts = Some (p ∷ [], ts)
  props_by false true p more ts = mapped (λ ps. p ∷ ps) (more ts)
  props_by false false p more ts = None

  abbrev pub after_prop : Parser (List PropNode) → PropNode → Parser (List PropNode)
  after_prop more p [] = None
  after_prop more p (c ∷ ts) = props_by (closes_brace c.kind) (is_comma c.kind) p more ts

  abbrev pub props_at : Option (List Token) → Parser (List PropNode) → Parser (List PropNode)
  props_at (Some rest) more ts = Some ([], rest)
  props_at None more ts = prop_of ts >>= after_prop more

  unfoldable pub props_from : ℕ → Parser (List PropNode)
  props_from zero ts = None
  props_from (suc n) ts = props_at (take closes_brace ts) (props_from n) ts

  -- ---- blocks and functions

  abbrev pub items_at : Option (List Token) → Parser (List Stmt) → Parser (List Stmt)
  items_at (Some rest) more ts = Some ([], rest)
  items_at None more ts = nested level.Item ts >>= λ s mid. mapped (λ items. s ∷ items) (more mid)

  -- items up to the `}`
  unfoldable pub items_from : ℕ → Parser (List Stmt)
  items_from zero ts = None
  items_from (suc n) ts = items_at (take closes_brace ts) (items_from n) ts

  unfoldable pub block_of : Parser (List Stmt)
  block_of ts = if_taken (take opens_brace ts) (λ inside. items_from (length inside) inside)

  -- what follows the word `function`
  unfoldable pub function_rest : Parser Function
  function_rest ts = signature_of ts >>= λ s mid. mapped (function_of s) (block_of mid)

  -- ---- expressions

  abbrev pub made_of : List ℕ → Parser Piece
  made_of x ts = if_taken (take opens_parenthesis ts) (λ inside. mapped (λ args. piece (node.New x args) Other) (list_of closes_parenthesis inside))

  unfoldable pub primary_by : TokenKind → Parser Piece
  primary_by (kind.Name x) ts = Some (piece (node.Name x) Target, ts)
  primary_by (kind.Reserved word.Viewof) ts = mapped (λ x. piece (node.ViewofName x) Other) (one name_of ts)
  primary_by (kind.Reserved word.New) ts = one name_of ts >>= made_of
  primary_by (kind.Reserved word.Function) ts = mapped (λ g. piece (node.Function g) Other) (function_rest ts)
  primary_by (kind.Punctuator mark.OpenParenthesis) ts = inner whole ts >>= λ p mid. before closes_parenthesis (piece p.tree Other) mid
  primary_by (kind.Punctuator mark.OpenBracket) ts = mapped (λ items. piece (node.Array items) Other) (list_of closes_bracket ts)
  primary_by (kind.Punctuator mark.OpenBrace) ts = mapped (λ props. piece (node.Object props) Other) (props_from (length ts) ts)
  primary_by _ ts = None

  abbrev pub primary_at : Option Expr → TokenKind → Parser Piece
  primary_at (Some a) k ts = Some (piece a Other, ts)
  primary_at None k ts = primary_by k ts

  unfoldable pub primary_of : Parser Piece
  primary_of [] = None
  primary_of (t ∷ ts) = primary_at (literal_of t.kind) t.kind ts

  unfoldable pub step_by : TokenKind → Piece → Token → List Token → (Piece → Parser Piece) → Read Piece
  step_by (kind.Punctuator mark.Dot) p t ts go = one word_of ts >>= λ x. kept limit (piece (node.Member p.tree x) Target) go
  step_by (kind.Punctuator mark.OpenBracket) p t ts go = inner whole ts >>= λ k mid. if_taken (take closes_bracket mid) (kept limit (piece (node.Index p.tree k.tree) Target) go)
  step_by (kind.Punctuator mark.OpenParenthesis) p t ts go = list_of closes_parenthesis ts >>= λ args. kept limit (piece (node.Call p.tree args) Other) go
  step_by _ p t ts go = Some (p, t ∷ ts)

  unfoldable pub steps_from : ℕ → Piece → Parser Piece
  steps_from zero p ts = Some (p, ts)
  steps_from (suc n) p [] = Some (p, [])
  steps_from (suc n) p (t ∷ ts) = step_by t.kind p t ts (steps_from n)

  unfoldable pub left_of : Parser Piece
  left_of ts = primary_of ts >>= λ p mid. steps_from (length mid) p mid

  abbrev pub counted_by : Form → UpdateOp → Expr → Parser Piece
  counted_by Target op a ts = Some (piece (node.Update op true a) Other, ts)
  counted_by _ op a ts = None

  abbrev pub behind_by : Form → Bool → Option UpdateOp → Expr → Token → List Token → Read Piece
  behind_by Target false (Some op) a t ts = Some (piece (node.Update op false a) Updated, ts)
  behind_by f breaks op a t ts = Some (piece a f, t ∷ ts)

  unfoldable pub count_behind : Piece → Parser Piece
  count_behind p [] = Some (p, [])
  count_behind p (t ∷ ts) = behind_by p.form t.break_before (update_of t.kind) p.tree t ts

  abbrev pub update_at : Option UpdateOp → Token → List Token → Read Piece
  update_at (Some op) t ts = left_of ts >>= λ p. counted_by p.form op p.tree
  update_at None t ts = left_of (t ∷ ts) >>= count_behind

  unfoldable pub updated_of : Parser Piece
  updated_of [] = None
  updated_of (t ∷ ts) = update_at (update_of t.kind) t ts

  abbrev pub signed_by : UnaryOp → Parser Piece
  signed_by op ts = mapped (λ p. piece (node.Unary op p.tree) (edge p.form)) (inner prefixed ts)

  abbrev pub prefixed_at : Option UnaryOp → Token → List Token → Read Piece
  prefixed_at (Some op) t ts = signed_by op ts
  prefixed_at None t ts = updated_of (t ∷ ts)

  unfoldable pub prefixed_of : Parser Piece
  prefixed_of [] = None
  prefixed_of (t ∷ ts) = prefixed_at (unary_of t.kind) t ts

  abbrev pub raised_by : Option (List Token) → Piece → Parser Piece
  raised_by (Some rest) p ts = mapped (λ q. piece (node.Binary Pow p.tree q.tree) (edge q.form)) (inner power rest)
  raised_by None p ts = Some (p, ts)

  unfoldable pub raise : Piece → Parser Piece
  raise p ts = raised_by (take is_star_star ts) p ts

  abbrev pub power_at : Option UnaryOp → Token → List Token → Read Piece
  power_at (Some op) t ts = signed_by op ts
  power_at None t ts = updated_of (t ∷ ts) >>= raise

  unfoldable pub power_of : Parser Piece
  power_of [] = None
  power_of (t ∷ ts) = power_at (unary_of t.kind) t ts

  abbrev pub more_by : Option Infix → Piece → Token → List Token → Parser Piece → (Piece → Parser Piece) → Read Piece
  more_by (Some op) p t ts next go = next ts >>= λ q. kept limit (piece (joined op p.tree q.tree) (edge q.form)) go
  more_by None p t ts next go = Some (p, t ∷ ts)

  -- the operator of that rank
  abbrev pub operator_at : ℕ → Token → Option Infix
  operator_at n t = if rank t == n then infix_of t.kind else None

  unfoldable pub operands_from : Parser Piece → ℕ → ℕ → Piece → Parser Piece
  operands_from next n zero p ts = Some (p, ts)
  operands_from next n (suc m) p [] = Some (p, [])
  operands_from next n (suc m) p (t ∷ ts) = more_by (operator_at n t) p t ts next (operands_from next n m)

  -- what follows the first operand
  unfoldable pub operands_of : Parser Piece → ℕ → Piece → Parser Piece
  operands_of next n p ts = operands_from next n (length ts) p ts

  unfoldable pub chain_of : ℕ → Parser Piece
  chain_of zero ts = power_of ts >>= operands_of (inner power) 3
  chain_of (suc k) ts = chain_of k ts >>= operands_of (inner (chain k)) (suc k + 3)

  abbrev pub has_rank : ℕ → List Token → Bool
  has_rank n [] = false
  has_rank n (t ∷ ts) = rank t == n

  -- behind an operand of `|`: a chain of `??`, or of `&&` and `||`
  abbrev pub short_by : Bool → Piece → Parser Piece
  short_by true p ts = operands_of (inner (chain 7)) 13 p ts
  short_by false p ts = operands_of (inner (chain 7)) 11 p ts >>= operands_of (inner (chain 8)) 12

  unfoldable pub short_of : Parser Piece
  short_of ts = chain_of 7 ts >>= λ p mid. short_by (has_rank 13 mid) p mid

  abbrev pub chosen_by : Option (List Token) → Piece → Parser Piece
  chosen_by (Some first) p ts = inner whole first >>= λ q mid. if_taken (take is_colon mid) (λ second. mapped (λ r. piece (node.Cond p.tree q.tree r.tree) (edge r.form)) (inner whole second))
  chosen_by None p ts = Some (p, ts)

  unfoldable pub conditional_of : Parser Piece
  conditional_of ts = short_of ts >>= λ p mid. chosen_by (take is_question mid) p mid

  abbrev pub assign_by : Form → Option AssignOp → Expr → Token → List Token → Read Piece
  assign_by Target (Some op) a t ts = mapped (λ q. piece (node.Assign op a q.tree) (edge q.form)) (inner whole ts)
  assign_by f op a t ts = Some (piece a f, t ∷ ts)

  unfoldable pub assigned_of : Piece → Parser Piece
  assigned_of p [] = Some (p, [])
  assigned_of p (t ∷ ts) = assign_by p.form (assign_of t.kind) p.tree t ts

  abbrev pub body_by : Bool → Parser Body
  body_by true ts = mapped (λ items. record { tree = body.Items items; form = Closed }) (block_of ts)
  body_by false ts = mapped (λ p. record { tree = body.Value p.tree; form = edge p.form }) (inner whole ts)

  unfoldable pub arrow_body : Parser Body
  arrow_body ts = body_by (next_is opens_brace ts) ts

  abbrev pub whole_by : Read (List (List ℕ)) → Parser Piece
  whole_by (Some p) ts = mapped (λ b. piece (node.Arrow (arrow_function p.0 b.tree)) b.form) (arrow_body p.1)
  whole_by None ts = conditional_of ts >>= assigned_of

  unfoldable pub whole_of : Parser Piece
  whole_of ts = whole_by (arrow_head ts) ts

  abbrev pub at : Rule → Parser Piece
  at whole = whole_of
  at conditional = conditional_of
  at short = short_of
  at (chain k) = chain_of k
  at power = power_of
  at prefixed = prefixed_of
  at update = updated_of
  at left = left_of
  at primary = primary_of

  -- ---- statements

  abbrev pub held_by : Bool → Parser Held
  held_by true ts = Some (record { value = None; form = Bare }, ts)
  held_by false ts = mapped (λ p. record { value = Some p.tree; form = p.form }) (inner whole ts)

  -- what stands behind `return` or `yield`
  unfoldable pub held_of : Parser Held
  held_of ts = held_by (no_value ts) ts

  abbrev pub value_by : Option (List Token) → List ℕ → Parser One
  value_by (Some rest) x ts = mapped (λ h. declared x (value.Yield h.value) h.form) (held_of rest)
  value_by None x ts = mapped (λ p. declared x (value.Value p.tree) p.form) (inner whole ts)

  abbrev pub decl_by : Option (List Token) → List ℕ → Parser One
  decl_by (Some rest) x ts = value_by (take is_yield rest) x rest
  decl_by None x ts = Some (declared x value.Nothing Closed, ts)

  unfoldable pub decl_of : Parser One
  decl_of ts = one name_of ts >>= λ x mid. decl_by (take is_assign mid) x mid

  abbrev pub decls_by : Option (List Token) → One → Parser Several → Parser Several
  decls_by (Some rest) d more ts = mapped (also_declared d.decl) (more rest)
  decls_by None d more ts = Some (record { decls = d.decl ∷ []; form = d.form }, ts)

  unfoldable pub decls_from : ℕ → Parser Several
  decls_from zero ts = None
  decls_from (suc n) ts = decl_of ts >>= λ d mid. decls_by (take is_comma mid) d (decls_from n) mid

  unfoldable pub decls_of : Parser Several
  decls_of ts = decls_from (length ts) ts

  abbrev pub expression_of : Parser Stmt
  expression_of ts = inner whole ts >>= λ p mid. ended (stmt.Expr p.tree) p.form mid

  abbrev pub yield_of : Option (List ℕ) → Parser Stmt
  yield_of x ts = held_of ts >>= λ h mid. ended (stmt.Yield x h.value) h.form mid

  abbrev pub return_of : Parser Stmt
  return_of ts = held_of ts >>= λ h mid. ended (stmt.Return h.value) h.form mid

  abbrev pub throw_by : Bool → Parser Stmt
  throw_by true ts = inner whole ts >>= λ p mid. ended (stmt.Throw p.tree) p.form mid
  throw_by false ts = None

  -- what follows `=` and `yield`
  unfoldable pub assigned_yield : List Token → Option (List Token)
  assigned_yield ts = option_and_then (take is_yield) (take is_assign ts)

  abbrev pub named_by : Option (List Token) → List ℕ → Token → List Token → Read Stmt
  named_by (Some rest) x t ts = yield_of (Some x) rest
  named_by None x t ts = expression_of (t ∷ ts)

  abbrev pub stepped_by : Option ChangeOp → Bool → List ℕ → Parser Stmt
  stepped_by (Some op) false x ts = ended (stmt.Change x op None) Bare ts
  stepped_by _ _ x ts = None

  abbrev pub changed_by : Option ChangeOp → Token → List ℕ → Parser Stmt
  changed_by (Some op) q x ts = inner whole ts >>= λ p mid. ended (stmt.Change x op (Some p.tree)) p.form mid
  changed_by None q x ts = stepped_by (step_of q.kind) q.break_before x ts

  abbrev pub change_at : List ℕ → Parser Stmt
  change_at x [] = None
  change_at x (q ∷ ts) = changed_by (change_of q.kind) q x ts

  -- what follows `mutable`
  unfoldable pub changed_of : Parser Stmt
  changed_of ts = one name_of ts >>= change_at

  -- an expression in parentheses
  unfoldable pub test_of : Parser Expr
  test_of ts = if_taken (take opens_parenthesis ts) (λ inside. inner whole inside >>= λ p mid. before closes_parenthesis p.tree mid)

  abbrev pub else_by : Option (List Token) → Expr → Stmt → Parser Stmt
  else_by (Some next) a s ts = mapped (λ u. stmt.If a s (Some u)) (nested level.Statement next)
  else_by None a s ts = Some (stmt.If a s None, ts)

  -- what follows `if`, `while`, `do`
  unfoldable pub if_of : Parser Stmt
  if_of ts = test_of ts >>= λ a mid. nested level.Statement mid >>= λ s next. else_by (take is_else next) a s next

  unfoldable pub while_of : Parser Stmt
  while_of ts = test_of ts >>= λ a mid. mapped (stmt.While a) (nested level.Statement mid)

  abbrev pub or_all : Option (List Token) → List Token → List Token
  or_all (Some rest) ts = rest
  or_all None ts = ts

  unfoldable pub do_of : Parser Stmt
  do_of ts = nested level.Statement ts >>= λ s mid. if_taken (take is_while mid) (λ next. test_of next >>= λ a rest. Some (stmt.DoWhile s a, or_all (take is_semicolon rest) rest))

  abbrev pub optional_by : Option (List Token) → (TokenKind → Bool) → Parser (Option Expr)
  optional_by (Some rest) closes ts = Some (None, rest)
  optional_by None closes ts = inner whole ts >>= λ p mid. before closes (Some p.tree) mid

  -- an expression that may be missing, and the mark behind it
  unfoldable pub optional : (TokenKind → Bool) → Parser (Option Expr)
  optional closes ts = optional_by (take closes ts) closes ts

  unfoldable pub head_by : TokenKind → Token → List Token → Read ForHead
  head_by (kind.Punctuator mark.Semicolon) t ts = Some (head.Nothing, ts)
  head_by (kind.Reserved word.Let) t ts = decls_of ts >>= λ s mid. before is_semicolon (head.Let s.decls) mid
  head_by (kind.Reserved word.Const) t ts = decls_of ts >>= λ s mid. before is_semicolon (head.Const s.decls) mid
  head_by _ t ts = inner whole (t ∷ ts) >>= λ p mid. before is_semicolon (head.Expr p.tree) mid

  unfoldable pub head_of : Parser ForHead
  head_of [] = None
  head_of (t ∷ ts) = head_by t.kind t ts

  -- `let` or `const`, a name and `of`
  unfoldable pub of_head : Parser Each
  of_head ts = one declares_constant ts >>= λ c mid. one name_of mid >>= λ x next. before is_of (record { constant = c; name = x }) next

  abbrev pub turns_of : ForHead → Parser Stmt
  turns_of h ts = optional is_semicolon ts >>= λ a mid. optional closes_parenthesis mid >>= λ b turn. mapped (stmt.For h a b) (nested level.Statement turn)

  abbrev pub for_by : Read Each → Parser Stmt
  for_by (Some e) ts = inner whole e.1 >>= λ p mid. if_taken (take closes_parenthesis mid) (λ turn. mapped (stmt.ForOf e.0.constant e.0.name p.tree) (nested level.Statement turn))
  for_by None ts = head_of ts >>= turns_of

  -- what follows `for`
  unfoldable pub for_of : Parser Stmt
  for_of ts = if_taken (take opens_parenthesis ts) (λ inside. for_by (of_head inside) inside)

  abbrev pub caught : Option (List ℕ) → List Stmt → CatchPart
  caught x items = record { name = x; items = items }

  abbrev pub catch_by : Option (List Token) → Parser CatchPart
  catch_by (Some inside) ts = one name_of inside >>= λ x mid. if_taken (take closes_parenthesis mid) (λ next. mapped (caught (Some x)) (block_of next))
  catch_by None ts = mapped (caught None) (block_of ts)

  -- what follows `catch`, and what follows `try`
  unfoldable pub catch_of : Parser CatchPart
  catch_of ts = catch_by (take opens_parenthesis ts) ts

  unfoldable pub try_of : Parser Stmt
  try_of ts = block_of ts >>= λ items mid. if_taken (take is_catch mid) (λ next. mapped (λ p. stmt.Try items (Some p) None) (catch_of next))

  unfoldable pub statement_by : TokenKind → Token → List Token → Read Stmt
  statement_by (kind.Punctuator mark.OpenBrace) t ts = mapped stmt.Block (block_of (t ∷ ts))
  statement_by (kind.Punctuator mark.Semicolon) t ts = Some (stmt.Empty, ts)
  statement_by (kind.Name x) t ts = named_by (assigned_yield ts) x t ts
  statement_by (kind.Reserved word.Function) t ts = None
  statement_by (kind.Reserved word.Yield) t ts = yield_of None ts
  statement_by (kind.Reserved word.Mutable) t ts = changed_of ts
  statement_by (kind.Reserved word.If) t ts = if_of ts
  statement_by (kind.Reserved word.While) t ts = while_of ts
  statement_by (kind.Reserved word.Do) t ts = do_of ts
  statement_by (kind.Reserved word.For) t ts = for_of ts
  statement_by (kind.Reserved word.Break) t ts = ended stmt.Break Bare ts
  statement_by (kind.Reserved word.Continue) t ts = ended stmt.Continue Bare ts
  statement_by (kind.Reserved word.Return) t ts = return_of ts
  statement_by (kind.Reserved word.Throw) t ts = throw_by (starts_on_line ts) ts
  statement_by (kind.Reserved word.Try) t ts = try_of ts
  statement_by _ t ts = expression_of (t ∷ ts)

  unfoldable pub statement_of : Parser Stmt
  statement_of [] = None
  statement_of (t ∷ ts) = statement_by t.kind t ts

  abbrev pub named_function : Option (List ℕ) → Function → Parser Stmt
  named_function (Some x) g ts = Some (stmt.Function g, ts)
  named_function None g ts = None

  unfoldable pub item_by : TokenKind → Token → List Token → Read Stmt
  item_by (kind.Reserved word.Let) t ts = decls_of ts >>= λ s mid. ended (stmt.Let s.decls) s.form mid
  item_by (kind.Reserved word.Const) t ts = decls_of ts >>= λ s mid. ended (stmt.Const s.decls) s.form mid
  item_by (kind.Reserved word.Function) t ts = function_rest ts >>= λ g. named_function g.name g
  item_by k t ts = statement_by k t ts

  unfoldable pub item_of : Parser Stmt
  item_of [] = None
  item_of (t ∷ ts) = item_by t.kind t ts

  abbrev pub at_level : Level → Parser Stmt
  at_level level.Item = item_of
  at_level level.Statement = statement_of

-- with pieces nested no deeper than the number
unfoldable mutual
  pub reads : ℕ → ℕ → Rule → Parser Piece
  reads limit zero rule ts = None
  reads limit (suc n) rule ts = at limit (reads limit n) (reads_statement limit n) rule ts

  pub reads_statement : ℕ → ℕ → Level → Parser Stmt
  reads_statement limit zero level ts = None
  reads_statement limit (suc n) level ts = at_level limit (reads limit n) (reads_statement limit n) level ts
