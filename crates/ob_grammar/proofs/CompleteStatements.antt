-- What the descent gives of statements and declarations, from what it gives of their parts.
use Rattle.std.proofs.Common.{◌≡◌, ℕ, suc, List, [], ◌∷◌, length, Bool, true, false, Option, Some, None, option_and_then, option_map, refl, sym, subst, ap, ◌∙◌, inl, cond}
use Rattle.std.specs.Prelude.{codes}
use Rattle.ob_lex.specs.declared.punctuator.Punctuator.{Punctuator}
use Rattle.ob_lex.specs.declared.punctuator.Punctuator.TheVariants as mark
use Rattle.ob_base.specs.declared.reserved.ReservedWord.TheVariants as word
use Rattle.ob_lex.specs.declared.token.Token.{Token}
use Rattle.ob_lex.specs.declared.token.TokenKind.{TokenKind}
use Rattle.ob_lex.specs.declared.token.TokenKind.TheVariants as kind
use Rattle.ob_base.specs.declared.operators.ChangeOp.{ChangeOp}
use Rattle.ob_tree_types.specs.declared.tree.Expr.{Expr}
use Rattle.ob_tree_types.specs.declared.tree.Function.{Function}
use Rattle.ob_tree_types.specs.declared.tree.Decl.{Decl}
use Rattle.ob_tree_types.specs.declared.tree.DeclValue.TheVariants as value
use Rattle.ob_tree_types.specs.declared.tree.Stmt.{Stmt}
use Rattle.ob_tree_types.specs.declared.tree.Stmt.TheVariants as stmt
use Rattle.ob_tree_types.specs.declared.tree.ForHead.{ForHead}
use Rattle.ob_tree_types.specs.declared.tree.ForHead.TheVariants as head
use Rattle.ob_tree_types.specs.declared.tree.CatchPart.{CatchPart}
use Rattle.ob_grammar.specs.Marks.{IsMark, IsWord, IsName, SameLine, StartsOnLine, NotMark, NotWord, change_of, step_of, declares_constant}
use Rattle.ob_grammar.specs.declared.form.Form.{Form}
use Rattle.ob_grammar.specs.declared.form.Form.TheVariants.{Closed, Bare}
use Rattle.ob_grammar.specs.declared.form.Level.{Level}
use Rattle.ob_grammar.specs.declared.form.Level.TheVariants as level
use Rattle.ob_grammar.specs.declared.piece.Piece.{Piece}
use Rattle.ob_grammar.specs.declared.piece.Held.{Held}
use Rattle.ob_grammar.specs.declared.piece.Several.{Several}
use Rattle.ob_grammar.specs.declared.piece.Each.{Each}
use Rattle.ob_grammar.specs.Forms.{Stops, Ends}
use Rattle.ob_grammar.specs.Grammar.{Rule, whole, Reads, ReadsStmt, ReadsDecls, ReadsDecl, ReadsBlock, ReadsHead}
use Rattle.ob_grammar.specs.Grammar.{block, last_decl, more_decls, decl_name, decl_value, decl_yield, no_head, let_head, const_head, expr_head}
use Rattle.ob_grammar.specs.Taking.{Parser, ◌>>=◌, piece, opens_parenthesis, closes_parenthesis, is_comma, is_semicolon, is_assign, is_else, is_while, is_catch, is_yield, is_of, name_of, take, before, one, no_value, end_of, ended}
use Rattle.ob_grammar.specs.Reading as reading
use Rattle.ob_grammar.specs.Reading.{declared, also_declared, block_of, function_rest, held_by, held_of, value_by, decl_by, decl_of, decls_by, decls_from, decls_of, expression_of, yield_of, return_of, throw_by, assigned_yield, named_by, stepped_by, changed_by, change_at, changed_of, test_of, else_by, if_of, while_of, or_all, do_of, optional_by, optional, head_by, head_of, of_head, turns_of, for_by, caught, catch_by, catch_of, try_of, statement_by, statement_of, named_function, item_by, item_of}
use Rattle.ob_grammar.proofs.CompleteTaking.{then_is, take_on, take_off, before_on, one_on, one_off, taken, name_on}
use Rattle.ob_grammar.proofs.EndsComplete.{end_is, end_stops}
use Rattle.ob_grammar.proofs.Firsts.{First, first_off, first, begins, begins_not_is_yield, begins_no_declaration}
use Rattle.ob_grammar.proofs.Heads.{same_token}
use Rattle.ob_grammar.proofs.Tests.{opens_parenthesis_on, closes_parenthesis_on, is_comma_on, is_semicolon_on, is_assign_on, is_else_on, is_while_on, is_catch_on, is_yield_on}
use Rattle.ob_grammar.proofs.Starts.{starts, stmt_starts, no_else, no_semicolon, no_comma, no_assign, bare_no_value, some_value, on_line, no_yielding}

abbrev pub held : Option Expr → Form → Held
held a f = record { value = a; form = f }

abbrev pub of_decls : List Decl → Form → Several
of_decls ds f = record { decls = ds; form = f }

abbrev each_of : Bool → List ℕ → Each
each_of c x = record { constant = c; name = x }

pub ended_on : {A : Type 0} (a : A) (f : Form) (ts rest : List Token) → end_of f ts ≡ Some rest → ended a f ts ≡ Some (a, rest)
ended_on a f ts rest h = ap (option_map (λ rest. (a, rest))) h

of_is_of : (o : Token) → IsName (codes "of") o → is_of o.kind ≡ true
unfolding is_of name_of
of_is_of o h = ap is_of h

mark_no_of : (q : Token) (m : Punctuator) → IsMark m q → is_of q.kind ≡ false
unfolding is_of name_of
mark_no_of q m h = ap is_of h

semicolon_no_declaration : (t : Token) → IsMark mark.Semicolon t → declares_constant t.kind ≡ None
unfolding declares_constant
semicolon_no_declaration t h = ap declares_constant h

let_declares : (t : Token) → IsWord word.Let t → declares_constant t.kind ≡ Some false
unfolding declares_constant
let_declares t h = ap declares_constant h

const_declares : (t : Token) → IsWord word.Const t → declares_constant t.kind ≡ Some true
unfolding declares_constant
const_declares t h = ap declares_constant h

step_no_change : (k : TokenKind) (op : ChangeOp) → step_of k ≡ Some op → change_of k ≡ None
unfolding step_of change_of
step_no_change (kind.Punctuator mark.PlusPlus) op h = refl
step_no_change (kind.Punctuator mark.MinusMinus) op h = refl
step_no_change _ op h = cc

brace_no_open : (t : Token) → IsMark mark.OpenBrace t → opens_parenthesis t.kind ≡ false
unfolding opens_parenthesis
brace_no_open t h = ap opens_parenthesis h

block_no_open : {ts : List Token} {items : List Stmt} {rest : List Token} → ReadsBlock ts items rest → take opens_parenthesis ts ≡ None
block_no_open (block t ts rest items h d) = take_off opens_parenthesis t ts (brace_no_open t h)

-- `yield` and what stands behind it
pub record Yields (limit : ℕ) (inner : Rule → Parser Piece) (nested : Level → Parser Stmt) (ts : List Token) (a : Option Expr) (f : Form) (rest : List Token) : Type 0 where
  pub token : Token
  pub more : List Token
  pub is : ts ≡ token ∷ more
  pub word : IsWord word.Yield token
  pub reads : held_of limit inner nested more ≡ Some (held a f, rest)

assign_from : (k : TokenKind) → is_assign k ≡ true → k ≡ kind.Punctuator mark.Assign
unfolding is_assign
assign_from (kind.Punctuator mark.Assign) h = refl
assign_from _ h = cc

yield_from : (k : TokenKind) → is_yield k ≡ true → k ≡ kind.Reserved word.Yield
unfolding is_yield
yield_from (kind.Reserved word.Yield) h = refl
yield_from _ h = cc

-- the second token of declarations is not `of`
decl_no_of : {ts : List Token} {d : Decl} {f : Form} {rest : List Token} (c : Bool) → ReadsDecl ts d f rest → take is_of rest ≡ None
    → (one name_of ts >>= λ x next. before is_of (each_of c x) next) ≡ None
decl_no_of c (decl_name t ts x h1) n = then_is (one name_of (t ∷ ts)) x ts _ (one_on name_of x t ts (name_on t x h1)) ∙ ap (option_map (λ rest. (each_of c x, rest))) n
decl_no_of c (decl_value t q ts rest x a f h1 h2 d1) n = then_is (one name_of (t ∷ q ∷ ts)) x (q ∷ ts) _ (one_on name_of x t (q ∷ ts) (name_on t x h1))
    ∙ ap (option_map (λ rest. (each_of c x, rest))) (take_off is_of q ts (mark_no_of q mark.Assign h2))
decl_no_of c (decl_yield t q ts rest x a f h1 h2 d1) n = then_is (one name_of (t ∷ q ∷ ts)) x (q ∷ ts) _ (one_on name_of x t (q ∷ ts) (name_on t x h1))
    ∙ ap (option_map (λ rest. (each_of c x, rest))) (take_off is_of q ts (mark_no_of q mark.Assign h2))

decls_no_of : {ts : List Token} {ds : List Decl} {f : Form} {rest : List Token} (c : Bool) → ReadsDecls ts ds f rest → take is_of rest ≡ None
    → (one name_of ts >>= λ x next. before is_of (each_of c x) next) ≡ None
decls_no_of c (last_decl ts rest d f d1) n = decl_no_of c d1 n
decls_no_of c (more_decls u ts mid rest d ds f g d1 h1 d2) n = decl_no_of c d1 (take_off is_of u mid (mark_no_of u mark.Comma h1))

module _ (limit : ℕ) (inner : Rule → Parser Piece) (nested : Level → Parser Stmt) where
  -- ---- `yield` and `return`

  pub held_none : (ts : List Token) → no_value ts ≡ true → held_of limit inner nested ts ≡ Some (held None Bare, ts)
  unfolding held_of
  held_none ts h = ap (λ b. held_by limit inner nested b ts) h

  pub held_some : (ts rest : List Token) (a : Expr) (f : Form) → no_value ts ≡ false → inner whole ts ≡ Some (piece a f, rest)
      → held_of limit inner nested ts ≡ Some (held (Some a) f, rest)
  unfolding held_of
  held_some ts rest a f h d = ap (λ b. held_by limit inner nested b ts) h ∙ then_is (inner whole ts) (piece a f) rest _ d

  pub yields_none : (n : ℕ) (t : Token) (ts : List Token) → IsWord word.Yield t → Stops Bare n ts → Yields limit inner nested (t ∷ ts) None Bare ts
  yields_none n t ts h s = record { token = t; more = ts; is = refl; word = h; reads = held_none ts (bare_no_value n ts s) }

  pub yields_some : (t : Token) (ts rest : List Token) (a : Expr) (f : Form) → IsWord word.Yield t → StartsOnLine ts → First begins ts
      → inner whole ts ≡ Some (piece a f, rest) → Yields limit inner nested (t ∷ ts) (Some a) f rest
  yields_some t ts rest a f h l p d = record { token = t; more = ts; is = refl; word = h; reads = held_some ts rest a f (some_value p l) d }

  -- ---- declarations

  pub decl_name_is : (t : Token) (ts : List Token) (x : List ℕ) → IsName x t → Stops Closed 17 ts
      → decl_of limit inner nested (t ∷ ts) ≡ Some (declared x value.Nothing Closed, ts)
  unfolding decl_of
  decl_name_is t ts x h s = then_is (one name_of (t ∷ ts)) x ts _ (one_on name_of x t ts (name_on t x h)) ∙ ap (λ o. decl_by limit inner nested o x ts) (no_assign ts s)

  decl_at : (t q : Token) (ts : List Token) (x : List ℕ) → IsName x t → IsMark mark.Assign q
      → decl_of limit inner nested (t ∷ q ∷ ts) ≡ value_by limit inner nested (take is_yield ts) x ts
  unfolding decl_of
  decl_at t q ts x h hq = then_is (one name_of (t ∷ q ∷ ts)) x (q ∷ ts) _ (one_on name_of x t (q ∷ ts) (name_on t x h))
      ∙ ap (λ o. decl_by limit inner nested o x (q ∷ ts)) (take_on is_assign q ts (is_assign_on q.kind hq))

  pub decl_value_is : (t q : Token) (ts rest : List Token) (x : List ℕ) (a : Expr) (f : Form) → IsName x t → IsMark mark.Assign q → First begins ts
      → inner whole ts ≡ Some (piece a f, rest) → decl_of limit inner nested (t ∷ q ∷ ts) ≡ Some (declared x (value.Value a) f, rest)
  decl_value_is t q ts rest x a f h hq p d = decl_at t q ts x h hq
      ∙ ap (λ o. value_by limit inner nested o x ts) (first_off is_yield p (begins_not_is_yield p.token.kind p.passes)) ∙ then_is (inner whole ts) (piece a f) rest _ d

  yield_value_by : (t q u : Token) (us rest : List Token) (x : List ℕ) (a : Option Expr) (f : Form) → IsName x t → IsMark mark.Assign q → IsWord word.Yield u
      → held_of limit inner nested us ≡ Some (held a f, rest) → decl_of limit inner nested (t ∷ q ∷ u ∷ us) ≡ Some (declared x (value.Yield a) f, rest)
  yield_value_by t q u us rest x a f h hq hu d = decl_at t q (u ∷ us) x h hq
      ∙ ap (λ o. value_by limit inner nested o x (u ∷ us)) (take_on is_yield u us (is_yield_on u.kind hu)) ∙ then_is (held_of limit inner nested us) (held a f) rest _ d

  pub decl_yield_is : (t q : Token) (ts rest : List Token) (x : List ℕ) (a : Option Expr) (f : Form) → IsName x t → IsMark mark.Assign q
      → Yields limit inner nested ts a f rest → decl_of limit inner nested (t ∷ q ∷ ts) ≡ Some (declared x (value.Yield a) f, rest)
  decl_yield_is t q ts rest x a f h hq y = subst (λ (us : List Token). decl_of limit inner nested (t ∷ q ∷ us) ≡ Some (declared x (value.Yield a) f, rest)) (sym y.is)
      (yield_value_by t q y.token y.more rest x a f h hq y.word y.reads)

  pub decls_last : (n : ℕ) (ts rest : List Token) (d : Decl) (f : Form) → decl_of limit inner nested ts ≡ Some (record { decl = d; form = f }, rest)
      → Stops f 18 rest → decls_from limit inner nested (suc n) ts ≡ Some (of_decls (d ∷ []) f, rest)
  unfolding decls_from
  decls_last n ts rest d f e s = then_is (decl_of limit inner nested ts) (record { decl = d; form = f }) rest _ e
      ∙ ap (λ o. decls_by limit inner nested o (record { decl = d; form = f }) (decls_from limit inner nested n) rest) (no_comma f rest s)

  pub decls_more : (n : ℕ) (c : Token) (ts mid rest : List Token) (d : Decl) (ds : List Decl) (f g : Form)
      → decl_of limit inner nested ts ≡ Some (record { decl = d; form = f }, c ∷ mid) → IsMark mark.Comma c
      → decls_from limit inner nested n mid ≡ Some (of_decls ds g, rest) → decls_from limit inner nested (suc n) ts ≡ Some (of_decls (d ∷ ds) g, rest)
  unfolding decls_from
  decls_more n c ts mid rest d ds f g e hc more = then_is (decl_of limit inner nested ts) (record { decl = d; form = f }) (c ∷ mid) _ e
      ∙ ap (λ o. decls_by limit inner nested o (record { decl = d; form = f }) (decls_from limit inner nested n) (c ∷ mid)) (take_on is_comma c mid (is_comma_on c.kind hc))
      ∙ then_is (decls_from limit inner nested n mid) (of_decls ds g) rest _ more

  pub decls_are : (ts rest : List Token) (s : Several) → decls_from limit inner nested (length ts) ts ≡ Some (s, rest) → decls_of limit inner nested ts ≡ Some (s, rest)
  unfolding decls_of
  decls_are ts rest s h = h

  -- ---- statements, by their first token

  statement_at : (t : Token) (ts : List Token) (k : TokenKind) → t.kind ≡ k → statement_of limit inner nested (t ∷ ts) ≡ statement_by limit inner nested k t ts
  unfolding statement_of
  statement_at t ts k h = ap (λ x. statement_by limit inner nested x t ts) h

  pub block_statement_is : {ts : List Token} {items : List Stmt} {rest : List Token} → ReadsBlock ts items rest → block_of limit inner nested ts ≡ Some (items, rest)
      → statement_of limit inner nested ts ≡ Some (stmt.Block items, rest)
  unfolding statement_by
  block_statement_is (block t ts rest items h d) e = statement_at t ts (kind.Punctuator mark.OpenBrace) h ∙ then_is (block_of limit inner nested (t ∷ ts)) items rest _ e

  pub empty_is : (t : Token) (ts : List Token) → IsMark mark.Semicolon t → statement_of limit inner nested (t ∷ ts) ≡ Some (stmt.Empty, ts)
  unfolding statement_by
  empty_is t ts h = statement_at t ts (kind.Punctuator mark.Semicolon) h

  by_expression : (k : TokenKind) (t : Token) (ts : List Token) → begins k ≡ true → (k ≡ kind.Punctuator mark.OpenBrace → ⊥) → (k ≡ kind.Reserved word.Function → ⊥)
      → ((x : List ℕ) → k ≡ kind.Name x → assigned_yield limit inner nested ts ≡ None) → statement_by limit inner nested k t ts ≡ expression_of limit inner nested (t ∷ ts)
  unfolding statement_by begins
  by_expression (kind.Punctuator mark.OpenBrace) t ts h b w n = absurd (b refl)
  by_expression (kind.Punctuator mark.Semicolon) t ts h b w n = cc
  by_expression (kind.Name x) t ts h b w n = ap (λ o. named_by limit inner nested o x t ts) (n x refl)
  by_expression (kind.Reserved word.Function) t ts h b w n = absurd (w refl)
  by_expression (kind.Reserved word.Yield) t ts h b w n = cc
  by_expression (kind.Reserved word.Mutable) t ts h b w n = cc
  by_expression (kind.Reserved word.If) t ts h b w n = cc
  by_expression (kind.Reserved word.While) t ts h b w n = cc
  by_expression (kind.Reserved word.Do) t ts h b w n = cc
  by_expression (kind.Reserved word.For) t ts h b w n = cc
  by_expression (kind.Reserved word.Break) t ts h b w n = cc
  by_expression (kind.Reserved word.Continue) t ts h b w n = cc
  by_expression (kind.Reserved word.Return) t ts h b w n = cc
  by_expression (kind.Reserved word.Throw) t ts h b w n = cc
  by_expression (kind.Reserved word.Try) t ts h b w n = cc
  by_expression _ t ts h b w n = refl

  assigned_at : (q y : Token) (ts : List Token) → IsMark mark.Assign q → IsWord word.Yield y → assigned_yield limit inner nested (q ∷ y ∷ ts) ≡ Some ts
  unfolding assigned_yield
  assigned_at q y ts hq hy = ap (option_and_then (take is_yield)) (take_on is_assign q (y ∷ ts) (is_assign_on q.kind hq)) ∙ take_on is_yield y ts (is_yield_on y.kind hy)

  -- where the tokens behind a name are `=` and `yield`, no expression statement stands
  unyielding_by : (t q y : Token) (us mid : List Token) (x : List ℕ) (a : Expr) (f : Form) → Reads whole (t ∷ q ∷ y ∷ us) a f mid → Stops f 18 mid → IsName x t
      → (b : Bool) → is_assign q.kind ≡ b → (c : Bool) → is_yield y.kind ≡ c → cond b (cond c (Some us) None) None ≡ None
  unyielding_by t q y us mid x a f d s h true hq true hy = absurd (no_yielding d (inl refl) t q y us x refl h (assign_from q.kind hq) (yield_from y.kind hy) s)
  unyielding_by t q y us mid x a f d s h true hq false hy = refl
  unyielding_by t q y us mid x a f d s h false hq c hy = refl

  unyielding : (t : Token) (ts mid : List Token) (x : List ℕ) (a : Expr) (f : Form) → Reads whole (t ∷ ts) a f mid → Stops f 18 mid → IsName x t
      → assigned_yield limit inner nested ts ≡ None
  unfolding assigned_yield take
  unyielding t [] mid x a f d s h = refl
  unyielding t (q ∷ []) mid x a f d s h = empty_by (is_assign q.kind)
    where
      empty_by : (b : Bool) → option_and_then (take is_yield) (cond b (Some []) None) ≡ None
      empty_by true = refl
      empty_by false = refl
  unyielding t (q ∷ y ∷ us) mid x a f d s h = pull (is_assign q.kind) ∙ unyielding_by t q y us mid x a f d s h (is_assign q.kind) refl (is_yield y.kind) refl
    where
      pull : (b : Bool) → option_and_then (take is_yield) (cond b (Some (y ∷ us)) None) ≡ cond b (cond (is_yield y.kind) (Some us) None) None
      pull true = refl
      pull false = refl

  expression_at : (t : Token) (ts mid rest : List Token) (a : Expr) (f : Form) → begins t.kind ≡ true → (t.kind ≡ kind.Punctuator mark.OpenBrace → ⊥)
      → (t.kind ≡ kind.Reserved word.Function → ⊥) → Reads whole (t ∷ ts) a f mid → Stops f 18 mid → inner whole (t ∷ ts) ≡ Some (piece a f, mid)
      → end_of f mid ≡ Some rest → statement_of limit inner nested (t ∷ ts) ≡ Some (stmt.Expr a, rest)
  expression_at t ts mid rest a f h b w d s e n = statement_at t ts t.kind refl ∙ by_expression t.kind t ts h b w (λ x hx. unyielding t ts mid x a f d s hx)
      ∙ then_is (inner whole (t ∷ ts)) (piece a f) mid _ e ∙ ended_on (stmt.Expr a) f mid rest n

  pub expression_is : (ts mid rest : List Token) (a : Expr) (f : Form) → NotMark mark.OpenBrace ts → NotWord word.Function ts → Reads whole ts a f mid → Ends f mid rest
      → inner whole ts ≡ Some (piece a f, mid) → statement_of limit inner nested ts ≡ Some (stmt.Expr a, rest)
  expression_is [] mid rest a f b w d n e = absurd (nothing (first d))
    where
      nothing : First begins [] → ⊥
      nothing p = let q = p.is in cc
  expression_is (t ∷ ts) mid rest a f b w d n e = expression_at t ts mid rest a f (begun (first d)) b w d (end_stops n) e (end_is n)
    where
      begun : First begins (t ∷ ts) → begins t.kind ≡ true
      begun p = ap (λ (v : Token). begins v.kind) (same_token p.is) ∙ p.passes

  yielded_at : (x : Option (List ℕ)) (ts mid rest : List Token) (a : Option Expr) (f : Form) → held_of limit inner nested ts ≡ Some (held a f, mid) → end_of f mid ≡ Some rest
      → yield_of limit inner nested x ts ≡ Some (stmt.Yield x a, rest)
  yielded_at x ts mid rest a f d n = then_is (held_of limit inner nested ts) (held a f) mid _ d ∙ ended_on (stmt.Yield x a) f mid rest n

  pub yielded_is : (ts mid rest : List Token) (a : Option Expr) (f : Form) → Yields limit inner nested ts a f mid → end_of f mid ≡ Some rest
      → statement_of limit inner nested ts ≡ Some (stmt.Yield None a, rest)
  unfolding statement_by
  yielded_is ts mid rest a f y n = subst (λ (us : List Token). statement_of limit inner nested us ≡ Some (stmt.Yield None a, rest)) (sym y.is)
      (statement_at y.token y.more (kind.Reserved word.Yield) y.word ∙ yielded_at None y.more mid rest a f y.reads n)

  yield_assigned_by : (t q u : Token) (us mid rest : List Token) (x : List ℕ) (a : Option Expr) (f : Form) → IsName x t → IsMark mark.Assign q → IsWord word.Yield u
      → held_of limit inner nested us ≡ Some (held a f, mid) → end_of f mid ≡ Some rest → statement_of limit inner nested (t ∷ q ∷ u ∷ us) ≡ Some (stmt.Yield (Some x) a, rest)
  unfolding statement_by
  yield_assigned_by t q u us mid rest x a f h hq hu d n = statement_at t (q ∷ u ∷ us) (kind.Name x) h
      ∙ ap (λ o. named_by limit inner nested o x t (q ∷ u ∷ us)) (assigned_at q u us hq hu) ∙ yielded_at (Some x) us mid rest a f d n

  pub yield_assigned_is : (t q : Token) (ts mid rest : List Token) (x : List ℕ) (a : Option Expr) (f : Form) → IsName x t → IsMark mark.Assign q
      → Yields limit inner nested ts a f mid → end_of f mid ≡ Some rest → statement_of limit inner nested (t ∷ q ∷ ts) ≡ Some (stmt.Yield (Some x) a, rest)
  yield_assigned_is t q ts mid rest x a f h hq y n = subst (λ (us : List Token). statement_of limit inner nested (t ∷ q ∷ us) ≡ Some (stmt.Yield (Some x) a, rest)) (sym y.is)
      (yield_assigned_by t q y.token y.more mid rest x a f h hq y.word y.reads n)

  changed_at : (t n q : Token) (ts : List Token) (x : List ℕ) → IsWord word.Mutable t → IsName x n
      → statement_of limit inner nested (t ∷ n ∷ q ∷ ts) ≡ changed_by limit inner nested (change_of q.kind) q x ts
  unfolding statement_by changed_of
  changed_at t n q ts x h hn = statement_at t (n ∷ q ∷ ts) (kind.Reserved word.Mutable) h
      ∙ then_is (one name_of (n ∷ q ∷ ts)) x (q ∷ ts) _ (one_on name_of x n (q ∷ ts) (name_on n x hn))

  pub changed_is : (t n q : Token) (ts mid rest : List Token) (x : List ℕ) (op : ChangeOp) (a : Expr) (f : Form) → IsWord word.Mutable t → IsName x n
      → change_of q.kind ≡ Some op → inner whole ts ≡ Some (piece a f, mid) → end_of f mid ≡ Some rest
      → statement_of limit inner nested (t ∷ n ∷ q ∷ ts) ≡ Some (stmt.Change x op (Some a), rest)
  changed_is t n q ts mid rest x op a f h hn hq d e = changed_at t n q ts x h hn ∙ ap (λ o. changed_by limit inner nested o q x ts) hq
      ∙ then_is (inner whole ts) (piece a f) mid _ d ∙ ended_on (stmt.Change x op (Some a)) f mid rest e

  pub stepped_is : (t n q : Token) (ts rest : List Token) (x : List ℕ) (op : ChangeOp) → IsWord word.Mutable t → IsName x n → step_of q.kind ≡ Some op → SameLine q
      → end_of Bare ts ≡ Some rest → statement_of limit inner nested (t ∷ n ∷ q ∷ ts) ≡ Some (stmt.Change x op None, rest)
  stepped_is t n q ts rest x op h hn hq hs e = changed_at t n q ts x h hn ∙ ap (λ o. changed_by limit inner nested o q x ts) (step_no_change q.kind op hq)
      ∙ ap (λ o. stepped_by limit inner nested o q.break_before x ts) hq ∙ ap (λ b. stepped_by limit inner nested (Some op) b x ts) hs ∙ ended_on (stmt.Change x op None) Bare ts rest e

  pub test_is : (t c : Token) (ts rest : List Token) (a : Expr) (f : Form) → IsMark mark.OpenParenthesis t → inner whole ts ≡ Some (piece a f, c ∷ rest)
      → IsMark mark.CloseParenthesis c → test_of limit inner nested (t ∷ ts) ≡ Some (a, rest)
  unfolding test_of
  test_is t c ts rest a f h d hc = taken opens_parenthesis t ts _ (opens_parenthesis_on t.kind h) ∙ then_is (inner whole ts) (piece a f) (c ∷ rest) _ d
      ∙ before_on closes_parenthesis a c rest (closes_parenthesis_on c.kind hc)

  if_at : (t : Token) (ts mid next : List Token) (a : Expr) (s : Stmt) → IsWord word.If t → test_of limit inner nested ts ≡ Some (a, mid)
      → nested level.Statement mid ≡ Some (s, next) → statement_of limit inner nested (t ∷ ts) ≡ else_by limit inner nested (take is_else next) a s next
  unfolding statement_by if_of
  if_at t ts mid next a s h d e = statement_at t ts (kind.Reserved word.If) h ∙ then_is (test_of limit inner nested ts) a mid _ d ∙ then_is (nested level.Statement mid) s next _ e

  pub if_alone_is : (t : Token) (ts mid rest : List Token) (a : Expr) (s : Stmt) → IsWord word.If t → test_of limit inner nested ts ≡ Some (a, mid)
      → nested level.Statement mid ≡ Some (s, rest) → NotWord word.Else rest → statement_of limit inner nested (t ∷ ts) ≡ Some (stmt.If a s None, rest)
  if_alone_is t ts mid rest a s h d e n = if_at t ts mid rest a s h d e ∙ ap (λ o. else_by limit inner nested o a s rest) (no_else rest n)

  pub if_else_is : (t u : Token) (ts mid next rest : List Token) (a : Expr) (s v : Stmt) → IsWord word.If t → test_of limit inner nested ts ≡ Some (a, mid)
      → nested level.Statement mid ≡ Some (s, u ∷ next) → IsWord word.Else u → nested level.Statement next ≡ Some (v, rest)
      → statement_of limit inner nested (t ∷ ts) ≡ Some (stmt.If a s (Some v), rest)
  if_else_is t u ts mid next rest a s v h d e hu g = if_at t ts mid (u ∷ next) a s h d e
      ∙ ap (λ o. else_by limit inner nested o a s (u ∷ next)) (take_on is_else u next (is_else_on u.kind hu)) ∙ then_is (nested level.Statement next) v rest _ g

  pub while_is : (t : Token) (ts mid rest : List Token) (a : Expr) (s : Stmt) → IsWord word.While t → test_of limit inner nested ts ≡ Some (a, mid)
      → nested level.Statement mid ≡ Some (s, rest) → statement_of limit inner nested (t ∷ ts) ≡ Some (stmt.While a s, rest)
  unfolding statement_by while_of
  while_is t ts mid rest a s h d e = statement_at t ts (kind.Reserved word.While) h ∙ then_is (test_of limit inner nested ts) a mid _ d ∙ then_is (nested level.Statement mid) s rest _ e

  do_at : (t w : Token) (ts mid rest : List Token) (s : Stmt) (a : Expr) → IsWord word.Do t → nested level.Statement ts ≡ Some (s, w ∷ mid) → IsWord word.While w
      → test_of limit inner nested mid ≡ Some (a, rest) → statement_of limit inner nested (t ∷ ts) ≡ Some (stmt.DoWhile s a, or_all limit inner nested (take is_semicolon rest) rest)
  unfolding statement_by do_of
  do_at t w ts mid rest s a h d hw e = statement_at t ts (kind.Reserved word.Do) h ∙ then_is (nested level.Statement ts) s (w ∷ mid) _ d
      ∙ taken is_while w mid _ (is_while_on w.kind hw) ∙ then_is (test_of limit inner nested mid) a rest _ e

  pub do_is : (t w : Token) (ts mid rest : List Token) (s : Stmt) (a : Expr) → IsWord word.Do t → nested level.Statement ts ≡ Some (s, w ∷ mid) → IsWord word.While w
      → test_of limit inner nested mid ≡ Some (a, rest) → NotMark mark.Semicolon rest → statement_of limit inner nested (t ∷ ts) ≡ Some (stmt.DoWhile s a, rest)
  do_is t w ts mid rest s a h d hw e n = do_at t w ts mid rest s a h d hw e ∙ ap (λ o. Some (stmt.DoWhile s a, or_all limit inner nested o rest)) (no_semicolon rest n)

  pub do_ended_is : (t w u : Token) (ts mid rest : List Token) (s : Stmt) (a : Expr) → IsWord word.Do t → nested level.Statement ts ≡ Some (s, w ∷ mid) → IsWord word.While w
      → test_of limit inner nested mid ≡ Some (a, u ∷ rest) → IsMark mark.Semicolon u → statement_of limit inner nested (t ∷ ts) ≡ Some (stmt.DoWhile s a, rest)
  do_ended_is t w u ts mid rest s a h d hw e hu = do_at t w ts mid (u ∷ rest) s a h d hw e
      ∙ ap (λ o. Some (stmt.DoWhile s a, or_all limit inner nested o (u ∷ rest))) (take_on is_semicolon u rest (is_semicolon_on u.kind hu))

  -- ---- `for`

  pub optional_absent : (test : TokenKind → Bool) (t : Token) (ts : List Token) → test t.kind ≡ true → optional limit inner nested test (t ∷ ts) ≡ Some (None, ts)
  unfolding optional
  optional_absent test t ts h = ap (λ o. optional_by limit inner nested o test (t ∷ ts)) (take_on test t ts h)

  pub optional_present : (test : TokenKind → Bool) (c : Token) (ts rest : List Token) (a : Expr) (f : Form) → take test ts ≡ None
      → inner whole ts ≡ Some (piece a f, c ∷ rest) → test c.kind ≡ true → optional limit inner nested test ts ≡ Some (Some a, rest)
  unfolding optional
  optional_present test c ts rest a f n d h = ap (λ o. optional_by limit inner nested o test ts) n ∙ then_is (inner whole ts) (piece a f) (c ∷ rest) _ d ∙ before_on test (Some a) c rest h

  head_at : (t : Token) (ts : List Token) (k : TokenKind) → t.kind ≡ k → head_of limit inner nested (t ∷ ts) ≡ head_by limit inner nested k t ts
  unfolding head_of
  head_at t ts k h = ap (λ x. head_by limit inner nested x t ts) h

  pub no_head_is : (t : Token) (ts : List Token) → IsMark mark.Semicolon t → head_of limit inner nested (t ∷ ts) ≡ Some (head.Nothing, ts)
  unfolding head_by
  no_head_is t ts h = head_at t ts (kind.Punctuator mark.Semicolon) h

  pub let_head_is : (t u : Token) (ts rest : List Token) (ds : List Decl) (f : Form) → IsWord word.Let t → decls_of limit inner nested ts ≡ Some (of_decls ds f, u ∷ rest)
      → IsMark mark.Semicolon u → head_of limit inner nested (t ∷ ts) ≡ Some (head.Let ds, rest)
  unfolding head_by
  let_head_is t u ts rest ds f h d hu = head_at t ts (kind.Reserved word.Let) h ∙ then_is (decls_of limit inner nested ts) (of_decls ds f) (u ∷ rest) _ d
      ∙ before_on is_semicolon (head.Let ds) u rest (is_semicolon_on u.kind hu)

  pub const_head_is : (t u : Token) (ts rest : List Token) (ds : List Decl) (f : Form) → IsWord word.Const t → decls_of limit inner nested ts ≡ Some (of_decls ds f, u ∷ rest)
      → IsMark mark.Semicolon u → head_of limit inner nested (t ∷ ts) ≡ Some (head.Const ds, rest)
  unfolding head_by
  const_head_is t u ts rest ds f h d hu = head_at t ts (kind.Reserved word.Const) h ∙ then_is (decls_of limit inner nested ts) (of_decls ds f) (u ∷ rest) _ d
      ∙ before_on is_semicolon (head.Const ds) u rest (is_semicolon_on u.kind hu)

  head_by_expression : (k : TokenKind) (t : Token) (ts : List Token) → begins k ≡ true
      → head_by limit inner nested k t ts ≡ (inner whole (t ∷ ts) >>= λ p mid. before is_semicolon (head.Expr p.tree) mid)
  unfolding head_by begins
  head_by_expression (kind.Punctuator mark.Semicolon) t ts h = cc
  head_by_expression (kind.Reserved word.Let) t ts h = cc
  head_by_expression (kind.Reserved word.Const) t ts h = cc
  head_by_expression _ t ts h = refl

  expr_head_at : (ts : List Token) → First begins ts → head_of limit inner nested ts ≡ (inner whole ts >>= λ p mid. before is_semicolon (head.Expr p.tree) mid)
  expr_head_at ts p = subst (λ (us : List Token). head_of limit inner nested us ≡ (inner whole us >>= λ p mid. before is_semicolon (head.Expr p.tree) mid)) (sym p.is)
      (head_at p.token p.more p.token.kind refl ∙ head_by_expression p.token.kind p.token p.more p.passes)

  pub expr_head_is : (u : Token) (ts rest : List Token) (a : Expr) (f : Form) → First begins ts → inner whole ts ≡ Some (piece a f, u ∷ rest) → IsMark mark.Semicolon u
      → head_of limit inner nested ts ≡ Some (head.Expr a, rest)
  expr_head_is u ts rest a f p d hu = expr_head_at ts p ∙ then_is (inner whole ts) (piece a f) (u ∷ rest) _ d
      ∙ before_on is_semicolon (head.Expr a) u rest (is_semicolon_on u.kind hu)

  of_head_off : (t : Token) (ts : List Token) → declares_constant t.kind ≡ None → of_head limit inner nested (t ∷ ts) ≡ None
  unfolding of_head
  of_head_off t ts h = ap (λ r. r >>= λ c mid. one name_of mid >>= λ x next. before is_of (each_of c x) next) (one_off declares_constant t ts h)

  of_head_at : (t : Token) (ts : List Token) (c : Bool) → declares_constant t.kind ≡ Some c
      → of_head limit inner nested (t ∷ ts) ≡ (one name_of ts >>= λ x next. before is_of (each_of c x) next)
  unfolding of_head
  of_head_at t ts c h = then_is (one declares_constant (t ∷ ts)) c ts _ (one_on declares_constant c t ts h)

  of_head_first : (ts : List Token) → First begins ts → of_head limit inner nested ts ≡ None
  of_head_first ts p = subst (λ (us : List Token). of_head limit inner nested us ≡ None) (sym p.is) (of_head_off p.token p.more (begins_no_declaration p.token.kind p.passes))

  -- the head of a `for` with semicolons is none of a `for .. of`
  pub head_no_of : {ts : List Token} {h : ForHead} {rest : List Token} → ReadsHead ts h rest → of_head limit inner nested ts ≡ None
  head_no_of (no_head t ts h1) = of_head_off t ts (semicolon_no_declaration t h1)
  head_no_of (let_head t e ts rest ds f h1 d1 h2) = of_head_at t ts false (let_declares t h1) ∙ decls_no_of false d1 (take_off is_of e rest (mark_no_of e mark.Semicolon h2))
  head_no_of (const_head t e ts rest ds f h1 d1 h2) = of_head_at t ts true (const_declares t h1) ∙ decls_no_of true d1 (take_off is_of e rest (mark_no_of e mark.Semicolon h2))
  head_no_of (expr_head e ts rest a f d1 h1) = of_head_first ts (first d1)

  for_at : (t p : Token) (ts : List Token) → IsWord word.For t → IsMark mark.OpenParenthesis p
      → statement_of limit inner nested (t ∷ p ∷ ts) ≡ for_by limit inner nested (of_head limit inner nested ts) ts
  unfolding statement_by reading.for_of
  for_at t p ts h hp = statement_at t (p ∷ ts) (kind.Reserved word.For) h ∙ taken opens_parenthesis p ts _ (opens_parenthesis_on p.kind hp)

  pub for_is : (t p : Token) (ts tested counted turn rest : List Token) (h : ForHead) (a b : Option Expr) (s : Stmt) → IsWord word.For t → IsMark mark.OpenParenthesis p
      → of_head limit inner nested ts ≡ None → head_of limit inner nested ts ≡ Some (h, tested) → optional limit inner nested is_semicolon tested ≡ Some (a, counted)
      → optional limit inner nested closes_parenthesis counted ≡ Some (b, turn) → nested level.Statement turn ≡ Some (s, rest)
      → statement_of limit inner nested (t ∷ p ∷ ts) ≡ Some (stmt.For h a b s, rest)
  for_is t p ts tested counted turn rest h a b s ht hp n e1 e2 e3 e4 = for_at t p ts ht hp ∙ ap (λ o. for_by limit inner nested o ts) n
      ∙ then_is (head_of limit inner nested ts) h tested _ e1 ∙ then_is (optional limit inner nested is_semicolon tested) a counted _ e2
      ∙ then_is (optional limit inner nested closes_parenthesis counted) b turn _ e3 ∙ then_is (nested level.Statement turn) s rest _ e4

  pub for_of_is : (t p d n o c : Token) (ts mid rest : List Token) (constant : Bool) (x : List ℕ) (a : Expr) (f : Form) (s : Stmt) → IsWord word.For t
      → IsMark mark.OpenParenthesis p → declares_constant d.kind ≡ Some constant → IsName x n → IsName (codes "of") o → inner whole ts ≡ Some (piece a f, c ∷ mid)
      → IsMark mark.CloseParenthesis c → nested level.Statement mid ≡ Some (s, rest)
      → statement_of limit inner nested (t ∷ p ∷ d ∷ n ∷ o ∷ ts) ≡ Some (stmt.ForOf constant x a s, rest)
  for_of_is t p d n o c ts mid rest constant x a f s ht hp hd hn ho e1 hc e2 = for_at t p (d ∷ n ∷ o ∷ ts) ht hp
      ∙ ap (λ r. for_by limit inner nested r (d ∷ n ∷ o ∷ ts)) (of_head_at d (n ∷ o ∷ ts) constant hd
      ∙ then_is (one name_of (n ∷ o ∷ ts)) x (o ∷ ts) _ (one_on name_of x n (o ∷ ts) (name_on n x hn)) ∙ before_on is_of (each_of constant x) o ts (of_is_of o ho))
      ∙ then_is (inner whole ts) (piece a f) (c ∷ mid) _ e1 ∙ taken closes_parenthesis c mid _ (closes_parenthesis_on c.kind hc)
      ∙ then_is (nested level.Statement mid) s rest _ e2

  -- ---- `break`, `continue`, `return`, `throw`, `try`

  pub break_is : (t : Token) (ts rest : List Token) → IsWord word.Break t → end_of Bare ts ≡ Some rest → statement_of limit inner nested (t ∷ ts) ≡ Some (stmt.Break, rest)
  unfolding statement_by
  break_is t ts rest h e = statement_at t ts (kind.Reserved word.Break) h ∙ ended_on stmt.Break Bare ts rest e

  pub continue_is : (t : Token) (ts rest : List Token) → IsWord word.Continue t → end_of Bare ts ≡ Some rest
      → statement_of limit inner nested (t ∷ ts) ≡ Some (stmt.Continue, rest)
  unfolding statement_by
  continue_is t ts rest h e = statement_at t ts (kind.Reserved word.Continue) h ∙ ended_on stmt.Continue Bare ts rest e

  return_at : (t : Token) (ts mid rest : List Token) (a : Option Expr) (f : Form) → IsWord word.Return t → held_of limit inner nested ts ≡ Some (held a f, mid)
      → end_of f mid ≡ Some rest → statement_of limit inner nested (t ∷ ts) ≡ Some (stmt.Return a, rest)
  unfolding statement_by
  return_at t ts mid rest a f h d e = statement_at t ts (kind.Reserved word.Return) h ∙ then_is (held_of limit inner nested ts) (held a f) mid _ d ∙ ended_on (stmt.Return a) f mid rest e

  pub return_alone_is : (t : Token) (ts rest : List Token) → IsWord word.Return t → Ends Bare ts rest → statement_of limit inner nested (t ∷ ts) ≡ Some (stmt.Return None, rest)
  return_alone_is t ts rest h e = return_at t ts ts rest None Bare h (held_none ts (bare_no_value 18 ts (end_stops e))) (end_is e)

  pub return_value_is : (t : Token) (ts mid rest : List Token) (a : Expr) (f : Form) → IsWord word.Return t → StartsOnLine ts → First begins ts
      → inner whole ts ≡ Some (piece a f, mid) → end_of f mid ≡ Some rest → statement_of limit inner nested (t ∷ ts) ≡ Some (stmt.Return (Some a), rest)
  return_value_is t ts mid rest a f h l p d e = return_at t ts mid rest (Some a) f h (held_some ts mid a f (some_value p l) d) e

  pub throw_is : (t : Token) (ts mid rest : List Token) (a : Expr) (f : Form) → IsWord word.Throw t → StartsOnLine ts → inner whole ts ≡ Some (piece a f, mid)
      → end_of f mid ≡ Some rest → statement_of limit inner nested (t ∷ ts) ≡ Some (stmt.Throw a, rest)
  unfolding statement_by
  throw_is t ts mid rest a f h l d e = statement_at t ts (kind.Reserved word.Throw) h ∙ ap (λ b. throw_by limit inner nested b ts) (on_line ts l)
      ∙ then_is (inner whole ts) (piece a f) mid _ d ∙ ended_on (stmt.Throw a) f mid rest e

  pub catch_all_is : {ts : List Token} {items : List Stmt} {rest : List Token} → ReadsBlock ts items rest → block_of limit inner nested ts ≡ Some (items, rest)
      → catch_of limit inner nested ts ≡ Some (caught limit inner nested None items, rest)
  unfolding catch_of
  catch_all_is {ts = ts} {items = items} {rest = rest} b d = ap (λ o. catch_by limit inner nested o ts) (block_no_open b) ∙ then_is (block_of limit inner nested ts) items rest _ d

  pub catch_name_is : (t n c : Token) (ts rest : List Token) (x : List ℕ) (items : List Stmt) → IsMark mark.OpenParenthesis t → IsName x n → IsMark mark.CloseParenthesis c
      → block_of limit inner nested ts ≡ Some (items, rest) → catch_of limit inner nested (t ∷ n ∷ c ∷ ts) ≡ Some (caught limit inner nested (Some x) items, rest)
  unfolding catch_of
  catch_name_is t n c ts rest x items h hn hc d = ap (λ o. catch_by limit inner nested o (t ∷ n ∷ c ∷ ts)) (take_on opens_parenthesis t (n ∷ c ∷ ts) (opens_parenthesis_on t.kind h))
      ∙ then_is (one name_of (n ∷ c ∷ ts)) x (c ∷ ts) _ (one_on name_of x n (c ∷ ts) (name_on n x hn)) ∙ taken closes_parenthesis c ts _ (closes_parenthesis_on c.kind hc)
      ∙ then_is (block_of limit inner nested ts) items rest _ d

  pub try_is : (t c : Token) (ts mid rest : List Token) (items : List Stmt) (p : CatchPart) → IsWord word.Try t → block_of limit inner nested ts ≡ Some (items, c ∷ mid)
      → IsWord word.Catch c → catch_of limit inner nested mid ≡ Some (p, rest) → statement_of limit inner nested (t ∷ ts) ≡ Some (stmt.Try items (Some p) None, rest)
  unfolding statement_by try_of
  try_is t c ts mid rest items p h d hc e = statement_at t ts (kind.Reserved word.Try) h ∙ then_is (block_of limit inner nested ts) items (c ∷ mid) _ d
      ∙ taken is_catch c mid _ (is_catch_on c.kind hc) ∙ then_is (catch_of limit inner nested mid) p rest _ e

  -- ---- items

  by_statement : (k : TokenKind) (t : Token) (ts : List Token) → starts k ≡ true → item_by limit inner nested k t ts ≡ statement_by limit inner nested k t ts
  unfolding item_by starts
  by_statement (kind.Reserved word.Let) t ts h = cc
  by_statement (kind.Reserved word.Const) t ts h = cc
  by_statement (kind.Reserved word.Function) t ts h = cc
  by_statement _ t ts h = refl

  item_at : (t : Token) (ts : List Token) (k : TokenKind) → t.kind ≡ k → item_of limit inner nested (t ∷ ts) ≡ item_by limit inner nested k t ts
  unfolding item_of
  item_at t ts k h = ap (λ x. item_by limit inner nested x t ts) h

  pub statement_is : {ts : List Token} {s : Stmt} {rest : List Token} → ReadsStmt ts s rest → statement_of limit inner nested ts ≡ Some (s, rest)
      → item_of limit inner nested ts ≡ Some (s, rest)
  statement_is {ts = ts} d e = let p = stmt_starts d in subst (λ (us : List Token). item_of limit inner nested us ≡ statement_of limit inner nested us) (sym p.is)
      (item_at p.token p.more p.token.kind refl ∙ by_statement p.token.kind p.token p.more p.passes ∙ sym (statement_at p.token p.more p.token.kind refl)) ∙ e

  pub let_is : (t : Token) (ts mid rest : List Token) (ds : List Decl) (f : Form) → IsWord word.Let t → decls_of limit inner nested ts ≡ Some (of_decls ds f, mid)
      → end_of f mid ≡ Some rest → item_of limit inner nested (t ∷ ts) ≡ Some (stmt.Let ds, rest)
  unfolding item_by
  let_is t ts mid rest ds f h d e = item_at t ts (kind.Reserved word.Let) h ∙ then_is (decls_of limit inner nested ts) (of_decls ds f) mid _ d ∙ ended_on (stmt.Let ds) f mid rest e

  pub const_is : (t : Token) (ts mid rest : List Token) (ds : List Decl) (f : Form) → IsWord word.Const t → decls_of limit inner nested ts ≡ Some (of_decls ds f, mid)
      → end_of f mid ≡ Some rest → item_of limit inner nested (t ∷ ts) ≡ Some (stmt.Const ds, rest)
  unfolding item_by
  const_is t ts mid rest ds f h d e = item_at t ts (kind.Reserved word.Const) h ∙ then_is (decls_of limit inner nested ts) (of_decls ds f) mid _ d ∙ ended_on (stmt.Const ds) f mid rest e

  pub function_item_is : (t : Token) (ts rest : List Token) (g : Function) (x : List ℕ) → IsWord word.Function t → function_rest limit inner nested ts ≡ Some (g, rest)
      → g.name ≡ Some x → item_of limit inner nested (t ∷ ts) ≡ Some (stmt.Function g, rest)
  unfolding item_by
  function_item_is t ts rest g x h d n = item_at t ts (kind.Reserved word.Function) h ∙ then_is (function_rest limit inner nested ts) g rest _ d
      ∙ ap (λ o. named_function limit inner nested o g rest) n
