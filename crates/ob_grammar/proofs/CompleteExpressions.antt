-- What the descent gives of expressions, from what it gives of their parts.
use Rattle.std.proofs.Common.{◌≡◌, ℕ, zero, suc, ◌+◌, ◌≤◌, ◌<◌, List, [], ◌∷◌, length, Bool, true, false, Option, Some, None, refl, sym, subst, ap, ◌∙◌, if◌then◌else◌, cond, eq-eqb, arith}
use Rattle.std.proofs.lemmas.Bool.{le-leb, ne_eqb}
use Rattle.ob_base.specs.declared.operators.BinaryOp.TheVariants.{Pow}
use Rattle.ob_base.specs.declared.operators.UnaryOp.{UnaryOp}
use Rattle.ob_lex.specs.declared.punctuator.Punctuator.TheVariants as mark
use Rattle.ob_base.specs.declared.reserved.ReservedWord.TheVariants as word
use Rattle.ob_lex.specs.declared.token.Token.{Token}
use Rattle.ob_lex.specs.declared.token.TokenKind.{TokenKind}
use Rattle.ob_lex.specs.declared.token.TokenKind.TheVariants as kind
use Rattle.ob_base.specs.declared.operators.AssignOp.{AssignOp}
use Rattle.ob_base.specs.declared.operators.UpdateOp.{UpdateOp}
use Rattle.ob_tree_types.specs.declared.tree.Expr.{Expr}
use Rattle.ob_tree_types.specs.declared.tree.Expr.TheVariants as node
use Rattle.ob_tree_types.specs.declared.tree.PropNode.{PropNode}
use Rattle.ob_tree_types.specs.declared.tree.Function.{Function}
use Rattle.ob_tree_types.specs.declared.tree.FnBody.{FnBody}
use Rattle.ob_tree_types.specs.declared.tree.FnBody.TheVariants as body
use Rattle.ob_tree_types.specs.declared.tree.Stmt.{Stmt}
use Rattle.ob_tree.specs.Depth.{expr_depth}
use Rattle.ob_grammar.specs.Marks.{IsMark, IsWord, IsName, SameLine, NotMark, word_of, literal_of, mark_rank, rank_by, rank, joined, infix_of, unary_of, update_of, assign_of}
use Rattle.ob_grammar.specs.declared.form.Infix.{Infix}
use Rattle.ob_grammar.specs.declared.form.Form.{Form}
use Rattle.ob_grammar.specs.declared.form.Form.TheVariants.{Target, Other, Updated, Closed}
use Rattle.ob_grammar.specs.declared.form.Level.{Level}
use Rattle.ob_grammar.specs.declared.piece.Piece.{Piece}
use Rattle.ob_grammar.specs.Forms.{edge, Stops}
use Rattle.ob_grammar.specs.Grammar.{Rule, whole, chain, power, prefixed, tighter, arrow_function, ReadsBlock, block}
use Rattle.ob_grammar.specs.Taking.{Read, Parser, ◌>>=◌, piece, opens_parenthesis, closes_parenthesis, closes_bracket, opens_brace, is_colon, is_question, is_star_star, name_of, take, next_is, one, arrow_head}
use Rattle.ob_grammar.specs.Reading.{kept, list_of, props_from, block_of, function_rest, primary_by, primary_at, primary_of, step_by, steps_from, left_of, behind_by, count_behind, update_at, updated_of, prefixed_at, prefixed_of, raised_by, raise, power_at, power_of, more_by, operator_at, operands_from, operands_of, chain_of, has_rank, short_by, short_of, chosen_by, conditional_of, assign_by, assigned_of, body_by, arrow_body, whole_by, whole_of, at}
use Rattle.ob_grammar.proofs.CompleteTaking.{then_is, take_on, take_off, next_on, before_on, one_on, taken, name_on}
use Rattle.ob_grammar.proofs.Firsts.{First, begins_left, Unsigned, left_no_count, left_no_sign}
use Rattle.ob_grammar.proofs.Stopping.{IsLeft, IsOperand, IsValue, left_operand, operand_value, quiet, operand_rank, value_rank, left_rank, rank_update, rank_star_star, rank_question, rank_assign}
use Rattle.ob_grammar.proofs.Tests.{opens_parenthesis_on, closes_parenthesis_on, closes_bracket_on, opens_brace_on, opens_brace_off, is_colon_on, is_question_on, is_question_off, is_star_star_on, is_star_star_off}

-- ---- what does not stand there

pub no_star_star : (f : Form) (ts : List Token) → IsOperand f → Stops f 3 ts → take is_star_star ts ≡ None
unfolding take
no_star_star f [] o s = refl
no_star_star f (t ∷ ts) o s = take_off is_star_star t ts (is_star_star_off t.kind (λ e. operand_rank f 3 2 t o s (omega arith) (omega arith) (rank_star_star t e)))

pub no_question : (f : Form) (ts : List Token) → IsOperand f → Stops f 15 ts → take is_question ts ≡ None
unfolding take
no_question f [] o s = refl
no_question f (t ∷ ts) o s = take_off is_question t ts (is_question_off t.kind (λ e. operand_rank f 15 14 t o s (omega arith) (omega arith) (rank_question t e)))

abbrev pub NotRank : ℕ → List Token → Type 0
NotRank n [] = Unit {0}
NotRank n (t ∷ ts) = rank t ≡ n → ⊥

pub not_rank : (f : Form) (n x : ℕ) (ts : List Token) → IsOperand f → Stops f n ts → 2 ≤ x → x < n → NotRank x ts
not_rank f n x [] o s lo hi = tt
not_rank f n x (t ∷ ts) o s lo hi = λ e. operand_rank f n x t o s lo hi e

pub no_brace : (ts : List Token) → NotMark mark.OpenBrace ts → next_is opens_brace ts ≡ false
unfolding next_is
no_brace [] h = refl
no_brace (t ∷ ts) h = opens_brace_off t.kind h

-- ---- what a loop keeps

kept_is : (limit : ℕ) (p : Piece) (go : Piece → Parser Piece) (ts : List Token) → expr_depth p.tree ≤ limit → kept limit p go ts ≡ go p ts
unfolding kept
kept_is limit p go ts h = ap (λ b. if b then go p ts else None) (le-leb (expr_depth p.tree) limit h)

module _ (limit : ℕ) (inner : Rule → Parser Piece) (nested : Level → Parser Stmt) where
  -- ---- Primary

  pub literal_is : (t : Token) (ts : List Token) (a : Expr) → literal_of t.kind ≡ Some a → primary_of limit inner nested (t ∷ ts) ≡ Some (piece a Other, ts)
  unfolding primary_of
  literal_is t ts a h = ap (λ o. primary_at limit inner nested o t.kind ts) h

  primary_kind : (t : Token) (ts : List Token) (k : TokenKind) → t.kind ≡ k → literal_of k ≡ None → primary_of limit inner nested (t ∷ ts) ≡ primary_by limit inner nested k ts
  unfolding primary_of
  primary_kind t ts k h n = ap (λ x. primary_at limit inner nested (literal_of x) x ts) h ∙ ap (λ o. primary_at limit inner nested o k ts) n

  pub name_is : (t : Token) (ts : List Token) (x : List ℕ) → IsName x t → primary_of limit inner nested (t ∷ ts) ≡ Some (piece (node.Name x) Target, ts)
  unfolding literal_of primary_by
  name_is t ts x h = primary_kind t ts (kind.Name x) h refl

  pub viewof_is : (t n : Token) (ts : List Token) (x : List ℕ) → IsWord word.Viewof t → IsName x n
      → primary_of limit inner nested (t ∷ n ∷ ts) ≡ Some (piece (node.ViewofName x) Other, ts)
  unfolding literal_of primary_by
  viewof_is t n ts x h hn = primary_kind t (n ∷ ts) (kind.Reserved word.Viewof) h refl ∙ then_is (one name_of (n ∷ ts)) x ts _ (one_on name_of x n ts (name_on n x hn))

  pub made_is : (t n p : Token) (ts : List Token) (x : List ℕ) (args : List Expr) (rest : List Token) → IsWord word.New t → IsName x n → IsMark mark.OpenParenthesis p
      → list_of limit inner nested closes_parenthesis ts ≡ Some (args, rest) → primary_of limit inner nested (t ∷ n ∷ p ∷ ts) ≡ Some (piece (node.New x args) Other, rest)
  unfolding literal_of primary_by
  made_is t n p ts x args rest h hn hp d = primary_kind t (n ∷ p ∷ ts) (kind.Reserved word.New) h refl
      ∙ then_is (one name_of (n ∷ p ∷ ts)) x (p ∷ ts) _ (one_on name_of x n (p ∷ ts) (name_on n x hn))
      ∙ taken opens_parenthesis p ts _ (opens_parenthesis_on p.kind hp) ∙ then_is (list_of limit inner nested closes_parenthesis ts) args rest _ d

  pub parentheses_is : (t c : Token) (ts rest : List Token) (a : Expr) (f : Form) → IsMark mark.OpenParenthesis t → inner whole ts ≡ Some (piece a f, c ∷ rest)
      → IsMark mark.CloseParenthesis c → primary_of limit inner nested (t ∷ ts) ≡ Some (piece a Other, rest)
  unfolding literal_of primary_by
  parentheses_is t c ts rest a f h d hc = primary_kind t ts (kind.Punctuator mark.OpenParenthesis) h refl ∙ then_is (inner whole ts) (piece a f) (c ∷ rest) _ d
      ∙ before_on closes_parenthesis (piece a Other) c rest (closes_parenthesis_on c.kind hc)

  pub array_is : (t : Token) (ts rest : List Token) (items : List Expr) → IsMark mark.OpenBracket t → list_of limit inner nested closes_bracket ts ≡ Some (items, rest)
      → primary_of limit inner nested (t ∷ ts) ≡ Some (piece (node.Array items) Other, rest)
  unfolding literal_of primary_by
  array_is t ts rest items h d = primary_kind t ts (kind.Punctuator mark.OpenBracket) h refl ∙ then_is (list_of limit inner nested closes_bracket ts) items rest _ d

  pub object_is : (t : Token) (ts rest : List Token) (props : List PropNode) → IsMark mark.OpenBrace t → props_from limit inner nested (length ts) ts ≡ Some (props, rest)
      → primary_of limit inner nested (t ∷ ts) ≡ Some (piece (node.Object props) Other, rest)
  unfolding literal_of primary_by
  object_is t ts rest props h d = primary_kind t ts (kind.Punctuator mark.OpenBrace) h refl ∙ then_is (props_from limit inner nested (length ts) ts) props rest _ d

  pub function_expression_is : (t : Token) (ts rest : List Token) (g : Function) → IsWord word.Function t → function_rest limit inner nested ts ≡ Some (g, rest)
      → primary_of limit inner nested (t ∷ ts) ≡ Some (piece (node.Function g) Other, rest)
  unfolding literal_of primary_by
  function_expression_is t ts rest g h d = primary_kind t ts (kind.Reserved word.Function) h refl ∙ then_is (function_rest limit inner nested ts) g rest _ d

  -- ---- Left

  pub member_is : (n : ℕ) (a : Expr) (f : Form) (t u : Token) (x : List ℕ) (ts : List Token) (q : Read Piece) → IsMark mark.Dot t → word_of u.kind ≡ Some x
      → expr_depth (node.Member a x) ≤ limit → steps_from limit inner nested n (piece (node.Member a x) Target) ts ≡ q → steps_from limit inner nested (suc n) (piece a f) (t ∷ u ∷ ts) ≡ q
  unfolding steps_from step_by
  member_is n a f t u x ts q h hu top more = ap (λ k. step_by limit inner nested k (piece a f) t (u ∷ ts) (steps_from limit inner nested n)) h
      ∙ then_is (one word_of (u ∷ ts)) x ts _ (one_on word_of x u ts hu)
      ∙ kept_is limit (piece (node.Member a x) Target) (steps_from limit inner nested n) ts top ∙ more

  pub index_is : (n : ℕ) (a k : Expr) (f h : Form) (t c : Token) (ts mid : List Token) (q : Read Piece) → IsMark mark.OpenBracket t
      → inner whole ts ≡ Some (piece k h, c ∷ mid) → IsMark mark.CloseBracket c → expr_depth (node.Index a k) ≤ limit
      → steps_from limit inner nested n (piece (node.Index a k) Target) mid ≡ q
      → steps_from limit inner nested (suc n) (piece a f) (t ∷ ts) ≡ q
  unfolding steps_from step_by
  index_is n a k f h t c ts mid q ht d hc top more = ap (λ k. step_by limit inner nested k (piece a f) t ts (steps_from limit inner nested n)) ht
      ∙ then_is (inner whole ts) (piece k h) (c ∷ mid) _ d ∙ taken closes_bracket c mid _ (closes_bracket_on c.kind hc)
      ∙ kept_is limit (piece (node.Index a k) Target) (steps_from limit inner nested n) mid top ∙ more

  pub call_is : (n : ℕ) (a : Expr) (f : Form) (t : Token) (args : List Expr) (ts mid : List Token) (q : Read Piece) → IsMark mark.OpenParenthesis t
      → list_of limit inner nested closes_parenthesis ts ≡ Some (args, mid) → expr_depth (node.Call a args) ≤ limit
      → steps_from limit inner nested n (piece (node.Call a args) Other) mid ≡ q
      → steps_from limit inner nested (suc n) (piece a f) (t ∷ ts) ≡ q
  unfolding steps_from step_by
  call_is n a f t args ts mid q ht d top more = ap (λ k. step_by limit inner nested k (piece a f) t ts (steps_from limit inner nested n)) ht
      ∙ then_is (list_of limit inner nested closes_parenthesis ts) args mid _ d
      ∙ kept_is limit (piece (node.Call a args) Other) (steps_from limit inner nested n) mid top ∙ more

  step_stop : (b : Bool) (k : TokenKind) (p : Piece) (t : Token) (ts : List Token) (go : Piece → Parser Piece) → 1 ≤ rank_by b k
      → step_by limit inner nested k p t ts go ≡ Some (p, t ∷ ts)
  unfolding step_by rank_by mark_rank
  step_stop b (kind.Punctuator mark.Dot) p t ts go h = absurd (omega arith)
  step_stop b (kind.Punctuator mark.OpenBracket) p t ts go h = absurd (omega arith)
  step_stop b (kind.Punctuator mark.OpenParenthesis) p t ts go h = absurd (omega arith)
  step_stop b _ p t ts go h = refl

  pub steps_stop : (n : ℕ) (a : Expr) (f : Form) (ts : List Token) → IsLeft f → Stops f 1 ts → steps_from limit inner nested n (piece a f) ts ≡ Some (piece a f, ts)
  unfolding steps_from
  steps_stop zero a f ts l s = refl
  steps_stop (suc n) a f [] l s = refl
  steps_stop (suc n) a f (t ∷ ts) l s = step_stop t.break_before t.kind (piece a f) t ts (steps_from limit inner nested n) (left_rank f 1 t l s)

  pub left_is : (ts mid rest : List Token) (p q : Piece) → primary_of limit inner nested ts ≡ Some (p, mid)
      → steps_from limit inner nested (length mid) p mid ≡ Some (q, rest) → left_of limit inner nested ts ≡ Some (q, rest)
  unfolding left_of
  left_is ts mid rest p q d s = then_is (primary_of limit inner nested ts) p mid _ d ∙ s

  -- ---- Update

  pub counted_before_is : (t : Token) (ts rest : List Token) (op : UpdateOp) (a : Expr) → update_of t.kind ≡ Some op → left_of limit inner nested ts ≡ Some (piece a Target, rest)
      → updated_of limit inner nested (t ∷ ts) ≡ Some (piece (node.Update op true a) Other, rest)
  unfolding updated_of
  counted_before_is t ts rest op a h d = ap (λ o. update_at limit inner nested o t ts) h ∙ then_is (left_of limit inner nested ts) (piece a Target) rest _ d

  updated_plain : (ts : List Token) → First begins_left ts → updated_of limit inner nested ts ≡ (left_of limit inner nested ts >>= count_behind limit inner nested)
  unfolding updated_of
  updated_plain ts p = subst (λ (us : List Token). updated_of limit inner nested us ≡ (left_of limit inner nested us >>= count_behind limit inner nested)) (sym p.is)
      (ap (λ o. update_at limit inner nested o p.token p.more) (left_no_count p.token.kind p.passes))

  pub counted_behind_is : (ts rest : List Token) (t : Token) (op : UpdateOp) (a : Expr) → First begins_left ts → left_of limit inner nested ts ≡ Some (piece a Target, t ∷ rest)
      → update_of t.kind ≡ Some op → SameLine t → updated_of limit inner nested ts ≡ Some (piece (node.Update op false a) Updated, rest)
  unfolding count_behind
  counted_behind_is ts rest t op a p d h s = updated_plain ts p ∙ then_is (left_of limit inner nested ts) (piece a Target) (t ∷ rest) _ d
      ∙ ap (λ b. behind_by limit inner nested Target b (update_of t.kind) a t rest) s ∙ ap (λ o. behind_by limit inner nested Target false o a t rest) h

  behind_stop : (f : Form) (b : Bool) (o : Option UpdateOp) (a : Expr) (t : Token) (ts : List Token) → (b ≡ false → (op : UpdateOp) → o ≡ Some op → ⊥)
      → behind_by limit inner nested f b o a t ts ≡ Some (piece a f, t ∷ ts)
  behind_stop Target false (Some op) a t ts h = absurd (h refl op refl)
  behind_stop f b o a t ts h = refl

  count_stop : (a : Expr) (f : Form) (ts : List Token) → IsLeft f → Stops f 2 ts → count_behind limit inner nested (piece a f) ts ≡ Some (piece a f, ts)
  unfolding count_behind
  count_stop a f [] l s = refl
  count_stop a f (t ∷ ts) l s = behind_stop f t.break_before (update_of t.kind) a t ts (λ e op h. let q = left_rank f 2 t l s in omega (arith, rank_update t op h e))

  pub uncounted_is : (ts rest : List Token) (a : Expr) (f : Form) → First begins_left ts → IsLeft f → Stops f 2 rest → left_of limit inner nested ts ≡ Some (piece a f, rest)
      → updated_of limit inner nested ts ≡ Some (piece a f, rest)
  uncounted_is ts rest a f p l s d = updated_plain ts p ∙ then_is (left_of limit inner nested ts) (piece a f) rest _ d ∙ count_stop a f rest l s

  -- ---- Unary and Power

  pub signed_is : (t : Token) (ts rest : List Token) (op : UnaryOp) (a : Expr) (f : Form) → unary_of t.kind ≡ Some op → inner prefixed ts ≡ Some (piece a f, rest)
      → prefixed_of limit inner nested (t ∷ ts) ≡ Some (piece (node.Unary op a) (edge f), rest)
  unfolding prefixed_of
  signed_is t ts rest op a f h d = ap (λ o. prefixed_at limit inner nested o t ts) h ∙ then_is (inner prefixed ts) (piece a f) rest _ d

  pub unsigned_is : (ts : List Token) (q : Read Piece) → Unsigned ts → updated_of limit inner nested ts ≡ q → prefixed_of limit inner nested ts ≡ q
  unfolding prefixed_of
  unsigned_is ts q p d = subst (λ (us : List Token). prefixed_of limit inner nested us ≡ updated_of limit inner nested us) (sym p.is)
      (ap (λ o. prefixed_at limit inner nested o p.token p.more) p.no_sign) ∙ d

  pub signed_power : (t : Token) (ts rest : List Token) (op : UnaryOp) (a : Expr) (f : Form) → unary_of t.kind ≡ Some op → inner prefixed ts ≡ Some (piece a f, rest)
      → power_of limit inner nested (t ∷ ts) ≡ Some (piece (node.Unary op a) (edge f), rest)
  unfolding power_of
  signed_power t ts rest op a f h d = ap (λ o. power_at limit inner nested o t ts) h ∙ then_is (inner prefixed ts) (piece a f) rest _ d

  power_plain : (ts : List Token) → Unsigned ts → power_of limit inner nested ts ≡ (updated_of limit inner nested ts >>= raise limit inner nested)
  unfolding power_of
  power_plain ts p = subst (λ (us : List Token). power_of limit inner nested us ≡ (updated_of limit inner nested us >>= raise limit inner nested)) (sym p.is)
      (ap (λ o. power_at limit inner nested o p.token p.more) p.no_sign)

  pub unsigned_power : (ts rest : List Token) (a : Expr) (f : Form) → Unsigned ts → IsOperand f → Stops f 3 rest → updated_of limit inner nested ts ≡ Some (piece a f, rest)
      → power_of limit inner nested ts ≡ Some (piece a f, rest)
  unfolding raise
  unsigned_power ts rest a f p o s d = power_plain ts p ∙ then_is (updated_of limit inner nested ts) (piece a f) rest _ d
      ∙ ap (λ x. raised_by limit inner nested x (piece a f) rest) (no_star_star f rest o s)

  pub raised_is : (ts mid rest : List Token) (t : Token) (a b : Expr) (f g : Form) → Unsigned ts → updated_of limit inner nested ts ≡ Some (piece a f, t ∷ mid)
      → IsMark mark.StarStar t → inner power mid ≡ Some (piece b g, rest) → power_of limit inner nested ts ≡ Some (piece (node.Binary Pow a b) (edge g), rest)
  unfolding raise
  raised_is ts mid rest t a b f g p d h e = power_plain ts p ∙ then_is (updated_of limit inner nested ts) (piece a f) (t ∷ mid) _ d
      ∙ ap (λ x. raised_by limit inner nested x (piece a f) (t ∷ mid)) (take_on is_star_star t mid (is_star_star_on t.kind h)) ∙ then_is (inner power mid) (piece b g) rest _ e

  -- ---- operators that group to the left

  operator_on : (n : ℕ) (t : Token) (op : Infix) → rank t ≡ n → infix_of t.kind ≡ Some op → operator_at limit inner nested n t ≡ Some op
  operator_on n t op h ho = ap (λ b. cond b (infix_of t.kind) None) (eq-eqb (rank t) n h) ∙ ho

  operator_off : (n : ℕ) (t : Token) → (rank t ≡ n → ⊥) → operator_at limit inner nested n t ≡ None
  operator_off n t h = ap (λ b. cond b (infix_of t.kind) None) (ne_eqb (rank t) n h)

  pub operands_stop : (next : Parser Piece) (n m : ℕ) (p : Piece) (ts : List Token) → NotRank n ts → operands_from limit inner nested next n m p ts ≡ Some (p, ts)
  unfolding operands_from
  operands_stop next n zero p ts h = refl
  operands_stop next n (suc m) p [] h = refl
  operands_stop next n (suc m) p (t ∷ ts) h = ap (λ o. more_by limit inner nested o p t ts next (operands_from limit inner nested next n m)) (operator_off n t h)

  pub operands_more : (next : Parser Piece) (n m : ℕ) (a b : Expr) (f g : Form) (t : Token) (ts mid : List Token) (op : Infix) (q : Read Piece) → rank t ≡ n
      → infix_of t.kind ≡ Some op → next ts ≡ Some (piece b g, mid) → expr_depth (joined op a b) ≤ limit
      → operands_from limit inner nested next n m (piece (joined op a b) (edge g)) mid ≡ q
      → operands_from limit inner nested next n (suc m) (piece a f) (t ∷ ts) ≡ q
  unfolding operands_from
  operands_more next n m a b f g t ts mid op q h ho d top more = ap (λ o. more_by limit inner nested o (piece a f) t ts next (operands_from limit inner nested next n m)) (operator_on n t op h ho)
      ∙ then_is (next ts) (piece b g) mid _ d ∙ kept_is limit (piece (joined op a b) (edge g)) (operands_from limit inner nested next n m) mid top ∙ more

  chain_by : (k : ℕ) (ts : List Token) → chain_of limit inner nested k ts ≡ (at limit inner nested (tighter k) ts >>= operands_of limit inner nested (inner (tighter k)) (k + 3))
  unfolding chain_of
  chain_by zero ts = refl
  chain_by (suc k) ts = refl

  pub chain_is : (k : ℕ) (ts mid : List Token) (p : Piece) (q : Read Piece) → at limit inner nested (tighter k) ts ≡ Some (p, mid)
      → operands_from limit inner nested (inner (tighter k)) (k + 3) (length mid) p mid ≡ q → chain_of limit inner nested k ts ≡ q
  unfolding operands_of
  chain_is k ts mid p q d more = chain_by k ts ∙ then_is (at limit inner nested (tighter k) ts) p mid _ d ∙ more

  -- ---- Short

  has_rank_on : (n : ℕ) (t : Token) (ts : List Token) → rank t ≡ n → has_rank limit inner nested n (t ∷ ts) ≡ true
  has_rank_on n t ts h = eq-eqb (rank t) n h

  has_rank_off : (n : ℕ) (ts : List Token) → NotRank n ts → has_rank limit inner nested n ts ≡ false
  has_rank_off n [] h = refl
  has_rank_off n (t ∷ ts) h = ne_eqb (rank t) n h

  pub coalesced_is : (ts mid : List Token) (t : Token) (p : Piece) (q : Read Piece) → chain_of limit inner nested 7 ts ≡ Some (p, t ∷ mid) → rank t ≡ 13
      → operands_from limit inner nested (inner (chain 7)) 13 (length (t ∷ mid)) p (t ∷ mid) ≡ q → short_of limit inner nested ts ≡ q
  unfolding short_of operands_of
  coalesced_is ts mid t p q d h more = then_is (chain_of limit inner nested 7 ts) p (t ∷ mid) _ d
      ∙ ap (λ b. short_by limit inner nested b p (t ∷ mid)) (has_rank_on 13 t mid h) ∙ more

  pub disjoined_is : (ts mid next : List Token) (p q : Piece) (r : Read Piece) → chain_of limit inner nested 7 ts ≡ Some (p, mid) → NotRank 13 mid
      → operands_from limit inner nested (inner (chain 7)) 11 (length mid) p mid ≡ Some (q, next)
      → operands_from limit inner nested (inner (chain 8)) 12 (length next) q next ≡ r → short_of limit inner nested ts ≡ r
  unfolding short_of operands_of
  disjoined_is ts mid next p q r d h more last = then_is (chain_of limit inner nested 7 ts) p mid _ d
      ∙ ap (λ b. short_by limit inner nested b p mid) (has_rank_off 13 mid h) ∙ then_is (operands_from limit inner nested (inner (chain 7)) 11 (length mid) p mid) q next _ more ∙ last

  -- ---- Cond

  pub chosen_is : (ts first second rest : List Token) (q c : Token) (a b d : Expr) (f g h : Form) → short_of limit inner nested ts ≡ Some (piece a f, q ∷ first)
      → IsMark mark.Question q → inner whole first ≡ Some (piece b g, c ∷ second) → IsMark mark.Colon c → inner whole second ≡ Some (piece d h, rest)
      → conditional_of limit inner nested ts ≡ Some (piece (node.Cond a b d) (edge h), rest)
  unfolding conditional_of
  chosen_is ts first second rest q c a b d f g h e1 hq e2 hc e3 = then_is (short_of limit inner nested ts) (piece a f) (q ∷ first) _ e1
      ∙ ap (λ o. chosen_by limit inner nested o (piece a f) (q ∷ first)) (take_on is_question q first (is_question_on q.kind hq))
      ∙ then_is (inner whole first) (piece b g) (c ∷ second) _ e2 ∙ taken is_colon c second _ (is_colon_on c.kind hc)
      ∙ then_is (inner whole second) (piece d h) rest _ e3

  pub unchosen_is : (ts rest : List Token) (a : Expr) (f : Form) → IsOperand f → Stops f 15 rest → short_of limit inner nested ts ≡ Some (piece a f, rest)
      → conditional_of limit inner nested ts ≡ Some (piece a f, rest)
  unfolding conditional_of
  unchosen_is ts rest a f o s e = then_is (short_of limit inner nested ts) (piece a f) rest _ e ∙ ap (λ x. chosen_by limit inner nested x (piece a f) rest) (no_question f rest o s)

  -- ---- Expr

  pub block_body_is : {ts : List Token} {items : List Stmt} {rest : List Token} → ReadsBlock ts items rest → block_of limit inner nested ts ≡ Some (items, rest)
      → arrow_body limit inner nested ts ≡ Some (record { tree = body.Items items; form = Closed }, rest)
  unfolding arrow_body
  block_body_is (block t ts rest items h e) d = ap (λ b. body_by limit inner nested b (t ∷ ts)) (next_on opens_brace t ts true (opens_brace_on t.kind h))
      ∙ then_is (block_of limit inner nested (t ∷ ts)) items rest _ d

  pub value_body_is : (ts rest : List Token) (a : Expr) (f : Form) → NotMark mark.OpenBrace ts → inner whole ts ≡ Some (piece a f, rest)
      → arrow_body limit inner nested ts ≡ Some (record { tree = body.Value a; form = edge f }, rest)
  unfolding arrow_body
  value_body_is ts rest a f h d = ap (λ b. body_by limit inner nested b ts) (no_brace ts h) ∙ then_is (inner whole ts) (piece a f) rest _ d

  pub arrow_is : (ts mid rest : List Token) (xs : List (List ℕ)) (b : FnBody) (f : Form) → arrow_head ts ≡ Some (xs, mid)
      → arrow_body limit inner nested mid ≡ Some (record { tree = b; form = f }, rest) → whole_of limit inner nested ts ≡ Some (piece (node.Arrow (arrow_function xs b)) f, rest)
  unfolding whole_of
  arrow_is ts mid rest xs b f h d = ap (λ o. whole_by limit inner nested o ts) h ∙ then_is (arrow_body limit inner nested mid) (record { tree = b; form = f }) rest _ d

  pub assigned_is : (ts mid rest : List Token) (t : Token) (op : AssignOp) (a b : Expr) (f : Form) → arrow_head ts ≡ None
      → conditional_of limit inner nested ts ≡ Some (piece a Target, t ∷ mid) → assign_of t.kind ≡ Some op → inner whole mid ≡ Some (piece b f, rest)
      → whole_of limit inner nested ts ≡ Some (piece (node.Assign op a b) (edge f), rest)
  unfolding whole_of assigned_of
  assigned_is ts mid rest t op a b f n d h e = ap (λ o. whole_by limit inner nested o ts) n ∙ then_is (conditional_of limit inner nested ts) (piece a Target) (t ∷ mid) _ d
      ∙ ap (λ o. assign_by limit inner nested Target o a t mid) h ∙ then_is (inner whole mid) (piece b f) rest _ e

  assign_stop : (f : Form) (o : Option AssignOp) (a : Expr) (t : Token) (ts : List Token) → ((op : AssignOp) → o ≡ Some op → ⊥)
      → assign_by limit inner nested f o a t ts ≡ Some (piece a f, t ∷ ts)
  assign_stop Target (Some op) a t ts h = absurd (h op refl)
  assign_stop f o a t ts h = refl

  assigned_stop : (a : Expr) (f : Form) (ts : List Token) → IsValue f → Stops f 17 ts → assigned_of limit inner nested (piece a f) ts ≡ Some (piece a f, ts)
  unfolding assigned_of
  assigned_stop a f [] v s = refl
  assigned_stop a f (t ∷ ts) v s = assign_stop f (assign_of t.kind) a t ts (λ op h. value_rank f 17 15 t v s (omega arith) (omega arith) (rank_assign t op h))

  pub unassigned_is : (ts rest : List Token) (a : Expr) (f : Form) → arrow_head ts ≡ None → IsValue f → Stops f 17 rest
      → conditional_of limit inner nested ts ≡ Some (piece a f, rest) → whole_of limit inner nested ts ≡ Some (piece a f, rest)
  unfolding whole_of
  unassigned_is ts rest a f n v s d = ap (λ o. whole_by limit inner nested o ts) n ∙ then_is (conditional_of limit inner nested ts) (piece a f) rest _ d ∙ assigned_stop a f rest v s

  -- ---- a target before an assignment is a Cond

  chain_up : (ts mid : List Token) (t : Token) (p : Piece) → power_of limit inner nested ts ≡ Some (p, t ∷ mid) → rank t ≡ 15 → (k : ℕ) → k ≤ 9
      → chain_of limit inner nested k ts ≡ Some (p, t ∷ mid)
  chain_up ts mid t p d h zero le = chain_is zero ts (t ∷ mid) p _ d (operands_stop (inner power) 3 (length (t ∷ mid)) p (t ∷ mid) (λ e. omega arith))
  chain_up ts mid t p d h (suc k) le = chain_is (suc k) ts (t ∷ mid) p _ (chain_up ts mid t p d h k (omega arith))
      (operands_stop (inner (chain k)) (suc k + 3) (length (t ∷ mid)) p (t ∷ mid) (λ e. omega arith))

  pub left_short : (ts mid : List Token) (t : Token) (a : Expr) (f : Form) → First begins_left ts → IsLeft f → left_of limit inner nested ts ≡ Some (piece a f, t ∷ mid)
      → rank t ≡ 15 → short_of limit inner nested ts ≡ Some (piece a f, t ∷ mid)
  left_short ts mid t a f p l d h =
      let o = left_operand f l in
      let v = operand_value f o in
      let u = uncounted_is ts (t ∷ mid) a f p l (quiet f 2 t v (omega arith)) d in
      let w = unsigned_power ts (t ∷ mid) a f (record { token = p.token; more = p.more; is = p.is; no_sign = left_no_sign p.token.kind p.passes }) o (quiet f 3 t v (omega arith)) u in
      let c = chain_up ts mid t (piece a f) w h 7 (omega arith) in
      disjoined_is ts (t ∷ mid) (t ∷ mid) (piece a f) (piece a f) _ c (λ e. omega arith)
      (operands_stop (inner (chain 7)) 11 (length (t ∷ mid)) (piece a f) (t ∷ mid) (λ e. omega arith))
      (operands_stop (inner (chain 8)) 12 (length (t ∷ mid)) (piece a f) (t ∷ mid) (λ e. omega arith))

  pub target_conditional : (ts mid : List Token) (t : Token) (a : Expr) → First begins_left ts → left_of limit inner nested ts ≡ Some (piece a Target, t ∷ mid) → rank t ≡ 15
      → conditional_of limit inner nested ts ≡ Some (piece a Target, t ∷ mid)
  target_conditional ts mid t a p d h = unchosen_is ts (t ∷ mid) a Target tt (omega arith) (left_short ts mid t a Target p tt d h)
