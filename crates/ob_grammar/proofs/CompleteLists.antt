-- What the descent gives of lists, properties, blocks and functions, from what it gives of their parts.
use Rattle.std.proofs.Common.{◌≡◌, ℕ, suc, ◌≤◌, List, [], ◌∷◌, length, Bool, true, false, Some, None, refl, ap, ◌∙◌, arith}
use Rattle.ob_lex.specs.declared.punctuator.Punctuator.{Punctuator}
use Rattle.ob_lex.specs.declared.punctuator.Punctuator.TheVariants as mark
use Rattle.ob_lex.specs.declared.token.Token.{Token}
use Rattle.ob_lex.specs.declared.token.TokenKind.{TokenKind}
use Rattle.ob_lex.specs.declared.token.TokenKind.TheVariants as kind
use Rattle.ob_tree_types.specs.declared.tree.Expr.{Expr}
use Rattle.ob_tree_types.specs.declared.tree.PropNode.{PropNode}
use Rattle.ob_tree_types.specs.declared.tree.PropNode.TheVariants as prop
use Rattle.ob_tree_types.specs.declared.tree.Stmt.{Stmt}
use Rattle.ob_grammar.specs.Marks.{IsMark, IsName, key_of, rank}
use Rattle.ob_grammar.specs.declared.form.Form.{Form}
use Rattle.ob_grammar.specs.declared.form.Level.{Level}
use Rattle.ob_grammar.specs.declared.form.Level.TheVariants as level
use Rattle.ob_grammar.specs.declared.piece.Piece.{Piece}
use Rattle.ob_grammar.specs.declared.piece.Signature.{Signature}
use Rattle.ob_grammar.specs.Grammar.{Rule, whole, function_of}
use Rattle.ob_grammar.specs.Taking.{Parser, piece, closes_parenthesis, opens_bracket, closes_bracket, opens_brace, closes_brace, is_comma, is_semicolon, is_colon, name_of, take, signature_of}
use Rattle.ob_grammar.specs.Reading.{list_by, list_at, list_from, list_of, keyed_prop, prop_by, prop_of, props_by, props_at, props_from, items_at, items_from, block_of, function_rest}
use Rattle.ob_grammar.proofs.CompleteTaking.{then_is, take_on, taken}
use Rattle.ob_grammar.proofs.Firsts.{begins, begins_not_closes_parenthesis, begins_not_closes_bracket, begins_not_is_semicolon}
use Rattle.ob_grammar.proofs.Stopping.{rank_close, rank_close_bracket, rank_semicolon}
use Rattle.ob_grammar.proofs.Tests.{closes_parenthesis_on, closes_bracket_on, opens_brace_on, closes_brace_on, is_comma_on, is_semicolon_on, is_colon_on}

-- a mark that closes a list, and the test for it
pub record Closes (close : Punctuator) (test : TokenKind → Bool) : Type 0 where
  pub on : (k : TokenKind) → k ≡ kind.Punctuator close → test k ≡ true
  pub start : (k : TokenKind) → begins k ≡ true → test k ≡ false
  pub comma : (k : TokenKind) → k ≡ kind.Punctuator mark.Comma → test k ≡ false
  pub ranked : (t : Token) → IsMark close t → 18 ≤ rank t

comma_closes_parenthesis : (k : TokenKind) → k ≡ kind.Punctuator mark.Comma → closes_parenthesis k ≡ false
unfolding closes_parenthesis
comma_closes_parenthesis k h = ap closes_parenthesis h

comma_closes_bracket : (k : TokenKind) → k ≡ kind.Punctuator mark.Comma → closes_bracket k ≡ false
unfolding closes_bracket
comma_closes_bracket k h = ap closes_bracket h

comma_is_semicolon : (k : TokenKind) → k ≡ kind.Punctuator mark.Comma → is_semicolon k ≡ false
unfolding is_semicolon
comma_is_semicolon k h = ap is_semicolon h

pub comma_closes_brace : (k : TokenKind) → k ≡ kind.Punctuator mark.Comma → closes_brace k ≡ false
unfolding closes_brace
comma_closes_brace k h = ap closes_brace h

pub parenthesis_closes : Closes mark.CloseParenthesis closes_parenthesis
parenthesis_closes = record { on = closes_parenthesis_on; start = begins_not_closes_parenthesis; comma = comma_closes_parenthesis; ranked = λ t h. omega (arith, rank_close t h) }

pub bracket_closes : Closes mark.CloseBracket closes_bracket
bracket_closes = record { on = closes_bracket_on; start = begins_not_closes_bracket; comma = comma_closes_bracket; ranked = λ t h. omega (arith, rank_close_bracket t h) }

pub semicolon_closes : Closes mark.Semicolon is_semicolon
semicolon_closes = record { on = is_semicolon_on; start = begins_not_is_semicolon; comma = comma_is_semicolon; ranked = λ t h. omega (arith, rank_semicolon t h) }

key_no_bracket : (k : TokenKind) (key : List ℕ) → key_of k ≡ Some key → opens_bracket k ≡ false
unfolding key_of opens_bracket
key_no_bracket (kind.Punctuator mark.OpenBracket) key h = cc
key_no_bracket _ key h = refl

pub key_no_brace : (k : TokenKind) (key : List ℕ) → key_of k ≡ Some key → closes_brace k ≡ false
unfolding key_of closes_brace
key_no_brace (kind.Punctuator mark.CloseBrace) key h = cc
key_no_brace _ key h = refl

module _ (limit : ℕ) (inner : Rule → Parser Piece) (nested : Level → Parser Stmt) where
  -- ---- lists of expressions

  pub list_none : (test : TokenKind → Bool) (n : ℕ) (t : Token) (ts : List Token) → test t.kind ≡ true → list_from limit inner nested test (suc n) (t ∷ ts) ≡ Some ([], ts)
  unfolding list_from
  list_none test n t ts h = ap (λ o. list_at limit inner nested o test (list_from limit inner nested test n) (t ∷ ts)) (take_on test t ts h)

  pub list_last : (test : TokenKind → Bool) (n : ℕ) (ts : List Token) (a : Expr) (f : Form) (c : Token) (rest : List Token) → take test ts ≡ None
      → inner whole ts ≡ Some (piece a f, c ∷ rest) → test c.kind ≡ true → list_from limit inner nested test (suc n) ts ≡ Some (a ∷ [], rest)
  unfolding list_from
  list_last test n ts a f c rest h0 h1 hc = ap (λ o. list_at limit inner nested o test (list_from limit inner nested test n) ts) h0
      ∙ then_is (inner whole ts) (piece a f) (c ∷ rest) _ h1 ∙ ap (λ b. list_by limit inner nested b (is_comma c.kind) a (list_from limit inner nested test n) rest) hc

  pub list_more : (test : TokenKind → Bool) (n : ℕ) (ts : List Token) (a : Expr) (f : Form) (c : Token) (mid : List Token) (items : List Expr) (rest : List Token)
      → take test ts ≡ None → inner whole ts ≡ Some (piece a f, c ∷ mid) → test c.kind ≡ false → IsMark mark.Comma c
      → list_from limit inner nested test n mid ≡ Some (items, rest) → list_from limit inner nested test (suc n) ts ≡ Some (a ∷ items, rest)
  unfolding list_from
  list_more test n ts a f c mid items rest h0 h1 ht hc more = ap (λ o. list_at limit inner nested o test (list_from limit inner nested test n) ts) h0
      ∙ then_is (inner whole ts) (piece a f) (c ∷ mid) _ h1 ∙ ap (λ b. list_by limit inner nested b (is_comma c.kind) a (list_from limit inner nested test n) mid) ht
      ∙ ap (λ b. list_by limit inner nested false b a (list_from limit inner nested test n) mid) (is_comma_on c.kind hc)
      ∙ then_is (list_from limit inner nested test n mid) items rest _ more

  pub list_is : (test : TokenKind → Bool) (ts : List Token) (items : List Expr) (rest : List Token) → list_from limit inner nested test (length ts) ts ≡ Some (items, rest)
      → list_of limit inner nested test ts ≡ Some (items, rest)
  unfolding list_of
  list_is test ts items rest h = h

  -- ---- properties

  pub prop_short : (t : Token) (ts : List Token) (x : List ℕ) → IsName x t → take is_colon ts ≡ None → prop_of limit inner nested (t ∷ ts) ≡ Some (prop.Short x, ts)
  unfolding prop_of opens_bracket name_of
  prop_short t ts x h none = ap (λ k. prop_by limit inner nested (opens_bracket k) (take is_colon ts) k ts) h
      ∙ ap (λ o. prop_by limit inner nested false o (kind.Name x) ts) none

  pub prop_fixed : (t c : Token) (ts : List Token) (key : List ℕ) (a : Expr) (f : Form) (rest : List Token) → key_of t.kind ≡ Some key → IsMark mark.Colon c
      → inner whole ts ≡ Some (piece a f, rest) → prop_of limit inner nested (t ∷ c ∷ ts) ≡ Some (prop.Fixed key a, rest)
  unfolding prop_of
  prop_fixed t c ts key a f rest hk hc h = ap (λ b. prop_by limit inner nested b (take is_colon (c ∷ ts)) t.kind (c ∷ ts)) (key_no_bracket t.kind key hk)
      ∙ ap (λ o. prop_by limit inner nested false o t.kind (c ∷ ts)) (take_on is_colon c ts (is_colon_on c.kind hc))
      ∙ ap (λ o. keyed_prop limit inner nested o ts) hk
      ∙ then_is (inner whole ts) (piece a f) rest _ h

  pub prop_computed : (t e c : Token) (ts mid : List Token) (k a : Expr) (f g : Form) (rest : List Token) → IsMark mark.OpenBracket t
      → inner whole ts ≡ Some (piece k f, e ∷ c ∷ mid) → IsMark mark.CloseBracket e → IsMark mark.Colon c → inner whole mid ≡ Some (piece a g, rest)
      → prop_of limit inner nested (t ∷ ts) ≡ Some (prop.Computed k a, rest)
  unfolding prop_of opens_bracket
  prop_computed t e c ts mid k a f g rest ht h1 he hc h2 = ap (λ x. prop_by limit inner nested (opens_bracket x) (take is_colon ts) x ts) ht
      ∙ then_is (inner whole ts) (piece k f) (e ∷ c ∷ mid) _ h1
      ∙ taken closes_bracket e (c ∷ mid) _ (closes_bracket_on e.kind he)
      ∙ taken is_colon c mid _ (is_colon_on c.kind hc)
      ∙ then_is (inner whole mid) (piece a g) rest _ h2

  pub props_none : (n : ℕ) (t : Token) (ts : List Token) → IsMark mark.CloseBrace t → props_from limit inner nested (suc n) (t ∷ ts) ≡ Some ([], ts)
  unfolding props_from
  props_none n t ts h = ap (λ o. props_at limit inner nested o (props_from limit inner nested n) (t ∷ ts)) (take_on closes_brace t ts (closes_brace_on t.kind h))

  pub props_last : (n : ℕ) (ts : List Token) (p : PropNode) (c : Token) (rest : List Token) → take closes_brace ts ≡ None
      → prop_of limit inner nested ts ≡ Some (p, c ∷ rest) → IsMark mark.CloseBrace c → props_from limit inner nested (suc n) ts ≡ Some (p ∷ [], rest)
  unfolding props_from
  props_last n ts p c rest h0 h1 hc = ap (λ o. props_at limit inner nested o (props_from limit inner nested n) ts) h0
      ∙ then_is (prop_of limit inner nested ts) p (c ∷ rest) _ h1
      ∙ ap (λ b. props_by limit inner nested b (is_comma c.kind) p (props_from limit inner nested n) rest) (closes_brace_on c.kind hc)

  pub props_more : (n : ℕ) (ts : List Token) (p : PropNode) (c : Token) (mid : List Token) (ps : List PropNode) (rest : List Token) → take closes_brace ts ≡ None
      → prop_of limit inner nested ts ≡ Some (p, c ∷ mid) → IsMark mark.Comma c → props_from limit inner nested n mid ≡ Some (ps, rest)
      → props_from limit inner nested (suc n) ts ≡ Some (p ∷ ps, rest)
  unfolding props_from
  props_more n ts p c mid ps rest h0 h1 hc more = ap (λ o. props_at limit inner nested o (props_from limit inner nested n) ts) h0
      ∙ then_is (prop_of limit inner nested ts) p (c ∷ mid) _ h1
      ∙ ap (λ b. props_by limit inner nested b (is_comma c.kind) p (props_from limit inner nested n) mid) (comma_closes_brace c.kind hc)
      ∙ ap (λ b. props_by limit inner nested false b p (props_from limit inner nested n) mid) (is_comma_on c.kind hc)
      ∙ then_is (props_from limit inner nested n mid) ps rest _ more

  -- ---- blocks and functions

  pub items_none : (n : ℕ) (t : Token) (ts : List Token) → IsMark mark.CloseBrace t → items_from limit inner nested (suc n) (t ∷ ts) ≡ Some ([], ts)
  unfolding items_from
  items_none n t ts h = ap (λ o. items_at limit inner nested o (items_from limit inner nested n) (t ∷ ts)) (take_on closes_brace t ts (closes_brace_on t.kind h))

  pub items_more : (n : ℕ) (ts : List Token) (s : Stmt) (mid : List Token) (items : List Stmt) (rest : List Token) → take closes_brace ts ≡ None
      → nested level.Item ts ≡ Some (s, mid) → items_from limit inner nested n mid ≡ Some (items, rest) → items_from limit inner nested (suc n) ts ≡ Some (s ∷ items, rest)
  unfolding items_from
  items_more n ts s mid items rest h0 h1 more = ap (λ o. items_at limit inner nested o (items_from limit inner nested n) ts) h0
      ∙ then_is (nested level.Item ts) s mid _ h1 ∙ then_is (items_from limit inner nested n mid) items rest _ more

  pub block_is : (t : Token) (ts : List Token) (items : List Stmt) (rest : List Token) → IsMark mark.OpenBrace t
      → items_from limit inner nested (length ts) ts ≡ Some (items, rest) → block_of limit inner nested (t ∷ ts) ≡ Some (items, rest)
  unfolding block_of
  block_is t ts items rest h d = taken opens_brace t ts _ (opens_brace_on t.kind h) ∙ d

  pub function_is : (ts mid : List Token) (s : Signature) (items : List Stmt) (rest : List Token) → signature_of ts ≡ Some (s, mid)
      → block_of limit inner nested mid ≡ Some (items, rest) → function_rest limit inner nested ts ≡ Some (function_of s items, rest)
  unfolding function_rest
  function_is ts mid s items rest h d = then_is (signature_of ts) s mid _ h ∙ then_is (block_of limit inner nested mid) items rest _ d
