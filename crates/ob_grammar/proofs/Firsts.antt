-- What a piece begins with.
use Rattle.std.proofs.Common.{◌≡◌, ℕ, List, ◌∷◌, Bool, true, false, Some, None, refl, sym, subst, ap, ◌⊎◌, inl, inr}
use Rattle.ob_base.specs.declared.operators.UnaryOp.{UnaryOp}
use Rattle.ob_lex.specs.declared.punctuator.Punctuator.TheVariants as mark
use Rattle.ob_base.specs.declared.reserved.ReservedWord.TheVariants as word
use Rattle.ob_lex.specs.declared.token.Token.{Token}
use Rattle.ob_lex.specs.declared.token.TokenKind.{TokenKind}
use Rattle.ob_lex.specs.declared.token.TokenKind.TheVariants as kind
use Rattle.ob_base.specs.declared.operators.UpdateOp.{UpdateOp}
use Rattle.ob_tree_types.specs.declared.tree.Expr.{Expr}
use Rattle.ob_tree_types.specs.declared.tree.Function.{Function}
use Rattle.ob_grammar.specs.Marks.{literal_of, unary_of, update_of}
use Rattle.ob_grammar.specs.declared.form.Form.{Form}
use Rattle.ob_grammar.specs.Lists.{params, ReadsArrowHead, one_param, all_params}
use Rattle.ob_grammar.specs.Grammar.{Rule, update, left, primary, Reads, ReadsFunction}
use Rattle.ob_grammar.specs.Grammar.{arrow, assigned, unassigned, chosen, unchosen, disjoined, coalesced, operands, unraised, raised, signed, unsigned, counted_before, counted_behind, uncounted, steps, literal, name, viewof_name, made, parentheses, array, object, function_expression, function}
use Rattle.ob_grammar.specs.Taking.{take, closes_parenthesis, closes_bracket, is_semicolon, is_yield}
use Rattle.ob_grammar.specs.Forms.{ends_value}
use Rattle.ob_grammar.specs.Marks.{declares_constant}
use Rattle.ob_grammar.proofs.CompleteTaking.{take_off}

-- a token that an operand without a sign begins with, and one that an expression begins with
unfoldable pub begins_left : TokenKind → Bool
begins_left (kind.Name x) = true
begins_left (kind.Number n) = true
begins_left (kind.Text u) = true
begins_left (kind.Reserved word.True) = true
begins_left (kind.Reserved word.False) = true
begins_left (kind.Reserved word.Null) = true
begins_left (kind.Reserved word.Undefined) = true
begins_left (kind.Reserved word.Viewof) = true
begins_left (kind.Reserved word.New) = true
begins_left (kind.Reserved word.Function) = true
begins_left (kind.Punctuator mark.OpenParenthesis) = true
begins_left (kind.Punctuator mark.OpenBracket) = true
begins_left (kind.Punctuator mark.OpenBrace) = true
begins_left _ = false

unfoldable pub begins : TokenKind → Bool
begins (kind.Name x) = true
begins (kind.Number n) = true
begins (kind.Text u) = true
begins (kind.Reserved word.True) = true
begins (kind.Reserved word.False) = true
begins (kind.Reserved word.Null) = true
begins (kind.Reserved word.Undefined) = true
begins (kind.Reserved word.Viewof) = true
begins (kind.Reserved word.New) = true
begins (kind.Reserved word.Function) = true
begins (kind.Punctuator mark.OpenParenthesis) = true
begins (kind.Punctuator mark.OpenBracket) = true
begins (kind.Punctuator mark.OpenBrace) = true
begins (kind.Punctuator mark.Not) = true
begins (kind.Punctuator mark.Minus) = true
begins (kind.Punctuator mark.Plus) = true
begins (kind.Punctuator mark.Tilde) = true
begins (kind.Reserved word.Typeof) = true
begins (kind.Reserved word.Void) = true
begins (kind.Punctuator mark.PlusPlus) = true
begins (kind.Punctuator mark.MinusMinus) = true
begins _ = false

pub record First (test : TokenKind → Bool) (ts : List Token) : Type 0 where
  pub token : Token
  pub more : List Token
  pub is : ts ≡ token ∷ more
  pub passes : test token.kind ≡ true

pub first_is : (test : TokenKind → Bool) (t : Token) (ts : List Token) → test t.kind ≡ true → First test (t ∷ ts)
first_is test t ts h = record { token = t; more = ts; is = refl; passes = h }

-- ---- tokens

left_begins : (k : TokenKind) → begins_left k ≡ true → begins k ≡ true
unfolding begins_left begins
left_begins (kind.Name x) h = refl
left_begins (kind.Number n) h = refl
left_begins (kind.Text u) h = refl
left_begins (kind.Reserved word.True) h = refl
left_begins (kind.Reserved word.False) h = refl
left_begins (kind.Reserved word.Null) h = refl
left_begins (kind.Reserved word.Undefined) h = refl
left_begins (kind.Reserved word.Viewof) h = refl
left_begins (kind.Reserved word.New) h = refl
left_begins (kind.Reserved word.Function) h = refl
left_begins (kind.Punctuator mark.OpenParenthesis) h = refl
left_begins (kind.Punctuator mark.OpenBracket) h = refl
left_begins (kind.Punctuator mark.OpenBrace) h = refl
left_begins _ h = cc

literal_begins : (k : TokenKind) (a : Expr) → literal_of k ≡ Some a → begins_left k ≡ true
unfolding begins_left literal_of
literal_begins (kind.Number n) a h = refl
literal_begins (kind.Text u) a h = refl
literal_begins (kind.Reserved word.True) a h = refl
literal_begins (kind.Reserved word.False) a h = refl
literal_begins (kind.Reserved word.Null) a h = refl
literal_begins (kind.Reserved word.Undefined) a h = refl
literal_begins _ a h = cc

sign_begins : (k : TokenKind) (op : UnaryOp) → unary_of k ≡ Some op → begins k ≡ true
unfolding begins unary_of
sign_begins (kind.Punctuator mark.Not) op h = refl
sign_begins (kind.Punctuator mark.Minus) op h = refl
sign_begins (kind.Punctuator mark.Plus) op h = refl
sign_begins (kind.Punctuator mark.Tilde) op h = refl
sign_begins (kind.Reserved word.Typeof) op h = refl
sign_begins (kind.Reserved word.Void) op h = refl
sign_begins _ op h = cc

count_begins : (k : TokenKind) (op : UpdateOp) → update_of k ≡ Some op → begins k ≡ true
unfolding begins update_of
count_begins (kind.Punctuator mark.PlusPlus) op h = refl
count_begins (kind.Punctuator mark.MinusMinus) op h = refl
count_begins _ op h = cc

pub left_no_sign : (k : TokenKind) → begins_left k ≡ true → unary_of k ≡ None
unfolding begins_left unary_of
left_no_sign (kind.Punctuator mark.Not) h = cc
left_no_sign (kind.Punctuator mark.Minus) h = cc
left_no_sign (kind.Punctuator mark.Plus) h = cc
left_no_sign (kind.Punctuator mark.Tilde) h = cc
left_no_sign (kind.Reserved word.Typeof) h = cc
left_no_sign (kind.Reserved word.Void) h = cc
left_no_sign _ h = refl

pub left_no_count : (k : TokenKind) → begins_left k ≡ true → update_of k ≡ None
unfolding begins_left update_of
left_no_count (kind.Punctuator mark.PlusPlus) h = cc
left_no_count (kind.Punctuator mark.MinusMinus) h = cc
left_no_count _ h = refl

pub count_no_sign : (k : TokenKind) (op : UpdateOp) → update_of k ≡ Some op → unary_of k ≡ None
unfolding unary_of update_of
count_no_sign (kind.Punctuator mark.Not) op h = cc
count_no_sign (kind.Punctuator mark.Minus) op h = cc
count_no_sign (kind.Punctuator mark.Plus) op h = cc
count_no_sign (kind.Punctuator mark.Tilde) op h = cc
count_no_sign (kind.Reserved word.Typeof) op h = cc
count_no_sign (kind.Reserved word.Void) op h = cc
count_no_sign _ op h = refl

pub begins_not_closes_parenthesis : (k : TokenKind) → begins k ≡ true → closes_parenthesis k ≡ false
unfolding begins closes_parenthesis
begins_not_closes_parenthesis (kind.Punctuator mark.CloseParenthesis) h = cc
begins_not_closes_parenthesis _ h = refl

pub begins_not_closes_bracket : (k : TokenKind) → begins k ≡ true → closes_bracket k ≡ false
unfolding begins closes_bracket
begins_not_closes_bracket (kind.Punctuator mark.CloseBracket) h = cc
begins_not_closes_bracket _ h = refl

pub begins_not_is_semicolon : (k : TokenKind) → begins k ≡ true → is_semicolon k ≡ false
unfolding begins is_semicolon
begins_not_is_semicolon (kind.Punctuator mark.Semicolon) h = cc
begins_not_is_semicolon _ h = refl

pub begins_not_is_yield : (k : TokenKind) → begins k ≡ true → is_yield k ≡ false
unfolding begins is_yield
begins_not_is_yield (kind.Reserved word.Yield) h = cc
begins_not_is_yield _ h = refl

pub begins_value : (k : TokenKind) → begins k ≡ true → ends_value k ≡ false
unfolding begins ends_value
begins_value (kind.Punctuator mark.Semicolon) h = cc
begins_value (kind.Punctuator mark.Comma) h = cc
begins_value (kind.Punctuator mark.CloseBrace) h = cc
begins_value _ h = refl

pub begins_no_declaration : (k : TokenKind) → begins k ≡ true → declares_constant k ≡ None
unfolding begins declares_constant
begins_no_declaration (kind.Reserved word.Const) h = cc
begins_no_declaration (kind.Reserved word.Let) h = cc
begins_no_declaration _ h = refl

-- ---- pieces

first_function : {ts : List Token} {g : Function} {rest : List Token} → ReadsFunction ts g rest → First begins_left ts
unfolding begins_left
first_function (function t ts mid rest s items h1 h2 d1) = first_is begins_left t ts (ap begins_left h1)

pub first_left : {r : Rule} {ts : List Token} {a : Expr} {f : Form} {rest : List Token} → Reads r ts a f rest → (r ≡ left) ⊎ (r ≡ primary) → First begins_left ts
unfolding begins_left
first_left (steps ts mid rest first a f g d1 d2) e = first_left d1 (inr refl)
first_left (literal t ts a h1) e = first_is begins_left t ts (literal_begins t.kind a h1)
first_left (name t ts x h1) e = first_is begins_left t ts (ap begins_left h1)
first_left (viewof_name t n ts x h1 h2) e = first_is begins_left t (n ∷ ts) (ap begins_left h1)
first_left (made t n p ts rest x args h1 h2 h3 d1) e = first_is begins_left t (n ∷ p ∷ ts) (ap begins_left h1)
first_left (parentheses t c ts rest a f h1 d1 h2) e = first_is begins_left t ts (ap begins_left h1)
first_left (array t ts rest items h1 d1) e = first_is begins_left t ts (ap begins_left h1)
first_left (object t ts rest props h1 d1) e = first_is begins_left t ts (ap begins_left h1)
first_left (function_expression ts rest g d1) e = first_function d1
first_left _ (inl e) = cc
first_left _ (inr e) = cc

weaken : {ts : List Token} → First begins_left ts → First begins ts
weaken p = record { token = p.token; more = p.more; is = p.is; passes = left_begins p.token.kind p.passes }

first_head : {ts : List Token} {xs : List (List ℕ)} {rest : List Token} → ReadsArrowHead ts xs rest → First begins ts
unfolding begins
first_head (one_param t ts x h) = first_is begins t ts (ap begins h)
first_head (all_params ts rest xs (params t us r ys h d)) = first_is begins t us (ap begins h)

pub first : {r : Rule} {ts : List Token} {a : Expr} {f : Form} {rest : List Token} → Reads r ts a f rest → First begins ts
first (arrow ts mid rest t xs b f h1 h2 h3 d1) = first_head h1
first (assigned ts mid rest t op a b f d1 h1 d2) = first d1
first (unassigned ts rest a f d1) = first d1
first (chosen ts next second rest q c a b d f g h d1 h1 d2 h2 d3) = first d1
first (unchosen ts rest a f d1) = first d1
first (disjoined ts rest a f d1) = first d1
first (coalesced ts mid rest one a f g d1 d2) = first d1
first (operands k ts mid rest one a f g d1 d2) = first d1
first (unraised ts rest a f d1) = first d1
first (raised ts mid rest t a b f g d1 h1 d2) = first d1
first (signed t ts rest op a f h1 d1) = first_is begins t ts (sign_begins t.kind op h1)
first (unsigned ts rest a f d1) = first d1
first (counted_before t ts rest op a h1 d1) = first_is begins t ts (count_begins t.kind op h1)
first (counted_behind ts rest t op a d1 h1 h2) = first d1
first (uncounted ts rest a f d1) = first d1
first (steps ts mid rest one a f g d1 d2) = first d1
first (literal t ts a h1) = weaken (first_left (literal t ts a h1) (inr refl))
first (name t ts x h1) = weaken (first_left (name t ts x h1) (inr refl))
first (viewof_name t n ts x h1 h2) = weaken (first_left (viewof_name t n ts x h1 h2) (inr refl))
first (made t n p ts rest x args h1 h2 h3 d1) = weaken (first_left (made t n p ts rest x args h1 h2 h3 d1) (inr refl))
first (parentheses t c ts rest a f h1 d1 h2) = weaken (first_left (parentheses t c ts rest a f h1 d1 h2) (inr refl))
first (array t ts rest items h1 d1) = weaken (first_left (array t ts rest items h1 d1) (inr refl))
first (object t ts rest props h1 d1) = weaken (first_left (object t ts rest props h1 d1) (inr refl))
first (function_expression ts rest g d1) = weaken (first_function d1)

pub first_off : {q : TokenKind → Bool} {ts : List Token} (test : TokenKind → Bool) (p : First q ts) → test p.token.kind ≡ false → take test ts ≡ None
first_off {ts = ts} test p h = subst (λ (us : List Token). take test us ≡ None) (sym p.is) (take_off test p.token p.more h)

-- a piece of `Update` begins with no sign
pub record Unsigned (ts : List Token) : Type 0 where
  pub token : Token
  pub more : List Token
  pub is : ts ≡ token ∷ more
  pub no_sign : unary_of token.kind ≡ None

unsigned_left : {ts : List Token} → First begins_left ts → Unsigned ts
unsigned_left p = record { token = p.token; more = p.more; is = p.is; no_sign = left_no_sign p.token.kind p.passes }

pub unsigned_update : {r : Rule} {ts : List Token} {a : Expr} {f : Form} {rest : List Token} → Reads r ts a f rest → r ≡ update → Unsigned ts
unsigned_update (counted_before t ts rest op a h1 d1) e = record { token = t; more = ts; is = refl; no_sign = count_no_sign t.kind op h1 }
unsigned_update (counted_behind ts rest t op a d1 h1 h2) e = unsigned_left (first_left d1 (inl refl))
unsigned_update (uncounted ts rest a f d1) e = unsigned_left (first_left d1 (inl refl))
unsigned_update _ e = cc
