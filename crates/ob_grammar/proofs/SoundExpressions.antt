-- What the descent reads as an expression is one, where what it reads one nesting deeper is in the grammar.
use Rattle.std.proofs.Common.{◌≡◌, ℕ, zero, suc, ◌+◌, Bool, true, false, ◌==◌, List, [], ◌∷◌, length, Option, Some, None, refl, subst, if◌then◌else◌}
use Rattle.std.specs.Prelude.{nat_le}
use Rattle.std.proofs.lemmas.Bool.{eqb-true}
use Rattle.ob_base.specs.declared.operators.UnaryOp.{UnaryOp}
use Rattle.ob_lex.specs.declared.punctuator.Punctuator.TheVariants as mark
use Rattle.ob_base.specs.declared.reserved.ReservedWord.TheVariants as word
use Rattle.ob_lex.specs.declared.token.Token.{Token}
use Rattle.ob_lex.specs.declared.token.TokenKind.{TokenKind}
use Rattle.ob_lex.specs.declared.token.TokenKind.TheVariants as kind
use Rattle.ob_base.specs.declared.operators.AssignOp.{AssignOp}
use Rattle.ob_base.specs.declared.operators.UpdateOp.{UpdateOp}
use Rattle.ob_tree_types.specs.declared.tree.Expr.{Expr}
use Rattle.ob_tree_types.specs.declared.tree.Expr.TheVariants as node
use Rattle.ob_tree_types.specs.declared.tree.FnBody.{FnBody}
use Rattle.ob_tree_types.specs.declared.tree.Stmt.{Stmt}
use Rattle.ob_tree.specs.Depth.{expr_depth}
use Rattle.ob_grammar.specs.declared.form.Form.{Form}
use Rattle.ob_grammar.specs.declared.form.Form.TheVariants.{Target, Other, Updated, Closed, Bare}
use Rattle.ob_grammar.specs.declared.form.Infix.{Infix}
use Rattle.ob_grammar.specs.declared.form.Level.{Level}
use Rattle.ob_grammar.specs.declared.form.Level.TheVariants as level
use Rattle.ob_grammar.specs.declared.piece.Body.{Body}
use Rattle.ob_grammar.specs.declared.piece.Piece.{Piece}
use Rattle.ob_grammar.specs.Forms.{edge}
use Rattle.ob_grammar.specs.Marks.{IsName, IsWord, word_of, literal_of, rank, joined, infix_of, unary_of, update_of, assign_of}
use Rattle.ob_grammar.specs.Grammar.{Rule, whole, conditional, short, chain, power, prefixed, update, left, primary, Reads, Continues, Steps, ReadsList, ReadsProps, ReadsArrowBody, ReadsFunction, ReadsBlock, ReadsItem}
use Rattle.ob_grammar.specs.Grammar.{arrow, assigned, unassigned, chosen, unchosen, disjoined, coalesced, operands, unraised, raised, signed, unsigned, counted_before, counted_behind, uncounted, steps, literal, name, viewof_name, made, parentheses, array, object, function_expression, no_more, goes_on, no_step, member, index, call, block_body, value_body}
use Rattle.ob_grammar.specs.Taking.{Read, Parser, piece, opens_parenthesis, closes_parenthesis, closes_bracket, opens_brace, is_colon, is_question, is_star_star, take, next_is, name_of, arrow_head}
use Rattle.ob_grammar.specs.Reading.{kept, list_of, props_from, block_of, function_rest, made_of, primary_by, primary_at, primary_of, step_by, steps_from, left_of, counted_by, behind_by, count_behind, update_at, updated_of, signed_by, prefixed_at, prefixed_of, raised_by, raise, power_at, power_of, more_by, operands_from, operands_of, chain_of, has_rank, short_by, short_of, chosen_by, conditional_of, assign_by, assigned_of, body_by, arrow_body, whole_by, whole_of, at}
use Rattle.ob_grammar.proofs.Statements.{OnRead}
use Rattle.ob_grammar.proofs.SoundTokens.{after, on_mapped, on_weaker, only_name, only_opens_parenthesis, only_closes_parenthesis, only_closes_bracket, only_is_colon, only_is_question, only_is_star_star, by_take, on_taken, after_taken, closed_by, after_one, no_brace}
use Rattle.ob_grammar.proofs.SoundLists.{BeginsArrow, sound_arrow_head}
use Rattle.ob_grammar.proofs.SoundBlocks.{As, sound_list, sound_props, sound_block, sound_function_rest}

-- ---- what ends as a target is a Left

edge_no_target : {A : Type 0} (g : Form) → edge g ≡ Target → A
edge_no_target Target e = cc
edge_no_target Other e = cc
edge_no_target Updated e = cc
edge_no_target Closed e = cc
edge_no_target Bare e = cc

first_target : {r : Rule} {n : ℕ} {a b : Expr} {f g : Form} {ts rest : List Token} → Continues r n a f ts b g rest → g ≡ Target → f ≡ Target
first_target (no_more r n a f ts) e = e
first_target (goes_on r n a b c f g h t ts mid rest op h1 h2 d1 d2) e = edge_no_target g (first_target d2 e)

unmoved : {r : Rule} {n : ℕ} {a b : Expr} {f g : Form} {ts rest : List Token} → Continues r n a f ts b g rest → g ≡ Target → (P : Expr → List Token → Type 0) → P a ts → P b rest
unmoved (no_more r n a f ts) e P p = p
unmoved (goes_on r n a b c f g h t ts mid rest op h1 h2 d1 d2) e P p = edge_no_target g (first_target d2 e)

body_no_target : {A : Type 0} {ts : List Token} {b : FnBody} {f : Form} {rest : List Token} → ReadsArrowBody ts b f rest → f ≡ Target → A
body_no_target (block_body ts rest items d) e = cc
body_no_target (value_body ts rest a f h d) e = edge_no_target f e

left_of_target : {r : Rule} {ts : List Token} {a : Expr} {f : Form} {rest : List Token} → Reads r ts a f rest → f ≡ Target → Reads left ts a Target rest
left_of_target (arrow ts mid rest t xs b f h1 h2 h3 d1) e = body_no_target d1 e
left_of_target (assigned ts mid rest t op a b f d1 h1 d2) e = edge_no_target f e
left_of_target (unassigned ts rest a f d1) e = left_of_target d1 e
left_of_target (chosen ts first second rest q c a b d f g h d1 h1 d2 h2 d3) e = edge_no_target h e
left_of_target (unchosen ts rest a f d1) e = left_of_target d1 e
left_of_target (disjoined ts rest a f d1) e = left_of_target d1 e
left_of_target (coalesced ts mid rest first a f g d1 d2) e = unmoved d2 e (λ b end. Reads left ts b Target end) (left_of_target d1 (first_target d2 e))
left_of_target (operands k ts mid rest first a f g d1 d2) e = unmoved d2 e (λ b end. Reads left ts b Target end) (left_of_target d1 (first_target d2 e))
left_of_target (unraised ts rest a f d1) e = left_of_target d1 e
left_of_target (raised ts mid rest t a b f g d1 h1 d2) e = edge_no_target g e
left_of_target (signed t ts rest op a f h1 d1) e = edge_no_target f e
left_of_target (unsigned ts rest a f d1) e = left_of_target d1 e
left_of_target (counted_before t ts rest op a h1 d1) e = cc
left_of_target (counted_behind ts rest t op a d1 h1 h2) e = cc
left_of_target (uncounted ts rest a f d1) e = left_of_target d1 e
left_of_target (steps ts mid rest first a f g d1 d2) e = subst (λ w. Reads left ts a w rest) e (steps ts mid rest first a f g d1 d2)
left_of_target (literal t ts a h1) e = cc
left_of_target (name t ts x h1) e = steps (t ∷ ts) ts ts (node.Name x) (node.Name x) Target Target (name t ts x h1) (no_step (node.Name x) Target ts)
left_of_target (viewof_name t n ts x h1 h2) e = cc
left_of_target (made t n p ts rest x args h1 h2 h3 d1) e = cc
left_of_target (parentheses t c ts rest a f h1 d1 h2) e = cc
left_of_target (array t ts rest items h1 d1) e = cc
left_of_target (object t ts rest props h1 d1) e = cc
left_of_target (function_expression ts rest g d1) e = cc

abbrev Goes : Piece → List Token → Piece → List Token → Type 0
Goes p ts q rest = Steps p.tree p.form ts q.tree q.form rest

abbrev More : Rule → ℕ → Piece → List Token → Piece → List Token → Type 0
More r n p ts q rest = Continues r n p.tree p.form ts q.tree q.form rest

-- ---- what a loop keeps

on_test : {A : Type 0} (P : A → List Token → Type 0) (b : Bool) (r : Read A) → OnRead r P → OnRead (if b then r else None) P
on_test P true r h = h
on_test P false r h = tt

sound_kept : (limit : ℕ) (P : Piece → List Token → Type 0) (p : Piece) (go : Piece → Parser Piece) (ts : List Token) → OnRead (go p ts) P → OnRead (kept limit p go ts) P
unfolding kept
sound_kept limit P p go ts h = on_test P (nat_le (expr_depth p.tree) limit) (go p ts) h

module _ (limit : ℕ) (inner : Rule → Parser Piece) (nested : Level → Parser Stmt) (on_inner : (r : Rule) (ts : List Token) → OnRead (inner r ts) (As r ts))
    (on_items : (ts : List Token) → OnRead (nested level.Item ts) (ReadsItem ts)) where
  -- ---- primaries

  sound_made : (t n : Token) (ts : List Token) (x : List ℕ) → IsWord word.New t → IsName x n → OnRead (made_of limit inner nested x ts) (As primary (t ∷ n ∷ ts))
  sound_made t n ts x h hn = on_taken opens_parenthesis _ only_opens_parenthesis (λ us. As primary (t ∷ n ∷ us)) _ (λ p inside hp.
      on_mapped (ReadsList mark.CloseParenthesis inside) (As primary (t ∷ n ∷ p ∷ inside)) _ (list_of limit inner nested closes_parenthesis inside)
      (sound_list limit inner nested on_inner on_items closes_parenthesis mark.CloseParenthesis only_closes_parenthesis inside)
      (λ args rest d. made t n p inside rest x args h hn hp d)) ts

  sound_primary_by : (t : Token) (ts : List Token) (x : TokenKind) → t.kind ≡ x → OnRead (primary_by limit inner nested x ts) (As primary (t ∷ ts))
  unfolding primary_by
  sound_primary_by t ts (kind.Name x) h = name t ts x h
  sound_primary_by t ts (kind.Reserved word.Viewof) h = after_one name_of (λ us. As primary (t ∷ us)) _ (λ n rest x hx. viewof_name t n rest x h (only_name n.kind x hx)) ts
  sound_primary_by t ts (kind.Reserved word.New) h = after_one name_of (λ us. As primary (t ∷ us)) (made_of limit inner nested) (λ n rest x hx. sound_made t n rest x h (only_name n.kind x hx)) ts
  sound_primary_by t ts (kind.Reserved word.Function) h = on_mapped (ReadsFunction (t ∷ ts)) (As primary (t ∷ ts)) _ (function_rest limit inner nested ts)
      (sound_function_rest limit inner nested on_inner on_items t ts h) (λ g rest d. function_expression (t ∷ ts) rest g d)
  sound_primary_by t ts (kind.Punctuator mark.OpenParenthesis) h = after (As whole ts) (As primary (t ∷ ts)) (inner whole ts) _ (on_inner whole ts) (λ p mid d.
      closed_by closes_parenthesis _ only_closes_parenthesis (As whole ts p) (As primary (t ∷ ts)) (piece p.tree Other) (λ c rest hc r. parentheses t c ts rest p.tree p.form h r hc) mid d)
  sound_primary_by t ts (kind.Punctuator mark.OpenBracket) h = on_mapped (ReadsList mark.CloseBracket ts) (As primary (t ∷ ts)) _ (list_of limit inner nested closes_bracket ts)
      (sound_list limit inner nested on_inner on_items closes_bracket mark.CloseBracket only_closes_bracket ts) (λ items rest d. array t ts rest items h d)
  sound_primary_by t ts (kind.Punctuator mark.OpenBrace) h = on_mapped (ReadsProps ts) (As primary (t ∷ ts)) _ (props_from limit inner nested (length ts) ts)
      (sound_props limit inner nested on_inner on_items (length ts) ts) (λ props rest d. object t ts rest props h d)
  sound_primary_by t ts _ h = tt

  sound_primary_at : (t : Token) (ts : List Token) (o : Option Expr) → literal_of t.kind ≡ o → OnRead (primary_at limit inner nested o t.kind ts) (As primary (t ∷ ts))
  sound_primary_at t ts (Some a) h = literal t ts a h
  sound_primary_at t ts None h = sound_primary_by t ts t.kind refl

  sound_primary : (ts : List Token) → OnRead (primary_of limit inner nested ts) (As primary ts)
  unfolding primary_of
  sound_primary [] = tt
  sound_primary (t ∷ ts) = sound_primary_at t ts (literal_of t.kind) refl

  -- ---- members, indexes, calls

  sound_step : (go : Piece → Parser Piece) → ((p : Piece) (ts : List Token) → OnRead (go p ts) (Goes p ts)) → (p : Piece) (t : Token) (ts : List Token) (x : TokenKind) → t.kind ≡ x
      → OnRead (step_by limit inner nested x p t ts go) (Goes p (t ∷ ts))
  unfolding step_by
  sound_step go again p t ts (kind.Punctuator mark.Dot) h = after_one word_of (λ us. Goes p (t ∷ us)) (λ x. kept limit (piece (node.Member p.tree x) Target) go) (λ n rest x hx.
      on_weaker (Goes (piece (node.Member p.tree x) Target) rest) (Goes p (t ∷ n ∷ rest)) (kept limit (piece (node.Member p.tree x) Target) go rest)
      (sound_kept limit (Goes (piece (node.Member p.tree x) Target) rest) (piece (node.Member p.tree x) Target) go rest (again (piece (node.Member p.tree x) Target) rest))
      (λ q end d. member p.tree q.tree p.form q.form t n x rest end h hx d)) ts
  sound_step go again p t ts (kind.Punctuator mark.OpenBracket) h = after (As whole ts) (Goes p (t ∷ ts)) (inner whole ts) _ (on_inner whole ts) (λ k mid d.
      after_taken closes_bracket _ only_closes_bracket (As whole ts k) (Goes p (t ∷ ts)) (kept limit (piece (node.Index p.tree k.tree) Target) go) (λ c rest hc r.
      on_weaker (Goes (piece (node.Index p.tree k.tree) Target) rest) (Goes p (t ∷ ts)) (kept limit (piece (node.Index p.tree k.tree) Target) go rest)
      (sound_kept limit (Goes (piece (node.Index p.tree k.tree) Target) rest) (piece (node.Index p.tree k.tree) Target) go rest (again (piece (node.Index p.tree k.tree) Target) rest))
      (λ q end s. index p.tree q.tree k.tree p.form q.form k.form t c ts rest end h r hc s)) mid d)
  sound_step go again p t ts (kind.Punctuator mark.OpenParenthesis) h = after (ReadsList mark.CloseParenthesis ts) (Goes p (t ∷ ts)) (list_of limit inner nested closes_parenthesis ts) _
      (sound_list limit inner nested on_inner on_items closes_parenthesis mark.CloseParenthesis only_closes_parenthesis ts) (λ args mid d.
      on_weaker (Goes (piece (node.Call p.tree args) Other) mid) (Goes p (t ∷ ts)) (kept limit (piece (node.Call p.tree args) Other) go mid)
      (sound_kept limit (Goes (piece (node.Call p.tree args) Other) mid) (piece (node.Call p.tree args) Other) go mid (again (piece (node.Call p.tree args) Other) mid))
      (λ q end s. call p.tree q.tree p.form q.form t args ts mid end h d s))
  sound_step go again p t ts _ h = no_step p.tree p.form (t ∷ ts)

  sound_steps : (n : ℕ) (p : Piece) (ts : List Token) → OnRead (steps_from limit inner nested n p ts) (Goes p ts)
  unfolding steps_from
  sound_steps zero p ts = no_step p.tree p.form ts
  sound_steps (suc n) p [] = no_step p.tree p.form []
  sound_steps (suc n) p (t ∷ ts) = sound_step (steps_from limit inner nested n) (sound_steps n) p t ts t.kind refl

  sound_left : (ts : List Token) → OnRead (left_of limit inner nested ts) (As left ts)
  unfolding left_of
  sound_left ts = after (As primary ts) (As left ts) (primary_of limit inner nested ts) _ (sound_primary ts) (λ p mid d.
      on_weaker (Goes p mid) (As left ts) (steps_from limit inner nested (length mid) p mid) (sound_steps (length mid) p mid) (λ q rest s. steps ts mid rest p.tree q.tree p.form q.form d s))

  -- ---- `++`, `--` and signs

  sound_counted : (t : Token) (ts mid : List Token) (op : UpdateOp) (a : Expr) → update_of t.kind ≡ Some op → (f : Form) → Reads left ts a f mid
      → OnRead (counted_by limit inner nested f op a mid) (As update (t ∷ ts))
  sound_counted t ts mid op a h Target d = counted_before t ts mid op a h d
  sound_counted t ts mid op a h _ d = tt

  sound_behind : (ts rest : List Token) (t : Token) (a : Expr) (f : Form) (b : Bool) (o : Option UpdateOp) → Reads left ts a f (t ∷ rest) → t.break_before ≡ b → update_of t.kind ≡ o
      → OnRead (behind_by limit inner nested f b o a t rest) (As update ts)
  sound_behind ts rest t a Target false (Some op) d hb ho = counted_behind ts rest t op a d ho hb
  sound_behind ts rest t a f b o d hb ho = uncounted ts (t ∷ rest) a f d

  sound_count_behind : (ts : List Token) (p : Piece) (mid : List Token) → As left ts p mid → OnRead (count_behind limit inner nested p mid) (As update ts)
  unfolding count_behind
  sound_count_behind ts p [] d = uncounted ts [] p.tree p.form d
  sound_count_behind ts p (t ∷ rest) d = sound_behind ts rest t p.tree p.form t.break_before (update_of t.kind) d refl refl

  sound_update_at : (t : Token) (ts : List Token) (o : Option UpdateOp) → update_of t.kind ≡ o → OnRead (update_at limit inner nested o t ts) (As update (t ∷ ts))
  sound_update_at t ts (Some op) h = after (As left ts) (As update (t ∷ ts)) (left_of limit inner nested ts) _ (sound_left ts) (λ p mid d. sound_counted t ts mid op p.tree h p.form d)
  sound_update_at t ts None h = after (As left (t ∷ ts)) (As update (t ∷ ts)) (left_of limit inner nested (t ∷ ts)) _ (sound_left (t ∷ ts)) (sound_count_behind (t ∷ ts))

  sound_updated : (ts : List Token) → OnRead (updated_of limit inner nested ts) (As update ts)
  unfolding updated_of
  sound_updated [] = tt
  sound_updated (t ∷ ts) = sound_update_at t ts (update_of t.kind) refl

  sound_signed : (t : Token) (ts : List Token) (op : UnaryOp) → unary_of t.kind ≡ Some op → OnRead (signed_by limit inner nested op ts) (As prefixed (t ∷ ts))
  sound_signed t ts op h = on_mapped (As prefixed ts) (As prefixed (t ∷ ts)) _ (inner prefixed ts) (on_inner prefixed ts) (λ p rest d. signed t ts rest op p.tree p.form h d)

  sound_prefixed_at : (t : Token) (ts : List Token) (o : Option UnaryOp) → unary_of t.kind ≡ o → OnRead (prefixed_at limit inner nested o t ts) (As prefixed (t ∷ ts))
  sound_prefixed_at t ts (Some op) h = sound_signed t ts op h
  sound_prefixed_at t ts None h = on_weaker (As update (t ∷ ts)) (As prefixed (t ∷ ts)) (updated_of limit inner nested (t ∷ ts)) (sound_updated (t ∷ ts)) (λ p rest d. unsigned (t ∷ ts) rest p.tree p.form d)

  sound_prefixed : (ts : List Token) → OnRead (prefixed_of limit inner nested ts) (As prefixed ts)
  unfolding prefixed_of
  sound_prefixed [] = tt
  sound_prefixed (t ∷ ts) = sound_prefixed_at t ts (unary_of t.kind) refl

  sound_raise : (ts : List Token) (p : Piece) (mid : List Token) → As update ts p mid → OnRead (raise limit inner nested p mid) (As power ts)
  unfolding raise
  sound_raise ts p mid d = by_take is_star_star _ only_is_star_star (λ us o. As update ts p us → OnRead (raised_by limit inner nested o p us) (As power ts))
      (λ t rest h r. on_mapped (As power rest) (As power ts) _ (inner power rest) (on_inner power rest) (λ q end s. raised ts rest end t p.tree q.tree p.form q.form r h s))
      (λ us h r. unraised ts us p.tree p.form (unsigned ts us p.tree p.form r)) mid d

  sound_power_at : (t : Token) (ts : List Token) (o : Option UnaryOp) → unary_of t.kind ≡ o → OnRead (power_at limit inner nested o t ts) (As power (t ∷ ts))
  sound_power_at t ts (Some op) h = on_weaker (As prefixed (t ∷ ts)) (As power (t ∷ ts)) (signed_by limit inner nested op ts) (sound_signed t ts op h) (λ p rest d. unraised (t ∷ ts) rest p.tree p.form d)
  sound_power_at t ts None h = after (As update (t ∷ ts)) (As power (t ∷ ts)) (updated_of limit inner nested (t ∷ ts)) _ (sound_updated (t ∷ ts)) (sound_raise (t ∷ ts))

  sound_power : (ts : List Token) → OnRead (power_of limit inner nested ts) (As power ts)
  unfolding power_of
  sound_power [] = tt
  sound_power (t ∷ ts) = sound_power_at t ts (unary_of t.kind) refl

  -- ---- chains

  sound_more : (r : Rule) (n : ℕ) (next : Parser Piece) → ((ts : List Token) → OnRead (next ts) (As r ts)) → (go : Piece → Parser Piece) → ((p : Piece) (ts : List Token) → OnRead (go p ts) (More r n p ts))
      → (p : Piece) (t : Token) (ts : List Token) (b : Bool) → (rank t == n) ≡ b → (o : Option Infix) → infix_of t.kind ≡ o
      → OnRead (more_by limit inner nested (if b then o else None) p t ts next go) (More r n p (t ∷ ts))
  sound_more r n next operand go again p t ts true hr (Some op) ho = after (As r ts) (More r n p (t ∷ ts)) (next ts) _ (operand ts) (λ q mid d.
      on_weaker (More r n (piece (joined op p.tree q.tree) (edge q.form)) mid) (More r n p (t ∷ ts)) (kept limit (piece (joined op p.tree q.tree) (edge q.form)) go mid)
      (sound_kept limit (More r n (piece (joined op p.tree q.tree) (edge q.form)) mid) (piece (joined op p.tree q.tree) (edge q.form)) go mid (again (piece (joined op p.tree q.tree) (edge q.form)) mid)) (λ z rest c. goes_on r n p.tree q.tree z.tree p.form q.form z.form t ts mid rest op (eqb-true _ _ hr) ho d c))
  sound_more r n next operand go again p t ts true hr None ho = no_more r n p.tree p.form (t ∷ ts)
  sound_more r n next operand go again p t ts false hr o ho = no_more r n p.tree p.form (t ∷ ts)

  sound_operands_from : (r : Rule) (n : ℕ) (next : Parser Piece) → ((ts : List Token) → OnRead (next ts) (As r ts)) → (m : ℕ) (p : Piece) (ts : List Token)
      → OnRead (operands_from limit inner nested next n m p ts) (More r n p ts)
  unfolding operands_from
  sound_operands_from r n next operand zero p ts = no_more r n p.tree p.form ts
  sound_operands_from r n next operand (suc m) p [] = no_more r n p.tree p.form []
  sound_operands_from r n next operand (suc m) p (t ∷ ts) = sound_more r n next operand (operands_from limit inner nested next n m) (sound_operands_from r n next operand m) p t ts (rank t == n) refl (infix_of t.kind) refl

  sound_operands : (r : Rule) (n : ℕ) (next : Parser Piece) → ((ts : List Token) → OnRead (next ts) (As r ts)) → (p : Piece) (ts : List Token)
      → OnRead (operands_of limit inner nested next n p ts) (More r n p ts)
  unfolding operands_of
  sound_operands r n next operand p ts = sound_operands_from r n next operand (length ts) p ts

  sound_chain : (k : ℕ) (ts : List Token) → OnRead (chain_of limit inner nested k ts) (As (chain k) ts)
  unfolding chain_of
  sound_chain zero ts = after (As power ts) (As (chain zero) ts) (power_of limit inner nested ts) _ (sound_power ts) (λ p mid d.
      on_weaker (More power 3 p mid) (As (chain zero) ts) _ (sound_operands power 3 (inner power) (on_inner power) p mid) (λ q rest c. operands zero ts mid rest p.tree q.tree p.form q.form d c))
  sound_chain (suc k) ts = after (As (chain k) ts) (As (chain (suc k)) ts) (chain_of limit inner nested k ts) _ (sound_chain k ts) (λ p mid d.
      on_weaker (More (chain k) (suc k + 3) p mid) (As (chain (suc k)) ts) _ (sound_operands (chain k) (suc k + 3) (inner (chain k)) (on_inner (chain k)) p mid)
      (λ q rest c. operands (suc k) ts mid rest p.tree q.tree p.form q.form d c))

  sound_short_by : (ts mid : List Token) (p : Piece) → As (chain 7) ts p mid → (b : Bool) → OnRead (short_by limit inner nested b p mid) (As short ts)
  sound_short_by ts mid p d true = on_weaker (More (chain 7) 13 p mid) (As short ts) _ (sound_operands (chain 7) 13 (inner (chain 7)) (on_inner (chain 7)) p mid)
      (λ q rest c. coalesced ts mid rest p.tree q.tree p.form q.form d c)
  sound_short_by ts mid p d false = after (More (chain 7) 11 p mid) (As short ts) (operands_of limit inner nested (inner (chain 7)) 11 p mid) _
      (sound_operands (chain 7) 11 (inner (chain 7)) (on_inner (chain 7)) p mid) (λ q next c.
      on_weaker (More (chain 8) 12 q next) (As short ts) _ (sound_operands (chain 8) 12 (inner (chain 8)) (on_inner (chain 8)) q next)
      (λ z rest e. disjoined ts rest z.tree z.form (operands 9 ts next rest q.tree z.tree q.form z.form (operands 8 ts mid next p.tree q.tree p.form q.form d c) e)))

  sound_short : (ts : List Token) → OnRead (short_of limit inner nested ts) (As short ts)
  unfolding short_of
  sound_short ts = after (As (chain 7) ts) (As short ts) (chain_of limit inner nested 7 ts) _ (sound_chain 7 ts) (λ p mid d. sound_short_by ts mid p d (has_rank limit inner nested 13 mid))

  -- ---- `? :`, `=` and `=>`

  sound_chosen : (ts : List Token) (p : Piece) (mid : List Token) → As short ts p mid → OnRead (chosen_by limit inner nested (take is_question mid) p mid) (As conditional ts)
  sound_chosen ts p mid d = by_take is_question _ only_is_question (λ us o. As short ts p us → OnRead (chosen_by limit inner nested o p us) (As conditional ts))
      (λ t first h d1. after (As whole first) (As conditional ts) (inner whole first) _ (on_inner whole first) (λ q us d2.
      after_taken is_colon _ only_is_colon (As whole first q) (As conditional ts) _ (λ c second hc d2.
      on_mapped (As whole second) (As conditional ts) _ (inner whole second) (on_inner whole second) (λ z rest d3.
      chosen ts first second rest t c p.tree q.tree z.tree p.form q.form z.form d1 h d2 hc d3)) us d2))
      (λ us h r. unchosen ts us p.tree p.form r) mid d

  sound_conditional : (ts : List Token) → OnRead (conditional_of limit inner nested ts) (As conditional ts)
  unfolding conditional_of
  sound_conditional ts = after (As short ts) (As conditional ts) (short_of limit inner nested ts) _ (sound_short ts) (sound_chosen ts)

  sound_assign_by : (ts mid : List Token) (t : Token) (a : Expr) (f : Form) (o : Option AssignOp) → Reads conditional ts a f (t ∷ mid) → assign_of t.kind ≡ o
      → OnRead (assign_by limit inner nested f o a t mid) (As whole ts)
  sound_assign_by ts mid t a Target (Some op) d h = on_mapped (As whole mid) (As whole ts) _ (inner whole mid) (on_inner whole mid)
      (λ q rest e. assigned ts mid rest t op a q.tree q.form (left_of_target d refl) h e)
  sound_assign_by ts mid t a f o d h = unassigned ts (t ∷ mid) a f d

  sound_assigned : (ts : List Token) (p : Piece) (mid : List Token) → As conditional ts p mid → OnRead (assigned_of limit inner nested p mid) (As whole ts)
  unfolding assigned_of
  sound_assigned ts p [] d = unassigned ts [] p.tree p.form d
  sound_assigned ts p (t ∷ mid) d = sound_assign_by ts mid t p.tree p.form (assign_of t.kind) d refl

  abbrev AsBody : List Token → Body → List Token → Type 0
  AsBody ts b rest = ReadsArrowBody ts b.tree b.form rest

  sound_body_by : (ts : List Token) (b : Bool) → next_is opens_brace ts ≡ b → OnRead (body_by limit inner nested b ts) (AsBody ts)
  sound_body_by ts true h = on_mapped (ReadsBlock ts) (AsBody ts) _ (block_of limit inner nested ts) (sound_block limit inner nested on_inner on_items ts) (λ items rest d. block_body ts rest items d)
  sound_body_by ts false h = on_mapped (As whole ts) (AsBody ts) _ (inner whole ts) (on_inner whole ts) (λ p rest d. value_body ts rest p.tree p.form (no_brace ts h) d)

  sound_arrow_body : (ts : List Token) → OnRead (arrow_body limit inner nested ts) (AsBody ts)
  unfolding arrow_body
  sound_arrow_body ts = sound_body_by ts (next_is opens_brace ts) refl

  sound_whole_by : (ts : List Token) (o : Read (List (List ℕ))) → OnRead o (BeginsArrow ts) → OnRead (whole_by limit inner nested o ts) (As whole ts)
  sound_whole_by ts (Some p) h = on_mapped (AsBody p.1) (As whole ts) _ (arrow_body limit inner nested p.1) (sound_arrow_body p.1)
      (λ b rest d. arrow ts p.1 rest h.sign p.0 b.tree b.form h.head h.kind h.line d)
  sound_whole_by ts None h = after (As conditional ts) (As whole ts) (conditional_of limit inner nested ts) _ (sound_conditional ts) (sound_assigned ts)

  sound_whole : (ts : List Token) → OnRead (whole_of limit inner nested ts) (As whole ts)
  unfolding whole_of
  sound_whole ts = sound_whole_by ts (arrow_head ts) (sound_arrow_head ts)

  pub sound_at : (r : Rule) (ts : List Token) → OnRead (at limit inner nested r ts) (As r ts)
  sound_at whole ts = sound_whole ts
  sound_at conditional ts = sound_conditional ts
  sound_at short ts = sound_short ts
  sound_at (chain k) ts = sound_chain k ts
  sound_at power ts = sound_power ts
  sound_at prefixed ts = sound_prefixed ts
  sound_at update ts = sound_updated ts
  sound_at left ts = sound_left ts
  sound_at primary ts = sound_primary ts
