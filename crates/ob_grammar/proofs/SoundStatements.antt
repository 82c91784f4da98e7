-- What the descent reads as a statement or an item is one, where what it reads one nesting deeper is in the grammar.
use Rattle.std.proofs.Common.{◌≡◌, ℕ, zero, suc, Bool, true, false, List, [], ◌∷◌, length, Option, Some, None, refl, sym, ap, ◌∙◌}
use Rattle.std.proofs.lemmas.Bool.{both_ways}
use Rattle.std.specs.Prelude.{codes, option_and_then}
use Rattle.ob_lex.specs.declared.punctuator.Punctuator.{Punctuator}
use Rattle.ob_lex.specs.declared.punctuator.Punctuator.TheVariants as mark
use Rattle.ob_base.specs.declared.reserved.ReservedWord.TheVariants as word
use Rattle.ob_lex.specs.declared.token.Token.{Token}
use Rattle.ob_lex.specs.declared.token.TokenKind.{TokenKind}
use Rattle.ob_lex.specs.declared.token.TokenKind.TheVariants as kind
use Rattle.ob_base.specs.declared.operators.ChangeOp.{ChangeOp}
use Rattle.ob_tree_types.specs.declared.tree.ForHead.TheVariants as head
use Rattle.ob_tree_types.specs.declared.tree.Function.{Function}
use Rattle.ob_tree_types.specs.declared.tree.Stmt.{Stmt}
use Rattle.ob_tree_types.specs.declared.tree.Stmt.TheVariants as stmt
use Rattle.ob_grammar.specs.declared.form.Form.TheVariants.{Bare}
use Rattle.ob_grammar.specs.declared.form.Level.{Level}
use Rattle.ob_grammar.specs.declared.form.Level.TheVariants as level
use Rattle.ob_grammar.specs.declared.piece.Each.{Each}
use Rattle.ob_grammar.specs.declared.piece.Held.{Held}
use Rattle.ob_grammar.specs.declared.piece.One.{One}
use Rattle.ob_grammar.specs.declared.piece.Piece.{Piece}
use Rattle.ob_grammar.specs.declared.piece.Several.{Several}
use Rattle.ob_grammar.specs.Forms.{Ends}
use Rattle.ob_grammar.specs.Marks.{IsMark, IsName, IsWord, StartsOnLine, NotMark, NotWord, change_of, step_of, declares_constant}
use Rattle.ob_grammar.specs.Grammar.{Rule, whole, ReadsFunction, ReadsBlock, ReadsItem, ReadsDecls, ReadsDecl, ReadsYield, ReadsStmt, ReadsTest, ReadsHead, ReadsOptional, ReadsCatch}
use Rattle.ob_grammar.specs.Grammar as grammar
use Rattle.ob_grammar.specs.Taking.{Read, Parser, ◌>>=◌, opens_parenthesis, closes_parenthesis, opens_brace, is_comma, is_semicolon, is_assign, is_else, is_while, is_catch, is_yield, is_function, is_of, name_of, take, before, one, starts_on_line, no_value}
use Rattle.ob_grammar.specs.Reading.{block_of, function_rest, held_by, held_of, value_by, decl_by, decl_of, decls_by, decls_from, decls_of, expression_of, yield_of, return_of, throw_by, assigned_yield, named_by, stepped_by, changed_by, change_at, changed_of, test_of, else_by, if_of, while_of, or_all, do_of, optional_by, optional, head_by, head_of, of_head, for_by, for_of, catch_by, catch_of, try_of, statement_by, statement_of, named_function, item_by, item_of}
use Rattle.ob_grammar.proofs.Statements.{OnRead}
use Rattle.ob_grammar.proofs.SoundTokens.{Only, after, on_mapped, on_weaker, only_name, only_opens_parenthesis, only_closes_parenthesis, only_is_comma, only_is_semicolon, only_is_assign, only_is_else, only_is_while, only_is_catch, only_is_yield, only_is_of, by_take, on_taken, after_taken, closed_by, after_one, on_before, on_line, held_on_line, no_semicolon, no_else, on_ended}
use Rattle.ob_grammar.proofs.SoundBlocks.{As, sound_block, sound_function_rest}

abbrev AsYield : List Token → Held → List Token → Type 0
AsYield ts h rest = ReadsYield ts h.value h.form rest

abbrev AsDecl : List Token → One → List Token → Type 0
AsDecl ts d rest = ReadsDecl ts d.decl d.form rest

abbrev AsDecls : List Token → Several → List Token → Type 0
AsDecls ts s rest = ReadsDecls ts s.decls s.form rest

-- the head of a `for .. of` begins there
data BeginsOf : List Token → Each → List Token → Type 0 where
  begins_of : (d n o : Token) (rest : List Token) (constant : Bool) (x : List ℕ) → declares_constant d.kind ≡ Some constant → IsName x n → IsName (codes "of") o
      → BeginsOf (d ∷ n ∷ o ∷ rest) (record { constant = constant; name = x }) rest

sound_of_head : (ts : List Token) → OnRead (one declares_constant ts >>= λ c mid. one name_of mid >>= λ x next. before is_of (record { constant = c; name = x }) next) (BeginsOf ts)
sound_of_head ts = after_one declares_constant BeginsOf _ (λ d mid c hc.
    after_one name_of (λ us. BeginsOf (d ∷ us)) _ (λ n next x hx.
    on_before is_of _ only_is_of (λ us. BeginsOf (d ∷ n ∷ us)) _ (λ o rest ho. begins_of d n o rest c x hc (only_name n.kind x hx) ho) next) mid) ts

module _ (limit : ℕ) (inner : Rule → Parser Piece) (nested : Level → Parser Stmt) (on_inner : (r : Rule) (ts : List Token) → OnRead (inner r ts) (As r ts))
    (on_items : (ts : List Token) → OnRead (nested level.Item ts) (ReadsItem ts)) (on_statements : (ts : List Token) → OnRead (nested level.Statement ts) (ReadsStmt ts)) where
  -- ---- declarations

  sound_held_by : (ts : List Token) (Q : Held → List Token → Type 0) → Q (record { value = None; form = Bare }) ts
      → ((p : Piece) (rest : List Token) → StartsOnLine ts → As whole ts p rest → Q (record { value = Some p.tree; form = p.form }) rest) → (b : Bool) → no_value ts ≡ b
      → OnRead (held_by limit inner nested b ts) Q
  sound_held_by ts Q alone some true h = alone
  sound_held_by ts Q alone some false h = on_mapped (As whole ts) Q _ (inner whole ts) (on_inner whole ts) (λ p rest d. some p rest (held_on_line ts h) d)

  sound_held : (ts : List Token) (Q : Held → List Token → Type 0) → Q (record { value = None; form = Bare }) ts
      → ((p : Piece) (rest : List Token) → StartsOnLine ts → As whole ts p rest → Q (record { value = Some p.tree; form = p.form }) rest) → OnRead (held_of limit inner nested ts) Q
  unfolding held_of
  sound_held ts Q alone some = sound_held_by ts Q alone some (no_value ts) refl

  sound_yield : (t : Token) (ts : List Token) → IsWord word.Yield t → OnRead (held_of limit inner nested ts) (AsYield (t ∷ ts))
  sound_yield t ts h = sound_held ts (AsYield (t ∷ ts)) (grammar.yield_alone t ts h) (λ p rest l d. grammar.yield_value t ts rest p.tree p.form h l d)

  sound_value : (t q : Token) (ts : List Token) (x : List ℕ) → IsName x t → IsMark mark.Assign q → OnRead (value_by limit inner nested (take is_yield ts) x ts) (AsDecl (t ∷ q ∷ ts))
  sound_value t q ts x ht hq = by_take is_yield _ only_is_yield (λ us o. OnRead (value_by limit inner nested o x us) (AsDecl (t ∷ q ∷ us)))
      (λ y rest hy. on_mapped (AsYield (y ∷ rest)) (AsDecl (t ∷ q ∷ y ∷ rest)) _ (held_of limit inner nested rest) (sound_yield y rest hy) (λ h end d. grammar.decl_yield t q (y ∷ rest) end x h.value h.form ht hq d))
      (λ us hy. on_mapped (As whole us) (AsDecl (t ∷ q ∷ us)) _ (inner whole us) (on_inner whole us) (λ p end d. grammar.decl_value t q us end x p.tree p.form ht hq d)) ts

  sound_decl : (ts : List Token) → OnRead (decl_of limit inner nested ts) (AsDecl ts)
  unfolding decl_of
  sound_decl ts = after_one name_of AsDecl (λ x mid. decl_by limit inner nested (take is_assign mid) x mid) (λ t mid x hx.
      by_take is_assign _ only_is_assign (λ us o. OnRead (decl_by limit inner nested o x us) (AsDecl (t ∷ us)))
      (λ q rest hq. sound_value t q rest x (only_name t.kind x hx) hq) (λ us h. grammar.decl_name t us x (only_name t.kind x hx)) mid) ts

  sound_decls_from : (n : ℕ) (ts : List Token) → OnRead (decls_from limit inner nested n ts) (AsDecls ts)
  unfolding decls_from
  sound_decls_from zero ts = tt
  sound_decls_from (suc n) ts = after (AsDecl ts) (AsDecls ts) (decl_of limit inner nested ts) _ (sound_decl ts) (λ d mid h.
      by_take is_comma _ only_is_comma (λ us o. AsDecl ts d us → OnRead (decls_by limit inner nested o d (decls_from limit inner nested n) us) (AsDecls ts))
      (λ c rest hc r. on_mapped (AsDecls rest) (AsDecls ts) _ (decls_from limit inner nested n rest) (sound_decls_from n rest)
      (λ s end ds. grammar.more_decls c ts rest end d.decl s.decls d.form s.form r hc ds))
      (λ us hc r. grammar.last_decl ts us d.decl d.form r) mid h)

  pub sound_decls : (ts : List Token) → OnRead (decls_of limit inner nested ts) (AsDecls ts)
  unfolding decls_of
  sound_decls ts = sound_decls_from (length ts) ts

  -- ---- expressions, `yield`, `return`, `throw` and `mutable` as statements

  sound_expression : (ts : List Token) → NotMark mark.OpenBrace ts → NotWord word.Function ts → OnRead (expression_of limit inner nested ts) (ReadsStmt ts)
  sound_expression ts hb hf = after (As whole ts) (ReadsStmt ts) (inner whole ts) _ (on_inner whole ts) (λ p mid d.
      on_ended (ReadsStmt ts) (stmt.Expr p.tree) p.form mid (λ rest e. grammar.expression ts mid rest p.tree p.form hb hf d e))

  sound_other : (t : Token) (ts : List Token) (x : TokenKind) → t.kind ≡ x → opens_brace x ≡ false → is_function x ≡ false → OnRead (expression_of limit inner nested (t ∷ ts)) (ReadsStmt (t ∷ ts))
  unfolding opens_brace is_function
  sound_other t ts x h hb hf = sound_expression (t ∷ ts) (λ e. both_ways _ hb (ap opens_brace (sym h ∙ e))) (λ e. both_ways _ hf (ap is_function (sym h ∙ e)))

  sound_yielded : (t : Token) (ts : List Token) → IsWord word.Yield t → OnRead (yield_of limit inner nested None ts) (ReadsStmt (t ∷ ts))
  sound_yielded t ts h = after (AsYield (t ∷ ts)) (ReadsStmt (t ∷ ts)) (held_of limit inner nested ts) _ (sound_yield t ts h) (λ v mid d.
      on_ended (ReadsStmt (t ∷ ts)) (stmt.Yield None v.value) v.form mid (λ rest e. grammar.yielded (t ∷ ts) mid rest v.value v.form d e))

  sound_yield_assigned : (t q y : Token) (ts : List Token) (x : List ℕ) → IsName x t → IsMark mark.Assign q → IsWord word.Yield y
      → OnRead (yield_of limit inner nested (Some x) ts) (ReadsStmt (t ∷ q ∷ y ∷ ts))
  sound_yield_assigned t q y ts x ht hq hy = after (AsYield (y ∷ ts)) (ReadsStmt (t ∷ q ∷ y ∷ ts)) (held_of limit inner nested ts) _ (sound_yield y ts hy) (λ v mid d.
      on_ended (ReadsStmt (t ∷ q ∷ y ∷ ts)) (stmt.Yield (Some x) v.value) v.form mid (λ rest e. grammar.yield_assigned t q (y ∷ ts) mid rest x v.value v.form ht hq d e))

  sound_plain_name : (t : Token) (ts : List Token) (x : List ℕ) → IsName x t → OnRead (expression_of limit inner nested (t ∷ ts)) (ReadsStmt (t ∷ ts))
  unfolding opens_brace is_function
  sound_plain_name t ts x h = sound_other t ts (kind.Name x) h refl refl

  sound_named : (t : Token) (ts : List Token) (x : List ℕ) → IsName x t → OnRead (named_by limit inner nested (assigned_yield limit inner nested ts) x t ts) (ReadsStmt (t ∷ ts))
  unfolding assigned_yield
  sound_named t ts x h = by_take is_assign _ only_is_assign (λ us o. OnRead (named_by limit inner nested (option_and_then (take is_yield) o) x t us) (ReadsStmt (t ∷ us)))
      (λ q rest hq. by_take is_yield _ only_is_yield (λ us o. OnRead (named_by limit inner nested o x t (q ∷ us)) (ReadsStmt (t ∷ q ∷ us)))
      (λ y end hy. sound_yield_assigned t q y end x h hq hy) (λ us e. sound_plain_name t (q ∷ us) x h) rest)
      (λ us e. sound_plain_name t us x h) ts

  abbrev Returns : Token → List Token → Held → List Token → Type 0
  Returns t ts v mid = (rest : List Token) → Ends v.form mid rest → ReadsStmt (t ∷ ts) (stmt.Return v.value) rest

  sound_return : (t : Token) (ts : List Token) → IsWord word.Return t → OnRead (return_of limit inner nested ts) (ReadsStmt (t ∷ ts))
  sound_return t ts h = after (Returns t ts) (ReadsStmt (t ∷ ts)) (held_of limit inner nested ts) _
      (sound_held ts (Returns t ts) (λ rest e. grammar.return_alone t ts rest h e) (λ p mid l d rest e. grammar.return_value t ts mid rest p.tree p.form h l d e))
      (λ v mid r. on_ended (ReadsStmt (t ∷ ts)) (stmt.Return v.value) v.form mid r)

  sound_throw : (t : Token) (ts : List Token) → IsWord word.Throw t → (b : Bool) → starts_on_line ts ≡ b → OnRead (throw_by limit inner nested b ts) (ReadsStmt (t ∷ ts))
  sound_throw t ts h true l = after (As whole ts) (ReadsStmt (t ∷ ts)) (inner whole ts) _ (on_inner whole ts) (λ p mid d.
      on_ended (ReadsStmt (t ∷ ts)) (stmt.Throw p.tree) p.form mid (λ rest e. grammar.throw t ts mid rest p.tree p.form h (on_line ts l) d e))
  sound_throw t ts h false l = tt

  sound_stepped : (t n q : Token) (ts : List Token) (x : List ℕ) → IsWord word.Mutable t → IsName x n → (o : Option ChangeOp) → step_of q.kind ≡ o → (b : Bool) → q.break_before ≡ b
      → OnRead (stepped_by limit inner nested o b x ts) (ReadsStmt (t ∷ n ∷ q ∷ ts))
  sound_stepped t n q ts x ht hn (Some op) ho false hb = on_ended (ReadsStmt (t ∷ n ∷ q ∷ ts)) (stmt.Change x op None) Bare ts (λ rest e. grammar.stepped t n q ts rest x op ht hn ho hb e)
  sound_stepped t n q ts x ht hn _ ho _ hb = tt

  sound_changed_by : (t n q : Token) (ts : List Token) (x : List ℕ) → IsWord word.Mutable t → IsName x n → (o : Option ChangeOp) → change_of q.kind ≡ o
      → OnRead (changed_by limit inner nested o q x ts) (ReadsStmt (t ∷ n ∷ q ∷ ts))
  sound_changed_by t n q ts x ht hn (Some op) ho = after (As whole ts) (ReadsStmt (t ∷ n ∷ q ∷ ts)) (inner whole ts) _ (on_inner whole ts) (λ p mid d.
      on_ended (ReadsStmt (t ∷ n ∷ q ∷ ts)) (stmt.Change x op (Some p.tree)) p.form mid (λ rest e. grammar.changed t n q ts mid rest x op p.tree p.form ht hn ho d e))
  sound_changed_by t n q ts x ht hn None ho = sound_stepped t n q ts x ht hn (step_of q.kind) refl q.break_before refl

  sound_change_at : (t n : Token) (ts : List Token) (x : List ℕ) → IsWord word.Mutable t → IsName x n → OnRead (change_at limit inner nested x ts) (ReadsStmt (t ∷ n ∷ ts))
  sound_change_at t n [] x ht hn = tt
  sound_change_at t n (q ∷ ts) x ht hn = sound_changed_by t n q ts x ht hn (change_of q.kind) refl

  sound_changed : (t : Token) (ts : List Token) → IsWord word.Mutable t → OnRead (changed_of limit inner nested ts) (ReadsStmt (t ∷ ts))
  unfolding changed_of
  sound_changed t ts h = after_one name_of (λ us. ReadsStmt (t ∷ us)) (change_at limit inner nested) (λ n rest x hx. sound_change_at t n rest x h (only_name n.kind x hx)) ts

  -- ---- `if`, `while`, `do`, `for`, `try`

  sound_test : (ts : List Token) → OnRead (test_of limit inner nested ts) (ReadsTest ts)
  unfolding test_of
  sound_test ts = on_taken opens_parenthesis _ only_opens_parenthesis ReadsTest _ (λ t inside h.
      after (As whole inside) (ReadsTest (t ∷ inside)) (inner whole inside) _ (on_inner whole inside) (λ p mid d.
      closed_by closes_parenthesis _ only_closes_parenthesis (As whole inside p) (ReadsTest (t ∷ inside)) p.tree (λ c rest hc r. grammar.test t c inside rest p.tree p.form h r hc) mid d)) ts

  sound_if : (t : Token) (ts : List Token) → IsWord word.If t → OnRead (if_of limit inner nested ts) (ReadsStmt (t ∷ ts))
  unfolding if_of
  sound_if t ts h = after (ReadsTest ts) (ReadsStmt (t ∷ ts)) (test_of limit inner nested ts) _ (sound_test ts) (λ a mid d.
      after (ReadsStmt mid) (ReadsStmt (t ∷ ts)) (nested level.Statement mid) _ (on_statements mid) (λ s next r.
      by_take is_else _ only_is_else (λ us o. ReadsStmt mid s us → OnRead (else_by limit inner nested o a s us) (ReadsStmt (t ∷ ts)))
      (λ e next he r. on_mapped (ReadsStmt next) (ReadsStmt (t ∷ ts)) _ (nested level.Statement next) (on_statements next) (λ u rest w. grammar.if_else t e ts mid next rest a s u h d r he w))
      (λ us he r. grammar.if_alone t ts mid us a s h d r (no_else us he)) next r))

  sound_while : (t : Token) (ts : List Token) → IsWord word.While t → OnRead (while_of limit inner nested ts) (ReadsStmt (t ∷ ts))
  unfolding while_of
  sound_while t ts h = after (ReadsTest ts) (ReadsStmt (t ∷ ts)) (test_of limit inner nested ts) _ (sound_test ts) (λ a mid d.
      on_mapped (ReadsStmt mid) (ReadsStmt (t ∷ ts)) _ (nested level.Statement mid) (on_statements mid) (λ s rest r. grammar.while_loop t ts mid rest a s h d r))

  sound_do : (t : Token) (ts : List Token) → IsWord word.Do t → OnRead (do_of limit inner nested ts) (ReadsStmt (t ∷ ts))
  unfolding do_of
  sound_do t ts h = after (ReadsStmt ts) (ReadsStmt (t ∷ ts)) (nested level.Statement ts) _ (on_statements ts) (λ s mid d.
      after_taken is_while _ only_is_while (ReadsStmt ts s) (ReadsStmt (t ∷ ts)) _ (λ w next hw d.
      after (ReadsTest next) (ReadsStmt (t ∷ ts)) (test_of limit inner nested next) _ (sound_test next) (λ a rest r.
      by_take is_semicolon _ only_is_semicolon (λ us o. ReadsTest next a us → ReadsStmt (t ∷ ts) (stmt.DoWhile s a) (or_all limit inner nested o us))
      (λ e end he r. grammar.do_loop_ended t w e ts next end s a h d hw r he) (λ us he r. grammar.do_loop t w ts next us s a h d hw r (no_semicolon us he)) rest r)) mid d)

  sound_optional : (closes : TokenKind → Bool) (m : Punctuator) → Only closes (kind.Punctuator m) → (ts : List Token) → OnRead (optional limit inner nested closes ts) (ReadsOptional m ts)
  unfolding optional
  sound_optional closes m only ts = by_take closes _ only (λ us o. OnRead (optional_by limit inner nested o closes us) (ReadsOptional m us)) (λ t rest h. grammar.absent m t rest h)
      (λ us h. after (As whole us) (ReadsOptional m us) (inner whole us) _ (on_inner whole us) (λ p mid d.
      closed_by closes _ only (As whole us p) (ReadsOptional m us) (Some p.tree) (λ c rest hc r. grammar.present m c us rest p.tree p.form r hc) mid d)) ts

  sound_expr_head : (ts : List Token) → OnRead (inner whole ts >>= λ p mid. before is_semicolon (head.Expr p.tree) mid) (ReadsHead ts)
  sound_expr_head ts = after (As whole ts) (ReadsHead ts) (inner whole ts) _ (on_inner whole ts) (λ p mid d.
      closed_by is_semicolon _ only_is_semicolon (As whole ts p) (ReadsHead ts) (head.Expr p.tree) (λ e rest he r. grammar.expr_head e ts rest p.tree p.form r he) mid d)

  sound_head_by : (t : Token) (ts : List Token) (x : TokenKind) → t.kind ≡ x → OnRead (head_by limit inner nested x t ts) (ReadsHead (t ∷ ts))
  unfolding head_by
  sound_head_by t ts (kind.Punctuator mark.Semicolon) h = grammar.no_head t ts h
  sound_head_by t ts (kind.Reserved word.Let) h = after (AsDecls ts) (ReadsHead (t ∷ ts)) (decls_of limit inner nested ts) _ (sound_decls ts) (λ s mid d.
      closed_by is_semicolon _ only_is_semicolon (AsDecls ts s) (ReadsHead (t ∷ ts)) (head.Let s.decls) (λ e rest he r. grammar.let_head t e ts rest s.decls s.form h r he) mid d)
  sound_head_by t ts (kind.Reserved word.Const) h = after (AsDecls ts) (ReadsHead (t ∷ ts)) (decls_of limit inner nested ts) _ (sound_decls ts) (λ s mid d.
      closed_by is_semicolon _ only_is_semicolon (AsDecls ts s) (ReadsHead (t ∷ ts)) (head.Const s.decls) (λ e rest he r. grammar.const_head t e ts rest s.decls s.form h r he) mid d)
  sound_head_by t ts _ h = sound_expr_head (t ∷ ts)

  sound_head : (ts : List Token) → OnRead (head_of limit inner nested ts) (ReadsHead ts)
  unfolding head_of
  sound_head [] = tt
  sound_head (t ∷ ts) = sound_head_by t ts t.kind refl

  sound_for_of : (t p : Token) (inside : List Token) (each : Each) (ts : List Token) → IsWord word.For t → IsMark mark.OpenParenthesis p → BeginsOf inside each ts
      → OnRead (for_by limit inner nested (Some (each, ts)) inside) (ReadsStmt (t ∷ p ∷ inside))
  sound_for_of t p inside each ts ht hp (begins_of d n o us constant x hd hn ho) = after (As whole us) (ReadsStmt (t ∷ p ∷ d ∷ n ∷ o ∷ us)) (inner whole us) _ (on_inner whole us) (λ q mid r.
      after_taken closes_parenthesis _ only_closes_parenthesis (As whole us q) (ReadsStmt (t ∷ p ∷ d ∷ n ∷ o ∷ us)) _ (λ c turn hc r.
      on_mapped (ReadsStmt turn) (ReadsStmt (t ∷ p ∷ d ∷ n ∷ o ∷ us)) _ (nested level.Statement turn) (on_statements turn) (λ s rest w.
      grammar.for_of t p d n o c us turn rest constant x q.tree q.form s ht hp hd hn ho r hc w)) mid r)

  sound_for_by : (t p : Token) (inside : List Token) → IsWord word.For t → IsMark mark.OpenParenthesis p → (o : Read Each) → OnRead o (BeginsOf inside)
      → OnRead (for_by limit inner nested o inside) (ReadsStmt (t ∷ p ∷ inside))
  sound_for_by t p inside ht hp (Some (each, ts)) d = sound_for_of t p inside each ts ht hp d
  sound_for_by t p inside ht hp None d = after (ReadsHead inside) (ReadsStmt (t ∷ p ∷ inside)) (head_of limit inner nested inside) _ (sound_head inside) (λ h tested d1.
      after (ReadsOptional mark.Semicolon tested) (ReadsStmt (t ∷ p ∷ inside)) (optional limit inner nested is_semicolon tested) _ (sound_optional is_semicolon mark.Semicolon only_is_semicolon tested) (λ a counted d2.
      after (ReadsOptional mark.CloseParenthesis counted) (ReadsStmt (t ∷ p ∷ inside)) (optional limit inner nested closes_parenthesis counted) _
      (sound_optional closes_parenthesis mark.CloseParenthesis only_closes_parenthesis counted) (λ b turn d3.
      on_mapped (ReadsStmt turn) (ReadsStmt (t ∷ p ∷ inside)) _ (nested level.Statement turn) (on_statements turn) (λ s rest d4.
      grammar.for_loop t p inside tested counted turn rest h a b s ht hp d1 d2 d3 d4))))

  sound_for : (t : Token) (ts : List Token) → IsWord word.For t → OnRead (for_of limit inner nested ts) (ReadsStmt (t ∷ ts))
  unfolding for_of of_head
  sound_for t ts h = on_taken opens_parenthesis _ only_opens_parenthesis (λ us. ReadsStmt (t ∷ us)) _ (λ p inside hp.
      sound_for_by t p inside h hp (of_head limit inner nested inside) (sound_of_head inside)) ts

  sound_catch : (ts : List Token) → OnRead (catch_of limit inner nested ts) (ReadsCatch ts)
  unfolding catch_of
  sound_catch ts = by_take opens_parenthesis _ only_opens_parenthesis (λ us o. OnRead (catch_by limit inner nested o us) (ReadsCatch us))
      (λ t inside h. after_one name_of (λ us. ReadsCatch (t ∷ us)) _ (λ n mid x hx.
      on_taken closes_parenthesis _ only_closes_parenthesis (λ us. ReadsCatch (t ∷ n ∷ us)) _ (λ c next hc.
      on_mapped (ReadsBlock next) (ReadsCatch (t ∷ n ∷ c ∷ next)) _ (block_of limit inner nested next) (sound_block limit inner nested on_inner on_items next) (λ items rest d.
      grammar.catch_name t n c next rest x items h (only_name n.kind x hx) hc d)) mid) inside)
      (λ us h. on_mapped (ReadsBlock us) (ReadsCatch us) _ (block_of limit inner nested us) (sound_block limit inner nested on_inner on_items us) (λ items rest d. grammar.catch_all us rest items d)) ts

  sound_try : (t : Token) (ts : List Token) → IsWord word.Try t → OnRead (try_of limit inner nested ts) (ReadsStmt (t ∷ ts))
  unfolding try_of
  sound_try t ts h = after (ReadsBlock ts) (ReadsStmt (t ∷ ts)) (block_of limit inner nested ts) _ (sound_block limit inner nested on_inner on_items ts) (λ items mid d.
      after_taken is_catch _ only_is_catch (ReadsBlock ts items) (ReadsStmt (t ∷ ts)) _ (λ c next hc d.
      on_mapped (ReadsCatch next) (ReadsStmt (t ∷ ts)) _ (catch_of limit inner nested next) (sound_catch next) (λ p rest r. grammar.try_catch t c ts next rest items p h d hc r)) mid d)

  -- ---- statements and items

  sound_statement_by : (t : Token) (ts : List Token) (x : TokenKind) → t.kind ≡ x → OnRead (statement_by limit inner nested x t ts) (ReadsStmt (t ∷ ts))
  unfolding statement_by opens_brace is_function
  sound_statement_by t ts (kind.Punctuator mark.OpenBrace) h = on_mapped (ReadsBlock (t ∷ ts)) (ReadsStmt (t ∷ ts)) _ (block_of limit inner nested (t ∷ ts)) (sound_block limit inner nested on_inner on_items (t ∷ ts))
      (λ items rest d. grammar.block_statement (t ∷ ts) rest items d)
  sound_statement_by t ts (kind.Punctuator mark.Semicolon) h = grammar.empty t ts h
  sound_statement_by t ts (kind.Name x) h = sound_named t ts x h
  sound_statement_by t ts (kind.Reserved word.Function) h = tt
  sound_statement_by t ts (kind.Reserved word.Yield) h = sound_yielded t ts h
  sound_statement_by t ts (kind.Reserved word.Mutable) h = sound_changed t ts h
  sound_statement_by t ts (kind.Reserved word.If) h = sound_if t ts h
  sound_statement_by t ts (kind.Reserved word.While) h = sound_while t ts h
  sound_statement_by t ts (kind.Reserved word.Do) h = sound_do t ts h
  sound_statement_by t ts (kind.Reserved word.For) h = sound_for t ts h
  sound_statement_by t ts (kind.Reserved word.Break) h = on_ended (ReadsStmt (t ∷ ts)) stmt.Break Bare ts (λ rest e. grammar.break t ts rest h e)
  sound_statement_by t ts (kind.Reserved word.Continue) h = on_ended (ReadsStmt (t ∷ ts)) stmt.Continue Bare ts (λ rest e. grammar.continue t ts rest h e)
  sound_statement_by t ts (kind.Reserved word.Return) h = sound_return t ts h
  sound_statement_by t ts (kind.Reserved word.Throw) h = sound_throw t ts h (starts_on_line ts) refl
  sound_statement_by t ts (kind.Reserved word.Try) h = sound_try t ts h
  sound_statement_by t ts x h = sound_other t ts x h refl refl

  pub sound_statement : (ts : List Token) → OnRead (statement_of limit inner nested ts) (ReadsStmt ts)
  unfolding statement_of
  sound_statement [] = tt
  sound_statement (t ∷ ts) = sound_statement_by t ts t.kind refl

  sound_named_function : (t : Token) (ts rest : List Token) (g : Function) → ReadsFunction (t ∷ ts) g rest → (o : Option (List ℕ)) → g.name ≡ o
      → OnRead (named_function limit inner nested o g rest) (ReadsItem (t ∷ ts))
  sound_named_function t ts rest g d (Some x) h = grammar.function_item (t ∷ ts) rest g x d h
  sound_named_function t ts rest g d None h = tt

  sound_item_by : (t : Token) (ts : List Token) (x : TokenKind) → t.kind ≡ x → OnRead (item_by limit inner nested x t ts) (ReadsItem (t ∷ ts))
  unfolding item_by
  sound_item_by t ts (kind.Reserved word.Let) h = after (AsDecls ts) (ReadsItem (t ∷ ts)) (decls_of limit inner nested ts) _ (sound_decls ts) (λ s mid d.
      on_ended (ReadsItem (t ∷ ts)) (stmt.Let s.decls) s.form mid (λ rest e. grammar.let_item t ts mid rest s.decls s.form h d e))
  sound_item_by t ts (kind.Reserved word.Const) h = after (AsDecls ts) (ReadsItem (t ∷ ts)) (decls_of limit inner nested ts) _ (sound_decls ts) (λ s mid d.
      on_ended (ReadsItem (t ∷ ts)) (stmt.Const s.decls) s.form mid (λ rest e. grammar.const_item t ts mid rest s.decls s.form h d e))
  sound_item_by t ts (kind.Reserved word.Function) h = after (ReadsFunction (t ∷ ts)) (ReadsItem (t ∷ ts)) (function_rest limit inner nested ts) _ (sound_function_rest limit inner nested on_inner on_items t ts h)
      (λ g rest d. sound_named_function t ts rest g d g.name refl)
  sound_item_by t ts x h = on_weaker (ReadsStmt (t ∷ ts)) (ReadsItem (t ∷ ts)) (statement_by limit inner nested x t ts) (sound_statement_by t ts x h) (λ s rest d. grammar.statement (t ∷ ts) rest s d)

  pub sound_item : (ts : List Token) → OnRead (item_of limit inner nested ts) (ReadsItem ts)
  unfolding item_of
  sound_item [] = tt
  sound_item (t ∷ ts) = sound_item_by t ts t.kind refl
