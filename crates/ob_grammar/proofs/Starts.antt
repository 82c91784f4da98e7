-- What statements begin with, and what does not stand behind them.
use Rattle.std.proofs.Common.{◌≡◌, ℕ, List, [], ◌∷◌, Bool, true, false, Option, None, refl, sym, subst, ap, ◌∙◌, ◌⊎◌, inl, inr, not, arith}
use Rattle.std.proofs.lemmas.Bool.{or_from}
use Rattle.ob_lex.specs.declared.punctuator.Punctuator.{Punctuator}
use Rattle.ob_lex.specs.declared.punctuator.Punctuator.TheVariants as mark
use Rattle.ob_base.specs.declared.reserved.ReservedWord.{ReservedWord}
use Rattle.ob_base.specs.declared.reserved.ReservedWord.TheVariants as word
use Rattle.ob_lex.specs.declared.token.Token.{Token}
use Rattle.ob_lex.specs.declared.token.TokenKind.{TokenKind}
use Rattle.ob_lex.specs.declared.token.TokenKind.TheVariants as kind
use Rattle.ob_tree_types.specs.declared.tree.Expr.{Expr}
use Rattle.ob_tree_types.specs.declared.tree.Function.{Function}
use Rattle.ob_tree_types.specs.declared.tree.Stmt.{Stmt}
use Rattle.ob_grammar.specs.Marks.{IsMark, IsWord, IsName, StartsOnLine, NotMark, NotWord}
use Rattle.ob_grammar.specs.declared.form.Form.{Form}
use Rattle.ob_grammar.specs.declared.form.Form.TheVariants.{Closed, Bare}
use Rattle.ob_grammar.specs.Forms.{ends_value, Stops}
use Rattle.ob_grammar.specs.Grammar.{Rule, whole, conditional, Reads, ReadsStmt, ReadsItem, ReadsBlock, ReadsYield, ReadsFunction}
use Rattle.ob_grammar.specs.Grammar.{arrow, assigned, unassigned, chosen, unchosen, function, block, statement, let_item, const_item, function_item, yield_alone, yield_value, block_statement, empty, expression, yielded, yield_assigned, changed, stepped, if_alone, if_else, while_loop, do_loop, do_loop_ended, for_loop, for_of, break, continue, return_alone, return_value, throw, try_catch}
use Rattle.ob_grammar.specs.Taking.{closes_brace, is_comma, is_semicolon, is_assign, is_else, is_yield, take, starts_on_line, no_value}
use Rattle.ob_grammar.proofs.CompleteTaking.{take_off}
use Rattle.ob_grammar.proofs.EndsComplete.{no_value_test}
use Rattle.ob_grammar.proofs.Firsts.{First, first_is, first_off, first, begins, begins_not_is_yield, begins_value}
use Rattle.ob_grammar.proofs.Heads.{same_token, same_rest, kinds_meet, after_name_is, head_no_name}
use Rattle.ob_grammar.proofs.Stopping.{operand_value, fits, value_rank, any_rank, rank_assign_mark, rank_comma}
use Rattle.ob_grammar.proofs.Tests.{is_comma_off, is_semicolon_off, is_assign_off, is_else_off, is_yield_on}

-- ---- what statements begin with

-- a token that a statement begins with
unfoldable pub starts : TokenKind → Bool
starts (kind.Name x) = true
starts (kind.Number n) = true
starts (kind.Text u) = true
starts (kind.Reserved word.True) = true
starts (kind.Reserved word.False) = true
starts (kind.Reserved word.Null) = true
starts (kind.Reserved word.Undefined) = true
starts (kind.Reserved word.Viewof) = true
starts (kind.Reserved word.New) = true
starts (kind.Punctuator mark.OpenParenthesis) = true
starts (kind.Punctuator mark.OpenBracket) = true
starts (kind.Punctuator mark.Not) = true
starts (kind.Punctuator mark.Minus) = true
starts (kind.Punctuator mark.Plus) = true
starts (kind.Punctuator mark.Tilde) = true
starts (kind.Reserved word.Typeof) = true
starts (kind.Reserved word.Void) = true
starts (kind.Punctuator mark.PlusPlus) = true
starts (kind.Punctuator mark.MinusMinus) = true
starts (kind.Punctuator mark.OpenBrace) = true
starts (kind.Punctuator mark.Semicolon) = true
starts (kind.Reserved word.Yield) = true
starts (kind.Reserved word.Mutable) = true
starts (kind.Reserved word.If) = true
starts (kind.Reserved word.While) = true
starts (kind.Reserved word.Do) = true
starts (kind.Reserved word.For) = true
starts (kind.Reserved word.Break) = true
starts (kind.Reserved word.Continue) = true
starts (kind.Reserved word.Return) = true
starts (kind.Reserved word.Throw) = true
starts (kind.Reserved word.Try) = true
starts _ = false

word_starts : (w : ReservedWord) → begins (kind.Reserved w) ≡ true → (w ≡ word.Function → ⊥) → starts (kind.Reserved w) ≡ true
unfolding begins starts
word_starts word.Function h n = absurd (n refl)
word_starts word.True h n = refl
word_starts word.False h n = refl
word_starts word.Null h n = refl
word_starts word.Undefined h n = refl
word_starts word.Viewof h n = refl
word_starts word.New h n = refl
word_starts word.Typeof h n = refl
word_starts word.Void h n = refl
word_starts word.Yield h n = refl
word_starts word.Mutable h n = refl
word_starts word.If h n = refl
word_starts word.While h n = refl
word_starts word.Do h n = refl
word_starts word.For h n = refl
word_starts word.Break h n = refl
word_starts word.Continue h n = refl
word_starts word.Return h n = refl
word_starts word.Throw h n = refl
word_starts word.Try h n = refl
word_starts _ h n = cc

mark_starts : (m : Punctuator) → begins (kind.Punctuator m) ≡ true → starts (kind.Punctuator m) ≡ true
unfolding begins starts
mark_starts mark.OpenParenthesis h = refl
mark_starts mark.OpenBracket h = refl
mark_starts mark.Not h = refl
mark_starts mark.Minus h = refl
mark_starts mark.Plus h = refl
mark_starts mark.Tilde h = refl
mark_starts mark.PlusPlus h = refl
mark_starts mark.MinusMinus h = refl
mark_starts mark.OpenBrace h = refl
mark_starts mark.Semicolon h = refl
mark_starts _ h = cc

begins_starts : (k : TokenKind) → begins k ≡ true → (k ≡ kind.Reserved word.Function → ⊥) → starts k ≡ true
unfolding begins starts
begins_starts (kind.Reserved word.Function) h n = absurd (n refl)
begins_starts (kind.Name x) h n = refl
begins_starts (kind.Number i) h n = refl
begins_starts (kind.Text u) h n = refl
begins_starts (kind.Reserved w) h n = word_starts w h (λ e. n (ap kind.Reserved e))
begins_starts (kind.Punctuator m) h n = mark_starts m h

starts_no_close : (k : TokenKind) → starts k ≡ true → closes_brace k ≡ false
unfolding starts closes_brace
starts_no_close (kind.Punctuator mark.CloseBrace) h = cc
starts_no_close _ h = refl

not_function : {ts : List Token} (p : First begins ts) → NotWord word.Function ts → p.token.kind ≡ kind.Reserved word.Function → ⊥
not_function {ts = []} p n h = n_none p.is
  where
    n_none : {u : Token} {us : List Token} → [] ≡ u ∷ us → ⊥
    n_none e = cc
not_function {ts = t ∷ ts} p n h = n (ap (λ (v : Token). v.kind) (same_token p.is) ∙ h)

expression_starts : {ts : List Token} (p : First begins ts) → NotWord word.Function ts → First starts ts
expression_starts p n = record { token = p.token; more = p.more; is = p.is; passes = begins_starts p.token.kind p.passes (not_function p n) }

block_starts : {ts : List Token} {items : List Stmt} {rest : List Token} → ReadsBlock ts items rest → First starts ts
unfolding starts
block_starts (block t ts rest items h d) = first_is starts t ts (ap starts h)

yield_starts : {ts : List Token} {a : Option Expr} {f : Form} {rest : List Token} → ReadsYield ts a f rest → First starts ts
unfolding starts
yield_starts (yield_alone t ts h) = first_is starts t ts (ap starts h)
yield_starts (yield_value t ts rest a f h n d) = first_is starts t ts (ap starts h)

pub stmt_starts : {ts : List Token} {s : Stmt} {rest : List Token} → ReadsStmt ts s rest → First starts ts
unfolding starts
stmt_starts (block_statement ts rest items d1) = block_starts d1
stmt_starts (empty t ts h1) = first_is starts t ts (ap starts h1)
stmt_starts (expression ts mid rest a f h1 h2 d1 h3) = expression_starts (first d1) h2
stmt_starts (yielded ts mid rest a f d1 h1) = yield_starts d1
stmt_starts (yield_assigned t q ts mid rest x a f h1 h2 d1 h3) = first_is starts t (q ∷ ts) (ap starts h1)
stmt_starts (changed t n q ts mid rest x op a f h1 h2 h3 d1 h4) = first_is starts t (n ∷ q ∷ ts) (ap starts h1)
stmt_starts (stepped t n q ts rest x op h1 h2 h3 h4 h5) = first_is starts t (n ∷ q ∷ ts) (ap starts h1)
stmt_starts (if_alone t ts mid rest a s h1 d1 d2 h2) = first_is starts t ts (ap starts h1)
stmt_starts (if_else t e ts mid next rest a s u h1 d1 d2 h2 d3) = first_is starts t ts (ap starts h1)
stmt_starts (while_loop t ts mid rest a s h1 d1 d2) = first_is starts t ts (ap starts h1)
stmt_starts (do_loop t w ts mid rest s a h1 d1 h2 d2 h3) = first_is starts t ts (ap starts h1)
stmt_starts (do_loop_ended t w e ts mid rest s a h1 d1 h2 d2 h3) = first_is starts t ts (ap starts h1)
stmt_starts (for_loop t p ts tested counted turn rest h a b s h1 h2 d1 d2 d3 d4) = first_is starts t (p ∷ ts) (ap starts h1)
stmt_starts (for_of t p d n o c ts mid rest constant x a f s h1 h2 h3 h4 h5 d1 h6 d2) = first_is starts t (p ∷ d ∷ n ∷ o ∷ ts) (ap starts h1)
stmt_starts (break t ts rest h1 h2) = first_is starts t ts (ap starts h1)
stmt_starts (continue t ts rest h1 h2) = first_is starts t ts (ap starts h1)
stmt_starts (return_alone t ts rest h1 h2) = first_is starts t ts (ap starts h1)
stmt_starts (return_value t ts mid rest a f h1 h2 d1 h3) = first_is starts t ts (ap starts h1)
stmt_starts (throw t ts mid rest a f h1 h2 d1 h3) = first_is starts t ts (ap starts h1)
stmt_starts (try_catch t c ts mid rest items p h1 d1 h2 d2) = first_is starts t ts (ap starts h1)

word_no_close : (t : Token) (ts : List Token) (w : ReservedWord) → IsWord w t → take closes_brace (t ∷ ts) ≡ None
unfolding closes_brace
word_no_close t ts w h = take_off closes_brace t ts (ap closes_brace h)

function_no_close : {ts : List Token} {g : Function} {rest : List Token} → ReadsFunction ts g rest → take closes_brace ts ≡ None
function_no_close (function t ts mid rest s items h1 h2 d1) = word_no_close t ts word.Function h1

pub item_no_close : {ts : List Token} {s : Stmt} {rest : List Token} → ReadsItem ts s rest → take closes_brace ts ≡ None
item_no_close (statement ts rest s d1) = let p = stmt_starts d1 in first_off closes_brace p (starts_no_close p.token.kind p.passes)
item_no_close (let_item t ts mid rest ds f h1 d1 h2) = word_no_close t ts word.Let h1
item_no_close (const_item t ts mid rest ds f h1 d1 h2) = word_no_close t ts word.Const h1
item_no_close (function_item ts rest g x d1 h1) = function_no_close d1

-- ---- what does not stand there

pub no_else : (ts : List Token) → NotWord word.Else ts → take is_else ts ≡ None
unfolding take
no_else [] h = refl
no_else (t ∷ ts) h = take_off is_else t ts (is_else_off t.kind h)

pub no_semicolon : (ts : List Token) → NotMark mark.Semicolon ts → take is_semicolon ts ≡ None
unfolding take
no_semicolon [] h = refl
no_semicolon (t ∷ ts) h = take_off is_semicolon t ts (is_semicolon_off t.kind h)

pub no_comma : (f : Form) (ts : List Token) → Stops f 18 ts → take is_comma ts ≡ None
unfolding take
no_comma f [] s = refl
no_comma f (t ∷ ts) s = take_off is_comma t ts (is_comma_off t.kind (λ e. any_rank f 18 17 t s (omega arith) (omega arith) (rank_comma t e)))

pub no_assign : (ts : List Token) → Stops Closed 17 ts → take is_assign ts ≡ None
unfolding take
no_assign [] s = refl
no_assign (t ∷ ts) s = take_off is_assign t ts (is_assign_off t.kind (λ e. value_rank Closed 17 15 t tt s (omega arith) (omega arith) (rank_assign_mark t e)))

pub bare_no_value : (n : ℕ) (ts : List Token) → Stops Bare n ts → no_value ts ≡ true
unfolding no_value
bare_no_value n [] s = refl
bare_no_value n (t ∷ ts) s = no_value_test t s.0

pub some_value : {ts : List Token} → First begins ts → StartsOnLine ts → no_value ts ≡ false
unfolding no_value
some_value {ts = []} p h = absurd h
some_value {ts = t ∷ ts} p h = or_from t.break_before (ends_value t.kind) h
    (ap (λ (v : Token). ends_value v.kind) (same_token p.is) ∙ begins_value p.token.kind p.passes)

pub on_line : (ts : List Token) → StartsOnLine ts → starts_on_line ts ≡ true
unfolding starts_on_line
on_line [] h = absurd h
on_line (t ∷ ts) h = ap not h

-- a name and `=` before a `yield` begin no expression statement
assign_not_question : kind.Punctuator mark.Question ≡ kind.Punctuator mark.Assign → ⊥
assign_not_question e = cc

assign_not_arrow : kind.Punctuator mark.Arrow ≡ kind.Punctuator mark.Assign → ⊥
assign_not_arrow e = cc

begins_no_yield : (y : Token) (ts us : List Token) → First begins us → us ≡ y ∷ ts → IsWord word.Yield y → ⊥
begins_no_yield y ts us p e h =
    let n = begins_not_is_yield p.token.kind p.passes in
    let q = ap (λ (v : Token). is_yield v.kind) (same_token (sym e ∙ p.is)) in
    let w = is_yield_on y.kind h in cc

pub no_yielding : {r : Rule} {all : List Token} {a : Expr} {f : Form} {mid : List Token} → Reads r all a f mid → (r ≡ whole) ⊎ (r ≡ conditional) → (t q y : Token) (ts : List Token) (x : List ℕ)
    → all ≡ t ∷ q ∷ y ∷ ts → IsName x t → IsMark mark.Assign q → IsWord word.Yield y → Stops f 18 mid → ⊥
no_yielding (arrow us mid rest u xs b f h1 h2 h3 d1) r t q y ts x e hx hq hy s = let m = head_no_name u mid h1 t (q ∷ y ∷ ts) x e hx in assign_not_arrow (kinds_meet _ _ m h2 hq)
no_yielding (assigned us mid rest u op a b f d1 h1 d2) r t q y ts x e hx hq hy s =
    let m : u ∷ mid ≡ q ∷ y ∷ ts = after_name_is d1 t (q ∷ y ∷ ts) x e hx (omega (arith, rank_assign_mark q hq)) in
    begins_no_yield y ts mid (first d2) (same_rest m) hy
no_yielding (unassigned us rest a f d1) r t q y ts x e hx hq hy s = no_yielding d1 (inr refl) t q y ts x e hx hq hy s
no_yielding (chosen us next second rest p c a b d f g h d1 h1 d2 h2 d3) r t q y ts x e hx hq hy s =
    let m : p ∷ next ≡ q ∷ y ∷ ts = after_name_is d1 t (q ∷ y ∷ ts) x e hx (omega (arith, rank_assign_mark q hq)) in
    assign_not_question (kinds_meet _ _ m h1 hq)
no_yielding (unchosen us rest a f d1) r t q y ts x e hx hq hy s =
    let m : rest ≡ q ∷ y ∷ ts = after_name_is d1 t (q ∷ y ∷ ts) x e hx (omega (arith, rank_assign_mark q hq)) in
    let w : Stops f 18 (q ∷ y ∷ ts) = subst (Stops f 18) m s in
    value_rank f 18 15 q (operand_value f (fits d1)) w (omega arith) (omega arith) (rank_assign_mark q hq)
no_yielding _ (inl e) t q y ts x al hx hq hy s = cc
no_yielding _ (inr e) t q y ts x al hx hq hy s = cc
