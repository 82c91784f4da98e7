-- Derivations of the forms that the texts of the builtins have.
use Rattle.std.proofs.Common.{◌≡◌, ℕ, suc, ◌+◌, pos, true, false, List, [], ◌∷◌, Some, None, refl}
use Rattle.ob_base.specs.declared.operators.CompareOp.TheVariants as compare
use Rattle.ob_base.specs.declared.operators.UnaryOp.TheVariants as unary
use Rattle.ob_lex.specs.declared.punctuator.Punctuator.TheVariants as mark
use Rattle.ob_base.specs.declared.reserved.ReservedWord.TheVariants as word
use Rattle.ob_lex.specs.declared.token.Token.{Token}
use Rattle.ob_lex.specs.declared.token.TokenKind.{TokenKind}
use Rattle.ob_lex.specs.declared.token.TokenKind.TheVariants as kind
use Rattle.ob_base.specs.declared.operators.AssignOp.TheVariants as assign
use Rattle.ob_base.specs.declared.operators.UpdateOp.TheVariants as update_op
use Rattle.ob_tree_types.specs.declared.tree.Expr.{Expr}
use Rattle.ob_tree_types.specs.declared.tree.Expr.TheVariants as node
use Rattle.ob_tree_types.specs.declared.tree.FnBody.TheVariants as body
use Rattle.ob_tree_types.specs.declared.tree.DeclValue.TheVariants as value
use Rattle.ob_tree_types.specs.declared.tree.Stmt.{Stmt}
use Rattle.ob_tree_types.specs.declared.tree.Stmt.TheVariants as stmt
use Rattle.ob_tree_types.specs.declared.tree.ForHead.{ForHead}
use Rattle.ob_tree_types.specs.declared.tree.ForHead.TheVariants as head
use Rattle.ob_grammar.specs.declared.form.Form.{Form}
use Rattle.ob_grammar.specs.declared.form.Form.TheVariants.{Target, Other, Updated}
use Rattle.ob_grammar.specs.declared.form.Infix.TheVariants.{Compares}
use Rattle.ob_grammar.specs.Marks.{NotWord, word_of, literal_of, mark_rank, rank_by, infix_of, unary_of, update_of, assign_of}
use Rattle.ob_grammar.specs.Forms.{edge, written}
use Rattle.ob_grammar.specs.Lists.{ReadsNames, last_name, more_names, params, signature, no_star, no_name}
use Rattle.ob_grammar.specs.Grammar.{Rule, whole, conditional, short, chain, power, prefixed, update, left, primary, tighter, Reads, Steps, ReadsList, ReadsFunction, ReadsItems, ReadsItem, ReadsDecls, ReadsStmt, ReadsHead}
use Rattle.ob_grammar.specs.Grammar as g
use Rattle.ob_grammar.proofs.FunctionTexts.{up}
use Rattle.ob_prelude_texts.proofs.Tokens.{at, m, w, name, string, int}

-- ---- from rule to rule

power_of_left : {ts rest : List Token} {a : Expr} {f : Form} → Reads left ts a f rest → Reads power ts a f rest
power_of_left {ts} {rest} {a} {f} d = g.unraised ts rest a f (g.unsigned ts rest a f (g.uncounted ts rest a f d))

short_of_chain : {ts rest : List Token} {a : Expr} {f : Form} → Reads (chain 7) ts a f rest → Reads short ts a f rest
short_of_chain {ts} {rest} {a} {f} d = g.coalesced ts rest rest a a f f d (g.no_more (chain 7) 13 a f rest)

whole_of_short : {ts rest : List Token} {a : Expr} {f : Form} → Reads short ts a f rest → Reads whole ts a f rest
whole_of_short {ts} {rest} {a} {f} d = g.unassigned ts rest a f (g.unchosen ts rest a f d)

whole_of_power : {ts rest : List Token} {a : Expr} {f : Form} → Reads power ts a f rest → Reads whole ts a f rest
whole_of_power d = whole_of_short (short_of_chain (up 7 d))

chain_up : (k : ℕ) {ts rest : List Token} {a : Expr} {f : Form} → Reads (chain k) ts a f rest → Reads (chain (suc k)) ts a f rest
chain_up k {ts} {rest} {a} {f} d = g.operands (suc k) ts rest rest a a f f d (g.no_more (chain k) (suc k + 3) a f rest)

pub alone : {ts rest : List Token} {a : Expr} {f : Form} → Reads left ts a f rest → Reads whole ts a f rest
alone d = whole_of_power (power_of_left d)

pub first : {ts rest : List Token} {a : Expr} {f : Form} → Reads primary ts a f rest → Reads left ts a f rest
first {ts} {rest} {a} {f} d = g.steps ts rest rest a a f f d (g.no_step a f rest)

-- ---- values

pub a_name : {p q : ℕ} {x : List ℕ} {ts : List Token} → Reads left (at p q (name x) ∷ ts) (node.Name x) Target ts
a_name {p} {q} {x} {ts} = first (g.name (at p q (name x)) ts x refl)

pub an_int : {p q n : ℕ} {ts : List Token} → Reads left (at p q (int n) ∷ ts) (node.Int (pos n)) Other ts
unfolding literal_of
an_int {p} {q} {n} {ts} = first (g.literal (at p q (int n)) ts (node.Int (pos n)) refl)

pub a_true : {p q : ℕ} {ts : List Token} → Reads left (at p q (w word.True) ∷ ts) (node.Bool true) Other ts
unfolding literal_of
a_true {p} {q} {ts} = first (g.literal (at p q (w word.True)) ts (node.Bool true) refl)

pub a_false : {p q : ℕ} {ts : List Token} → Reads left (at p q (w word.False) ∷ ts) (node.Bool false) Other ts
unfolding literal_of
a_false {p} {q} {ts} = first (g.literal (at p q (w word.False)) ts (node.Bool false) refl)

pub an_undefined : {p q : ℕ} {ts : List Token} → Reads left (at p q (w word.Undefined) ∷ ts) node.Undefined Other ts
unfolding literal_of
an_undefined {p} {q} {ts} = first (g.literal (at p q (w word.Undefined)) ts node.Undefined refl)

pub a_text : {p q : ℕ} {units : List ℕ} {ts : List Token} → Reads left (at p q (string units) ∷ ts) (node.Text units) Other ts
unfolding literal_of
a_text {p} {q} {units} {ts} = first (g.literal (at p q (string units)) ts (node.Text units) refl)

-- []
pub no_items : {p q r s : ℕ} {ts : List Token} → Reads left (at p q (m mark.OpenBracket) ∷ at r s (m mark.CloseBracket) ∷ ts) (node.Array []) Other ts
no_items {p} {q} {r} {s} {ts} =
    first (g.array (at p q (m mark.OpenBracket)) (at r s (m mark.CloseBracket) ∷ ts) ts [] refl (g.no_item mark.CloseBracket (at r s (m mark.CloseBracket)) ts refl))

-- ---- arguments, up to the `)`

pub last : {r s : ℕ} {ts rest : List Token} {a : Expr} {f : Form} → Reads whole ts a f (at r s (m mark.CloseParenthesis) ∷ rest)
    → ReadsList mark.CloseParenthesis ts (a ∷ []) rest
last {r} {s} {ts} {rest} {a} {f} d = g.last_item mark.CloseParenthesis (at r s (m mark.CloseParenthesis)) ts rest a f d refl

pub then_more : {r s : ℕ} {ts mid rest : List Token} {a : Expr} {f : Form} {items : List Expr} → Reads whole ts a f (at r s (m mark.Comma) ∷ mid)
    → ReadsList mark.CloseParenthesis mid items rest → ReadsList mark.CloseParenthesis ts (a ∷ items) rest
then_more {r} {s} {ts} {mid} {rest} {a} {f} {items} d e = g.more_list mark.CloseParenthesis (at r s (m mark.Comma)) ts mid rest a f items d refl e

-- ---- what goes on with a name

pub stop : {a : Expr} {f : Form} {ts : List Token} → Steps a f ts a f ts
stop {a} {f} {ts} = g.no_step a f ts

-- .x
pub dot : {p q r s : ℕ} {x : List ℕ} {ts rest : List Token} {a b : Expr} {f h : Form} → Steps (node.Member a x) Target ts b h rest
    → Steps a f (at p q (m mark.Dot) ∷ at r s (name x) ∷ ts) b h rest
unfolding word_of
dot {p} {q} {r} {s} {x} {ts} {rest} {a} {b} {f} {h} d = g.member a b f h (at p q (m mark.Dot)) (at r s (name x)) x ts rest refl refl d

-- [k]
pub element : {p q r s : ℕ} {ts mid rest : List Token} {a b k : Expr} {f h i : Form} → Reads whole ts k i (at r s (m mark.CloseBracket) ∷ mid)
    → Steps (node.Index a k) Target mid b h rest → Steps a f (at p q (m mark.OpenBracket) ∷ ts) b h rest
element {p} {q} {r} {s} {ts} {mid} {rest} {a} {b} {k} {f} {h} {i} d e =
    g.index a b k f h i (at p q (m mark.OpenBracket)) (at r s (m mark.CloseBracket)) ts mid rest refl d refl e

-- (args)
pub applied : {p q : ℕ} {ts mid rest : List Token} {a b : Expr} {args : List Expr} {f h : Form} → ReadsList mark.CloseParenthesis ts args mid
    → Steps (node.Call a args) Other mid b h rest → Steps a f (at p q (m mark.OpenParenthesis) ∷ ts) b h rest
applied {p} {q} {ts} {mid} {rest} {a} {b} {args} {f} {h} d e = g.call a b f h (at p q (m mark.OpenParenthesis)) args ts mid rest refl d e

pub name_then : {p q : ℕ} {x : List ℕ} {ts rest : List Token} {a : Expr} {f : Form} → Steps (node.Name x) Target ts a f rest
    → Reads left (at p q (name x) ∷ ts) a f rest
name_then {p} {q} {x} {ts} {rest} {a} {f} d = g.steps (at p q (name x) ∷ ts) ts rest (node.Name x) a Target f (g.name (at p q (name x)) ts x refl) d

-- new x(args)
pub a_new : {p q r s t u : ℕ} {x : List ℕ} {ts rest : List Token} {args : List Expr} → ReadsList mark.CloseParenthesis ts args rest
    → Reads left (at p q (w word.New) ∷ at r s (name x) ∷ at t u (m mark.OpenParenthesis) ∷ ts) (node.New x args) Other rest
a_new {p} {q} {r} {s} {t} {u} {x} {ts} {rest} {args} d =
    first (g.made (at p q (w word.New)) (at r s (name x)) (at t u (m mark.OpenParenthesis)) ts rest x args refl refl refl d)

-- ---- operators

-- x++
pub counted : {p q r s : ℕ} {x : List ℕ} {ts : List Token} → Reads whole (at p q (name x) ∷ at r s (m mark.PlusPlus) ∷ ts) (node.Update update_op.Up false (node.Name x)) Updated ts
unfolding update_of
counted {p} {q} {r} {s} {x} {ts} = let all = at p q (name x) ∷ at r s (m mark.PlusPlus) ∷ ts in
    whole_of_power (g.unraised all ts _ Updated (g.unsigned all ts _ Updated (g.counted_behind all ts (at r s (m mark.PlusPlus)) update_op.Up (node.Name x) a_name refl refl)))

-- !a
pub negated : {p q : ℕ} {ts rest : List Token} {a : Expr} {f : Form} → Reads left ts a f rest → Reads whole (at p q (m mark.Not) ∷ ts) (node.Unary unary.Not a) (edge f) rest
unfolding unary_of
negated {p} {q} {ts} {rest} {a} {f} d = whole_of_power (g.unraised (at p q (m mark.Not) ∷ ts) rest (node.Unary unary.Not a) (edge f)
    (g.signed (at p q (m mark.Not)) ts rest unary.Not a f refl (g.unsigned ts rest a f (g.uncounted ts rest a f d))))

-- a < b
pub less : {p q : ℕ} {ts mid rest : List Token} {a b : Expr} {f h : Form} → Reads left ts a f (at p q (m mark.Less) ∷ mid) → Reads left mid b h rest
    → Reads whole ts (node.Compare compare.Less a b) (edge h) rest
unfolding infix_of mark_rank rank_by
less {p} {q} {ts} {mid} {rest} {a} {b} {f} {h} d e = let c = node.Compare compare.Less a b in let t = at p q (m mark.Less) in
    whole_of_short (short_of_chain (chain_up 6 (chain_up 5 (chain_up 4 (chain_up 3
    (g.operands 3 ts (t ∷ mid) rest a c f (edge h) (up 2 (power_of_left d))
    (g.goes_on (chain 2) 6 a b c f h (edge h) t mid rest rest (Compares compare.Less) refl refl (up 2 (power_of_left e)) (g.no_more (chain 2) 6 c (edge h) rest))))))))

-- a === b
pub same_short : {p q : ℕ} {ts mid rest : List Token} {a b : Expr} {f h : Form} → Reads left ts a f (at p q (m mark.Same) ∷ mid) → Reads left mid b h rest
    → Reads short ts (node.Compare compare.Same a b) (edge h) rest
unfolding infix_of mark_rank rank_by
same_short {p} {q} {ts} {mid} {rest} {a} {b} {f} {h} d e = let c = node.Compare compare.Same a b in let t = at p q (m mark.Same) in
    short_of_chain (chain_up 6 (chain_up 5 (chain_up 4
    (g.operands 4 ts (t ∷ mid) rest a c f (edge h) (up 3 (power_of_left d))
    (g.goes_on (chain 3) 7 a b c f h (edge h) t mid rest rest (Compares compare.Same) refl refl (up 3 (power_of_left e)) (g.no_more (chain 3) 7 c (edge h) rest))))))

pub same : {p q : ℕ} {ts mid rest : List Token} {a b : Expr} {f h : Form} → Reads left ts a f (at p q (m mark.Same) ∷ mid) → Reads left mid b h rest
    → Reads whole ts (node.Compare compare.Same a b) (edge h) rest
same d e = whole_of_short (same_short d e)

-- a ? b : c
pub either : {p q r s : ℕ} {ts mid next rest : List Token} {a b c : Expr} {f h i : Form} → Reads short ts a f (at p q (m mark.Question) ∷ mid)
    → Reads whole mid b h (at r s (m mark.Colon) ∷ next) → Reads whole next c i rest → Reads whole ts (node.Cond a b c) (edge i) rest
either {p} {q} {r} {s} {ts} {mid} {next} {rest} {a} {b} {c} {f} {h} {i} d e k = g.unassigned ts rest (node.Cond a b c) (edge i)
    (g.chosen ts mid next rest (at p q (m mark.Question)) (at r s (m mark.Colon)) a b c f h i d refl e refl k)

-- x = a
pub set : {p q r s : ℕ} {x : List ℕ} {ts rest : List Token} {a : Expr} {f : Form} → Reads whole ts a f rest
    → Reads whole (at p q (name x) ∷ at r s (m mark.Assign) ∷ ts) (node.Assign assign.Set (node.Name x) a) (edge f) rest
unfolding assign_of
set {p} {q} {r} {s} {x} {ts} {rest} {a} {f} d =
    g.assigned (at p q (name x) ∷ at r s (m mark.Assign) ∷ ts) ts rest (at r s (m mark.Assign)) assign.Set (node.Name x) a f a_name refl d

-- ---- statements

-- x = a, up to what follows
declares : {p q r s : ℕ} {x : List ℕ} {ts rest : List Token} {a : Expr} {f : Form} → Reads whole ts a f rest
    → ReadsDecls (at p q (name x) ∷ at r s (m mark.Assign) ∷ ts) (record { name = x; value = value.Value a } ∷ []) f rest
declares {p} {q} {r} {s} {x} {ts} {rest} {a} {f} d = g.last_decl (at p q (name x) ∷ at r s (m mark.Assign) ∷ ts) rest _ f
    (g.decl_value (at p q (name x)) (at r s (m mark.Assign)) ts rest x a f refl refl d)

-- const x = a;
pub a_const : {p q r s t u v z : ℕ} {x : List ℕ} {ts rest : List Token} {a : Expr} {f : Form} → Reads whole ts a f (at v z (m mark.Semicolon) ∷ rest)
    → ReadsItem (at p q (w word.Const) ∷ at r s (name x) ∷ at t u (m mark.Assign) ∷ ts) (stmt.Const (record { name = x; value = value.Value a } ∷ [])) rest
a_const {p} {q} {r} {s} {t} {u} {v} {z} {x} {ts} {rest} {a} {f} d =
    g.const_item (at p q (w word.Const)) (at r s (name x) ∷ at t u (m mark.Assign) ∷ ts) (at v z (m mark.Semicolon) ∷ rest) rest _ f refl (declares d) (written _ rest refl)

-- let x = a;
pub a_let : {p q r s t u v z : ℕ} {x : List ℕ} {ts rest : List Token} {a : Expr} {f : Form} → Reads whole ts a f (at v z (m mark.Semicolon) ∷ rest)
    → ReadsItem (at p q (w word.Let) ∷ at r s (name x) ∷ at t u (m mark.Assign) ∷ ts) (stmt.Let (record { name = x; value = value.Value a } ∷ [])) rest
a_let {p} {q} {r} {s} {t} {u} {v} {z} {x} {ts} {rest} {a} {f} d =
    g.let_item (at p q (w word.Let)) (at r s (name x) ∷ at t u (m mark.Assign) ∷ ts) (at v z (m mark.Semicolon) ∷ rest) rest _ f refl (declares d) (written _ rest refl)

name_no_brace : (x : List ℕ) → kind.Name x ≡ kind.Punctuator mark.OpenBrace → ⊥
name_no_brace x e = cc

name_no_function : (x : List ℕ) → kind.Name x ≡ kind.Reserved word.Function → ⊥
name_no_function x e = cc

-- an expression that begins with a name, and `;`
pub an_expression : {p q v z : ℕ} {x : List ℕ} {ts rest : List Token} {a : Expr} {f : Form} → Reads whole (at p q (name x) ∷ ts) a f (at v z (m mark.Semicolon) ∷ rest)
    → ReadsStmt (at p q (name x) ∷ ts) (stmt.Expr a) rest
an_expression {p} {q} {v} {z} {x} {ts} {rest} {a} {f} d =
    g.expression (at p q (name x) ∷ ts) (at v z (m mark.Semicolon) ∷ rest) rest a f (name_no_brace x) (name_no_function x) d (written _ rest refl)

pub a_return : {p q r s v z : ℕ} {k : TokenKind} {ts rest : List Token} {a : Expr} {f : Form} → Reads whole (at r s k ∷ ts) a f (at v z (m mark.Semicolon) ∷ rest)
    → ReadsStmt (at p q (w word.Return) ∷ at r s k ∷ ts) (stmt.Return (Some a)) rest
a_return {p} {q} {r} {s} {v} {z} {k} {ts} {rest} {a} {f} d =
    g.return_value (at p q (w word.Return)) (at r s k ∷ ts) (at v z (m mark.Semicolon) ∷ rest) rest a f refl refl d (written _ rest refl)

pub a_throw : {p q r s v z : ℕ} {k : TokenKind} {ts rest : List Token} {a : Expr} {f : Form} → Reads whole (at r s k ∷ ts) a f (at v z (m mark.Semicolon) ∷ rest)
    → ReadsStmt (at p q (w word.Throw) ∷ at r s k ∷ ts) (stmt.Throw a) rest
a_throw {p} {q} {r} {s} {v} {z} {k} {ts} {rest} {a} {f} d =
    g.throw (at p q (w word.Throw)) (at r s k ∷ ts) (at v z (m mark.Semicolon) ∷ rest) rest a f refl refl d (written _ rest refl)

-- if (a) s
pub an_if : {p q r s v z : ℕ} {ts mid rest : List Token} {a : Expr} {f : Form} {u : Stmt} → Reads whole ts a f (at v z (m mark.CloseParenthesis) ∷ mid)
    → ReadsStmt mid u rest → NotWord word.Else rest → ReadsStmt (at p q (w word.If) ∷ at r s (m mark.OpenParenthesis) ∷ ts) (stmt.If a u None) rest
an_if {p} {q} {r} {s} {v} {z} {ts} {mid} {rest} {a} {f} {u} d e n =
    g.if_alone (at p q (w word.If)) (at r s (m mark.OpenParenthesis) ∷ ts) mid rest a u refl
    (g.test (at r s (m mark.OpenParenthesis)) (at v z (m mark.CloseParenthesis)) ts mid a f refl d refl) e n

pub ends : {p q : ℕ} {ts : List Token} → ReadsItems (at p q (m mark.CloseBrace) ∷ ts) [] ts
ends {p} {q} {ts} = g.no_items (at p q (m mark.CloseBrace)) ts refl

pub then_item : {ts mid rest : List Token} {s : Stmt} {items : List Stmt} → ReadsItem ts s mid → ReadsItems mid items rest → ReadsItems ts (s ∷ items) rest
then_item {ts} {mid} {rest} {s} {items} d e = g.more_items ts mid rest s items d e

pub then_stmt : {ts mid rest : List Token} {s : Stmt} {items : List Stmt} → ReadsStmt ts s mid → ReadsItems mid items rest → ReadsItems ts (s ∷ items) rest
then_stmt {ts} {mid} {rest} {s} {items} d e = g.more_items ts mid rest s items (g.statement ts mid s d) e

pub a_block : {p q : ℕ} {ts rest : List Token} {items : List Stmt} → ReadsItems ts items rest → ReadsStmt (at p q (m mark.OpenBrace) ∷ ts) (stmt.Block items) rest
a_block {p} {q} {ts} {rest} {items} d = g.block_statement (at p q (m mark.OpenBrace) ∷ ts) rest items (g.block (at p q (m mark.OpenBrace)) ts rest items refl d)

-- let x = a; in the head of a loop
pub from_let : {p q r s t u v z : ℕ} {x : List ℕ} {ts rest : List Token} {a : Expr} {f : Form} → Reads whole ts a f (at v z (m mark.Semicolon) ∷ rest)
    → ReadsHead (at p q (w word.Let) ∷ at r s (name x) ∷ at t u (m mark.Assign) ∷ ts) (head.Let (record { name = x; value = value.Value a } ∷ [])) rest
from_let {p} {q} {r} {s} {t} {u} {v} {z} {x} {ts} {rest} {a} {f} d =
    g.let_head (at p q (w word.Let)) (at v z (m mark.Semicolon)) (at r s (name x) ∷ at t u (m mark.Assign) ∷ ts) rest _ f refl (declares d) refl

pub from_nothing : {p q : ℕ} {ts : List Token} → ReadsHead (at p q (m mark.Semicolon) ∷ ts) head.Nothing ts
from_nothing {p} {q} {ts} = g.no_head (at p q (m mark.Semicolon)) ts refl

-- for (head a; b) s
pub a_for : {p q r s t u v z : ℕ} {ts tested counted turn rest : List Token} {h : ForHead} {a b : Expr} {f i : Form} {y : Stmt} → ReadsHead ts h tested
    → Reads whole tested a f (at t u (m mark.Semicolon) ∷ counted) → Reads whole counted b i (at v z (m mark.CloseParenthesis) ∷ turn) → ReadsStmt turn y rest
    → ReadsStmt (at p q (w word.For) ∷ at r s (m mark.OpenParenthesis) ∷ ts) (stmt.For h (Some a) (Some b) y) rest
a_for {p} {q} {r} {s} {t} {u} {v} {z} {ts} {tested} {counted} {turn} {rest} {h} {a} {b} {f} {i} {y} d e k l =
    g.for_loop (at p q (w word.For)) (at r s (m mark.OpenParenthesis)) ts tested counted turn rest h (Some a) (Some b) y refl refl d
    (g.present mark.Semicolon (at t u (m mark.Semicolon)) tested counted a f e refl) (g.present mark.CloseParenthesis (at v z (m mark.CloseParenthesis)) counted turn b i k refl) l

-- ---- the whole text

pub last_param : {p q r s : ℕ} {x : List ℕ} {ts : List Token} → ReadsNames (at p q (name x) ∷ at r s (m mark.CloseParenthesis) ∷ ts) (x ∷ []) ts
last_param {p} {q} {r} {s} {x} {ts} = last_name (at p q (name x)) (at r s (m mark.CloseParenthesis)) ts x refl refl

pub param : {p q r s : ℕ} {x : List ℕ} {ts rest : List Token} {xs : List (List ℕ)} → ReadsNames ts xs rest → ReadsNames (at p q (name x) ∷ at r s (m mark.Comma) ∷ ts) (x ∷ xs) rest
param {p} {q} {r} {s} {x} {ts} {rest} {xs} d = more_names (at p q (name x)) (at r s (m mark.Comma)) ts rest x xs refl refl d

-- function (params) { items }
pub a_function : {p q r s t u : ℕ} {ts mid rest : List Token} {xs : List (List ℕ)} {items : List Stmt} → ReadsNames ts xs (at t u (m mark.OpenBrace) ∷ mid) → ReadsItems mid items rest
    → ReadsFunction (at p q (w word.Function) ∷ at r s (m mark.OpenParenthesis) ∷ ts) (record { name = None; params = xs; generator = false; body = body.Items items }) rest
a_function {p} {q} {r} {s} {t} {u} {ts} {mid} {rest} {xs} {items} d e = let all = at r s (m mark.OpenParenthesis) ∷ ts in let brace = at t u (m mark.OpenBrace) in
    g.function (at p q (w word.Function)) all (brace ∷ mid) rest _ items refl
    (signature all all all (brace ∷ mid) false None xs (no_star all) (no_name all) (params (at r s (m mark.OpenParenthesis)) ts (brace ∷ mid) xs refl d))
    (g.block brace mid rest items refl e)

-- ---- what the texts often have

-- x.y
pub field : {p q r s t u : ℕ} {x y : List ℕ} {ts : List Token} → Reads left (at p q (name x) ∷ at r s (m mark.Dot) ∷ at t u (name y) ∷ ts) (node.Member (node.Name x) y) Target ts
field = name_then (dot stop)

-- x[y]
pub indexed : {p q r s t u v z : ℕ} {x y : List ℕ} {ts : List Token}
    → Reads left (at p q (name x) ∷ at r s (m mark.OpenBracket) ∷ at t u (name y) ∷ at v z (m mark.CloseBracket) ∷ ts) (node.Index (node.Name x) (node.Name y)) Target ts
indexed = name_then (element (alone a_name) stop)

-- x(args)
pub called : {p q r s : ℕ} {x : List ℕ} {ts rest : List Token} {args : List Expr} → ReadsList mark.CloseParenthesis ts args rest
    → Reads left (at p q (name x) ∷ at r s (m mark.OpenParenthesis) ∷ ts) (node.Call (node.Name x) args) Other rest
called d = name_then (applied d stop)

-- x.y(args)
pub method : {p q r s t u v z : ℕ} {x y : List ℕ} {ts rest : List Token} {args : List Expr} → ReadsList mark.CloseParenthesis ts args rest
    → Reads left (at p q (name x) ∷ at r s (m mark.Dot) ∷ at t u (name y) ∷ at v z (m mark.OpenParenthesis) ∷ ts) (node.Call (node.Member (node.Name x) y) args) Other rest
method d = name_then (dot (applied d stop))
