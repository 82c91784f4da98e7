-- A text that begins with `function` and reads as a function expression as a whole is that function.
use Rattle.std.proofs.Common.{◌≡◌, ℕ, zero, suc, ◌+◌, ◌≤◌, List, ◌∷◌, Bool, true, false, Option, Some, None, refl, sym, subst, ap, ◌∙◌, rules, arith}
use Rattle.ob_base.specs.declared.operators.BinaryOp.{BinaryOp}
use Rattle.ob_base.specs.declared.operators.CompareOp.{CompareOp}
use Rattle.ob_base.specs.declared.operators.UnaryOp.{UnaryOp}
use Rattle.ob_base.specs.declared.operators.BinaryOp.TheVariants.{Pow}
use Rattle.ob_lex.specs.declared.punctuator.Punctuator.{Punctuator}
use Rattle.ob_lex.specs.declared.punctuator.Punctuator.TheVariants as mark
use Rattle.ob_base.specs.declared.reserved.ReservedWord.TheVariants as word
use Rattle.ob_lex.specs.declared.token.Token.{Token}
use Rattle.ob_lex.specs.declared.token.TokenKind.{TokenKind}
use Rattle.ob_lex.specs.declared.token.TokenKind.TheVariants as kind
use Rattle.ob_base.specs.declared.operators.AssignOp.{AssignOp}
use Rattle.ob_base.specs.declared.operators.LogicOp.{LogicOp}
use Rattle.ob_base.specs.declared.operators.UpdateOp.{UpdateOp}
use Rattle.ob_tree_types.specs.declared.tree.CatchPart.{CatchPart}
use Rattle.ob_tree_types.specs.declared.tree.Decl.{Decl}
use Rattle.ob_tree_types.specs.declared.tree.DeclValue.{DeclValue}
use Rattle.ob_tree_types.specs.declared.tree.DeclValue.TheOpen as layer
use Rattle.ob_tree_types.specs.declared.tree.Expr.{Expr, out-Expr, the_lemmas}
use Rattle.ob_tree_types.specs.declared.tree.Expr.TheVariants as node
use Rattle.ob_tree_types.specs.declared.tree.FnBody.{FnBody}
use Rattle.ob_tree_types.specs.declared.tree.ForHead.{ForHead}
use Rattle.ob_tree_types.specs.declared.tree.Function.{Function}
use Rattle.ob_tree_types.specs.declared.tree.PropNode.{PropNode}
use Rattle.ob_tree_types.specs.declared.tree.Stmt.{Stmt}
use Rattle.ob_grammar.specs.Marks.{IsWord, literal_of, joined}
use Rattle.ob_grammar.specs.declared.form.Form.{Form}
use Rattle.ob_grammar.specs.declared.form.Form.TheVariants.{Other}
use Rattle.ob_grammar.specs.declared.form.Infix.{Infix}
use Rattle.ob_grammar.specs.declared.form.Infix.TheVariants.{Computes, Compares, Chooses}
use Rattle.ob_grammar.specs.Grammar.{Rule, whole, chain, power, Reads, Continues, Steps, ReadsFunction}
use Rattle.ob_grammar.specs.Grammar.{arrow, assigned, unassigned, chosen, unchosen, disjoined, coalesced, operands, unraised, raised, signed, unsigned, counted_before, counted_behind, uncounted, steps, literal, name, viewof_name, made, parentheses, array, object, function_expression, no_more, goes_on, no_step, member, index, call}
use Rattle.ob_grammar.proofs.Heads.{kinds_meet}
use Rattle.ob_grammar.proofs.Need.{need, need_function}
use Rattle.ob_grammar.proofs.Tall.{tall, tall_function}

-- the function that an expression is
abbrev pub function_in : layer.Expr-F DeclValue Expr FnBody ForHead PropNode Stmt CatchPart Decl Function → Option Function
function_in (layer.Expr::Function g) = Some g
function_in _ = None

abbrev pub as_function : Expr → Option Function
as_function a = function_in (out-Expr a)

pub function_as : (g : Function) → as_function (node.Function g) ≡ Some g
function_as g = search (rules, the_lemmas)

arrow_as : (h : Function) → as_function (node.Arrow h) ≡ None
arrow_as h = search (rules, the_lemmas)

assign_as : (op : AssignOp) (a b : Expr) → as_function (node.Assign op a b) ≡ None
assign_as op a b = search (rules, the_lemmas)

cond_as : (a b c : Expr) → as_function (node.Cond a b c) ≡ None
cond_as a b c = search (rules, the_lemmas)

binary_as : (op : BinaryOp) (a b : Expr) → as_function (node.Binary op a b) ≡ None
binary_as op a b = search (rules, the_lemmas)

compare_as : (op : CompareOp) (a b : Expr) → as_function (node.Compare op a b) ≡ None
compare_as op a b = search (rules, the_lemmas)

logic_as : (op : LogicOp) (a b : Expr) → as_function (node.Logic op a b) ≡ None
logic_as op a b = search (rules, the_lemmas)

unary_as : (op : UnaryOp) (a : Expr) → as_function (node.Unary op a) ≡ None
unary_as op a = search (rules, the_lemmas)

update_as : (op : UpdateOp) (b : Bool) (a : Expr) → as_function (node.Update op b a) ≡ None
update_as op b a = search (rules, the_lemmas)

member_as : (a : Expr) (x : List ℕ) → as_function (node.Member a x) ≡ None
member_as a x = search (rules, the_lemmas)

index_as : (a b : Expr) → as_function (node.Index a b) ≡ None
index_as a b = search (rules, the_lemmas)

call_as : (a : Expr) (args : List Expr) → as_function (node.Call a args) ≡ None
call_as a args = search (rules, the_lemmas)

joined_as : (op : Infix) (a b : Expr) → as_function (joined op a b) ≡ None
joined_as (Computes op) a b = binary_as op a b
joined_as (Compares op) a b = compare_as op a b
joined_as (Chooses op) a b = logic_as op a b

no_function : (a : Expr) (g : Function) → as_function a ≡ None → as_function a ≡ Some g → ⊥
no_function a g h e = cc

-- ---- what goes on with a function is none

record Same (a b : Expr) (ts rest : List Token) : Type 0 where
  tree : b ≡ a
  tokens : rest ≡ ts

same_continues : {r : Rule} {n : ℕ} {a : Expr} {f : Form} {ts : List Token} {b : Expr} {g : Form} {rest : List Token} → Continues r n a f ts b g rest
    → (h : Function) → as_function b ≡ Some h → Same a b ts rest
same_continues (no_more r n a f ts) h e = record { tree = refl; tokens = refl }
same_continues (goes_on r n a b c f g i t ts mid rest op h1 h2 d1 d2) h e =
    let s = same_continues d2 h e in absurd (no_function (joined op a b) h (joined_as op a b) (sym (ap as_function s.tree) ∙ e))

same_steps : {a : Expr} {f : Form} {ts : List Token} {b : Expr} {g : Form} {rest : List Token} → Steps a f ts b g rest
    → (h : Function) → as_function b ≡ Some h → Same a b ts rest
same_steps (no_step a f ts) h e = record { tree = refl; tokens = refl }
same_steps (member a b f g t n x ts rest h1 h2 d1) h e =
    let s = same_steps d1 h e in absurd (no_function (node.Member a x) h (member_as a x) (sym (ap as_function s.tree) ∙ e))
same_steps (index a b k f g i t c ts mid rest h1 d1 h2 d2) h e =
    let s = same_steps d2 h e in absurd (no_function (node.Index a k) h (index_as a k) (sym (ap as_function s.tree) ∙ e))
same_steps (call a b f g t args ts mid rest h1 d1 d2) h e =
    let s = same_steps d2 h e in absurd (no_function (node.Call a args) h (call_as a args) (sym (ap as_function s.tree) ∙ e))

-- ---- no other primary begins with the word

literal_no_function : (k : TokenKind) (a : Expr) → literal_of k ≡ Some a → k ≡ kind.Reserved word.Function → ⊥
unfolding literal_of
literal_no_function k a h e = let w = ap literal_of e in cc

mark_no_function : (m : Punctuator) → kind.Punctuator m ≡ kind.Reserved word.Function → ⊥
mark_no_function m e = cc

name_no_function : (x : List ℕ) → kind.Name x ≡ kind.Reserved word.Function → ⊥
name_no_function x e = cc

viewof_no_function : kind.Reserved word.Viewof ≡ kind.Reserved word.Function → ⊥
viewof_no_function e = cc

new_no_function : kind.Reserved word.New ≡ kind.Reserved word.Function → ⊥
new_no_function e = cc

some_function : (g h : Function) (o : Option Function) → o ≡ Some g → o ≡ Some h → g ≡ h
some_function g h o e w = cc

from_same : {ts mid rest : List Token} (g : Function) → rest ≡ mid → ReadsFunction ts g mid → ReadsFunction ts g rest
from_same {ts = ts} g e d = subst (ReadsFunction ts g) (sym e) d

pub function_reads : {r : Rule} {all : List Token} {a : Expr} {f : Form} {rest : List Token} → Reads r all a f rest → (t : Token) (ts : List Token) → all ≡ t ∷ ts
    → IsWord word.Function t → (g : Function) → as_function a ≡ Some g → ReadsFunction all g rest
function_reads (arrow all mid rest u xs b f h1 h2 h3 d1) t ts e hx g w = absurd (no_function _ g (arrow_as _) w)
function_reads (assigned all mid rest u op a b f d1 h1 d2) t ts e hx g w = absurd (no_function _ g (assign_as op a b) w)
function_reads (unassigned all rest a f d1) t ts e hx g w = function_reads d1 t ts e hx g w
function_reads (chosen all next second rest q c a b d f g h d1 h1 d2 h2 d3) t ts e hx k w = absurd (no_function _ k (cond_as a b d) w)
function_reads (unchosen all rest a f d1) t ts e hx g w = function_reads d1 t ts e hx g w
function_reads (disjoined all rest a f d1) t ts e hx g w = function_reads d1 t ts e hx g w
function_reads (coalesced all mid rest one a f g d1 d2) t ts e hx k w =
    let s = same_continues d2 k w in from_same k s.tokens (function_reads d1 t ts e hx k (sym (ap as_function s.tree) ∙ w))
function_reads (operands n all mid rest one a f g d1 d2) t ts e hx k w =
    let s = same_continues d2 k w in from_same k s.tokens (function_reads d1 t ts e hx k (sym (ap as_function s.tree) ∙ w))
function_reads (unraised all rest a f d1) t ts e hx g w = function_reads d1 t ts e hx g w
function_reads (raised all mid rest u a b f g d1 h1 d2) t ts e hx k w = absurd (no_function _ k (binary_as Pow a b) w)
function_reads (signed u us rest op a f h1 d1) t ts e hx g w = absurd (no_function _ g (unary_as op a) w)
function_reads (unsigned all rest a f d1) t ts e hx g w = function_reads d1 t ts e hx g w
function_reads (counted_before u us rest op a h1 d1) t ts e hx g w = absurd (no_function _ g (update_as op true a) w)
function_reads (counted_behind all rest u op a d1 h1 h2) t ts e hx g w = absurd (no_function _ g (update_as op false a) w)
function_reads (uncounted all rest a f d1) t ts e hx g w = function_reads d1 t ts e hx g w
function_reads (steps all mid rest one a f g d1 d2) t ts e hx k w =
    let s = same_steps d2 k w in from_same k s.tokens (function_reads d1 t ts e hx k (sym (ap as_function s.tree) ∙ w))
function_reads (literal u us a h1) t ts e hx g w = absurd (literal_no_function u.kind a h1 (kinds_meet u.kind _ e refl hx))
function_reads (name u us y h1) t ts e hx g w = absurd (name_no_function y (kinds_meet _ _ e h1 hx))
function_reads (viewof_name u n us y h1 h2) t ts e hx g w = absurd (viewof_no_function (kinds_meet _ _ e h1 hx))
function_reads (made u n p us rest y args h1 h2 h3 d1) t ts e hx g w = absurd (new_no_function (kinds_meet _ _ e h1 hx))
function_reads (parentheses u c us rest a f h1 d1 h2) t ts e hx g w = absurd (mark_no_function mark.OpenParenthesis (kinds_meet _ _ e h1 hx))
function_reads (array u us rest items h1 d1) t ts e hx g w = absurd (mark_no_function mark.OpenBracket (kinds_meet _ _ e h1 hx))
function_reads (object u us rest props h1 d1) t ts e hx g w = absurd (mark_no_function mark.OpenBrace (kinds_meet _ _ e h1 hx))
function_reads (function_expression all rest h d1) t ts e hx g w =
    subst (λ (k : Function). ReadsFunction all k rest) (some_function h g _ (function_as h) w) d1

-- ---- a function is an expression

pub up : (k : ℕ) {ts : List Token} {a : Expr} {f : Form} {rest : List Token} → Reads power ts a f rest → Reads (chain k) ts a f rest
up zero {ts = ts} {a = a} {f = f} {rest = rest} d = operands 0 ts rest rest a a f f d (no_more power 3 a f rest)
up (suc k) {ts = ts} {a = a} {f = f} {rest = rest} d = operands (suc k) ts rest rest a a f f (up k d) (no_more (chain k) (suc k + 3) a f rest)

need_up : (k : ℕ) {ts : List Token} {a : Expr} {f : Form} {rest : List Token} (d : Reads power ts a f rest) → need (up k d) ≤ need d
unfolding up
need_up zero d = omega arith
need_up (suc k) d = omega (arith, need_up k d)

tall_up : (k : ℕ) {ts : List Token} {a : Expr} {f : Form} {rest : List Token} (d : Reads power ts a f rest) → tall (up k d) ≤ tall d
unfolding up
tall_up zero d = omega arith
tall_up (suc k) d = omega (arith, tall_up k d)

-- a function, with nothing behind it, as an operand
abbrev function_power : {ts : List Token} {g : Function} {rest : List Token} → ReadsFunction ts g rest → Reads power ts (node.Function g) Other rest
function_power {ts = ts} {g = g} {rest = rest} d = unraised ts rest (node.Function g) Other (unsigned ts rest (node.Function g) Other (uncounted ts rest (node.Function g) Other
    (steps ts rest rest (node.Function g) (node.Function g) Other Other (function_expression ts rest g d) (no_step (node.Function g) Other rest))))

abbrev pub function_whole : {ts : List Token} {g : Function} {rest : List Token} → ReadsFunction ts g rest → Reads whole ts (node.Function g) Other rest
function_whole {ts = ts} {g = g} {rest = rest} d = unassigned ts rest (node.Function g) Other (unchosen ts rest (node.Function g) Other
    (coalesced ts rest rest (node.Function g) (node.Function g) Other Other (up 7 (function_power d)) (no_more (chain 7) 13 (node.Function g) Other rest)))

pub need_whole : {ts : List Token} {g : Function} {rest : List Token} (d : ReadsFunction ts g rest) → need (function_whole d) ≤ need_function d
need_whole d = let q = need_up 7 (function_power d) in omega arith

pub tall_whole : {ts : List Token} {g : Function} {rest : List Token} (d : ReadsFunction ts g rest) → tall (function_whole d) ≤ tall_function d
tall_whole d = let q = tall_up 7 (function_power d) in omega arith
