-- From rule to rule of the grammar.
use Rattle.std.proofs.Common.{◌≡◌, ℕ, zero, suc, ◌+◌, List, ◌∷◌, Some, subst}
use Rattle.ob_lex.specs.declared.token.Token.{Token}
use Rattle.ob_tree_types.specs.declared.tree.Expr.{Expr}
use Rattle.ob_grammar.specs.declared.form.Form.{Form}
use Rattle.ob_grammar.specs.declared.form.Infix.{Infix}
use Rattle.ob_grammar.specs.Marks.{rank, joined, infix_of}
use Rattle.ob_grammar.specs.Forms.{edge}
use Rattle.ob_grammar.specs.Grammar.{Rule, whole, short, chain, power, prefixed, update, left, primary, tighter, Reads, Steps, steps, no_step, member, index, call}
use Rattle.ob_grammar.specs.Grammar as g
use Rattle.ob_grammar.proofs.FunctionTexts.{up}

pub first : {ts rest : List Token} {a : Expr} {f : Form} → Reads primary ts a f rest → Reads left ts a f rest
first {ts} {rest} {a} {f} d = g.steps ts rest rest a a f f d (no_step a f rest)

pub update_of_left : {ts rest : List Token} {a : Expr} {f : Form} → Reads left ts a f rest → Reads update ts a f rest
update_of_left {ts} {rest} {a} {f} d = g.uncounted ts rest a f d

pub prefixed_of_update : {ts rest : List Token} {a : Expr} {f : Form} → Reads update ts a f rest → Reads prefixed ts a f rest
prefixed_of_update {ts} {rest} {a} {f} d = g.unsigned ts rest a f d

pub power_of_prefixed : {ts rest : List Token} {a : Expr} {f : Form} → Reads prefixed ts a f rest → Reads power ts a f rest
power_of_prefixed {ts} {rest} {a} {f} d = g.unraised ts rest a f d

pub power_of_left : {ts rest : List Token} {a : Expr} {f : Form} → Reads left ts a f rest → Reads power ts a f rest
power_of_left d = power_of_prefixed (prefixed_of_update (update_of_left d))

pub short_of_power : {ts rest : List Token} {a : Expr} {f : Form} → Reads power ts a f rest → Reads short ts a f rest
short_of_power {ts} {rest} {a} {f} d = g.disjoined ts rest a f (up 9 d)

pub whole_of_short : {ts rest : List Token} {a : Expr} {f : Form} → Reads short ts a f rest → Reads whole ts a f rest
whole_of_short {ts} {rest} {a} {f} d = g.unassigned ts rest a f (g.unchosen ts rest a f d)

pub whole_of_power : {ts rest : List Token} {a : Expr} {f : Form} → Reads power ts a f rest → Reads whole ts a f rest
whole_of_power d = whole_of_short (short_of_power d)

pub whole_of_left : {ts rest : List Token} {a : Expr} {f : Form} → Reads left ts a f rest → Reads whole ts a f rest
whole_of_left d = whole_of_power (power_of_left d)

-- ---- operators between two operands

below : (k : ℕ) {ts rest : List Token} {a : Expr} {f : Form} → Reads power ts a f rest → Reads (tighter k) ts a f rest
below zero d = d
below (suc k) d = up k d

abbrev pub climbed : ℕ → ℕ → ℕ
climbed zero k = k
climbed (suc j) k = climbed j (suc k)

climb : (j k : ℕ) {ts rest : List Token} {a : Expr} {f : Form} → Reads (chain k) ts a f rest → Reads (chain (climbed j k)) ts a f rest
climb zero k d = d
climb (suc j) k {ts} {rest} {a} {f} d = climb j (suc k) (g.operands (suc k) ts rest rest a a f f d (g.no_more (chain k) (suc k + 3) a f rest))

-- two operands and an operator of a rank below that of `??`
pub infix_reads : (j k : ℕ) {ts mid rest : List Token} {a b : Expr} {f h : Form} (t : Token) (op : Infix) → climbed j k ≡ 9 → rank t ≡ k + 3
    → infix_of t.kind ≡ Some op → Reads left ts a f (t ∷ mid) → Reads left mid b h rest → Reads whole ts (joined op a b) (edge h) rest
infix_reads j k {ts} {mid} {rest} {a} {b} {f} {h} t op top hr ho d e =
    let c = joined op a b in
    let more = g.goes_on (tighter k) (k + 3) a b c f h (edge h) t mid rest rest op hr ho (below k (power_of_left e)) (g.no_more (tighter k) (k + 3) c (edge h) rest) in
    let low : Reads (chain k) ts c (edge h) rest = g.operands k ts (t ∷ mid) rest a c f (edge h) (below k (power_of_left d)) more in
    whole_of_short (g.disjoined ts rest c (edge h) (subst (λ n. Reads (chain n) ts c (edge h) rest) top (climb j k low)))

-- two operands and `??`
pub coalesce_reads : {ts mid rest : List Token} {a b : Expr} {f h : Form} (t : Token) (op : Infix) → rank t ≡ 13
    → infix_of t.kind ≡ Some op → Reads left ts a f (t ∷ mid) → Reads left mid b h rest → Reads whole ts (joined op a b) (edge h) rest
coalesce_reads {ts} {mid} {rest} {a} {b} {f} {h} t op hr ho d e =
    let c = joined op a b in
    let more = g.goes_on (chain 7) 13 a b c f h (edge h) t mid rest rest op hr ho (up 7 (power_of_left e)) (g.no_more (chain 7) 13 c (edge h) rest) in
    whole_of_short (g.coalesced ts (t ∷ mid) rest a c f (edge h) (up 7 (power_of_left d)) more)

-- ---- what goes on with an operand

after_steps : {a b c : Expr} {f h i : Form} {ts mid rest : List Token} → Steps a f ts b h mid → Steps b h mid c i rest → Steps a f ts c i rest
after_steps (no_step a f ts) e = e
after_steps (member a b f h t n x ts rest h1 h2 d) e = member a _ f _ t n x ts _ h1 h2 (after_steps d e)
after_steps (index a b k f h i t c ts mid rest h1 d h2 d2) e = index a _ k f _ i t c ts mid _ h1 d h2 (after_steps d2 e)
after_steps (call a b f h t args ts mid rest h1 d d2) e = call a _ f _ t args ts mid _ h1 d (after_steps d2 e)

pub then_step : {a b : Expr} {f h : Form} {ts mid rest : List Token} → Reads left ts a f mid → Steps a f mid b h rest → Reads left ts b h rest
then_step (steps ts mid rest one a f h d s) e = g.steps ts mid _ one _ f _ d (after_steps s e)
