-- How printed expressions are read, from how their parts are.
use Rattle.std.proofs.Common.{◌≡◌, ℕ, ℤ, Bool, true, false, List, [], ◌∷◌, ◌++◌, Some, refl, ap, sym, subst, ◌∙◌, append_assoc}
use Rattle.std.specs.Prelude.{codes}
use Rattle.ob_base.specs.declared.operators.BinaryOp.{BinaryOp}
use Rattle.ob_base.specs.declared.operators.BinaryOp.TheVariants as binary
use Rattle.ob_base.specs.declared.operators.CompareOp.{CompareOp}
use Rattle.ob_base.specs.declared.operators.CompareOp.TheVariants as compare
use Rattle.ob_base.specs.declared.operators.UnaryOp.{UnaryOp}
use Rattle.ob_base.specs.declared.operators.UnaryOp.TheVariants as unary
use Rattle.ob_lex.specs.declared.token.Token.{Token}
use Rattle.ob_lex.specs.declared.token.TokenKind.TheVariants as kind
use Rattle.ob_base.specs.declared.operators.LogicOp.{LogicOp}
use Rattle.ob_base.specs.declared.operators.LogicOp.TheVariants as logic
use Rattle.ob_base.specs.declared.operators.AssignOp.{AssignOp}
use Rattle.ob_base.specs.declared.operators.UpdateOp.{UpdateOp}
use Rattle.ob_tree_types.specs.declared.tree.Expr.{Expr}
use Rattle.ob_tree_types.specs.declared.tree.Expr.TheVariants as node
use Rattle.ob_tree.specs.Tokens.{Token as Printed, Word, Mark, Number, Quoted}
use Rattle.ob_tree.specs.Print.{Tokens, Shown, binary_mark, compare_mark, logic_mark, assign_mark, update_mark, unary_token, in_parentheses, in_brackets, operand_by, operand, stands, wants, between, shown, expr_tokens}
use Rattle.ob_grammar.specs.declared.form.Form.{Form}
use Rattle.ob_grammar.specs.declared.form.Form.TheVariants.{Target, Other, Updated, Closed, Bare}
use Rattle.ob_grammar.specs.declared.form.Infix.{Infix}
use Rattle.ob_grammar.specs.declared.form.Infix.TheVariants.{Computes, Compares, Chooses}
use Rattle.ob_grammar.specs.Marks.{rank_by, joined, word_of, literal_of, infix_of}
use Rattle.ob_grammar.specs.Forms.{edge}
use Rattle.ob_grammar.specs.Grammar.{Rule, whole, left, Reads}
use Rattle.ob_grammar.specs.Grammar as g
use Rattle.ob_print_law.proofs.Placed.{kind_of, token, next, placed, Reach, Reader, name_is, open_is, close_is, bracket_is, close_bracket_is, dot_is, question_is, colon_is, viewof_is, true_is, false_is, null_is, undefined_is}
use Rattle.ob_print_law.proofs.Rows as rows
use Rattle.ob_print_law.proofs.Valid.{Lexes, AllLex, ValidName, Units, lex_append}
use Rattle.ob_print_law.proofs.Rules.{first, update_of_left, prefixed_of_update, power_of_prefixed, power_of_left, short_of_power, whole_of_power, whole_of_left, infix_reads, coalesce_reads, then_step}
use Rattle.ob_print_law.proofs.Operators as op

-- tokens that a rule reads as an expression, whatever it ends in
pub record ReadsBy (r : Rule) (a : Expr) (ts us : List Token) : Type 0 where
  pub form : Form
  pub reads : Reads r ts a form us

abbrev pub AsTarget : Expr → List Token → List Token → Type 0
AsTarget a ts us = Reads left ts a Target us

abbrev pub IsSome : Tokens → Type 0
IsSome [] = ⊥
IsSome (p ∷ ps) = Unit {0}

-- the printed tokens of an expression read as that expression
pub record PrintsAs (s : Shown) (a : Expr) (f : Form) : Type 0 where
  pub lexes : AllLex s.tokens
  pub some : IsSome s.tokens
  pub at_whole : Reader (ReadsBy whole a) s.tokens
  pub at_left : s.alone ≡ true → Reader (ReadsBy left a) s.tokens
  pub as_target : f ≡ Target → (s.alone ≡ true) × Reader (AsTarget a) s.tokens

abbrev pub Prints : Expr → Form → Type 0
Prints a f = PrintsAs (shown a) a f

-- ---- forms

pub edge_no_target : (f : Form) → edge f ≡ Target → ⊥
edge_no_target Target e = cc
edge_no_target Other e = cc
edge_no_target Updated e = cc
edge_no_target Closed e = cc
edge_no_target Bare e = cc

pub other_no_target : Other ≡ Target → ⊥
other_no_target e = cc

pub updated_no_target : Updated ≡ Target → ⊥
updated_no_target e = cc

-- ---- what stands alone and what does not

lifted : {a : Expr} (ps : Tokens) → Reader (ReadsBy left a) ps → Reader (ReadsBy whole a) ps
lifted ps r at rest = let i = r at rest in record { to = i.to; reads = record { form = i.reads.form; reads = whole_of_left i.reads.reads } }

pub standing : {a : Expr} {f : Form} {ps : Tokens} → AllLex ps → IsSome ps → Reader (ReadsBy left a) ps → (f ≡ Target → ⊥) → PrintsAs (stands ps) a f
standing {a} {f} {ps} v some r unmet = record { lexes = v; some = some; at_whole = lifted ps r; at_left = λ e. r; as_target = λ e. absurd (unmet e) }

pub targeting : {a : Expr} {f : Form} {ps : Tokens} → AllLex ps → IsSome ps → Reader (AsTarget a) ps → PrintsAs (stands ps) a f
targeting {a} {f} {ps} v some r =
    let l : Reader (ReadsBy left a) ps = λ at rest. let i = r at rest in record { to = i.to; reads = record { form = Target; reads = i.reads } } in
    record { lexes = v; some = some; at_whole = lifted ps l; at_left = λ e. l; as_target = λ e. (refl, r) }

no_true : false ≡ true → ⊥
no_true e = cc

pub wanting : {a : Expr} {f : Form} {ps : Tokens} → AllLex ps → IsSome ps → Reader (ReadsBy whole a) ps → (f ≡ Target → ⊥) → PrintsAs (wants ps) a f
wanting v some r unmet = record { lexes = v; some = some; at_whole = r; at_left = λ e. absurd (no_true e); as_target = λ e. absurd (unmet e) }

-- ---- in parentheses

pub some_append : (a b : Tokens) → IsSome a → IsSome (a ++ b)
some_append [] b h = absurd h
some_append (p ∷ ps) b h = tt

pub enclosed : {a : Expr} (ps : Tokens) → Reader (ReadsBy whole a) ps → Reader (ReadsBy left a) (in_parentheses ps)
enclosed {a} ps r at rest =
    let i = r (next at (Mark (codes "("))) (Mark (codes ")") ∷ rest) in
    subst (λ qs. Reach (ReadsBy left a) at (Mark (codes "(") ∷ qs) rest) (sym (append_assoc ps (Mark (codes ")") ∷ []) rest))
    (record {
      to = next i.to (Mark (codes ")"));
      reads = record {
        form = Other;
        reads = first (g.parentheses (token at (Mark (codes "("))) (token i.to (Mark (codes ")")))
            (placed (next at (Mark (codes "("))) (ps ++ Mark (codes ")") ∷ rest)) (placed (next i.to (Mark (codes ")"))) rest) a i.reads.form open_is i.reads.reads close_is);
      };
    })

pub enclosed_lexes : (ps : Tokens) → AllLex ps → AllLex (in_parentheses ps)
enclosed_lexes ps v = (op.open_lexes, lex_append ps (Mark (codes ")") ∷ []) v (op.close_lexes, tt))

-- ---- operands

operand_reader_by : {a : Expr} {f : Form} (s : Shown) (p : PrintsAs s a f) (b : Bool) → s.alone ≡ b → Reader (ReadsBy left a) (operand_by b s.tokens)
operand_reader_by s p true e = p.at_left e
operand_reader_by s p false e = enclosed s.tokens p.at_whole

operand_lexes_by : (s : Shown) → AllLex s.tokens → (b : Bool) → AllLex (operand_by b s.tokens)
operand_lexes_by s v true = v
operand_lexes_by s v false = enclosed_lexes s.tokens v

operand_some_by : (s : Shown) → IsSome s.tokens → (b : Bool) → IsSome (operand_by b s.tokens)
operand_some_by s h true = h
operand_some_by s h false = tt

-- an operand, read as it is printed
pub record Operand (s : Shown) (a : Expr) : Type 0 where
  pub lexes : AllLex (operand s)
  pub some : IsSome (operand s)
  pub reader : Reader (ReadsBy left a) (operand s)

pub as_operand : {s : Shown} {a : Expr} {f : Form} → PrintsAs s a f → Operand s a
as_operand {s} {a} {f} p = record {
  lexes = operand_lexes_by s p.lexes s.alone;
  some = operand_some_by s p.some s.alone;
  reader = operand_reader_by s p s.alone refl;
}

pub target_operand : {s : Shown} {a : Expr} → PrintsAs s a Target → Reader (AsTarget a) (operand s)
target_operand {s} {a} p = let t = p.as_target refl in subst (λ b. Reader (AsTarget a) (operand_by b s.tokens)) (sym t.0) t.1

-- ---- names and literals

pub name_prints : (x : List ℕ) (f : Form) → ValidName x → Prints (node.Name x) f
name_prints x f v = subst (λ s. PrintsAs s (node.Name x) f) (sym (rows.name_shown x))
    (targeting (v.0, tt) tt (λ at rest. record {
      to = next at (Word x);
      reads = first (g.name (token at (Word x)) (placed (next at (Word x)) rest) x (name_is x v.1));
    }))

pub viewof_prints : (x : List ℕ) → ValidName x → Lexes (Word (codes "viewof")) → Prints (node.ViewofName x) Other
viewof_prints x v w = subst (λ s. PrintsAs s (node.ViewofName x) Other) (sym (rows.viewof_shown x))
    (standing (w, (v.0, tt)) tt (λ at rest. let n = next at (Word (codes "viewof")) in record {
      to = next n (Word x);
      reads = record { form = Other; reads = first (g.viewof_name (token at (Word (codes "viewof"))) (token n (Word x)) (placed (next n (Word x)) rest) x viewof_is (name_is x v.1)) };
    }) other_no_target)

-- a literal of one token
literal_as : (a : Expr) (p : Printed) → Lexes p → literal_of (kind_of p) ≡ Some a → PrintsAs (stands (p ∷ [])) a Other
literal_as a p v h = standing (v, tt) tt (λ at rest. record {
  to = next at p;
  reads = record { form = Other; reads = first (g.literal (token at p) (placed (next at p) rest) a h) };
}) other_no_target

int_literal : (n : ℤ) → literal_of (kind.Number n) ≡ Some (node.Int n)
unfolding literal_of
int_literal n = refl

text_literal : (units : List ℕ) → literal_of (kind.Text units) ≡ Some (node.Text units)
unfolding literal_of
text_literal units = refl

pub int_prints : (n : ℤ) → Lexes (Number n) → Prints (node.Int n) Other
int_prints n v = subst (λ s. PrintsAs s (node.Int n) Other) (sym (rows.int_shown n)) (literal_as (node.Int n) (Number n) v (int_literal n))

pub text_prints : (units : List ℕ) → Units units → Prints (node.Text units) Other
text_prints units v = subst (λ s. PrintsAs s (node.Text units) Other) (sym (rows.text_shown units)) (literal_as (node.Text units) (Quoted units) v (text_literal units))

pub true_prints : Lexes (Word (codes "true")) → Prints (node.Bool true) Other
unfolding literal_of
true_prints v = subst (λ s. PrintsAs s (node.Bool true) Other) (sym (rows.bool_shown true)) (literal_as (node.Bool true) (Word (codes "true")) v (ap literal_of true_is))

pub false_prints : Lexes (Word (codes "false")) → Prints (node.Bool false) Other
unfolding literal_of
false_prints v = subst (λ s. PrintsAs s (node.Bool false) Other) (sym (rows.bool_shown false)) (literal_as (node.Bool false) (Word (codes "false")) v (ap literal_of false_is))

pub null_prints : Lexes (Word (codes "null")) → Prints node.Null Other
unfolding literal_of
null_prints v = subst (λ s. PrintsAs s node.Null Other) (sym rows.null_shown) (literal_as node.Null (Word (codes "null")) v (ap literal_of null_is))

pub undefined_prints : Lexes (Word (codes "undefined")) → Prints node.Undefined Other
unfolding literal_of
undefined_prints v = subst (λ s. PrintsAs s node.Undefined Other) (sym rows.undefined_shown) (literal_as node.Undefined (Word (codes "undefined")) v (ap literal_of undefined_is))

-- ---- two operands

-- a mark between two operands, read so
between_as : {s u : Shown} {a b c : Expr} {f : Form} (x : List ℕ) → Lexes (Mark x) → Operand s a → Operand u b
    → ((t : Token) (ts mid rest : List Token) (h i : Form) → t.kind ≡ kind_of (Mark x) → t.break_before ≡ false → Reads left ts a h (t ∷ mid) → Reads left mid b i rest → ReadsBy whole c ts rest)
    → (f ≡ Target → ⊥) → PrintsAs (between x s u) c f
between_as {s} {u} {a} {b} {c} {f} x v p q make unmet =
    wanting (lex_append (operand s) (Mark x ∷ operand u) p.lexes (v, q.lexes)) (some_append (operand s) (Mark x ∷ operand u) p.some)
    (λ at rest.
    let i = p.reader at (Mark x ∷ operand u ++ rest) in
    let j = q.reader (next i.to (Mark x)) rest in
    subst (λ ps. Reach (ReadsBy whole c) at ps rest) (sym (append_assoc (operand s) (Mark x ∷ operand u) rest))
    (record {
      to = j.to;
      reads = make (token i.to (Mark x)) (placed at (operand s ++ (Mark x ∷ operand u ++ rest))) (placed (next i.to (Mark x)) (operand u ++ rest)) (placed j.to rest)
          i.reads.form j.reads.form refl refl i.reads.reads j.reads.reads;
    }))
    unmet

infix_as : {s u : Shown} {a b : Expr} (x : List ℕ) (o : Infix) (f : Form) → op.InfixAt x o → Operand s a → Operand u b → (f ≡ Target → ⊥) → PrintsAs (between x s u) (joined o a b) f
infix_as x o f i p q unmet =
    between_as x i.lexes p q
    (λ t ts mid rest h k e l d1 d2. record {
      form = edge k;
      reads = infix_reads i.left i.level t o i.top (ap (λ b. rank_by b t.kind) l ∙ ap (rank_by false) e ∙ i.rank_is) (ap infix_of e ∙ i.op_is) d1 d2;
    })
    unmet

power_as : {s u : Shown} {a b : Expr} (f : Form) → Operand s a → Operand u b → (f ≡ Target → ⊥) → PrintsAs (between (codes "**") s u) (node.Binary binary.Pow a b) f
power_as {s} {u} {a} {b} f p q unmet =
    between_as (codes "**") op.power_lexes p q
    (λ t ts mid rest h k e l d1 d2. record {
      form = edge k;
      reads = whole_of_power (g.raised ts mid rest t a b h k (update_of_left d1) (e ∙ op.power_is) (power_of_left d2));
    })
    unmet

nullish_as : {s u : Shown} {a b : Expr} (f : Form) → Operand s a → Operand u b → (f ≡ Target → ⊥) → PrintsAs (between (codes "??") s u) (node.Logic logic.Nullish a b) f
nullish_as {s} {u} {a} {b} f p q unmet =
    between_as (codes "??") op.nullish_lexes p q
    (λ t ts mid rest h k e l d1 d2. record {
      form = edge k;
      reads = coalesce_reads t (Chooses logic.Nullish) (ap (λ b. rank_by b t.kind) l ∙ ap (rank_by false) e ∙ op.nullish_rank) (ap infix_of e ∙ op.nullish_op) d1 d2;
    })
    unmet

binary_as : {s u : Shown} {a b : Expr} (o : BinaryOp) (f : Form) → Operand s a → Operand u b → (f ≡ Target → ⊥) → PrintsAs (between (binary_mark o) s u) (node.Binary o a b) f
binary_as binary.Add f p q unmet = infix_as (codes "+") (Computes binary.Add) f op.add_at p q unmet
binary_as binary.Sub f p q unmet = infix_as (codes "-") (Computes binary.Sub) f op.sub_at p q unmet
binary_as binary.Mul f p q unmet = infix_as (codes "*") (Computes binary.Mul) f op.mul_at p q unmet
binary_as binary.Div f p q unmet = infix_as (codes "/") (Computes binary.Div) f op.div_at p q unmet
binary_as binary.Rem f p q unmet = infix_as (codes "%") (Computes binary.Rem) f op.rem_at p q unmet
binary_as binary.Pow f p q unmet = power_as f p q unmet
binary_as binary.BitAnd f p q unmet = infix_as (codes "&") (Computes binary.BitAnd) f op.bit_and_at p q unmet
binary_as binary.BitOr f p q unmet = infix_as (codes "|") (Computes binary.BitOr) f op.bit_or_at p q unmet
binary_as binary.BitXor f p q unmet = infix_as (codes "^") (Computes binary.BitXor) f op.bit_xor_at p q unmet
binary_as binary.Shl f p q unmet = infix_as (codes "<<") (Computes binary.Shl) f op.shl_at p q unmet
binary_as binary.Shr f p q unmet = infix_as (codes ">>") (Computes binary.Shr) f op.shr_at p q unmet
binary_as binary.ShrUnsigned f p q unmet = infix_as (codes ">>>") (Computes binary.ShrUnsigned) f op.shr_unsigned_at p q unmet

compare_as : {s u : Shown} {a b : Expr} (o : CompareOp) (f : Form) → Operand s a → Operand u b → (f ≡ Target → ⊥) → PrintsAs (between (compare_mark o) s u) (node.Compare o a b) f
compare_as compare.Less f p q unmet = infix_as (codes "<") (Compares compare.Less) f op.less_at p q unmet
compare_as compare.Greater f p q unmet = infix_as (codes ">") (Compares compare.Greater) f op.greater_at p q unmet
compare_as compare.LessEq f p q unmet = infix_as (codes "<=") (Compares compare.LessEq) f op.less_eq_at p q unmet
compare_as compare.GreaterEq f p q unmet = infix_as (codes ">=") (Compares compare.GreaterEq) f op.greater_eq_at p q unmet
compare_as compare.Same f p q unmet = infix_as (codes "===") (Compares compare.Same) f op.same_at p q unmet
compare_as compare.NotSame f p q unmet = infix_as (codes "!==") (Compares compare.NotSame) f op.not_same_at p q unmet

logic_as : {s u : Shown} {a b : Expr} (o : LogicOp) (f : Form) → Operand s a → Operand u b → (f ≡ Target → ⊥) → PrintsAs (between (logic_mark o) s u) (node.Logic o a b) f
logic_as logic.And f p q unmet = infix_as (codes "&&") (Chooses logic.And) f op.and_at p q unmet
logic_as logic.Or f p q unmet = infix_as (codes "||") (Chooses logic.Or) f op.or_at p q unmet
logic_as logic.Nullish f p q unmet = nullish_as f p q unmet

pub binary_prints : {a b : Expr} {f h : Form} (o : BinaryOp) (i : Form) → Prints a f → Prints b h → (i ≡ Target → ⊥) → Prints (node.Binary o a b) i
binary_prints {a} {b} o i p q unmet = subst (λ s. PrintsAs s (node.Binary o a b) i) (sym (rows.binary_shown o a b)) (binary_as o i (as_operand p) (as_operand q) unmet)

pub joined_prints : {a b : Expr} {f h : Form} (o : Infix) → Prints a f → Prints b h → Prints (joined o a b) (edge h)
joined_prints {a} {b} {f} {h} (Computes o) p q = binary_prints o (edge h) p q (edge_no_target h)
joined_prints {a} {b} {f} {h} (Compares o) p q =
    subst (λ s. PrintsAs s (node.Compare o a b) (edge h)) (sym (rows.compare_shown o a b)) (compare_as o (edge h) (as_operand p) (as_operand q) (edge_no_target h))
joined_prints {a} {b} {f} {h} (Chooses o) p q =
    subst (λ s. PrintsAs s (node.Logic o a b) (edge h)) (sym (rows.logic_shown o a b)) (logic_as o (edge h) (as_operand p) (as_operand q) (edge_no_target h))

-- ---- one operand

unary_lexes : Lexes (Word (codes "typeof")) → Lexes (Word (codes "void")) → (o : UnaryOp) → Lexes (unary_token o)
unary_lexes t v unary.Not = op.not_lexes
unary_lexes t v unary.Minus = op.minus_lexes
unary_lexes t v unary.Plus = op.plus_lexes
unary_lexes t v unary.BitNot = op.tilde_lexes
unary_lexes t v unary.Typeof = t
unary_lexes t v unary.Void = v

unary_as : {s : Shown} {a : Expr} (o : UnaryOp) (f : Form) → Lexes (unary_token o) → Operand s a → (f ≡ Target → ⊥) → PrintsAs (wants (unary_token o ∷ operand s)) (node.Unary o a) f
unary_as {s} {a} o f v p unmet =
    wanting (v, p.lexes) tt
    (λ at rest.
    let i = p.reader (next at (unary_token o)) rest in
    record {
      to = i.to;
      reads = record {
        form = edge i.reads.form;
        reads = whole_of_power (power_of_prefixed (g.signed (token at (unary_token o)) (placed (next at (unary_token o)) (operand s ++ rest)) (placed i.to rest) o a i.reads.form (op.unary_op o)
            (prefixed_of_update (update_of_left i.reads.reads))));
      };
    })
    unmet

pub unary_prints : {a : Expr} {f : Form} (o : UnaryOp) → Lexes (Word (codes "typeof")) → Lexes (Word (codes "void")) → Prints a f → Prints (node.Unary o a) (edge f)
unary_prints {a} {f} o t v p =
    subst (λ s. PrintsAs s (node.Unary o a) (edge f)) (sym (rows.unary_shown o a)) (unary_as o (edge f) (unary_lexes t v o) (as_operand p) (edge_no_target f))

whole_of_update : {ts us : List Token} {a : Expr} {f : Form} → Reads g.update ts a f us → Reads whole ts a f us
whole_of_update d = whole_of_power (power_of_prefixed (prefixed_of_update d))

pub before_prints : {a : Expr} (o : UpdateOp) → Prints a Target → Prints (node.Update o true a) Other
before_prints {a} o p = subst (λ s. PrintsAs s (node.Update o true a) Other) (sym (rows.update_before_shown o a))
    (wanting (op.update_lexes o, (as_operand p).lexes) tt
    (λ at rest.
    let n = next at (Mark (update_mark o)) in
    let i = target_operand p n rest in
    record {
      to = i.to;
      reads = record {
        form = Other;
        reads = whole_of_update (g.counted_before (token at (Mark (update_mark o))) (placed n (operand (shown a) ++ rest)) (placed i.to rest) o a (op.update_op o) i.reads);
      };
    })
    other_no_target)

pub behind_prints : {a : Expr} (o : UpdateOp) → Prints a Target → Prints (node.Update o false a) Updated
behind_prints {a} o p = subst (λ s. PrintsAs s (node.Update o false a) Updated) (sym (rows.update_behind_shown o a))
    (wanting (lex_append (operand (shown a)) (Mark (update_mark o) ∷ []) (as_operand p).lexes (op.update_lexes o, tt)) (some_append (operand (shown a)) (Mark (update_mark o) ∷ []) (as_operand p).some)
    (λ at rest.
    let i = target_operand p at (Mark (update_mark o) ∷ rest) in
    subst (λ ps. Reach (ReadsBy whole (node.Update o false a)) at ps rest) (sym (append_assoc (operand (shown a)) (Mark (update_mark o) ∷ []) rest))
    (record {
      to = next i.to (Mark (update_mark o));
      reads = record {
        form = Updated;
        reads = whole_of_update (g.counted_behind (placed at (operand (shown a) ++ Mark (update_mark o) ∷ rest)) (placed (next i.to (Mark (update_mark o))) rest) (token i.to (Mark (update_mark o))) o a
            i.reads (op.update_op o) refl);
      };
    }))
    updated_no_target)

-- ---- assignments and choices

pub assign_prints : {a b : Expr} {f : Form} (o : AssignOp) → Prints a Target → Prints b f → Prints (node.Assign o a b) (edge f)
assign_prints {a} {b} {f} o p q = subst (λ s. PrintsAs s (node.Assign o a b) (edge f)) (sym (rows.assign_shown o a b))
    (let x = assign_mark o in
    let v = as_operand q in
    wanting (lex_append (operand (shown a)) (Mark x ∷ operand (shown b)) (as_operand p).lexes (op.assign_lexes o, v.lexes)) (some_append (operand (shown a)) (Mark x ∷ operand (shown b)) (as_operand p).some)
    (λ at rest.
    let i = target_operand p at (Mark x ∷ operand (shown b) ++ rest) in
    let j = v.reader (next i.to (Mark x)) rest in
    subst (λ ps. Reach (ReadsBy whole (node.Assign o a b)) at ps rest) (sym (append_assoc (operand (shown a)) (Mark x ∷ operand (shown b)) rest))
    (record {
      to = j.to;
      reads = record {
        form = edge j.reads.form;
        reads = g.assigned (placed at (operand (shown a) ++ (Mark x ∷ operand (shown b) ++ rest))) (placed (next i.to (Mark x)) (operand (shown b) ++ rest)) (placed j.to rest) (token i.to (Mark x)) o a b
            j.reads.form i.reads (op.assign_op o) (whole_of_left j.reads.reads);
      };
    }))
    (edge_no_target f))

cond_split : (a b c rest : Tokens) → (a ++ (Mark (codes "?") ∷ b ++ Mark (codes ":") ∷ c)) ++ rest ≡ a ++ (Mark (codes "?") ∷ (b ++ Mark (codes ":") ∷ (c ++ rest)))
cond_split a b c rest =
    append_assoc a (Mark (codes "?") ∷ b ++ Mark (codes ":") ∷ c) rest ∙ ap (λ qs. a ++ (Mark (codes "?") ∷ qs)) (append_assoc b (Mark (codes ":") ∷ c) rest)

pub cond_prints : {a b c : Expr} {f h i : Form} → Prints a f → Prints b h → Prints c i → Prints (node.Cond a b c) (edge i)
cond_prints {a} {b} {c} {f} {h} {i} p q r = subst (λ s. PrintsAs s (node.Cond a b c) (edge i)) (sym (rows.cond_shown a b c))
    (let u = as_operand p in
    let v = as_operand q in
    let w = as_operand r in
    let ask = Mark (codes "?") in
    let or = Mark (codes ":") in
    wanting (lex_append (operand (shown a)) (ask ∷ operand (shown b) ++ or ∷ operand (shown c)) u.lexes (op.question_lexes, lex_append (operand (shown b)) (or ∷ operand (shown c)) v.lexes (op.colon_lexes, w.lexes)))
    (some_append (operand (shown a)) (ask ∷ operand (shown b) ++ or ∷ operand (shown c)) u.some)
    (λ at rest.
    let k = u.reader at (ask ∷ (operand (shown b) ++ or ∷ (operand (shown c) ++ rest))) in
    let l = v.reader (next k.to ask) (or ∷ (operand (shown c) ++ rest)) in
    let m = w.reader (next l.to or) rest in
    subst (λ ps. Reach (ReadsBy whole (node.Cond a b c)) at ps rest) (sym (cond_split (operand (shown a)) (operand (shown b)) (operand (shown c)) rest))
    (record {
      to = m.to;
      reads = record {
        form = edge m.reads.form;
        reads = g.unassigned (placed at (operand (shown a) ++ (ask ∷ (operand (shown b) ++ or ∷ (operand (shown c) ++ rest))))) (placed m.to rest) (node.Cond a b c) (edge m.reads.form)
            (g.chosen (placed at (operand (shown a) ++ (ask ∷ (operand (shown b) ++ or ∷ (operand (shown c) ++ rest))))) (placed (next k.to ask) (operand (shown b) ++ or ∷ (operand (shown c) ++ rest)))
            (placed (next l.to or) (operand (shown c) ++ rest)) (placed m.to rest) (token k.to ask) (token l.to or) a b c k.reads.form l.reads.form m.reads.form
            (short_of_power (power_of_left k.reads.reads)) question_is (whole_of_left l.reads.reads) colon_is (whole_of_left m.reads.reads));
      };
    }))
    (edge_no_target i))

-- ---- members and indices

pub member_prints : {a : Expr} {f : Form} (x : List ℕ) → Prints a f → Lexes (Word x) → word_of (kind_of (Word x)) ≡ Some x → Prints (node.Member a x) Target
member_prints {a} {f} x p v w = subst (λ s. PrintsAs s (node.Member a x) Target) (sym (rows.member_shown a x))
    (let u = as_operand p in
    let dot = Mark (codes ".") in
    targeting (lex_append (operand (shown a)) (dot ∷ Word x ∷ []) u.lexes (op.dot_lexes, (v, tt))) (some_append (operand (shown a)) (dot ∷ Word x ∷ []) u.some)
    (λ at rest.
    let i = u.reader at (dot ∷ Word x ∷ rest) in
    let n = next i.to dot in
    subst (λ ps. Reach (AsTarget (node.Member a x)) at ps rest) (sym (append_assoc (operand (shown a)) (dot ∷ Word x ∷ []) rest))
    (record {
      to = next n (Word x);
      reads = then_step i.reads.reads
          (g.member a (node.Member a x) i.reads.form Target (token i.to dot) (token n (Word x)) x (placed (next n (Word x)) rest) (placed (next n (Word x)) rest) dot_is w
          (g.no_step (node.Member a x) Target (placed (next n (Word x)) rest)));
    })))

index_split : (a k rest : Tokens) → (a ++ in_brackets k) ++ rest ≡ a ++ (Mark (codes "[") ∷ (k ++ Mark (codes "]") ∷ rest))
index_split a k rest = append_assoc a (in_brackets k) rest ∙ ap (λ qs. a ++ (Mark (codes "[") ∷ qs)) (append_assoc k (Mark (codes "]") ∷ []) rest)

pub index_prints : {a k : Expr} {f h : Form} → Prints a f → Prints k h → Prints (node.Index a k) Target
index_prints {a} {k} {f} {h} p q = subst (λ s. PrintsAs s (node.Index a k) Target) (sym (rows.index_shown a k))
    (let u = as_operand p in
    let o = Mark (codes "[") in
    let c = Mark (codes "]") in
    targeting (lex_append (operand (shown a)) (in_brackets (expr_tokens k)) u.lexes (op.bracket_lexes, lex_append (expr_tokens k) (c ∷ []) q.lexes (op.close_bracket_lexes, tt)))
    (some_append (operand (shown a)) (in_brackets (expr_tokens k)) u.some)
    (λ at rest.
    let i = u.reader at (o ∷ (expr_tokens k ++ c ∷ rest)) in
    let j = q.at_whole (next i.to o) (c ∷ rest) in
    subst (λ ps. Reach (AsTarget (node.Index a k)) at ps rest) (sym (index_split (operand (shown a)) (expr_tokens k) rest))
    (record {
      to = next j.to c;
      reads = then_step i.reads.reads
          (g.index a (node.Index a k) k i.reads.form Target j.reads.form (token i.to o) (token j.to c) (placed (next i.to o) (expr_tokens k ++ c ∷ rest)) (placed (next j.to c) rest) (placed (next j.to c) rest)
          bracket_is j.reads.reads close_bracket_is (g.no_step (node.Index a k) Target (placed (next j.to c) rest)));
    })))
