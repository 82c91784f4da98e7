-- How printed statements are read, from how their parts are.
use Rattle.std.proofs.Common.{◌≡◌, ℕ, Bool, true, false, List, [], ◌∷◌, ◌++◌, Option, Some, None, map, refl, ap, sym, subst, ◌∙◌, append_assoc}
use Rattle.std.specs.Prelude.{codes}
use Rattle.ob_base.specs.declared.reserved.ReservedWord.TheVariants as word
use Rattle.ob_lex.specs.Words.{mark_spelling, marks_of}
use Rattle.ob_lex.specs.declared.punctuator.Punctuator.TheVariants as mark
use Rattle.ob_lex.specs.declared.token.TokenKind.{TokenKind}
use Rattle.ob_lex.specs.declared.token.TokenKind.TheVariants as kind
use Rattle.ob_base.specs.declared.operators.ChangeOp.{ChangeOp}
use Rattle.ob_base.specs.declared.operators.ChangeOp.TheVariants as change
use Rattle.ob_tree_types.specs.declared.tree.Expr.{Expr}
use Rattle.ob_tree_types.specs.declared.tree.Function.{Function}
use Rattle.ob_tree_types.specs.declared.tree.Decl.{Decl}
use Rattle.ob_tree_types.specs.declared.tree.Stmt.{Stmt}
use Rattle.ob_tree_types.specs.declared.tree.Stmt.TheVariants as stmt
use Rattle.ob_tree_types.specs.declared.tree.ForHead.{ForHead}
use Rattle.ob_tree_types.specs.declared.tree.CatchPart.{CatchPart}
use Rattle.ob_tree.specs.Tokens.{Token as Printed_token, Word, Mark}
use Rattle.ob_tree.specs.Print.{Tokens, listed, in_parentheses, ended, change_mark, const_word, for_parts, function_tokens, expr_tokens, decl_tokens, head_tokens, stmt_tokens}
use Rattle.ob_grammar.specs.declared.form.Form.{Form}
use Rattle.ob_grammar.specs.declared.form.Form.TheVariants.{Bare}
use Rattle.ob_grammar.specs.Marks.{change_of, step_of, declares_constant}
use Rattle.ob_grammar.specs.Forms.{Ends, written}
use Rattle.ob_grammar.specs.Grammar.{whole, ReadsItem, ReadsStmt}
use Rattle.ob_grammar.specs.Grammar as g
use Rattle.ob_print_law.proofs.Placed.{kind_of, token, next, placed, Reach, Reader, name_is, open_is, close_is, brace_is, semicolon_is, assign_is, let_is, const_is, function_is, yield_is, mutable_is, if_is, else_is, while_is, do_is, for_is, break_is, continue_is, return_is, throw_is, try_is, catch_is, mark_named}
use Rattle.ob_print_law.proofs.Rows as rows
use Rattle.ob_print_law.proofs.Valid.{Lexes, AllLex, ValidName, lex_append}
use Rattle.ob_print_law.proofs.Rules.{whole_of_left}
use Rattle.ob_print_law.proofs.Operators as op
use Rattle.ob_print_law.proofs.Words as spelt
use Rattle.ob_print_law.proofs.Expressions.{enclosed, enclosed_lexes}
use Rattle.ob_print_law.proofs.Functions.{NotElse, no_else, ItemPrints, EachItem, block_tokens, block_lex, block_read, ValidOwn, FunctionPrints, open_no_brace}
use Rattle.ob_print_law.proofs.Declarations.{Printed, starts_on_line, MayPrint, optional_lexes, optional_reads, test_lexes, test_reads, yield_reads, AllDeclare, HeadPrints, caught_tokens, caught_lexes, caught_reads}

-- the printed tokens of a statement read as that statement, where `else` follows only if it may
pub record StmtAs (MayElse : Type 0) (ps : Tokens) (s : Stmt) : Type 0 where
  pub lexes : AllLex ps
  pub begins : (rest : Tokens) → NotElse (ps ++ rest)
  pub reader : (at : ℕ) (rest : Tokens) → (MayElse → NotElse rest) → Reach (λ ts us. ReadsStmt ts s us) at (ps ++ rest) rest

abbrev pub StmtPrints : Type 0 → Stmt → Type 0
StmtPrints MayElse s = StmtAs MayElse (stmt_tokens s) s

abbrev StmtReader : Stmt → Tokens → Type 0
StmtReader s ps = Reader (λ ts us. ReadsStmt ts s us) ps

-- what follows is all the same
closed_stmt : {E : Type 0} {ps : Tokens} {s : Stmt} → stmt_tokens s ≡ ps → AllLex ps → ((rest : Tokens) → NotElse (ps ++ rest)) → StmtReader s ps → StmtPrints E s
closed_stmt {E} {ps} {s} e v b r = subst (λ ps. StmtAs E ps s) (sym e) (record { lexes = v; begins = b; reader = λ at rest f. r at rest })

open_stmt : {E : Type 0} {ps : Tokens} {s : Stmt} → stmt_tokens s ≡ ps → AllLex ps → ((rest : Tokens) → NotElse (ps ++ rest))
    → ((at : ℕ) (rest : Tokens) → (E → NotElse rest) → Reach (λ ts us. ReadsStmt ts s us) at (ps ++ rest) rest) → StmtPrints E s
open_stmt {E} {ps} {s} e v b r = subst (λ ps. StmtAs E ps s) (sym e) (record { lexes = v; begins = b; reader = r })

end_lexes : (ps : Tokens) → AllLex ps → AllLex (ended ps)
end_lexes ps v = lex_append ps (Mark (codes ";") ∷ []) v (op.semicolon_lexes, tt)

-- behind what ends with `;`
end_split : (ps rest : Tokens) → ended ps ++ rest ≡ ps ++ Mark (codes ";") ∷ rest
end_split ps rest = append_assoc ps (Mark (codes ";") ∷ []) rest

ends_at : (f : Form) (at : ℕ) (rest : Tokens) → Ends f (placed at (Mark (codes ";") ∷ rest)) (placed (next at (Mark (codes ";"))) rest)
ends_at f at rest = written (token at (Mark (codes ";"))) (placed (next at (Mark (codes ";"))) rest) semicolon_is

-- ---- what a statement begins with

open_no_else : kind_of (Mark (codes "(")) ≡ kind.Reserved word.Else → ⊥
open_no_else e = let h = open_is in cc

brace_no_else : kind_of (Mark (codes "{")) ≡ kind.Reserved word.Else → ⊥
brace_no_else e = let h = brace_is in cc

semicolon_no_else : kind_of (Mark (codes ";")) ≡ kind.Reserved word.Else → ⊥
semicolon_no_else e = let h = semicolon_is in cc

name_no_else : (x : List ℕ) → ValidName x → kind_of (Word x) ≡ kind.Reserved word.Else → ⊥
name_no_else x v e = let h = name_is x v.1 in cc

yield_no_else : kind_of (Word (codes "yield")) ≡ kind.Reserved word.Else → ⊥
yield_no_else e = let h = yield_is in cc

mutable_no_else : kind_of (Word (codes "mutable")) ≡ kind.Reserved word.Else → ⊥
mutable_no_else e = let h = mutable_is in cc

if_no_else : kind_of (Word (codes "if")) ≡ kind.Reserved word.Else → ⊥
if_no_else e = let h = if_is in cc

while_no_else : kind_of (Word (codes "while")) ≡ kind.Reserved word.Else → ⊥
while_no_else e = let h = while_is in cc

do_no_else : kind_of (Word (codes "do")) ≡ kind.Reserved word.Else → ⊥
do_no_else e = let h = do_is in cc

for_no_else : kind_of (Word (codes "for")) ≡ kind.Reserved word.Else → ⊥
for_no_else e = let h = for_is in cc

break_no_else : kind_of (Word (codes "break")) ≡ kind.Reserved word.Else → ⊥
break_no_else e = let h = break_is in cc

continue_no_else : kind_of (Word (codes "continue")) ≡ kind.Reserved word.Else → ⊥
continue_no_else e = let h = continue_is in cc

return_no_else : kind_of (Word (codes "return")) ≡ kind.Reserved word.Else → ⊥
return_no_else e = let h = return_is in cc

throw_no_else : kind_of (Word (codes "throw")) ≡ kind.Reserved word.Else → ⊥
throw_no_else e = let h = throw_is in cc

try_no_else : kind_of (Word (codes "try")) ≡ kind.Reserved word.Else → ⊥
try_no_else e = let h = try_is in cc

let_no_else : kind_of (Word (codes "let")) ≡ kind.Reserved word.Else → ⊥
let_no_else e = let h = let_is in cc

const_no_else : kind_of (Word (codes "const")) ≡ kind.Reserved word.Else → ⊥
const_no_else e = let h = const_is in cc

function_no_else : kind_of (Word (codes "function")) ≡ kind.Reserved word.Else → ⊥
function_no_else e = let h = function_is in cc

pub open_no_function : kind_of (Mark (codes "(")) ≡ kind.Reserved word.Function → ⊥
open_no_function e = let h = open_is in cc

-- ---- blocks and expressions

pub block_prints : {E : Type 0} (items : List Stmt) → EachItem items → StmtPrints E (stmt.Block items)
block_prints items h =
    closed_stmt (rows.block_shown items) (block_lex items h) (λ rest. brace_no_else)
    (λ at rest. let i = block_read items h at rest in record { to = i.to; reads = g.block_statement (placed at (block_tokens items ++ rest)) (placed i.to rest) items i.reads })

pub empty_prints : {E : Type 0} → StmtPrints E stmt.Empty
empty_prints = closed_stmt rows.empty_shown (op.semicolon_lexes, tt) (λ rest. semicolon_no_else)
    (λ at rest. record { to = next at (Mark (codes ";")); reads = g.empty (token at (Mark (codes ";"))) (placed (next at (Mark (codes ";"))) rest) semicolon_is })

pub expression_stmt : {E : Type 0} {a : Expr} → Printed a → StmtPrints E (stmt.Expr a)
expression_stmt {E} {a} p =
    let ps = in_parentheses (expr_tokens a) in
    let e = Mark (codes ";") in
    closed_stmt (rows.expr_shown a) (end_lexes ps (enclosed_lexes (expr_tokens a) p.lexes)) (λ rest. open_no_else)
    (λ at rest.
    let i = enclosed (expr_tokens a) p.reader at (e ∷ rest) in
    subst (λ qs. Reach (λ ts us. ReadsStmt ts (stmt.Expr a) us) at qs rest) (sym (end_split ps rest))
    (record {
      to = next i.to e;
      reads = g.expression (placed at (ps ++ e ∷ rest)) (placed i.to (e ∷ rest)) (placed (next i.to e) rest) a i.reads.form open_no_brace open_no_function (whole_of_left i.reads.reads)
          (ends_at i.reads.form i.to rest);
    }))

-- ---- `yield`

pub yielded_prints : {E : Type 0} (a : Option Expr) → Lexes (Word (codes "yield")) → MayPrint a → StmtPrints E (stmt.Yield None a)
yielded_prints a w p =
    let ps = Word (codes "yield") ∷ rows.optional_tokens a in
    let e = Mark (codes ";") in
    closed_stmt (rows.yield_shown None a) (end_lexes ps (w, optional_lexes a p)) (λ rest. yield_no_else)
    (λ at rest.
    let i = yield_reads a p at (e ∷ rest) in
    subst (λ qs. Reach (λ ts us. ReadsStmt ts (stmt.Yield None a) us) at qs rest) (sym (end_split ps rest))
    (record {
      to = next i.to e;
      reads = g.yielded (placed at (ps ++ e ∷ rest)) (placed i.to (e ∷ rest)) (placed (next i.to e) rest) a i.reads.form i.reads.reads (ends_at i.reads.form i.to rest);
    }))

pub yield_assigned_prints : {E : Type 0} (x : List ℕ) (a : Option Expr) → ValidName x → Lexes (Word (codes "yield")) → MayPrint a → StmtPrints E (stmt.Yield (Some x) a)
yield_assigned_prints x a v w p =
    let ps = Word (codes "yield") ∷ rows.optional_tokens a in
    let q = Mark (codes "=") in
    let e = Mark (codes ";") in
    closed_stmt (rows.yield_shown (Some x) a) (end_lexes (Word x ∷ q ∷ ps) (v.0, (op.equals_lexes, (w, optional_lexes a p)))) (λ rest. name_no_else x v)
    (λ at rest.
    let n = next at (Word x) in
    let i = yield_reads a p (next n q) (e ∷ rest) in
    subst (λ qs. Reach (λ ts us. ReadsStmt ts (stmt.Yield (Some x) a) us) at qs rest) (sym (end_split (Word x ∷ q ∷ ps) rest))
    (record {
      to = next i.to e;
      reads = g.yield_assigned (token at (Word x)) (token n q) (placed (next n q) (ps ++ e ∷ rest)) (placed i.to (e ∷ rest)) (placed (next i.to e) rest) x a i.reads.form (name_is x v.1) assign_is i.reads.reads
          (ends_at i.reads.form i.to rest);
    }))

-- ---- changes of mutables

no_up : (k : TokenKind) → change_of k ≡ Some change.Up → ⊥
unfolding change_of
no_up (kind.Punctuator mark.Assign) e = cc
no_up (kind.Punctuator mark.PlusAssign) e = cc
no_up (kind.Punctuator mark.MinusAssign) e = cc
no_up (kind.Punctuator mark.StarAssign) e = cc
no_up _ e = cc

no_down : (k : TokenKind) → change_of k ≡ Some change.Down → ⊥
unfolding change_of
no_down (kind.Punctuator mark.Assign) e = cc
no_down (kind.Punctuator mark.PlusAssign) e = cc
no_down (kind.Punctuator mark.MinusAssign) e = cc
no_down (kind.Punctuator mark.StarAssign) e = cc
no_down _ e = cc

-- the mark of an operator that some token gives
change_again : (k : TokenKind) (o : ChangeOp) → change_of k ≡ Some o → change_of (kind_of (Mark (change_mark o))) ≡ Some o
unfolding change_of mark_named mark_spelling marks_of
change_again k change.Set h = refl
change_again k change.Add h = refl
change_again k change.Sub h = refl
change_again k change.Mul h = refl
change_again k change.Up h = absurd (no_up k h)
change_again k change.Down h = absurd (no_down k h)

up_again : (o : ChangeOp) → Some change.Up ≡ Some o → step_of (kind_of (Mark (change_mark o))) ≡ Some o
unfolding step_of mark_named mark_spelling marks_of
up_again change.Up e = refl
up_again change.Set e = cc
up_again change.Add e = cc
up_again change.Sub e = cc
up_again change.Mul e = cc
up_again change.Down e = cc

down_again : (o : ChangeOp) → Some change.Down ≡ Some o → step_of (kind_of (Mark (change_mark o))) ≡ Some o
unfolding step_of mark_named mark_spelling marks_of
down_again change.Down e = refl
down_again change.Set e = cc
down_again change.Add e = cc
down_again change.Sub e = cc
down_again change.Mul e = cc
down_again change.Up e = cc

step_again : (k : TokenKind) (o : ChangeOp) → step_of k ≡ Some o → step_of (kind_of (Mark (change_mark o))) ≡ Some o
unfolding step_of
step_again (kind.Punctuator mark.PlusPlus) o h = up_again o h
step_again (kind.Punctuator mark.MinusMinus) o h = down_again o h
step_again _ o h = cc

pub changed_prints : {E : Type 0} {a : Expr} (x : List ℕ) (o : ChangeOp) (k : TokenKind) → change_of k ≡ Some o → ValidName x → Printed a → StmtPrints E (stmt.Change x o (Some a))
changed_prints {E} {a} x o k h v p =
    let m = Word (codes "mutable") in
    let q = Mark (change_mark o) in
    let e = Mark (codes ";") in
    closed_stmt (rows.change_shown x o (Some a)) (end_lexes (m ∷ Word x ∷ q ∷ expr_tokens a) (spelt.mutable_lexes, (v.0, (op.change_lexes o, p.lexes)))) (λ rest. mutable_no_else)
    (λ at rest.
    let n = next at m in
    let l = next n (Word x) in
    let i = p.reader (next l q) (e ∷ rest) in
    subst (λ qs. Reach (λ ts us. ReadsStmt ts (stmt.Change x o (Some a)) us) at qs rest) (sym (end_split (m ∷ Word x ∷ q ∷ expr_tokens a) rest))
    (record {
      to = next i.to e;
      reads = g.changed (token at m) (token n (Word x)) (token l q) (placed (next l q) (expr_tokens a ++ e ∷ rest)) (placed i.to (e ∷ rest)) (placed (next i.to e) rest) x o a i.reads.form mutable_is (name_is x v.1)
          (change_again k o h) i.reads.reads (ends_at i.reads.form i.to rest);
    }))

pub stepped_prints : {E : Type 0} (x : List ℕ) (o : ChangeOp) (k : TokenKind) → step_of k ≡ Some o → ValidName x → StmtPrints E (stmt.Change x o None)
stepped_prints x o k h v =
    let m = Word (codes "mutable") in
    let q = Mark (change_mark o) in
    let e = Mark (codes ";") in
    closed_stmt (rows.change_shown x o None) (end_lexes (m ∷ Word x ∷ q ∷ []) (spelt.mutable_lexes, (v.0, (op.change_lexes o, tt)))) (λ rest. mutable_no_else)
    (λ at rest.
    let n = next at m in
    let l = next n (Word x) in
    record {
      to = next (next l q) e;
      reads = g.stepped (token at m) (token n (Word x)) (token l q) (placed (next l q) (e ∷ rest)) (placed (next (next l q) e) rest) x o mutable_is (name_is x v.1) (step_again k o h) refl (ends_at Bare (next l q) rest);
    })

-- ---- `if`

if_split : (p s rest : Tokens) → (p ++ (s ++ [])) ++ rest ≡ p ++ (s ++ rest)
if_split p s rest = append_assoc p (s ++ []) rest ∙ ap (λ l. p ++ l) (append_assoc s [] rest)

pub if_alone_prints : {E : Type 0} {a : Expr} {s : Stmt} → E → Printed a → StmtPrints E s → StmtPrints E (stmt.If a s None)
if_alone_prints {E} {a} {s} alone p q =
    let w = Word (codes "if") in
    let ps = in_parentheses (expr_tokens a) in
    open_stmt (rows.if_alone_shown a s) (spelt.if_lexes, lex_append ps (stmt_tokens s ++ []) (test_lexes p) (lex_append (stmt_tokens s) [] q.lexes tt)) (λ rest. if_no_else)
    (λ at rest f.
    let i = test_reads p (next at w) (stmt_tokens s ++ rest) in
    let j = q.reader i.to rest f in
    subst (λ qs. Reach (λ ts us. ReadsStmt ts (stmt.If a s None) us) at (w ∷ qs) rest) (sym (if_split ps (stmt_tokens s) rest))
    (record {
      to = j.to;
      reads = g.if_alone (token at w) (placed (next at w) (ps ++ (stmt_tokens s ++ rest))) (placed i.to (stmt_tokens s ++ rest)) (placed j.to rest) a s if_is i.reads j.reads (no_else j.to rest (f alone));
    }))

else_split : (p s u rest : Tokens) → (p ++ (s ++ Word (codes "else") ∷ u)) ++ rest ≡ p ++ (s ++ Word (codes "else") ∷ (u ++ rest))
else_split p s u rest = append_assoc p (s ++ Word (codes "else") ∷ u) rest ∙ ap (λ l. p ++ l) (append_assoc s (Word (codes "else") ∷ u) rest)

pub if_else_prints : {E E2 : Type 0} {a : Expr} {s u : Stmt} → (E2 → ⊥) → Printed a → StmtPrints E2 s → StmtPrints E u → StmtPrints E (stmt.If a s (Some u))
if_else_prints {E} {E2} {a} {s} {u} never p q r =
    let w = Word (codes "if") in
    let e = Word (codes "else") in
    let ps = in_parentheses (expr_tokens a) in
    open_stmt (rows.if_else_shown a s u)
    (spelt.if_lexes, lex_append ps (stmt_tokens s ++ e ∷ stmt_tokens u) (test_lexes p) (lex_append (stmt_tokens s) (e ∷ stmt_tokens u) q.lexes (spelt.else_lexes, r.lexes))) (λ rest. if_no_else)
    (λ at rest f.
    let i = test_reads p (next at w) (stmt_tokens s ++ e ∷ (stmt_tokens u ++ rest)) in
    let j = q.reader i.to (e ∷ (stmt_tokens u ++ rest)) (λ h. absurd (never h)) in
    let k = r.reader (next j.to e) rest f in
    subst (λ qs. Reach (λ ts us. ReadsStmt ts (stmt.If a s (Some u)) us) at (w ∷ qs) rest) (sym (else_split ps (stmt_tokens s) (stmt_tokens u) rest))
    (record {
      to = k.to;
      reads = g.if_else (token at w) (token j.to e) (placed (next at w) (ps ++ (stmt_tokens s ++ e ∷ (stmt_tokens u ++ rest)))) (placed i.to (stmt_tokens s ++ e ∷ (stmt_tokens u ++ rest)))
          (placed (next j.to e) (stmt_tokens u ++ rest)) (placed k.to rest) a s u if_is i.reads j.reads else_is k.reads;
    }))

-- ---- loops

pub while_prints : {E : Type 0} {a : Expr} {s : Stmt} → Printed a → StmtPrints E s → StmtPrints E (stmt.While a s)
while_prints {E} {a} {s} p q =
    let w = Word (codes "while") in
    let ps = in_parentheses (expr_tokens a) in
    open_stmt (rows.while_shown a s) (spelt.while_lexes, lex_append ps (stmt_tokens s) (test_lexes p) q.lexes) (λ rest. while_no_else)
    (λ at rest f.
    let i = test_reads p (next at w) (stmt_tokens s ++ rest) in
    let j = q.reader i.to rest f in
    subst (λ qs. Reach (λ ts us. ReadsStmt ts (stmt.While a s) us) at (w ∷ qs) rest) (sym (append_assoc ps (stmt_tokens s) rest))
    (record {
      to = j.to;
      reads = g.while_loop (token at w) (placed (next at w) (ps ++ (stmt_tokens s ++ rest))) (placed i.to (stmt_tokens s ++ rest)) (placed j.to rest) a s while_is i.reads j.reads;
    }))

do_split : (s p rest : Tokens) → ((s ++ (Word (codes "while") ∷ p)) ++ Mark (codes ";") ∷ []) ++ rest ≡ s ++ (Word (codes "while") ∷ (p ++ Mark (codes ";") ∷ rest))
do_split s p rest =
    append_assoc (s ++ (Word (codes "while") ∷ p)) (Mark (codes ";") ∷ []) rest
    ∙ append_assoc s (Word (codes "while") ∷ p) (Mark (codes ";") ∷ rest)

pub do_prints : {E E2 : Type 0} {a : Expr} {s : Stmt} → StmtPrints E2 s → Printed a → StmtPrints E (stmt.DoWhile s a)
do_prints {E} {E2} {a} {s} q p =
    let d = Word (codes "do") in
    let w = Word (codes "while") in
    let e = Mark (codes ";") in
    let ps = in_parentheses (expr_tokens a) in
    closed_stmt (rows.do_shown s a) (end_lexes (d ∷ stmt_tokens s ++ (w ∷ ps)) (spelt.do_lexes, lex_append (stmt_tokens s) (w ∷ ps) q.lexes (spelt.while_lexes, test_lexes p))) (λ rest. do_no_else)
    (λ at rest.
    let i = q.reader (next at d) (w ∷ (ps ++ e ∷ rest)) (λ h. while_no_else) in
    let j = test_reads p (next i.to w) (e ∷ rest) in
    subst (λ qs. Reach (λ ts us. ReadsStmt ts (stmt.DoWhile s a) us) at (d ∷ qs) rest) (sym (do_split (stmt_tokens s) ps rest))
    (record {
      to = next j.to e;
      reads = g.do_loop_ended (token at d) (token i.to w) (token j.to e) (placed (next at d) (stmt_tokens s ++ (w ∷ (ps ++ e ∷ rest)))) (placed (next i.to w) (ps ++ e ∷ rest)) (placed (next j.to e) rest) s a
          do_is i.reads while_is j.reads semicolon_is;
    }))

for_split : (h a b s rest : Tokens) → (in_parentheses (for_parts h a b) ++ s) ++ rest
    ≡ Mark (codes "(") ∷ (h ++ Mark (codes ";") ∷ (a ++ Mark (codes ";") ∷ (b ++ Mark (codes ")") ∷ (s ++ rest))))
for_split h a b s rest =
    let e = Mark (codes ";") in
    let c = Mark (codes ")") in
    append_assoc (in_parentheses (for_parts h a b)) s rest
    ∙ ap (λ l. Mark (codes "(") ∷ l)
    (append_assoc (h ++ (e ∷ a ++ e ∷ b)) (c ∷ []) (s ++ rest) ∙ append_assoc h (e ∷ a ++ e ∷ b) (c ∷ (s ++ rest))
    ∙ ap (λ l. h ++ e ∷ l) (append_assoc a (e ∷ b) (c ∷ (s ++ rest))))

pub for_prints : {E : Type 0} {s : Stmt} (h : ForHead) (a b : Option Expr) → HeadPrints h → MayPrint a → MayPrint b → StmtPrints E s → StmtPrints E (stmt.For h a b s)
for_prints {E} {s} h a b p q r d =
    let w = Word (codes "for") in
    let o = Mark (codes "(") in
    let e = Mark (codes ";") in
    let c = Mark (codes ")") in
    let hs = head_tokens h in
    let xs = rows.optional_tokens a in
    let ys = rows.optional_tokens b in
    open_stmt (rows.for_shown h a b s) (
      spelt.for_lexes,
      lex_append (in_parentheses (for_parts hs xs ys)) (stmt_tokens s)
          (enclosed_lexes (for_parts hs xs ys) (lex_append hs (e ∷ xs ++ e ∷ ys) p.lexes (op.semicolon_lexes, lex_append xs (e ∷ ys) (optional_lexes a q) (op.semicolon_lexes, optional_lexes b r)))) d.lexes,
    )
    (λ rest. for_no_else)
    (λ at rest f.
    let last = stmt_tokens s ++ rest in
    let i = p.reader (next (next at w) o) (xs ++ e ∷ (ys ++ c ∷ last)) in
    let j = optional_reads mark.Semicolon (codes ";") semicolon_is a q i.to (ys ++ c ∷ last) in
    let k = optional_reads mark.CloseParenthesis (codes ")") close_is b r j.to last in
    let l = d.reader k.to rest f in
    subst (λ qs. Reach (λ ts us. ReadsStmt ts (stmt.For h a b s) us) at (w ∷ qs) rest) (sym (for_split hs xs ys (stmt_tokens s) rest))
    (record {
      to = l.to;
      reads = g.for_loop (token at w) (token (next at w) o) (placed (next (next at w) o) (hs ++ e ∷ (xs ++ e ∷ (ys ++ c ∷ last)))) (placed i.to (xs ++ e ∷ (ys ++ c ∷ last))) (placed j.to (ys ++ c ∷ last))
          (placed k.to last) (placed l.to rest) h a b s for_is open_is i.reads j.reads k.reads l.reads;
    }))

constant_is : (b : Bool) → declares_constant (kind_of (Word (const_word b))) ≡ Some b
unfolding declares_constant
constant_is true = ap declares_constant const_is
constant_is false = ap declares_constant let_is

constant_lexes : (b : Bool) → Lexes (Word (const_word b))
constant_lexes true = spelt.const_lexes
constant_lexes false = spelt.let_lexes

for_of_split : (a s rest : Tokens) (x y z : Printed_token) → (in_parentheses (x ∷ y ∷ z ∷ a) ++ s) ++ rest
    ≡ Mark (codes "(") ∷ x ∷ y ∷ z ∷ (a ++ Mark (codes ")") ∷ (s ++ rest))
for_of_split a s rest x y z =
    append_assoc (in_parentheses (x ∷ y ∷ z ∷ a)) s rest ∙ ap (λ l. Mark (codes "(") ∷ x ∷ y ∷ z ∷ l) (append_assoc a (Mark (codes ")") ∷ []) (s ++ rest))

pub for_of_prints : {E : Type 0} {a : Expr} {s : Stmt} (b : Bool) (x : List ℕ) → ValidName x → Printed a → StmtPrints E s → StmtPrints E (stmt.ForOf b x a s)
for_of_prints {E} {a} {s} b x v p q =
    let w = Word (codes "for") in
    let o = Mark (codes "(") in
    let d = Word (const_word b) in
    let f = Word (codes "of") in
    let c = Mark (codes ")") in
    open_stmt (rows.for_of_shown b x a s) (
      spelt.for_lexes,
      lex_append (in_parentheses (d ∷ Word x ∷ f ∷ expr_tokens a)) (stmt_tokens s)
          (enclosed_lexes (d ∷ Word x ∷ f ∷ expr_tokens a) (constant_lexes b, (v.0, (spelt.of_valid.0, p.lexes)))) q.lexes,
    )
    (λ rest. for_no_else)
    (λ at rest else_free.
    let n1 = next at w in
    let n2 = next n1 o in
    let n3 = next n2 d in
    let n4 = next n3 (Word x) in
    let n5 = next n4 f in
    let i = p.reader n5 (c ∷ (stmt_tokens s ++ rest)) in
    let j = q.reader (next i.to c) rest else_free in
    subst (λ qs. Reach (λ ts us. ReadsStmt ts (stmt.ForOf b x a s) us) at (w ∷ qs) rest) (sym (for_of_split (expr_tokens a) (stmt_tokens s) rest d (Word x) f))
    (record {
      to = j.to;
      reads = g.for_of (token at w) (token n1 o) (token n2 d) (token n3 (Word x)) (token n4 f) (token i.to c) (placed n5 (expr_tokens a ++ c ∷ (stmt_tokens s ++ rest))) (placed (next i.to c) (stmt_tokens s ++ rest))
          (placed j.to rest) b x a i.reads.form s for_is open_is (constant_is b) (name_is x v.1) (name_is (codes "of") spelt.of_valid.1) i.reads.reads close_is j.reads;
    }))

-- ---- jumps

pub break_prints : {E : Type 0} → StmtPrints E stmt.Break
break_prints =
    let w = Word (codes "break") in
    let e = Mark (codes ";") in
    closed_stmt rows.break_shown (spelt.break_lexes, (op.semicolon_lexes, tt)) (λ rest. break_no_else)
    (λ at rest. record { to = next (next at w) e; reads = g.break (token at w) (placed (next at w) (e ∷ rest)) (placed (next (next at w) e) rest) break_is (ends_at Bare (next at w) rest) })

pub continue_prints : {E : Type 0} → StmtPrints E stmt.Continue
continue_prints =
    let w = Word (codes "continue") in
    let e = Mark (codes ";") in
    closed_stmt rows.continue_shown (spelt.continue_lexes, (op.semicolon_lexes, tt)) (λ rest. continue_no_else)
    (λ at rest. record { to = next (next at w) e; reads = g.continue (token at w) (placed (next at w) (e ∷ rest)) (placed (next (next at w) e) rest) continue_is (ends_at Bare (next at w) rest) })

pub return_alone_prints : {E : Type 0} → StmtPrints E (stmt.Return None)
return_alone_prints =
    let w = Word (codes "return") in
    let e = Mark (codes ";") in
    closed_stmt (rows.return_shown None) (spelt.return_lexes, (op.semicolon_lexes, tt)) (λ rest. return_no_else)
    (λ at rest. record { to = next (next at w) e; reads = g.return_alone (token at w) (placed (next at w) (e ∷ rest)) (placed (next (next at w) e) rest) return_is (ends_at Bare (next at w) rest) })

pub return_value_prints : {E : Type 0} {a : Expr} → Printed a → StmtPrints E (stmt.Return (Some a))
return_value_prints {E} {a} p =
    let w = Word (codes "return") in
    let e = Mark (codes ";") in
    closed_stmt (rows.return_shown (Some a)) (end_lexes (w ∷ expr_tokens a) (spelt.return_lexes, p.lexes)) (λ rest. return_no_else)
    (λ at rest.
    let i = p.reader (next at w) (e ∷ rest) in
    subst (λ qs. Reach (λ ts us. ReadsStmt ts (stmt.Return (Some a)) us) at qs rest) (sym (end_split (w ∷ expr_tokens a) rest))
    (record {
      to = next i.to e;
      reads = g.return_value (token at w) (placed (next at w) (expr_tokens a ++ e ∷ rest)) (placed i.to (e ∷ rest)) (placed (next i.to e) rest) a i.reads.form return_is
          (starts_on_line (next at w) (expr_tokens a) (e ∷ rest) p.some) i.reads.reads (ends_at i.reads.form i.to rest);
    }))

pub throw_prints : {E : Type 0} {a : Expr} → Printed a → StmtPrints E (stmt.Throw a)
throw_prints {E} {a} p =
    let w = Word (codes "throw") in
    let e = Mark (codes ";") in
    closed_stmt (rows.throw_shown a) (end_lexes (w ∷ expr_tokens a) (spelt.throw_lexes, p.lexes)) (λ rest. throw_no_else)
    (λ at rest.
    let i = p.reader (next at w) (e ∷ rest) in
    subst (λ qs. Reach (λ ts us. ReadsStmt ts (stmt.Throw a) us) at qs rest) (sym (end_split (w ∷ expr_tokens a) rest))
    (record {
      to = next i.to e;
      reads = g.throw (token at w) (placed (next at w) (expr_tokens a ++ e ∷ rest)) (placed i.to (e ∷ rest)) (placed (next i.to e) rest) a i.reads.form throw_is
          (starts_on_line (next at w) (expr_tokens a) (e ∷ rest) p.some) i.reads.reads (ends_at i.reads.form i.to rest);
    }))

-- ---- `try`

abbrev pub CatchPrints : CatchPart → Type 0
CatchPrints p = ValidOwn p.name × EachItem p.items

try_is_shown : (items : List Stmt) (p : CatchPart) → stmt_tokens (stmt.Try items (Some p) None) ≡ Word (codes "try") ∷ block_tokens items ++ (Word (codes "catch") ∷ caught_tokens p.name p.items ++ [])
try_is_shown items p = rows.try_shown items p ∙ ap (λ l. Word (codes "try") ∷ block_tokens items ++ (l ++ [])) (rows.catch_shown p.name p.items)

try_split : (b c rest : Tokens) → (b ++ (Word (codes "catch") ∷ c ++ [])) ++ rest ≡ b ++ (Word (codes "catch") ∷ (c ++ rest))
try_split b c rest = append_assoc b (Word (codes "catch") ∷ c ++ []) rest ∙ ap (λ l. b ++ (Word (codes "catch") ∷ l)) (append_assoc c [] rest)

pub try_prints : {E : Type 0} (items : List Stmt) (p : CatchPart) → EachItem items → CatchPrints p → StmtPrints E (stmt.Try items (Some p) None)
try_prints items p h q =
    let w = Word (codes "try") in
    let c = Word (codes "catch") in
    let b = block_tokens items in
    let l = caught_tokens p.name p.items in
    closed_stmt (try_is_shown items p) (spelt.try_lexes, lex_append b (c ∷ l ++ []) (block_lex items h) (spelt.catch_lexes, lex_append l [] (caught_lexes p.name p.items q.0 q.1) tt)) (λ rest. try_no_else)
    (λ at rest.
    let i = block_read items h (next at w) (c ∷ (l ++ rest)) in
    let j = caught_reads p.name p.items q.0 q.1 (next i.to c) rest in
    subst (λ qs. Reach (λ ts us. ReadsStmt ts (stmt.Try items (Some p) None) us) at (w ∷ qs) rest) (sym (try_split b l rest))
    (record {
      to = j.to;
      reads = g.try_catch (token at w) (token i.to c) (placed (next at w) (b ++ (c ∷ (l ++ rest)))) (placed (next i.to c) (l ++ rest)) (placed j.to rest) items p try_is i.reads catch_is j.reads;
    }))

-- ---- items

pub statement_prints : {E : Type 0} {s : Stmt} → StmtPrints E s → ItemPrints s
statement_prints {E} {s} p = record {
  lexes = p.lexes;
  begins = p.begins;
  reader = λ at rest f. let i = p.reader at rest (λ e. f) in record { to = i.to; reads = g.statement (placed at (stmt_tokens s ++ rest)) (placed i.to rest) s i.reads };
}

-- an item by its tokens
record ItemAs (ps : Tokens) (s : Stmt) : Type 0 where
  lexes : AllLex ps
  begins : (rest : Tokens) → NotElse (ps ++ rest)
  reader : Reader (λ ts us. ReadsItem ts s us) ps

as_item : {ps : Tokens} {s : Stmt} → stmt_tokens s ≡ ps → ItemAs ps s → ItemPrints s
as_item {ps} {s} e p = let q : ItemAs (stmt_tokens s) s = subst (λ ps. ItemAs ps s) (sym e) p in
    record { lexes = q.lexes; begins = q.begins; reader = λ at rest f. q.reader at rest }

pub let_prints : {ds : List Decl} → AllDeclare ds → ItemPrints (stmt.Let ds)
let_prints {ds} p =
    let w = Word (codes "let") in
    let e = Mark (codes ";") in
    let l = listed (map decl_tokens ds) in
    as_item (rows.let_shown ds) (record {
      lexes = end_lexes (w ∷ l) (spelt.let_lexes, p.lexes);
      begins = λ rest. let_no_else;
      reader = λ at rest.
          let i = p.reader (next at w) (e ∷ rest) in
          subst (λ qs. Reach (λ ts us. ReadsItem ts (stmt.Let ds) us) at qs rest) (sym (end_split (w ∷ l) rest))
          (record {
            to = next i.to e;
            reads = g.let_item (token at w) (placed (next at w) (l ++ e ∷ rest)) (placed i.to (e ∷ rest)) (placed (next i.to e) rest) ds i.reads.form let_is i.reads.reads (ends_at i.reads.form i.to rest);
          });
    })

pub const_prints : {ds : List Decl} → AllDeclare ds → ItemPrints (stmt.Const ds)
const_prints {ds} p =
    let w = Word (codes "const") in
    let e = Mark (codes ";") in
    let l = listed (map decl_tokens ds) in
    as_item (rows.const_shown ds) (record {
      lexes = end_lexes (w ∷ l) (spelt.const_lexes, p.lexes);
      begins = λ rest. const_no_else;
      reader = λ at rest.
          let i = p.reader (next at w) (e ∷ rest) in
          subst (λ qs. Reach (λ ts us. ReadsItem ts (stmt.Const ds) us) at qs rest) (sym (end_split (w ∷ l) rest))
          (record {
            to = next i.to e;
            reads = g.const_item (token at w) (placed (next at w) (l ++ e ∷ rest)) (placed i.to (e ∷ rest)) (placed (next i.to e) rest) ds i.reads.form const_is i.reads.reads (ends_at i.reads.form i.to rest);
          });
    })

pub function_item_prints : {f : Function} (x : List ℕ) → f.name ≡ Some x → FunctionPrints f → ItemPrints (stmt.Function f)
function_item_prints {f} x e p = as_item (rows.function_item_shown f) (record {
  lexes = p.lexes;
  begins = λ rest. function_no_else;
  reader = λ at rest.
      let i = p.reader at rest in
      record { to = i.to; reads = g.function_item (placed at ((Word (codes "function") ∷ (function_tokens f).declared) ++ rest)) (placed i.to rest) f x i.reads e };
})
