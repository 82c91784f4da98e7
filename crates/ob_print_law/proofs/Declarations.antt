-- How printed declarations, `yield` and what may be missing are read, from how their parts are.
use Rattle.std.proofs.Common.{◌≡◌, ℕ, List, [], ◌∷◌, ◌++◌, Option, Some, None, map, refl, ap, sym, subst, ◌∙◌, append_assoc}
use Rattle.std.specs.Prelude.{codes}
use Rattle.ob_lex.specs.declared.punctuator.Punctuator.{Punctuator}
use Rattle.ob_lex.specs.declared.token.Token.{Token}
use Rattle.ob_lex.specs.declared.token.TokenKind.TheVariants as kind
use Rattle.ob_tree_types.specs.declared.tree.Expr.{Expr}
use Rattle.ob_tree_types.specs.declared.tree.Decl.{Decl}
use Rattle.ob_tree_types.specs.declared.tree.DeclValue.TheVariants as value
use Rattle.ob_tree_types.specs.declared.tree.ForHead.{ForHead}
use Rattle.ob_tree_types.specs.declared.tree.ForHead.TheVariants as head
use Rattle.ob_tree_types.specs.declared.tree.Stmt.{Stmt}
use Rattle.ob_tree.specs.Tokens.{Word, Mark}
use Rattle.ob_tree.specs.Print.{Tokens, listed, in_parentheses, catch_name, expr_tokens, decl_tokens, head_tokens}
use Rattle.ob_grammar.specs.declared.form.Form.{Form}
use Rattle.ob_grammar.specs.declared.form.Form.TheVariants.{Closed, Bare}
use Rattle.ob_grammar.specs.Marks.{StartsOnLine}
use Rattle.ob_grammar.specs.Grammar.{whole, Reads, ReadsDecls, ReadsDecl, ReadsYield, ReadsTest, ReadsHead, ReadsOptional, ReadsCatch}
use Rattle.ob_grammar.specs.Grammar as g
use Rattle.ob_print_law.proofs.Placed.{kind_of, token, next, placed, Reach, Reader, name_is, open_is, close_is, comma_is, semicolon_is, assign_is, let_is, const_is, yield_is}
use Rattle.ob_print_law.proofs.Rows as rows
use Rattle.ob_print_law.proofs.Valid.{Lexes, AllLex, ValidName, lex_append}
use Rattle.ob_print_law.proofs.Operators as op
use Rattle.ob_print_law.proofs.Expressions.{ReadsBy, IsSome, Prints, enclosed_lexes}
use Rattle.ob_print_law.proofs.Listed.{rest_of, listed_is}
use Rattle.ob_print_law.proofs.Functions.{EachItem, block_tokens, block_lex, block_read, ValidOwn}

-- ---- an expression, with what its form is left open

-- the printed tokens of an expression read as that expression
pub record Printed (a : Expr) : Type 0 where
  pub lexes : AllLex (expr_tokens a)
  pub some : IsSome (expr_tokens a)
  pub reader : Reader (ReadsBy whole a) (expr_tokens a)

pub printed : {a : Expr} {f : Form} → Prints a f → Printed a
printed p = record { lexes = p.lexes; some = p.some; reader = p.at_whole }

pub starts_on_line : (at : ℕ) (ps rest : Tokens) → IsSome ps → StartsOnLine (placed at (ps ++ rest))
starts_on_line at [] rest h = absurd h
starts_on_line at (p ∷ ps) rest h = refl

abbrev pub MayPrint : Option Expr → Type 0
MayPrint None = Unit {0}
MayPrint (Some a) = Printed a

pub optional_lexes : (a : Option Expr) → MayPrint a → AllLex (rows.optional_tokens a)
optional_lexes None h = tt
optional_lexes (Some a) h = h.lexes

pub optional_reads : (close : Punctuator) (x : List ℕ) → kind_of (Mark x) ≡ kind.Punctuator close → (a : Option Expr) → MayPrint a → (at : ℕ) (rest : Tokens)
    → Reach (λ ts us. ReadsOptional close ts a us) at (rows.optional_tokens a ++ Mark x ∷ rest) rest
optional_reads close x e None h at rest = record { to = next at (Mark x); reads = g.absent close (token at (Mark x)) (placed (next at (Mark x)) rest) e }
optional_reads close x e (Some a) h at rest =
    let i = h.reader at (Mark x ∷ rest) in
    record { to = next i.to (Mark x); reads = g.present close (token i.to (Mark x)) (placed at (expr_tokens a ++ Mark x ∷ rest)) (placed (next i.to (Mark x)) rest) a i.reads.form i.reads.reads e }

-- "(" Expr ")"
pub test_lexes : {a : Expr} → Printed a → AllLex (in_parentheses (expr_tokens a))
test_lexes {a} p = enclosed_lexes (expr_tokens a) p.lexes

pub test_reads : {a : Expr} → Printed a → Reader (λ ts us. ReadsTest ts a us) (in_parentheses (expr_tokens a))
test_reads {a} p at rest =
    let o = Mark (codes "(") in
    let c = Mark (codes ")") in
    let i = p.reader (next at o) (c ∷ rest) in
    subst (λ ps. Reach (λ ts us. ReadsTest ts a us) at (o ∷ ps) rest) (sym (append_assoc (expr_tokens a) (c ∷ []) rest))
    (record {
      to = next i.to c;
      reads = g.test (token at o) (token i.to c) (placed (next at o) (expr_tokens a ++ c ∷ rest)) (placed (next i.to c) rest) a i.reads.form open_is i.reads.reads close_is;
    })

-- ---- `yield`

pub record YieldsBy (a : Option Expr) (ts us : List Token) : Type 0 where
  pub form : Form
  pub reads : ReadsYield ts a form us

pub yield_reads : (a : Option Expr) → MayPrint a → Reader (YieldsBy a) (Word (codes "yield") ∷ rows.optional_tokens a)
yield_reads None h at rest = record {
  to = next at (Word (codes "yield"));
  reads = record { form = Bare; reads = g.yield_alone (token at (Word (codes "yield"))) (placed (next at (Word (codes "yield"))) rest) yield_is };
}
yield_reads (Some a) h at rest =
    let n = next at (Word (codes "yield")) in
    let i = h.reader n rest in
    record {
      to = i.to;
      reads = record {
        form = i.reads.form;
        reads = g.yield_value (token at (Word (codes "yield"))) (placed n (expr_tokens a ++ rest)) (placed i.to rest) a i.reads.form yield_is (starts_on_line n (expr_tokens a) rest h.some) i.reads.reads;
      };
    }

-- ---- declarations

pub record DeclaresBy (d : Decl) (ts us : List Token) : Type 0 where
  pub form : Form
  pub reads : ReadsDecl ts d form us

pub record AllDeclareBy (ds : List Decl) (ts us : List Token) : Type 0 where
  pub form : Form
  pub reads : ReadsDecls ts ds form us

-- the printed tokens of a declaration read as that declaration
abbrev pub DeclPrints : Decl → Type 0
DeclPrints d = AllLex (decl_tokens d) × Reader (DeclaresBy d) (decl_tokens d)

pub name_decl : (x : List ℕ) → ValidName x → DeclPrints (record { name = x; value = value.Nothing })
name_decl x v = (
  subst AllLex (sym (rows.nothing_shown x)) (v.0, tt),
  subst (Reader (DeclaresBy (record { name = x; value = value.Nothing }))) (sym (rows.nothing_shown x))
      (λ at rest. record { to = next at (Word x); reads = record { form = Closed; reads = g.decl_name (token at (Word x)) (placed (next at (Word x)) rest) x (name_is x v.1) } }),
)

pub value_decl : (x : List ℕ) (a : Expr) → ValidName x → Printed a → DeclPrints (record { name = x; value = value.Value a })
value_decl x a v p = (
  subst AllLex (sym (rows.value_shown x a)) (v.0, (op.equals_lexes, p.lexes)),
  subst (Reader (DeclaresBy (record { name = x; value = value.Value a }))) (sym (rows.value_shown x a))
      (λ at rest.
      let n = next at (Word x) in
      let q = Mark (codes "=") in
      let i = p.reader (next n q) rest in
      record {
        to = i.to;
        reads = record {
          form = i.reads.form;
          reads = g.decl_value (token at (Word x)) (token n q) (placed (next n q) (expr_tokens a ++ rest)) (placed i.to rest) x a i.reads.form (name_is x v.1) assign_is i.reads.reads;
        };
      }),
)

pub yield_decl : (x : List ℕ) (a : Option Expr) → ValidName x → Lexes (Word (codes "yield")) → MayPrint a → DeclPrints (record { name = x; value = value.Yield a })
yield_decl x a v w p = (
  subst AllLex (sym (rows.yield_value_shown x a)) (v.0, (op.equals_lexes, (w, optional_lexes a p))),
  subst (Reader (DeclaresBy (record { name = x; value = value.Yield a }))) (sym (rows.yield_value_shown x a))
      (λ at rest.
      let n = next at (Word x) in
      let q = Mark (codes "=") in
      let i = yield_reads a p (next n q) rest in
      record {
        to = i.to;
        reads = record {
          form = i.reads.form;
          reads = g.decl_yield (token at (Word x)) (token n q) (placed (next n q) (Word (codes "yield") ∷ rows.optional_tokens a ++ rest)) (placed i.to rest) x a i.reads.form (name_is x v.1) assign_is i.reads.reads;
        };
      }),
)

-- one declaration and more
pub record AllDeclare (ds : List Decl) : Type 0 where
  pub lexes : AllLex (listed (map decl_tokens ds))
  pub reader : Reader (AllDeclareBy ds) (listed (map decl_tokens ds))

pub last_declares : {d : Decl} → DeclPrints d → AllDeclare (d ∷ [])
last_declares {d} p = record {
  lexes = subst AllLex (sym (listed_is (decl_tokens d) [])) (lex_append (decl_tokens d) [] p.0 tt);
  reader = subst (Reader (AllDeclareBy (d ∷ []))) (sym (listed_is (decl_tokens d) []))
      (λ at rest.
      let i = p.1 at rest in
      subst (λ ps. Reach (AllDeclareBy (d ∷ [])) at ps rest) (sym (append_assoc (decl_tokens d) [] rest))
      (record { to = i.to; reads = record { form = i.reads.form; reads = g.last_decl (placed at (decl_tokens d ++ rest)) (placed i.to rest) d i.reads.form i.reads.reads } }));
}

rest_is : (d : Decl) (ds : List Decl) → rest_of (map decl_tokens (d ∷ ds)) ≡ Mark (codes ",") ∷ listed (map decl_tokens (d ∷ ds))
rest_is d ds = ap (λ l. Mark (codes ",") ∷ l) (sym (listed_is (decl_tokens d) (map decl_tokens ds)))

more_is : (d e : Decl) (ds : List Decl) → listed (map decl_tokens (d ∷ e ∷ ds)) ≡ decl_tokens d ++ Mark (codes ",") ∷ listed (map decl_tokens (e ∷ ds))
more_is d e ds = listed_is (decl_tokens d) (map decl_tokens (e ∷ ds)) ∙ ap (λ l. decl_tokens d ++ l) (rest_is e ds)

more_declare_by : (d e : Decl) (ds : List Decl) → DeclPrints d → AllDeclare (e ∷ ds) → AllDeclare (d ∷ e ∷ ds)
more_declare_by d e ds p q =
    let comma = Mark (codes ",") in
    let others = listed (map decl_tokens (e ∷ ds)) in
    record {
      lexes = subst AllLex (sym (more_is d e ds)) (lex_append (decl_tokens d) (comma ∷ others) p.0 (op.comma_lexes, q.lexes));
      reader = subst (Reader (AllDeclareBy (d ∷ e ∷ ds))) (sym (more_is d e ds))
          (λ at rest.
          let i = p.1 at (comma ∷ (others ++ rest)) in
          let j = q.reader (next i.to comma) rest in
          subst (λ ps. Reach (AllDeclareBy (d ∷ e ∷ ds)) at ps rest) (sym (append_assoc (decl_tokens d) (comma ∷ others) rest))
          (record {
            to = j.to;
            reads = record {
              form = j.reads.form;
              reads = g.more_decls (token i.to comma) (placed at (decl_tokens d ++ comma ∷ (others ++ rest))) (placed (next i.to comma) (others ++ rest)) (placed j.to rest) d (e ∷ ds)
                  i.reads.form j.reads.form i.reads.reads comma_is j.reads.reads;
            };
          }));
    }

no_declaration : {ts us : List Token} {f : Form} → ReadsDecls ts [] f us → ⊥
no_declaration d = elim d [ ]

pub more_declare : {d : Decl} {ds : List Decl} {ts us : List Token} {f : Form} → ReadsDecls ts ds f us → DeclPrints d → AllDeclare ds → AllDeclare (d ∷ ds)
more_declare {d} {ds = []} r p q = absurd (no_declaration r)
more_declare {d} {ds = e ∷ ds} r p q = more_declare_by d e ds p q

-- ---- the head of a `for`

-- the printed tokens of a head read as that head, before a `;`
pub record HeadPrints (h : ForHead) : Type 0 where
  pub lexes : AllLex (head_tokens h)
  pub reader : (at : ℕ) (rest : Tokens) → Reach (λ ts us. ReadsHead ts h us) at (head_tokens h ++ Mark (codes ";") ∷ rest) rest

pub no_head_prints : HeadPrints head.Nothing
no_head_prints = record {
  lexes = subst AllLex (sym rows.no_head_shown) tt;
  reader = λ at rest. subst (λ ps. Reach (λ ts us. ReadsHead ts head.Nothing us) at (ps ++ Mark (codes ";") ∷ rest) rest) (sym rows.no_head_shown)
      (record { to = next at (Mark (codes ";")); reads = g.no_head (token at (Mark (codes ";"))) (placed (next at (Mark (codes ";"))) rest) semicolon_is });
}

pub let_head_prints : {ds : List Decl} → Lexes (Word (codes "let")) → AllDeclare ds → HeadPrints (head.Let ds)
let_head_prints {ds} w p = record {
  lexes = subst AllLex (sym (rows.let_head_shown ds)) (w, p.lexes);
  reader = λ at rest. subst (λ ps. Reach (λ ts us. ReadsHead ts (head.Let ds) us) at (ps ++ Mark (codes ";") ∷ rest) rest) (sym (rows.let_head_shown ds))
      (let n = next at (Word (codes "let")) in
      let e = Mark (codes ";") in
      let i = p.reader n (e ∷ rest) in
      record {
        to = next i.to e;
        reads = g.let_head (token at (Word (codes "let"))) (token i.to e) (placed n (listed (map decl_tokens ds) ++ e ∷ rest)) (placed (next i.to e) rest) ds i.reads.form let_is i.reads.reads semicolon_is;
      });
}

pub const_head_prints : {ds : List Decl} → Lexes (Word (codes "const")) → AllDeclare ds → HeadPrints (head.Const ds)
const_head_prints {ds} w p = record {
  lexes = subst AllLex (sym (rows.const_head_shown ds)) (w, p.lexes);
  reader = λ at rest. subst (λ ps. Reach (λ ts us. ReadsHead ts (head.Const ds) us) at (ps ++ Mark (codes ";") ∷ rest) rest) (sym (rows.const_head_shown ds))
      (let n = next at (Word (codes "const")) in
      let e = Mark (codes ";") in
      let i = p.reader n (e ∷ rest) in
      record {
        to = next i.to e;
        reads = g.const_head (token at (Word (codes "const"))) (token i.to e) (placed n (listed (map decl_tokens ds) ++ e ∷ rest)) (placed (next i.to e) rest) ds i.reads.form const_is i.reads.reads semicolon_is;
      });
}

pub expr_head_prints : {a : Expr} → Printed a → HeadPrints (head.Expr a)
expr_head_prints {a} p = record {
  lexes = subst AllLex (sym (rows.expr_head_shown a)) p.lexes;
  reader = λ at rest. subst (λ ps. Reach (λ ts us. ReadsHead ts (head.Expr a) us) at (ps ++ Mark (codes ";") ∷ rest) rest) (sym (rows.expr_head_shown a))
      (let e = Mark (codes ";") in
      let i = p.reader at (e ∷ rest) in
      record { to = next i.to e; reads = g.expr_head (token i.to e) (placed at (expr_tokens a ++ e ∷ rest)) (placed (next i.to e) rest) a i.reads.form i.reads.reads semicolon_is });
}

-- ---- the part behind `catch`

-- the name in parentheses and the block
abbrev pub caught_tokens : Option (List ℕ) → List Stmt → Tokens
caught_tokens x items = catch_name x ++ block_tokens items

pub caught_lexes : (x : Option (List ℕ)) (items : List Stmt) → ValidOwn x → EachItem items → AllLex (caught_tokens x items)
caught_lexes None items v h = block_lex items h
caught_lexes (Some x) items v h = (op.open_lexes, (v.0, (op.close_lexes, block_lex items h)))

pub caught_reads : (x : Option (List ℕ)) (items : List Stmt) → ValidOwn x → EachItem items
    → Reader (λ ts us. ReadsCatch ts (record { name = x; items = items }) us) (caught_tokens x items)
caught_reads None items v h at rest =
    let i = block_read items h at rest in record { to = i.to; reads = g.catch_all (placed at (block_tokens items ++ rest)) (placed i.to rest) items i.reads }
caught_reads (Some x) items v h at rest =
    let o = Mark (codes "(") in
    let c = Mark (codes ")") in
    let n = next at o in
    let m = next n (Word x) in
    let i = block_read items h (next m c) rest in
    record {
      to = i.to;
      reads = g.catch_name (token at o) (token n (Word x)) (token m c) (placed (next m c) (block_tokens items ++ rest)) (placed i.to rest) x items open_is (name_is x v.1) close_is i.reads;
    }
