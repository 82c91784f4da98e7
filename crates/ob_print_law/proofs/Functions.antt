-- How printed blocks, functions and objects are read, from how their parts are.
use Rattle.std.proofs.Common.{◌≡◌, ℕ, Bool, true, false, List, [], ◌∷◌, ◌++◌, Option, Some, None, map, refl, ap, sym, subst, ◌∙◌, append_assoc}
use Rattle.std.specs.Prelude.{codes}
use Rattle.ob_base.specs.declared.reserved.ReservedWord.TheVariants as word
use Rattle.ob_lex.specs.declared.punctuator.Punctuator.TheVariants as mark
use Rattle.ob_lex.specs.declared.token.Token.{Token}
use Rattle.ob_lex.specs.declared.token.TokenKind.TheVariants as kind
use Rattle.ob_tree_types.specs.declared.tree.Expr.{Expr}
use Rattle.ob_tree_types.specs.declared.tree.Expr.TheVariants as node
use Rattle.ob_tree_types.specs.declared.tree.PropNode.{PropNode}
use Rattle.ob_tree_types.specs.declared.tree.PropNode.TheVariants as prop
use Rattle.ob_tree_types.specs.declared.tree.Function.{Function}
use Rattle.ob_tree_types.specs.declared.tree.FnBody.{FnBody}
use Rattle.ob_tree_types.specs.declared.tree.FnBody.TheVariants as body
use Rattle.ob_tree_types.specs.declared.tree.Stmt.{Stmt}
use Rattle.ob_tree.specs.Tokens.{Word, Mark, key_token}
use Rattle.ob_tree.specs.Print.{Tokens, listed, joined, name_if_there, star_if, in_parentheses, in_brackets, in_braces, params_tokens, wants, expr_tokens, prop_tokens, stmt_tokens, body_tokens, function_tokens}
use Rattle.ob_grammar.specs.declared.form.Form.{Form}
use Rattle.ob_grammar.specs.declared.form.Form.TheVariants.{Target, Other, Closed}
use Rattle.ob_grammar.specs.declared.piece.Signature.{Signature}
use Rattle.ob_grammar.specs.Marks.{NotWord, key_of}
use Rattle.ob_grammar.specs.Forms.{edge}
use Rattle.ob_grammar.specs.Lists.{ReadsStar, star, no_star, ReadsOwnName, own_name, no_name, signature, all_params}
use Rattle.ob_grammar.specs.Grammar.{whole, left, Reads, ReadsProps, ReadsProp, ReadsArrowBody, ReadsFunction, ReadsBlock, ReadsItems, ReadsItem, ReadsStmt, arrow_function, function_of}
use Rattle.ob_grammar.specs.Grammar as g
use Rattle.ob_print_law.proofs.Placed.{kind_of, token, next, placed, Reach, Reader, name_is, open_is, bracket_is, close_bracket_is, brace_is, close_brace_is, comma_is, colon_is, arrow_is, star_is, function_is}
use Rattle.ob_print_law.proofs.Rows as rows
use Rattle.ob_print_law.proofs.Valid.{Lexes, AllLex, ValidName, lex_append}
use Rattle.ob_print_law.proofs.Rules.{first, whole_of_left}
use Rattle.ob_print_law.proofs.Operators as op
use Rattle.ob_print_law.proofs.Expressions.{ReadsBy, IsSome, PrintsAs, Prints, wanting, enclosed, enclosed_lexes, other_no_target}
use Rattle.ob_print_law.proofs.Listed.{Lister, Each, list_reads, listed_lexes, ValidNames, params_lex, params_read}

-- ---- items

-- what stands there does not begin with `else`
abbrev pub NotElse : Tokens → Type 0
NotElse [] = Unit {0}
NotElse (p ∷ ps) = kind_of p ≡ kind.Reserved word.Else → ⊥

pub no_else : (at : ℕ) (rest : Tokens) → NotElse rest → NotWord word.Else (placed at rest)
no_else at [] h = tt
no_else at (p ∷ ps) h = h

-- a statement or declaration, before what does not begin with `else`
pub record ItemPrints (s : Stmt) : Type 0 where
  pub lexes : AllLex (stmt_tokens s)
  pub begins : (rest : Tokens) → NotElse (stmt_tokens s ++ rest)
  pub reader : (at : ℕ) (rest : Tokens) → NotElse rest → Reach (λ ts us. ReadsItem ts s us) at (stmt_tokens s ++ rest) rest

abbrev pub EachItem : List Stmt → Type 0
EachItem [] = Unit {0}
EachItem (s ∷ items) = ItemPrints s × EachItem items

abbrev pub items_tokens : List Stmt → Tokens
items_tokens items = joined (map stmt_tokens items)

items_lex : (items : List Stmt) → EachItem items → AllLex (items_tokens items)
items_lex [] h = tt
items_lex (s ∷ items) h = lex_append (stmt_tokens s) (items_tokens items) h.0.lexes (items_lex items h.1)

close_no_else : kind_of (Mark (codes "}")) ≡ kind.Reserved word.Else → ⊥
close_no_else e = let h = close_brace_is in cc

items_begin : (items : List Stmt) → EachItem items → (rest : Tokens) → NotElse (items_tokens items ++ Mark (codes "}") ∷ rest)
items_begin [] h rest = close_no_else
items_begin (s ∷ items) h rest =
    subst NotElse (sym (append_assoc (stmt_tokens s) (items_tokens items) (Mark (codes "}") ∷ rest))) (h.0.begins (items_tokens items ++ Mark (codes "}") ∷ rest))

items_read : (items : List Stmt) → EachItem items → (at : ℕ) (rest : Tokens) → Reach (λ ts us. ReadsItems ts items us) at (items_tokens items ++ Mark (codes "}") ∷ rest) rest
items_read [] h at rest = record {
  to = next at (Mark (codes "}"));
  reads = g.no_items (token at (Mark (codes "}"))) (placed (next at (Mark (codes "}"))) rest) close_brace_is;
}
items_read (s ∷ items) h at rest =
    let behind = items_tokens items ++ Mark (codes "}") ∷ rest in
    let i = h.0.reader at behind (items_begin items h.1 rest) in
    let j = items_read items h.1 i.to rest in
    subst (λ ps. Reach (λ ts us. ReadsItems ts (s ∷ items) us) at ps rest) (sym (append_assoc (stmt_tokens s) (items_tokens items) (Mark (codes "}") ∷ rest)))
    (record { to = j.to; reads = g.more_items (placed at (stmt_tokens s ++ behind)) (placed i.to behind) (placed j.to rest) s items i.reads j.reads })

-- ---- blocks

abbrev pub block_tokens : List Stmt → Tokens
block_tokens items = in_braces (items_tokens items)

pub block_lex : (items : List Stmt) → EachItem items → AllLex (block_tokens items)
block_lex items h = (op.brace_lexes, lex_append (items_tokens items) (Mark (codes "}") ∷ []) (items_lex items h) (op.close_brace_lexes, tt))

pub block_read : (items : List Stmt) → EachItem items → Reader (λ ts us. ReadsBlock ts items us) (block_tokens items)
block_read items h at rest =
    let o = Mark (codes "{") in
    let i = items_read items h (next at o) rest in
    subst (λ ps. Reach (λ ts us. ReadsBlock ts items us) at (o ∷ ps) rest) (sym (append_assoc (items_tokens items) (Mark (codes "}") ∷ []) rest))
    (record { to = i.to; reads = g.block (token at o) (placed (next at o) (items_tokens items ++ Mark (codes "}") ∷ rest)) (placed i.to rest) items brace_is i.reads })

-- ---- functions

abbrev pub ValidOwn : Option (List ℕ) → Type 0
ValidOwn None = Unit {0}
ValidOwn (Some x) = ValidName x

star_lex : (b : Bool) → AllLex (star_if b)
star_lex true = (op.star_lexes, tt)
star_lex false = tt

star_read : (b : Bool) → Reader (λ ts us. ReadsStar ts b us) (star_if b)
star_read true at rest = record { to = next at (Mark (codes "*")); reads = star (token at (Mark (codes "*"))) (placed (next at (Mark (codes "*"))) rest) star_is }
star_read false at rest = record { to = at; reads = no_star (placed at rest) }

own_lex : (x : Option (List ℕ)) → ValidOwn x → AllLex (name_if_there x)
own_lex None h = tt
own_lex (Some x) h = (h.0, tt)

own_read : (x : Option (List ℕ)) → ValidOwn x → Reader (λ ts us. ReadsOwnName ts x us) (name_if_there x)
own_read None h at rest = record { to = at; reads = no_name (placed at rest) }
own_read (Some x) h at rest = record { to = next at (Word x); reads = own_name (token at (Word x)) (placed (next at (Word x)) rest) x (name_is x h.1) }

-- what a function stands on
pub record FunctionParts (s : Signature) (all : List Stmt) : Type 0 where
  pub own : ValidOwn s.name
  pub params : ValidNames s.params
  pub items : EachItem all

-- a function behind its word
abbrev after_word : Signature → List Stmt → Tokens
after_word s items = star_if s.generator ++ (name_if_there s.name ++ (params_tokens s.params ++ block_tokens items))

function_split : (a b c d rest : Tokens) → (a ++ (b ++ (c ++ d))) ++ rest ≡ a ++ (b ++ (c ++ (d ++ rest)))
function_split a b c d rest = append_assoc a (b ++ (c ++ d)) rest ∙ ap (λ l. a ++ l) (append_assoc b (c ++ d) rest ∙ ap (λ l. b ++ l) (append_assoc c d rest))

-- the printed tokens of a function read as that function
pub record FunctionPrints (f : Function) : Type 0 where
  pub lexes : AllLex (Word (codes "function") ∷ (function_tokens f).declared)
  pub reader : Reader (λ ts us. ReadsFunction ts f us) (Word (codes "function") ∷ (function_tokens f).declared)

declared_is : (s : Signature) (items : List Stmt) → (function_tokens (function_of s items)).declared ≡ after_word s items
declared_is s items =
    rows.function_declared s.name s.params s.generator (body.Items items) ∙ ap (λ b. star_if s.generator ++ (name_if_there s.name ++ (params_tokens s.params ++ b))) (rows.items_shown items)

function_reads : (s : Signature) (items : List Stmt) → FunctionParts s items → Reader (λ ts us. ReadsFunction ts (function_of s items) us) (Word (codes "function") ∷ after_word s items)
function_reads s items h at rest =
    let own = name_if_there s.name in
    let list = params_tokens s.params in
    let all = block_tokens items in
    let n = next at (Word (codes "function")) in
    let i = star_read s.generator n (own ++ (list ++ (all ++ rest))) in
    let j = own_read s.name h.own i.to (list ++ (all ++ rest)) in
    let k = params_read s.params h.params j.to (all ++ rest) in
    let l = block_read items h.items k.to rest in
    subst (λ ps. Reach (λ ts us. ReadsFunction ts (function_of s items) us) at (Word (codes "function") ∷ ps) rest) (sym (function_split (star_if s.generator) own list all rest))
    (record {
      to = l.to;
      reads = g.function (token at (Word (codes "function"))) (placed n (star_if s.generator ++ (own ++ (list ++ (all ++ rest))))) (placed k.to (all ++ rest)) (placed l.to rest) s items function_is
          (signature (placed n (star_if s.generator ++ (own ++ (list ++ (all ++ rest))))) (placed i.to (own ++ (list ++ (all ++ rest)))) (placed j.to (list ++ (all ++ rest))) (placed k.to (all ++ rest))
          s.generator s.name s.params i.reads j.reads k.reads)
          l.reads;
    })

after_lexes : (s : Signature) (items : List Stmt) → FunctionParts s items → AllLex (after_word s items)
after_lexes s items h =
    lex_append (star_if s.generator) (name_if_there s.name ++ (params_tokens s.params ++ block_tokens items)) (star_lex s.generator)
    (lex_append (name_if_there s.name) (params_tokens s.params ++ block_tokens items) (own_lex s.name h.own)
    (lex_append (params_tokens s.params) (block_tokens items) (params_lex s.params h.params) (block_lex items h.items)))

pub function_prints : (s : Signature) (items : List Stmt) → Lexes (Word (codes "function")) → FunctionParts s items → FunctionPrints (function_of s items)
function_prints s items w h = record {
  lexes = (w, subst AllLex (sym (declared_is s items)) (after_lexes s items h));
  reader = subst (λ ps. Reader (λ ts us. ReadsFunction ts (function_of s items) us) (Word (codes "function") ∷ ps)) (sym (declared_is s items)) (function_reads s items h);
}

pub expression_prints : (f : Function) → FunctionPrints f → Prints (node.Function f) Other
expression_prints f h = subst (λ s. PrintsAs s (node.Function f) Other) (sym (rows.function_shown f))
    (wanting h.lexes tt
    (λ at rest.
    let i = h.reader at rest in
    record {
      to = i.to;
      reads = record {
        form = Other;
        reads = whole_of_left (first (g.function_expression (placed at ((Word (codes "function") ∷ (function_tokens f).declared) ++ rest)) (placed i.to rest) f i.reads));
      };
    })
    other_no_target)

-- ---- arrow functions

pub record ReadsBodyBy (b : FnBody) (ts us : List Token) : Type 0 where
  pub form : Form
  pub reads : ReadsArrowBody ts b form us

-- the printed tokens of the body of an arrow function read as that body
pub record BodyPrints (b : FnBody) : Type 0 where
  pub lexes : AllLex (body_tokens b)
  pub reader : Reader (ReadsBodyBy b) (body_tokens b)

pub block_body_prints : (items : List Stmt) → EachItem items → BodyPrints (body.Items items)
block_body_prints items h = record {
  lexes = subst AllLex (sym (rows.items_shown items)) (block_lex items h);
  reader = subst (Reader (ReadsBodyBy (body.Items items))) (sym (rows.items_shown items))
      (λ at rest. let i = block_read items h at rest in
      record { to = i.to; reads = record { form = Closed; reads = g.block_body (placed at (block_tokens items ++ rest)) (placed i.to rest) items i.reads } });
}

pub open_no_brace : kind_of (Mark (codes "(")) ≡ kind.Punctuator mark.OpenBrace → ⊥
open_no_brace e = let h = open_is in cc

pub value_body_prints : {a : Expr} {f : Form} → Prints a f → BodyPrints (body.Value a)
value_body_prints {a} {f} p = record {
  lexes = subst AllLex (sym (rows.body_value_shown a)) (enclosed_lexes (expr_tokens a) p.lexes);
  reader = subst (Reader (ReadsBodyBy (body.Value a))) (sym (rows.body_value_shown a))
      (λ at rest. let i = enclosed (expr_tokens a) p.at_whole at rest in
      record {
        to = i.to;
        reads = record {
          form = edge i.reads.form;
          reads = g.value_body (placed at (in_parentheses (expr_tokens a) ++ rest)) (placed i.to rest) a i.reads.form open_no_brace (whole_of_left i.reads.reads);
        };
      });
}

params_some : (xs : List (List ℕ)) (more : Tokens) → IsSome (params_tokens xs ++ more)
params_some xs more = tt

pub arrow_prints : (xs : List (List ℕ)) (b : FnBody) (f : Form) → ValidNames xs → BodyPrints b → (f ≡ Target → ⊥) → Prints (node.Arrow (arrow_function xs b)) f
arrow_prints xs b f v h unmet = subst (λ s. PrintsAs s (node.Arrow (arrow_function xs b)) f) (sym (rows.arrow_shown (arrow_function xs b) ∙ ap wants (rows.function_arrow None xs false b)))
    (let arrow = Mark (codes "=>") in
    wanting (lex_append (params_tokens xs) (arrow ∷ body_tokens b) (params_lex xs v) (op.arrow_lexes, h.lexes)) (params_some xs (arrow ∷ body_tokens b))
    (λ at rest.
    let i = params_read xs v at (arrow ∷ (body_tokens b ++ rest)) in
    let j = h.reader (next i.to arrow) rest in
    subst (λ ps. Reach (ReadsBy whole (node.Arrow (arrow_function xs b))) at ps rest) (sym (append_assoc (params_tokens xs) (arrow ∷ body_tokens b) rest))
    (record {
      to = j.to;
      reads = record {
        form = j.reads.form;
        reads = g.arrow (placed at (params_tokens xs ++ arrow ∷ (body_tokens b ++ rest))) (placed (next i.to arrow) (body_tokens b ++ rest)) (placed j.to rest) (token i.to arrow) xs b j.reads.form
            (all_params (placed at (params_tokens xs ++ arrow ∷ (body_tokens b ++ rest))) (placed i.to (arrow ∷ (body_tokens b ++ rest))) xs i.reads) arrow_is refl j.reads.reads;
      };
    }))
    unmet)

-- ---- objects

abbrev pub ReadsPropAs : PropNode → List Token → List Token → Type 0
ReadsPropAs p ts us = ReadsProp ts p us

abbrev pub EachProp : List PropNode → Type 0
EachProp props = Each prop_tokens ReadsPropAs props

-- the printed tokens of a property read as that property
abbrev pub PropPrints : PropNode → Type 0
PropPrints p = AllLex (prop_tokens p) × Reader (ReadsPropAs p) (prop_tokens p)

props : Lister PropNode ReadsPropAs (λ ts ps us. ReadsProps ts ps us) (codes "}")
props = record {
  none = λ t ts e. g.no_prop t ts (e ∙ close_brace_is);
  last = λ c ts rest p e d. g.last_prop c ts rest p d (e ∙ close_brace_is);
  more = λ c ts mid rest p ps e d m. g.more_props c ts mid rest p ps d (e ∙ comma_is) m;
}

pub object_prints : (ps : List PropNode) → EachProp ps → Prints (node.Object ps) Other
object_prints ps h = subst (λ s. PrintsAs s (node.Object ps) Other) (sym (rows.object_shown ps))
    (let list = listed (map prop_tokens ps) in
    let o = Mark (codes "{") in
    let c = Mark (codes "}") in
    wanting (op.brace_lexes, lex_append list (c ∷ []) (listed_lexes ReadsPropAs prop_tokens ps h) (op.close_brace_lexes, tt)) tt
    (λ at rest.
    let i = list_reads props prop_tokens ps h (next at o) rest in
    subst (λ qs. Reach (ReadsBy whole (node.Object ps)) at (o ∷ qs) rest) (sym (append_assoc list (c ∷ []) rest))
    (record {
      to = i.to;
      reads = record { form = Other; reads = whole_of_left (first (g.object (token at o) (placed (next at o) (list ++ c ∷ rest)) (placed i.to rest) ps brace_is i.reads)) };
    }))
    other_no_target)

pub short_prints : (x : List ℕ) → ValidName x → PropPrints (prop.Short x)
short_prints x v = (
  subst AllLex (sym (rows.short_shown x)) (v.0, tt),
  subst (Reader (ReadsPropAs (prop.Short x))) (sym (rows.short_shown x))
      (λ at rest. record { to = next at (Word x); reads = g.short_prop (token at (Word x)) (placed (next at (Word x)) rest) x (name_is x v.1) }),
)

-- the printed key is read as that key
abbrev pub KeyReads : List ℕ → Type 0
KeyReads key = Lexes (key_token key) × (key_of (kind_of (key_token key)) ≡ Some key)

pub fixed_prints : {a : Expr} {f : Form} (key : List ℕ) → KeyReads key → Prints a f → PropPrints (prop.Fixed key a)
fixed_prints {a} {f} key v p = (
  subst AllLex (sym (rows.fixed_shown key a)) (v.0, (op.colon_lexes, p.lexes)),
  subst (Reader (ReadsPropAs (prop.Fixed key a))) (sym (rows.fixed_shown key a))
      (λ at rest.
      let k = key_token key in
      let c = Mark (codes ":") in
      let i = p.at_whole (next (next at k) c) rest in
      record {
        to = i.to;
        reads = g.fixed_prop (token at k) (token (next at k) c) (placed (next (next at k) c) (expr_tokens a ++ rest)) (placed i.to rest) key a i.reads.form v.1 colon_is i.reads.reads;
      }),
)

computed_split : (k a rest : Tokens) → (in_brackets k ++ Mark (codes ":") ∷ a) ++ rest ≡ Mark (codes "[") ∷ (k ++ (Mark (codes "]") ∷ Mark (codes ":") ∷ (a ++ rest)))
computed_split k a rest =
    append_assoc (in_brackets k) (Mark (codes ":") ∷ a) rest ∙ ap (λ l. Mark (codes "[") ∷ l) (append_assoc k (Mark (codes "]") ∷ []) (Mark (codes ":") ∷ (a ++ rest)))

pub computed_prints : {k a : Expr} {f h : Form} → Prints k f → Prints a h → PropPrints (prop.Computed k a)
computed_prints {k} {a} {f} {h} p q = (
  subst AllLex (sym (rows.computed_shown k a))
      (lex_append (in_brackets (expr_tokens k)) (Mark (codes ":") ∷ expr_tokens a) (op.bracket_lexes, lex_append (expr_tokens k) (Mark (codes "]") ∷ []) p.lexes (op.close_bracket_lexes, tt)) (op.colon_lexes, q.lexes)),
  subst (Reader (ReadsPropAs (prop.Computed k a))) (sym (rows.computed_shown k a))
      (λ at rest.
      let o = Mark (codes "[") in
      let c = Mark (codes "]") in
      let d = Mark (codes ":") in
      let behind = expr_tokens a ++ rest in
      let i = p.at_whole (next at o) (c ∷ d ∷ behind) in
      let j = q.at_whole (next (next i.to c) d) rest in
      subst (λ ps. Reach (ReadsPropAs (prop.Computed k a)) at ps rest) (sym (computed_split (expr_tokens k) (expr_tokens a) rest))
      (record {
        to = j.to;
        reads = g.computed_prop (token at o) (token i.to c) (token (next i.to c) d) (placed (next at o) (expr_tokens k ++ c ∷ d ∷ behind)) (placed (next (next i.to c) d) behind) (placed j.to rest) k a
            i.reads.form j.reads.form bracket_is i.reads.reads close_bracket_is colon_is j.reads.reads;
      })),
)
