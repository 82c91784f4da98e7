-- The printed tokens of a cell derive that cell.
use Rattle.std.proofs.Common.{◌≡◌, ℕ, ◌+◌, false, List, [], ◌∷◌, ◌++◌, Option, Some, None, map, refl, sym, subst, ◌∙◌, arith, append_assoc}
use Rattle.std.proofs.lemmas.List.{append-nil}
use Rattle.std.specs.Prelude.{codes}
use Rattle.ob_base.specs.declared.reserved.ReservedWord.TheVariants as word
use Rattle.ob_lex.specs.declared.token.Token.{Token}
use Rattle.ob_lex.specs.declared.token.TokenKind.TheVariants as kind
use Rattle.ob_tree_types.specs.declared.tree.Function.{Function}
use Rattle.ob_tree_types.specs.declared.tree.FnBody.TheVariants as body
use Rattle.ob_tree_types.specs.declared.cell.CellTree.{CellTree}
use Rattle.ob_tree_types.specs.declared.cell.CellTree.TheVariants as cell
use Rattle.ob_tree_types.specs.declared.cell.ImportTree.{ImportTree}
use Rattle.ob_tree_types.specs.declared.cell.ImportSpec.{ImportSpec}
use Rattle.ob_tree_types.specs.declared.cell.SpecForm.{SpecForm}
use Rattle.ob_tree_types.specs.declared.cell.SpecForm.TheVariants as form
use Rattle.ob_tree.specs.Depth.{deepest, stmt_depth, expr_depth, function_depth, depth_of}
use Rattle.ob_tree.specs.Tokens.{Word, Mark, Quoted}
use Rattle.ob_tree.specs.Print.{Tokens, listed, in_parentheses, expr_tokens, stmt_tokens, body_tokens, function_tokens, form_tokens, alias_tokens, spec_tokens, specs_tokens, with_tokens, import_tokens, cell_tokens}
use Rattle.ob_grammar.specs.Marks.{IsWord}
use Rattle.ob_grammar.specs.Grammar.{ReadsFunction, function}
use Rattle.ob_grammar.specs.Cells.{ReadsForm, plain, viewof, mutable, ReadsAlias, no_alias, alias, ReadsSpec, spec, ReadsSpecList, no_spec, last_spec, more_specs, ReadsSpecs, specs, ReadsWith, no_with, with_specs, ReadsImport, import, of_block, of_value, ReadsBody, block, value, plain_end, IsFunctionText, Derives, nothing, imported, function_cell, bare, named, view, mutable_cell}
use Rattle.ob_grammar.proofs.Depths as depths
use Rattle.ob_print_law.proofs.Statements.{open_no_function}
use Rattle.ob_print_law.proofs.Placed.{kind_of, token, next, placed, Reach, Reader, name_is, brace_is, close_brace_is, comma_is, assign_is, viewof_is, mutable_is, import_is, with_is}
use Rattle.ob_print_law.proofs.Rows as rows
use Rattle.ob_print_law.proofs.Valid as valid
use Rattle.ob_print_law.proofs.Valid.{Lexes, AllLex, ValidName, Valid, Units, ValidKind, lex_append}
use Rattle.ob_print_law.proofs.Rules.{whole_of_left}
use Rattle.ob_print_law.proofs.Operators as op
use Rattle.ob_print_law.proofs.Words as spelt
use Rattle.ob_print_law.proofs.Expressions.{enclosed, enclosed_lexes}
use Rattle.ob_print_law.proofs.Listed.{Lister, Each, list_reads, listed_lexes}
use Rattle.ob_print_law.proofs.Functions.{block_tokens, block_lex, block_read, open_no_brace}
use Rattle.ob_print_law.proofs.Printing.{prints, block_print, function_print}
use Rattle.ob_print_law.proofs.Nesting.{Opens, none_open, flat_open, append_open, weaker, parentheses_open, braces_open, flat_word, flat_quoted, flat_equals, EachOpens, listed_opens, joined_opens, to_deepest}
use Rattle.ob_print_law.proofs.Opening.{opens, block_open, function_open}

-- ---- imports

abbrev ReadsSpecAs : ImportSpec → List Token → List Token → Type 0
ReadsSpecAs s ts us = ReadsSpec ts s us

abbrev SpecPrints : ImportSpec → Type 0
SpecPrints s = AllLex (spec_tokens s) × Reader (ReadsSpecAs s) (spec_tokens s)

abbrev EachSpec : List ImportSpec → Type 0
EachSpec list = Each spec_tokens ReadsSpecAs list

form_lexes : (f : SpecForm) → AllLex (form_tokens f)
form_lexes form.Plain = tt
form_lexes form.Viewof = (spelt.viewof_lexes, tt)
form_lexes form.Mutable = (spelt.mutable_lexes, tt)

form_reads : (f : SpecForm) → Reader (λ ts us. ReadsForm ts f us) (form_tokens f)
form_reads form.Plain at rest = record { to = at; reads = plain (placed at rest) }
form_reads form.Viewof at rest = let w = Word (codes "viewof") in record { to = next at w; reads = viewof (token at w) (placed (next at w) rest) viewof_is }
form_reads form.Mutable at rest = let w = Word (codes "mutable") in record { to = next at w; reads = mutable (token at w) (placed (next at w) rest) mutable_is }

abbrev ValidAlias : Option (List ℕ) → Type 0
ValidAlias None = Unit {0}
ValidAlias (Some x) = ValidName x

alias_lexes : (y : Option (List ℕ)) → ValidAlias y → AllLex (alias_tokens y)
alias_lexes None v = tt
alias_lexes (Some x) v = (spelt.as_valid.0, (v.0, tt))

alias_reads : (y : Option (List ℕ)) → ValidAlias y → Reader (λ ts us. ReadsAlias ts y us) (alias_tokens y)
alias_reads None v at rest = record { to = at; reads = no_alias (placed at rest) }
alias_reads (Some x) v at rest =
    let w = Word (codes "as") in
    record { to = next (next at w) (Word x); reads = alias (token at w) (token (next at w) (Word x)) (placed (next (next at w) (Word x)) rest) x (name_is (codes "as") spelt.as_valid.1) (name_is x v.1) }

spec_prints : (f : SpecForm) (x : List ℕ) (y : Option (List ℕ)) → ValidName x → ValidAlias y → SpecPrints (record { form = f; source = x; alias = y })
spec_prints f x y v w =
    let s : ImportSpec = record { form = f; source = x; alias = y } in (
      lex_append (form_tokens f) (Word x ∷ alias_tokens y) (form_lexes f) (v.0, alias_lexes y w),
      λ at rest.
          let i = form_reads f at (Word x ∷ alias_tokens y ++ rest) in
          let j = alias_reads y w (next i.to (Word x)) rest in
          subst (λ ps. Reach (ReadsSpecAs s) at ps rest) (sym (append_assoc (form_tokens f) (Word x ∷ alias_tokens y) rest))
          (record {
            to = j.to;
            reads = spec (token i.to (Word x)) (placed at (form_tokens f ++ (Word x ∷ alias_tokens y ++ rest))) (placed (next i.to (Word x)) (alias_tokens y ++ rest)) (placed j.to rest) f x y i.reads (name_is x v.1) j.reads;
          }),
    )

spec_list : Lister ImportSpec ReadsSpecAs (λ ts list us. ReadsSpecList ts list us) (codes "}")
spec_list = record {
  none = λ t ts e. no_spec t ts (e ∙ close_brace_is);
  last = λ c ts rest s e d. last_spec c ts rest s d (e ∙ close_brace_is);
  more = λ c ts mid rest s list e d m. more_specs c ts mid rest s list d (e ∙ comma_is) m;
}

specs_lex : (list : List ImportSpec) → EachSpec list → AllLex (specs_tokens list)
specs_lex list h = (op.brace_lexes, lex_append (listed (map spec_tokens list)) (Mark (codes "}") ∷ []) (listed_lexes ReadsSpecAs spec_tokens list h) (op.close_brace_lexes, tt))

specs_read : (list : List ImportSpec) → EachSpec list → Reader (λ ts us. ReadsSpecs ts list us) (specs_tokens list)
specs_read list h at rest =
    let all = listed (map spec_tokens list) in
    let o = Mark (codes "{") in
    let i = list_reads spec_list spec_tokens list h (next at o) rest in
    subst (λ ps. Reach (λ ts us. ReadsSpecs ts list us) at (o ∷ ps) rest) (sym (append_assoc all (Mark (codes "}") ∷ []) rest))
    (record { to = i.to; reads = specs (token at o) (placed (next at o) (all ++ Mark (codes "}") ∷ rest)) (placed i.to rest) list brace_is i.reads })

abbrev MayImport : Option (List ImportSpec) → Type 0
MayImport None = Unit {0}
MayImport (Some list) = EachSpec list

with_lexes : (given : Option (List ImportSpec)) → MayImport given → AllLex (with_tokens given)
with_lexes None h = tt
with_lexes (Some list) h = (spelt.with_lexes, specs_lex list h)

with_reads : (given : Option (List ImportSpec)) → MayImport given → Reader (λ ts us. ReadsWith ts given us) (with_tokens given)
with_reads None h at rest = record { to = at; reads = no_with (placed at rest) }
with_reads (Some list) h at rest =
    let w = Word (codes "with") in
    let i = specs_read list h (next at w) rest in
    record { to = i.to; reads = with_specs (token at w) (placed (next at w) (specs_tokens list ++ rest)) (placed i.to rest) list with_is i.reads }

import_split : (a b rest : Tokens) → (a ++ (b ++ Word (codes "from") ∷ rest)) ++ [] ≡ a ++ (b ++ Word (codes "from") ∷ rest)
import_split a b rest = append-nil (a ++ (b ++ Word (codes "from") ∷ rest))

-- what an import stands on
record ImportParts (i : ImportTree) : Type 0 where
  list : EachSpec i.specs
  given : MayImport i.with
  id : Units i.from

import_derives : (i : ImportTree) → ImportParts i → Derives (placed 0 (cell_tokens (cell.Import i))) (cell.Import i)
import_derives i h =
    let w = Word (codes "import") in
    let f = Word (codes "from") in
    let last = f ∷ Quoted i.from ∷ [] in
    let j = specs_read i.specs h.list (next 0 w) (with_tokens i.with ++ last) in
    let k = with_reads i.with h.given j.to last in
    imported (placed 0 (cell_tokens (cell.Import i))) [] i
    (import (token 0 w) (token k.to f) (token (next k.to f) (Quoted i.from)) (placed (next 0 w) (import_tokens i)) (placed j.to (with_tokens i.with ++ last)) [] i.specs i.with i.from import_is
    j.reads k.reads (name_is (codes "from") spelt.from_valid.1) refl)
    plain_end

import_lexes : (i : ImportTree) → ImportParts i → AllLex (cell_tokens (cell.Import i))
import_lexes i h = (
  spelt.import_lexes,
  lex_append (specs_tokens i.specs) (with_tokens i.with ++ Word (codes "from") ∷ Quoted i.from ∷ []) (specs_lex i.specs h.list)
      (lex_append (with_tokens i.with) (Word (codes "from") ∷ Quoted i.from ∷ []) (with_lexes i.with h.given) (spelt.from_valid.0, (h.id, tt))),
)

form_open : (f : SpecForm) → Opens 0 (form_tokens f)
form_open form.Plain = none_open 0
form_open form.Viewof = flat_open (Word (codes "viewof")) (flat_word (codes "viewof")) (none_open 0)
form_open form.Mutable = flat_open (Word (codes "mutable")) (flat_word (codes "mutable")) (none_open 0)

alias_open : (y : Option (List ℕ)) → Opens 0 (alias_tokens y)
alias_open None = none_open 0
alias_open (Some x) = flat_open (Word (codes "as")) (flat_word (codes "as")) (flat_open (Word x) (flat_word x) (none_open 0))

each_spec_opens : (list : List ImportSpec) → EachOpens 0 spec_tokens list
each_spec_opens [] = tt
each_spec_opens (s ∷ list) =
    (append_open (form_tokens s.form) (Word s.source ∷ alias_tokens s.alias) (form_open s.form) (flat_open (Word s.source) (flat_word s.source) (alias_open s.alias)), each_spec_opens list)

specs_open : (list : List ImportSpec) → Opens 1 (specs_tokens list)
specs_open list = braces_open (listed (map spec_tokens list)) (listed_opens 0 spec_tokens list (each_spec_opens list))

with_open : (given : Option (List ImportSpec)) → Opens 1 (with_tokens given)
with_open None = none_open 1
with_open (Some list) = flat_open (Word (codes "with")) (flat_word (codes "with")) (specs_open list)

import_opens : (i : ImportTree) → Opens 1 (cell_tokens (cell.Import i))
import_opens i =
    flat_open (Word (codes "import")) (flat_word (codes "import"))
    (append_open (specs_tokens i.specs) (with_tokens i.with ++ Word (codes "from") ∷ Quoted i.from ∷ []) (specs_open i.specs)
    (append_open (with_tokens i.with) (Word (codes "from") ∷ Quoted i.from ∷ []) (with_open i.with)
    (flat_open (Word (codes "from")) (flat_word (codes "from")) (flat_open (Quoted i.from) (flat_quoted i.from) (none_open 1)))))

-- what is read is made of valid parts

form_valid : {ts : List Token} {f : SpecForm} {rest : List Token} → ReadsForm ts f rest → Valid ts → Valid rest
form_valid (plain ts) v = v
form_valid (viewof t ts h) v = v.1
form_valid (mutable t ts h) v = v.1

alias_valid : {ts : List Token} {y : Option (List ℕ)} {rest : List Token} → ReadsAlias ts y rest → Valid ts → ValidAlias y × Valid rest
alias_valid (no_alias ts) v = (tt, v)
alias_valid (alias t n ts x h1 h2) v = (valid.named x n h2 v.1.0, v.1.1)

spec_valid : {ts : List Token} {s : ImportSpec} {rest : List Token} → ReadsSpec ts s rest → Valid ts → SpecPrints s × Valid rest
spec_valid (spec n ts mid rest f x y d1 h d2) v =
    let p = form_valid d1 v in let q = alias_valid d2 p.1 in (spec_prints f x y (valid.named x n h p.0) q.0, q.1)

list_valid : {ts : List Token} {list : List ImportSpec} {rest : List Token} → ReadsSpecList ts list rest → Valid ts → EachSpec list × Valid rest
list_valid (no_spec t ts h) v = (tt, v.1)
list_valid (last_spec c ts rest s d h) v = let p = spec_valid d v in ((p.0, tt), p.1.1)
list_valid (more_specs c ts mid rest s list d h d2) v = let p = spec_valid d v in let q = list_valid d2 p.1.1 in ((p.0, q.0), q.1)

specs_valid : {ts : List Token} {list : List ImportSpec} {rest : List Token} → ReadsSpecs ts list rest → Valid ts → EachSpec list × Valid rest
specs_valid (specs t ts rest list h d) v = list_valid d v.1

with_valid : {ts : List Token} {given : Option (List ImportSpec)} {rest : List Token} → ReadsWith ts given rest → Valid ts → MayImport given × Valid rest
with_valid (no_with ts) v = (tt, v)
with_valid (with_specs t ts rest list h d) v = specs_valid d v.1

import_valid : {ts : List Token} {i : ImportTree} {rest : List Token} → ReadsImport ts i rest → Valid ts → ImportParts i
import_valid (import t o q ts mid rest list given id h1 d1 d2 h2 h3) v =
    let p = specs_valid d1 v.1 in let r = with_valid d2 p.1 in record { list = p.0; given = r.0; id = subst ValidKind h3 r.1.1.0 }

-- ---- bodies

-- the first token is no `function`
abbrev NoFunction : Tokens → Type 0
NoFunction [] = Unit {0}
NoFunction (p ∷ ps) = kind_of p ≡ kind.Reserved word.Function → ⊥

-- the printed tokens of the body of a cell read as that body
record CellBody (f : Function) : Type 0 where
  lexes : AllLex (body_tokens f.body)
  reader : Reader (λ ts us. ReadsBody ts f us) (body_tokens f.body)
  begins : NoFunction (body_tokens f.body)
  opens : Opens (1 + function_depth f) (body_tokens f.body)

-- the same by the tokens
record CellBodyAs (f : Function) (ps : Tokens) : Type 0 where
  lexes : AllLex ps
  reader : Reader (λ ts us. ReadsBody ts f us) ps
  begins : NoFunction ps
  opens : Opens (1 + function_depth f) ps

as_body : {f : Function} {ps : Tokens} → body_tokens f.body ≡ ps → CellBodyAs f ps → CellBody f
as_body {f} {ps} e p = let q : CellBodyAs f (body_tokens f.body) = subst (CellBodyAs f) (sym e) p in
    record { lexes = q.lexes; reader = q.reader; begins = q.begins; opens = q.opens }

brace_no_function : kind_of (Mark (codes "{")) ≡ kind.Reserved word.Function → ⊥
brace_no_function e = let h = brace_is in cc

body_prints : {ts : List Token} {f : Function} {rest : List Token} → ReadsBody ts f rest → Valid ts → CellBody f
body_prints (block ts rest items d) v =
    let h = (block_print d v).0 in
    let e : function_depth (of_block items) ≡ deepest (map stmt_depth items) = depths.function_of_depth None [] _ (body.Items items) ∙ depths.items_depth items in
    as_body (rows.items_shown items) (record {
      lexes = block_lex items h;
      reader = λ at rest. let i = block_read items h at rest in record { to = i.to; reads = block (placed at (block_tokens items ++ rest)) (placed i.to rest) items i.reads };
      begins = brace_no_function;
      opens = weaker (braces_open _ (joined_opens (deepest (map stmt_depth items)) stmt_tokens items (to_deepest stmt_depth stmt_tokens items (block_open d)))) (omega (arith, e));
    })
body_prints (value ts rest a f unmet d) v =
    let p = (prints d v).0 in
    let e : function_depth (of_value a) ≡ expr_depth a = depths.function_of_depth None [] false (body.Value a) ∙ depths.body_value_depth a in
    as_body (rows.body_value_shown a) (record {
      lexes = enclosed_lexes (expr_tokens a) p.lexes;
      reader = λ at rest.
          let i = enclosed (expr_tokens a) p.at_whole at rest in
          record { to = i.to; reads = value (placed at (in_parentheses (expr_tokens a) ++ rest)) (placed i.to rest) a i.reads.form open_no_brace (whole_of_left i.reads.reads) };
      begins = open_no_function;
      opens = weaker (parentheses_open (expr_tokens a) (opens d)) (omega (arith, e));
    })

no_function_by : {us : List Token} {g : Function} {rest : List Token} → ReadsFunction us g rest → (t : Token) (ts : List Token) → us ≡ t ∷ ts → (t.kind ≡ kind.Reserved word.Function → ⊥) → ⊥
no_function_by (function u us mid rest s items h1 h2 d) t ts e unmet = let h : u ≡ t = cc in unmet (subst (IsWord word.Function) h h1)

no_function_empty : {us : List Token} {g : Function} {rest : List Token} → ReadsFunction us g rest → us ≡ [] → ⊥
no_function_empty (function u us mid rest s items h1 h2 d) e = cc

no_function : (at : ℕ) (ps : Tokens) → NoFunction ps → (g : Function) → IsFunctionText (placed at ps) g → ⊥
no_function at [] h g t = no_function_empty t.reads refl
no_function at (p ∷ ps) h g t = no_function_by t.reads (token at p) (placed (next at p) ps) refl h

-- the body at the end of the text
last_body : {f : Function} (at : ℕ) → CellBody f → ReadsBody (placed at (body_tokens f.body)) f []
last_body {f} at p = let i = p.reader at [] in subst (λ ps. ReadsBody (placed at ps) f []) (append-nil (body_tokens f.body)) i.reads

-- ---- cells

-- the printed tokens of a cell derive that cell
pub record CellPrints (tree : CellTree) : Type 0 where
  pub lexes : AllLex (cell_tokens tree)
  pub derives : Derives (placed 0 (cell_tokens tree)) tree
  pub opens : Opens (depth_of tree) (cell_tokens tree)

defined_opens : {f : Function} → CellBody f → Opens (1 + function_depth f) (Mark (codes "=") ∷ body_tokens f.body)
defined_opens p = flat_open (Mark (codes "=")) flat_equals p.opens

pub cell_prints : {ts : List Token} {tree : CellTree} → Derives ts tree → Valid ts → CellPrints tree
cell_prints nothing v = record { lexes = tt; derives = nothing; opens = none_open 1 }
cell_prints (imported ts rest i d e) v = let p = import_valid d v in record { lexes = import_lexes i p; derives = import_derives i p; opens = import_opens i }
cell_prints (function_cell ts f t) v =
    let p = (function_print t.reads v).0 in
    let ps = Word (codes "function") ∷ (function_tokens f).declared in
    let i = p.reader 0 [] in
    let reads : ReadsFunction (placed 0 ps) f [] = subst (λ ps. ReadsFunction (placed 0 ps) f []) (append-nil ps) i.reads in
    record {
      lexes = p.lexes;
      derives = function_cell (placed 0 ps) f (record { name = t.name; rest = []; reads = reads; named = t.named; ends = plain_end });
      opens = weaker (function_open t.reads) (omega arith);
    }
cell_prints (bare ts rest f b e unmet) v =
    let p = body_prints b v in
    record {
      lexes = p.lexes;
      derives = bare (placed 0 (body_tokens f.body)) [] f (last_body 0 p) plain_end (λ g t. no_function 0 (body_tokens f.body) p.begins g t);
      opens = p.opens;
    }
cell_prints (named n q ts rest x f h1 h2 b e) v =
    let p = body_prints b v.1.1 in
    let a = valid.named x n h1 v.0 in
    let m = Mark (codes "=") in
    let k = next 0 (Word x) in
    record {
      lexes = (a.0, (op.equals_lexes, p.lexes));
      derives = named (token 0 (Word x)) (token k m) (placed (next k m) (body_tokens f.body)) [] x f (name_is x a.1) assign_is (last_body (next k m) p) plain_end;
      opens = flat_open (Word x) (flat_word x) (defined_opens p);
    }
cell_prints (view t n q ts rest x f h1 h2 h3 b e) v =
    let p = body_prints b v.1.1.1 in
    let a = valid.named x n h2 v.1.0 in
    let w = Word (codes "viewof") in
    let m = Mark (codes "=") in
    let j = next 0 w in
    let k = next j (Word x) in
    record {
      lexes = (spelt.viewof_lexes, (a.0, (op.equals_lexes, p.lexes)));
      derives = view (token 0 w) (token j (Word x)) (token k m) (placed (next k m) (body_tokens f.body)) [] x f viewof_is (name_is x a.1) assign_is (last_body (next k m) p) plain_end;
      opens = flat_open w (flat_word (codes "viewof")) (flat_open (Word x) (flat_word x) (defined_opens p));
    }
cell_prints (mutable_cell t n q ts rest x f h1 h2 h3 b e) v =
    let p = body_prints b v.1.1.1 in
    let a = valid.named x n h2 v.1.0 in
    let w = Word (codes "mutable") in
    let m = Mark (codes "=") in
    let j = next 0 w in
    let k = next j (Word x) in
    record {
      lexes = (spelt.mutable_lexes, (a.0, (op.equals_lexes, p.lexes)));
      derives = mutable_cell (token 0 w) (token j (Word x)) (token k m) (placed (next k m) (body_tokens f.body)) [] x f mutable_is (name_is x a.1) assign_is (last_body (next k m) p) plain_end;
      opens = flat_open w (flat_word (codes "mutable")) (flat_open (Word x) (flat_word x) (defined_opens p));
    }
