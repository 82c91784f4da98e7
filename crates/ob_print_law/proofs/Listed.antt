-- How printed lists are read, with commas between their parts.
use Rattle.std.proofs.Common.{◌≡◌, ℕ, ◌+◌, ◌==◌, Bool, false, List, [], ◌∷◌, ◌++◌, map, refl, ap, sym, subst, ◌∙◌, append_assoc, arith}
use Rattle.std.proofs.lemmas.Bool.Decides.{nat_tests}
use Rattle.std.specs.Prelude.{codes, if◌then◌else◌}
use Rattle.ob_lex.specs.declared.punctuator.Punctuator.{Punctuator}
use Rattle.ob_lex.specs.declared.punctuator.Punctuator.TheVariants as mark
use Rattle.ob_lex.specs.declared.token.Token.{Token}
use Rattle.ob_lex.specs.declared.token.TokenKind.TheVariants as kind
use Rattle.ob_tree_types.specs.declared.tree.Expr.{Expr}
use Rattle.ob_tree_types.specs.declared.tree.Expr.TheVariants as node
use Rattle.ob_tree.specs.Tokens.{Word, Mark}
use Rattle.ob_tree.specs.Print.{Tokens, comma_before, separated, listed, name_token, in_parentheses, params_tokens, operand, shown, expr_tokens}
use Rattle.ob_grammar.specs.declared.form.Form.{Form}
use Rattle.ob_grammar.specs.declared.form.Form.TheVariants.{Other}
use Rattle.ob_grammar.specs.Marks.{IsMark, IsName}
use Rattle.ob_grammar.specs.Lists.{ReadsNames, no_names, last_name, more_names, ReadsParams, params}
use Rattle.ob_grammar.specs.Grammar.{whole, left, ReadsList}
use Rattle.ob_grammar.specs.Grammar as g
use Rattle.ob_print_law.proofs.Placed.{kind_of, token, next, placed, Reach, Reader, name_is, open_is, close_is, bracket_is, close_bracket_is, comma_is, new_is}
use Rattle.ob_print_law.proofs.Rows as rows
use Rattle.ob_print_law.proofs.Valid.{Lexes, AllLex, ValidName, lex_append}
use Rattle.ob_print_law.proofs.Rules.{first, then_step}
use Rattle.ob_print_law.proofs.Operators as op
use Rattle.ob_print_law.proofs.Expressions.{ReadsBy, PrintsAs, Prints, as_operand, standing, some_append, enclosed_lexes, other_no_target}

-- ---- commas

-- what stands behind the first part
abbrev pub rest_of : List Tokens → Tokens
rest_of [] = []
rest_of (ts ∷ more) = Mark (codes ",") ∷ (ts ++ rest_of more)

comma_later : (k : ℕ) → comma_before (k + 1) ≡ Mark (codes ",") ∷ []
comma_later k = let h : (k + 1 == 0) ≡ false = grind (arith, nat_tests) in ap (λ (b : Bool). if b then [] else Mark (codes ",") ∷ []) h

separated_later : (k : ℕ) (parts : List Tokens) → separated (k + 1) parts ≡ rest_of parts
separated_later k [] = refl
separated_later k (ts ∷ more) =
    ap (λ c. c ++ (ts ++ separated (k + 1 + 1) more)) (comma_later k) ∙ ap (λ m. Mark (codes ",") ∷ (ts ++ m)) (separated_later (k + 1) more)

pub listed_is : (ts : Tokens) (more : List Tokens) → listed (ts ∷ more) ≡ ts ++ rest_of more
listed_is ts more = ap (λ m. ts ++ m) (separated_later 0 more)

-- ---- a list up to the mark behind it

-- the rules of a list of parts up to a mark
pub record Lister (A : Type 0) (Item : A → List Token → List Token → Type 0) (Many : List Token → List A → List Token → Type 0) (x : List ℕ) : Type 0 where
  pub none : (t : Token) (ts : List Token) → t.kind ≡ kind_of (Mark x) → Many (t ∷ ts) [] ts
  pub last : (c : Token) (ts rest : List Token) (a : A) → c.kind ≡ kind_of (Mark x) → Item a ts (c ∷ rest) → Many ts (a ∷ []) rest
  pub more : (c : Token) (ts mid rest : List Token) (a : A) (items : List A) → c.kind ≡ kind_of (Mark (codes ",")) → Item a ts (c ∷ mid) → Many mid items rest
      → Many ts (a ∷ items) rest

-- each part lexes and reads
abbrev pub Each : {A : Type 0} → (A → Tokens) → (A → List Token → List Token → Type 0) → List A → Type 0
Each toks Item [] = Unit {0}
Each toks Item (a ∷ items) = (AllLex (toks a) × Reader (Item a) (toks a)) × Each toks Item items

rest_lexes : {A : Type 0} (Item : A → List Token → List Token → Type 0) (toks : A → Tokens) (items : List A) → Each toks Item items → AllLex (rest_of (map toks items))
rest_lexes Item toks [] h = tt
rest_lexes Item toks (a ∷ items) h = (op.comma_lexes, lex_append (toks a) (rest_of (map toks items)) h.0.0 (rest_lexes Item toks items h.1))

pub listed_lexes : {A : Type 0} (Item : A → List Token → List Token → Type 0) (toks : A → Tokens) (items : List A) → Each toks Item items → AllLex (listed (map toks items))
listed_lexes Item toks [] h = tt
listed_lexes Item toks (a ∷ items) h =
    subst AllLex (sym (listed_is (toks a) (map toks items))) (lex_append (toks a) (rest_of (map toks items)) h.0.0 (rest_lexes Item toks items h.1))

list_from : {A : Type 0} {Item : A → List Token → List Token → Type 0} {Many : List Token → List A → List Token → Type 0} {x : List ℕ}
    (rules : Lister A Item Many x) (toks : A → Tokens) (a : A) (items : List A) → Reader (Item a) (toks a) → Each toks Item items → (at : ℕ) (rest : Tokens)
    → Reach (λ ts us. Many ts (a ∷ items) us) at ((toks a ++ rest_of (map toks items)) ++ Mark x ∷ rest) rest
list_from {A} {Item} {Many} {x} rules toks a [] r h at rest =
    let i = r at (Mark x ∷ rest) in
    subst (λ ps. Reach (λ ts us. Many ts (a ∷ []) us) at ps rest) (sym (append_assoc (toks a) [] (Mark x ∷ rest)))
    (record {
      to = next i.to (Mark x);
      reads = rules.last (token i.to (Mark x)) (placed at (toks a ++ Mark x ∷ rest)) (placed (next i.to (Mark x)) rest) a refl i.reads;
    })
list_from {A} {Item} {Many} {x} rules toks a (b ∷ items) r h at rest =
    let comma = Mark (codes ",") in
    let behind = (toks b ++ rest_of (map toks items)) ++ Mark x ∷ rest in
    let i = r at (comma ∷ behind) in
    let j = list_from rules toks b items h.0.1 h.1 (next i.to comma) rest in
    subst (λ ps. Reach (λ ts us. Many ts (a ∷ b ∷ items) us) at ps rest) (sym (append_assoc (toks a) (comma ∷ (toks b ++ rest_of (map toks items))) (Mark x ∷ rest)))
    (record {
      to = j.to;
      reads = rules.more (token i.to comma) (placed at (toks a ++ comma ∷ behind)) (placed (next i.to comma) behind) (placed j.to rest) a (b ∷ items) refl i.reads j.reads;
    })

pub list_reads : {A : Type 0} {Item : A → List Token → List Token → Type 0} {Many : List Token → List A → List Token → Type 0} {x : List ℕ}
    (rules : Lister A Item Many x) (toks : A → Tokens) (items : List A) → Each toks Item items → (at : ℕ) (rest : Tokens)
    → Reach (λ ts us. Many ts items us) at (listed (map toks items) ++ Mark x ∷ rest) rest
list_reads {A} {Item} {Many} {x} rules toks [] h at rest = record { to = next at (Mark x); reads = rules.none (token at (Mark x)) (placed (next at (Mark x)) rest) refl }
list_reads {A} {Item} {Many} {x} rules toks (a ∷ items) h at rest =
    subst (λ ps. Reach (λ ts us. Many ts (a ∷ items) us) at (ps ++ Mark x ∷ rest) rest) (sym (listed_is (toks a) (map toks items))) (list_from rules toks a items h.0.1 h.1 at rest)

-- ---- lists of expressions

abbrev pub EachExpr : List Expr → Type 0
EachExpr items = Each expr_tokens (ReadsBy whole) items

pub no_exprs : EachExpr []
no_exprs = tt

pub more_exprs : {a : Expr} {f : Form} (items : List Expr) → Prints a f → EachExpr items → EachExpr (a ∷ items)
more_exprs items p h = ((p.lexes, p.at_whole), h)

pub fused : (items : List Expr) → rows.exprs_tokens items ≡ map expr_tokens items
fused [] = refl
fused (e ∷ items) = ap (λ l. expr_tokens e ∷ l) (fused items)

exprs : (close : Punctuator) (x : List ℕ) → kind_of (Mark x) ≡ kind.Punctuator close → Lister Expr (ReadsBy whole) (λ ts items us. ReadsList close ts items us) x
exprs close x h = record {
  none = λ t ts e. g.no_item close t ts (e ∙ h);
  last = λ c ts rest a e d. g.last_item close c ts rest a d.form d.reads (e ∙ h);
  more = λ c ts mid rest a items e d m. g.more_list close c ts mid rest a d.form items d.reads (e ∙ comma_is) m;
}

exprs_lex : (items : List Expr) → EachExpr items → AllLex (listed (rows.exprs_tokens items))
exprs_lex items h = subst (λ ps. AllLex (listed ps)) (sym (fused items)) (listed_lexes (ReadsBy whole) expr_tokens items h)

exprs_read : (close : Punctuator) (x : List ℕ) → kind_of (Mark x) ≡ kind.Punctuator close → (items : List Expr) → EachExpr items → (at : ℕ) (rest : Tokens)
    → Reach (λ ts us. ReadsList close ts items us) at (listed (rows.exprs_tokens items) ++ Mark x ∷ rest) rest
exprs_read close x e items h at rest =
    subst (λ ps. Reach (λ ts us. ReadsList close ts items us) at (listed ps ++ Mark x ∷ rest) rest) (sym (fused items)) (list_reads (exprs close x e) expr_tokens items h at rest)

pub array_prints : (items : List Expr) → EachExpr items → Prints (node.Array items) Other
array_prints items h = subst (λ s. PrintsAs s (node.Array items) Other) (sym (rows.array_shown items))
    (let list = listed (rows.exprs_tokens items) in
    let o = Mark (codes "[") in
    let c = Mark (codes "]") in
    standing (op.bracket_lexes, lex_append list (c ∷ []) (exprs_lex items h) (op.close_bracket_lexes, tt)) tt
    (λ at rest.
    let i = exprs_read mark.CloseBracket (codes "]") close_bracket_is items h (next at o) rest in
    subst (λ ps. Reach (ReadsBy left (node.Array items)) at (o ∷ ps) rest) (sym (append_assoc list (c ∷ []) rest))
    (record {
      to = i.to;
      reads = record { form = Other; reads = first (g.array (token at o) (placed (next at o) (list ++ c ∷ rest)) (placed i.to rest) items bracket_is i.reads) };
    }))
    other_no_target)

call_split : (a l rest : Tokens) → (a ++ in_parentheses l) ++ rest ≡ a ++ (Mark (codes "(") ∷ (l ++ Mark (codes ")") ∷ rest))
call_split a l rest = append_assoc a (in_parentheses l) rest ∙ ap (λ qs. a ++ (Mark (codes "(") ∷ qs)) (append_assoc l (Mark (codes ")") ∷ []) rest)

pub call_prints : {a : Expr} {f : Form} (args : List Expr) → Prints a f → EachExpr args → Prints (node.Call a args) Other
call_prints {a} {f} args p h = subst (λ s. PrintsAs s (node.Call a args) Other) (sym (rows.call_shown a args))
    (let u = as_operand p in
    let list = listed (rows.exprs_tokens args) in
    let o = Mark (codes "(") in
    standing (lex_append (operand (shown a)) (in_parentheses list) u.lexes (enclosed_lexes list (exprs_lex args h))) (some_append (operand (shown a)) (in_parentheses list) u.some)
    (λ at rest.
    let i = u.reader at (o ∷ (list ++ Mark (codes ")") ∷ rest)) in
    let j = exprs_read mark.CloseParenthesis (codes ")") close_is args h (next i.to o) rest in
    subst (λ ps. Reach (ReadsBy left (node.Call a args)) at ps rest) (sym (call_split (operand (shown a)) list rest))
    (record {
      to = j.to;
      reads = record {
        form = Other;
        reads = then_step i.reads.reads
            (g.call a (node.Call a args) i.reads.form Other (token i.to o) args (placed (next i.to o) (list ++ Mark (codes ")") ∷ rest)) (placed j.to rest) (placed j.to rest) open_is j.reads
            (g.no_step (node.Call a args) Other (placed j.to rest)));
      };
    }))
    other_no_target)

pub new_prints : (x : List ℕ) (args : List Expr) → Lexes (Word (codes "new")) → ValidName x → EachExpr args → Prints (node.New x args) Other
new_prints x args w v h = subst (λ s. PrintsAs s (node.New x args) Other) (sym (rows.new_shown x args))
    (let list = listed (rows.exprs_tokens args) in
    let o = Mark (codes "(") in
    standing (w, (v.0, enclosed_lexes list (exprs_lex args h))) tt
    (λ at rest.
    let m = next at (Word (codes "new")) in
    let n = next m (Word x) in
    let j = exprs_read mark.CloseParenthesis (codes ")") close_is args h (next n o) rest in
    subst (λ ps. Reach (ReadsBy left (node.New x args)) at (Word (codes "new") ∷ Word x ∷ o ∷ ps) rest) (sym (append_assoc list (Mark (codes ")") ∷ []) rest))
    (record {
      to = j.to;
      reads = record {
        form = Other;
        reads = first (g.made (token at (Word (codes "new"))) (token m (Word x)) (token n o) (placed (next n o) (list ++ Mark (codes ")") ∷ rest)) (placed j.to rest) x args new_is (name_is x v.1) open_is j.reads);
      };
    }))
    other_no_target)

-- ---- parameters

pub data OneName : List ℕ → List Token → List Token → Type 0 where
  one : (t : Token) (ts : List Token) (x : List ℕ) → IsName x t → OneName x (t ∷ ts) ts

abbrev pub ValidNames : List (List ℕ) → Type 0
ValidNames [] = Unit {0}
ValidNames (x ∷ xs) = ValidName x × ValidNames xs

last_named : (c : Token) (ts rest : List Token) (x : List ℕ) → IsMark mark.CloseParenthesis c → OneName x ts (c ∷ rest) → ReadsNames ts (x ∷ []) rest
last_named c ts rest x e (one t us y h) = last_name t c rest y h e

more_named : (c : Token) (ts mid rest : List Token) (x : List ℕ) (xs : List (List ℕ)) → IsMark mark.Comma c → OneName x ts (c ∷ mid) → ReadsNames mid xs rest → ReadsNames ts (x ∷ xs) rest
more_named c ts mid rest x xs e (one t us y h) d = more_names t c _ rest y xs h e d

names : Lister (List ℕ) OneName (λ ts xs us. ReadsNames ts xs us) (codes ")")
names = record {
  none = λ t ts e. no_names t ts (e ∙ close_is);
  last = λ c ts rest x e d. last_named c ts rest x (e ∙ close_is) d;
  more = λ c ts mid rest x xs e d m. more_named c ts mid rest x xs (e ∙ comma_is) d m;
}

each_name : (xs : List (List ℕ)) → ValidNames xs → Each name_token OneName xs
each_name [] h = tt
each_name (x ∷ xs) h = (((h.0.0, tt), λ at rest. record { to = next at (Word x); reads = one (token at (Word x)) (placed (next at (Word x)) rest) x (name_is x h.0.1) }), each_name xs h.1)

pub params_lex : (xs : List (List ℕ)) → ValidNames xs → AllLex (params_tokens xs)
params_lex xs h = enclosed_lexes (listed (map name_token xs)) (listed_lexes OneName name_token xs (each_name xs h))

pub params_read : (xs : List (List ℕ)) → ValidNames xs → Reader (λ ts us. ReadsParams ts xs us) (params_tokens xs)
params_read xs h at rest =
    let list = listed (map name_token xs) in
    let o = Mark (codes "(") in
    let i = list_reads names name_token xs (each_name xs h) (next at o) rest in
    subst (λ ps. Reach (λ ts us. ReadsParams ts xs us) at (o ∷ ps) rest) (sym (append_assoc list (Mark (codes ")") ∷ []) rest))
    (record { to = i.to; reads = params (token at o) (placed (next at o) (list ++ Mark (codes ")") ∷ rest)) (placed i.to rest) xs open_is i.reads })
