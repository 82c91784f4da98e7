-- What is in the grammar of cells and has no early error, the descent gives.
use Rattle.std.proofs.Common.{◌≡◌, ℕ, ◌+◌, ◌≤◌, ◌⊎◌, inl, inr, List, [], ◌∷◌, length, Bool, true, false, Option, Some, None, option_map, refl, sym, subst, ap, ◌∙◌, cond, rules, arith}
use Rattle.ob_lex.specs.declared.punctuator.Punctuator.TheVariants as mark
use Rattle.ob_base.specs.declared.reserved.ReservedWord.TheVariants as word
use Rattle.ob_lex.specs.declared.token.Token.{Token}
use Rattle.ob_lex.specs.declared.token.TokenKind.{TokenKind}
use Rattle.ob_lex.specs.declared.token.TokenKind.TheVariants as kind
use Rattle.ob_base.specs.declared.operators.AssignOp.{AssignOp}
use Rattle.ob_tree_types.specs.declared.tree.CatchPart.{CatchPart}
use Rattle.ob_tree_types.specs.declared.tree.Decl.{Decl}
use Rattle.ob_tree_types.specs.declared.tree.DeclValue.{DeclValue}
use Rattle.ob_tree_types.specs.declared.tree.DeclValue.TheOpen as layer
use Rattle.ob_tree_types.specs.declared.tree.Expr.{Expr, out-Expr, the_lemmas}
use Rattle.ob_tree_types.specs.declared.tree.Expr.TheVariants as node
use Rattle.ob_tree_types.specs.declared.tree.FnBody.{FnBody}
use Rattle.ob_tree_types.specs.declared.tree.ForHead.{ForHead}
use Rattle.ob_tree_types.specs.declared.tree.Function.{Function}
use Rattle.ob_tree_types.specs.declared.tree.PropNode.{PropNode}
use Rattle.ob_tree_types.specs.declared.tree.Stmt.{Stmt}
use Rattle.ob_tree_types.specs.declared.cell.CellTree.{CellTree}
use Rattle.ob_tree_types.specs.declared.cell.CellTree.TheVariants as cell
use Rattle.ob_tree_types.specs.declared.cell.ImportTree.{ImportTree}
use Rattle.ob_grammar.specs.Marks.{IsMark, IsWord, IsName, NotMark}
use Rattle.ob_grammar.specs.declared.form.Form.{Form}
use Rattle.ob_grammar.specs.declared.form.Form.TheVariants.{Target, Other}
use Rattle.ob_grammar.specs.declared.piece.Piece.{Piece}
use Rattle.ob_grammar.specs.Forms.{Stops}
use Rattle.ob_grammar.specs.Lists.{ReadsArrowHead, one_param, all_params, params}
use Rattle.ob_grammar.specs.Grammar.{Rule, whole, conditional, short, left, Reads, ReadsBlock, ReadsFunction}
use Rattle.ob_grammar.specs.Grammar as grammar
use Rattle.ob_grammar.specs.Grammar.{arrow, assigned, unassigned, chosen, unchosen, function}
use Rattle.ob_grammar.specs.Cells as cells
use Rattle.ob_grammar.specs.Cells.{of_block, of_value, ReadsBody, AtEnd, plain_end, ended, IsFunctionText, ReadsImport, Derives}
use Rattle.ob_grammar.specs.Early.{is_free_of_errors}
use Rattle.ob_grammar.specs.Taking.{Read, ◌>>=◌, piece, opens_brace, is_assign, is_function, name_of, take, next_is, before, one}
use Rattle.ob_grammar.specs.Reading.{block_of, left_of, short_of, reads, reads_statement}
use Rattle.ob_grammar.specs.ReadingCells.{is_end, all_of, named_cell, function_by, value_cell, body_by, body_of, bare_by, bare_of, cell_head, headed, cell_by, cell_of, import_of}
use Rattle.ob_grammar.proofs.Complete.{deeper, complete, complete_block}
use Rattle.ob_grammar.proofs.CompleteExpressions.{no_brace, left_is, name_is, viewof_is, steps_stop, left_short}
use Rattle.ob_grammar.proofs.CompleteImports.{import_is}
use Rattle.ob_grammar.proofs.CompleteTaking.{then_is, take_off, before_on, one_on, one_off, name_on, next_on}
use Rattle.ob_grammar.proofs.Firsts.{First, first_is, first, begins, begins_left}
use Rattle.ob_grammar.proofs.FunctionTexts.{function_in, function_reads, function_whole, need_whole, tall_whole}
use Rattle.ob_grammar.proofs.Heads.{same_token, kinds_meet, after_name_is, head_no_name, name_from}
use Rattle.ob_grammar.proofs.Need.{need, need_function, need_block}
use Rattle.ob_grammar.proofs.Tall.{tall, tall_function, tall_block}
use Rattle.ob_grammar.proofs.Statements.{need_body, tall_body, CellsAreComplete}
use Rattle.ob_grammar.proofs.Stopping.{IsValue, operand_value, fits, quiet, less, rank_semicolon, rank_assign_mark, rank_assign, rank_question}
use Rattle.ob_grammar.proofs.Tests.{opens_brace_on, is_semicolon_on, is_assign_on}

-- ---- the end of the text

end_on : {rest : List Token} → AtEnd rest → is_end rest ≡ true
end_on plain_end = refl
end_on (ended t h) = is_semicolon_on t.kind h

all_is : {A : Type 0} (r : Read A) (a : A) (rest : List Token) → r ≡ Some (a, rest) → AtEnd rest → all_of r ≡ Some a
all_is r a rest h e = ap all_of h ∙ ap (λ b. cond b (Some a) None) (end_on e)

at_end_stops : (f : Form) {rest : List Token} → IsValue f → AtEnd rest → Stops f 17 rest
at_end_stops f v plain_end = tt
at_end_stops f v (ended t h) = quiet f 17 t v (omega (arith, rank_semicolon t h))

assign_no_end : (rest : List Token) (q : Token) (ts : List Token) → AtEnd rest → rest ≡ q ∷ ts → IsMark mark.Assign q → ⊥
assign_no_end rest q ts plain_end e h = cc
assign_no_end rest q ts (ended t s) e h = let k = kinds_meet _ _ e s h in differ k
  where
    differ : kind.Punctuator mark.Semicolon ≡ kind.Punctuator mark.Assign → ⊥
    differ k = cc

-- ---- bodies

block_brace : {ts : List Token} {items : List Stmt} {rest : List Token} → ReadsBlock ts items rest → next_is opens_brace ts ≡ true
block_brace (grammar.block t ts rest items h d) = next_on opens_brace t ts true (opens_brace_on t.kind h)

whole_read : {ts : List Token} {a : Expr} {f : Form} {rest : List Token} (d : Reads whole ts a f rest) → AtEnd rest → (limit : ℕ) → tall d ≤ limit → (m : ℕ) → 1 + need d ≤ m
    → reads limit m whole ts ≡ Some (piece a f, rest)
whole_read {ts = ts} {a = a} {f = f} {rest = rest} d e limit top m le = deeper limit whole ts (Some (piece a f, rest)) (need d) (complete limit d (at_end_stops f (fits d) e) top) m le

body_is : {ts : List Token} {g : Function} {rest : List Token} (d : ReadsBody ts g rest) → AtEnd rest → (limit : ℕ) → tall_body d ≤ limit → (m : ℕ) → need_body d ≤ m → body_of limit m ts ≡ Some (g, rest)
unfolding body_of
body_is (cells.block ts rest items d) e limit top m le = ap (λ b. body_by limit m b ts) (block_brace d)
    ∙ then_is (block_of limit (reads limit m) (reads_statement limit m) ts) items rest _ (complete_block limit d top m le)
body_is (cells.value ts rest a f h d) e limit top m le = ap (λ b. body_by limit m b ts) (no_brace ts h) ∙ then_is (reads limit m whole ts) (piece a f) rest _ (whole_read d e limit top m le)

bare_block : {ts : List Token} {items : List Stmt} {rest : List Token} (d : ReadsBlock ts items rest) → AtEnd rest → (limit : ℕ) → tall_block d ≤ limit → (m : ℕ) → need_block d ≤ m
    → bare_of limit m ts ≡ Some (cell.Bare (of_block items))
unfolding bare_of
bare_block {ts = ts} {items = items} {rest = rest} d e limit top m le = ap (λ b. all_of (bare_by limit m b ts)) (block_brace d)
    ∙ all_is _ (cell.Bare (of_block items)) rest (then_is (block_of limit (reads limit m) (reads_statement limit m) ts) items rest _ (complete_block limit d top m le)) e

bare_value : {ts : List Token} {a : Expr} {f : Form} {rest : List Token} → NotMark mark.OpenBrace ts → (d : Reads whole ts a f rest) → AtEnd rest → (limit : ℕ) → tall d ≤ limit → (m : ℕ) → 1 + need d ≤ m
    → bare_of limit m ts ≡ Some (value_cell (next_is is_function ts) a)
unfolding bare_of
bare_value {ts = ts} {a = a} {f = f} {rest = rest} h d e limit top m le = ap (λ b. all_of (bare_by limit m b ts)) (no_brace ts h)
    ∙ all_is _ (value_cell (next_is is_function ts) a) rest (then_is (reads limit m whole ts) (piece a f) rest _ (whole_read d e limit top m le)) e

-- ---- an expression that is no function cell

function_from : (k : TokenKind) → is_function k ≡ true → k ≡ kind.Reserved word.Function
unfolding is_function
function_from (kind.Reserved word.Function) h = refl
function_from _ h = cc

by_own_name : (a : Expr) (g : Function) (o : Option (List ℕ)) → ((x : List ℕ) → o ≡ Some x → ⊥) → named_cell o g a ≡ cell.Bare (of_value a)
by_own_name a g None n = refl
by_own_name a g (Some x) n = absurd (n x refl)

by_layer : (a : Expr) (o : layer.Expr-F DeclValue Expr FnBody ForHead PropNode Stmt CatchPart Decl Function)
    → ((g : Function) (x : List ℕ) → function_in o ≡ Some g → g.name ≡ Some x → ⊥) → function_by o a ≡ cell.Bare (of_value a)
by_layer a (layer.Expr::Function g) n = by_own_name a g g.name (λ x h. n g x refl h)
by_layer a _ n = refl

by_word : (t : Token) (ts : List Token) (a : Expr) (f : Form) (rest : List Token) → Reads whole (t ∷ ts) a f rest → AtEnd rest
    → ((g : Function) → IsFunctionText (t ∷ ts) g → ⊥) → (b : Bool) → is_function t.kind ≡ b → value_cell b a ≡ cell.Bare (of_value a)
by_word t ts a f rest d e other false h = refl
by_word t ts a f rest d e other true h = by_layer a (out-Expr a) (λ g x w n.
    other g (record { name = x; rest = rest; reads = function_reads d t ts refl (function_from t.kind h) g w; named = n; ends = e }))

value_cell_is : (t : Token) (ts : List Token) (a : Expr) (f : Form) (rest : List Token) → Reads whole (t ∷ ts) a f rest → AtEnd rest
    → ((g : Function) → IsFunctionText (t ∷ ts) g → ⊥) → value_cell (next_is is_function (t ∷ ts)) a ≡ cell.Bare (of_value a)
unfolding next_is
value_cell_is t ts a f rest d e other = by_word t ts a f rest d e other (is_function t.kind) refl

-- ---- a name and `=` before a body

head_on : (limit m : ℕ) (n q : Token) (ts : List Token) (x : List ℕ) → IsName x n → IsMark mark.Assign q → cell_head limit m (n ∷ q ∷ ts) ≡ Some (x, ts)
unfolding cell_head
head_on limit m n q ts x h hq = then_is (one name_of (n ∷ q ∷ ts)) x (q ∷ ts) _ (one_on name_of x n (q ∷ ts) (name_on n x h)) ∙ before_on is_assign x q ts (is_assign_on q.kind hq)

assign_from : (k : TokenKind) → is_assign k ≡ true → k ≡ kind.Punctuator mark.Assign
unfolding is_assign
assign_from (kind.Punctuator mark.Assign) h = refl
assign_from _ h = cc

assign_by : (x : List ℕ) (q : Token) (us : List Token) (b : Bool) → is_assign q.kind ≡ b → (IsMark mark.Assign q → ⊥) → before is_assign x (q ∷ us) ≡ None
assign_by x q us true h n = absurd (n (assign_from q.kind h))
assign_by x q us false h n = ap (option_map (λ rest. (x, rest))) (take_off is_assign q us h)

assign_none : (x : List ℕ) (ts : List Token) → ((q : Token) (us : List Token) → ts ≡ q ∷ us → IsMark mark.Assign q → ⊥) → before is_assign x ts ≡ None
unfolding take
assign_none x [] n = refl
assign_none x (q ∷ us) n = assign_by x q us (is_assign q.kind) refl (n q us refl)

name_by : (limit m : ℕ) (n : Token) (ts : List Token) (o : Option (List ℕ)) → name_of n.kind ≡ o
    → ((q : Token) (us : List Token) (x : List ℕ) → ts ≡ q ∷ us → IsName x n → IsMark mark.Assign q → ⊥) → cell_head limit m (n ∷ ts) ≡ None
unfolding cell_head
name_by limit m n ts None h w = ap (λ r. r >>= λ x mid. before is_assign x mid) (one_off name_of n ts h)
name_by limit m n ts (Some x) h w = then_is (one name_of (n ∷ ts)) x ts _ (one_on name_of x n ts h) ∙ assign_none x ts (λ q us e hq. w q us x e (name_from n.kind x h) hq)

head_off : (limit m : ℕ) (ts : List Token) → ((n q : Token) (us : List Token) (x : List ℕ) → ts ≡ n ∷ q ∷ us → IsName x n → IsMark mark.Assign q → ⊥) → cell_head limit m ts ≡ None
unfolding cell_head one
head_off limit m [] w = refl
head_off limit m (n ∷ ts) w = name_by limit m n ts (name_of n.kind) refl (λ q us x e h hq. w n q us x (ap (λ vs. n ∷ vs) e) h hq)

-- ---- a name and `=` read as a bare cell have an early error

early : (op : AssignOp) (x : List ℕ) (b : Expr) → is_free_of_errors (cell.Bare (of_value (node.Assign op (node.Name x) b))) ≡ false
unfolding is_free_of_errors
early op x b = search (rules, the_lemmas)

assign_not_question : kind.Punctuator mark.Question ≡ kind.Punctuator mark.Assign → ⊥
assign_not_question e = cc

assign_not_arrow : kind.Punctuator mark.Arrow ≡ kind.Punctuator mark.Assign → ⊥
assign_not_arrow e = cc

abbrev read_or : Piece × List Token → Read Piece → Piece × List Token
read_or p None = p
read_or p (Some q) = q

one_reading : {r : Read Piece} {p q : Piece × List Token} → r ≡ Some p → r ≡ Some q → p ≡ q
one_reading {p = p} h e = ap (read_or p) (sym h ∙ e)

-- a name before `=` is read as such
name_left : (limit m : ℕ) (t q : Token) (ts : List Token) (x : List ℕ) → IsName x t → IsMark mark.Assign q
    → left_of limit (reads limit m) (reads_statement limit m) (t ∷ q ∷ ts) ≡ Some (piece (node.Name x) Target, q ∷ ts)
name_left limit m t q ts x h hq = left_is limit (reads limit m) (reads_statement limit m) (t ∷ q ∷ ts) (q ∷ ts) (q ∷ ts) (piece (node.Name x) Target) (piece (node.Name x) Target)
    (name_is limit (reads limit m) (reads_statement limit m) t (q ∷ ts) x h)
    (steps_stop limit (reads limit m) (reads_statement limit m) (length (q ∷ ts)) (node.Name x) Target (q ∷ ts) tt (omega (arith, rank_assign_mark q hq)))

-- the target of an assignment that begins with a name and `=`
target_is : (t q : Token) (ts : List Token) (x : List ℕ) {all : List Token} {a : Expr} {rest : List Token} (d : Reads left all a Target rest) → all ≡ t ∷ q ∷ ts → IsName x t
    → IsMark mark.Assign q → Stops Target 1 rest → a ≡ node.Name x
target_is t q ts x {a = a} {rest = rest} d e h hq s =
    let k : left_of (tall d) (reads (tall d) (need d)) (reads_statement (tall d) (need d)) (t ∷ q ∷ ts) ≡ Some (piece a Target, rest) =
    subst (λ (us : List Token). left_of (tall d) (reads (tall d) (need d)) (reads_statement (tall d) (need d)) us ≡ Some (piece a Target, rest)) e (complete (tall d) d s (omega arith) (need d) (omega arith)) in
    ap (λ (p : Piece × List Token). p.0.tree) (one_reading k (name_left (tall d) (need d) t q ts x h hq))

true_false : (b : Bool) → b ≡ true → b ≡ false → ⊥
true_false b h e = cc

assigned_name : {r : Rule} {all : List Token} {a : Expr} {f : Form} {rest : List Token} → Reads r all a f rest → (r ≡ whole) ⊎ (r ≡ conditional) → (t q : Token) (ts : List Token) (x : List ℕ)
    → all ≡ t ∷ q ∷ ts → IsName x t → IsMark mark.Assign q → AtEnd rest → is_free_of_errors (cell.Bare (of_value a)) ≡ true → ⊥
assigned_name (arrow us mid rest u xs b f h1 h2 h3 d1) r t q ts x e hx hq s w = assign_not_arrow (kinds_meet _ _ (head_no_name u mid h1 t (q ∷ ts) x e hx) h2 hq)
assigned_name (assigned us mid rest u op a b f d1 h1 d2) r t q ts x e hx hq s w =
    let m : u ∷ mid ≡ q ∷ ts = after_name_is d1 t (q ∷ ts) x e hx (omega (arith, rank_assign_mark q hq)) in
    let v : Stops Target 1 (u ∷ mid) = subst (Stops Target 1) (sym m) (omega (arith, rank_assign_mark q hq)) in
    let k = target_is t q ts x d1 e hx hq v in
    true_false _ w (ap (λ (c : Expr). is_free_of_errors (cell.Bare (of_value (node.Assign op c b)))) k ∙ early op x b)
assigned_name (unassigned us rest a f d1) r t q ts x e hx hq s w = assigned_name d1 (inr refl) t q ts x e hx hq s w
assigned_name (chosen us next second rest p c a b d f g h d1 h1 d2 h2 d3) r t q ts x e hx hq s w =
    assign_not_question (kinds_meet _ _ (after_name_is d1 t (q ∷ ts) x e hx (omega (arith, rank_assign_mark q hq))) h1 hq)
assigned_name (unchosen us rest a f d1) r t q ts x e hx hq s w =
    assign_no_end rest q ts s (after_name_is d1 t (q ∷ ts) x e hx (omega (arith, rank_assign_mark q hq))) hq
assigned_name _ (inl e) t q ts x al hx hq s w = cc
assigned_name _ (inr e) t q ts x al hx hq s w = cc

-- ---- `viewof`, a name and `=` read as no bare cell

view_left : (limit m : ℕ) (t n q : Token) (ts : List Token) (x : List ℕ) → IsWord word.Viewof t → IsName x n → IsMark mark.Assign q
    → left_of limit (reads limit m) (reads_statement limit m) (t ∷ n ∷ q ∷ ts) ≡ Some (piece (node.ViewofName x) Other, q ∷ ts)
view_left limit m t n q ts x h hn hq = left_is limit (reads limit m) (reads_statement limit m) (t ∷ n ∷ q ∷ ts) (q ∷ ts) (q ∷ ts) (piece (node.ViewofName x) Other) (piece (node.ViewofName x) Other)
    (viewof_is limit (reads limit m) (reads_statement limit m) t n (q ∷ ts) x h hn)
    (steps_stop limit (reads limit m) (reads_statement limit m) (length (q ∷ ts)) (node.ViewofName x) Other (q ∷ ts) tt (omega (arith, rank_assign_mark q hq)))

viewof_begins : (t : Token) (ts : List Token) → IsWord word.Viewof t → First begins_left (t ∷ ts)
unfolding begins_left
viewof_begins t ts h = first_is begins_left t ts (ap begins_left h)

view_short : (limit m : ℕ) (t n q : Token) (ts : List Token) (x : List ℕ) → IsWord word.Viewof t → IsName x n → IsMark mark.Assign q
    → short_of limit (reads limit m) (reads_statement limit m) (t ∷ n ∷ q ∷ ts) ≡ Some (piece (node.ViewofName x) Other, q ∷ ts)
view_short limit m t n q ts x h hn hq = left_short limit (reads limit m) (reads_statement limit m) (t ∷ n ∷ q ∷ ts) ts q (node.ViewofName x) Other (viewof_begins t (n ∷ q ∷ ts) h) tt
    (view_left limit m t n q ts x h hn hq) (rank_assign_mark q hq)

target_not_other : Target ≡ Other → ⊥
target_not_other e = cc

name_not_viewof : (x : List ℕ) → kind.Name x ≡ kind.Reserved word.Viewof → ⊥
name_not_viewof x e = cc

open_not_viewof : kind.Punctuator mark.OpenParenthesis ≡ kind.Reserved word.Viewof → ⊥
open_not_viewof e = cc

head_no_viewof : {all : List Token} {xs : List (List ℕ)} {rest : List Token} → ReadsArrowHead all xs rest → (t : Token) (ts : List Token) → all ≡ t ∷ ts → IsWord word.Viewof t → ⊥
head_no_viewof (one_param u us y h) t ts e hx = name_not_viewof y (kinds_meet _ _ e h hx)
head_no_viewof (all_params us rest xs (params u vs r ys h d)) t ts e hx = open_not_viewof (kinds_meet _ _ e h hx)

-- what follows a Short that begins so
view_rest : (t n q : Token) (ts : List Token) (x : List ℕ) {all : List Token} {a : Expr} {f : Form} {rest : List Token} (d : Reads short all a f rest) → all ≡ t ∷ n ∷ q ∷ ts
    → IsWord word.Viewof t → IsName x n → IsMark mark.Assign q → Stops f 14 rest → rest ≡ q ∷ ts
view_rest t n q ts x {a = a} {f = f} {rest = rest} d e h hn hq s =
    let k : short_of (tall d) (reads (tall d) (need d)) (reads_statement (tall d) (need d)) (t ∷ n ∷ q ∷ ts) ≡ Some (piece a f, rest) =
    subst (λ (us : List Token). short_of (tall d) (reads (tall d) (need d)) (reads_statement (tall d) (need d)) us ≡ Some (piece a f, rest)) e (complete (tall d) d s (omega arith) (need d) (omega arith)) in
    ap (λ (p : Piece × List Token). p.1) (one_reading k (view_short (tall d) (need d) t n q ts x h hn hq))

view_form : (t n q : Token) (ts : List Token) (x : List ℕ) {all : List Token} {a : Expr} {f : Form} {rest : List Token} (d : Reads left all a f rest) → all ≡ t ∷ n ∷ q ∷ ts
    → IsWord word.Viewof t → IsName x n → IsMark mark.Assign q → Stops f 1 rest → f ≡ Other
view_form t n q ts x {a = a} {f = f} {rest = rest} d e h hn hq s =
    let k : left_of (tall d) (reads (tall d) (need d)) (reads_statement (tall d) (need d)) (t ∷ n ∷ q ∷ ts) ≡ Some (piece a f, rest) =
    subst (λ (us : List Token). left_of (tall d) (reads (tall d) (need d)) (reads_statement (tall d) (need d)) us ≡ Some (piece a f, rest)) e (complete (tall d) d s (omega arith) (need d) (omega arith)) in
    ap (λ (p : Piece × List Token). p.0.form) (one_reading k (view_left (tall d) (need d) t n q ts x h hn hq))

no_view : {r : Rule} {all : List Token} {a : Expr} {f : Form} {rest : List Token} → Reads r all a f rest → (r ≡ whole) ⊎ (r ≡ conditional) → (t n q : Token) (ts : List Token) (x : List ℕ)
    → all ≡ t ∷ n ∷ q ∷ ts → IsWord word.Viewof t → IsName x n → IsMark mark.Assign q → AtEnd rest → ⊥
no_view (arrow us mid rest u xs b f h1 h2 h3 d1) r t n q ts x e h hn hq s = head_no_viewof h1 t (n ∷ q ∷ ts) e h
no_view (assigned us mid rest u op a b f d1 h1 d2) r t n q ts x e h hn hq s =
    target_not_other (view_form t n q ts x d1 e h hn hq (let w = rank_assign u op h1 in omega arith))
no_view (unassigned us rest a f d1) r t n q ts x e h hn hq s = no_view d1 (inr refl) t n q ts x e h hn hq s
no_view (chosen us next second rest p c a b d f g i d1 h1 d2 h2 d3) r t n q ts x e h hn hq s =
    assign_not_question (kinds_meet _ _ (view_rest t n q ts x d1 e h hn hq (quiet f 14 p (operand_value f (fits d1)) (omega (arith, rank_question p h1)))) h1 hq)
no_view (unchosen us rest a f d1) r t n q ts x e h hn hq s =
    assign_no_end rest q ts s (view_rest t n q ts x d1 e h hn hq (less f 17 14 rest (omega arith) (at_end_stops f (operand_value f (fits d1)) s))) hq
no_view _ (inl w) t n q ts x e h hn hq s = cc
no_view _ (inr w) t n q ts x e h hn hq s = cc

-- ---- cells, by their first token

cell_at : (limit m : ℕ) (t : Token) (ts : List Token) (k : TokenKind) → t.kind ≡ k → cell_of limit m (t ∷ ts) ≡ cell_by limit m k t ts
unfolding cell_of
cell_at limit m t ts k h = ap (λ x. cell_by limit m x t ts) h

by_bare : (limit m : ℕ) (k : TokenKind) (t : Token) (ts : List Token) → begins k ≡ true → (k ≡ kind.Reserved word.Viewof → cell_head limit m ts ≡ None)
    → ((x : List ℕ) → k ≡ kind.Name x → cell_head limit m (t ∷ ts) ≡ None) → cell_by limit m k t ts ≡ bare_of limit m (t ∷ ts)
unfolding cell_by begins
by_bare limit m (kind.Reserved word.Import) t ts h v n = cc
by_bare limit m (kind.Reserved word.Viewof) t ts h v n = ap (λ o. headed limit m cell.View o (t ∷ ts)) (v refl)
by_bare limit m (kind.Reserved word.Mutable) t ts h v n = cc
by_bare limit m (kind.Name x) t ts h v n = ap (λ o. headed limit m cell.Named o (t ∷ ts)) (n x refl)
by_bare limit m _ t ts h v n = refl

block_at : {ts : List Token} {items : List Stmt} {rest : List Token} (limit m : ℕ) → ReadsBlock ts items rest → cell_of limit m ts ≡ bare_of limit m ts
unfolding cell_by
block_at limit m (grammar.block t ts rest items h d) = cell_at limit m t ts (kind.Punctuator mark.OpenBrace) h

begun : {t : Token} {ts : List Token} → First begins (t ∷ ts) → begins t.kind ≡ true
begun p = ap (λ (v : Token). begins v.kind) (same_token p.is) ∙ p.passes

value_at : (limit m : ℕ) (t : Token) (ts : List Token) (a : Expr) (f : Form) (rest : List Token) → Reads whole (t ∷ ts) a f rest → AtEnd rest
    → is_free_of_errors (cell.Bare (of_value a)) ≡ true → cell_of limit m (t ∷ ts) ≡ bare_of limit m (t ∷ ts)
value_at limit m t ts a f rest d e w = cell_at limit m t ts t.kind refl ∙ by_bare limit m t.kind t ts (begun (first d))
    (λ h. head_off limit m ts (λ n q us x i hn hq. no_view d (inl refl) t n q us x (ap (λ vs. t ∷ vs) i) h hn hq e))
    (λ x h. head_off limit m (t ∷ ts) (λ n q us y i hn hq. assigned_name d (inl refl) n q us y i hn hq e w))

bare_value_is : (limit m : ℕ) (ts : List Token) (a : Expr) (f : Form) (rest : List Token) → NotMark mark.OpenBrace ts → (d : Reads whole ts a f rest) → AtEnd rest
    → ((g : Function) → IsFunctionText ts g → ⊥) → is_free_of_errors (cell.Bare (of_value a)) ≡ true → tall d ≤ limit → 1 + need d ≤ m → cell_of limit m ts ≡ Some (cell.Bare (of_value a))
bare_value_is limit m [] a f rest h d e other w top le = absurd (nothing (first d))
  where
    nothing : First begins [] → ⊥
    nothing p = let q = p.is in cc
bare_value_is limit m (t ∷ ts) a f rest h d e other w top le = value_at limit m t ts a f rest d e w ∙ bare_value h d e limit top m le ∙ ap Some (value_cell_is t ts a f rest d e other)

-- ---- function cells

function_begins : {ts : List Token} {g : Function} {rest : List Token} → ReadsFunction ts g rest → (next_is is_function ts ≡ true) × NotMark mark.OpenBrace ts
unfolding is_function next_is
function_begins (function t ts mid rest s items h1 h2 d1) = (ap is_function h1, λ e. differ (sym h1 ∙ e))
  where
    differ : kind.Reserved word.Function ≡ kind.Punctuator mark.OpenBrace → ⊥
    differ k = cc

function_at : {ts : List Token} {g : Function} {rest : List Token} (limit m : ℕ) → ReadsFunction ts g rest → cell_of limit m ts ≡ bare_of limit m ts
unfolding cell_by
function_at limit m (function t ts mid rest s items h1 h2 d1) = cell_at limit m t ts (kind.Reserved word.Function) h1

function_layer : (g : Function) → out-Expr (node.Function g) ≡ layer.Expr::Function g
function_layer g = search (rules, the_lemmas)

function_cell_is : (limit m : ℕ) (ts : List Token) (g : Function) (d : IsFunctionText ts g) → tall_function d.reads ≤ limit → 1 + need_function d.reads ≤ m → cell_of limit m ts ≡ Some (cell.Function g)
function_cell_is limit m ts g d top le =
    let p = function_begins d.reads in
    function_at limit m d.reads ∙ bare_value p.1 (function_whole d.reads) d.ends limit (let q = tall_whole d.reads in omega arith) m (let q = need_whole d.reads in omega arith)
    ∙ ap (λ b. Some (value_cell b (node.Function g))) p.0 ∙ ap (λ o. Some (function_by o (node.Function g))) (function_layer g)
    ∙ ap (λ o. Some (named_cell o g (node.Function g))) d.named

-- ---- cells

import_at : {ts : List Token} {i : ImportTree} {rest : List Token} (limit m : ℕ) → ReadsImport ts i rest → AtEnd rest → cell_of limit m ts ≡ Some (cell.Import i)
unfolding cell_by
import_at limit m (cells.import t o q ts mid rest list given id ht d w ho hq) e = cell_at limit m t ts (kind.Reserved word.Import) ht
    ∙ all_is _ (cell.Import (record { specs = list; with = given; from = id })) rest
    (then_is (import_of ts) (record { specs = list; with = given; from = id }) rest _ (import_is o q ts mid rest list given id d w ho hq)) e

headed_is : (limit m : ℕ) (make : List ℕ → Function → CellTree) (x : List ℕ) (ts : List Token) (g : Function) (rest all : List Token) (o : Read (List ℕ)) → o ≡ Some (x, ts)
    → body_of limit m ts ≡ Some (g, rest) → AtEnd rest → headed limit m make o all ≡ Some (make x g)
headed_is limit m make x ts g rest all o h d e = ap (λ r. headed limit m make r all) h ∙ all_is _ (make x g) rest (then_is (body_of limit m ts) g rest _ d) e

pub cells_are_complete : CellsAreComplete
unfolding cell_of cell_by
cells_are_complete _ _ cells.nothing w limit top m le = refl
cells_are_complete _ _ (cells.imported ts rest i d e) w limit top m le = import_at limit m d e
cells_are_complete _ _ (cells.function_cell ts g d) w limit top m le = function_cell_is limit m ts g d top le
cells_are_complete _ _ (cells.bare ts rest g (cells.block us rest2 items d) e other) w limit top m le = block_at limit m d ∙ bare_block d e limit top m le
cells_are_complete _ _ (cells.bare ts rest g (cells.value us rest2 a f h d) e other) w limit top m le = bare_value_is limit m ts a f rest h d e other w top le
cells_are_complete _ _ (cells.named n q ts rest x g hn hq d e) w limit top m le = cell_at limit m n (q ∷ ts) (kind.Name x) hn
    ∙ headed_is limit m cell.Named x ts g rest (n ∷ q ∷ ts) _ (head_on limit m n q ts x hn hq) (body_is d e limit top m le) e
cells_are_complete _ _ (cells.view t n q ts rest x g ht hn hq d e) w limit top m le = cell_at limit m t (n ∷ q ∷ ts) (kind.Reserved word.Viewof) ht
    ∙ headed_is limit m cell.View x ts g rest (t ∷ n ∷ q ∷ ts) _ (head_on limit m n q ts x hn hq) (body_is d e limit top m le) e
cells_are_complete _ _ (cells.mutable_cell t n q ts rest x g ht hn hq d e) w limit top m le = cell_at limit m t (n ∷ q ∷ ts) (kind.Reserved word.Mutable) ht
    ∙ headed_is limit m cell.Mutable x ts g rest (t ∷ n ∷ q ∷ ts) _ (head_on limit m n q ts x hn hq) (body_is d e limit top m le) e
