-- The walk of each part of a tree and the names of that part tell the same.
use Rattle.std.proofs.Common.{◌≡◌, ℕ, Bool, not, List, [], ◌∷◌, ◌++◌, map, Option, Some, None, rules, refl, ap, ◌∙◌}
use Rattle.std.specs.List.{filter}
use Rattle.std.proofs.lemmas.List.{append-nil}
use Rattle.ob_tree_types.specs.declared.cell.SpecForm.TheVariants as forms
use Rattle.ob_tree_types.specs.declared.tree.DeclValue.{DeclValue}
use Rattle.ob_tree_types.specs.declared.tree.DeclValue.TheBlock as tree
use Rattle.ob_tree_types.specs.declared.tree.Expr.{Expr, fold_out-Expr}
use Rattle.ob_tree_types.specs.declared.tree.Expr.TheVariants as expr
use Rattle.ob_tree_types.specs.declared.tree.FnBody.{FnBody, fold_out-FnBody}
use Rattle.ob_tree_types.specs.declared.tree.FnBody.TheVariants as body_of
use Rattle.ob_tree_types.specs.declared.tree.ForHead.{ForHead, fold_out-ForHead}
use Rattle.ob_tree_types.specs.declared.tree.ForHead.TheVariants as head_of
use Rattle.ob_tree_types.specs.declared.tree.PropNode.{PropNode}
use Rattle.ob_tree_types.specs.declared.tree.Stmt.{Stmt, the_lemmas, fold_out-Stmt}
use Rattle.ob_tree_types.specs.declared.tree.Stmt.TheVariants as stmt
use Rattle.ob_tree_types.specs.declared.tree.Function.{Function}
use denote.Hole.Carrier as carrier
use Rattle.ob_tree.specs.Scopes.{Bound, Walk, inside, in_function}
use Rattle.ob_tree.specs.Names.{Referred}
use Rattle.ob_tree.specs.Walks.{Item, Declared, Made, variable, constant, binding, bound_if_there, all, only, declaring, block, as_expression, declares_of, walks_of, names_of, values_of, value_walk, expr_walk, body_item, head_item, prop_walk, stmt_item, catch_walk, decl_declared, made}
use Rattle.ob_tree.specs.Declarations.{declared_names, declared_by, declared, head_names, own_bindings}
use Rattle.ob_tree.specs.Functions.{binds, in_value, in_expr, in_exprs, in_body, in_prop, in_props, in_decls, in_head, in_stmt, in_stmts, located}
use Rattle.ob_tree.proofs.PartLaws.{Agrees, agree_named, agree_outside, agree_nothing, agree_inside, agree_function, moved, boxed, two, three, four}

-- the names of a part that bindings around it don't catch
abbrev pub uncaught : List Bound → (Bool → List Referred) → Bool → List Referred
uncaught bs names all = filter (λ r. not (binds bs r)) (names all)

-- an item declares these bindings, and its walk and these names tell the same
pub record ItemAgrees (i : Item) (bs : List Bound) (names : Bool → List Referred) : Type 0 where
  pub declares : i.declares ≡ bs
  pub walk : Agrees i.walk names

plain : {i : Item} {w : Walk} {n : Bool → List Referred} → Agrees w n → i ≡ only w → ItemAgrees i [] n
plain a e = record { declares = ap (λ (i : Item). i.declares) e; walk = moved (ap (λ (i : Item). i.walk) e) a }

like : {w v : Walk} {n : Bool → List Referred} → Agrees v n → w ≡ v → Agrees w n
like a e = moved e a

scoped : {w v : Walk} {n : Bool → List Referred} (bs : List Bound) → Agrees v n → w ≡ inside bs v → Agrees w (uncaught bs n)
scoped bs a e = moved e (agree_inside bs a)

blocked : (items : List Item) {bs : List Bound} {n : Bool → List Referred} → declares_of items ≡ bs → Agrees (walks_of items) n → Agrees (block items) (uncaught bs n)
blocked items {bs} e a = scoped bs a (ap (λ cs. inside cs (walks_of items)) e)

caught : (items : List Item) {bs : List Bound} {n : Bool → List Referred} (x : Option (List ℕ)) → declares_of items ≡ bs → Agrees (walks_of items) n
    → Agrees (inside (bound_if_there variable x ++ declares_of items) (walks_of items)) (uncaught (bound_if_there variable x ++ bs) n)
caught items {bs} x e a = scoped (bound_if_there variable x ++ bs) a (ap (λ cs. inside (bound_if_there variable x ++ cs) (walks_of items)) e)

-- ---- declarations

decl_is : (x : List ℕ) (v : DeclValue) → decl_declared (record { name = x; value = v }) ≡ record { name = x; walk = value_walk v }
decl_is x v = search (rules, the_lemmas)

names_declared : {m : _} (kind : Bool) (r : tree.Row_of-Decl m) → names_of kind (map decl_declared (tree.items-the_row-Decl m r)) ≡ declared_names kind r
names_declared kind tree.end_of-Decl = refl
names_declared kind (tree.more_of-Decl x v rest) =
    ap (λ (d : Declared). binding kind d.name ∷ names_of kind (map decl_declared (tree.items-the_row-Decl _ rest))) (decl_is x v)
    ∙ ap (λ l. binding kind x ∷ l) (names_declared kind rest)

declared_item : {m : _} {i : Item} {n : Bool → List Referred} (kind : Bool) (r : tree.Row_of-Decl m) → Agrees (values_of (map decl_declared (tree.items-the_row-Decl m r))) n
    → i ≡ declaring kind (map decl_declared (tree.items-the_row-Decl m r)) → ItemAgrees i (declared_names kind r) n
declared_item kind r a e = record { declares = ap (λ (i : Item). i.declares) e ∙ names_declared kind r; walk = moved (ap (λ (i : Item). i.walk) e) a }

-- ---- functions

abbrev pub own_of : FnBody → List Bound
own_of (tree.Items' s items) = declared items
own_of (tree.FnBody::Value' s a) = []

own_is : (ps : List (List ℕ)) (body : FnBody) → map (binding variable) ps ++ own_of body ≡ own_bindings ps body
own_is ps (tree.Items' s items) = refl
own_is ps (tree.FnBody::Value' s a) = append-nil (map (binding variable) ps)

abbrev pub the_function : Option (List ℕ) → List (List ℕ) → Bool → FnBody → Function
the_function n ps g body = record { name = n; params = ps; generator = g; body = body }

made_is : (n : Option (List ℕ)) (ps : List (List ℕ)) (g : Bool) (body : FnBody)
    → made (the_function n ps g body) ≡ record { name = n; walk = in_function (inside (map (binding variable) ps ++ (body_item body).declares) (body_item body).walk) }
made_is n ps g body = search (rules, the_lemmas)

pub made_agrees : (n : Option (List ℕ)) (ps : List (List ℕ)) (g : Bool) (body : FnBody) → ItemAgrees (body_item body) (own_of body) (in_body body).names
    → Agrees (made (the_function n ps g body)).walk (located (the_function n ps g body) (in_body body)).names
made_agrees n ps g body a =
    moved (ap (λ (f : Made). f.walk) (made_is n ps g body))
    (agree_function (scoped (own_bindings ps body) a.walk (ap (λ bs. inside bs (body_item body).walk) (ap (λ bs. map (binding variable) ps ++ bs) a.declares ∙ own_is ps body))))

pub own_name : (n : Option (List ℕ)) (ps : List (List ℕ)) (g : Bool) (body : FnBody) → (made (the_function n ps g body)).name ≡ n
own_name n ps g body = ap (λ (f : Made). f.name) (made_is n ps g body)

expressed : {w : Walk} (n : Option (List ℕ)) (ps : List (List ℕ)) (g : Bool) (body : FnBody) → ItemAgrees (body_item body) (own_of body) (in_body body).names
    → w ≡ as_expression (made (the_function n ps g body)) → Agrees w (uncaught (bound_if_there constant n) (located (the_function n ps g body) (in_body body)).names)
expressed n ps g body a e =
    scoped (bound_if_there constant n) (made_agrees n ps g body a) (e ∙ ap (λ x. inside (bound_if_there constant x) (made (the_function n ps g body)).walk) (own_name n ps g body))

function_item : {i : Item} (n : Option (List ℕ)) (ps : List (List ℕ)) (g : Bool) (body : FnBody) → ItemAgrees (body_item body) (own_of body) (in_body body).names
    → i ≡ record { declares = bound_if_there variable (made (the_function n ps g body)).name; walk = (made (the_function n ps g body)).walk }
    → ItemAgrees i (bound_if_there variable n) (located (the_function n ps g body) (in_body body)).names
function_item n ps g body a e = record {
  declares = ap (λ (i : Item). i.declares) e ∙ ap (bound_if_there variable) (own_name n ps g body);
  walk = moved (ap (λ (i : Item). i.walk) e) (made_agrees n ps g body a);
}

-- ---- statements in a row

joined : (i : Item) (items : List Item) (bs cs : List Bound) → i.declares ≡ bs → declares_of items ≡ cs → declares_of (i ∷ items) ≡ bs ++ cs
joined i items bs cs h k = ap (λ l. l ++ declares_of items) h ∙ ap (λ l. bs ++ l) k

pub record RowAgrees (items : List Item) (bs : List Bound) (names : Bool → List Referred) : Type 0 where
  pub declares : declares_of items ≡ bs
  pub walk : Agrees (walks_of items) names

row_none : RowAgrees [] [] (λ all. [])
row_none = record { declares = refl; walk = agree_nothing }

row_more : {i : Item} {items : List Item} {bs cs : List Bound} {m n : Bool → List Referred} → ItemAgrees i bs m → RowAgrees items cs n
    → RowAgrees (i ∷ items) (bs ++ cs) (λ all. m all ++ n all)
row_more {i} {items} {bs} {cs} a r = record { declares = joined i items bs cs a.declares r.declares; walk = two a.walk r.walk refl }

items_body : {items : List Item} {i : Item} {bs : List Bound} {n : Bool → List Referred} → RowAgrees items bs n
    → i ≡ record { declares = declares_of items; walk = walks_of items } → ItemAgrees i bs n
items_body r e = record { declares = ap (λ (i : Item). i.declares) e ∙ r.declares; walk = moved (ap (λ (i : Item). i.walk) e) r.walk }

row_block : {items : List Item} {bs : List Bound} {n : Bool → List Referred} → RowAgrees items bs n → Agrees (block items) (uncaught bs n)
row_block {items} r = blocked items r.declares r.walk

row_catch : {items : List Item} {bs : List Bound} {n : Bool → List Referred} {w : Walk} (x : Option (List ℕ)) → RowAgrees items bs n
    → w ≡ inside (bound_if_there variable x ++ declares_of items) (walks_of items) → Agrees w (uncaught (bound_if_there variable x ++ bs) n)
row_catch {items} x r e = moved e (caught items x r.declares r.walk)

headed : (h : Item) {i : Item} {w : Walk} {bs : List Bound} {n : Bool → List Referred} → h.declares ≡ bs → Agrees w n → i ≡ only (inside h.declares w)
    → ItemAgrees i [] (uncaught bs n)
headed h {i} {w} {bs} e a k = plain (scoped bs a refl) (k ∙ ap (λ cs. only (inside cs w)) e)

-- ---- rows of one

one_expr : (s : _) (a : Expr) → tree.shown-the_row-Expr-2 s (tree.more_of-Expr a tree.end_of-Expr) ≡ a
unfolding tree.shown-the_row-Expr-2 carrier.shown
one_expr s a = refl

one_stmt : (s : _) (a : Stmt) → tree.shown-the_row-Stmt-5 s (tree.more_of-Stmt a tree.end_of-Stmt) ≡ a
unfolding tree.shown-the_row-Stmt-5 carrier.shown
one_stmt s a = refl

-- ---- rows that are lists

listed_exprs : (s : _) (r : _) → tree.shown-the_row-Expr-0 s r ≡ tree.items-the_row-Expr _ r
listed_exprs s r = tree.items_shown-the_row-Expr-0 s r

listed_props : (s : _) (r : _) → tree.shown-the_row-PropNode-1 s r ≡ tree.items-the_row-PropNode _ r
listed_props s r = tree.items_shown-the_row-PropNode-1 s r

listed_stmts : (s : _) (r : _) → tree.shown-the_row-Stmt-3 s r ≡ tree.items-the_row-Stmt _ r
listed_stmts s r = tree.items_shown-the_row-Stmt-3 s r

listed_decls : (s : _) (r : _) → tree.shown-the_row-Decl-4 s r ≡ tree.items-the_row-Decl _ r
listed_decls s r = tree.items_shown-the_row-Decl-4 s r

-- ---- trees

mutual
  pub value_agrees : (v : DeclValue) → Agrees (value_walk v) (in_value v).names
  value_agrees tree.DeclValue::Nothing = like agree_nothing (search (rules, the_lemmas))
  value_agrees (tree.DeclValue::Value a) = like (expr_agrees a) (search (rules, the_lemmas))
  value_agrees (tree.DeclValue::Yield' tree.DeclValue-Yield-0-None') = like agree_nothing (search (rules, the_lemmas))
  value_agrees (tree.DeclValue::Yield' (tree.DeclValue-Yield-0-Some' a)) = like (expr_agrees a) (search (rules, the_lemmas))

  pub expr_agrees : (e : Expr) → Agrees (expr_walk e) (in_expr e).names
  expr_agrees tree.Undefined = like agree_nothing (search (rules, the_lemmas))
  expr_agrees tree.Null = like agree_nothing (search (rules, the_lemmas))
  expr_agrees (tree.Bool b) = like agree_nothing (search (rules, the_lemmas))
  expr_agrees (tree.Int i) = like agree_nothing (search (rules, the_lemmas))
  expr_agrees (tree.Text t) = like agree_nothing (search (rules, the_lemmas))
  expr_agrees (tree.Name x) = like (agree_named x) (search (rules, the_lemmas))
  expr_agrees (tree.ViewofName x) = like (agree_outside forms.Viewof x refl) (search (rules, the_lemmas))
  expr_agrees (tree.Array' s items) = like (exprs_agree items) (rw (fold_out-Expr, expr.outs-Array' s items, listed_exprs s items) refl)
  expr_agrees (tree.Object' s props) = like (props_agree props) (rw (fold_out-Expr, expr.outs-Object' s props, listed_props s props) refl)
  expr_agrees (tree.Expr::Function' n ps g body) = expressed n ps g body (body_agrees body) (search (rules, the_lemmas))
  expr_agrees (tree.Arrow' n ps g body) = like (made_agrees n ps g body (body_agrees body)) (search (rules, the_lemmas))
  expr_agrees (tree.Unary' op s (tree.more_of-Expr a tree.end_of-Expr)) = like (boxed (expr_agrees a)) (rw (fold_out-Expr, expr.outs-Unary' op s (tree.more_of-Expr a tree.end_of-Expr), one_expr s a) refl)
  expr_agrees (tree.Binary' op s (tree.more_of-Expr a tree.end_of-Expr) t (tree.more_of-Expr b tree.end_of-Expr)) =
      two (boxed (expr_agrees a)) (boxed (expr_agrees b)) (rw (fold_out-Expr, expr.outs-Binary' op s (tree.more_of-Expr a tree.end_of-Expr) t (tree.more_of-Expr b tree.end_of-Expr), one_expr s a, one_expr t b) refl)
  expr_agrees (tree.Compare' op s (tree.more_of-Expr a tree.end_of-Expr) t (tree.more_of-Expr b tree.end_of-Expr)) =
      two (boxed (expr_agrees a)) (boxed (expr_agrees b)) (rw (fold_out-Expr, expr.outs-Compare' op s (tree.more_of-Expr a tree.end_of-Expr) t (tree.more_of-Expr b tree.end_of-Expr), one_expr s a, one_expr t b) refl)
  expr_agrees (tree.Logic' op s (tree.more_of-Expr a tree.end_of-Expr) t (tree.more_of-Expr b tree.end_of-Expr)) =
      two (boxed (expr_agrees a)) (boxed (expr_agrees b)) (rw (fold_out-Expr, expr.outs-Logic' op s (tree.more_of-Expr a tree.end_of-Expr) t (tree.more_of-Expr b tree.end_of-Expr), one_expr s a, one_expr t b) refl)
  expr_agrees (tree.Cond' s (tree.more_of-Expr a tree.end_of-Expr) t (tree.more_of-Expr b tree.end_of-Expr) u (tree.more_of-Expr c tree.end_of-Expr)) =
      three (boxed (expr_agrees a)) (boxed (expr_agrees b)) (boxed (expr_agrees c)) (rw (fold_out-Expr, expr.outs-Cond' s (tree.more_of-Expr a tree.end_of-Expr) t (tree.more_of-Expr b tree.end_of-Expr) u (tree.more_of-Expr c tree.end_of-Expr), one_expr s a, one_expr t b, one_expr u c) refl)
  expr_agrees (tree.Assign' op s (tree.more_of-Expr a tree.end_of-Expr) t (tree.more_of-Expr b tree.end_of-Expr)) =
      two (boxed (expr_agrees a)) (boxed (expr_agrees b)) (rw (fold_out-Expr, expr.outs-Assign' op s (tree.more_of-Expr a tree.end_of-Expr) t (tree.more_of-Expr b tree.end_of-Expr), one_expr s a, one_expr t b) refl)
  expr_agrees (tree.Update' op before s (tree.more_of-Expr a tree.end_of-Expr)) = like (boxed (expr_agrees a)) (rw (fold_out-Expr, expr.outs-Update' op before s (tree.more_of-Expr a tree.end_of-Expr), one_expr s a) refl)
  expr_agrees (tree.Member' s (tree.more_of-Expr a tree.end_of-Expr) x) = like (boxed (expr_agrees a)) (rw (fold_out-Expr, expr.outs-Member' s (tree.more_of-Expr a tree.end_of-Expr) x, one_expr s a) refl)
  expr_agrees (tree.Index' s (tree.more_of-Expr a tree.end_of-Expr) t (tree.more_of-Expr b tree.end_of-Expr)) =
      two (boxed (expr_agrees a)) (boxed (expr_agrees b)) (rw (fold_out-Expr, expr.outs-Index' s (tree.more_of-Expr a tree.end_of-Expr) t (tree.more_of-Expr b tree.end_of-Expr), one_expr s a, one_expr t b) refl)
  expr_agrees (tree.Call' s (tree.more_of-Expr a tree.end_of-Expr) t args) =
      two (boxed (expr_agrees a)) (exprs_agree args) (rw (fold_out-Expr, expr.outs-Call' s (tree.more_of-Expr a tree.end_of-Expr) t args, one_expr s a, listed_exprs t args) refl)
  expr_agrees (tree.New' x s args) = two (agree_named x) (exprs_agree args) (rw (fold_out-Expr, expr.outs-New' x s args, listed_exprs s args) refl)

  pub exprs_agree : {m : _} (r : tree.Row_of-Expr m) → Agrees (all (map expr_walk (tree.items-the_row-Expr m r))) (in_exprs r).names
  exprs_agree tree.end_of-Expr = agree_nothing
  exprs_agree (tree.more_of-Expr a rest) = two (expr_agrees a) (exprs_agree rest) refl

  pub body_agrees : (b : FnBody) → ItemAgrees (body_item b) (own_of b) (in_body b).names
  body_agrees (tree.Items' s items) = items_body (stmts_agree items) (rw (fold_out-FnBody, body_of.outs-Items' s items, listed_stmts s items) refl)
  body_agrees (tree.FnBody::Value' s (tree.more_of-Expr a tree.end_of-Expr)) = plain (boxed (expr_agrees a)) (rw (fold_out-FnBody, body_of.outs-Value' s (tree.more_of-Expr a tree.end_of-Expr), one_expr s a) refl)

  pub prop_agrees : (p : PropNode) → Agrees (prop_walk p) (in_prop p).names
  prop_agrees (tree.Short x) = like (agree_named x) (search (rules, the_lemmas))
  prop_agrees (tree.Fixed k a) = like (expr_agrees a) (search (rules, the_lemmas))
  prop_agrees (tree.Computed k a) = two (expr_agrees k) (expr_agrees a) (search (rules, the_lemmas))

  pub props_agree : {m : _} (r : tree.Row_of-PropNode m) → Agrees (all (map prop_walk (tree.items-the_row-PropNode m r))) (in_props r).names
  props_agree tree.end_of-PropNode = agree_nothing
  props_agree (tree.more_of-PropNode p rest) = two (prop_agrees p) (props_agree rest) refl

  pub decls_agree : {m : _} (r : tree.Row_of-Decl m) → Agrees (values_of (map decl_declared (tree.items-the_row-Decl m r))) (in_decls r).names
  decls_agree tree.end_of-Decl = agree_nothing
  decls_agree (tree.more_of-Decl x v rest) = two (moved (ap (λ (d : Declared). d.walk) (decl_is x v)) (value_agrees v)) (decls_agree rest) refl

  pub head_agrees : (h : ForHead) → ItemAgrees (head_item h) (head_names h) (in_head h).names
  head_agrees tree.ForHead::Nothing = plain agree_nothing (search (rules, the_lemmas))
  head_agrees (tree.ForHead::Let' s decls) = declared_item variable decls (decls_agree decls) (rw (fold_out-ForHead, head_of.outs-Let' s decls, listed_decls s decls) refl)
  head_agrees (tree.ForHead::Const' s decls) = declared_item constant decls (decls_agree decls) (rw (fold_out-ForHead, head_of.outs-Const' s decls, listed_decls s decls) refl)
  head_agrees (tree.ForHead::Expr a) = plain (expr_agrees a) (search (rules, the_lemmas))

  pub stmt_agrees : (s : Stmt) → ItemAgrees (stmt_item s) (declared_by s) (in_stmt s).names
  stmt_agrees (tree.Block' s items) = plain (row_block (stmts_agree items)) (rw (fold_out-Stmt, stmt.outs-Block' s items, listed_stmts s items) refl)
  stmt_agrees tree.Empty = plain agree_nothing (search (rules, the_lemmas))
  stmt_agrees (tree.Stmt::Expr a) = plain (expr_agrees a) (search (rules, the_lemmas))
  stmt_agrees (tree.Stmt::Let' s decls) = declared_item variable decls (decls_agree decls) (rw (fold_out-Stmt, stmt.outs-Let' s decls, listed_decls s decls) refl)
  stmt_agrees (tree.Stmt::Const' s decls) = declared_item constant decls (decls_agree decls) (rw (fold_out-Stmt, stmt.outs-Const' s decls, listed_decls s decls) refl)
  stmt_agrees (tree.Stmt::Function' n ps g body) = function_item n ps g body (body_agrees body) (search (rules, the_lemmas))
  stmt_agrees (tree.Stmt::Yield' None tree.DeclValue-Yield-0-None') = plain (two agree_nothing agree_nothing refl) (search (rules, the_lemmas))
  stmt_agrees (tree.Stmt::Yield' None (tree.DeclValue-Yield-0-Some' a)) = plain (two agree_nothing (expr_agrees a) refl) (search (rules, the_lemmas))
  stmt_agrees (tree.Stmt::Yield' (Some x) tree.DeclValue-Yield-0-None') = plain (two (agree_named x) agree_nothing refl) (search (rules, the_lemmas))
  stmt_agrees (tree.Stmt::Yield' (Some x) (tree.DeclValue-Yield-0-Some' a)) = plain (two (agree_named x) (expr_agrees a) refl) (search (rules, the_lemmas))
  stmt_agrees (tree.Change' x op tree.DeclValue-Yield-0-None') = plain (two (agree_outside forms.Mutable x refl) agree_nothing refl) (search (rules, the_lemmas))
  stmt_agrees (tree.Change' x op (tree.DeclValue-Yield-0-Some' a)) = plain (two (agree_outside forms.Mutable x refl) (expr_agrees a) refl) (search (rules, the_lemmas))
  stmt_agrees (tree.If' c s (tree.more_of-Stmt a tree.end_of-Stmt) tree.Stmt-If-2-None') =
      plain (three (expr_agrees c) (boxed (stmt_agrees a).walk) agree_nothing refl) (rw (fold_out-Stmt, stmt.outs-If' c s (tree.more_of-Stmt a tree.end_of-Stmt) tree.Stmt-If-2-None', one_stmt s a) refl)
  stmt_agrees (tree.If' c s (tree.more_of-Stmt a tree.end_of-Stmt) (tree.Stmt-If-2-Some' t (tree.more_of-Stmt b tree.end_of-Stmt))) =
      plain (three (expr_agrees c) (boxed (stmt_agrees a).walk) (boxed (stmt_agrees b).walk) refl) (rw (fold_out-Stmt, stmt.outs-If' c s (tree.more_of-Stmt a tree.end_of-Stmt) (tree.Stmt-If-2-Some' t (tree.more_of-Stmt b tree.end_of-Stmt)), one_stmt s a, one_stmt t b) refl)
  stmt_agrees (tree.While' c s (tree.more_of-Stmt a tree.end_of-Stmt)) =
      plain (two (expr_agrees c) (boxed (stmt_agrees a).walk) refl) (rw (fold_out-Stmt, stmt.outs-While' c s (tree.more_of-Stmt a tree.end_of-Stmt), one_stmt s a) refl)
  stmt_agrees (tree.DoWhile' s (tree.more_of-Stmt a tree.end_of-Stmt) c) =
      plain (two (boxed (stmt_agrees a).walk) (expr_agrees c) refl) (rw (fold_out-Stmt, stmt.outs-DoWhile' s (tree.more_of-Stmt a tree.end_of-Stmt) c, one_stmt s a) refl)
  stmt_agrees (tree.For' h tree.DeclValue-Yield-0-None' tree.DeclValue-Yield-0-None' s (tree.more_of-Stmt a tree.end_of-Stmt)) =
      headed (head_item h) (head_agrees h).declares (four (head_agrees h).walk agree_nothing agree_nothing (boxed (stmt_agrees a).walk) refl) (rw (fold_out-Stmt, stmt.outs-For' h tree.DeclValue-Yield-0-None' tree.DeclValue-Yield-0-None' s (tree.more_of-Stmt a tree.end_of-Stmt), one_stmt s a) refl)
  stmt_agrees (tree.For' h (tree.DeclValue-Yield-0-Some' b) tree.DeclValue-Yield-0-None' s (tree.more_of-Stmt a tree.end_of-Stmt)) =
      headed (head_item h) (head_agrees h).declares (four (head_agrees h).walk (expr_agrees b) agree_nothing (boxed (stmt_agrees a).walk) refl) (rw (fold_out-Stmt, stmt.outs-For' h (tree.DeclValue-Yield-0-Some' b) tree.DeclValue-Yield-0-None' s (tree.more_of-Stmt a tree.end_of-Stmt), one_stmt s a) refl)
  stmt_agrees (tree.For' h tree.DeclValue-Yield-0-None' (tree.DeclValue-Yield-0-Some' c) s (tree.more_of-Stmt a tree.end_of-Stmt)) =
      headed (head_item h) (head_agrees h).declares (four (head_agrees h).walk agree_nothing (expr_agrees c) (boxed (stmt_agrees a).walk) refl) (rw (fold_out-Stmt, stmt.outs-For' h tree.DeclValue-Yield-0-None' (tree.DeclValue-Yield-0-Some' c) s (tree.more_of-Stmt a tree.end_of-Stmt), one_stmt s a) refl)
  stmt_agrees (tree.For' h (tree.DeclValue-Yield-0-Some' b) (tree.DeclValue-Yield-0-Some' c) s (tree.more_of-Stmt a tree.end_of-Stmt)) =
      headed (head_item h) (head_agrees h).declares (four (head_agrees h).walk (expr_agrees b) (expr_agrees c) (boxed (stmt_agrees a).walk) refl) (rw (fold_out-Stmt, stmt.outs-For' h (tree.DeclValue-Yield-0-Some' b) (tree.DeclValue-Yield-0-Some' c) s (tree.more_of-Stmt a tree.end_of-Stmt), one_stmt s a) refl)
  stmt_agrees (tree.ForOf' k x e s (tree.more_of-Stmt a tree.end_of-Stmt)) =
      plain (two (agree_inside (binding variable x ∷ []) (expr_agrees e)) (agree_inside (binding k x ∷ []) (boxed (stmt_agrees a).walk)) refl) (rw (fold_out-Stmt, stmt.outs-ForOf' k x e s (tree.more_of-Stmt a tree.end_of-Stmt), one_stmt s a) refl)
  stmt_agrees tree.Break = plain agree_nothing (search (rules, the_lemmas))
  stmt_agrees tree.Continue = plain agree_nothing (search (rules, the_lemmas))
  stmt_agrees (tree.Return' tree.DeclValue-Yield-0-None') = plain agree_nothing (search (rules, the_lemmas))
  stmt_agrees (tree.Return' (tree.DeclValue-Yield-0-Some' a)) = plain (expr_agrees a) (search (rules, the_lemmas))
  stmt_agrees (tree.Throw a) = plain (expr_agrees a) (search (rules, the_lemmas))
  stmt_agrees (tree.Try' s items tree.Stmt-Try-1-None' tree.Stmt-Try-2-None') =
      plain (three (row_block (stmts_agree items)) agree_nothing agree_nothing refl)
      (rw (fold_out-Stmt, stmt.outs-Try' s items tree.Stmt-Try-1-None' tree.Stmt-Try-2-None', listed_stmts s items) refl)
  stmt_agrees (tree.Try' s items (tree.Stmt-Try-1-Some' x t handler) tree.Stmt-Try-2-None') =
      plain (three (row_block (stmts_agree items)) (row_catch {w = catch_walk (record { name = x; items = tree.items-the_row-Stmt _ handler })} x (stmts_agree handler) (search (rules, the_lemmas))) agree_nothing refl)
      (rw (fold_out-Stmt, stmt.outs-Try' s items (tree.Stmt-Try-1-Some' x t handler) tree.Stmt-Try-2-None', listed_stmts s items, listed_stmts t handler) refl)
  stmt_agrees (tree.Try' s items tree.Stmt-Try-1-None' (tree.Stmt-Try-2-Some' u last)) =
      plain (three (row_block (stmts_agree items)) agree_nothing (row_block (stmts_agree last)) refl)
      (rw (fold_out-Stmt, stmt.outs-Try' s items tree.Stmt-Try-1-None' (tree.Stmt-Try-2-Some' u last), listed_stmts s items, listed_stmts u last) refl)
  stmt_agrees (tree.Try' s items (tree.Stmt-Try-1-Some' x t handler) (tree.Stmt-Try-2-Some' u last)) =
      plain (three (row_block (stmts_agree items)) (row_catch {w = catch_walk (record { name = x; items = tree.items-the_row-Stmt _ handler })} x (stmts_agree handler) (search (rules, the_lemmas))) (row_block (stmts_agree last)) refl)
      (rw (fold_out-Stmt, stmt.outs-Try' s items (tree.Stmt-Try-1-Some' x t handler) (tree.Stmt-Try-2-Some' u last), listed_stmts s items, listed_stmts t handler, listed_stmts u last) refl)

  pub stmts_agree : {m : _} (r : tree.Row_of-Stmt m) → RowAgrees (map stmt_item (tree.items-the_row-Stmt m r)) (declared r) (in_stmts r).names
  stmts_agree tree.end_of-Stmt = row_none
  stmts_agree (tree.more_of-Stmt s rest) = row_more (stmt_agrees s) (stmts_agree rest)
