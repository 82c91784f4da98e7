-- The functions of a text, numbered in the order of the text, and the names that stand in its parts (this project; the scopes are those of
-- ECMA-262, "Environment Records"). The function that the text is has the number 0.
use Rattle.std.specs.Prelude.{ℕ, Bool, true, not, ◌&&◌, List, [], ◌∷◌, ◌++◌, Some, None, bytes_eq, if◌then◌else◌}
use Rattle.std.specs.List.{list_any, filter}
use Rattle.ob_tree_types.specs.declared.cell.SpecForm.{SpecForm}
use Rattle.ob_tree_types.specs.declared.cell.SpecForm.TheVariants as forms
use Rattle.ob_tree_types.specs.declared.tree.DeclValue.TheBlock as tree
use Rattle.ob_tree_types.specs.declared.tree.DeclValue.{DeclValue}
use Rattle.ob_tree_types.specs.declared.tree.Expr.{Expr}
use Rattle.ob_tree_types.specs.declared.tree.FnBody.{FnBody}
use Rattle.ob_tree_types.specs.declared.tree.ForHead.{ForHead}
use Rattle.ob_tree_types.specs.declared.tree.PropNode.{PropNode}
use Rattle.ob_tree_types.specs.declared.tree.Stmt.{Stmt}
use Rattle.ob_tree_types.specs.declared.tree.Function.{Function}
use Rattle.ob_tree.specs.Names.{Referred, same_form}
use Rattle.ob_tree.specs.Scopes.{Bound}
use Rattle.ob_tree.specs.Walks.{variable, constant, binding, bound_if_there}
use Rattle.ob_tree.specs.Declarations.{declared, head_names, own_bindings}

-- a function where it stands: all bindings around it, the innermost first
pub record Located : Type 0 where
  pub function : Function
  pub around : List Bound

-- a part of a text: its functions, given the bindings around it; and the names that it refers to and doesn't bind, in the order of the text:
-- all of them, or those alone that stand in functions inside it
pub record Part : Type 0 where
  pub functions : List Bound → List Located
  pub names : Bool → List Referred

abbrev pub no_part : Part
no_part = record { functions = λ around. []; names = λ all. [] }

-- a name by itself
abbrev pub mention : SpecForm → List ℕ → Part
mention form x = record { functions = λ around. []; names = λ all. if all then record { form = form; name = x } ∷ [] else [] }

-- one part, then another
abbrev pub ◌then◌ : Part → Part → Part
p then q = record { functions = λ around. p.functions around ++ q.functions around; names = λ all. p.names all ++ q.names all }

infixl 10 ◌then◌
-- bindings catch the plain names
abbrev pub binds : List Bound → Referred → Bool
binds bs r = same_form r.form forms.Plain && list_any (λ (b : Bound). bytes_eq b.name r.name) bs

-- a part in a scope of these bindings
abbrev pub inside : List Bound → Part → Part
inside bs p = record { functions = λ around. p.functions (bs ++ around); names = λ all. filter (λ r. not (binds bs r)) (p.names all) }

-- a function, then those in it; all its names stand in a function
abbrev pub located : Function → Part → Part
located f inner = record {
  functions = λ around. record { function = f; around = around } ∷ (inside (own_bindings f.params f.body) inner).functions around;
  names = λ all. (inside (own_bindings f.params f.body) inner).names true;
}

abbrev mutual
  pub in_value : DeclValue → Part
  in_value tree.DeclValue::Nothing = no_part
  in_value (tree.DeclValue::Value a) = in_expr a
  in_value (tree.DeclValue::Yield' a) = in_maybe a

  pub in_expr : Expr → Part
  in_expr tree.Undefined = no_part
  in_expr tree.Null = no_part
  in_expr (tree.Bool _) = no_part
  in_expr (tree.Int _) = no_part
  in_expr (tree.Text _) = no_part
  in_expr (tree.Name x) = mention forms.Plain x
  in_expr (tree.ViewofName x) = mention forms.Viewof x
  in_expr (tree.Array' _ items) = in_exprs items
  in_expr (tree.Object' _ props) = in_props props
  in_expr (tree.Expr::Function' n ps g body) =
      inside (bound_if_there constant n) (located (record { name = n; params = ps; generator = g; body = body }) (in_body body))
  in_expr (tree.Arrow' n ps g body) = located (record { name = n; params = ps; generator = g; body = body }) (in_body body)
  in_expr (tree.Unary' _ _ a) = in_exprs a
  in_expr (tree.Binary' _ _ a _ b) = in_exprs a then in_exprs b
  in_expr (tree.Compare' _ _ a _ b) = in_exprs a then in_exprs b
  in_expr (tree.Logic' _ _ a _ b) = in_exprs a then in_exprs b
  in_expr (tree.Cond' _ a _ b _ c) = in_exprs a then in_exprs b then in_exprs c
  in_expr (tree.Assign' _ _ a _ b) = in_exprs a then in_exprs b
  in_expr (tree.Update' _ _ _ a) = in_exprs a
  in_expr (tree.Member' _ a _) = in_exprs a
  in_expr (tree.Index' _ a _ b) = in_exprs a then in_exprs b
  in_expr (tree.Call' _ a _ args) = in_exprs a then in_exprs args
  in_expr (tree.New' x _ args) = mention forms.Plain x then in_exprs args

  pub in_exprs : {m : _} → tree.Row_of-Expr m → Part
  in_exprs tree.end_of-Expr = no_part
  in_exprs (tree.more_of-Expr a rest) = in_expr a then in_exprs rest

  pub in_maybe : tree.Held-DeclValue-Yield-0 → Part
  in_maybe tree.DeclValue-Yield-0-None' = no_part
  in_maybe (tree.DeclValue-Yield-0-Some' a) = in_expr a

  pub in_body : FnBody → Part
  in_body (tree.Items' _ items) = in_stmts items
  in_body (tree.FnBody::Value' _ a) = in_exprs a

  pub in_prop : PropNode → Part
  in_prop (tree.Short x) = mention forms.Plain x
  in_prop (tree.Fixed _ a) = in_expr a
  in_prop (tree.Computed k a) = in_expr k then in_expr a

  pub in_props : {m : _} → tree.Row_of-PropNode m → Part
  in_props tree.end_of-PropNode = no_part
  in_props (tree.more_of-PropNode p rest) = in_prop p then in_props rest

  pub in_decls : {m : _} → tree.Row_of-Decl m → Part
  in_decls tree.end_of-Decl = no_part
  in_decls (tree.more_of-Decl _ v rest) = in_value v then in_decls rest

  pub in_head : ForHead → Part
  in_head tree.ForHead::Nothing = no_part
  in_head (tree.ForHead::Let' _ decls) = in_decls decls
  in_head (tree.ForHead::Const' _ decls) = in_decls decls
  in_head (tree.ForHead::Expr a) = in_expr a

  pub in_stmt : Stmt → Part
  in_stmt (tree.Block' _ items) = inside (declared items) (in_stmts items)
  in_stmt tree.Empty = no_part
  in_stmt (tree.Stmt::Expr a) = in_expr a
  in_stmt (tree.Stmt::Let' _ decls) = in_decls decls
  in_stmt (tree.Stmt::Const' _ decls) = in_decls decls
  in_stmt (tree.Stmt::Function' n ps g body) = located (record { name = n; params = ps; generator = g; body = body }) (in_body body)
  in_stmt (tree.Stmt::Yield' None a) = in_maybe a
  in_stmt (tree.Stmt::Yield' (Some x) a) = mention forms.Plain x then in_maybe a
  in_stmt (tree.Change' x _ a) = mention forms.Mutable x then in_maybe a
  in_stmt (tree.If' c _ a b) = in_expr c then in_stmts a then in_else b
  in_stmt (tree.While' c _ a) = in_expr c then in_stmts a
  in_stmt (tree.DoWhile' _ a c) = in_stmts a then in_expr c
  in_stmt (tree.For' head test update _ a) =
      inside (head_names head) (in_head head then in_maybe test then in_maybe update then in_stmts a)
  in_stmt (tree.ForOf' k x e _ a) = inside (binding variable x ∷ []) (in_expr e) then inside (binding k x ∷ []) (in_stmts a)
  in_stmt tree.Break = no_part
  in_stmt tree.Continue = no_part
  in_stmt (tree.Return' a) = in_maybe a
  in_stmt (tree.Throw a) = in_expr a
  in_stmt (tree.Try' _ items c f) = inside (declared items) (in_stmts items) then in_catch c then in_finally f

  pub in_stmts : {m : _} → tree.Row_of-Stmt m → Part
  in_stmts tree.end_of-Stmt = no_part
  in_stmts (tree.more_of-Stmt s rest) = in_stmt s then in_stmts rest

  pub in_else : tree.Held-Stmt-If-2 → Part
  in_else tree.Stmt-If-2-None' = no_part
  in_else (tree.Stmt-If-2-Some' _ a) = in_stmts a

  pub in_catch : tree.Held-Stmt-Try-1 → Part
  in_catch tree.Stmt-Try-1-None' = no_part
  in_catch (tree.Stmt-Try-1-Some' x _ items) = inside (bound_if_there variable x ++ declared items) (in_stmts items)

  pub in_finally : tree.Held-Stmt-Try-2 → Part
  in_finally tree.Stmt-Try-2-None' = no_part
  in_finally (tree.Stmt-Try-2-Some' _ items) = inside (declared items) (in_stmts items)

-- a function as a text: its functions, each at its number, and its names
abbrev pub whole : Function → Part
whole f = located f (in_body f.body)

abbrev pub functions_of : Function → List Located
functions_of f = (whole f).functions []
