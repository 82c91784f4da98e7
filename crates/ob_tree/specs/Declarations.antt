-- What the parts of a tree declare (ECMA-262, "LexicallyScopedDeclarations", in the subset of this language).
use Rattle.std.specs.Prelude.{ℕ, Bool, List, [], ◌∷◌, ◌++◌, map, Option, Some, None}
use Rattle.ob_tree_types.specs.declared.tree.DeclValue.TheBlock as tree
use Rattle.ob_tree_types.specs.declared.tree.FnBody.{FnBody}
use Rattle.ob_tree_types.specs.declared.tree.ForHead.{ForHead}
use Rattle.ob_tree_types.specs.declared.tree.Function.{Function}
use Rattle.ob_tree_types.specs.declared.tree.Stmt.{Stmt}
use Rattle.ob_tree.specs.Scopes.{Bound}
use Rattle.ob_tree.specs.Walks.{variable, constant, binding, bound_if_there}

-- the names of a row of declarations
abbrev pub declared_names : {m : _} → Bool → tree.Row_of-Decl m → List Bound
declared_names kind tree.end_of-Decl = []
declared_names kind (tree.more_of-Decl x v rest) = binding kind x ∷ declared_names kind rest

-- what a statement declares in the block that it stands in
abbrev pub declared_by : Stmt → List Bound
declared_by (tree.Stmt::Let' _ decls) = declared_names variable decls
declared_by (tree.Stmt::Const' _ decls) = declared_names constant decls
declared_by (tree.Stmt::Function' x ps g body) = bound_if_there variable x
declared_by _ = []

-- what the statements of a block declare in it
abbrev pub declared : {m : _} → tree.Row_of-Stmt m → List Bound
declared tree.end_of-Stmt = []
declared (tree.more_of-Stmt s rest) = declared_by s ++ declared rest

-- the function that a statement declares, with its name
abbrev pub declared_function : Stmt → Option (List ℕ × Function)
declared_function (tree.Stmt::Function' (Some x) ps g body) = Some (x, record { name = Some x; params = ps; generator = g; body = body })
declared_function _ = None

-- the names that a `for` declares in its head
abbrev pub head_names : ForHead → List Bound
head_names tree.ForHead::Nothing = []
head_names (tree.ForHead::Let' _ decls) = declared_names variable decls
head_names (tree.ForHead::Const' _ decls) = declared_names constant decls
head_names (tree.ForHead::Expr a) = []

-- the bindings of a function's own scope: its parameters, and what its block declares
abbrev pub own_bindings : List (List ℕ) → FnBody → List Bound
own_bindings params (tree.Items' _ items) = map (binding variable) params ++ declared items
own_bindings params (tree.FnBody::Value' _ a) = map (binding variable) params
