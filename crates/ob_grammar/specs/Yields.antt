-- Whether statements hold a `yield` that stands in no function among them: then a cell's block is a generator body (this project, after the
-- Observable Parser).
use Rattle.std.specs.Prelude.{Bool, true, false, ◌||◌, List, [], ◌∷◌, Option, Some, None}
use Rattle.ob_tree_types.specs.declared.tree.DeclValue.TheOpen as layer
use Rattle.ob_tree_types.specs.declared.tree.Stmt.{Stmt, fold-Stmt}

abbrev pub in_any : List Bool → Bool
in_any [] = false
in_any (b ∷ bs) = b || in_any bs

abbrev pub in_part : Option Bool → Bool
in_part None = false
in_part (Some b) = b

abbrev pub in_parts : Option (List Bool) → Bool
in_parts None = false
in_parts (Some bs) = in_any bs

-- an expression holds none: `yield` is a statement or what a name is declared as
abbrev pub value_step : layer.DeclValue-F Bool Bool Bool Bool Bool Bool Bool Bool Bool → Bool
value_step (layer.DeclValue::Yield a) = true
value_step _ = false

abbrev pub stmt_step : layer.Stmt-F Bool Bool Bool Bool Bool Bool Bool Bool Bool → Bool
stmt_step (layer.Block items) = in_any items
stmt_step layer.Empty = false
stmt_step (layer.Stmt::Expr a) = false
stmt_step (layer.Stmt::Let decls) = in_any decls
stmt_step (layer.Stmt::Const decls) = in_any decls
stmt_step (layer.Stmt::Function f) = false
stmt_step (layer.Stmt::Yield x a) = true
stmt_step (layer.Change x op a) = false
stmt_step (layer.If a first second) = first || in_part second
stmt_step (layer.While a turn) = turn
stmt_step (layer.DoWhile turn a) = turn
stmt_step (layer.For head test update turn) = head || turn
stmt_step (layer.ForOf constant x a turn) = turn
stmt_step layer.Break = false
stmt_step layer.Continue = false
stmt_step (layer.Return a) = false
stmt_step (layer.Throw a) = false
stmt_step (layer.Try items c f) = in_any items || (in_part c || in_parts f)

abbrev pub head_step : layer.ForHead-F Bool Bool Bool Bool Bool Bool Bool Bool Bool → Bool
head_step (layer.ForHead::Let decls) = in_any decls
head_step (layer.ForHead::Const decls) = in_any decls
head_step _ = false

abbrev pub catch_step : layer.CatchPart-F Bool Bool Bool Bool Bool Bool Bool Bool Bool → Bool
catch_step c = in_any c.items

abbrev pub decl_step : layer.Decl-F Bool Bool Bool Bool Bool Bool Bool Bool Bool → Bool
decl_step d = d.value

unfoldable pub yields_in : Stmt → Bool
yields_in = fold-Stmt Bool Bool Bool Bool Bool Bool Bool Bool Bool value_step (λ a. false) (λ b. false) head_step (λ p. false) stmt_step catch_step decl_step (λ f. false)

unfoldable pub yields : List Stmt → Bool
yields [] = false
yields (s ∷ items) = yields_in s || yields items
