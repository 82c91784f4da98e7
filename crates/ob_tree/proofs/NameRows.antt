-- Rows of names, worked by hand: what each name means, and the free and the local names.
use Rattle.std.proofs.Common.{rules, ◌≡◌, ℕ, List, [], ◌∷◌, None, Some, true, false, map, pos, bytes_eq}
use Rattle.std.specs.Prelude.{codes}
use Rattle.ob_base.specs.declared.operators.BinaryOp.TheVariants.{Add}
use Rattle.ob_tree_types.specs.declared.cell.CellTree.TheVariants as cell
use Rattle.ob_tree_types.specs.declared.cell.SpecForm.TheVariants as forms
use Rattle.ob_tree_types.specs.declared.tree.CatchPart.{roll-CatchPart}
use Rattle.ob_tree_types.specs.declared.tree.Decl.{roll-Decl}
use Rattle.ob_tree_types.specs.declared.tree.DeclValue.TheVariants as value
use Rattle.ob_tree_types.specs.declared.tree.Expr.{Expr}
use Rattle.ob_tree_types.specs.declared.tree.Expr.TheVariants as expr
use Rattle.ob_tree_types.specs.declared.tree.FnBody.TheVariants as body
use Rattle.ob_tree_types.specs.declared.tree.Function.{Function, roll-Function}
use Rattle.ob_tree_types.specs.declared.tree.Stmt.{Stmt, the_lemmas}
use Rattle.ob_tree_types.specs.declared.tree.Stmt.TheVariants as stmt
use Rattle.ob_tree.specs.Scopes.{Mention, Meaning, Free, Local, Captured, nothing, named, outside, after, inside, in_function}
use Rattle.ob_tree.specs.Walks.{variable, constant, binding, function_walk}
use Rattle.ob_tree.specs.Names.{Referred, mentions_of, free_names, local_names}

abbrev giving : List (List ℕ) → Expr → Function
giving params e = roll-Function (record { name = None; params = params; generator = false; body = body.Value e })

abbrev doing : List Stmt → Function
doing items = roll-Function (record { name = None; params = []; generator = false; body = body.Items items })

abbrev name : List ℕ → Expr
name x = expr.Name x

abbrev thrown : List ℕ → Stmt
thrown x = stmt.Throw (name x)

abbrev means : List ℕ → Meaning → Mention
means x m = record { form = forms.Plain; name = x; means = m }

abbrev plain : List ℕ → Referred
plain x = record { form = forms.Plain; name = x }

abbrev a : List ℕ
a = codes "a"

abbrev e : List ℕ
e = codes "e"

abbrev x : List ℕ
x = codes "x"

-- y + f(z => z + y + w)
abbrev an_arrow : Function
an_arrow =
    giving []
    (expr.Binary Add (name (codes "y"))
    (expr.Call (name (codes "f"))
    (expr.Arrow (giving (codes "z" ∷ []) (expr.Binary Add (expr.Binary Add (name (codes "z")) (name (codes "y"))) (name (codes "w")))) ∷ [])))

an_arrow_means : mentions_of (function_walk an_arrow)
    ≡ means (codes "y") Free ∷ means (codes "f") Free ∷ means (codes "z") (Local 0) ∷ means (codes "y") Free ∷ means (codes "w") Free ∷ []
unfolding nothing named outside after inside in_function
an_arrow_means = search (rules, the_lemmas)

an_arrow_is_free_in : free_names (cell.Named x an_arrow) ≡ plain (codes "y") ∷ plain (codes "f") ∷ plain (codes "w") ∷ []
unfolding nothing named outside after inside in_function
an_arrow_is_free_in = search (rules, the_lemmas)

an_arrow_binds : local_names (cell.Named x an_arrow) ≡ codes "z" ∷ []
unfolding nothing named outside after inside in_function
an_arrow_binds = search (rules, the_lemmas)

-- { let a = 1; return () => a; }
abbrev a_capture : Function
a_capture =
    doing (stmt.Let (roll-Decl (record { name = a; value = value.Value (expr.Int (pos 1)) }) ∷ []) ∷ stmt.Return (Some (expr.Arrow (giving [] (name a)))) ∷ [])

a_capture_means : mentions_of (function_walk a_capture) ≡ means a (Captured 0) ∷ []
unfolding nothing named outside after inside in_function
a_capture_means = search (rules, the_lemmas)

-- function e(a) { return e + a; }
abbrev an_own_name : Function
an_own_name =
    roll-Function (record { name = Some e; params = a ∷ []; generator = false; body = body.Items (stmt.Return (Some (expr.Binary Add (name e) (name a))) ∷ []) })

an_own_name_means : mentions_of (function_walk an_own_name) ≡ means e (Captured 0) ∷ means a (Local 1) ∷ []
unfolding nothing named outside after inside in_function
an_own_name_means = search (rules, the_lemmas)

an_own_name_is_free_in : free_names (cell.Function an_own_name) ≡ []
unfolding nothing named outside after inside in_function
an_own_name_is_free_in = search (rules, the_lemmas)

an_own_name_binds : local_names (cell.Function an_own_name) ≡ e ∷ a ∷ []
unfolding nothing named outside after inside in_function
an_own_name_binds = search (rules, the_lemmas)

-- { try { throw e; } catch (e) { throw e; } throw e; }
abbrev a_catch : Function
a_catch = doing (stmt.Try (thrown e ∷ []) (Some (roll-CatchPart (record { name = Some e; items = thrown e ∷ [] }))) None ∷ thrown e ∷ [])

a_catch_means : mentions_of (function_walk a_catch) ≡ means e Free ∷ means e (Local 0) ∷ means e Free ∷ []
unfolding nothing named outside after inside in_function
a_catch_means = search (rules, the_lemmas)

-- { for (const x of x) throw x; throw x; }
abbrev a_for_of : Function
a_for_of = doing (stmt.ForOf true x (name x) (thrown x) ∷ thrown x ∷ [])

a_for_of_means : mentions_of (function_walk a_for_of) ≡ means x (Local 0) ∷ means x (Local 1) ∷ means x Free ∷ []
unfolding nothing named outside after inside in_function
a_for_of_means = search (rules, the_lemmas)

-- around `x` the name is no constant; in each turn it is one
a_for_of_binds : (function_walk a_for_of).bound ≡ binding variable x ∷ binding constant x ∷ []
unfolding nothing named outside after inside in_function
a_for_of_binds = search (rules, the_lemmas)
