-- What a walk through a tree has found so far: whether no early error stands before a place, and the names that are bound there.
use Rattle.std.specs.Prelude.{ℕ, ◌-◌, Bool, true, false, not, ◌&&◌, List, [], ◌∷◌, length, take, drop}
use Rattle.ob_tree_types.specs.declared.tree.Function.{Function}
use Rattle.ob_grammar.specs.Early.{Names, Around, Check, Given, anything, some_value, no_yield, some_value_no_yield, holds_name, as_expression, made}
use Rattle.ob_early.specs.declared.place.Place.{Place}
use Rattle.ob_early.specs.declared.walks.DeclForm.{DeclForm}
use Rattle.ob_early.specs.declared.walks.DeclForm.TheVariants as form

pub record Found : Type 0 where
  pub fine : Bool
  pub names : Names

abbrev pub at_start : Found
at_start = record { fine = true; names = [] }

abbrev pub outermost : Place
outermost = record { in_loop = false; in_generator = false }

abbrev pub turn_of : Place → Place
turn_of p = record { in_loop = true; in_generator = p.in_generator }

abbrev pub function_of : Bool → Place
function_of generator = record { in_loop = false; in_generator = generator }

abbrev pub around : Place → Names → Around
around p names = record { names = names; in_loop = p.in_loop; in_generator = p.in_generator }

-- behind a part
unfoldable pub ran : Place → Check → Found → Found
ran p part s = record { fine = part (around p s.names) && s.fine; names = s.names }

unfoldable pub required : Bool → Found → Found
required holds s = record { fine = holds && s.fine; names = s.names }

-- with a name declared in the scope that n bindings stand around
unfoldable pub declared : ℕ → List ℕ → Found → Found
declared n x s = record { fine = not (holds_name x (take (length s.names - n) s.names)) && s.fine; names = x ∷ s.names }

-- with names declared in that scope, the last one first
abbrev pub declares : ℕ → Names → Found → Found
declares n [] s = s
declares n (x ∷ xs) s = declared n x (declares n xs s)

-- with only the outermost n bindings in scope
unfoldable pub closed_to : ℕ → Found → Found
closed_to n s = record { fine = s.fine; names = drop (length s.names - n) s.names }

-- what a form of declaration asks of what it gives its name
abbrev pub test_of : DeclForm → Given → Bool
test_of form.Let = anything
test_of form.Const = some_value
test_of form.HeadLet = no_yield
test_of form.HeadConst = some_value_no_yield

-- a function expression
abbrev pub expression_check : Function → Check
expression_check f = as_expression (made f)

-- a declaration
abbrev pub given_check : DeclForm → Given → Check
given_check f g s = test_of f g && g.check s
