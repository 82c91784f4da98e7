-- What is read within the limits.
use Rattle.std.proofs.Common.{◌≡◌, ◌≢◌, ℕ, ◌<◌, ◌≤◌, Bool, true, false, List, Option, Some, None, Result, Ok, Err, min, refl, sym, ap, ◌∙◌, subst, arith}
use Rattle.std.proofs.lemmas.Bool.Decides.{nat_tests}
use Rattle.std.specs.Prelude.{nat_le, ◌&&◌, if◌then◌else◌}
use Rattle.ob_lex.specs.declared.token.Token.{Token}
use Rattle.ob_tree_types.specs.declared.cell.CellTree.{CellTree}
use Rattle.ob_tree.specs.Depth.{depth_of}
use Rattle.ob_descent_tokens.specs.declared.error.ParseError.{ParseError}
use Rattle.ob_descent_tokens.specs.Gives.{Answers}
use Rattle.ob_grammar.specs.Early.{is_free_of_errors}
use Rattle.ob_grammar.specs.Limits.{most_open}
use Rattle.ob_grammar.specs.ReadingCells.{depth_limit, cell_of, if_readable, parsed, parsed_by}

within : (deep : ℕ) → min deep 4294967295 ≤ 200 → nat_le deep 200 ≡ true
within deep le = grind (arith, nat_tests)

beyond : (deep : ℕ) → 200 < min deep 4294967295 → nat_le deep 200 ≡ false
beyond deep lt = grind (arith, nat_tests)

over : (n : ℕ) → 500 < n → nat_le n 500 ≡ false
over n lt = grind (arith, nat_tests)

not_over : (n : ℕ) → n ≤ 500 → nat_le n 500 ≡ true
not_over n le = grind (arith, nat_tests)

by_tests : (tree : CellTree) (shallow free : Bool) → nat_le (depth_of tree) 200 ≡ shallow → is_free_of_errors tree ≡ free
    → if_readable (Some tree) ≡ (if shallow && free then Some tree else None)
by_tests tree shallow free h k = ap (λ b. if b && is_free_of_errors tree then Some tree else None) h ∙ ap (λ b. if shallow && b then Some tree else None) k

-- deeper than the limit
pub too_deep : (tree : CellTree) → 200 < min (depth_of tree) 4294967295 → if_readable (Some tree) ≡ None
too_deep tree lt = by_tests tree false (is_free_of_errors tree) (beyond (depth_of tree) lt) refl

-- within it, with an early error
pub has_error : (tree : CellTree) → min (depth_of tree) 4294967295 ≤ 200 → is_free_of_errors tree ≡ false → if_readable (Some tree) ≡ None
has_error tree le wrong = by_tests tree true false (within (depth_of tree) le) wrong

-- and with none
pub is_readable : (tree : CellTree) → min (depth_of tree) 4294967295 ≤ 200 → is_free_of_errors tree ≡ true → if_readable (Some tree) ≡ Some tree
is_readable tree le free = by_tests tree true true (within (depth_of tree) le) free

-- more brackets are open at once than the limit
pub too_many_open : (tokens : List Token) → 500 < most_open 0 tokens → parsed tokens ≡ None
unfolding parsed
too_many_open tokens lt = ap (λ b. parsed_by b tokens) (over (most_open 0 tokens) lt)

few_open : (tokens : List Token) → most_open 0 tokens ≤ 500 → parsed tokens ≡ if_readable (cell_of depth_limit 701 tokens)
unfolding parsed
few_open tokens le = ap (λ b. parsed_by b tokens) (not_over (most_open 0 tokens) le)

-- no cell is read
pub no_cell : (tokens : List Token) → most_open 0 tokens ≤ 500 → cell_of depth_limit 701 tokens ≡ None → parsed tokens ≡ None
no_cell tokens le none = few_open tokens le ∙ ap if_readable none

-- a cell is read
pub a_cell : (tokens : List Token) (tree : CellTree) (r : Result CellTree ParseError) → most_open 0 tokens ≤ 500 → cell_of depth_limit 701 tokens ≡ Some tree
    → Answers (if_readable (Some tree)) r → Answers (parsed tokens) r
a_cell tokens tree r le read answers = subst (λ x. Answers x r) (sym (few_open tokens le ∙ ap if_readable read)) answers
