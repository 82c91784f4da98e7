-- Whether a part of a tree holds a `yield` outside the functions in it, by the same steps for each sort of part.
use Rattle.std.specs.Prelude.{Bool, false}
use Rattle.ob_tree_types.specs.declared.tree.Stmt.{Stmt, fold-Stmt}
use Rattle.ob_tree_types.specs.declared.tree.Decl.{Decl, fold-Decl}
use Rattle.ob_tree_types.specs.declared.tree.DeclValue.{DeclValue, fold-DeclValue}
use Rattle.ob_tree_types.specs.declared.tree.ForHead.{ForHead, fold-ForHead}
use Rattle.ob_tree_types.specs.declared.tree.CatchPart.{CatchPart, fold-CatchPart}
use Rattle.ob_grammar.specs.Yields.{value_step, head_step, stmt_step, catch_step, decl_step}

abbrev pub stmt_yields : Stmt → Bool
stmt_yields = fold-Stmt Bool Bool Bool Bool Bool Bool Bool Bool Bool value_step (λ a. false) (λ b. false) head_step (λ p. false) stmt_step catch_step decl_step (λ f. false)

abbrev pub decl_yields : Decl → Bool
decl_yields = fold-Decl Bool Bool Bool Bool Bool Bool Bool Bool Bool value_step (λ a. false) (λ b. false) head_step (λ p. false) stmt_step catch_step decl_step (λ f. false)

abbrev pub value_yields : DeclValue → Bool
value_yields = fold-DeclValue Bool Bool Bool Bool Bool Bool Bool Bool Bool value_step (λ a. false) (λ b. false) head_step (λ p. false) stmt_step catch_step decl_step (λ f. false)

abbrev pub head_yields : ForHead → Bool
head_yields = fold-ForHead Bool Bool Bool Bool Bool Bool Bool Bool Bool value_step (λ a. false) (λ b. false) head_step (λ p. false) stmt_step catch_step decl_step (λ f. false)

abbrev pub catch_yields : CatchPart → Bool
catch_yields = fold-CatchPart Bool Bool Bool Bool Bool Bool Bool Bool Bool value_step (λ a. false) (λ b. false) head_step (λ p. false) stmt_step catch_step decl_step (λ f. false)
