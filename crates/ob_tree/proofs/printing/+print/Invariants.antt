use Rattle.std.proofs.Common.{◌≡◌, ◌++◌, drop, map}
use Rattle.std.specs.Prelude.{string_bytes}
use Rattle.ob_tree.specs.Tokens.{spaced}
use Rattle.ob_tree.specs.Print.{separated, listed, joined, expr_tokens, prop_tokens, stmt_tokens, decl_tokens}
use Rattle.ob_tree.proofs.printing.+print.Given as goal

abbrev pub invariant-write_exprs-loop-place : goal.invariant-write_exprs-loop-place
invariant-write_exprs-loop-place l = string_bytes l.out ++ spaced (separated l.place (map expr_tokens (drop l.place l.exprs))) ≡ string_bytes l.initial.out ++ spaced (listed (map expr_tokens l.exprs))

abbrev pub invariant-write_props-loop-place : goal.invariant-write_props-loop-place
invariant-write_props-loop-place l = string_bytes l.out ++ spaced (separated l.place (map prop_tokens (drop l.place l.props))) ≡ string_bytes l.initial.out ++ spaced (listed (map prop_tokens l.props))

abbrev pub invariant-write_decls-loop-place : goal.invariant-write_decls-loop-place
invariant-write_decls-loop-place l = string_bytes l.out ++ spaced (separated l.place (map decl_tokens (drop l.place l.decls))) ≡ string_bytes l.initial.out ++ spaced (listed (map decl_tokens l.decls))

abbrev pub invariant-write_stmts-loop-stmt : goal.invariant-write_stmts-loop-stmt
invariant-write_stmts-loop-stmt l = string_bytes l.out ++ spaced (joined (map stmt_tokens (drop l.stmt-index l.stmts))) ≡ string_bytes l.initial.out ++ spaced (joined (map stmt_tokens l.stmts))
