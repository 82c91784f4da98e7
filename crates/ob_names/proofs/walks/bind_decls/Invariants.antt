use Rattle.std.proofs.Common.{◌≡◌, drop, map}
use Rattle.ob_tree.specs.Walks.{names_of, decl_declared}
use Rattle.ob_names.specs.Found.{binds}
use Rattle.ob_names.proofs.walks.bind_decls.Given as goal

abbrev pub invariant-loop-decl : goal.invariant-loop-decl
invariant-loop-decl l = binds (names_of l.constant (map decl_declared (drop l.decl-index l.decls))) l.walker ≡ binds (names_of l.constant (map decl_declared l.decls)) l.fn.walker
