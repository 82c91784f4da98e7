use Rattle.std.proofs.Common.{◌≡◌, drop, map}
use Rattle.ob_grammar.specs.Early.{names_of, declared_of}
use Rattle.ob_early.specs.Found.{declares}
use Rattle.ob_early.proofs.walks.bind_decls.Given as goal

abbrev pub invariant-loop-place : goal.invariant-loop-place
invariant-loop-place l = l.walker ≡ declares l.count (names_of (map declared_of (drop l.place l.decls))) l.fn.walker
