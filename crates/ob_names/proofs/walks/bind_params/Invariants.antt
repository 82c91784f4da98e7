use Rattle.std.proofs.Common.{◌≡◌, drop, map}
use Rattle.ob_tree.specs.Walks.{binding, variable}
use Rattle.ob_names.specs.Found.{binds}
use Rattle.ob_names.proofs.walks.bind_params.Given as goal

abbrev pub invariant-loop-param : goal.invariant-loop-param
invariant-loop-param l = binds (map (binding variable) (drop l.param-index l.params)) l.walker ≡ binds (map (binding variable) l.params) l.fn.walker
