-- What a table holds at a place.
use Rattle.std.specs.Prelude.{ℕ, List}
use Rattle.ob_hosts.specs.declared.host_fn.HostCode.{HostCode}

-- a host function, its closure aside
pub record HostEntry : Type 0 where
  pub name : List ℕ
  pub arity : ℕ
  pub code : HostCode
