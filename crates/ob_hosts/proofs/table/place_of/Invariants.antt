use Rattle.std.proofs.Common.{◌≡◌, drop, map}
use Rattle.std.specs.Prelude.{bytes_eq}
use Rattle.std.specs.List.{position_from}
use Rattle.ob_hosts.specs.Host.{entry_of}
use Rattle.ob_hosts.proofs.table.place_of.Given as goal

abbrev pub invariant-loop-place : goal.invariant-loop-place
invariant-loop-place g l = position_from (λ e. bytes_eq e.name l.name) l.place (map entry_of (drop l.place l.hosts)) ≡ position_from (λ e. bytes_eq e.name l.name) 0 (map entry_of l.hosts)
