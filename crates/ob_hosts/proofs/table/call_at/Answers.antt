use Rattle.std.proofs.Common.{arith, ap, sym, ◌∙◌, Some}
use Rattle.std.proofs.lemmas.Grind.{common_steps}
use Rattle.ob_hosts.specs.Host.{entry_of}
use Rattle.ob_hosts.specs.Value.{host_value}
use Rattle.ob_hosts.proofs.Places.{found_at}
use Rattle.ob_hosts.proofs.table.call_at.Goals as goal

pub returns : goal.returns
returns g c =
    rw (found_at entry_of (λ e. host_value e.code c.args.a c.args.b) c.args.hosts.now c.args.place c.index-hosts-place.result c.requires.place, ← c.index-hosts-place.is)
    (grind (arith, common_steps))
