-- What contracts see of a host function.
use Rattle.ob_hosts.specs.Entry.{HostEntry}
use Rattle.ob_hosts.specs.declared.host_fn.HostFn.{HostFn}

abbrev pub entry_of : {G F : _} {g : _} → HostFn G F g → HostEntry
entry_of h = record { name = h.name; arity = h.arity; code = h.code }
