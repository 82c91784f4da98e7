-- What stays the same in a run: the host functions, and the region in which it makes what is new.
use Rattle.std.specs.Prelude.{List}
use Rattle.ob_hosts.specs.Entry.{HostEntry}
use Rattle.ob_items.specs.declared.value.RegionKey.{RegionKey}

pub record World : Type 0 where
  pub hosts : List HostEntry
  pub region : RegionKey
