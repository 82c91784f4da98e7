-- What contracts see of a table.
use Rattle.std.specs.Prelude.{◌≡◌, [], ◌∷◌, ◌++◌, List, map, Result, Ok, Err, true, false, bytes_eq}
use Rattle.std.specs.List.{list_any}
use Rattle.ob_hosts.specs.Entry.{HostEntry}
use Rattle.ob_hosts.specs.Host.{entry_of}
use Rattle.ob_hosts.specs.declared.table.HostTable.{HostTable}
use Rattle.ob_hosts.specs.declared.table.HostError.{HostError}
use Rattle.ob_hosts.specs.declared.table.HostError.TheVariants as errors

-- the host functions in the order of their places
abbrev pub entries : {G F : _} {g : _} → HostTable G F g → List HostEntry
entries t = map entry_of t.hosts.items

-- it stands at the end, and its name was not there; or nothing has changed and it was handed back
abbrev pub AddsHost : {G F : _} {g : _} → List HostEntry → List HostEntry → HostEntry → Result (Unit {0}) (HostError G F g) → Type 0
AddsHost old new host (Ok u) = (new ≡ old ++ host ∷ []) × (list_any (λ e. bytes_eq e.name host.name) old ≡ false)
AddsHost old new host (Err (errors.HostExists h)) = (new ≡ old) × (entry_of h ≡ host) × (list_any (λ e. bytes_eq e.name host.name) old ≡ true)
AddsHost old new host (Err (errors.NoMemory h)) = (new ≡ old) × (entry_of h ≡ host)
