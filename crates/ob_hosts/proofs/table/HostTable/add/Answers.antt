use Rattle.std.proofs.Common.{arith, refl, ap, sym, ◌∙◌}
use Rattle.std.proofs.lemmas.Grind.{common_steps}
use Rattle.std.specs.Prelude.{is_some, bytes_eq}
use Rattle.ob_hosts.specs.Table.{entries}
use Rattle.ob_hosts.proofs.Places.{any_from_position, none_from_position}
use Rattle.ob_hosts.proofs.table.HostTable.add.Goals as goal

pub returns-then-is_some : goal.returns-then-is_some
returns-then-is_some g c = (refl, refl, any_from_position (λ e. bytes_eq e.name c.args.host.name) 0 (entries c.args.self.now) (ap is_some (sym c.find.ensures) ∙ sym c.is_some.ensures ∙ c.if-is_some.true))

pub returns-in-Ok : goal.returns-in-Ok
returns-in-Ok g c = (grind (arith, common_steps, c.in-Ok.ensures.items), none_from_position (λ e. bytes_eq e.name c.args.host.name) 0 (entries c.args.self.now) (ap is_some (sym c.find.ensures) ∙ sym c.is_some.ensures ∙ c.if-is_some.false))
