use Rattle.std.proofs.Common.{◌∙◌, ap, ◌-◌, length}
use Rattle.std.specs.Prelude.{unwrap_or}
use Rattle.ob_items.specs.declared.value.Value.TheVariants as V
use Rattle.ob_array_methods.proofs.ResultLemmas.{adds-taken}
use Rattle.ob_array_methods.proofs.removals.pop.Goals as goal

pub returns-clause-sound : goal.returns-clause-sound
returns-clause-sound c =
    adds-taken c.args.regions.now _ c.args.receiver (λ values. length values - 1) c.unwrap_or.result c.in-Ok.ensures.kept (c.unwrap_or.ensures ∙ ap (λ o. unwrap_or o V.Undefined) c.in-Ok.ensures.value)
