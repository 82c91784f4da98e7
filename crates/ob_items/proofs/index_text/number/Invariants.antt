use Rattle.std.proofs.Common.{◌≡◌, ◌<◌, ◌^◌, take}
use Rattle.ob_items.specs.IndexText.{read}
use Rattle.ob_items.proofs.index_text.number.Given as goal

abbrev pub invariant-loop-unit : goal.invariant-loop-unit
invariant-loop-unit l = record { value : l.value ≡ read (take l.unit-index l.units); small : l.value < 10 ^ l.unit-index }
