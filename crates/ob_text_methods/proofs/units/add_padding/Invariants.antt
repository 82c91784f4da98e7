use Rattle.std.proofs.Common.{◌≡◌, ◌++◌}
use Rattle.std.specs.List.{repeat}
use Rattle.ob_text_methods.proofs.units.add_padding.Given as goal

abbrev pub invariant-loop-turn : goal.invariant-loop-turn
invariant-loop-turn l = l.made.items ≡ l.initial.made.items ++ repeat l.turn l.pad
