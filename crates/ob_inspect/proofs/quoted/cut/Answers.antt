use Rattle.std.proofs.Common.{sym, arith}
use Rattle.std.proofs.lemmas.List.{take_all, length-take-le}
use Rattle.ob_inspect.proofs.quoted.cut.Goals as goal

pub slice_bounds-result-end : goal.slice_bounds-result-end
slice_bounds-result-end c = sym (length-take-le 100 c.args.units.now (omega (arith, c.if-units-gt-MAX_SHOWN_UNITS.true)))

pub returns-else-units-gt-MAX_SHOWN_UNITS : goal.returns-else-units-gt-MAX_SHOWN_UNITS
returns-else-units-gt-MAX_SHOWN_UNITS c = sym (take_all 100 c.args.units.now (omega (arith, c.if-units-gt-MAX_SHOWN_UNITS.false)))
