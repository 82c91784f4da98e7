use Rattle.std.proofs.Common.{arith}
use Rattle.ob_items.proofs.DecimalLemmas.{decimal_digit_at}
use Rattle.ob_items.proofs.index_text.number.Goals as goal
use Rattle.ob_items.proofs.index_text.number.Goals.{then-unit-lt48-via-then-unit-lt48, then-unit-lt48-via-else-unit-lt48+then-unit-gt57}

pub returns-then-unit-lt48-clause-none : goal.returns-then-unit-lt48-clause-none
returns-then-unit-lt48-clause-none c n small e =
    let d = decimal_digit_at c.args.units.now n c.loop-unit.unit-index small e c.loop-unit-test.true in
    elim c.then-unit-lt48.branch [
      | then-unit-lt48-via-then-unit-lt48 w ↦ omega (arith, d.0, d.1, w.if-unit-lt48.true)
      | then-unit-lt48-via-else-unit-lt48+then-unit-gt57 w ↦ omega (arith, d.0, d.1, w.if-unit-gt57.true)
    ]
