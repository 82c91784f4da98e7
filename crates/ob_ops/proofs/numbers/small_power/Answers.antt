use Rattle.std.proofs.Common.{◌≡◌, ◌%◌, ◌∙◌, sym, ap, arith, pos, negsuc, cond, ◌==◌, true, false}
use Rattle.std.proofs.lemmas.Int.{ints}
use Rattle.std.proofs.lemmas.Bool.Decides.{nat_tests}
use Rattle.ob_ops.proofs.PowerLemmas.{power_one, power_zero, power_minus_one}
use Rattle.ob_ops.proofs.numbers.small_power.Goals as goal

pub returns-then-a-gt0-clause-value : goal.returns-then-a-gt0-clause-value
returns-then-a-gt0-clause-value c = power_one c.args.a c.args.n (omega (arith, ints))

pub returns-else-n-eq0-clause-value : goal.returns-else-n-eq0-clause-value
returns-else-n-eq0-clause-value c = power_zero c.args.a c.args.n (omega (arith, ints)) (omega arith)

pub returns-then-n-eq0-2-clause-value : goal.returns-then-n-eq0-2-clause-value
returns-then-n-eq0-2-clause-value c = let e : c.args.a ≡ negsuc 0 = omega (arith, ints) in
    let even : c.args.n % 2 == 0 ≡ true = grind (arith, nat_tests) in
    sym (power_minus_one c.args.a c.args.n e ∙ ap (λ b. cond b (pos 1) (negsuc 0)) even)

pub returns-else-n-eq0-2-clause-value : goal.returns-else-n-eq0-2-clause-value
returns-else-n-eq0-2-clause-value c = let e : c.args.a ≡ negsuc 0 = omega (arith, ints) in
    let odd : c.args.n % 2 == 0 ≡ false = grind (arith, nat_tests) in
    sym (power_minus_one c.args.a c.args.n e ∙ ap (λ b. cond b (pos 1) (negsuc 0)) odd)
