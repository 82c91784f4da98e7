use Rattle.std.proofs.Common.{arith, rules, ◌^◌, ◌*ℤ◌, FitsSigned, w64}
use Rattle.std.specs.Int.{w128}
use Rattle.std.proofs.lemmas.Int.{to_z-of_z, fits_signed_mul}
use Rattle.ob_ops.proofs.NumberLemmas.{at_most_2_63}
use Rattle.ob_ops.proofs.numbers.mul.Goals as goal

pub returns-clause-value : goal.returns-clause-value
returns-clause-value c =
    let a = c.args.a in
    let b = c.args.b in
    let left : FitsSigned w64 a = c.ranges.a in
    let right : FitsSigned w64 b = c.ranges.b in
    let wide_left : FitsSigned w128 a = search rules in
    let wide_right : FitsSigned w128 b = search rules in
    let product : FitsSigned w128 (a *ℤ b) =
    fits_signed_mul w128 a b (2 ^ 63) (2 ^ 63) (at_most_2_63 a left) (at_most_2_63 b right) (omega arith) in
    let h = c.ranged.ensures.value in
    simp to_z-of_z at h
