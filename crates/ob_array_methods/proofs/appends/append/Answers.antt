use Rattle.std.proofs.Common.{◌≡◌, arith, length, ap}
use Rattle.std.proofs.lemmas.Int.{ints}
use Rattle.std.proofs.Common.{to_z, w64}
use Rattle.std.specs.Int.RustNames.{unsigned_abs}
use Rattle.ob_values.specs.ArrayMethods.{elements_at}
use Rattle.ob_array_methods.proofs.AppendLemmas.{appended-thawed}
use Rattle.ob_array_methods.proofs.LoopLemmas.{appended-is, element-array}
use Rattle.ob_array_methods.proofs.appends.append.Goals as goal

pub returns-in-Ok-clause-ok : goal.returns-in-Ok-clause-ok
returns-in-Ok-clause-ok c =
    let len : length c.elements_of-place.result.now ≡ length (elements_at c.args.regions.now c.args.receiver) = ap length c.elements_of-place.ensures in
    let at : unsigned_abs (to_z w64 (length c.elements_of-place.result.now)) ≡ length (elements_at c.args.regions.now c.args.receiver) = omega (arith, ints) in
    appended-is c.args.regions.now c.set_index.new.self c.args.receiver _ c.args.value at c.in-Ok.ensures.ok

pub returns-in-Ok-clause-array : goal.returns-in-Ok-clause-array
returns-in-Ok-clause-array c = element-array c.args.regions.now c.set_index.new.self c.args.receiver _ c.args.value _ c.requires.array c.in-Ok.ensures.ok

pub returns-in-Ok-clause-thawed : goal.returns-in-Ok-clause-thawed
returns-in-Ok-clause-thawed c =
    let len : length c.elements_of-place.result.now ≡ length (elements_at c.args.regions.now c.args.receiver) = ap length c.elements_of-place.ensures in
    let at : unsigned_abs (to_z w64 (length c.elements_of-place.result.now)) ≡ length (elements_at c.args.regions.now c.args.receiver) = omega (arith, ints) in
    appended-thawed c.args.regions.now c.set_index.new.self c.args.receiver c.args.value
    (appended-is c.args.regions.now c.set_index.new.self c.args.receiver _ c.args.value at c.in-Ok.ensures.ok) c.requires.thawed
