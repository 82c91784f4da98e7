use Rattle.std.proofs.Common.{arith}
use Rattle.ob_values.specs.Builtins.{function_call}
use Rattle.ob_values.specs.Sound.{pointers_of}
use Rattle.ob_builtins.proofs.CallLemmas.{fixed_of}
use Rattle.ob_builtins.proofs.NumberLemmas.{function_number}
use Rattle.ob_builtins.proofs.functions.call_function.Goals as goal

pub call_math-requires-clause-from : goal.call_math-requires-clause-from
call_math-requires-clause-from c = (function_number c.args.regions.now c.args.region c.args.builtin c.args.args.now c.requires.called (omega arith)).0

pub call_object-requires-clause-to : goal.call_object-requires-clause-to
call_object-requires-clause-to c =
    let within = function_number c.args.regions.now c.args.region c.args.builtin c.args.args.now c.requires.called (omega arith) in
    omega (arith, within.1)

pub returns-then-builtin-le6-clause-fixed : goal.returns-then-builtin-le6-clause-fixed
returns-then-builtin-le6-clause-fixed c =
    fixed_of c.args.regions.now c.call_named.new.regions c.args.left (pointers_of c.args.args.now) c.call_named.result (function_call c.args.regions.now c.args.region c.args.builtin c.args.args.now)
    c.requires.called c.call_named.ensures

pub returns-else-builtin-le38-clause-fixed : goal.returns-else-builtin-le38-clause-fixed
returns-else-builtin-le38-clause-fixed c =
    fixed_of c.args.regions.now c.call_object.new.regions c.args.left (pointers_of c.args.args.now) c.call_object.result (function_call c.args.regions.now c.args.region c.args.builtin c.args.args.now)
    c.requires.called c.call_object.ensures
