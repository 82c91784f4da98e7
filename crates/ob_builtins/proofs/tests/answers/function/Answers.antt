use Rattle.std.proofs.Common.{◌∙◌, sym}
use Rattle.ob_builtins.proofs.tests.answers.function.Goals as goal

pub call_function-requires-clause-called : goal.call_function-requires-clause-called
call_function-requires-clause-called c = sym (c.is_function.ensures c.args.regions.now c.args.key c.args.args.now) ∙ c.if-is_function.true
