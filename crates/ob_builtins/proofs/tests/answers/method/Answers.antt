use Rattle.std.proofs.Common.{◌∙◌, sym}
use Rattle.ob_builtins.proofs.tests.answers.method.Goals as goal

pub call_method-requires-clause-called : goal.call_method-requires-clause-called
call_method-requires-clause-called c = sym (c.is_method.ensures c.args.key c.args.args.now) ∙ c.if-is_method.true
