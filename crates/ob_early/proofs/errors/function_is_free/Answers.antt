use Rattle.std.proofs.Common.{◌∙◌}
use Rattle.ob_grammar.specs.Early.{made}
use Rattle.ob_early.proofs.Running.{at_last}
use Rattle.ob_early.proofs.errors.function_is_free.Goals as goal

pub returns : goal.returns
returns c = c.is_fine.ensures ∙ at_last (made c.args.function.now).check c.walk_function.new.walker (cc (c.in_ok-walk_function.ensures, c.outermost.ensures, c.new-walker.ensures))
