use Rattle.std.proofs.Common.{◌∙◌}
use Rattle.ob_early.specs.Found.{expression_check}
use Rattle.ob_early.proofs.Running.{at_last}
use Rattle.ob_early.proofs.errors.expression_is_free.Goals as goal

pub returns : goal.returns
returns c = c.is_fine.ensures ∙ at_last (expression_check c.args.function.now) c.walk_expression.new.walker (cc (c.in_ok-walk_expression.ensures, c.outermost.ensures, c.new-walker.ensures))
