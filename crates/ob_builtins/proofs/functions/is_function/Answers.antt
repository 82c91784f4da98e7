use Rattle.std.proofs.Common.{◌∙◌, sym, arith}
use Rattle.ob_builtins.proofs.NumberLemmas.{function_between, function_range, function_test, name_test}
use Rattle.ob_builtins.proofs.functions.is_function.Goals as goal

pub returns-then-builtin-le6 : goal.returns-then-builtin-le6
returns-then-builtin-le6 c = λ s region args. name_test c.args.builtin (omega arith) ∙ sym (function_range s region c.args.builtin args)

pub returns-then-builtin-ge35 : goal.returns-then-builtin-ge35
returns-then-builtin-ge35 c = λ s region args. function_test c.args.builtin (omega arith) ∙ sym (function_range s region c.args.builtin args)

pub returns-else-builtin-ge35 : goal.returns-else-builtin-ge35
returns-else-builtin-ge35 c = λ s region args. function_between c.args.builtin (omega arith) (omega arith) ∙ sym (function_range s region c.args.builtin args)
