use Rattle.ob_code.proofs.Sound.{rules_suffice}
use Rattle.ob_code.proofs.laws.accepted_code_is_never_stuck.Goals as goal

pub returns : goal.returns
returns c = rules_suffice
