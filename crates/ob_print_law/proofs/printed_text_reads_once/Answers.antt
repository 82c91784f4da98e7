use Rattle.ob_print_law.proofs.Again.{reads_once}
use Rattle.ob_print_law.proofs.printed_text_reads_once.Goals as goal

pub returns : goal.returns
returns c = λ text tree other u r s. reads_once text tree other u r s
