use Rattle.ob_print_law.proofs.Again.{reads_again}
use Rattle.ob_print_law.proofs.printed_text_reads.Goals as goal

pub returns : goal.returns
returns c = λ text tree u r. reads_again text tree u r
