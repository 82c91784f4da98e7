use Rattle.ob_prelude_texts.proofs.Texts.{texts_read}
use Rattle.ob_prelude_texts.proofs.prelude_texts_read.Goals as goal

pub returns : goal.returns
returns c = λ which. texts_read which
