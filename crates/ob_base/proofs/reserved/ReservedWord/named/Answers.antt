use Rattle.std.proofs.Common.{arith, ◌≤◌, length}
use Rattle.ob_base.proofs.ReservedWords.{named_by, empty_is_none}
use Rattle.ob_base.proofs.reserved.ReservedWord.named.Goals as goal

pub returns-in-empty : goal.returns-in-empty
returns-in-empty c = empty_is_none c.args.name.now c.as_bytes.result.now c.as_bytes.ensures.value (omega (arith, c.in-empty.len_below))

pub returns-in-len1-up : goal.returns-in-len1-up
returns-in-len1-up c =
    named_by c.args.name.now c.as_bytes.result.now c.words_of.result.now c.find_word.result c.as_bytes.ensures.value (omega (arith, c.in-len1-up.len_at_least)) c.words_of.ensures c.find_word.ensures
