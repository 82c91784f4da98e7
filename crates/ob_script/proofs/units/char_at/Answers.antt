use Rattle.std.proofs.Common.{◌+◌, arith}
use Rattle.ob_script.proofs.Utf16.{lossy_pair, lossy_lone}
use Rattle.ob_script.proofs.units.char_at.Goals as goal

pub returns-then-is_pair-clause-chars : goal.returns-then-is_pair-clause-chars
returns-then-is_pair-clause-chars c =
    let h = lossy_pair c.args.units.now c.args.place (c.args.place + 1) (c.args.place + 2) (omega arith) (omega arith) (cc) in cc

pub returns-else-is_pair-clause-chars : goal.returns-else-is_pair-clause-chars
returns-else-is_pair-clause-chars c =
    let h = lossy_lone c.args.units.now c.args.place (c.args.place + 1) (omega arith) c.requires (cc) in cc
