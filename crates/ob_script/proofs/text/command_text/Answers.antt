use Rattle.std.proofs.Common.{arith, string_bytes}
use Rattle.std.proofs.lemmas.Str.{IsUtf8-string_bytes}
use Rattle.serde_json.specs.View.{view}
use Rattle.ob_script.proofs.Back.{shallow, command_line_back}
use Rattle.ob_script.proofs.text.command_text.Goals as goal

pub returns-clause-reads_back : goal.returns-clause-reads_back
returns-clause-reads_back c h =
    rw (c.from_string.ensures)
    (command_line_back (string_bytes c.in_ok-to_string.field-0) (view c.in_ok-value.value) c.args.command.now (IsUtf8-string_bytes c.in_ok-to_string.field-0)
    (c.in_ok-to_string.ensures.reads_back (omega (arith, shallow c.args.command.now h, c.in_ok-value.ensures.deep))) c.in_ok-value.ensures.data c.in_ok-value.ensures.back h)
