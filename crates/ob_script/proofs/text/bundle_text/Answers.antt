use Rattle.std.proofs.Common.{arith, string_bytes}
use Rattle.std.proofs.lemmas.Str.{IsUtf8-string_bytes}
use Rattle.serde_json.specs.View.{view}
use Rattle.ob_script.proofs.Back.{bundle_line_back}
use Rattle.ob_script.proofs.text.bundle_text.Goals as goal

pub returns-clause-reads_back : goal.returns-clause-reads_back
returns-clause-reads_back c h =
    rw (c.from_string.ensures)
    (bundle_line_back (string_bytes c.in_ok-to_string.field-0) (view c.in_ok-value.value) c.args.main.now c.args.cells.now (IsUtf8-string_bytes c.in_ok-to_string.field-0)
    (c.in_ok-to_string.ensures.reads_back (omega (arith, c.in_ok-value.ensures.deep))) (rw (← c.as_str.ensures, ← c.as_slice.ensures) c.in_ok-value.ensures.data) h)
