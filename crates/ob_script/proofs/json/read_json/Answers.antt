use Rattle.std.proofs.Common.{sym, ap, ◌∙◌}
use Rattle.serde_json.specs.Read.{read}
use Rattle.ob_script.proofs.JsonReading.{json_of-text, json_of-other}
use Rattle.ob_script.proofs.json.read_json.Goals as goal

pub returns-in-Ok-from_str-clause-value : goal.returns-in-Ok-from_str-clause-value
returns-in-Ok-from_str-clause-value c = json_of-text _ _ c.in-Ok.ensures.cases.1 (ap read (sym c.in-Ok.ensures.cases.0) ∙ c.in-Ok-from_str.ensures.ok)

pub returns-else-is_memory-clause-not_json : goal.returns-else-is_memory-clause-not_json
returns-else-is_memory-clause-not_json c same = json_of-text _ _ c.in-Ok.ensures.cases.1
    (ap read (sym c.in-Ok.ensures.cases.0) ∙ c.in-Err-from_str.ensures.err (λ memory. cc (c.if-is_memory.false, c.is_memory.ensures.1 memory)))

pub returns-in-Err-clause-not_json : goal.returns-in-Err-clause-not_json
returns-in-Err-clause-not_json c same = json_of-other _ c.in-Err.ensures.cases.0
