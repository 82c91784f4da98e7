-- What the first line of an input holds, or its first fault of form: its fields in reading order (this project).
use Rattle.std.specs.Prelude.{ℕ, List, [], ◌∷◌, codes, Option, Some, None, Result, Ok, Err}
use Rattle.serde_json.specs.Data.{Data}
use Rattle.serde_json.specs.Find.{as_array}
use Rattle.ob_base.specs.declared.cause.Cause.{Cause}
use Rattle.ob_base.specs.declared.cause.Cause.TheVariants.{NotJson}
use Rattle.ob_base.specs.declared.command.Command.TheVariants as commands
use Rattle.ob_base.specs.declared.command.NewCell.{NewCell}
use Rattle.ob_script.specs.declared.bundle.BundleLine.{BundleLine}
use Rattle.ob_script.specs.Fields.{◌>>=◌, field, entries, notebook_id, version_one}
use Rattle.ob_script.specs.Commands.{new_notebook}
use Rattle.ob_script.specs.Json.{json_of}

unfoldable pub bundle_of : Data → Result BundleLine Cause
bundle_of d =
    field version_one (codes "version") d >>= λ version.
    field notebook_id (codes "main") d >>= λ main.
    field as_array (codes "notebooks") d >>= λ items.
    entries new_notebook items >>= λ notebooks.
    Ok (record { main = main; notebooks = notebooks })

abbrev pub bundle_of_json : Option Data → Result BundleLine Cause
bundle_of_json None = Err NotJson
bundle_of_json (Some d) = bundle_of d

-- what a first line holds
unfoldable pub bundle_of_line : List ℕ → Result BundleLine Cause
bundle_of_line line = bundle_of_json (json_of line)

-- the bundle of one notebook, the main one
abbrev pub one_notebook : List ℕ → List NewCell → BundleLine
one_notebook main cells = record { main = main; notebooks = commands.Notebook main cells ∷ [] }
