-- What a line asks for, or its first fault of form: for each word of `do` its fields in reading order (this project).
use Rattle.std.specs.Prelude.{ℕ, List, codes, bytes_eq, Option, Some, None, Result, Ok, Err, if◌then◌else◌}
use Rattle.serde_json.specs.Data.{Data}
use Rattle.serde_json.specs.Find.{as_str, as_array}
use Rattle.ob_base.specs.declared.cause.Cause.{Cause}
use Rattle.ob_base.specs.declared.cause.Cause.TheVariants.{NotJson, UnknownCommand}
use Rattle.ob_base.specs.declared.command.Command.{Command}
use Rattle.ob_base.specs.declared.command.Command.TheVariants as commands
use Rattle.ob_base.specs.declared.command.NewCell.{NewCell}
use Rattle.ob_script.specs.declared.word.Word.{Word}
use Rattle.ob_script.specs.declared.word.Word.TheVariants as words
use Rattle.ob_script.specs.Fields.{◌>>=◌, field, entries, notebook_id, cell_id, place_field}
use Rattle.ob_script.specs.Inputs.{value_field}
use Rattle.ob_script.specs.Json.{json_of}

-- an entry of `cells`
unfoldable pub new_cell : Data → Result NewCell Cause
new_cell d =
    field cell_id (codes "id") d >>= λ id.
    field as_str (codes "text") d >>= λ text.
    Ok (record { id = id; text = text })

-- a notebook of a bundle, and the command `notebook`
unfoldable pub new_notebook : Data → Result Command Cause
new_notebook d =
    field notebook_id (codes "id") d >>= λ id.
    field as_array (codes "cells") d >>= λ items.
    entries new_cell items >>= λ cells.
    Ok (commands.Notebook id cells)

-- the fields of each word in reading order
unfoldable pub fields : Word → Data → Result Command Cause
fields words.Notebook d = new_notebook d
fields words.Define d =
    field notebook_id (codes "notebook") d >>= λ notebook.
    field cell_id (codes "cell") d >>= λ cell.
    field as_str (codes "text") d >>= λ text.
    place_field d >>= λ place.
    Ok (commands.Define notebook (record { id = cell; text = text }) place)
fields words.Redefine d =
    field notebook_id (codes "notebook") d >>= λ notebook.
    field cell_id (codes "cell") d >>= λ cell.
    field as_str (codes "text") d >>= λ text.
    Ok (commands.Redefine notebook (record { id = cell; text = text }))
fields words.Delete d =
    field notebook_id (codes "notebook") d >>= λ notebook.
    field cell_id (codes "cell") d >>= λ cell.
    Ok (commands.Delete notebook cell)
fields words.Input d =
    field notebook_id (codes "notebook") d >>= λ notebook.
    field cell_id (codes "cell") d >>= λ cell.
    value_field d >>= λ value.
    Ok (commands.Input notebook cell value)
fields words.Observe d =
    field notebook_id (codes "notebook") d >>= λ notebook.
    field cell_id (codes "cell") d >>= λ cell.
    Ok (commands.Observe notebook cell)
fields words.Unobserve d =
    field notebook_id (codes "notebook") d >>= λ notebook.
    field cell_id (codes "cell") d >>= λ cell.
    Ok (commands.Unobserve notebook cell)
fields words.Tick d = Ok commands.Tick

-- the word that a text is
unfoldable pub word_of : List ℕ → Option Word
word_of text = if bytes_eq text (codes "notebook") then Some words.Notebook
    else (if bytes_eq text (codes "define") then Some words.Define
    else (if bytes_eq text (codes "redefine") then Some words.Redefine
    else (if bytes_eq text (codes "delete") then Some words.Delete
    else (if bytes_eq text (codes "input") then Some words.Input
    else (if bytes_eq text (codes "observe") then Some words.Observe
    else (if bytes_eq text (codes "unobserve") then Some words.Unobserve
    else (if bytes_eq text (codes "tick") then Some words.Tick else None)))))))

abbrev pub known : Option Word → Result Word Cause
known None = Err UnknownCommand
known (Some word) = Ok word

-- what a value asks for
unfoldable pub command_of : Data → Result Command Cause
command_of d =
    field as_str (codes "do") d >>= λ text.
    known (word_of text) >>= λ word.
    fields word d

abbrev pub command_of_json : Option Data → Result Command Cause
command_of_json None = Err NotJson
command_of_json (Some d) = command_of d

-- what a line asks for
unfoldable pub command_of_line : List ℕ → Result Command Cause
command_of_line line = command_of_json (json_of line)
