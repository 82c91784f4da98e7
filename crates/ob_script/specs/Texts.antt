-- The line that a command or a bundle is written as: JSON with no space, the keys of each object in byte order (this project).
use Rattle.std.specs.Prelude.{ℕ, List, [], ◌∷◌, map, codes, Option, Some, None}
use Rattle.std.specs.Char.Utf16.{utf16_lossy_chars}
use Rattle.std.specs.Str.{encode_utf8_all}
use Rattle.serde_json.specs.Data.{Data, null, boolean, number, string, array, object, unsigned, Members, no_members, member, put}
use Rattle.serde_json.specs.Find.{of_integer}
use Rattle.serde_json.specs.View.{items_of}
use Rattle.serde_json.specs.Written.{compact_text}
use Rattle.ob_base.specs.declared.command.Command.{Command}
use Rattle.ob_base.specs.declared.command.Command.TheVariants as commands
use Rattle.ob_base.specs.declared.command.NewCell.{NewCell}
use Rattle.ob_base.specs.PlainData.{nesting}
use Rattle.ob_base.specs.declared.plain.Plain.{Plain, fold-Plain}
use Rattle.ob_base.specs.declared.plain.PlainProp.{PlainProp, fold-PlainProp}
use Rattle.ob_base.specs.declared.plain.Plain.TheOpen.{Plain-F, PlainProp-F}

-- the text in UTF-8 of UTF-16 code units, with U+FFFD for a surrogate that has no partner
unfoldable pub utf8 : List ℕ → List ℕ
utf8 units = encode_utf8_all (utf16_lossy_chars units)

-- an object of these members, written in byte order
abbrev pub members_from : List (List ℕ × Data) → Members
members_from [] = no_members
members_from (m ∷ ms) = member m.0 m.1 (members_from ms)

abbrev pub object_from : List (List ℕ × Data) → Data
object_from ms = object (members_from ms)

-- ---- plain data: `undefined` is written as `null`

-- the properties go into an object in turn
abbrev pub put_all : Members → List (List ℕ × Data) → Members
put_all found [] = found
put_all found (p ∷ ps) = put_all (put p.0 p.1 found) ps

abbrev pub plain_step : Plain-F Data (List ℕ × Data) → Data
plain_step Plain-F.Undefined = null
plain_step Plain-F.Null = null
plain_step (Plain-F.Bool b) = boolean b
plain_step (Plain-F.Int n) = number (of_integer n)
plain_step (Plain-F.Text units) = string (utf8 units)
plain_step (Plain-F.Array items) = array (items_of items)
plain_step (Plain-F.Object props) = object (put_all no_members props)

abbrev pub prop_step : PlainProp-F Data (List ℕ × Data) → List ℕ × Data
prop_step p = (utf8 p.key, p.value)

abbrev pub plain_data : Plain → Data
plain_data = fold-Plain Data (List ℕ × Data) plain_step prop_step

abbrev pub prop_data : PlainProp → List ℕ × Data
prop_data = fold-PlainProp Data (List ℕ × Data) plain_step prop_step

-- ---- commands and bundles

abbrev pub cell_data : NewCell → Data
cell_data cell = object_from ((codes "id", string cell.id) ∷ (codes "text", string cell.text) ∷ [])

abbrev pub cells_data : List NewCell → Data
cells_data cells = array (items_of (map cell_data cells))

-- with the place where there is one
abbrev pub text_data : List ℕ → List ℕ → NewCell → Data
text_data word notebook cell =
    object_from ((codes "cell", string cell.id) ∷ (codes "do", string word) ∷ (codes "notebook", string notebook) ∷ (codes "text", string cell.text) ∷ [])

abbrev pub place_data : List ℕ → NewCell → ℕ → Data
place_data notebook cell place =
    object_from ((codes "cell", string cell.id) ∷ (codes "do", string (codes "define")) ∷ (codes "notebook", string notebook)
    ∷ (codes "place", number (unsigned place)) ∷ (codes "text", string cell.text) ∷ [])

abbrev pub cell_command_data : List ℕ → List ℕ → List ℕ → Data
cell_command_data word notebook cell =
    object_from ((codes "cell", string cell) ∷ (codes "do", string word) ∷ (codes "notebook", string notebook) ∷ [])

abbrev pub input_data : List ℕ → List ℕ → Plain → Data
input_data notebook cell value =
    object_from ((codes "cell", string cell) ∷ (codes "do", string (codes "input")) ∷ (codes "notebook", string notebook)
    ∷ (codes "value", plain_data value) ∷ [])

abbrev pub notebook_command_data : List ℕ → List NewCell → Data
notebook_command_data id cells =
    object_from ((codes "cells", cells_data cells) ∷ (codes "do", string (codes "notebook")) ∷ (codes "id", string id) ∷ [])

abbrev pub tick_data : Data
tick_data = object_from ((codes "do", string (codes "tick")) ∷ [])

abbrev pub define_data : List ℕ → NewCell → Option ℕ → Data
define_data notebook cell None = text_data (codes "define") notebook cell
define_data notebook cell (Some place) = place_data notebook cell place

abbrev pub command_data : Command → Data
command_data (commands.Notebook id cells) = notebook_command_data id cells
command_data (commands.Define notebook cell place) = define_data notebook cell place
command_data (commands.Redefine notebook cell) = text_data (codes "redefine") notebook cell
command_data (commands.Delete notebook cell) = cell_command_data (codes "delete") notebook cell
command_data (commands.Input notebook cell value) = input_data notebook cell value
command_data (commands.Observe notebook cell) = cell_command_data (codes "observe") notebook cell
command_data (commands.Unobserve notebook cell) = cell_command_data (codes "unobserve") notebook cell
command_data commands.Tick = tick_data

-- how deep the value of an input is
abbrev pub input_nesting : Command → ℕ
input_nesting (commands.Input notebook cell value) = nesting value
input_nesting _ = 0

-- a bundle of one notebook, which has the main one's id
abbrev pub notebook_data : List ℕ → List NewCell → Data
notebook_data id cells = object_from ((codes "cells", cells_data cells) ∷ (codes "id", string id) ∷ [])

abbrev pub bundle_data : List ℕ → List NewCell → Data
bundle_data main cells =
    object_from ((codes "main", string main) ∷ (codes "notebooks", array (items_of (notebook_data main cells ∷ [])))
    ∷ (codes "version", number (unsigned 1)) ∷ [])

abbrev pub text_of_command : Command → List ℕ
text_of_command command = compact_text (command_data command)

abbrev pub text_of_bundle : List ℕ → List NewCell → List ℕ
text_of_bundle main cells = compact_text (bundle_data main cells)
