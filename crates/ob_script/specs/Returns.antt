-- For private clauses: plain data that is written reads back.
use Rattle.std.specs.Prelude.{◌≡◌, List, [], ◌∷◌, map, true, Ok, ⊤}
use Rattle.serde_json.specs.View.{items_of}
use Rattle.ob_base.specs.declared.command.Command.{Command}
use Rattle.ob_base.specs.declared.command.Command.TheVariants as commands
use Rattle.ob_base.specs.PlainData.{are_all}
use Rattle.ob_base.specs.declared.plain.Plain.{Plain}
use Rattle.ob_base.specs.declared.plain.PlainProp.{PlainProp}
use Rattle.ob_script.specs.Forms.{is_readable}
use Rattle.ob_script.specs.Inputs.{plain_of, plains_of}
use Rattle.ob_script.specs.Texts.{plain_data}

abbrev pub IsBack : Plain → Type 0
IsBack p = is_readable p ≡ true → plain_of (plain_data p) ≡ Ok p

abbrev pub AreBack : List Plain → Type 0
AreBack ps = are_all (map is_readable ps) ≡ true → plains_of (items_of (map plain_data ps)) ≡ Ok ps

abbrev pub EachBack : List PlainProp → Type 0
EachBack [] = ⊤
EachBack (p ∷ ps) = IsBack p.value × EachBack ps

abbrev pub InputIsBack : Command → Type 0
InputIsBack (commands.Notebook id cells) = ⊤
InputIsBack (commands.Define notebook cell place) = ⊤
InputIsBack (commands.Redefine notebook cell) = ⊤
InputIsBack (commands.Delete notebook cell) = ⊤
InputIsBack (commands.Input notebook cell value) = IsBack value
InputIsBack (commands.Observe notebook cell) = ⊤
InputIsBack (commands.Unobserve notebook cell) = ⊤
InputIsBack commands.Tick = ⊤
