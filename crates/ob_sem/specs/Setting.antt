-- What stays the same in a run of a text: the world of its actions, and the texts that it can reach.
use Rattle.std.specs.Prelude.{ℕ, List, [], ◌∷◌, map, Option, Some, None, slice_get, slice_index_or}
use Rattle.std.specs.Option.{option_and_then}
use Rattle.ob_items.specs.declared.value.CodeKey.{CodeKey}
use Rattle.ob_items.specs.declared.value.Value.{Value}
use Rattle.ob_items.specs.declared.value.Value.TheVariants as V
use Rattle.ob_tree.specs.Names.{Referred}
use Rattle.ob_tree_prelude.specs.Trees.{tree_of}
use Rattle.ob_tree_prelude.specs.declared.prelude.Prelude.TheVariants as prelude
use Rattle.ob_tree_types.specs.declared.tree.Function.{Function}
use Rattle.ob_actions.specs.World.{World}
use Rattle.ob_tree.specs.Captures.{free_of}
use Rattle.ob_tree.specs.Functions.{Located, functions_of}

-- a text: its functions by their numbers, and its free names, which have the places of the inputs; a text of the prelude has values of its
-- own for these
pub record Text : Type 0 where
  pub functions : List Located
  pub free : List Referred
  pub given : Option (List Value)

-- the text of a cell, as a function
abbrev pub cell_text : Function → Text
cell_text f = record { functions = functions_of f; free = free_of f; given = None }

-- a text of the prelude: no name is free in it but `TypeError`, which is the builtin
abbrev pub prelude_text : Function → Text
prelude_text f = record { functions = functions_of f; free = free_of f; given = Some (V.Builtin 5 ∷ []) }

-- the texts of the prelude, which have the numbers from 0 to 6
abbrev pub prelude_texts : List (Option Text)
prelude_texts = map (λ p. Some (prelude_text (tree_of p)))
    (prelude.Map ∷ prelude.Filter ∷ prelude.ForEach ∷ prelude.Some ∷ prelude.Every ∷ prelude.Reduce ∷ prelude.From ∷ [])

pub record Setting : Type 0 where
  pub world : World
  pub texts : List (Option Text)

abbrev pub text_at : Setting → ℕ → Option Text
text_at set code = slice_index_or set.texts code None

-- the function of a code
abbrev pub function_at : Setting → CodeKey → Option Located
function_at set key = option_and_then (λ text. slice_get text.functions key.function) (text_at set key.code)
