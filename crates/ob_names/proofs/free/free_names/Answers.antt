use Rattle.std.proofs.Common.{◌≡◌, map, ap, ◌∙◌}
use Rattle.ob_names.specs.Forms.{name_ref}
use Rattle.ob_tree.specs.Names.{free_in}
use Rattle.ob_names.specs.Found.{Found}
use Rattle.ob_names.proofs.Running.{all_mentions}
use Rattle.ob_names.proofs.free.free_names.Goals as goal

pub returns : goal.returns
returns c =
    c.in_ok-copies.ensures ∙ c.in_ok-names.ensures
    ∙ ap (λ ms. map name_ref (free_in ms)) (c.mentions.ensures ∙ ap (λ (s : Found). s.mentions) c.in_ok-walker.ensures ∙ all_mentions _)
