use Rattle.std.proofs.Common.{◌≡◌, map, ap, ◌∙◌, bytes_eq}
use Rattle.ob_tree.specs.Names.{each_once, name_of}
use Rattle.ob_names.specs.Found.{Found}
use Rattle.ob_names.proofs.Running.{all_bound}
use Rattle.ob_names.proofs.local.local_names.Goals as goal

pub returns : goal.returns
returns c =
    c.in_ok-copies.ensures ∙ c.in_ok-names.ensures
    ∙ ap (λ bs. each_once bytes_eq (map name_of bs)) (c.bound.ensures ∙ ap (λ (s : Found). s.bound) c.in_ok-walker.ensures ∙ all_bound _)
