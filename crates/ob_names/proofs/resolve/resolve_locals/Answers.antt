use Rattle.std.proofs.Common.{◌≡◌, map, ap, ◌∙◌}
use Rattle.ob_names.specs.Kept.{mention_of, bound_of}
use Rattle.ob_names.specs.Forms.{name_ref}
use Rattle.ob_tree.specs.Walks.{function_walk}
use Rattle.ob_tree.specs.Names.{free_in}
use Rattle.ob_names.specs.Found.{Found}
use Rattle.ob_names.specs.Resolved.{bindings_from}
use Rattle.ob_names.specs.Flags.{use_in}
use Rattle.ob_names.proofs.Running.{all_mentions, all_bound}
use Rattle.ob_names.proofs.SlotLaws.{uses_through}
use Rattle.ob_names.proofs.resolve.resolve_locals.Goals as goal

pub returns-clause-bindings : goal.returns-clause-bindings
returns-clause-bindings c =
    c.in_ok-bindings.ensures
    ∙ ap (λ bs. bindings_from (map mention_of c.mentions-mentions.result.now) 0 bs) (c.bound.ensures ∙ ap (λ (s : Found). s.bound) c.in_ok-walker.ensures ∙ all_bound _)
    ∙ ap (λ ms. bindings_from ms 0 (function_walk c.args.function.now).bound) (c.mentions-mentions.ensures ∙ ap (λ (s : Found). s.mentions) c.in_ok-walker.ensures ∙ all_mentions _)

pub returns-clause-uses : goal.returns-clause-uses
returns-clause-uses c =
    let is = c.mentions-mentions.ensures ∙ ap (λ (s : Found). s.mentions) c.in_ok-walker.ensures ∙ all_mentions _ in
    c.in_ok-uses.ensures ∙ ap (λ refs. map (use_in refs) (map mention_of c.mentions-mentions.result.now)) c.in_ok-free.ensures
    ∙ ap (λ ms. map (use_in (map name_ref (free_in ms))) ms) is ∙ uses_through _ _
