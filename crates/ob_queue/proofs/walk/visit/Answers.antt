use Rattle.std.proofs.Common.{◌∙◌, sym}
use Rattle.ob_queue.proofs.WalkLaws.{step_in}
use Rattle.ob_queue.proofs.walk.visit.Goals as goal

pub finish_path-requires : goal.finish_path-requires
finish_path-requires c = record {
  walking = (
    c.requires.walking.0,
    step_in c.requires.walking.0 _ c.args.walk.now c.begin.new.self c.args.node c.requires.walking.1 c.requires.path (sym c.waits.ensures ∙ c.if-waits.true)
        c.begin.ensures.marks c.begin.ensures.path c.begin.ensures.places c.begin.ensures.order,
  );
}

pub returns-then-waits-clause-walking : goal.returns-then-waits-clause-walking
returns-then-waits-clause-walking c = λ queue s. c.finish_path.ensures.walking queue
    (step_in queue _ c.args.walk.now c.begin.new.self c.args.node s c.requires.path (sym c.waits.ensures ∙ c.if-waits.true)
    c.begin.ensures.marks c.begin.ensures.path c.begin.ensures.places c.begin.ensures.order)
