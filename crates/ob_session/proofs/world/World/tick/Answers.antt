use Rattle.std.proofs.Common.{◌≡◌, length, ap, ◌∙◌}
use Rattle.ob_session.specs.Live.{live_from}
use Rattle.ob_session.proofs.Sounds.{length-live_from}
use Rattle.ob_session.proofs.world.World.tick.Goals as goal

pub returns-clause-sound : goal.returns-clause-sound
returns-clause-sound c =
    let is : c.from_vec.result ≡ live_from 0 c.args.self.now.cells c.args.self.now.observed = cc (c.from_vec.ensures, c.in_ok-now.ensures, c.as_slice-cells.ensures, c.as_slice-observed.ensures) in
    record {
      observed = c.requires.sound.observed;
      live = ap length is ∙ length-live_from 0 c.args.self.now.cells c.args.self.now.observed c.requires.sound.observed;
      built_up = c.requires.sound.built_up;
    }
