use Rattle.std.proofs.Common.{bytes_eq}
use Rattle.ob_session.proofs.Through.{insert-map}
use Rattle.ob_session.proofs.known.add_id.Goals as goal

pub returns : goal.returns
returns c = insert-map (λ k. k.now) (bytes_eq c.args.id.now) c.args.ids.now.keys c.insert.new.self.keys c.args.id c.in_ok-insert.ensures.keys c.requires
