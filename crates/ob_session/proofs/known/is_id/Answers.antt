use Rattle.std.proofs.Common.{◌∙◌, sym, bytes_eq}
use Rattle.ob_session.proofs.Through.{any-map}
use Rattle.ob_session.proofs.known.is_id.Goals as goal

pub returns : goal.returns
returns c = c.contains.ensures ∙ sym (any-map (λ k. k.now) (bytes_eq c.args.id.now) c.args.ids.now.keys)
