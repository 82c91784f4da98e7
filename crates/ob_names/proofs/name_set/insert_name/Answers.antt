use Rattle.std.proofs.Common.{◌≡◌, map, sym, ap, ◌∙◌}
use Rattle.ob_names.specs.Sets.{ref_of, same_ref}
use Rattle.ob_names.proofs.SetLaws.{one_through}
use Rattle.ob_names.proofs.KeyLaws.{same_key, keys_same}
use Rattle.ob_names.proofs.name_set.insert_name.Goals as goal

pub returns : goal.returns
returns c = ap (map ref_of) c.in_ok-insert.ensures.keys ∙ sym (one_through ref_of same_key same_ref keys_same c.args.set.now.keys (c.args.form, c.args.name))
