use Rattle.std.proofs.Common.{◌≡◌, sym, ◌∙◌}
use Rattle.ob_names.specs.Sets.{ref_of, same_ref}
use Rattle.ob_names.proofs.SetLaws.{place_through, found_place, no_place}
use Rattle.ob_names.proofs.KeyLaws.{same_key, keys_same}
use Rattle.ob_names.proofs.name_set.place_of.Goals as goal

pub returns-in-Some : goal.returns-in-Some
returns-in-Some c =
    found_place (same_key (c.args.form, c.args.name)) c.args.set.now.keys _ c.in-Some.ensures.index
    ∙ sym (place_through ref_of same_key same_ref keys_same (c.args.form, c.args.name) c.args.set.now.keys)

pub returns-in-None : goal.returns-in-None
returns-in-None c =
    c.len.ensures.len ∙ no_place (same_key (c.args.form, c.args.name)) c.args.set.now.keys c.in-None.ensures.index
    ∙ sym (place_through ref_of same_key same_ref keys_same (c.args.form, c.args.name) c.args.set.now.keys)
