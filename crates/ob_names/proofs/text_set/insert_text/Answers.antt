use Rattle.std.proofs.Common.{◌≡◌, map, ◌++◌, List, ℕ, ap, sym, ◌∙◌, refl, bytes_eq}
use Rattle.ob_names.proofs.SetLaws.{one_through}
use Rattle.ob_names.proofs.text_set.insert_text.Goals as goal

pub returns : goal.returns
returns c = ap (map (λ k. k.now)) c.in_ok-insert.ensures.keys ∙ sym (one_through (λ k. k.now) _ bytes_eq (λ a b. refl) c.args.set.now.keys c.args.text)
