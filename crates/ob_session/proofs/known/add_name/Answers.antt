use Rattle.std.proofs.Common.{◌≡◌, ◌∙◌, ap, ◌++◌, ◌∷◌, [], map, false, bytes_eq, subst, sym}
use Rattle.std.specs.Prelude.{string_bytes}
use Rattle.std.specs.List.{list_any}
use Rattle.ob_session.proofs.Through.{insert-map}
use Rattle.ob_session.proofs.known.add_name.Goals as goal

pub returns : goal.returns
returns c =
    let same = c.in_ok-from_str.ensures.ok in
    insert-map string_bytes (bytes_eq (string_bytes c.in_ok-from_str.field-0)) c.args.names.now.keys c.insert.new.self.keys c.in_ok-from_str.field-0 c.in_ok-insert.ensures.keys
    (subst (λ n. list_any (bytes_eq n) (map string_bytes c.args.names.now.keys) ≡ false) (sym same) c.requires)
    ∙ ap (λ n. map string_bytes c.args.names.now.keys ++ n ∷ []) same
