use Rattle.std.proofs.Common.{◌≡◌, ◌∙◌, ℕ, List, Bool, sym, rules, Decides}
use Rattle.std.specs.Prelude.{nat_eq}
use Rattle.std.specs.Cmp.Lexicographic.{pointwise}
use Rattle.std.proofs.lemmas.Slice.Eq.{bytes_eq-Decides}
use Rattle.ob_builtins.proofs.names.is_name.Goals as goal

tested : (xs ys : List ℕ) (r : Bool) → Decides r (xs ≡ ys) → r ≡ pointwise nat_eq xs ys
tested xs ys r h = search (rules, bytes_eq-Decides)

pub returns : goal.returns
returns c =
    let bytes = c.as_bytes.ensures.value in
    tested c.args.this.now c.args.name.now c.is_same.result (λ t. sym (c.is_same.ensures.0 t ∙ bytes), λ e. c.is_same.ensures.1 (sym e ∙ sym bytes))
