use Rattle.std.proofs.Common.{◌≡◌, sym, subst, ℕ, List, Option, None, Some, Bor, IfSome, option_copied}
use Rattle.std.proofs.lemmas.Map.Made.{IfSome-find_same}
use Rattle.std.specs.Cmp.Lexicographic.{bytes_decides}
use Rattle.ob_items.proofs.names.find.Goals as goal

-- what a borrow shows is what it was made of
shown : (units : List ℕ) (found : Option (Bor (List ℕ))) → IfSome (option_copied found) (λ name. name ≡ units) → IfSome found (λ name. name.now ≡ units)
shown units None h = h
shown units (Some name) h = h

pub returns : goal.returns
returns c =
    shown c.args.units.now c.get.result
    (subst (λ name. IfSome name (λ n. n ≡ c.args.units.now)) (sym c.get.ensures.key)
    (IfSome-find_same bytes_decides c.args.units.now c.args.table.now.keys))
