-- The items of a block, turn by turn: what is read is what was found and what the turns that are left read.
use Rattle.std.proofs.Common.{◌≡◌, ℕ, ◌+◌, ◌-◌, ◌<◌, ◌≤◌, List, [], ◌∷◌, ◌++◌, length, Some, None, ap, sym, ◌∙◌}
use Rattle.ob_lex.specs.declared.token.Token.{Token}
use Rattle.ob_tree_types.specs.declared.tree.Stmt.{Stmt}
use Rattle.ob_grammar.specs.declared.form.Level.TheVariants as level
use Rattle.ob_grammar.specs.Reading.{items_from, items_at}
use Rattle.ob_grammar.specs.Taking.{Read, ◌>>=◌, mapped, take, closes_brace}
use Rattle.ob_descent_rules.specs.Inside.{depth_limit, inner, nested}
use Rattle.ob_descent_tokens.proofs.CommaLists.{in_front, front_more, nothing_before, nothing_more}
use Rattle.ob_descent_rules.proofs.Counts.{one_more, no_more}

-- with the items that were found, what some turns read
abbrev pub items_left : ℕ → List Stmt → List Token → ℕ → Read (List Stmt)
items_left depth found ts n = in_front found (items_from depth_limit (inner depth) (nested depth) n ts)

-- before the first turn nothing was found
pub items_begin : (depth last : ℕ) (found : List Stmt) (ts : List Token) → found ≡ [] → length ts ≡ last
    → items_from depth_limit (inner depth) (nested depth) (length ts) ts ≡ items_left depth found ts last
items_begin depth last found ts none all = nothing_before (items_from depth_limit (inner depth) (nested depth) (length ts) ts)
    ∙ ap (items_left depth [] ts) all ∙ ap (λ xs. items_left depth xs ts last) (sym none)

module _ (depth last at : ℕ) (found : List Stmt) (ts : List Token) (whole : Read (List Stmt)) (turn : at < last) (is : whole ≡ items_left depth found ts (last - at)) where
  pub items_closed : (rest : List Token) → take closes_brace ts ≡ Some rest → whole ≡ Some (found, rest)
  unfolding items_from
  items_closed rest h = one_more (items_left depth found ts) last at turn is
      ∙ ap (λ o. in_front found (items_at depth_limit (inner depth) (nested depth) o (items_from depth_limit (inner depth) (nested depth) (last - (at + 1))) ts)) h
      ∙ ap (λ xs. Some (xs, rest)) (nothing_more found)

  an_item : take closes_brace ts ≡ None
      → whole ≡ in_front found (nested depth level.Item ts >>= λ s mid. mapped (λ items. s ∷ items) (items_from depth_limit (inner depth) (nested depth) (last - (at + 1)) mid))
  unfolding items_from
  an_item h = one_more (items_left depth found ts) last at turn is
      ∙ ap (λ o. in_front found (items_at depth_limit (inner depth) (nested depth) o (items_from depth_limit (inner depth) (nested depth) (last - (at + 1))) ts)) h

  pub no_item_there : take closes_brace ts ≡ None → nested depth level.Item ts ≡ None → whole ≡ None
  no_item_there h none = an_item h
      ∙ ap (λ r. in_front found (r >>= λ s mid. mapped (λ items. s ∷ items) (items_from depth_limit (inner depth) (nested depth) (last - (at + 1)) mid))) none

  pub one_more_item : (s : Stmt) (mid : List Token) (more : List Stmt) → take closes_brace ts ≡ None → nested depth level.Item ts ≡ Some (s, mid) → more ≡ found ++ s ∷ []
      → whole ≡ items_left depth more mid (last - (at + 1))
  one_more_item s mid more h read pushed = an_item h
      ∙ ap (λ r. in_front found (r >>= λ s mid. mapped (λ items. s ∷ items) (items_from depth_limit (inner depth) (nested depth) (last - (at + 1)) mid))) read
      ∙ front_more found s (items_from depth_limit (inner depth) (nested depth) (last - (at + 1)) mid)
      ∙ ap (λ xs. items_left depth xs mid (last - (at + 1))) (sym pushed)

-- no turn is left
pub no_item_left : (depth last at : ℕ) (found : List Stmt) (ts : List Token) (whole : Read (List Stmt)) → last ≤ at → whole ≡ items_left depth found ts (last - at) → whole ≡ None
unfolding items_from
no_item_left depth last at found ts whole over is = no_more (items_left depth found ts) last at over is
