-- The lists of the descent, turn by turn.
use Rattle.std.proofs.Common.{◌≡◌, ℕ, suc, Bool, true, false, List, [], ◌∷◌, ◌++◌, Option, Some, None, refl, ap, ◌∙◌}
use Rattle.ob_lex.specs.declared.token.Token.{Token}
use Rattle.ob_lex.specs.declared.token.TokenKind.{TokenKind}
use Rattle.ob_tree_types.specs.declared.tree.Expr.{Expr}
use Rattle.ob_tree_types.specs.declared.tree.PropNode.{PropNode}
use Rattle.ob_tree_types.specs.declared.tree.Stmt.{Stmt}
use Rattle.ob_grammar.specs.declared.form.Level.{Level}
use Rattle.ob_grammar.specs.declared.piece.Piece.{Piece}
use Rattle.ob_grammar.specs.Grammar.{Rule, whole}
use Rattle.ob_grammar.specs.Reading.{list_by, list_from, list_at, after_item, prop_of, props_by, props_from, props_at, after_prop}
use Rattle.ob_grammar.specs.Taking.{Read, Parser, ◌>>=◌, mapped, is_comma, take, closes_brace}
use Rattle.ob_descent_tokens.specs.Lists.{list_goes_on}
use Rattle.ob_descent_tokens.proofs.CommaLists.{in_front, item_by, behind, turn, closed, no_item, last_item, one_item, other_token}

same_list : (limit : ℕ) (inner : Rule → Parser Piece) (nested : Level → Parser Stmt) (closes comma : Bool) (a : Expr) (more : Parser (List Expr)) (ts : List Token)
    → list_by limit inner nested closes comma a more ts ≡ item_by closes comma a more ts
same_list limit inner nested true comma a more ts = refl
same_list limit inner nested false true a more ts = refl
same_list limit inner nested false false a more ts = refl

same_behind : (limit : ℕ) (inner : Rule → Parser Piece) (nested : Level → Parser Stmt) (closes : TokenKind → Bool) (more : Parser (List Expr)) (r : Read Piece)
    → (r >>= after_item limit inner nested closes more) ≡ (mapped (λ p. p.tree) r >>= behind closes more)
same_behind limit inner nested closes more None = refl
same_behind limit inner nested closes more (Some (p, [])) = refl
same_behind limit inner nested closes more (Some (p, c ∷ ts)) = same_list limit inner nested (closes c.kind) (is_comma c.kind) p.tree more ts

same_turn : (limit : ℕ) (inner : Rule → Parser Piece) (nested : Level → Parser Stmt) (closes : TokenKind → Bool) (more : Parser (List Expr)) (o : Option (List Token)) (ts : List Token)
    → list_at limit inner nested o closes more ts ≡ turn closes more o (mapped (λ p. p.tree) (inner whole ts))
same_turn limit inner nested closes more (Some rest) ts = refl
same_turn limit inner nested closes more None ts = same_behind limit inner nested closes more (inner whole ts)

-- expressions
pub list_turn : (limit : ℕ) (inner : Rule → Parser Piece) (nested : Level → Parser Stmt) (closes : TokenKind → Bool) (n : ℕ) (ts : List Token)
    → list_from limit inner nested closes (suc n) ts ≡ turn closes (list_from limit inner nested closes n) (take closes ts) (mapped (λ p. p.tree) (inner whole ts))
unfolding list_from
list_turn limit inner nested closes n ts = same_turn limit inner nested closes (list_from limit inner nested closes n) (take closes ts) ts

same_props : (limit : ℕ) (inner : Rule → Parser Piece) (nested : Level → Parser Stmt) (closes comma : Bool) (a : PropNode) (more : Parser (List PropNode)) (ts : List Token)
    → props_by limit inner nested closes comma a more ts ≡ item_by closes comma a more ts
same_props limit inner nested true comma a more ts = refl
same_props limit inner nested false true a more ts = refl
same_props limit inner nested false false a more ts = refl

same_behind_prop : (limit : ℕ) (inner : Rule → Parser Piece) (nested : Level → Parser Stmt) (more : Parser (List PropNode)) (r : Read PropNode)
    → (r >>= after_prop limit inner nested more) ≡ (r >>= behind closes_brace more)
same_behind_prop limit inner nested more None = refl
same_behind_prop limit inner nested more (Some (p, [])) = refl
same_behind_prop limit inner nested more (Some (p, c ∷ ts)) = same_props limit inner nested (closes_brace c.kind) (is_comma c.kind) p more ts

same_prop_turn : (limit : ℕ) (inner : Rule → Parser Piece) (nested : Level → Parser Stmt) (more : Parser (List PropNode)) (o : Option (List Token)) (ts : List Token)
    → props_at limit inner nested o more ts ≡ turn closes_brace more o (prop_of limit inner nested ts)
same_prop_turn limit inner nested more (Some rest) ts = refl
same_prop_turn limit inner nested more None ts = same_behind_prop limit inner nested more (prop_of limit inner nested ts)

-- properties
pub props_turn : (limit : ℕ) (inner : Rule → Parser Piece) (nested : Level → Parser Stmt) (n : ℕ) (ts : List Token)
    → props_from limit inner nested (suc n) ts ≡ turn closes_brace (props_from limit inner nested n) (take closes_brace ts) (prop_of limit inner nested ts)
unfolding props_from
props_turn limit inner nested n ts = same_prop_turn limit inner nested (props_from limit inner nested n) (take closes_brace ts) ts

module _ (limit : ℕ) (inner : Rule → Parser Piece) (nested : Level → Parser Stmt) (closes : TokenKind → Bool) (n : ℕ) (found : List Expr) (ts : List Token) where
  -- the mark that closes the list
  pub list_closed : (rest : List Token) → take closes ts ≡ Some rest → in_front found (list_from limit inner nested closes (suc n) ts) ≡ Some (found, rest)
  list_closed rest h = ap (in_front found) (list_turn limit inner nested closes n ts) ∙ closed closes (list_from limit inner nested closes n) (take closes ts) (mapped (λ p. p.tree) (inner whole ts)) found rest h

  pub list_no_item : take closes ts ≡ None → inner whole ts ≡ None → in_front found (list_from limit inner nested closes (suc n) ts) ≡ None
  list_no_item h none = ap (in_front found) (list_turn limit inner nested closes n ts) ∙ no_item closes (list_from limit inner nested closes n) (take closes ts) (mapped (λ p. p.tree) (inner whole ts)) found h (ap (mapped (λ p. p.tree)) none)

  module _ (p : Piece) (mid : List Token) (h : take closes ts ≡ None) (read : inner whole ts ≡ Some (p, mid)) where
    -- an item, and the mark that closes the list
    pub list_last : (rest : List Token) → list_goes_on closes mid ≡ Some (false, rest) → in_front found (list_from limit inner nested closes (suc n) ts) ≡ Some (found ++ p.tree ∷ [], rest)
    list_last rest ends = ap (in_front found) (list_turn limit inner nested closes n ts) ∙ last_item closes (list_from limit inner nested closes n) (take closes ts) (mapped (λ p. p.tree) (inner whole ts)) found p.tree mid rest h (ap (mapped (λ p. p.tree)) read) ends

    -- an item and a comma
    pub list_one : (rest : List Token) → list_goes_on closes mid ≡ Some (true, rest)
        → in_front found (list_from limit inner nested closes (suc n) ts) ≡ in_front (found ++ p.tree ∷ []) (list_from limit inner nested closes n rest)
    list_one rest on = ap (in_front found) (list_turn limit inner nested closes n ts) ∙ one_item closes (list_from limit inner nested closes n) (take closes ts) (mapped (λ p. p.tree) (inner whole ts)) found p.tree mid rest h (ap (mapped (λ p. p.tree)) read) on

    -- an item, and neither
    pub list_stops : list_goes_on closes mid ≡ None → in_front found (list_from limit inner nested closes (suc n) ts) ≡ None
    list_stops none = ap (in_front found) (list_turn limit inner nested closes n ts) ∙ other_token closes (list_from limit inner nested closes n) (take closes ts) (mapped (λ p. p.tree) (inner whole ts)) found p.tree mid h (ap (mapped (λ p. p.tree)) read) none

module _ (limit : ℕ) (inner : Rule → Parser Piece) (nested : Level → Parser Stmt) (n : ℕ) (found : List PropNode) (ts : List Token) where
  -- the mark that closes the list
  pub props_closed : (rest : List Token) → take closes_brace ts ≡ Some rest → in_front found (props_from limit inner nested (suc n) ts) ≡ Some (found, rest)
  props_closed rest h = ap (in_front found) (props_turn limit inner nested n ts) ∙ closed closes_brace (props_from limit inner nested n) (take closes_brace ts) (prop_of limit inner nested ts) found rest h

  pub props_no_item : take closes_brace ts ≡ None → prop_of limit inner nested ts ≡ None → in_front found (props_from limit inner nested (suc n) ts) ≡ None
  props_no_item h none = ap (in_front found) (props_turn limit inner nested n ts) ∙ no_item closes_brace (props_from limit inner nested n) (take closes_brace ts) (prop_of limit inner nested ts) found h none

  module _ (p : PropNode) (mid : List Token) (h : take closes_brace ts ≡ None) (read : prop_of limit inner nested ts ≡ Some (p, mid)) where
    -- an item, and the mark that closes the list
    pub props_last : (rest : List Token) → list_goes_on closes_brace mid ≡ Some (false, rest) → in_front found (props_from limit inner nested (suc n) ts) ≡ Some (found ++ p ∷ [], rest)
    props_last rest ends = ap (in_front found) (props_turn limit inner nested n ts) ∙ last_item closes_brace (props_from limit inner nested n) (take closes_brace ts) (prop_of limit inner nested ts) found p mid rest h read ends

    -- an item and a comma
    pub props_one : (rest : List Token) → list_goes_on closes_brace mid ≡ Some (true, rest)
        → in_front found (props_from limit inner nested (suc n) ts) ≡ in_front (found ++ p ∷ []) (props_from limit inner nested n rest)
    props_one rest on = ap (in_front found) (props_turn limit inner nested n ts) ∙ one_item closes_brace (props_from limit inner nested n) (take closes_brace ts) (prop_of limit inner nested ts) found p mid rest h read on

    -- an item, and neither
    pub props_stop : list_goes_on closes_brace mid ≡ None → in_front found (props_from limit inner nested (suc n) ts) ≡ None
    props_stop none = ap (in_front found) (props_turn limit inner nested n ts) ∙ other_token closes_brace (props_from limit inner nested n) (take closes_brace ts) (prop_of limit inner nested ts) found p mid h read none
