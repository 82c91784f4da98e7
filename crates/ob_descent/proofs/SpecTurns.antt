-- What an import lists, turn by turn: what is read is what was found and what the turns that are left read.
use Rattle.std.proofs.Common.{◌≡◌, ℕ, suc, Bool, true, false, List, [], ◌∷◌, ◌++◌, Option, Some, None, refl, ap, ◌∙◌}
use Rattle.ob_lex.specs.declared.token.Token.{Token}
use Rattle.ob_tree_types.specs.declared.cell.ImportSpec.{ImportSpec}
use Rattle.ob_grammar.specs.ReadingCells.{spec_of, specs_by, after_spec, specs_at, specs_from}
use Rattle.ob_grammar.specs.Taking.{Read, Parser, ◌>>=◌, is_comma, take, closes_brace}
use Rattle.ob_descent_tokens.specs.Lists.{list_goes_on}
use Rattle.ob_descent_tokens.proofs.CommaLists.{in_front, item_by, behind, turn, closed, no_item, last_item, one_item, other_token}

same_list : (closes comma : Bool) (s : ImportSpec) (more : Parser (List ImportSpec)) (ts : List Token) → specs_by closes comma s more ts ≡ item_by closes comma s more ts
same_list true comma s more ts = refl
same_list false true s more ts = refl
same_list false false s more ts = refl

same_behind : (more : Parser (List ImportSpec)) (r : Read ImportSpec) → (r >>= after_spec more) ≡ (r >>= behind closes_brace more)
same_behind more None = refl
same_behind more (Some (s, [])) = refl
same_behind more (Some (s, c ∷ ts)) = same_list (closes_brace c.kind) (is_comma c.kind) s more ts

same_turn : (more : Parser (List ImportSpec)) (o : Option (List Token)) (ts : List Token) → specs_at o more ts ≡ turn closes_brace more o (spec_of ts)
same_turn more (Some rest) ts = refl
same_turn more None ts = same_behind more (spec_of ts)

specs_turn : (n : ℕ) (ts : List Token) → specs_from (suc n) ts ≡ turn closes_brace (specs_from n) (take closes_brace ts) (spec_of ts)
unfolding specs_from
specs_turn n ts = same_turn (specs_from n) (take closes_brace ts) ts

-- with what was found, what some turns read
abbrev pub specs_left : List ImportSpec → List Token → ℕ → Read (List ImportSpec)
specs_left found ts n = in_front found (specs_from n ts)

module _ (n : ℕ) (found : List ImportSpec) (ts : List Token) where
  a_turn : specs_left found ts (suc n) ≡ in_front found (turn closes_brace (specs_from n) (take closes_brace ts) (spec_of ts))
  a_turn = ap (in_front found) (specs_turn n ts)

  pub specs_closed : (rest : List Token) → take closes_brace ts ≡ Some rest → specs_left found ts (suc n) ≡ Some (found, rest)
  specs_closed rest h = a_turn ∙ closed closes_brace (specs_from n) (take closes_brace ts) (spec_of ts) found rest h

  pub no_spec : take closes_brace ts ≡ None → spec_of ts ≡ None → specs_left found ts (suc n) ≡ None
  no_spec h none = a_turn ∙ no_item closes_brace (specs_from n) (take closes_brace ts) (spec_of ts) found h none

  module _ (s : ImportSpec) (mid : List Token) (h : take closes_brace ts ≡ None) (read : spec_of ts ≡ Some (s, mid)) where
    pub last_spec : (rest : List Token) → list_goes_on closes_brace mid ≡ Some (false, rest) → specs_left found ts (suc n) ≡ Some (found ++ s ∷ [], rest)
    last_spec rest ends = a_turn ∙ last_item closes_brace (specs_from n) (take closes_brace ts) (spec_of ts) found s mid rest h read ends

    pub one_more_spec : (rest : List Token) → list_goes_on closes_brace mid ≡ Some (true, rest) → specs_left found ts (suc n) ≡ specs_left (found ++ s ∷ []) rest n
    one_more_spec rest on = a_turn ∙ one_item closes_brace (specs_from n) (take closes_brace ts) (spec_of ts) found s mid rest h read on

    pub other_than_spec : list_goes_on closes_brace mid ≡ None → specs_left found ts (suc n) ≡ None
    other_than_spec none = a_turn ∙ other_token closes_brace (specs_from n) (take closes_brace ts) (spec_of ts) found s mid h read none

-- no turn is left
pub no_spec_left : (found : List ImportSpec) (ts : List Token) → specs_left found ts 0 ≡ None
unfolding specs_from
no_spec_left found ts = refl
