-- Lists between commas, up to a mark that closes them: what a turn reads, with what was found in front.
use Rattle.std.proofs.Common.{◌≡◌, Bool, true, false, List, [], ◌∷◌, ◌++◌, Option, Some, None, refl, ap, sym, ◌∙◌, append_assoc}
use Rattle.std.specs.Prelude.{if◌then◌else◌}
use Rattle.ob_lex.specs.declared.token.Token.{Token}
use Rattle.ob_lex.specs.declared.token.TokenKind.{TokenKind}
use Rattle.ob_grammar.specs.Taking.{Read, Parser, ◌>>=◌, mapped, is_comma}
use Rattle.ob_descent_tokens.specs.Lists.{list_goes_on}

-- items in front of what is read
abbrev pub in_front : {A : Type 0} → List A → Read (List A) → Read (List A)
in_front found r = mapped (λ xs. found ++ xs) r

pub front_more : {A : Type 0} (found : List A) (a : A) (r : Read (List A)) → in_front found (mapped (λ xs. a ∷ xs) r) ≡ in_front (found ++ a ∷ []) r
front_more found a None = refl
front_more found a (Some p) = ap (λ xs. Some (xs, p.1)) (sym (append_assoc found (a ∷ []) p.0))

pub nothing_before : {A : Type 0} (r : Read (List A)) → r ≡ in_front [] r
nothing_before None = refl
nothing_before (Some p) = refl

pub nothing_more : {A : Type 0} (found : List A) → found ++ [] ≡ found
nothing_more [] = refl
nothing_more (x ∷ found) = ap (λ xs. x ∷ xs) (nothing_more found)

abbrev pub item_by : {A : Type 0} → Bool → Bool → A → Parser (List A) → Parser (List A)
item_by true comma a more ts = Some (a ∷ [], ts)
item_by false true a more ts = mapped (λ items. a ∷ items) (more ts)
item_by false false a more ts = None

-- what stands behind an item
abbrev pub behind : {A : Type 0} → (TokenKind → Bool) → Parser (List A) → A → Parser (List A)
behind closes more a [] = None
behind closes more a (c ∷ ts) = item_by (closes c.kind) (is_comma c.kind) a more ts

-- a turn: the mark that closes the list, or an item and what stands behind it
abbrev pub turn : {A : Type 0} → (TokenKind → Bool) → Parser (List A) → Option (List Token) → Read A → Read (List A)
turn closes more (Some rest) r = Some ([], rest)
turn closes more None r = r >>= behind closes more

abbrev if_goes_on : {A : Type 0} → A → Parser (List A) → Bool → Parser (List A)
if_goes_on a more true ts = mapped (λ items. a ∷ items) (more ts)
if_goes_on a more false ts = Some (a ∷ [], ts)

by_mark : {A : Type 0} (closing comma : Bool) (a : A) (more : Parser (List A)) (ts : List Token)
    → item_by closing comma a more ts ≡ ((if closing then Some (false, ts) else if comma then Some (true, ts) else None) >>= if_goes_on a more)
by_mark true comma a more ts = refl
by_mark false true a more ts = refl
by_mark false false a more ts = refl

by_going_on : {A : Type 0} (closes : TokenKind → Bool) (more : Parser (List A)) (a : A) (ts : List Token)
    → behind closes more a ts ≡ (list_goes_on closes ts >>= if_goes_on a more)
by_going_on closes more a [] = refl
by_going_on closes more a (c ∷ ts) = by_mark (closes c.kind) (is_comma c.kind) a more ts

module _ {A : Type 0} (closes : TokenKind → Bool) (more : Parser (List A)) (o : Option (List Token)) (r : Read A) (found : List A) where
  -- the mark that closes the list
  pub closed : (rest : List Token) → o ≡ Some rest → in_front found (turn closes more o r) ≡ Some (found, rest)
  closed rest h = ap (λ o. in_front found (turn closes more o r)) h ∙ ap (λ xs. Some (xs, rest)) (nothing_more found)

  pub no_item : o ≡ None → r ≡ None → in_front found (turn closes more o r) ≡ None
  no_item h none = ap (λ o. in_front found (turn closes more o r)) h ∙ ap (λ r. in_front found (turn closes more None r)) none

  an_item : (a : A) (mid : List Token) → o ≡ None → r ≡ Some (a, mid) → in_front found (turn closes more o r) ≡ in_front found (list_goes_on closes mid >>= if_goes_on a more)
  an_item a mid h read = ap (λ o. in_front found (turn closes more o r)) h ∙ ap (λ r. in_front found (turn closes more None r)) read
      ∙ ap (in_front found) (by_going_on closes more a mid)

  -- an item, and the mark that closes the list
  pub last_item : (a : A) (mid rest : List Token) → o ≡ None → r ≡ Some (a, mid) → list_goes_on closes mid ≡ Some (false, rest)
      → in_front found (turn closes more o r) ≡ Some (found ++ a ∷ [], rest)
  last_item a mid rest h read ends = an_item a mid h read ∙ ap (λ q. in_front found (q >>= if_goes_on a more)) ends

  -- an item and a comma
  pub one_item : (a : A) (mid rest : List Token) → o ≡ None → r ≡ Some (a, mid) → list_goes_on closes mid ≡ Some (true, rest)
      → in_front found (turn closes more o r) ≡ in_front (found ++ a ∷ []) (more rest)
  one_item a mid rest h read on = an_item a mid h read ∙ ap (λ q. in_front found (q >>= if_goes_on a more)) on ∙ front_more found a (more rest)

  -- an item, and neither
  pub other_token : (a : A) (mid : List Token) → o ≡ None → r ≡ Some (a, mid) → list_goes_on closes mid ≡ None → in_front found (turn closes more o r) ≡ None
  other_token a mid h read none = an_item a mid h read ∙ ap (λ q. in_front found (q >>= if_goes_on a more)) none
