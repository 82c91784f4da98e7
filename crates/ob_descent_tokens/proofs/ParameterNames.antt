-- The turns of a list of parameters: with some names in front of what is left.
use Rattle.std.proofs.Common.{◌≡◌, ℕ, true, false, List, [], ◌∷◌, ◌++◌, Some, None, refl, ap, sym, ◌∙◌, append_assoc}
use Rattle.std.specs.Prelude.{if◌then◌else◌}
use Rattle.ob_lex.specs.declared.token.Token.{Token}
use Rattle.ob_lex.specs.declared.token.TokenKind.TheVariants as kind
use Rattle.ob_grammar.specs.Taking.{Read, mapped, name_of, names, names_after, first_name, closes_parenthesis, is_comma}

-- names in front of what is read
abbrev pub in_front : List (List ℕ) → Read (List (List ℕ)) → Read (List (List ℕ))
in_front found r = mapped (λ xs. found ++ xs) r

front_more : (found : List (List ℕ)) (x : List ℕ) (r : Read (List (List ℕ))) → in_front found (mapped (λ xs. x ∷ xs) r) ≡ in_front (found ++ x ∷ []) r
front_more found x None = refl
front_more found x (Some p) = ap (λ xs. Some (xs, p.1)) (sym (append_assoc found (x ∷ []) p.0))

named : (t : Token) (ts : List Token) (x : List ℕ) → t.kind ≡ kind.Name x → names (t ∷ ts) ≡ names_after x ts
unfolding names name_of
named t ts x h = ap (λ k. first_name (name_of k) t.kind ts (λ x. names_after x ts)) h

-- a name, and nothing behind it
pub name_alone : (found : List (List ℕ)) (t : Token) (x : List ℕ) → t.kind ≡ kind.Name x → in_front found (names (t ∷ [])) ≡ None
unfolding names_after
name_alone found t x h = ap (in_front found) (named t [] x h)

-- a name and the `)`
pub last_name : (found : List (List ℕ)) (t c : Token) (ts : List Token) (x : List ℕ) → t.kind ≡ kind.Name x → closes_parenthesis c.kind ≡ true
    → in_front found (names (t ∷ c ∷ ts)) ≡ Some (found ++ x ∷ [], ts)
unfolding names_after
last_name found t c ts x h closes = ap (in_front found) (named t (c ∷ ts) x h
    ∙ ap (λ b. if b then Some (x ∷ [], ts) else if is_comma c.kind then mapped (λ xs. x ∷ xs) (names ts) else None) closes)

-- a name and a comma
pub one_name : (found : List (List ℕ)) (t c : Token) (ts : List Token) (x : List ℕ) → t.kind ≡ kind.Name x → closes_parenthesis c.kind ≡ false → is_comma c.kind ≡ true
    → in_front found (names (t ∷ c ∷ ts)) ≡ in_front (found ++ x ∷ []) (names ts)
unfolding names_after
one_name found t c ts x h closes comma = ap (in_front found) (named t (c ∷ ts) x h
    ∙ ap (λ b. if b then Some (x ∷ [], ts) else if is_comma c.kind then mapped (λ xs. x ∷ xs) (names ts) else None) closes
    ∙ ap (λ b. if b then mapped (λ xs. x ∷ xs) (names ts) else None) comma) ∙ front_more found x (names ts)

-- a name and another token
pub name_before_other : (found : List (List ℕ)) (t c : Token) (ts : List Token) (x : List ℕ) → t.kind ≡ kind.Name x → closes_parenthesis c.kind ≡ false → is_comma c.kind ≡ false
    → in_front found (names (t ∷ c ∷ ts)) ≡ None
unfolding names_after
name_before_other found t c ts x h closes comma = ap (in_front found) (named t (c ∷ ts) x h
    ∙ ap (λ b. if b then Some (x ∷ [], ts) else if is_comma c.kind then mapped (λ xs. x ∷ xs) (names ts) else None) closes
    ∙ ap (λ b. if b then mapped (λ xs. x ∷ xs) (names ts) else None) comma)

unnamed : (t : Token) (ts : List Token) → name_of t.kind ≡ None → names (t ∷ ts) ≡ (if closes_parenthesis t.kind then Some ([], ts) else None)
unfolding names
unnamed t ts h = ap (λ o. first_name o t.kind ts (λ x. names_after x ts)) h

nothing_more : (found : List (List ℕ)) → found ++ [] ≡ found
nothing_more [] = refl
nothing_more (x ∷ found) = ap (λ xs. x ∷ xs) (nothing_more found)

-- the `)`
pub no_more_names : (found : List (List ℕ)) (t : Token) (ts : List Token) → name_of t.kind ≡ None → closes_parenthesis t.kind ≡ true
    → in_front found (names (t ∷ ts)) ≡ Some (found, ts)
no_more_names found t ts h closes = ap (in_front found) (unnamed t ts h ∙ ap (λ b. if b then Some ([], ts) else None) closes) ∙ ap (λ xs. Some (xs, ts)) (nothing_more found)

-- another token
pub no_name : (found : List (List ℕ)) (t : Token) (ts : List Token) → name_of t.kind ≡ None → closes_parenthesis t.kind ≡ false
    → in_front found (names (t ∷ ts)) ≡ None
no_name found t ts h closes = ap (in_front found) (unnamed t ts h ∙ ap (λ b. if b then Some ([], ts) else None) closes)
