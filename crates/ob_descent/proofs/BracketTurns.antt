-- The most brackets that are open at once, token by token.
use Rattle.std.proofs.Common.{◌≡◌, ℕ, ◌≤◌, List, [], ◌∷◌, max, arith}
use Rattle.ob_lex.specs.declared.token.Token.{Token}
use Rattle.ob_grammar.specs.Limits.{open_after, most_open}

at_least : (n : ℕ) (ts : List Token) → n ≤ most_open n ts
unfolding most_open
at_least n [] = omega arith
at_least n (t ∷ ts) = omega arith

pub one_token : (most opened : ℕ) (t : Token) (ts : List Token) → opened ≤ most
    → max most (most_open opened (t ∷ ts)) ≡ max (max most (open_after t.kind opened)) (most_open (open_after t.kind opened) ts)
unfolding most_open
one_token most opened t ts within = let least : open_after t.kind opened ≤ most_open (open_after t.kind opened) ts = at_least (open_after t.kind opened) ts in omega arith

pub no_token : (most opened : ℕ) → opened ≤ most → max most (most_open opened []) ≡ most
unfolding most_open
no_token most opened within = omega arith
