-- What is read where a made piece is kept, or is not.
use Rattle.std.proofs.Common.{◌≡◌, List, Some, None, Result, Ok, Err, ap, sym, ◌∙◌, subst}
use Rattle.std.specs.Prelude.{if◌then◌else◌}
use Rattle.ob_lex.specs.declared.token.Token.{Token}
use Rattle.ob_grammar.specs.declared.piece.Piece.{Piece}
use Rattle.ob_grammar.specs.Reading.{kept}
use Rattle.ob_grammar.specs.Taking.{Read, ◌>>=◌}
use Rattle.ob_descent_tokens.specs.declared.error.ParseError.{ParseError}
use Rattle.ob_descent_rules.specs.Turns.{Keeps, Makes, kept_piece}
use Rattle.ob_descent_rules.specs.declared.measured.Measured.{Measured}

kept_as : (p : Piece) (r : Result Measured ParseError) (ts : List Token) → Keeps p r → Makes (kept_piece p ts) r ts
unfolding kept
kept_as p (Ok m) ts h = ap (λ b. if b then Some (p, ts) else None) h.1 ∙ ap (λ q. Some (q, ts)) (sym h.0)
kept_as p (Err e) ts h = λ other. ap (λ b. if b then Some (p, ts) else None) (h other)

-- a piece at hand
pub made_there : (p q : Piece) (r : Result Measured ParseError) (ts : List Token) → p ≡ q → Keeps p r → Makes (kept_piece q ts) r ts
made_there p q r ts same h = kept_as q r ts (subst (λ x. Keeps x r) same h)

-- a piece of what is read
pub made_behind : {A : Type 0} (read : Read A) (make : A → Piece) (a : A) (mid : List Token) (p : Piece) (r : Result Measured ParseError)
    → read ≡ Some (a, mid) → p ≡ make a → Keeps p r → Makes (read >>= λ x. kept_piece (make x)) r mid
made_behind read make a mid p r h same keeps =
    subst (λ q. Makes q r mid) (sym (ap (λ q. q >>= λ x. kept_piece (make x)) h)) (made_there p (make a) r mid same keeps)
