-- The turns of members, indices and calls.
use Rattle.std.proofs.Common.{◌≡◌, ℕ, zero, suc, Bool, true, false, List, [], ◌∷◌, Option, Some, None, refl}
use Rattle.std.specs.Prelude.{nat_le, option_map, if◌then◌else◌}
use Rattle.ob_lex.specs.declared.punctuator.Punctuator.TheVariants as mark
use Rattle.ob_lex.specs.declared.token.Token.{Token}
use Rattle.ob_lex.specs.declared.token.TokenKind.{TokenKind}
use Rattle.ob_lex.specs.declared.token.TokenKind.TheVariants as kind
use Rattle.ob_tree_types.specs.declared.tree.Expr.{Expr}
use Rattle.ob_tree_types.specs.declared.tree.Expr.TheVariants as node
use Rattle.ob_tree.specs.Depth.{expr_depth}
use Rattle.ob_grammar.specs.declared.form.Form.TheVariants.{Target, Other}
use Rattle.ob_grammar.specs.declared.piece.Piece.{Piece}
use Rattle.ob_grammar.specs.Grammar.{whole}
use Rattle.ob_grammar.specs.Marks.{word_of}
use Rattle.ob_grammar.specs.Reading.{kept, step_by, steps_from, list_of}
use Rattle.ob_grammar.specs.Taking.{Read, Parser, ◌>>=◌, piece, one, take, before, if_taken, closes_bracket, closes_parenthesis}
use Rattle.ob_descent_rules.specs.Inside.{depth_limit, inner, nested}
use Rattle.ob_descent_rules.specs.Turns.{kept_piece, step_at, step_of, steps_by, steps_on}

if_goes_on : (b : Bool) (p : Piece) (go : Piece → Parser Piece) (ts : List Token)
    → (if b then go p ts else None) ≡ ((if b then Some (p, ts) else None) >>= go)
if_goes_on true p go ts = refl
if_goes_on false p go ts = refl

kept_goes_on : (p : Piece) (go : Piece → Parser Piece) (ts : List Token) → kept depth_limit p go ts ≡ (kept_piece p ts >>= go)
unfolding kept
kept_goes_on p go ts = if_goes_on (nat_le (expr_depth p.tree) depth_limit) p go ts

made_goes_on : {A : Type 0} (make : A → Piece) (go : Piece → Parser Piece) (r : Read A) → (r >>= λ x. kept depth_limit (make x) go) ≡ ((r >>= λ x. kept_piece (make x)) >>= go)
made_goes_on make go None = refl
made_goes_on make go (Some p) = kept_goes_on (make p.0) go p.1

key_goes_on : (a : Expr) (k : Piece) (go : Piece → Parser Piece) (o : Option (List Token))
    → if_taken o (kept depth_limit (piece (node.Index a k.tree) Target) go)
    ≡ ((option_map {U = Piece × List Token} (λ rest. (k, rest)) o >>= λ q. kept_piece (piece (node.Index a q.tree) Target)) >>= go)
key_goes_on a k go None = refl
key_goes_on a k go (Some ts) = kept_goes_on (piece (node.Index a k.tree) Target) go ts

index_goes_on : (a : Expr) (go : Piece → Parser Piece) (r : Read Piece)
    → (r >>= λ k mid. if_taken (take closes_bracket mid) (kept depth_limit (piece (node.Index a k.tree) Target) go))
    ≡ (((r >>= before closes_bracket) >>= λ k. kept_piece (piece (node.Index a k.tree) Target)) >>= go)
index_goes_on a go None = refl
index_goes_on a go (Some p) = key_goes_on a p.0 go (take closes_bracket p.1)

step_by_kind : (depth : ℕ) (k : TokenKind) (p : Piece) (t : Token) (ts : List Token) (go : Piece → Parser Piece) → steps_by k ≡ true
    → step_by depth_limit (inner depth) (nested depth) k p t ts go ≡ (step_at depth p.tree k ts >>= go)
unfolding steps_by step_by step_at
step_by_kind depth (kind.Punctuator mark.Dot) p t ts go h = made_goes_on (λ x. piece (node.Member p.tree x) Target) go (one word_of ts)
step_by_kind depth (kind.Punctuator mark.OpenBracket) p t ts go h = index_goes_on p.tree go (inner depth whole ts)
step_by_kind depth (kind.Punctuator mark.OpenParenthesis) p t ts go h =
    made_goes_on (λ args. piece (node.Call p.tree args) Other) go (list_of depth_limit (inner depth) (nested depth) closes_parenthesis ts)
step_by_kind depth _ p t ts go h = absurd (cc)

-- a member, an index or a call goes on
pub one_step : (depth n : ℕ) (p : Piece) (ts : List Token) → steps_on ts ≡ true
    → steps_from depth_limit (inner depth) (nested depth) (suc n) p ts ≡ (step_of depth p.tree ts >>= steps_from depth_limit (inner depth) (nested depth) n)
unfolding steps_from
one_step depth n p [] h = absurd (cc)
one_step depth n p (t ∷ ts) h = step_by_kind depth t.kind p t ts (steps_from depth_limit (inner depth) (nested depth) n) h

no_step_by : (depth : ℕ) (k : TokenKind) (p : Piece) (t : Token) (ts : List Token) (go : Piece → Parser Piece)
    → steps_by k ≡ false → step_by depth_limit (inner depth) (nested depth) k p t ts go ≡ Some (p, t ∷ ts)
unfolding steps_by step_by
no_step_by depth (kind.Punctuator mark.Dot) p t ts go h = cc
no_step_by depth (kind.Punctuator mark.OpenBracket) p t ts go h = cc
no_step_by depth (kind.Punctuator mark.OpenParenthesis) p t ts go h = cc
no_step_by depth _ p t ts go h = refl

-- none goes on there
pub no_step : (depth n : ℕ) (p : Piece) (ts : List Token) → steps_on ts ≡ false → steps_from depth_limit (inner depth) (nested depth) n p ts ≡ Some (p, ts)
unfolding steps_from
no_step depth zero p ts h = refl
no_step depth (suc n) p [] h = refl
no_step depth (suc n) p (t ∷ ts) h = no_step_by depth t.kind p t ts (steps_from depth_limit (inner depth) (nested depth) n) h
