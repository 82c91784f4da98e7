-- The turns of the loops. What a turn of one that builds a tree makes is kept where it is no deeper than a cell's tree may be.
use Rattle.std.specs.Prelude.{◌≡◌, ◌≢◌, ◌==◌, ℕ, Bool, true, false, nat_le, List, [], ◌∷◌, Some, None, option_map, Result, Ok, Err, if◌then◌else◌}
use Rattle.ob_lex.specs.declared.punctuator.Punctuator.TheVariants as mark
use Rattle.ob_lex.specs.declared.token.Token.{Token}
use Rattle.ob_lex.specs.declared.token.TokenKind.{TokenKind}
use Rattle.ob_lex.specs.declared.token.TokenKind.TheVariants as kind
use Rattle.ob_tree_types.specs.declared.tree.Expr.{Expr}
use Rattle.ob_tree_types.specs.declared.tree.Expr.TheVariants as node
use Rattle.ob_tree.specs.Depth.{expr_depth}
use Rattle.ob_grammar.specs.declared.form.Infix.{Infix}
use Rattle.ob_grammar.specs.declared.form.Form.TheVariants.{Target, Other}
use Rattle.ob_grammar.specs.declared.piece.Piece.{Piece}
use Rattle.ob_grammar.specs.Grammar.{whole}
use Rattle.ob_grammar.specs.Marks.{rank, infix_of, word_of}
use Rattle.ob_grammar.specs.Reading.{kept, list_of}
use Rattle.ob_grammar.specs.Taking.{Read, Parser, ◌>>=◌, piece, one, before, closes_bracket, closes_parenthesis}
use Rattle.ob_descent_tokens.specs.declared.error.ParseError.{ParseError}
use Rattle.ob_descent_tokens.specs.declared.error.ParseError.TheVariants as errors
use Rattle.ob_descent_rules.specs.Inside.{depth_limit, inner, nested}
use Rattle.ob_descent_rules.specs.declared.measured.Measured.{Measured}

-- the piece, where it is kept
abbrev pub kept_piece : Piece → Parser Piece
kept_piece p = kept depth_limit p (λ q ts. Some (q, ts))

-- what follows the `.`, the `[` and the `(` behind an expression, with nestings of that depth
abbrev pub member_of : Expr → Parser Piece
member_of a ts = one word_of ts >>= λ x. kept_piece (piece (node.Member a x) Target)

abbrev pub key_in : ℕ → Parser Piece
key_in depth ts = inner depth whole ts >>= before closes_bracket

abbrev pub index_of : ℕ → Expr → Parser Piece
index_of depth a ts = key_in depth ts >>= λ k. kept_piece (piece (node.Index a k.tree) Target)

abbrev pub call_of : ℕ → Expr → Parser Piece
call_of depth a ts = list_of depth_limit (inner depth) (nested depth) closes_parenthesis ts >>= λ args. kept_piece (piece (node.Call a args) Other)

-- a member, an index or a call of an expression, with nestings of that depth
unfoldable pub step_at : ℕ → Expr → TokenKind → Parser Piece
step_at depth a (kind.Punctuator mark.Dot) = member_of a
step_at depth a (kind.Punctuator mark.OpenBracket) = index_of depth a
step_at depth a (kind.Punctuator mark.OpenParenthesis) = call_of depth a
step_at depth a _ = λ ts. None

abbrev pub step_of : ℕ → Expr → Parser Piece
step_of depth a [] = None
step_of depth a (t ∷ ts) = step_at depth a t.kind ts

-- one of them goes on there
unfoldable pub steps_by : TokenKind → Bool
steps_by (kind.Punctuator mark.Dot) = true
steps_by (kind.Punctuator mark.OpenBracket) = true
steps_by (kind.Punctuator mark.OpenParenthesis) = true
steps_by _ = false

abbrev pub steps_on : List Token → Bool
steps_on [] = false
steps_on (t ∷ ts) = steps_by t.kind

-- the operator of that rank that stands there, and what follows it
abbrev pub next_operator : ℕ → Parser Infix
next_operator n [] = None
next_operator n (t ∷ ts) = option_map (λ op. (op, ts)) (if rank t == n then infix_of t.kind else None)

-- what a function that makes a measured piece ensures: as `Gives`
abbrev pub Makes : Read Piece → Result Measured ParseError → List Token → Type 0
Makes read (Ok m) new = read ≡ Some (m.piece, new)
Makes read (Err e) new = e ≢ errors.NoMemory → read ≡ None

-- the same of a piece that is at hand
abbrev pub Keeps : Piece → Result Measured ParseError → Type 0
Keeps p (Ok m) = (m.piece ≡ p) × (nat_le (expr_depth p.tree) depth_limit ≡ true)
Keeps p (Err e) = e ≢ errors.NoMemory → nat_le (expr_depth p.tree) depth_limit ≡ false
