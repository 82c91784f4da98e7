-- The levels of operators, one after another, and the turns of a level.
use Rattle.std.proofs.Common.{◌≡◌, ℕ, zero, suc, ◌+◌, ◌-◌, ◌≤◌, true, false, List, [], ◌∷◌, length, Option, Some, None, refl, ap, ◌∙◌, arith}
use Rattle.std.specs.Prelude.{nat_le, ◌==◌, option_map, if◌then◌else◌}
use Rattle.ob_lex.specs.declared.token.Token.{Token}
use Rattle.ob_tree_types.specs.declared.tree.Stmt.{Stmt}
use Rattle.ob_tree.specs.Depth.{expr_depth}
use Rattle.ob_grammar.specs.declared.form.Infix.{Infix}
use Rattle.ob_grammar.specs.declared.form.Level.{Level}
use Rattle.ob_grammar.specs.declared.piece.Piece.{Piece}
use Rattle.ob_grammar.specs.Forms.{edge}
use Rattle.ob_grammar.specs.Grammar.{Rule, chain, power, tighter}
use Rattle.ob_grammar.specs.Marks.{joined, rank, infix_of}
use Rattle.ob_grammar.specs.Reading.{at, chain_of, operands_of, operands_from, more_by, kept}
use Rattle.ob_grammar.specs.Taking.{Read, Parser, ◌>>=◌, piece}
use Rattle.ob_descent_rules.specs.Turns.{next_operator}

-- the level above one that is read
pub next_level : (limit : ℕ) (inner : Rule → Parser Piece) (nested : Level → Parser Stmt) (b : ℕ) (ts mid : List Token) (p : Piece) → at limit inner nested (tighter b) ts ≡ Some (p, mid)
    → at limit inner nested (tighter (suc b)) ts ≡ operands_from limit inner nested (inner (tighter b)) (b + 3) (length mid) p mid
unfolding chain_of operands_of
next_level limit inner nested zero ts mid p h = ap (λ r. r >>= operands_of limit inner nested (inner power) 3) h
next_level limit inner nested (suc k) ts mid p h = ap (λ r. r >>= operands_of limit inner nested (inner (chain k)) (suc k + 3)) h

-- the level above one that is not read
no_level : (limit : ℕ) (inner : Rule → Parser Piece) (nested : Level → Parser Stmt) (b : ℕ) (ts : List Token) → at limit inner nested (tighter b) ts ≡ None
    → at limit inner nested (tighter (suc b)) ts ≡ None
unfolding chain_of operands_of
no_level limit inner nested zero ts h = ap (λ r. r >>= operands_of limit inner nested (inner power) 3) h
no_level limit inner nested (suc k) ts h = ap (λ r. r >>= operands_of limit inner nested (inner (chain k)) (suc k + 3)) h

-- the same where the levels are counted up
pub level_up : (limit : ℕ) (inner : Rule → Parser Piece) (nested : Level → Parser Stmt) (b : ℕ) (ts mid : List Token) (p : Piece) → at limit inner nested (tighter b) ts ≡ Some (p, mid)
    → at limit inner nested (tighter (b + 1)) ts ≡ operands_from limit inner nested (inner (tighter b)) (b + 3) (length mid) p mid
level_up limit inner nested b ts mid p h =
    let e : b + 1 ≡ suc b = omega arith in
    ap (λ m. at limit inner nested (tighter m) ts) e ∙ next_level limit inner nested b ts mid p h

none_up : (limit : ℕ) (inner : Rule → Parser Piece) (nested : Level → Parser Stmt) (d b : ℕ) (ts : List Token) → at limit inner nested (tighter b) ts ≡ None
    → at limit inner nested (tighter (d + b)) ts ≡ None
none_up limit inner nested zero b ts h =
    let e : 0 + b ≡ b = omega arith in
    ap (λ m. at limit inner nested (tighter m) ts) e ∙ h
none_up limit inner nested (suc d) b ts h =
    let e : suc d + b ≡ suc (d + b) = omega arith in
    ap (λ m. at limit inner nested (tighter m) ts) e ∙ no_level limit inner nested (d + b) ts (none_up limit inner nested d b ts h)

-- every level above one that is not read
pub none_above : (limit : ℕ) (inner : Rule → Parser Piece) (nested : Level → Parser Stmt) (b n : ℕ) (ts : List Token) → b ≤ n → at limit inner nested (tighter b) ts ≡ None
    → at limit inner nested (tighter n) ts ≡ None
none_above limit inner nested b n ts le h =
    let e : n ≡ (n - b) + b = omega arith in
    ap (λ m. at limit inner nested (tighter m) ts) e ∙ none_up limit inner nested (n - b) b ts h

-- what an operator is, and what follows it
unfoldable found_in : Read Infix → Option Infix
found_in r = option_map (λ p. p.0) r

unfoldable rest_in : List Token → Read Infix → List Token
rest_in d None = d
rest_in d (Some p) = p.1

operator_is : (o : Option Infix) (op : Infix) (ts after : List Token) → option_map {U = Infix × List Token} (λ x. (x, ts)) o ≡ Some (op, after) → (o ≡ Some op) × (ts ≡ after)
unfolding found_in rest_in
operator_is None op ts after h = absurd (cc)
operator_is (Some x) op ts after h = (ap found_in h, ap (rest_in ts) h)

operator_is_none : (o : Option Infix) (ts : List Token) → option_map {U = Infix × List Token} (λ x. (x, ts)) o ≡ None → o ≡ None
operator_is_none None ts h = refl
operator_is_none (Some x) ts h = absurd (cc)

-- the operator of that rank at a token
abbrev operator_at : ℕ → Token → Option Infix
operator_at n t = if rank t == n then infix_of t.kind else None

-- no operator of the level goes on there
pub no_operator : (limit : ℕ) (inner : Rule → Parser Piece) (nested : Level → Parser Stmt) (next : Parser Piece) (n m : ℕ) (p : Piece) (ts : List Token)
    → next_operator n ts ≡ None → operands_from limit inner nested next n m p ts ≡ Some (p, ts)
unfolding operands_from
no_operator limit inner nested next n zero p ts h = refl
no_operator limit inner nested next n (suc m) p [] h = refl
no_operator limit inner nested next n (suc m) p (t ∷ ts) h =
    ap (λ o. more_by limit inner nested o p t ts next (operands_from limit inner nested next n m)) (operator_is_none (operator_at n t) ts h)

-- an operator goes on
operator_turn : (limit : ℕ) (inner : Rule → Parser Piece) (nested : Level → Parser Stmt) (next : Parser Piece) (n m : ℕ) (p : Piece) (op : Infix) (ts after : List Token)
    → next_operator n ts ≡ Some (op, after)
    → operands_from limit inner nested next n (suc m) p ts
    ≡ (next after >>= λ q. kept limit (piece (joined op p.tree q.tree) (edge q.form)) (operands_from limit inner nested next n m))
unfolding operands_from
operator_turn limit inner nested next n m p op [] after h = absurd (cc)
operator_turn limit inner nested next n m p op (t ∷ ts) after h =
    let is = operator_is (operator_at n t) op ts after h in
    ap (λ o. more_by limit inner nested o p t ts next (operands_from limit inner nested next n m)) is.0
    ∙ ap (λ rest. next rest >>= λ q. kept limit (piece (joined op p.tree q.tree) (edge q.form)) (operands_from limit inner nested next n m)) is.1

-- with an operand that is read, and a tree that is kept
pub one_operand : (limit : ℕ) (inner : Rule → Parser Piece) (nested : Level → Parser Stmt) (next : Parser Piece) (n m : ℕ) (p q : Piece) (op : Infix) (ts after mid : List Token)
    → next_operator n ts ≡ Some (op, after) → next after ≡ Some (q, mid) → nat_le (expr_depth (joined op p.tree q.tree)) limit ≡ true
    → operands_from limit inner nested next n (suc m) p ts ≡ operands_from limit inner nested next n m (piece (joined op p.tree q.tree) (edge q.form)) mid
unfolding kept
one_operand limit inner nested next n m p q op ts after mid h read fits =
    operator_turn limit inner nested next n m p op ts after h
    ∙ ap (λ r. r >>= λ q. kept limit (piece (joined op p.tree q.tree) (edge q.form)) (operands_from limit inner nested next n m)) read
    ∙ ap (λ b. if b then operands_from limit inner nested next n m (piece (joined op p.tree q.tree) (edge q.form)) mid else None) fits

-- and one that is too deep
pub operand_too_deep : (limit : ℕ) (inner : Rule → Parser Piece) (nested : Level → Parser Stmt) (next : Parser Piece) (n m : ℕ) (p q : Piece) (op : Infix) (ts after mid : List Token)
    → next_operator n ts ≡ Some (op, after) → next after ≡ Some (q, mid) → nat_le (expr_depth (joined op p.tree q.tree)) limit ≡ false
    → operands_from limit inner nested next n (suc m) p ts ≡ None
unfolding kept
operand_too_deep limit inner nested next n m p q op ts after mid h read deep =
    operator_turn limit inner nested next n m p op ts after h
    ∙ ap (λ r. r >>= λ q. kept limit (piece (joined op p.tree q.tree) (edge q.form)) (operands_from limit inner nested next n m)) read
    ∙ ap (λ b. if b then operands_from limit inner nested next n m (piece (joined op p.tree q.tree) (edge q.form)) mid else None) deep

-- with no operand
pub no_operand : (limit : ℕ) (inner : Rule → Parser Piece) (nested : Level → Parser Stmt) (next : Parser Piece) (n m : ℕ) (p : Piece) (op : Infix) (ts after : List Token)
    → next_operator n ts ≡ Some (op, after) → next after ≡ None → operands_from limit inner nested next n (suc m) p ts ≡ None
no_operand limit inner nested next n m p op ts after h read =
    operator_turn limit inner nested next n m p op ts after h
    ∙ ap (λ r. r >>= λ q. kept limit (piece (joined op p.tree q.tree) (edge q.form)) (operands_from limit inner nested next n m)) read
