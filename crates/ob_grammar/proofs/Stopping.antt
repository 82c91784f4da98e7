-- Where nothing goes on with a piece: what the forms of the rules are, and which ranks tokens have.
use Rattle.std.proofs.Common.{◌≡◌, ℕ, zero, suc, ◌≤◌, ◌<◌, inl, inr, List, [], ◌∷◌, Bool, false, Some, refl, ap, ◌∙◌, arith}
use Rattle.ob_lex.specs.declared.punctuator.Punctuator.{Punctuator}
use Rattle.ob_lex.specs.declared.punctuator.Punctuator.TheVariants as mark
use Rattle.ob_lex.specs.declared.token.Token.{Token}
use Rattle.ob_lex.specs.declared.token.TokenKind.{TokenKind}
use Rattle.ob_lex.specs.declared.token.TokenKind.TheVariants as kind
use Rattle.ob_base.specs.declared.operators.AssignOp.{AssignOp}
use Rattle.ob_base.specs.declared.operators.UpdateOp.{UpdateOp}
use Rattle.ob_tree_types.specs.declared.tree.Expr.{Expr}
use Rattle.ob_tree_types.specs.declared.tree.FnBody.{FnBody}
use Rattle.ob_grammar.specs.Marks.{IsMark, SameLine, mark_rank, rank_by, rank, update_of, assign_of}
use Rattle.ob_grammar.specs.declared.form.Form.{Form}
use Rattle.ob_grammar.specs.declared.form.Form.TheVariants.{Target, Other, Updated, Closed, Bare}
use Rattle.ob_grammar.specs.Forms.{edge, Quiet, Stops}
use Rattle.ob_grammar.specs.Grammar.{Rule, whole, conditional, short, chain, power, prefixed, update, left, primary, tighter, Reads, Continues, Steps, ReadsArrowBody}
use Rattle.ob_grammar.specs.Grammar.{arrow, assigned, unassigned, chosen, unchosen, disjoined, coalesced, operands, unraised, raised, signed, unsigned, counted_before, counted_behind, uncounted, steps, literal, name, viewof_name, made, parentheses, array, object, function_expression, no_more, goes_on, no_step, member, index, call, block_body, value_body}

-- ---- the forms of the rules

abbrev pub IsLeft : Form → Type 0
IsLeft Target = Unit {0}
IsLeft Other = Unit {0}
IsLeft Updated = ⊥
IsLeft Closed = ⊥
IsLeft Bare = ⊥

abbrev pub IsOperand : Form → Type 0
IsOperand Target = Unit {0}
IsOperand Other = Unit {0}
IsOperand Updated = Unit {0}
IsOperand Closed = ⊥
IsOperand Bare = ⊥

abbrev pub IsValue : Form → Type 0
IsValue Target = Unit {0}
IsValue Other = Unit {0}
IsValue Updated = Unit {0}
IsValue Closed = Unit {0}
IsValue Bare = ⊥

abbrev pub Fits : Rule → Form → Type 0
Fits whole f = IsValue f
Fits conditional f = IsValue f
Fits short f = IsOperand f
Fits (chain k) f = IsOperand f
Fits power f = IsOperand f
Fits prefixed f = IsOperand f
Fits update f = IsOperand f
Fits left f = IsLeft f
Fits primary f = IsLeft f

pub left_operand : (f : Form) → IsLeft f → IsOperand f
left_operand Target h = tt
left_operand Other h = tt
left_operand Updated h = tt
left_operand Closed h = h
left_operand Bare h = h

pub operand_value : (f : Form) → IsOperand f → IsValue f
operand_value Target h = tt
operand_value Other h = tt
operand_value Updated h = tt
operand_value Closed h = tt
operand_value Bare h = h

pub edge_operand : (f : Form) → IsOperand f → IsOperand (edge f)
edge_operand Target h = tt
edge_operand Other h = tt
edge_operand Updated h = tt
edge_operand Closed h = h
edge_operand Bare h = h

edge_value : (f : Form) → IsValue f → IsValue (edge f)
edge_value Target h = tt
edge_value Other h = tt
edge_value Updated h = tt
edge_value Closed h = tt
edge_value Bare h = h

pub tighter_operand : (k : ℕ) (f : Form) → Fits (tighter k) f → IsOperand f
tighter_operand zero f h = h
tighter_operand (suc k) f h = h

fits_steps : {a : Expr} {f : Form} {ts : List Token} {b : Expr} {g : Form} {rest : List Token} → Steps a f ts b g rest → IsLeft f → IsLeft g
fits_steps (no_step a f ts) h = h
fits_steps (member a b f g t n x ts rest h1 h2 d1) h = fits_steps d1 tt
fits_steps (index a b k f g w t c ts mid rest h1 d1 h2 d2) h = fits_steps d2 tt
fits_steps (call a b f g t args ts mid rest h1 d1 d2) h = fits_steps d2 tt

mutual
  pub fits : {r : Rule} {ts : List Token} {a : Expr} {f : Form} {rest : List Token} → Reads r ts a f rest → Fits r f
  fits (arrow ts mid rest t xs b f h1 h2 h3 d1) = fits_body d1
  fits (assigned ts mid rest t op a b f d1 h1 d2) = edge_value f (fits d2)
  fits (unassigned ts rest a f d1) = fits d1
  fits (chosen ts first second rest q c a b d f g h d1 h1 d2 h2 d3) = edge_value h (fits d3)
  fits (unchosen ts rest a f d1) = operand_value f (fits d1)
  fits (disjoined ts rest a f d1) = fits d1
  fits (coalesced ts mid rest first a f g d1 d2) = fits_continues d2 (λ h w. w) (fits d1)
  fits (operands k ts mid rest first a f g d1 d2) = fits_continues d2 (tighter_operand k) (tighter_operand k f (fits d1))
  fits (unraised ts rest a f d1) = fits d1
  fits (raised ts mid rest t a b f g d1 h1 d2) = edge_operand g (fits d2)
  fits (signed t ts rest op a f h1 d1) = edge_operand f (fits d1)
  fits (unsigned ts rest a f d1) = fits d1
  fits (counted_before t ts rest op a h1 d1) = tt
  fits (counted_behind ts rest t op a d1 h1 h2) = tt
  fits (uncounted ts rest a f d1) = left_operand f (fits d1)
  fits (steps ts mid rest first a f g d1 d2) = fits_steps d2 (fits d1)
  fits (literal t ts a h1) = tt
  fits (name t ts x h1) = tt
  fits (viewof_name t n ts x h1 h2) = tt
  fits (made t n p ts rest x args h1 h2 h3 d1) = tt
  fits (parentheses t c ts rest a f h1 d1 h2) = tt
  fits (array t ts rest items h1 d1) = tt
  fits (object t ts rest props h1 d1) = tt
  fits (function_expression ts rest g d1) = tt

  pub fits_continues : {r : Rule} {n : ℕ} {a : Expr} {f : Form} {ts : List Token} {b : Expr} {g : Form} {rest : List Token} → Continues r n a f ts b g rest
      → ((h : Form) → Fits r h → IsOperand h) → IsOperand f → IsOperand g
  fits_continues (no_more r n a f ts) o w = w
  fits_continues (goes_on r n a b c f g h t ts mid rest op h1 h2 d1 d2) o w = fits_continues d2 o (edge_operand g (o g (fits d1)))

  fits_body : {ts : List Token} {b : FnBody} {f : Form} {rest : List Token} → ReadsArrowBody ts b f rest → IsValue f
  fits_body (block_body ts rest items d1) = tt
  fits_body (value_body ts rest a f h1 d1) = edge_value f (fits d1)

-- ---- quiet

pub quiet : (f : Form) (n : ℕ) (t : Token) → IsValue f → n ≤ rank t → Quiet f n t
quiet Target n t h le = le
quiet Other n t h le = le
quiet Updated n t h le = inl le
quiet Closed n t h le = inl le
quiet Bare n t h le = absurd h

pub less : (f : Form) (n m : ℕ) (ts : List Token) → m ≤ n → Stops f n ts → Stops f m ts
less f n m [] le s = tt
less Target n m (t ∷ ts) le s = omega arith
less Other n m (t ∷ ts) le s = omega arith
less Updated n m (t ∷ ts) le (inl s) = inl (omega arith)
less Updated n m (t ∷ ts) le (inr s) = inr s
less Closed n m (t ∷ ts) le (inl s) = inl (omega arith)
less Closed n m (t ∷ ts) le (inr s) = inr s
less Bare n m (t ∷ ts) le (v, inl s) = (v, inl (omega arith))
less Bare n m (t ∷ ts) le (v, inr s) = (v, inr s)

-- what ends in a piece leaves quiet what the piece does
pub edge_stops : (f : Form) (n : ℕ) (ts : List Token) → Stops (edge f) n ts → Stops f n ts
edge_stops f n [] s = tt
edge_stops Target n (t ∷ ts) s = s
edge_stops Other n (t ∷ ts) s = s
edge_stops Updated n (t ∷ ts) s = s
edge_stops Closed n (t ∷ ts) s = s
edge_stops Bare n (t ∷ ts) s = s

-- where an operand stops, no token of a rank in between stands
pub operand_rank : (f : Form) (n x : ℕ) (t : Token) → IsOperand f → Quiet f n t → 2 ≤ x → x < n → rank t ≡ x → ⊥
operand_rank Target n x t h s lo hi e = omega arith
operand_rank Other n x t h s lo hi e = omega arith
operand_rank Updated n x t h (inl s) lo hi e = omega arith
operand_rank Updated n x t h (inr s) lo hi e = omega arith
operand_rank Closed n x t h s lo hi e = h
operand_rank Bare n x t h s lo hi e = h

pub value_rank : (f : Form) (n x : ℕ) (t : Token) → IsValue f → Quiet f n t → 15 ≤ x → x < n → rank t ≡ x → ⊥
value_rank Target n x t h s lo hi e = omega arith
value_rank Other n x t h s lo hi e = omega arith
value_rank Updated n x t h (inl s) lo hi e = omega arith
value_rank Updated n x t h (inr s) lo hi e = omega arith
value_rank Closed n x t h (inl s) lo hi e = omega arith
value_rank Closed n x t h (inr s) lo hi e = omega arith
value_rank Bare n x t h s lo hi e = h

pub left_rank : (f : Form) (n : ℕ) (t : Token) → IsLeft f → Quiet f n t → n ≤ rank t
left_rank Target n t h s = s
left_rank Other n t h s = s
left_rank Updated n t h s = absurd h
left_rank Closed n t h s = absurd h
left_rank Bare n t h s = absurd h

-- whatever the form
pub any_rank : (f : Form) (n x : ℕ) (t : Token) → Quiet f n t → 17 ≤ x → x < n → rank t ≡ x → ⊥
any_rank Target n x t s lo hi e = omega arith
any_rank Other n x t s lo hi e = omega arith
any_rank Updated n x t (inl s) lo hi e = omega arith
any_rank Updated n x t (inr s) lo hi e = omega arith
any_rank Closed n x t (inl s) lo hi e = omega arith
any_rank Closed n x t (inr s) lo hi e = omega arith
any_rank Bare n x t (v, inl s) lo hi e = omega arith
any_rank Bare n x t (v, inr s) lo hi e = omega arith

-- ---- ranks of tokens

pub mark_is : (t : Token) (m : Punctuator) → IsMark m t → rank t ≡ mark_rank t.break_before m
unfolding rank_by
mark_is t m h = ap (rank_by t.break_before) h

pub rank_close : (t : Token) → IsMark mark.CloseParenthesis t → rank t ≡ 19
unfolding mark_rank
rank_close t h = mark_is t mark.CloseParenthesis h

pub rank_close_bracket : (t : Token) → IsMark mark.CloseBracket t → rank t ≡ 19
unfolding mark_rank
rank_close_bracket t h = mark_is t mark.CloseBracket h

pub rank_close_brace : (t : Token) → IsMark mark.CloseBrace t → rank t ≡ 19
unfolding mark_rank
rank_close_brace t h = mark_is t mark.CloseBrace h

pub rank_colon : (t : Token) → IsMark mark.Colon t → rank t ≡ 19
unfolding mark_rank
rank_colon t h = mark_is t mark.Colon h

pub rank_semicolon : (t : Token) → IsMark mark.Semicolon t → rank t ≡ 18
unfolding mark_rank
rank_semicolon t h = mark_is t mark.Semicolon h

pub rank_comma : (t : Token) → IsMark mark.Comma t → rank t ≡ 17
unfolding mark_rank
rank_comma t h = mark_is t mark.Comma h

pub rank_question : (t : Token) → IsMark mark.Question t → rank t ≡ 14
unfolding mark_rank
rank_question t h = mark_is t mark.Question h

pub rank_star_star : (t : Token) → IsMark mark.StarStar t → rank t ≡ 2
unfolding mark_rank
rank_star_star t h = mark_is t mark.StarStar h

pub rank_dot : (t : Token) → IsMark mark.Dot t → rank t ≡ 0
unfolding mark_rank
rank_dot t h = mark_is t mark.Dot h

pub rank_open : (t : Token) → IsMark mark.OpenParenthesis t → rank t ≡ 0
unfolding mark_rank
rank_open t h = mark_is t mark.OpenParenthesis h

pub rank_open_bracket : (t : Token) → IsMark mark.OpenBracket t → rank t ≡ 0
unfolding mark_rank
rank_open_bracket t h = mark_is t mark.OpenBracket h

pub rank_assign_mark : (t : Token) → IsMark mark.Assign t → rank t ≡ 15
unfolding mark_rank
rank_assign_mark t h = mark_is t mark.Assign h

pub rank_arrow : (t : Token) → IsMark mark.Arrow t → SameLine t → rank t ≡ 16
unfolding mark_rank rank_by
rank_arrow t h s = ap (rank_by t.break_before) h ∙ ap (λ b. rank_by b (kind.Punctuator mark.Arrow)) s

assign_rank_by : (b : Bool) (k : TokenKind) (op : AssignOp) → assign_of k ≡ Some op → rank_by b k ≡ 15
unfolding mark_rank rank_by assign_of
assign_rank_by b (kind.Punctuator mark.Assign) op h = refl
assign_rank_by b (kind.Punctuator mark.PlusAssign) op h = refl
assign_rank_by b (kind.Punctuator mark.MinusAssign) op h = refl
assign_rank_by b (kind.Punctuator mark.StarAssign) op h = refl
assign_rank_by b (kind.Punctuator mark.SlashAssign) op h = refl
assign_rank_by b (kind.Punctuator mark.PercentAssign) op h = refl
assign_rank_by b (kind.Punctuator mark.StarStarAssign) op h = refl
assign_rank_by b (kind.Punctuator mark.ShiftLeftAssign) op h = refl
assign_rank_by b (kind.Punctuator mark.ShiftRightAssign) op h = refl
assign_rank_by b (kind.Punctuator mark.ShiftRightUnsignedAssign) op h = refl
assign_rank_by b (kind.Punctuator mark.AmpersandAssign) op h = refl
assign_rank_by b (kind.Punctuator mark.BarAssign) op h = refl
assign_rank_by b (kind.Punctuator mark.CaretAssign) op h = refl
assign_rank_by b (kind.Punctuator mark.AndAssign) op h = refl
assign_rank_by b (kind.Punctuator mark.OrAssign) op h = refl
assign_rank_by b (kind.Punctuator mark.CoalesceAssign) op h = refl
assign_rank_by b _ op h = cc

pub rank_assign : (t : Token) (op : AssignOp) → assign_of t.kind ≡ Some op → rank t ≡ 15
rank_assign t op h = assign_rank_by t.break_before t.kind op h

update_rank_by : (b : Bool) (k : TokenKind) (op : UpdateOp) → update_of k ≡ Some op → b ≡ false → rank_by b k ≡ 1
unfolding mark_rank rank_by update_of
update_rank_by b (kind.Punctuator mark.PlusPlus) op h s = ap (λ b. rank_by b (kind.Punctuator mark.PlusPlus)) s
update_rank_by b (kind.Punctuator mark.MinusMinus) op h s = ap (λ b. rank_by b (kind.Punctuator mark.MinusMinus)) s
update_rank_by b _ op h s = cc

pub rank_update : (t : Token) (op : UpdateOp) → update_of t.kind ≡ Some op → SameLine t → rank t ≡ 1
rank_update t op h s = update_rank_by t.break_before t.kind op h s
