-- Where a `;` may be left out at a line break, and where no rule lets the next token go on: the same places.
use Rattle.std.proofs.Common.{◌≡◌, inl, inr, ℕ, zero, suc, ◌+◌, max, true, false, List, [], ◌∷◌, ◌++◌, codes, Some, None, refl, ap, sym, subst, ◌∙◌, arith, append_assoc}
use Rattle.std.proofs.lemmas.List.{append_cancel_right}
use Rattle.ob_lex.specs.declared.punctuator.Punctuator.{Punctuator}
use Rattle.ob_lex.specs.declared.punctuator.Punctuator.TheVariants as mark
use Rattle.ob_lex.specs.declared.token.Token.{Token}
use Rattle.ob_lex.specs.declared.token.TokenKind.{TokenKind}
use Rattle.ob_lex.specs.declared.token.TokenKind.TheVariants as kind
use Rattle.ob_base.specs.declared.operators.BinaryOp.TheVariants as binary
use Rattle.ob_tree_types.specs.declared.tree.Expr.{Expr}
use Rattle.ob_tree_types.specs.declared.tree.Expr.TheVariants as node
use Rattle.ob_tree_types.specs.declared.tree.Stmt.{Stmt}
use Rattle.ob_grammar.specs.declared.form.Form.{Form}
use Rattle.ob_grammar.specs.declared.form.Form.TheVariants.{Target, Other, Updated, Closed, Bare}
use Rattle.ob_grammar.specs.declared.form.Infix.{Infix}
use Rattle.ob_grammar.specs.declared.form.Infix.TheVariants.{Computes}
use Rattle.ob_grammar.specs.Marks.{IsMark, mark_rank, rank_by, rank, infix_of, joined, word_of}
use Rattle.ob_grammar.specs.Forms.{edge, Quiet, at_line}
use Rattle.ob_grammar.specs.Grammar.{whole, chain, power, left, Reads, Continues, Steps, ReadsItem}
use Rattle.ob_grammar.specs.Grammar.{unassigned, unchosen, disjoined, operands, unraised, unsigned, uncounted, steps, name, no_more, goes_on, no_step, member, index, call, no_item}
use Rattle.ob_grammar.specs.Semicolons.{BeginsExpression, may_follow}
use Rattle.ob_grammar.specs.Taking.{Read}
use Rattle.ob_grammar.specs.Reading.{item_of, reads, reads_statement}
use Rattle.ob_grammar.proofs.Need.{need_item}
use Rattle.ob_grammar.proofs.Tall.{tall_item}
use Rattle.ob_grammar.proofs.Statements.{ItemsAreComplete, EndsWhereNothingGoesOn, EndsWhereverNothingGoesOn}
use Rattle.ob_grammar.proofs.Slots.{Alike, Slot, here, behind, after, still}
use Rattle.ob_grammar.proofs.Moved.{moved, moved_list, items_move}
use Rattle.ob_grammar.proofs.Edges.{Extends, Opens, Edge, EdgeOfLeft, edge_from_left, edge_from_sum}

-- ---- where a statement ends, no longer one goes on

rest_of : Read Stmt → List Token
rest_of None = []
rest_of (Some p) = p.1

two_ends : (limit n : ℕ) (ts : List Token) (s u : Stmt) (t : Token) (more : List Token) → item_of limit (reads limit n) (reads_statement limit n) ts ≡ Some (s, t ∷ more)
    → item_of limit (reads limit n) (reads_statement limit n) ts ≡ Some (u, []) → ⊥
unfolding rest_of
two_ends limit n ts s u t more g h = let e : t ∷ more ≡ [] = ap rest_of (sym g ∙ h) in cc

pub ends_where_nothing_goes_on : ItemsAreComplete → EndsWhereNothingGoesOn
ends_where_nothing_goes_on complete front more t s d b =
    let x = items_move front more b.rest t s d in
    let y = subst (λ us. ReadsItem us b.tree []) (append_assoc front (t ∷ []) b.rest) b.reads in
    let limit = max (tall_item x) (tall_item y) in
    let n = max (need_item x) (need_item y) in
    two_ends limit n (front ++ t ∷ b.rest) s b.tree t b.rest (complete (front ++ t ∷ b.rest) s (t ∷ b.rest) x limit (omega arith) n (omega arith))
    (complete (front ++ t ∷ b.rest) b.tree [] y limit (omega arith) n (omega arith))

-- ---- what a rule lets go on

abbrev some_name : Token
some_name = record { kind = kind.Name (codes "x"); start = 0; end = 0; break_before = false }

abbrev some_value : Expr
some_value = node.Name (codes "x")

abbrev some_mark : Punctuator → Token
some_mark m = record { kind = kind.Punctuator m; start = 0; end = 0; break_before = false }

left_name : (rest : List Token) → Reads left (some_name ∷ rest) some_value Target rest
left_name rest = steps (some_name ∷ rest) rest rest some_value some_value Target Target (name some_name rest (codes "x") refl) (no_step some_value Target rest)

chain_name : (k : ℕ) (rest : List Token) → Reads (chain k) (some_name ∷ rest) some_value Target rest
chain_name zero rest = operands zero (some_name ∷ rest) rest rest some_value some_value Target Target
    (unraised (some_name ∷ rest) rest some_value Target (unsigned (some_name ∷ rest) rest some_value Target (uncounted (some_name ∷ rest) rest some_value Target (left_name rest))))
    (no_more power 3 some_value Target rest)
chain_name (suc k) rest = operands (suc k) (some_name ∷ rest) rest rest some_value some_value Target Target (chain_name k rest)
    (no_more (chain k) (suc k + 3) some_value Target rest)

whole_name : (rest : List Token) → Reads whole (some_name ∷ rest) some_value Target rest
whole_name rest = unassigned (some_name ∷ rest) rest some_value Target (unchosen (some_name ∷ rest) rest some_value Target
    (disjoined (some_name ∷ rest) rest some_value Target (chain_name 9 rest)))

-- a call or an index behind a left-hand side
abbrev call_end : List Token
call_end = some_mark mark.CloseParenthesis ∷ some_mark mark.Dot ∷ some_name ∷ []

abbrev index_end : List Token
index_end = some_name ∷ some_mark mark.CloseBracket ∷ []

abbrev call_tail : Token → List Token
call_tail t = t ∷ call_end

abbrev index_tail : Token → List Token
index_tail t = t ∷ index_end

abbrev sum_tail : Token → List Token
sum_tail t = t ∷ some_name ∷ []

abbrev called : Expr → Expr
called a = node.Member (node.Call a []) (codes "x")

abbrev indexed : Expr → Expr
indexed a = node.Index a some_value

record MoreSteps (tail : List Token) (a : Expr) (f : Form) : Type 0 where
  tree : Expr
  more : Steps a f tail tree Target []

calls : (t : Token) → IsMark mark.OpenParenthesis t → (a : Expr) (f : Form) → MoreSteps (call_tail t) a f
unfolding word_of
calls t h a f = record {
  tree = called a;
  more = call a (called a) f Target t [] call_end (some_mark mark.Dot ∷ some_name ∷ []) [] h
      (no_item mark.CloseParenthesis (some_mark mark.CloseParenthesis) (some_mark mark.Dot ∷ some_name ∷ []) refl)
      (member (node.Call a []) (called a) Other Target (some_mark mark.Dot) some_name (codes "x") [] [] refl refl
      (no_step (called a) Target []));
}

indexes : (t : Token) → IsMark mark.OpenBracket t → (a : Expr) (f : Form) → MoreSteps (index_tail t) a f
indexes t h a f = record {
  tree = indexed a;
  more = index a (indexed a) some_value f Target Target t (some_mark mark.CloseBracket) index_end [] [] h
      (whole_name (some_mark mark.CloseBracket ∷ [])) refl (no_step (indexed a) Target []);
}

record MovedSteps (tail : List Token) (a : Expr) (f : Form) (ts rest : List Token) : Type 0 where
  slot : Slot
  same : ts ≡ slot.put rest
  tree : Expr
  more : Steps a f (slot.put tail) tree Target []

more_steps : (tail : List Token) → ((a : Expr) (f : Form) → MoreSteps tail a f)
    → {a : Expr} {f : Form} {ts : List Token} {b : Expr} {g : Form} {rest : List Token}
    → Steps a f ts b g rest → Alike rest tail → MovedSteps tail a f ts rest
more_steps tail ends (no_step a f ts) alike = record { slot = here; same = refl; tree = (ends a f).tree; more = (ends a f).more }
more_steps tail ends (member a b f g t n x ts rest h1 h2 d) alike =
    let j = more_steps tail ends d alike in
    record { slot = behind t (behind n j.slot); same = ap (λ z. t ∷ n ∷ z) j.same; tree = j.tree; more = member a j.tree f Target t n x (j.slot.put tail) [] h1 h2 j.more }
more_steps tail ends (index a b k f g h t c ts mid rest h1 d1 h2 d2) alike =
    let m = moved d1 in let j = more_steps tail ends d2 alike in
    record {
      slot = behind t (after m.slot (behind c j.slot));
      same = ap (λ z. t ∷ z) (m.same ∙ ap (λ z. m.slot.put (c ∷ z)) j.same);
      tree = j.tree;
      more = index a j.tree k f Target h t c (m.slot.put (c ∷ j.slot.put tail)) (j.slot.put tail) [] h1 (m.again (c ∷ j.slot.put tail) refl) h2 j.more;
    }
more_steps tail ends (call a b f g t args ts mid rest h1 d1 d2) alike =
    let m = moved_list d1 in let j = more_steps tail ends d2 alike in
    record {
      slot = behind t (after m.slot j.slot);
      same = ap (λ z. t ∷ z) (m.same ∙ ap (λ z. m.slot.put z) j.same);
      tree = j.tree;
      more = call a j.tree f Target t args (m.slot.put (j.slot.put tail)) (j.slot.put tail) [] h1 (m.again (j.slot.put tail) (still j.slot tail j.same alike)) j.more;
    }

edge_left : (tail : List Token) (Open : Form → Type 0) (opens : Opens Open) → ((a : Expr) (f : Form) → MoreSteps tail a f)
    → EdgeOfLeft tail Open opens
edge_left tail Open opens ends ts a f rest (steps _ mid _ first _ g _ d s) alike =
    let m = moved d in let j = more_steps tail ends s alike in
    record {
      slot = after m.slot j.slot;
      same = m.same ∙ ap (λ z. m.slot.put z) j.same;
      tree = j.tree;
      reads = steps (m.slot.put (j.slot.put tail)) (j.slot.put tail) [] first j.tree g Target (m.again (j.slot.put tail) (still j.slot tail j.same alike)) j.more;
    }

-- ---- one more term of a sum

record MovedTerms (tail : List Token) (a : Expr) (f : Form) (ts rest : List Token) : Type 0 where
  slot : Slot
  same : ts ≡ slot.put rest
  tree : Expr
  form : Form
  more : Continues (chain 0) 4 a f (slot.put tail) tree form []

more_terms : (t : Token) (op : Infix) → rank t ≡ 4 → infix_of t.kind ≡ Some op
    → {a : Expr} {f : Form} {ts : List Token} {b : Expr} {g : Form} {rest : List Token}
    → Continues (chain 0) 4 a f ts b g rest → Alike rest (sum_tail t) → MovedTerms (sum_tail t) a f ts rest
more_terms t op hr ho (no_more _ _ a f ts) alike = record {
  slot = here;
  same = refl;
  tree = joined op a some_value;
  form = Other;
  more = goes_on (chain 0) 4 a some_value (joined op a some_value) f Target Other t (some_name ∷ []) [] [] op hr ho (chain_name 0 [])
      (no_more (chain 0) 4 (joined op a some_value) Other []);
}
more_terms t op hr ho (goes_on _ _ a b c f g h u ts mid rest p h1 h2 d1 d2) alike =
    let m = moved d1 in let j = more_terms t op hr ho d2 alike in
    record {
      slot = behind u (after m.slot j.slot);
      same = ap (λ z. u ∷ z) (m.same ∙ ap (λ z. m.slot.put z) j.same);
      tree = j.tree;
      form = j.form;
      more = goes_on (chain 0) 4 a b j.tree f g j.form u (m.slot.put (j.slot.put (sum_tail t))) (j.slot.put (sum_tail t)) [] p h1 h2
          (m.again (j.slot.put (sum_tail t)) (still j.slot (sum_tail t) j.same alike)) j.more;
    }

edge_sum : (t : Token) (op : Infix) → rank t ≡ 4 → infix_of t.kind ≡ Some op → (Open : Form → Type 0) → Edge (sum_tail t) Open (chain 1)
edge_sum t op hr ho Open ts a f rest (operands _ _ mid _ first _ g _ d c) alike is =
    let m = moved d in let j = more_terms t op hr ho c alike in
    record {
      slot = after m.slot j.slot;
      same = m.same ∙ ap (λ z. m.slot.put z) j.same;
      tree = j.tree;
      form = j.form;
      reads = operands 1 (m.slot.put (j.slot.put (sum_tail t))) (j.slot.put (sum_tail t)) [] first j.tree g j.form
          (m.again (j.slot.put (sum_tail t)) (still j.slot (sum_tail t) j.same alike)) j.more;
    }

-- ---- which forms they go on with

abbrev IsValue : Form → Type 0
IsValue Target = Unit {0}
IsValue Other = Unit {0}
IsValue Updated = ⊥
IsValue Closed = ⊥
IsValue Bare = ⊥

abbrev IsTerm : Form → Type 0
IsTerm Target = Unit {0}
IsTerm Other = Unit {0}
IsTerm Updated = Unit {0}
IsTerm Closed = ⊥
IsTerm Bare = ⊥

value_down : (f : Form) → IsValue (edge f) → IsValue f
value_down Target h = tt
value_down Other h = tt
value_down Updated h = h
value_down Closed h = h
value_down Bare h = h

term_down : (f : Form) → IsTerm (edge f) → IsTerm f
term_down Target h = tt
term_down Other h = tt
term_down Updated h = h
term_down Closed h = h
term_down Bare h = h

opens_value : Opens IsValue
opens_value = record { down = value_down; closed = λ h. h }

opens_term : Opens IsTerm
opens_term = record { down = term_down; closed = λ h. h }

step_goes_on : (tail : List Token) → ((a : Expr) (f : Form) → MoreSteps tail a f) → Edge tail IsValue whole
step_goes_on tail ends = edge_from_left tail IsValue opens_value (edge_left tail IsValue opens_value ends) (λ h. h)

term_goes_on : (t : Token) (op : Infix) → rank t ≡ 4 → infix_of t.kind ≡ Some op → Edge (sum_tail t) IsTerm whole
term_goes_on t op hr ho = edge_from_sum (sum_tail t) IsTerm opens_term (edge_sum t op hr ho IsTerm)

begins : (front more : List Token) (t : Token) (after_it : List Token) → Extends (t ∷ after_it) whole (front ++ t ∷ more) (t ∷ more)
    → BeginsExpression (front ++ t ∷ [])
begins front more t after_it x =
    let q : x.slot.front ≡ front = append_cancel_right x.slot.front front (t ∷ more) (sym (x.slot.is_front (t ∷ more)) ∙ sym x.same) in
    record {
      rest = after_it;
      tree = x.tree;
      form = x.form;
      reads = subst (λ us. Reads whole us x.tree x.form []) (x.slot.is_front (t ∷ after_it) ∙ ap (λ w. w ++ t ∷ after_it) q ∙ sym (append_assoc front (t ∷ []) after_it)) x.reads;
    }

-- ---- the tokens that may follow

data Follows (k : TokenKind) : Type 0 where
  opens_call : k ≡ kind.Punctuator mark.OpenParenthesis → Follows k
  opens_index : k ≡ kind.Punctuator mark.OpenBracket → Follows k
  joins : (op : Infix) → rank_by true k ≡ 4 → infix_of k ≡ Some op → Follows k
  ties_nothing : rank_by true k ≡ 19 → Follows k

follows : (k : TokenKind) → may_follow k ≡ true → Follows k
unfolding may_follow rank_by mark_rank infix_of
follows (kind.Punctuator mark.OpenParenthesis) h = opens_call refl
follows (kind.Punctuator mark.OpenBracket) h = opens_index refl
follows (kind.Punctuator mark.OpenBrace) h = ties_nothing refl
follows (kind.Punctuator mark.Plus) h = joins (Computes binary.Add) refl refl
follows (kind.Punctuator mark.Minus) h = joins (Computes binary.Sub) refl refl
follows (kind.Punctuator mark.PlusPlus) h = ties_nothing refl
follows (kind.Punctuator mark.MinusMinus) h = ties_nothing refl
follows (kind.Punctuator mark.Not) h = ties_nothing refl
follows (kind.Punctuator mark.Tilde) h = ties_nothing refl
follows (kind.Punctuator m) h = cc
follows _ h = ties_nothing refl

rank_after_break : (t : Token) → t.break_before ≡ true → rank t ≡ rank_by true t.kind
rank_after_break t hb = ap (λ b. rank_by b t.kind) hb

rank_of_mark : (t : Token) (m : Punctuator) → IsMark m t → t.break_before ≡ true → rank t ≡ mark_rank true m
unfolding rank_by
rank_of_mark t m h hb = rank_after_break t hb ∙ ap (λ k. rank_by true k) h

quiet_at_19 : (f : Form) (t : Token) → t.break_before ≡ true → rank t ≡ 19 → Quiet f 19 t
quiet_at_19 Target t hb h = omega (arith, h)
quiet_at_19 Other t hb h = omega (arith, h)
quiet_at_19 Updated t hb h = inl (omega (arith, h))
quiet_at_19 Closed t hb h = inl (omega (arith, h))
quiet_at_19 Bare t hb h = (inl hb, inl (omega (arith, h)))

quiet_at_0 : (f : Form) (t : Token) → t.break_before ≡ true → rank t ≡ 0 → (IsValue f → ⊥) → Quiet f 19 t
quiet_at_0 Target t hb h shut = absurd (shut tt)
quiet_at_0 Other t hb h shut = absurd (shut tt)
quiet_at_0 Updated t hb h shut = inr (omega (arith, h))
quiet_at_0 Closed t hb h shut = inr (omega (arith, h))
quiet_at_0 Bare t hb h shut = (inl hb, inr (omega (arith, h)))

quiet_at_4 : (f : Form) (t : Token) → t.break_before ≡ true → rank t ≡ 4 → (IsTerm f → ⊥) → Quiet f 19 t
quiet_at_4 Target t hb h shut = absurd (shut tt)
quiet_at_4 Other t hb h shut = absurd (shut tt)
quiet_at_4 Updated t hb h shut = absurd (shut tt)
quiet_at_4 Closed t hb h shut = inr (omega (arith, h))
quiet_at_4 Bare t hb h shut = (inl hb, inr (omega (arith, h)))

quiet : (front more : List Token) (t : Token) (a : Expr) (f : Form) → Reads whole (front ++ t ∷ more) a f (t ∷ more) → t.break_before ≡ true
    → (BeginsExpression (front ++ t ∷ []) → ⊥) → Follows t.kind → Quiet f 19 t
unfolding mark_rank
quiet front more t a f d hb nothing (opens_call h) = quiet_at_0 f t hb (rank_of_mark t mark.OpenParenthesis h hb)
    (λ is. nothing (begins front more t call_end (step_goes_on (call_tail t) (calls t h) (front ++ t ∷ more) a f (t ∷ more) d refl is)))
quiet front more t a f d hb nothing (opens_index h) = quiet_at_0 f t hb (rank_of_mark t mark.OpenBracket h hb)
    (λ is. nothing (begins front more t index_end (step_goes_on (index_tail t) (indexes t h) (front ++ t ∷ more) a f (t ∷ more) d refl is)))
quiet front more t a f d hb nothing (joins op hr ho) = quiet_at_4 f t hb (rank_after_break t hb ∙ hr)
    (λ is. nothing (begins front more t (some_name ∷ []) (term_goes_on t op (rank_after_break t hb ∙ hr) ho (front ++ t ∷ more) a f (t ∷ more) d refl is)))
quiet front more t a f d hb nothing (ties_nothing h) = quiet_at_19 f t hb (rank_after_break t hb ∙ h)

pub ends_wherever_nothing_goes_on : EndsWhereverNothingGoesOn
ends_wherever_nothing_goes_on front more t a f d may hb nothing = at_line t more hb (quiet front more t a f d hb nothing (follows t.kind may))
