-- What goes on with the right edge of an expression goes on with the expression.
use Rattle.std.proofs.Common.{◌≡◌, ℕ, zero, suc, ◌+◌, true, List, [], ◌∷◌, refl, ap, sym, subst, ◌∙◌}
use Rattle.ob_lex.specs.declared.punctuator.Punctuator.TheVariants as mark
use Rattle.ob_lex.specs.declared.token.Token.{Token}
use Rattle.ob_base.specs.declared.operators.BinaryOp.TheVariants as binary
use Rattle.ob_tree_types.specs.declared.tree.Expr.{Expr}
use Rattle.ob_tree_types.specs.declared.tree.Expr.TheVariants as node
use Rattle.ob_tree_types.specs.declared.tree.FnBody.{FnBody}
use Rattle.ob_tree_types.specs.declared.tree.FnBody.TheVariants as body
use Rattle.ob_grammar.specs.declared.form.Form.{Form}
use Rattle.ob_grammar.specs.declared.form.Form.TheVariants.{Target, Other, Updated, Closed}
use Rattle.ob_grammar.specs.Marks.{joined}
use Rattle.ob_grammar.specs.Forms.{edge}
use Rattle.ob_grammar.specs.Grammar.{Rule, whole, conditional, short, chain, power, prefixed, update, left, tighter, arrow_function, Reads, Continues, ReadsArrowBody}
use Rattle.ob_grammar.specs.Grammar.{arrow, assigned, unassigned, chosen, unchosen, disjoined, coalesced, operands, unraised, raised, signed, unsigned, counted_before, counted_behind, uncounted, no_more, goes_on, block_body, value_body}
use Rattle.ob_grammar.proofs.Slots.{Alike, Slot, behind, after, still}
use Rattle.ob_grammar.proofs.Moved.{not_mark, moved, moved_arrow_head}

-- the pieces of a rule that has these tokens in the place of what followed a piece of the rule
pub record Extends (tail : List Token) (r : Rule) (ts rest : List Token) : Type 0 where
  pub slot : Slot
  pub same : ts ≡ slot.put rest
  pub tree : Expr
  pub form : Form
  pub reads : Reads r (slot.put tail) tree form []

-- which forms let the first of those tokens go on
pub record Opens (Open : Form → Type 0) : Type 0 where
  pub down : (f : Form) → Open (edge f) → Open f
  pub closed : Open Closed → ⊥

abbrev pub Edge : List Token → (Form → Type 0) → Rule → Type 0
Edge tail Open r = (ts : List Token) (a : Expr) (f : Form) (rest : List Token) → Reads r ts a f rest → Alike rest tail → Open f → Extends tail r ts rest

data Grown (tail : List Token) (r : Rule) (n : ℕ) (a : Expr) (f : Form) (ts : List Token) (g : Form) (rest : List Token) : Type 0 where
  as_it_was : ts ≡ rest → f ≡ g → Grown tail r n a f ts g rest
  grown : (s : Slot) (tree : Expr) (form : Form) → ts ≡ s.put rest → Continues r n a f (s.put tail) tree form [] → Grown tail r n a f ts g rest

-- a first operand and what goes on with it
record Grows (tail : List Token) (r : Rule) (n : ℕ) (ts rest : List Token) : Type 0 where
  slot : Slot
  same : ts ≡ slot.put rest
  mid : List Token
  first : Expr
  at : Form
  tree : Expr
  form : Form
  reads : Reads r (slot.put tail) first at mid
  more : Continues r n first at mid tree form []

module _ (tail : List Token) (Open : Form → Type 0) (opens : Opens Open) where
  grow : {r : Rule} {n : ℕ} {a : Expr} {f : Form} {ts : List Token} {b : Expr} {g : Form} {rest : List Token} → Edge tail Open r
      → Continues r n a f ts b g rest → Alike rest tail → Open g → Grown tail r n a f ts g rest
  grow edges (no_more r n a f ts) alike is = as_it_was refl refl
  grow edges (goes_on r n a b c f g h t ts mid rest op h1 h2 d1 d2) alike is = go (grow edges d2 alike is)
    where
      go : Grown tail r n (joined op a b) (edge g) mid h rest → Grown tail r n a f (t ∷ ts) h rest
      go (as_it_was same forms) =
          let x = edges ts b g mid d1 (subst (λ us. Alike us tail) (sym same) alike) (opens.down g (subst Open (sym forms) is)) in
          grown (behind t x.slot) (joined op a x.tree) (edge x.form) (ap (λ z. t ∷ z) (x.same ∙ ap (λ z. x.slot.put z) same))
          (goes_on r n a x.tree (joined op a x.tree) f x.form (edge x.form) t (x.slot.put tail) [] [] op h1 h2 x.reads (no_more r n (joined op a x.tree) (edge x.form) []))
      go (grown s tree form same more) =
          let m = moved d1 in
          grown (behind t (after m.slot s)) tree form (ap (λ z. t ∷ z) (m.same ∙ ap (λ z. m.slot.put z) same))
          (goes_on r n a b tree f g form t (m.slot.put (s.put tail)) (s.put tail) [] op h1 h2 (m.again (s.put tail) (still s tail same alike)) more)

  grows : (r : Rule) (n : ℕ) (ts : List Token) (first : Expr) (f : Form) (mid : List Token) (a : Expr) (g : Form) (rest : List Token)
      → Edge tail Open r
      → Reads r ts first f mid → Continues r n first f mid a g rest → Alike rest tail → Open g → Grows tail r n ts rest
  grows r n ts first f mid a g rest edges d c alike is = go (grow edges c alike is)
    where
      go : Grown tail r n first f mid g rest → Grows tail r n ts rest
      go (as_it_was same forms) =
          let x = edges ts first f mid d (subst (λ us. Alike us tail) (sym same) alike) (subst Open (sym forms) is) in
          record { slot = x.slot; same = x.same ∙ ap (λ z. x.slot.put z) same; mid = []; first = x.tree; at = x.form; tree = x.tree; form = x.form; reads = x.reads; more = no_more r n x.tree x.form [] }
      go (grown s tree form same more) =
          let m = moved d in
          record {
            slot = after m.slot s;
            same = m.same ∙ ap (λ z. m.slot.put z) same;
            mid = s.put tail;
            first = first;
            at = f;
            tree = tree;
            form = form;
            reads = m.again (s.put tail) (still s tail same alike);
            more = more;
          }

  pub edge_operands : (k : ℕ) → Edge tail Open (tighter k) → Edge tail Open (chain k)
  edge_operands _ edges ts a f rest (operands k _ mid _ first _ g _ d c) alike is =
      let x = grows (tighter k) (k + 3) ts first g mid a f rest edges d c alike is in
      record { slot = x.slot; same = x.same; tree = x.tree; form = x.form; reads = operands k (x.slot.put tail) x.mid [] x.first x.tree x.at x.form x.reads x.more }

  edge_short : Edge tail Open (chain 9) → Edge tail Open (chain 7) → Edge tail Open short
  edge_short nine seven ts a f rest (disjoined _ _ _ _ d) alike is =
      let x = nine ts a f rest d alike is in
      record { slot = x.slot; same = x.same; tree = x.tree; form = x.form; reads = disjoined (x.slot.put tail) [] x.tree x.form x.reads }
  edge_short nine seven ts a f rest (coalesced _ mid _ first _ g _ d c) alike is =
      let x = grows (chain 7) 13 ts first g mid a f rest seven d c alike is in
      record { slot = x.slot; same = x.same; tree = x.tree; form = x.form; reads = coalesced (x.slot.put tail) x.mid [] x.first x.tree x.at x.form x.reads x.more }

  record ExtendsBody (ts rest : List Token) : Type 0 where
    slot : Slot
    same : ts ≡ slot.put rest
    tree : FnBody
    form : Form
    reads : ReadsArrowBody (slot.put tail) tree form []

  mutual
    edge_whole : Edge tail Open short → Edge tail Open whole
    edge_whole shorts ts a f rest (arrow _ mid _ t xs b _ h1 h2 h3 d) alike is =
        let m = moved_arrow_head h1 in let x = edge_body shorts mid b f rest d alike is in
        record {
          slot = after m.slot (behind t x.slot);
          same = m.same ∙ ap (λ z. m.slot.put (t ∷ z)) x.same;
          tree = node.Arrow (arrow_function xs x.tree);
          form = x.form;
          reads = arrow (m.slot.put (t ∷ x.slot.put tail)) (x.slot.put tail) [] t xs x.tree x.form (m.again (t ∷ x.slot.put tail) refl) h2 h3 x.reads;
        }
    edge_whole shorts ts _ _ rest (assigned _ mid _ t op a b f d1 h d2) alike is =
        let m = moved d1 in let x = edge_whole shorts mid b f rest d2 alike (opens.down f is) in
        record {
          slot = after m.slot (behind t x.slot);
          same = m.same ∙ ap (λ z. m.slot.put (t ∷ z)) x.same;
          tree = node.Assign op a x.tree;
          form = edge x.form;
          reads = assigned (m.slot.put (t ∷ x.slot.put tail)) (x.slot.put tail) [] t op a x.tree x.form (m.again (t ∷ x.slot.put tail) refl) h x.reads;
        }
    edge_whole shorts ts a f rest (unassigned _ _ _ _ d) alike is =
        let x = edge_conditional shorts ts a f rest d alike is in
        record { slot = x.slot; same = x.same; tree = x.tree; form = x.form; reads = unassigned (x.slot.put tail) [] x.tree x.form x.reads }

    edge_conditional : Edge tail Open short → Edge tail Open conditional
    edge_conditional shorts ts _ _ rest (chosen _ first second _ q c a b d f g h d1 h1 d2 h2 d3) alike is =
        let m = moved d1 in let n = moved d2 in let x = edge_whole shorts second d h rest d3 alike (opens.down h is) in
        let later = n.same ∙ ap (λ z. n.slot.put (c ∷ z)) x.same in
        record {
          slot = after m.slot (behind q (after n.slot (behind c x.slot)));
          same = m.same ∙ ap (λ z. m.slot.put (q ∷ z)) later;
          tree = node.Cond a b x.tree;
          form = edge x.form;
          reads = chosen (m.slot.put (q ∷ n.slot.put (c ∷ x.slot.put tail))) (n.slot.put (c ∷ x.slot.put tail)) (x.slot.put tail) [] q c a b x.tree f g x.form
              (m.again (q ∷ n.slot.put (c ∷ x.slot.put tail)) refl) h1 (n.again (c ∷ x.slot.put tail) refl) h2 x.reads;
        }
    edge_conditional shorts ts a f rest (unchosen _ _ _ _ d) alike is =
        let x = shorts ts a f rest d alike is in
        record { slot = x.slot; same = x.same; tree = x.tree; form = x.form; reads = unchosen (x.slot.put tail) [] x.tree x.form x.reads }

    edge_body : Edge tail Open short → (ts : List Token) (b : FnBody) (f : Form) (rest : List Token) → ReadsArrowBody ts b f rest → Alike rest tail
        → Open f → ExtendsBody ts rest
    edge_body shorts ts _ _ rest (block_body _ _ items d) alike is = absurd (opens.closed is)
    edge_body shorts ts _ _ rest (value_body _ _ a f h d) alike is =
        let x = edge_whole shorts ts a f rest d alike (opens.down f is) in
        record {
          slot = x.slot;
          same = x.same;
          tree = body.Value x.tree;
          form = edge x.form;
          reads = value_body (x.slot.put tail) [] x.tree x.form (not_mark mark.OpenBrace ts (x.slot.put tail) (still x.slot tail x.same alike) h) x.reads;
        }

  -- from the chains on
  pub edge_all : Edge tail Open (chain 9) → Edge tail Open (chain 7) → Edge tail Open whole
  edge_all nine seven = edge_whole (edge_short nine seven)

  -- ---- from Left on

  pub record ExtendsTarget (ts rest : List Token) : Type 0 where
    pub slot : Slot
    pub same : ts ≡ slot.put rest
    pub tree : Expr
    pub reads : Reads left (slot.put tail) tree Target []

  abbrev pub EdgeOfLeft : Type 0
  EdgeOfLeft = (ts : List Token) (a : Expr) (f : Form) (rest : List Token) → Reads left ts a f rest → Alike rest tail → ExtendsTarget ts rest

  edge_update : EdgeOfLeft → (Open Updated → ⊥) → Edge tail Open update
  edge_update lefts never ts _ _ rest (counted_before t us _ op a h d) alike is =
      let x = lefts us a Target rest d alike in
      record { slot = behind t x.slot; same = ap (λ z. t ∷ z) x.same; tree = node.Update op true x.tree; form = Other; reads = counted_before t (x.slot.put tail) [] op x.tree h x.reads }
  edge_update lefts never ts _ _ rest (counted_behind _ _ t op a d h1 h2) alike is = absurd (never is)
  edge_update lefts never ts a f rest (uncounted _ _ _ _ d) alike is =
      let x = lefts ts a f rest d alike in
      record { slot = x.slot; same = x.same; tree = x.tree; form = Target; reads = uncounted (x.slot.put tail) [] x.tree Target x.reads }

  edge_prefixed : Edge tail Open update → Edge tail Open prefixed
  edge_prefixed updates _ _ _ rest (signed t ts _ op a f h d) alike is =
      let x = edge_prefixed updates ts a f rest d alike (opens.down f is) in
      record { slot = behind t x.slot; same = ap (λ z. t ∷ z) x.same; tree = node.Unary op x.tree; form = edge x.form; reads = signed t (x.slot.put tail) [] op x.tree x.form h x.reads }
  edge_prefixed updates ts a f rest (unsigned _ _ _ _ d) alike is =
      let x = updates ts a f rest d alike is in
      record { slot = x.slot; same = x.same; tree = x.tree; form = x.form; reads = unsigned (x.slot.put tail) [] x.tree x.form x.reads }

  edge_power : Edge tail Open update → Edge tail Open power
  edge_power updates ts a f rest (unraised _ _ _ _ d) alike is =
      let x = edge_prefixed updates ts a f rest d alike is in
      record { slot = x.slot; same = x.same; tree = x.tree; form = x.form; reads = unraised (x.slot.put tail) [] x.tree x.form x.reads }
  edge_power updates ts _ _ rest (raised _ mid _ t a b f g d1 h d2) alike is =
      let m = moved d1 in let x = edge_power updates mid b g rest d2 alike (opens.down g is) in
      record {
        slot = after m.slot (behind t x.slot);
        same = m.same ∙ ap (λ z. m.slot.put (t ∷ z)) x.same;
        tree = node.Binary binary.Pow a x.tree;
        form = edge x.form;
        reads = raised (m.slot.put (t ∷ x.slot.put tail)) (x.slot.put tail) [] t a x.tree f x.form (m.again (t ∷ x.slot.put tail) refl) h x.reads;
      }

  edge_chain : Edge tail Open update → (k : ℕ) → Edge tail Open (chain k)
  edge_chain updates zero = edge_operands zero (edge_power updates)
  edge_chain updates (suc k) = edge_operands (suc k) (edge_chain updates k)

  pub edge_from_left : EdgeOfLeft → (Open Updated → ⊥) → Edge tail Open whole
  edge_from_left lefts never = edge_all (edge_chain (edge_update lefts never) 9) (edge_chain (edge_update lefts never) 7)

  -- what goes on with a chain of products goes on with every sum, and so with all that ends in one
  sum_chain : Edge tail Open (chain 1) → (k : ℕ) → Edge tail Open (chain (suc k))
  sum_chain sums zero = sums
  sum_chain sums (suc k) = edge_operands (suc (suc k)) (sum_chain sums k)

  pub edge_from_sum : Edge tail Open (chain 1) → Edge tail Open whole
  edge_from_sum sums = edge_all (sum_chain sums 8) (sum_chain sums 6)
