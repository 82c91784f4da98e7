-- What is in the grammar, the descent gives, where nothing that follows goes on with it.
use Rattle.std.proofs.Common.{◌≡◌, ℕ, zero, suc, ◌+◌, ◌≤◌, List, [], ◌∷◌, length, Bool, false, Option, Some, None, refl, sym, ap, ◌∙◌, inl, arith}
use Rattle.ob_lex.specs.declared.punctuator.Punctuator.{Punctuator}
use Rattle.ob_lex.specs.declared.punctuator.Punctuator.TheVariants as mark
use Rattle.ob_lex.specs.declared.token.Token.{Token}
use Rattle.ob_lex.specs.declared.token.TokenKind.{TokenKind}
use Rattle.ob_tree_types.specs.declared.tree.Expr.{Expr}
use Rattle.ob_tree_types.specs.declared.tree.PropNode.{PropNode}
use Rattle.ob_tree_types.specs.declared.tree.FnBody.{FnBody}
use Rattle.ob_tree_types.specs.declared.tree.Decl.{Decl}
use Rattle.ob_tree_types.specs.declared.tree.Stmt.{Stmt}
use Rattle.ob_tree_types.specs.declared.tree.ForHead.{ForHead}
use Rattle.ob_tree_types.specs.declared.tree.CatchPart.{CatchPart}
use Rattle.ob_grammar.specs.Marks.{IsMark, IsName, key_of, rank}
use Rattle.ob_grammar.specs.declared.form.Form.{Form}
use Rattle.ob_grammar.specs.declared.form.Form.TheVariants.{Target}
use Rattle.ob_grammar.specs.declared.form.Level.TheVariants as level
use Rattle.ob_grammar.specs.declared.piece.Piece.{Piece}
use Rattle.ob_grammar.specs.Forms.{edge, Quiet, Stops}
use Rattle.ob_grammar.specs.Grammar.{Rule, whole, chain, power, prefixed, tighter, Reads, Continues, Steps, ReadsList, ReadsProps, ReadsProp, ReadsArrowBody, ReadsBlock, ReadsItems, ReadsItem, ReadsDecls, ReadsDecl, ReadsYield, ReadsStmt, ReadsTest, ReadsHead, ReadsOptional, ReadsCatch}
use Rattle.ob_grammar.specs.Grammar.{arrow, assigned, unassigned, chosen, unchosen, disjoined, coalesced, operands, unraised, raised, signed, unsigned, counted_before, counted_behind, uncounted, steps, literal, name, viewof_name, made, parentheses, array, object, function_expression, no_more, goes_on, no_step, member, index, call, no_item, last_item, more_list, no_prop, last_prop, more_props, short_prop, fixed_prop, computed_prop, block_body, value_body, function, block, no_items, more_items, statement, let_item, const_item, function_item, last_decl, more_decls, decl_name, decl_value, decl_yield, yield_alone, yield_value, block_statement, empty, expression, yielded, yield_assigned, changed, stepped, if_alone, if_else, while_loop, do_loop, do_loop_ended, for_loop, for_of, break, continue, return_alone, return_value, throw, try_catch, test, no_head, let_head, const_head, expr_head, absent, present, catch_all, catch_name}
use Rattle.ob_grammar.specs.Taking.{Read, Parser, piece, closes_parenthesis, closes_bracket, closes_brace, is_colon, is_semicolon, take}
use Rattle.ob_grammar.specs.Reading.{list_from, prop_of, props_from, items_from, block_of, steps_from, operands_from, chain_of, short_of, arrow_body, at, decl_of, decls_from, test_of, optional, head_of, catch_of, statement_of, item_of, reads, reads_statement}
use Rattle.ob_grammar.proofs.Need.{need, need_continues, need_steps, need_list, need_props, need_prop, need_arrow_body, need_block, need_items, need_item, need_decls, need_decl, need_yield, need_stmt, need_test, need_head, need_optional, need_catch}
use Rattle.ob_grammar.proofs.Tall.{tall, tall_continues, tall_steps, tall_list, tall_props, tall_prop, tall_arrow_body, tall_block, tall_items, tall_item, tall_decls, tall_decl, tall_yield, tall_stmt, tall_test, tall_head, tall_optional, tall_catch}
use Rattle.ob_grammar.proofs.Shorter.{shorter, shorter_list, shorter_prop, shorter_item, shorter_decl}
use Rattle.ob_grammar.proofs.Statements.{reach, ExpressionsAreComplete, ItemsAreComplete, StatementsAreComplete, DeclarationsAreComplete}
use Rattle.ob_grammar.proofs.CompleteTaking.{take_off, head_complete, signature_complete}
use Rattle.ob_grammar.proofs.CompleteLists as lists
use Rattle.ob_grammar.proofs.CompleteLists.{Closes}
use Rattle.ob_grammar.proofs.CompleteExpressions as expressions
use Rattle.ob_grammar.proofs.CompleteExpressions.{NotRank, not_rank}
use Rattle.ob_grammar.proofs.CompleteStatements as statements
use Rattle.ob_grammar.proofs.CompleteStatements.{held, of_decls, Yields}
use Rattle.ob_grammar.proofs.EndsComplete.{end_is, end_stops, quiet_end, ends_semicolon, ends_comma}
use Rattle.ob_grammar.proofs.Firsts.{first, first_left, first_off, unsigned_update}
use Rattle.ob_grammar.proofs.Heads as heads
use Rattle.ob_grammar.proofs.Heads.{reach_tighter}
use Rattle.ob_grammar.proofs.Starts.{item_no_close}
use Rattle.ob_grammar.proofs.Stopping.{IsLeft, IsOperand, IsValue, Fits, fits, fits_continues, left_operand, edge_operand, operand_value, tighter_operand, quiet, less, edge_stops, rank_close, rank_close_bracket, rank_close_brace, rank_colon, rank_semicolon, rank_comma, rank_question, rank_star_star, rank_assign, rank_update}

-- ---- what follows

marked : {ts : List Token} {a : Expr} {f : Form} {rest : List Token} (d : Reads whole ts a f rest) (c : Token) → 17 ≤ rank c → Quiet f 17 c
marked {f = f} d c h = quiet f 17 c (fits d) h

-- behind an operand, before an operator that groups to the left or what ends the chain
chain_stops : {r : Rule} {n : ℕ} {a : Expr} {f : Form} {ts : List Token} {b : Expr} {g : Form} {rest : List Token} → Continues r n a f ts b g rest → IsOperand f
    → (k : ℕ) → k ≤ n → Stops g (n + 1) rest → Stops f k ts
chain_stops {n = n} {f = f} (no_more r i a h ts) o k le s = less f (n + 1) k ts (omega arith) s
chain_stops {f = f} (goes_on r n a b c h g i t ts mid rest op h1 h2 d1 d2) o k le s = quiet f k t (operand_value f o) (omega (arith, h1))

-- behind an operand that stands in a chain of them
next_stops : {r : Rule} {n : ℕ} {a : Expr} (f : Form) {ts : List Token} {b : Expr} {g : Form} {rest : List Token} → Continues r n a (edge f) ts b g rest → IsOperand f
    → (k : ℕ) → k ≤ n → Stops g (n + 1) rest → Stops f k ts
next_stops {n = n} f (no_more r i a h ts) o k le s = edge_stops f k ts (less (edge f) (n + 1) k ts (omega arith) s)
next_stops f (goes_on r n a b c h g i t ts mid rest op h1 h2 d1 d2) o k le s = quiet f k t (operand_value f o) (omega (arith, h1))

pub stops_none : (f : Form) (ts : List Token) → IsLeft f → Stops f 0 ts
stops_none f [] l = tt
stops_none f (t ∷ ts) l = quiet f 0 t (operand_value f (left_operand f l)) (omega arith)

continues_not : {r : Rule} {n : ℕ} {a : Expr} {f : Form} {ts : List Token} {b : Expr} {g : Form} {rest : List Token} → Continues r n a f ts b g rest
    → (x : ℕ) → (n ≡ x → ⊥) → NotRank x rest → NotRank x ts
continues_not (no_more r n a f ts) x h w = w
continues_not (goes_on r n a b c f g h t ts mid rest op h1 h2 d1 d2) x e w = λ q. e (sym h1 ∙ q)

starts_off : {close : Punctuator} {closes : TokenKind → Bool} {ts : List Token} {a : Expr} {f : Form} {rest : List Token} → Closes close closes → Reads whole ts a f rest
    → take closes ts ≡ None
starts_off {closes = closes} w d = let p = first d in first_off closes p (w.start p.token.kind p.passes)

-- a property is followed by a comma or the brace
pub data After : List Token → Type 0 where
  comma : (c : Token) (ts : List Token) → IsMark mark.Comma c → After (c ∷ ts)
  brace : (c : Token) (ts : List Token) → IsMark mark.CloseBrace c → After (c ∷ ts)

after_stops : (f : Form) {ts : List Token} → IsValue f → After ts → Stops f 17 ts
after_stops f v (comma c ts h) = quiet f 17 c v (omega (arith, rank_comma c h))
after_stops f v (brace c ts h) = quiet f 17 c v (omega (arith, rank_close_brace c h))

comma_no_colon : (c : Token) → IsMark mark.Comma c → is_colon c.kind ≡ false
unfolding is_colon
comma_no_colon c h = ap is_colon h

brace_no_colon : (c : Token) → IsMark mark.CloseBrace c → is_colon c.kind ≡ false
unfolding is_colon
brace_no_colon c h = ap is_colon h

after_no_colon : {ts : List Token} → After ts → take is_colon ts ≡ None
after_no_colon (comma c ts h) = take_off is_colon c ts (comma_no_colon c h)
after_no_colon (brace c ts h) = take_off is_colon c ts (brace_no_colon c h)

word_no_brace : (t : Token) (key : List ℕ) → key_of t.kind ≡ Some key → closes_brace t.kind ≡ false
word_no_brace t key h = lists.key_no_brace t.kind key h

name_no_brace : (t : Token) (x : List ℕ) → IsName x t → closes_brace t.kind ≡ false
unfolding closes_brace
name_no_brace t x h = ap closes_brace h

bracket_no_brace : (t : Token) → IsMark mark.OpenBracket t → closes_brace t.kind ≡ false
unfolding closes_brace
bracket_no_brace t h = ap closes_brace h

prop_no_close : {ts : List Token} {p : PropNode} {rest : List Token} → ReadsProp ts p rest → take closes_brace ts ≡ None
prop_no_close (short_prop t ts x h1) = take_off closes_brace t ts (name_no_brace t x h1)
prop_no_close (fixed_prop t c ts rest key a f h1 h2 d1) = take_off closes_brace t (c ∷ ts) (word_no_brace t key h1)
prop_no_close (computed_prop t e c ts mid rest k a f g h1 d1 h2 h3 d2) = take_off closes_brace t ts (bracket_no_brace t h1)

module _ (limit : ℕ) where
  -- ---- one nesting deeper

  abbrev here : ℕ → Rule → Parser Piece
  here m = at limit (reads limit m) (reads_statement limit m)

  pub deeper : (r : Rule) (ts : List Token) (v : Read Piece) (n : ℕ) → ((m : ℕ) → n ≤ m → here m r ts ≡ v) → (m : ℕ) → 1 + n ≤ m → reads limit m r ts ≡ v
  unfolding reads
  deeper r ts v n h zero le = absurd (omega arith)
  deeper r ts v n h (suc m) le = h m (omega arith)

  pub deeper_item : (ts : List Token) (v : Read Stmt) (n : ℕ) → ((m : ℕ) → n ≤ m → item_of limit (reads limit m) (reads_statement limit m) ts ≡ v) → (m : ℕ) → 1 + n ≤ m
      → reads_statement limit m level.Item ts ≡ v
  unfolding reads_statement
  deeper_item ts v n h zero le = absurd (omega arith)
  deeper_item ts v n h (suc m) le = h m (omega arith)

  pub deeper_statement : (ts : List Token) (v : Read Stmt) (n : ℕ) → ((m : ℕ) → n ≤ m → statement_of limit (reads limit m) (reads_statement limit m) ts ≡ v) → (m : ℕ) → 1 + n ≤ m
      → reads_statement limit m level.Statement ts ≡ v
  unfolding reads_statement
  deeper_statement ts v n h zero le = absurd (omega arith)
  deeper_statement ts v n h (suc m) le = h m (omega arith)

  -- a chain of `??`, which may be empty
  nullish_is : (m : ℕ) (ts : List Token) {mid : List Token} {one : Expr} {f : Form} {a : Expr} {g : Form} {rest : List Token} → Continues (chain 7) 13 one f mid a g rest → IsOperand g → Stops g 14 rest
      → chain_of limit (reads limit m) (reads_statement limit m) 7 ts ≡ Some (piece one f, mid)
      → operands_from limit (reads limit m) (reads_statement limit m) (reads limit m (chain 7)) 13 (length mid) (piece one f) mid ≡ Some (piece a g, rest)
      → short_of limit (reads limit m) (reads_statement limit m) ts ≡ Some (piece a g, rest)
  nullish_is m ts (no_more r n a f mid) o s e more =
      expressions.disjoined_is limit (reads limit m) (reads_statement limit m) ts mid mid (piece a f) (piece a f) (Some (piece a f, mid)) e (not_rank f 14 13 mid o s (omega arith) (omega arith))
      (expressions.operands_stop limit (reads limit m) (reads_statement limit m) (reads limit m (chain 7)) 11 (length mid) (piece a f) mid (not_rank f 14 11 mid o s (omega arith) (omega arith)))
      (expressions.operands_stop limit (reads limit m) (reads_statement limit m) (reads limit m (chain 8)) 12 (length mid) (piece a f) mid (not_rank f 14 12 mid o s (omega arith) (omega arith)))
  nullish_is m ts (goes_on r n a b c f g h t us mid rest op h1 h2 d1 d2) o s e more =
      expressions.coalesced_is limit (reads limit m) (reads_statement limit m) ts us t (piece a f) (Some (piece c h, rest)) e h1 more

  -- ---- what is in the grammar is read

  mutual
    pub complete : {r : Rule} {ts : List Token} {a : Expr} {f : Form} {rest : List Token} (d : Reads r ts a f rest) → Stops f (reach r) rest → tall d ≤ limit → (m : ℕ) → need d ≤ m
        → at limit (reads limit m) (reads_statement limit m) r ts ≡ Some (piece a f, rest)
    complete (arrow ts mid rest t xs b f h1 h2 h3 d1) s top m le =
        expressions.arrow_is limit (reads limit m) (reads_statement limit m) ts mid rest xs b f (head_complete t mid h1 h2 h3) (complete_body d1 s top m le)
    complete (assigned ts mid rest t op a b f d1 h1 d2) s top m le =
        let l = complete d1 (let q = rank_assign t op h1 in omega arith) (omega arith) m (omega arith) in
        expressions.assigned_is limit (reads limit m) (reads_statement limit m) ts mid rest t op a b f (heads.no_head_before t d1 (omega arith) (λ e. omega (arith, rank_assign t op h1)))
        (expressions.target_conditional limit (reads limit m) (reads_statement limit m) ts mid t a (first_left d1 (inl refl)) l (rank_assign t op h1)) h1
        (deeper whole mid (Some (piece b f, rest)) (need d2) (complete d2 (edge_stops f 17 rest s) (omega arith)) m (omega arith))
    complete (unassigned ts rest a f d1) s top m le =
        expressions.unassigned_is limit (reads limit m) (reads_statement limit m) ts rest a f (heads.no_head d1 s) (fits d1) s (complete d1 s top m le)
    complete (chosen ts next second rest q c a b d f g h d1 h1 d2 h2 d3) s top m le =
        expressions.chosen_is limit (reads limit m) (reads_statement limit m) ts next second rest q c a b d f g h
        (complete d1 (quiet f 14 q (operand_value f (fits d1)) (omega (arith, rank_question q h1))) (omega arith) m (omega arith)) h1
        (deeper whole next (Some (piece b g, c ∷ second)) (need d2) (complete d2 (marked d2 c (omega (arith, rank_colon c h2))) (omega arith)) m (omega arith)) h2
        (deeper whole second (Some (piece d h, rest)) (need d3) (complete d3 (edge_stops h 17 rest s) (omega arith)) m (omega arith))
    complete (unchosen ts rest a f d1) s top m le =
        expressions.unchosen_is limit (reads limit m) (reads_statement limit m) ts rest a f (fits d1) (less f 17 15 rest (omega arith) s) (complete d1 (less f 17 14 rest (omega arith) s) top m le)
    complete (disjoined ts rest a f (operands k us next rest2 two a2 h f2 (operands i vs mid next2 one two2 j h2 d1 d2) d3)) s top m le =
        let o = fits d1 in
        let o2 = fits_continues d2 (λ h w. w) o in
        let s3 = less f 14 13 rest (omega arith) s in
        let s2 = chain_stops d3 o2 12 (omega arith) s3 in
        expressions.disjoined_is limit (reads limit m) (reads_statement limit m) ts mid next (piece one j) (piece two h) (Some (piece a f, rest))
        (complete d1 (chain_stops d2 o 11 (omega arith) s2) (omega arith) m (omega arith))
        (continues_not d2 13 (λ e. omega arith) (continues_not d3 13 (λ e. omega arith) (not_rank f 14 13 rest (fits_continues d3 (λ h w. w) o2) s (omega arith) (omega arith))))
        (complete_continues d2 (λ h w. w) o (omega arith) (omega arith) s2 (omega arith) m (omega arith) (length mid) (omega arith))
        (complete_continues d3 (λ h w. w) o2 (omega arith) (omega arith) s3 (omega arith) m (omega arith) (length next) (omega arith))
    complete (coalesced ts mid rest one a f g d1 d2) s top m le =
        let s2 = less g 14 14 rest (omega arith) s in
        nullish_is m ts d2 (fits_continues d2 (λ h w. w) (fits d1)) s (complete d1 (chain_stops d2 (fits d1) 11 (omega arith) s2) (omega arith) m (omega arith))
        (complete_continues d2 (λ h w. w) (fits d1) (omega arith) (omega arith) s2 (omega arith) m (omega arith) (length mid) (omega arith))
    complete (operands k ts mid rest one a f g d1 d2) s top m le =
        let o = tighter_operand k f (fits d1) in
        expressions.chain_is limit (reads limit m) (reads_statement limit m) k ts mid (piece one f) (Some (piece a g, rest))
        (complete d1 (chain_stops d2 o (reach (tighter k)) (omega (arith, reach_tighter k)) (less g (k + 4) ((k + 3) + 1) rest (omega arith) s)) (omega arith) m (omega arith))
        (complete_continues d2 (tighter_operand k) o (omega (arith, reach_tighter k)) (omega arith) (less g (k + 4) ((k + 3) + 1) rest (omega arith) s) (omega arith) m (omega arith) (length mid) (omega arith))
    complete (unraised ts rest a f (signed t us rest2 op b g h1 d1)) s top m le =
        expressions.signed_power limit (reads limit m) (reads_statement limit m) t us rest op b g h1
        (deeper prefixed us (Some (piece b g, rest)) (need d1) (complete d1 (less g 3 2 rest (omega arith) (edge_stops g 3 rest s)) top) m le)
    complete (unraised ts rest a f (unsigned us rest2 b g d1)) s top m le =
        expressions.unsigned_power limit (reads limit m) (reads_statement limit m) ts rest a f (unsigned_update d1 refl) (fits d1) s (complete d1 (less f 3 2 rest (omega arith) s) top m le)
    complete (raised ts mid rest t a b f g d1 h1 d2) s top m le =
        expressions.raised_is limit (reads limit m) (reads_statement limit m) ts mid rest t a b f g (unsigned_update d1 refl)
        (complete d1 (quiet f 2 t (operand_value f (fits d1)) (omega (arith, rank_star_star t h1))) (omega arith) m (omega arith)) h1
        (deeper power mid (Some (piece b g, rest)) (need d2) (complete d2 (edge_stops g 3 rest s) (omega arith)) m (omega arith))
    complete (signed t ts rest op a f h1 d1) s top m le =
        expressions.signed_is limit (reads limit m) (reads_statement limit m) t ts rest op a f h1 (deeper prefixed ts (Some (piece a f, rest)) (need d1) (complete d1 (edge_stops f 2 rest s) top) m le)
    complete (unsigned ts rest a f d1) s top m le = expressions.unsigned_is limit (reads limit m) (reads_statement limit m) ts (Some (piece a f, rest)) (unsigned_update d1 refl) (complete d1 s top m le)
    complete (counted_before t ts rest op a h1 d1) s top m le =
        expressions.counted_before_is limit (reads limit m) (reads_statement limit m) t ts rest op a h1 (complete d1 (less Target 2 1 rest (omega arith) (edge_stops Target 2 rest s)) top m le)
    complete (counted_behind ts rest t op a d1 h1 h2) s top m le =
        expressions.counted_behind_is limit (reads limit m) (reads_statement limit m) ts rest t op a (first_left d1 (inl refl)) (complete d1 (omega (arith, rank_update t op h1 h2)) top m le) h1 h2
    complete (uncounted ts rest a f d1) s top m le =
        expressions.uncounted_is limit (reads limit m) (reads_statement limit m) ts rest a f (first_left d1 (inl refl)) (fits d1) s (complete d1 (less f 2 1 rest (omega arith) s) top m le)
    complete (steps ts mid rest one a f g d1 d2) s top m le =
        expressions.left_is limit (reads limit m) (reads_statement limit m) ts mid rest (piece one f) (piece a g) (complete d1 (stops_none f mid (fits d1)) (omega arith) m (omega arith))
        (complete_steps d2 (fits d1) s (omega arith) m (omega arith) (length mid) (omega arith))
    complete (literal t ts a h1) s top m le = expressions.literal_is limit (reads limit m) (reads_statement limit m) t ts a h1
    complete (name t ts x h1) s top m le = expressions.name_is limit (reads limit m) (reads_statement limit m) t ts x h1
    complete (viewof_name t n ts x h1 h2) s top m le = expressions.viewof_is limit (reads limit m) (reads_statement limit m) t n ts x h1 h2
    complete (made t n p ts rest x args h1 h2 h3 d1) s top m le =
        expressions.made_is limit (reads limit m) (reads_statement limit m) t n p ts x args rest h1 h2 h3
        (lists.list_is limit (reads limit m) (reads_statement limit m) closes_parenthesis ts args rest (complete_list d1 closes_parenthesis lists.parenthesis_closes top m le (length ts) (omega arith)))
    complete (parentheses t c ts rest a f h1 d1 h2) s top m le =
        expressions.parentheses_is limit (reads limit m) (reads_statement limit m) t c ts rest a f h1
        (deeper whole ts (Some (piece a f, c ∷ rest)) (need d1) (complete d1 (marked d1 c (omega (arith, rank_close c h2))) top) m le) h2
    complete (array t ts rest items h1 d1) s top m le =
        expressions.array_is limit (reads limit m) (reads_statement limit m) t ts rest items h1
        (lists.list_is limit (reads limit m) (reads_statement limit m) closes_bracket ts items rest (complete_list d1 closes_bracket lists.bracket_closes top m le (length ts) (omega arith)))
    complete (object t ts rest props h1 d1) s top m le = expressions.object_is limit (reads limit m) (reads_statement limit m) t ts rest props h1 (complete_props d1 top m le (length ts) (omega arith))
    complete (function_expression ts rest g (function t us mid rest2 w items h1 h2 d1)) s top m le =
        expressions.function_expression_is limit (reads limit m) (reads_statement limit m) t us rest g h1
        (lists.function_is limit (reads limit m) (reads_statement limit m) us mid w items rest (signature_complete h2) (complete_block d1 top m le))

    complete_continues : {r : Rule} {n : ℕ} {a : Expr} {f : Form} {ts : List Token} {b : Expr} {g : Form} {rest : List Token} (d : Continues r n a f ts b g rest)
        → ((h : Form) → Fits r h → IsOperand h) → IsOperand f → reach r ≤ n → 2 ≤ n → Stops g (n + 1) rest → tall_continues d ≤ limit → (m : ℕ) → need_continues d ≤ m → (i : ℕ) → length ts ≤ i
        → operands_from limit (reads limit m) (reads_statement limit m) (reads limit m r) n i (piece a f) ts ≡ Some (piece b g, rest)
    complete_continues (no_more r n a f ts) o w k lo s top m le i len =
        expressions.operands_stop limit (reads limit m) (reads_statement limit m) (reads limit m r) n i (piece a f) ts (not_rank f (n + 1) n ts w s lo (omega arith))
    complete_continues (goes_on r n a b c f g h t ts mid rest op h1 h2 d1 d2) o w k lo s top m le zero len = absurd (omega arith)
    complete_continues (goes_on r n a b c f g h t ts mid rest op h1 h2 d1 d2) o w k lo s top m le (suc i) len =
        let v = o g (fits d1) in
        expressions.operands_more limit (reads limit m) (reads_statement limit m) (reads limit m r) n i a b f g t ts mid op (Some (piece c h, rest)) h1 h2
        (deeper r ts (Some (piece b g, mid)) (need d1) (complete d1 (next_stops g d2 v (reach r) k s) (omega arith)) m (omega arith)) (omega arith)
        (complete_continues d2 o (edge_operand g v) k lo s (omega arith) m (omega arith) i (omega (arith, shorter d1)))

    complete_steps : {a : Expr} {f : Form} {ts : List Token} {b : Expr} {g : Form} {rest : List Token} (d : Steps a f ts b g rest) → IsLeft f → Stops g 1 rest
        → tall_steps d ≤ limit → (m : ℕ) → need_steps d ≤ m → (i : ℕ) → length ts ≤ i → steps_from limit (reads limit m) (reads_statement limit m) i (piece a f) ts ≡ Some (piece b g, rest)
    complete_steps (no_step a f ts) l s top m le i len = expressions.steps_stop limit (reads limit m) (reads_statement limit m) i a f ts l s
    complete_steps (member a b f g t n x ts rest h1 h2 d1) l s top m le zero len = absurd (omega arith)
    complete_steps (member a b f g t n x ts rest h1 h2 d1) l s top m le (suc i) len =
        expressions.member_is limit (reads limit m) (reads_statement limit m) i a f t n x ts (Some (piece b g, rest)) h1 h2 (omega arith) (complete_steps d1 tt s (omega arith) m le i (omega arith))
    complete_steps (index a b k f g h t c ts mid rest h1 d1 h2 d2) l s top m le zero len = absurd (omega arith)
    complete_steps (index a b k f g h t c ts mid rest h1 d1 h2 d2) l s top m le (suc i) len =
        expressions.index_is limit (reads limit m) (reads_statement limit m) i a k f h t c ts mid (Some (piece b g, rest)) h1
        (deeper whole ts (Some (piece k h, c ∷ mid)) (need d1) (complete d1 (marked d1 c (omega (arith, rank_close_bracket c h2))) (omega arith)) m (omega arith)) h2 (omega arith)
        (complete_steps d2 tt s (omega arith) m (omega arith) i (omega (arith, shorter d1)))
    complete_steps (call a b f g t args ts mid rest h1 d1 d2) l s top m le zero len = absurd (omega arith)
    complete_steps (call a b f g t args ts mid rest h1 d1 d2) l s top m le (suc i) len =
        expressions.call_is limit (reads limit m) (reads_statement limit m) i a f t args ts mid (Some (piece b g, rest)) h1
        (lists.list_is limit (reads limit m) (reads_statement limit m) closes_parenthesis ts args mid (complete_list d1 closes_parenthesis lists.parenthesis_closes (omega arith) m (omega arith) (length ts) (omega arith))) (omega arith)
        (complete_steps d2 tt s (omega arith) m (omega arith) i (omega (arith, shorter_list d1)))

    complete_list : {close : Punctuator} {ts : List Token} {items : List Expr} {rest : List Token} (d : ReadsList close ts items rest) → (closes : TokenKind → Bool)
        → Closes close closes → tall_list d ≤ limit → (m : ℕ) → need_list d ≤ m → (i : ℕ) → length ts ≤ i → list_from limit (reads limit m) (reads_statement limit m) closes i ts ≡ Some (items, rest)
    complete_list (no_item close t ts h1) closes w top m le zero len = absurd (omega arith)
    complete_list (no_item close t ts h1) closes w top m le (suc i) len = lists.list_none limit (reads limit m) (reads_statement limit m) closes i t ts (w.on t.kind h1)
    complete_list (last_item close c ts rest a f d1 h1) closes w top m le zero len = absurd (omega (arith, shorter d1))
    complete_list (last_item close c ts rest a f d1 h1) closes w top m le (suc i) len =
        lists.list_last limit (reads limit m) (reads_statement limit m) closes i ts a f c rest (starts_off w d1)
        (deeper whole ts (Some (piece a f, c ∷ rest)) (need d1) (complete d1 (marked d1 c (omega (arith, w.ranked c h1))) top) m le) (w.on c.kind h1)
    complete_list (more_list close c ts mid rest a f items d1 h1 d2) closes w top m le zero len = absurd (omega (arith, shorter d1))
    complete_list (more_list close c ts mid rest a f items d1 h1 d2) closes w top m le (suc i) len =
        lists.list_more limit (reads limit m) (reads_statement limit m) closes i ts a f c mid items rest (starts_off w d1)
        (deeper whole ts (Some (piece a f, c ∷ mid)) (need d1) (complete d1 (marked d1 c (omega (arith, rank_comma c h1))) (omega arith)) m (omega arith)) (w.comma c.kind h1) h1
        (complete_list d2 closes w (omega arith) m (omega arith) i (omega (arith, shorter d1)))

    complete_props : {ts : List Token} {props : List PropNode} {rest : List Token} (d : ReadsProps ts props rest) → tall_props d ≤ limit → (m : ℕ) → need_props d ≤ m → (i : ℕ) → length ts ≤ i
        → props_from limit (reads limit m) (reads_statement limit m) i ts ≡ Some (props, rest)
    complete_props (no_prop t ts h1) top m le zero len = absurd (omega arith)
    complete_props (no_prop t ts h1) top m le (suc i) len = lists.props_none limit (reads limit m) (reads_statement limit m) i t ts h1
    complete_props (last_prop c ts rest p d1 h1) top m le zero len = absurd (omega (arith, shorter_prop d1))
    complete_props (last_prop c ts rest p d1 h1) top m le (suc i) len =
        lists.props_last limit (reads limit m) (reads_statement limit m) i ts p c rest (prop_no_close d1) (complete_prop d1 (brace c rest h1) top m le) h1
    complete_props (more_props c ts mid rest p ps d1 h1 d2) top m le zero len = absurd (omega (arith, shorter_prop d1))
    complete_props (more_props c ts mid rest p ps d1 h1 d2) top m le (suc i) len =
        lists.props_more limit (reads limit m) (reads_statement limit m) i ts p c mid ps rest (prop_no_close d1) (complete_prop d1 (comma c mid h1) (omega arith) m (omega arith)) h1
        (complete_props d2 (omega arith) m (omega arith) i (omega (arith, shorter_prop d1)))

    complete_prop : {ts : List Token} {p : PropNode} {rest : List Token} (d : ReadsProp ts p rest) → After rest → tall_prop d ≤ limit → (m : ℕ) → need_prop d ≤ m
        → prop_of limit (reads limit m) (reads_statement limit m) ts ≡ Some (p, rest)
    complete_prop (short_prop t ts x h1) s top m le = lists.prop_short limit (reads limit m) (reads_statement limit m) t ts x h1 (after_no_colon s)
    complete_prop (fixed_prop t c ts rest key a f h1 h2 d1) s top m le =
        lists.prop_fixed limit (reads limit m) (reads_statement limit m) t c ts key a f rest h1 h2 (deeper whole ts (Some (piece a f, rest)) (need d1) (complete d1 (after_stops f (fits d1) s) top) m le)
    complete_prop (computed_prop t e c ts mid rest k a f g h1 d1 h2 h3 d2) s top m le =
        lists.prop_computed limit (reads limit m) (reads_statement limit m) t e c ts mid k a f g rest h1
        (deeper whole ts (Some (piece k f, e ∷ c ∷ mid)) (need d1) (complete d1 (marked d1 e (omega (arith, rank_close_bracket e h2))) (omega arith)) m (omega arith)) h2 h3
        (deeper whole mid (Some (piece a g, rest)) (need d2) (complete d2 (after_stops g (fits d2) s) (omega arith)) m (omega arith))

    complete_body : {ts : List Token} {b : FnBody} {f : Form} {rest : List Token} (d : ReadsArrowBody ts b f rest) → Stops f 17 rest → tall_arrow_body d ≤ limit → (m : ℕ) → need_arrow_body d ≤ m
        → arrow_body limit (reads limit m) (reads_statement limit m) ts ≡ Some (record { tree = b; form = f }, rest)
    complete_body (block_body ts rest items d1) s top m le = expressions.block_body_is limit (reads limit m) (reads_statement limit m) d1 (complete_block d1 top m le)
    complete_body (value_body ts rest a f h1 d1) s top m le =
        expressions.value_body_is limit (reads limit m) (reads_statement limit m) ts rest a f h1 (deeper whole ts (Some (piece a f, rest)) (need d1) (complete d1 (edge_stops f 17 rest s) top) m le)

    pub complete_block : {ts : List Token} {items : List Stmt} {rest : List Token} (d : ReadsBlock ts items rest) → tall_block d ≤ limit → (m : ℕ) → need_block d ≤ m
        → block_of limit (reads limit m) (reads_statement limit m) ts ≡ Some (items, rest)
    complete_block (block t ts rest items h1 d1) top m le = lists.block_is limit (reads limit m) (reads_statement limit m) t ts items rest h1 (complete_items d1 top m le (length ts) (omega arith))

    complete_items : {ts : List Token} {items : List Stmt} {rest : List Token} (d : ReadsItems ts items rest) → tall_items d ≤ limit → (m : ℕ) → need_items d ≤ m → (i : ℕ) → length ts ≤ i
        → items_from limit (reads limit m) (reads_statement limit m) i ts ≡ Some (items, rest)
    complete_items (no_items t ts h1) top m le zero len = absurd (omega arith)
    complete_items (no_items t ts h1) top m le (suc i) len = lists.items_none limit (reads limit m) (reads_statement limit m) i t ts h1
    complete_items (more_items ts mid rest s items d1 d2) top m le zero len = absurd (omega (arith, shorter_item d1))
    complete_items (more_items ts mid rest s items d1 d2) top m le (suc i) len =
        lists.items_more limit (reads limit m) (reads_statement limit m) i ts s mid items rest (item_no_close d1)
        (deeper_item ts (Some (s, mid)) (need_item d1) (complete_item d1 (omega arith)) m (omega arith))
        (complete_items d2 (omega arith) m (omega arith) i (omega (arith, shorter_item d1)))

    pub complete_item : {ts : List Token} {s : Stmt} {rest : List Token} (d : ReadsItem ts s rest) → tall_item d ≤ limit → (m : ℕ) → need_item d ≤ m
        → item_of limit (reads limit m) (reads_statement limit m) ts ≡ Some (s, rest)
    complete_item (statement ts rest s d1) top m le = statements.statement_is limit (reads limit m) (reads_statement limit m) d1 (complete_stmt d1 top m le)
    complete_item (let_item t ts mid rest ds f h1 d1 h2) top m le =
        statements.let_is limit (reads limit m) (reads_statement limit m) t ts mid rest ds f h1
        (statements.decls_are limit (reads limit m) (reads_statement limit m) ts mid (of_decls ds f) (complete_decls d1 (end_stops h2) top m le (length ts) (omega arith))) (end_is h2)
    complete_item (const_item t ts mid rest ds f h1 d1 h2) top m le =
        statements.const_is limit (reads limit m) (reads_statement limit m) t ts mid rest ds f h1
        (statements.decls_are limit (reads limit m) (reads_statement limit m) ts mid (of_decls ds f) (complete_decls d1 (end_stops h2) top m le (length ts) (omega arith))) (end_is h2)
    complete_item (function_item ts rest g x (function t us mid rest2 w items h1 h2 d1) h3) top m le =
        statements.function_item_is limit (reads limit m) (reads_statement limit m) t us rest g x h1
        (lists.function_is limit (reads limit m) (reads_statement limit m) us mid w items rest (signature_complete h2) (complete_block d1 top m le)) h3

    pub complete_decls : {ts : List Token} {ds : List Decl} {f : Form} {rest : List Token} (d : ReadsDecls ts ds f rest) → Stops f 18 rest → tall_decls d ≤ limit → (m : ℕ) → need_decls d ≤ m
        → (i : ℕ) → length ts ≤ i → decls_from limit (reads limit m) (reads_statement limit m) i ts ≡ Some (of_decls ds f, rest)
    complete_decls (last_decl ts rest d f d1) s top m le zero len = absurd (omega (arith, shorter_decl d1))
    complete_decls (last_decl ts rest d f d1) s top m le (suc i) len =
        statements.decls_last limit (reads limit m) (reads_statement limit m) i ts rest d f (complete_decl d1 (less f 18 17 rest (omega arith) s) top m le) s
    complete_decls (more_decls c ts mid rest d ds f g d1 h1 d2) s top m le zero len = absurd (omega (arith, shorter_decl d1))
    complete_decls (more_decls c ts mid rest d ds f g d1 h1 d2) s top m le (suc i) len =
        statements.decls_more limit (reads limit m) (reads_statement limit m) i c ts mid rest d ds f g
        (complete_decl d1 (quiet_end f 17 c (omega (arith, rank_comma c h1)) (ends_comma c h1)) (omega arith) m (omega arith)) h1
        (complete_decls d2 s (omega arith) m (omega arith) i (omega (arith, shorter_decl d1)))

    complete_decl : {ts : List Token} {d : Decl} {f : Form} {rest : List Token} (e : ReadsDecl ts d f rest) → Stops f 17 rest → tall_decl e ≤ limit → (m : ℕ) → need_decl e ≤ m
        → decl_of limit (reads limit m) (reads_statement limit m) ts ≡ Some (record { decl = d; form = f }, rest)
    complete_decl (decl_name t ts x h1) s top m le = statements.decl_name_is limit (reads limit m) (reads_statement limit m) t ts x h1 s
    complete_decl (decl_value t q ts rest x a f h1 h2 d1) s top m le =
        statements.decl_value_is limit (reads limit m) (reads_statement limit m) t q ts rest x a f h1 h2 (first d1) (deeper whole ts (Some (piece a f, rest)) (need d1) (complete d1 s top) m le)
    complete_decl (decl_yield t q ts rest x a f h1 h2 d1) s top m le =
        statements.decl_yield_is limit (reads limit m) (reads_statement limit m) t q ts rest x a f h1 h2 (complete_yield d1 s top m le)

    complete_yield : {ts : List Token} {a : Option Expr} {f : Form} {rest : List Token} (d : ReadsYield ts a f rest) → Stops f 17 rest → tall_yield d ≤ limit → (m : ℕ) → need_yield d ≤ m
        → Yields limit (reads limit m) (reads_statement limit m) ts a f rest
    complete_yield (yield_alone t ts h1) s top m le = statements.yields_none limit (reads limit m) (reads_statement limit m) 17 t ts h1 s
    complete_yield (yield_value t ts rest a f h1 h2 d1) s top m le =
        statements.yields_some limit (reads limit m) (reads_statement limit m) t ts rest a f h1 h2 (first d1) (deeper whole ts (Some (piece a f, rest)) (need d1) (complete d1 s top) m le)

    pub complete_stmt : {ts : List Token} {s : Stmt} {rest : List Token} (d : ReadsStmt ts s rest) → tall_stmt d ≤ limit → (m : ℕ) → need_stmt d ≤ m
        → statement_of limit (reads limit m) (reads_statement limit m) ts ≡ Some (s, rest)
    complete_stmt (block_statement ts rest items d1) top m le = statements.block_statement_is limit (reads limit m) (reads_statement limit m) d1 (complete_block d1 top m le)
    complete_stmt (empty t ts h1) top m le = statements.empty_is limit (reads limit m) (reads_statement limit m) t ts h1
    complete_stmt (expression ts mid rest a f h1 h2 d1 h3) top m le =
        statements.expression_is limit (reads limit m) (reads_statement limit m) ts mid rest a f h1 h2 d1 h3
        (deeper whole ts (Some (piece a f, mid)) (need d1) (complete d1 (less f 18 17 mid (omega arith) (end_stops h3)) top) m le)
    complete_stmt (yielded ts mid rest a f d1 h1) top m le =
        statements.yielded_is limit (reads limit m) (reads_statement limit m) ts mid rest a f (complete_yield d1 (less f 18 17 mid (omega arith) (end_stops h1)) top m le) (end_is h1)
    complete_stmt (yield_assigned t q ts mid rest x a f h1 h2 d1 h3) top m le =
        statements.yield_assigned_is limit (reads limit m) (reads_statement limit m) t q ts mid rest x a f h1 h2 (complete_yield d1 (less f 18 17 mid (omega arith) (end_stops h3)) top m le) (end_is h3)
    complete_stmt (changed t n q ts mid rest x op a f h1 h2 h3 d1 h4) top m le =
        statements.changed_is limit (reads limit m) (reads_statement limit m) t n q ts mid rest x op a f h1 h2 h3
        (deeper whole ts (Some (piece a f, mid)) (need d1) (complete d1 (less f 18 17 mid (omega arith) (end_stops h4)) top) m le) (end_is h4)
    complete_stmt (stepped t n q ts rest x op h1 h2 h3 h4 h5) top m le = statements.stepped_is limit (reads limit m) (reads_statement limit m) t n q ts rest x op h1 h2 h3 h4 (end_is h5)
    complete_stmt (if_alone t ts mid rest a s h1 d1 d2 h2) top m le =
        statements.if_alone_is limit (reads limit m) (reads_statement limit m) t ts mid rest a s h1 (complete_test d1 (omega arith) m (omega arith))
        (deeper_statement mid (Some (s, rest)) (need_stmt d2) (complete_stmt d2 (omega arith)) m (omega arith)) h2
    complete_stmt (if_else t e ts mid next rest a s u h1 d1 d2 h2 d3) top m le =
        statements.if_else_is limit (reads limit m) (reads_statement limit m) t e ts mid next rest a s u h1 (complete_test d1 (omega arith) m (omega arith))
        (deeper_statement mid (Some (s, e ∷ next)) (need_stmt d2) (complete_stmt d2 (omega arith)) m (omega arith)) h2
        (deeper_statement next (Some (u, rest)) (need_stmt d3) (complete_stmt d3 (omega arith)) m (omega arith))
    complete_stmt (while_loop t ts mid rest a s h1 d1 d2) top m le =
        statements.while_is limit (reads limit m) (reads_statement limit m) t ts mid rest a s h1 (complete_test d1 (omega arith) m (omega arith))
        (deeper_statement mid (Some (s, rest)) (need_stmt d2) (complete_stmt d2 (omega arith)) m (omega arith))
    complete_stmt (do_loop t w ts mid rest s a h1 d1 h2 d2 h3) top m le =
        statements.do_is limit (reads limit m) (reads_statement limit m) t w ts mid rest s a h1
        (deeper_statement ts (Some (s, w ∷ mid)) (need_stmt d1) (complete_stmt d1 (omega arith)) m (omega arith)) h2 (complete_test d2 (omega arith) m (omega arith)) h3
    complete_stmt (do_loop_ended t w e ts mid rest s a h1 d1 h2 d2 h3) top m le =
        statements.do_ended_is limit (reads limit m) (reads_statement limit m) t w e ts mid rest s a h1
        (deeper_statement ts (Some (s, w ∷ mid)) (need_stmt d1) (complete_stmt d1 (omega arith)) m (omega arith)) h2 (complete_test d2 (omega arith) m (omega arith)) h3
    complete_stmt (for_loop t p ts tested counted turn rest h a b s h1 h2 d1 d2 d3 d4) top m le =
        statements.for_is limit (reads limit m) (reads_statement limit m) t p ts tested counted turn rest h a b s h1 h2 (statements.head_no_of limit (reads limit m) (reads_statement limit m) d1)
        (complete_head d1 (omega arith) m (omega arith)) (complete_optional d2 is_semicolon lists.semicolon_closes (omega arith) m (omega arith))
        (complete_optional d3 closes_parenthesis lists.parenthesis_closes (omega arith) m (omega arith))
        (deeper_statement turn (Some (s, rest)) (need_stmt d4) (complete_stmt d4 (omega arith)) m (omega arith))
    complete_stmt (for_of t p d n o c ts mid rest constant x a f s h1 h2 h3 h4 h5 d1 h6 d2) top m le =
        statements.for_of_is limit (reads limit m) (reads_statement limit m) t p d n o c ts mid rest constant x a f s h1 h2 h3 h4 h5
        (deeper whole ts (Some (piece a f, c ∷ mid)) (need d1) (complete d1 (marked d1 c (omega (arith, rank_close c h6))) (omega arith)) m (omega arith)) h6
        (deeper_statement mid (Some (s, rest)) (need_stmt d2) (complete_stmt d2 (omega arith)) m (omega arith))
    complete_stmt (break t ts rest h1 h2) top m le = statements.break_is limit (reads limit m) (reads_statement limit m) t ts rest h1 (end_is h2)
    complete_stmt (continue t ts rest h1 h2) top m le = statements.continue_is limit (reads limit m) (reads_statement limit m) t ts rest h1 (end_is h2)
    complete_stmt (return_alone t ts rest h1 h2) top m le = statements.return_alone_is limit (reads limit m) (reads_statement limit m) t ts rest h1 h2
    complete_stmt (return_value t ts mid rest a f h1 h2 d1 h3) top m le =
        statements.return_value_is limit (reads limit m) (reads_statement limit m) t ts mid rest a f h1 h2 (first d1)
        (deeper whole ts (Some (piece a f, mid)) (need d1) (complete d1 (less f 18 17 mid (omega arith) (end_stops h3)) top) m le) (end_is h3)
    complete_stmt (throw t ts mid rest a f h1 h2 d1 h3) top m le =
        statements.throw_is limit (reads limit m) (reads_statement limit m) t ts mid rest a f h1 h2
        (deeper whole ts (Some (piece a f, mid)) (need d1) (complete d1 (less f 18 17 mid (omega arith) (end_stops h3)) top) m le) (end_is h3)
    complete_stmt (try_catch t c ts mid rest items p h1 d1 h2 d2) top m le =
        statements.try_is limit (reads limit m) (reads_statement limit m) t c ts mid rest items p h1 (complete_block d1 (omega arith) m (omega arith)) h2 (complete_catch d2 (omega arith) m (omega arith))

    complete_test : {ts : List Token} {a : Expr} {rest : List Token} (d : ReadsTest ts a rest) → tall_test d ≤ limit → (m : ℕ) → need_test d ≤ m → test_of limit (reads limit m) (reads_statement limit m) ts ≡ Some (a, rest)
    complete_test (test t c ts rest a f h1 d1 h2) top m le =
        statements.test_is limit (reads limit m) (reads_statement limit m) t c ts rest a f h1
        (deeper whole ts (Some (piece a f, c ∷ rest)) (need d1) (complete d1 (marked d1 c (omega (arith, rank_close c h2))) top) m le) h2

    complete_head : {ts : List Token} {h : ForHead} {rest : List Token} (d : ReadsHead ts h rest) → tall_head d ≤ limit → (m : ℕ) → need_head d ≤ m → head_of limit (reads limit m) (reads_statement limit m) ts ≡ Some (h, rest)
    complete_head (no_head t ts h1) top m le = statements.no_head_is limit (reads limit m) (reads_statement limit m) t ts h1
    complete_head (let_head t e ts rest ds f h1 d1 h2) top m le =
        statements.let_head_is limit (reads limit m) (reads_statement limit m) t e ts rest ds f h1
        (statements.decls_are limit (reads limit m) (reads_statement limit m) ts (e ∷ rest) (of_decls ds f)
        (complete_decls d1 (quiet_end f 18 e (omega (arith, rank_semicolon e h2)) (ends_semicolon e h2)) top m le (length ts) (omega arith))) h2
    complete_head (const_head t e ts rest ds f h1 d1 h2) top m le =
        statements.const_head_is limit (reads limit m) (reads_statement limit m) t e ts rest ds f h1
        (statements.decls_are limit (reads limit m) (reads_statement limit m) ts (e ∷ rest) (of_decls ds f)
        (complete_decls d1 (quiet_end f 18 e (omega (arith, rank_semicolon e h2)) (ends_semicolon e h2)) top m le (length ts) (omega arith))) h2
    complete_head (expr_head e ts rest a f d1 h1) top m le =
        statements.expr_head_is limit (reads limit m) (reads_statement limit m) e ts rest a f (first d1)
        (deeper whole ts (Some (piece a f, e ∷ rest)) (need d1) (complete d1 (marked d1 e (omega (arith, rank_semicolon e h1))) top) m le) h1

    complete_optional : {close : Punctuator} {ts : List Token} {a : Option Expr} {rest : List Token} (d : ReadsOptional close ts a rest) → (closes : TokenKind → Bool)
        → Closes close closes → tall_optional d ≤ limit → (m : ℕ) → need_optional d ≤ m → optional limit (reads limit m) (reads_statement limit m) closes ts ≡ Some (a, rest)
    complete_optional (absent close t ts h1) closes w top m le = statements.optional_absent limit (reads limit m) (reads_statement limit m) closes t ts (w.on t.kind h1)
    complete_optional (present close c ts rest a f d1 h1) closes w top m le =
        statements.optional_present limit (reads limit m) (reads_statement limit m) closes c ts rest a f (starts_off w d1)
        (deeper whole ts (Some (piece a f, c ∷ rest)) (need d1) (complete d1 (marked d1 c (omega (arith, w.ranked c h1))) top) m le) (w.on c.kind h1)

    complete_catch : {ts : List Token} {p : CatchPart} {rest : List Token} (d : ReadsCatch ts p rest) → tall_catch d ≤ limit → (m : ℕ) → need_catch d ≤ m
        → catch_of limit (reads limit m) (reads_statement limit m) ts ≡ Some (p, rest)
    complete_catch (catch_all ts rest items d1) top m le = statements.catch_all_is limit (reads limit m) (reads_statement limit m) d1 (complete_block d1 top m le)
    complete_catch (catch_name t n c ts rest x items h1 h2 h3 d1) top m le =
        statements.catch_name_is limit (reads limit m) (reads_statement limit m) t n c ts rest x items h1 h2 h3 (complete_block d1 top m le)

-- ---- the theorems

pub expressions_are_complete : ExpressionsAreComplete
expressions_are_complete r ts a f rest d s limit top m le = complete limit d s top m le

pub items_are_complete : ItemsAreComplete
items_are_complete ts s rest d limit top m le = complete_item limit d top m le

pub statements_are_complete : StatementsAreComplete
statements_are_complete ts s rest d limit top m le = complete_stmt limit d top m le

pub declarations_are_complete : DeclarationsAreComplete
declarations_are_complete ts ds f rest d s limit top m le =
    statements.decls_are limit (reads limit m) (reads_statement limit m) ts rest (of_decls ds f) (complete_decls limit d s top m le (length ts) (omega arith))
