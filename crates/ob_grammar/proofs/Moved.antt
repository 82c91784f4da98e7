-- A derivation looks at no more than the first token of what follows it.
use Rattle.std.proofs.Common.{◌≡◌, ℕ, Bool, List, [], ◌∷◌, ◌++◌, Option, refl, ap, sym, subst, ◌∙◌}
use Rattle.std.proofs.lemmas.List.{append_cancel_right}
use Rattle.ob_lex.specs.declared.punctuator.Punctuator.{Punctuator}
use Rattle.ob_lex.specs.declared.punctuator.Punctuator.TheVariants as mark
use Rattle.ob_base.specs.declared.reserved.ReservedWord.{ReservedWord}
use Rattle.ob_base.specs.declared.reserved.ReservedWord.TheVariants as word
use Rattle.ob_lex.specs.declared.token.Token.{Token}
use Rattle.ob_tree_types.specs.declared.tree.Expr.{Expr}
use Rattle.ob_tree_types.specs.declared.tree.PropNode.{PropNode}
use Rattle.ob_tree_types.specs.declared.tree.Function.{Function}
use Rattle.ob_tree_types.specs.declared.tree.FnBody.{FnBody}
use Rattle.ob_tree_types.specs.declared.tree.Decl.{Decl}
use Rattle.ob_tree_types.specs.declared.tree.Stmt.{Stmt}
use Rattle.ob_tree_types.specs.declared.tree.ForHead.{ForHead}
use Rattle.ob_tree_types.specs.declared.tree.CatchPart.{CatchPart}
use Rattle.ob_grammar.specs.declared.form.Form.{Form}
use Rattle.ob_grammar.specs.declared.piece.Signature.{Signature}
use Rattle.ob_grammar.specs.Marks.{NotMark, NotWord, StartsOnLine}
use Rattle.ob_grammar.specs.Forms.{Stops, Ends, written, before_brace, at_end, at_line}
use Rattle.ob_grammar.specs.Lists.{ReadsNames, no_names, last_name, more_names, ReadsParams, params, ReadsArrowHead, one_param, all_params, ReadsStar, star, no_star, ReadsOwnName, own_name, no_name, ReadsSignature, signature}
use Rattle.ob_grammar.specs.Grammar.{Rule, Reads, Continues, Steps, ReadsList, ReadsProps, ReadsProp, ReadsArrowBody, ReadsFunction, ReadsBlock, ReadsItems, ReadsItem, ReadsDecls, ReadsDecl, ReadsYield, ReadsStmt, ReadsTest, ReadsHead, ReadsOptional, ReadsCatch}
use Rattle.ob_grammar.specs.Grammar.{arrow, assigned, unassigned, chosen, unchosen, disjoined, coalesced, operands, unraised, raised, signed, unsigned, counted_before, counted_behind, uncounted, steps, literal, name, viewof_name, made, parentheses, array, object, function_expression, no_more, goes_on, no_step, member, index, call, no_item, last_item, more_list, no_prop, last_prop, more_props, short_prop, fixed_prop, computed_prop, block_body, value_body, function, block, no_items, more_items, statement, let_item, const_item, function_item, last_decl, more_decls, decl_name, decl_value, decl_yield, yield_alone, yield_value, block_statement, empty, expression, yielded, yield_assigned, changed, stepped, if_alone, if_else, while_loop, do_loop, do_loop_ended, for_loop, for_of, break, continue, return_alone, return_value, throw, try_catch, test, no_head, let_head, const_head, expr_head, absent, present, catch_all, catch_name}
use Rattle.ob_grammar.proofs.Slots.{Alike, here, behind, after, still, Moves}
use Rattle.ob_grammar.proofs.Statements.{ItemsMove}

-- ---- what is asked of a first token

pub not_mark : (m : Punctuator) (ts us : List Token) → Alike ts us → NotMark m ts → NotMark m us
not_mark m [] [] alike h = h
not_mark m [] (u ∷ us) alike h = cc
not_mark m (t ∷ ts) [] alike h = cc
not_mark m (t ∷ ts) (u ∷ us) alike h = let e : t ≡ u = cc in subst (λ v. NotMark m (v ∷ us)) e h

not_word : (w : ReservedWord) (ts us : List Token) → Alike ts us → NotWord w ts → NotWord w us
not_word w [] [] alike h = h
not_word w [] (u ∷ us) alike h = cc
not_word w (t ∷ ts) [] alike h = cc
not_word w (t ∷ ts) (u ∷ us) alike h = let e : t ≡ u = cc in subst (λ v. NotWord w (v ∷ us)) e h

on_line : (ts us : List Token) → Alike ts us → StartsOnLine ts → StartsOnLine us
on_line [] [] alike h = h
on_line [] (u ∷ us) alike h = cc
on_line (t ∷ ts) [] alike h = cc
on_line (t ∷ ts) (u ∷ us) alike h = let e : t ≡ u = cc in subst (λ v. StartsOnLine (v ∷ us)) e h

-- ---- the head of a function, and the end of a statement

moved_names : {ts : List Token} {xs : List (List ℕ)} {rest : List Token} → ReadsNames ts xs rest → Moves (λ us os. ReadsNames us xs os) ts rest
moved_names (no_names t ts h) = record { slot = behind t here; same = refl; again = λ others alike. no_names t others h }
moved_names (last_name t c ts x h1 h2) = record { slot = behind t (behind c here); same = refl; again = λ others alike. last_name t c others x h1 h2 }
moved_names (more_names t c ts rest x xs h1 h2 d) =
    let m = moved_names d in
    record {
      slot = behind t (behind c m.slot);
      same = ap (λ z. t ∷ c ∷ z) m.same;
      again = λ others alike. more_names t c (m.slot.put others) others x xs h1 h2 (m.again others alike);
    }

moved_params : {ts : List Token} {xs : List (List ℕ)} {rest : List Token} → ReadsParams ts xs rest → Moves (λ us os. ReadsParams us xs os) ts rest
moved_params (params t ts rest xs h d) =
    let m = moved_names d in
    record {
      slot = behind t m.slot;
      same = ap (λ z. t ∷ z) m.same;
      again = λ others alike. params t (m.slot.put others) others xs h (m.again others alike);
    }

pub moved_arrow_head : {ts : List Token} {xs : List (List ℕ)} {rest : List Token} → ReadsArrowHead ts xs rest
    → Moves (λ us os. ReadsArrowHead us xs os) ts rest
moved_arrow_head (one_param t ts x h) = record { slot = behind t here; same = refl; again = λ others alike. one_param t others x h }
moved_arrow_head (all_params ts rest xs d) =
    let m = moved_params d in record { slot = m.slot; same = m.same; again = λ others alike. all_params (m.slot.put others) others xs (m.again others alike) }

moved_star : {ts : List Token} {g : Bool} {rest : List Token} → ReadsStar ts g rest → Moves (λ us os. ReadsStar us g os) ts rest
moved_star (star t ts h) = record { slot = behind t here; same = refl; again = λ others alike. star t others h }
moved_star (no_star ts) = record { slot = here; same = refl; again = λ others alike. no_star others }

moved_own_name : {ts : List Token} {x : Option (List ℕ)} {rest : List Token} → ReadsOwnName ts x rest → Moves (λ us os. ReadsOwnName us x os) ts rest
moved_own_name (own_name t ts x h) = record { slot = behind t here; same = refl; again = λ others alike. own_name t others x h }
moved_own_name (no_name ts) = record { slot = here; same = refl; again = λ others alike. no_name others }

moved_signature : {ts : List Token} {s : Signature} {rest : List Token} → ReadsSignature ts s rest → Moves (λ us os. ReadsSignature us s os) ts rest
moved_signature (signature ts named list rest g x xs a b c) =
    let i = moved_star a in
    let j = moved_own_name b in
    let k = moved_params c in
    let q = j.same ∙ ap (λ z. j.slot.put z) k.same in
    record {
      slot = after i.slot (after j.slot k.slot);
      same = i.same ∙ ap (λ z. i.slot.put z) q;
      again = λ others alike. signature (i.slot.put (j.slot.put (k.slot.put others))) (j.slot.put (k.slot.put others)) (k.slot.put others) others g x xs
          (i.again (j.slot.put (k.slot.put others)) (still (after j.slot k.slot) others q alike)) (j.again (k.slot.put others) (still k.slot others k.same alike)) (k.again others alike);
    }

brace_again : {f : Form} (t : Token) (ts others : List Token) → Ends f (t ∷ ts) (t ∷ ts) → Alike (t ∷ ts) others
    → ((us : List Token) → Ends f (t ∷ us) (t ∷ us)) → Ends f others others
brace_again t ts [] d alike make = cc
brace_again {f} t ts (u ∷ us) d alike make = let e : t ≡ u = cc in subst (λ v. Ends f (v ∷ us) (v ∷ us)) e (make us)

end_again : {f : Form} (others : List Token) → Alike [] others → Ends f others others
end_again [] alike = at_end
end_again (t ∷ ts) alike = cc

stops_again : (f : Form) (t : Token) (ts us : List Token) → Stops f 19 (t ∷ ts) → Stops f 19 (t ∷ us)
stops_again f t ts us s = s

moved_end : {f : Form} {ts rest : List Token} → Ends f ts rest → Moves (λ us os. Ends f us os) ts rest
moved_end (written t ts h) = record { slot = behind t here; same = refl; again = λ others alike. written t others h }
moved_end {f} (before_brace t ts h) =
    record { slot = here; same = refl; again = λ others alike. brace_again t ts others (before_brace t ts h) alike (λ us. before_brace t us h) }
moved_end at_end = record { slot = here; same = refl; again = λ others alike. end_again others alike }
moved_end {f} (at_line t ts hb s) =
    record {
      slot = here;
      same = refl;
      again = λ others alike. brace_again t ts others (at_line t ts hb s) alike (λ us. at_line t us hb (stops_again f t ts us s));
    }

-- ---- constructor by constructor

mutual
  pub moved : {r : Rule} {ts : List Token} {a : Expr} {f : Form} {rest : List Token} → Reads r ts a f rest
      → Moves (λ us os. Reads r us a f os) ts rest
  moved (arrow ts mid rest t xs b f h1 h2 h3 d1) =
      let m1 = moved_arrow_head h1 in
      let m2 = moved_arrow_body d1 in
      record {
        slot = after m1.slot (behind t m2.slot);
        same = m1.same ∙ ap (λ z. m1.slot.put (t ∷ z)) m2.same;
        again = λ others alike. arrow (m1.slot.put (t ∷ m2.slot.put others)) (m2.slot.put others) others t xs b f
            (m1.again (t ∷ m2.slot.put others) refl) h2 h3 (m2.again others alike);
      }
  moved (assigned ts mid rest t op a b f d1 h1 d2) =
      let m1 = moved d1 in
      let m2 = moved d2 in
      record {
        slot = after m1.slot (behind t m2.slot);
        same = m1.same ∙ ap (λ z. m1.slot.put (t ∷ z)) m2.same;
        again = λ others alike. assigned (m1.slot.put (t ∷ m2.slot.put others)) (m2.slot.put others) others t op a b f
            (m1.again (t ∷ m2.slot.put others) refl) h1 (m2.again others alike);
      }
  moved (unassigned ts rest a f d1) =
      let m1 = moved d1 in
      record { slot = m1.slot; same = m1.same; again = λ others alike. unassigned (m1.slot.put others) others a f (m1.again others alike) }
  moved (chosen ts first second rest q c a b d f g h d1 h1 d2 h2 d3) =
      let m1 = moved d1 in
      let m2 = moved d2 in
      let m3 = moved d3 in
      record {
        slot = after m1.slot (behind q (after m2.slot (behind c m3.slot)));
        same = m1.same ∙ ap (λ z. m1.slot.put (q ∷ z)) (m2.same ∙ ap (λ z. m2.slot.put (c ∷ z)) m3.same);
        again = λ others alike. chosen (m1.slot.put (q ∷ m2.slot.put (c ∷ m3.slot.put others))) (m2.slot.put (c ∷ m3.slot.put others))
            (m3.slot.put others) others q c a b d f g h (m1.again (q ∷ m2.slot.put (c ∷ m3.slot.put others)) refl) h1
            (m2.again (c ∷ m3.slot.put others) refl) h2 (m3.again others alike);
      }
  moved (unchosen ts rest a f d1) =
      let m1 = moved d1 in
      record { slot = m1.slot; same = m1.same; again = λ others alike. unchosen (m1.slot.put others) others a f (m1.again others alike) }
  moved (disjoined ts rest a f d1) =
      let m1 = moved d1 in
      record { slot = m1.slot; same = m1.same; again = λ others alike. disjoined (m1.slot.put others) others a f (m1.again others alike) }
  moved (coalesced ts mid rest first a f g d1 d2) =
      let m1 = moved d1 in
      let m2 = moved_continues d2 in
      record {
        slot = after m1.slot m2.slot;
        same = m1.same ∙ ap (λ z. m1.slot.put z) m2.same;
        again = λ others alike. coalesced (m1.slot.put (m2.slot.put others)) (m2.slot.put others) others first a f g
            (m1.again (m2.slot.put others) (still m2.slot others m2.same alike)) (m2.again others alike);
      }
  moved (operands k ts mid rest first a f g d1 d2) =
      let m1 = moved d1 in
      let m2 = moved_continues d2 in
      record {
        slot = after m1.slot m2.slot;
        same = m1.same ∙ ap (λ z. m1.slot.put z) m2.same;
        again = λ others alike. operands k (m1.slot.put (m2.slot.put others)) (m2.slot.put others) others first a f g
            (m1.again (m2.slot.put others) (still m2.slot others m2.same alike)) (m2.again others alike);
      }
  moved (unraised ts rest a f d1) =
      let m1 = moved d1 in
      record { slot = m1.slot; same = m1.same; again = λ others alike. unraised (m1.slot.put others) others a f (m1.again others alike) }
  moved (raised ts mid rest t a b f g d1 h1 d2) =
      let m1 = moved d1 in
      let m2 = moved d2 in
      record {
        slot = after m1.slot (behind t m2.slot);
        same = m1.same ∙ ap (λ z. m1.slot.put (t ∷ z)) m2.same;
        again = λ others alike. raised (m1.slot.put (t ∷ m2.slot.put others)) (m2.slot.put others) others t a b f g
            (m1.again (t ∷ m2.slot.put others) refl) h1 (m2.again others alike);
      }
  moved (signed t ts rest op a f h1 d1) =
      let m1 = moved d1 in
      record {
        slot = behind t m1.slot;
        same = ap (λ z. t ∷ z) m1.same;
        again = λ others alike. signed t (m1.slot.put others) others op a f h1 (m1.again others alike);
      }
  moved (unsigned ts rest a f d1) =
      let m1 = moved d1 in
      record { slot = m1.slot; same = m1.same; again = λ others alike. unsigned (m1.slot.put others) others a f (m1.again others alike) }
  moved (counted_before t ts rest op a h1 d1) =
      let m1 = moved d1 in
      record {
        slot = behind t m1.slot;
        same = ap (λ z. t ∷ z) m1.same;
        again = λ others alike. counted_before t (m1.slot.put others) others op a h1 (m1.again others alike);
      }
  moved (counted_behind ts rest t op a d1 h1 h2) =
      let m1 = moved d1 in
      record {
        slot = after m1.slot (behind t here);
        same = m1.same;
        again = λ others alike. counted_behind (m1.slot.put (t ∷ others)) others t op a (m1.again (t ∷ others) refl) h1 h2;
      }
  moved (uncounted ts rest a f d1) =
      let m1 = moved d1 in
      record { slot = m1.slot; same = m1.same; again = λ others alike. uncounted (m1.slot.put others) others a f (m1.again others alike) }
  moved (steps ts mid rest first a f g d1 d2) =
      let m1 = moved d1 in
      let m2 = moved_steps d2 in
      record {
        slot = after m1.slot m2.slot;
        same = m1.same ∙ ap (λ z. m1.slot.put z) m2.same;
        again = λ others alike. steps (m1.slot.put (m2.slot.put others)) (m2.slot.put others) others first a f g
            (m1.again (m2.slot.put others) (still m2.slot others m2.same alike)) (m2.again others alike);
      }
  moved (literal t ts a h1) = record { slot = behind t here; same = refl; again = λ others alike. literal t others a h1 }
  moved (name t ts x h1) = record { slot = behind t here; same = refl; again = λ others alike. name t others x h1 }
  moved (viewof_name t n ts x h1 h2) = record { slot = behind t (behind n here); same = refl; again = λ others alike. viewof_name t n others x h1 h2 }
  moved (made t n p ts rest x args h1 h2 h3 d1) =
      let m1 = moved_list d1 in
      record {
        slot = behind t (behind n (behind p m1.slot));
        same = ap (λ z. t ∷ n ∷ p ∷ z) m1.same;
        again = λ others alike. made t n p (m1.slot.put others) others x args h1 h2 h3 (m1.again others alike);
      }
  moved (parentheses t c ts rest a f h1 d1 h2) =
      let m1 = moved d1 in
      record {
        slot = behind t (after m1.slot (behind c here));
        same = ap (λ z. t ∷ z) m1.same;
        again = λ others alike. parentheses t c (m1.slot.put (c ∷ others)) others a f h1 (m1.again (c ∷ others) refl) h2;
      }
  moved (array t ts rest items h1 d1) =
      let m1 = moved_list d1 in
      record {
        slot = behind t m1.slot;
        same = ap (λ z. t ∷ z) m1.same;
        again = λ others alike. array t (m1.slot.put others) others items h1 (m1.again others alike);
      }
  moved (object t ts rest props h1 d1) =
      let m1 = moved_props d1 in
      record {
        slot = behind t m1.slot;
        same = ap (λ z. t ∷ z) m1.same;
        again = λ others alike. object t (m1.slot.put others) others props h1 (m1.again others alike);
      }
  moved (function_expression ts rest g d1) =
      let m1 = moved_function d1 in
      record { slot = m1.slot; same = m1.same; again = λ others alike. function_expression (m1.slot.put others) others g (m1.again others alike) }

  pub moved_continues : {r : Rule} {n : ℕ} {a : Expr} {f : Form} {ts : List Token} {b : Expr} {g : Form} {rest : List Token}
      → Continues r n a f ts b g rest → Moves (λ us os. Continues r n a f us b g os) ts rest
  moved_continues (no_more r n a f ts) = record { slot = here; same = refl; again = λ others alike. no_more r n a f others }
  moved_continues (goes_on r n a b c f g h t ts mid rest op h1 h2 d1 d2) =
      let m1 = moved d1 in
      let m2 = moved_continues d2 in
      record {
        slot = behind t (after m1.slot m2.slot);
        same = ap (λ z. t ∷ z) (m1.same ∙ ap (λ z. m1.slot.put z) m2.same);
        again = λ others alike. goes_on r n a b c f g h t (m1.slot.put (m2.slot.put others)) (m2.slot.put others) others op h1 h2
            (m1.again (m2.slot.put others) (still m2.slot others m2.same alike)) (m2.again others alike);
      }

  pub moved_steps : {a : Expr} {f : Form} {ts : List Token} {b : Expr} {g : Form} {rest : List Token} → Steps a f ts b g rest
      → Moves (λ us os. Steps a f us b g os) ts rest
  moved_steps (no_step a f ts) = record { slot = here; same = refl; again = λ others alike. no_step a f others }
  moved_steps (member a b f g t n x ts rest h1 h2 d1) =
      let m1 = moved_steps d1 in
      record {
        slot = behind t (behind n m1.slot);
        same = ap (λ z. t ∷ n ∷ z) m1.same;
        again = λ others alike. member a b f g t n x (m1.slot.put others) others h1 h2 (m1.again others alike);
      }
  moved_steps (index a b k f g h t c ts mid rest h1 d1 h2 d2) =
      let m1 = moved d1 in
      let m2 = moved_steps d2 in
      record {
        slot = behind t (after m1.slot (behind c m2.slot));
        same = ap (λ z. t ∷ z) (m1.same ∙ ap (λ z. m1.slot.put (c ∷ z)) m2.same);
        again = λ others alike. index a b k f g h t c (m1.slot.put (c ∷ m2.slot.put others)) (m2.slot.put others) others h1
            (m1.again (c ∷ m2.slot.put others) refl) h2 (m2.again others alike);
      }
  moved_steps (call a b f g t args ts mid rest h1 d1 d2) =
      let m1 = moved_list d1 in
      let m2 = moved_steps d2 in
      record {
        slot = behind t (after m1.slot m2.slot);
        same = ap (λ z. t ∷ z) (m1.same ∙ ap (λ z. m1.slot.put z) m2.same);
        again = λ others alike. call a b f g t args (m1.slot.put (m2.slot.put others)) (m2.slot.put others) others h1
            (m1.again (m2.slot.put others) (still m2.slot others m2.same alike)) (m2.again others alike);
      }

  pub moved_list : {close : Punctuator} {ts : List Token} {items : List Expr} {rest : List Token} → ReadsList close ts items rest
      → Moves (λ us os. ReadsList close us items os) ts rest
  moved_list (no_item close t ts h1) = record { slot = behind t here; same = refl; again = λ others alike. no_item close t others h1 }
  moved_list (last_item close c ts rest a f d1 h1) =
      let m1 = moved d1 in
      record {
        slot = after m1.slot (behind c here);
        same = m1.same;
        again = λ others alike. last_item close c (m1.slot.put (c ∷ others)) others a f (m1.again (c ∷ others) refl) h1;
      }
  moved_list (more_list close c ts mid rest a f items d1 h1 d2) =
      let m1 = moved d1 in
      let m2 = moved_list d2 in
      record {
        slot = after m1.slot (behind c m2.slot);
        same = m1.same ∙ ap (λ z. m1.slot.put (c ∷ z)) m2.same;
        again = λ others alike. more_list close c (m1.slot.put (c ∷ m2.slot.put others)) (m2.slot.put others) others a f items
            (m1.again (c ∷ m2.slot.put others) refl) h1 (m2.again others alike);
      }

  pub moved_props : {ts : List Token} {props : List PropNode} {rest : List Token} → ReadsProps ts props rest
      → Moves (λ us os. ReadsProps us props os) ts rest
  moved_props (no_prop t ts h1) = record { slot = behind t here; same = refl; again = λ others alike. no_prop t others h1 }
  moved_props (last_prop c ts rest p d1 h1) =
      let m1 = moved_prop d1 in
      record {
        slot = after m1.slot (behind c here);
        same = m1.same;
        again = λ others alike. last_prop c (m1.slot.put (c ∷ others)) others p (m1.again (c ∷ others) refl) h1;
      }
  moved_props (more_props c ts mid rest p ps d1 h1 d2) =
      let m1 = moved_prop d1 in
      let m2 = moved_props d2 in
      record {
        slot = after m1.slot (behind c m2.slot);
        same = m1.same ∙ ap (λ z. m1.slot.put (c ∷ z)) m2.same;
        again = λ others alike. more_props c (m1.slot.put (c ∷ m2.slot.put others)) (m2.slot.put others) others p ps
            (m1.again (c ∷ m2.slot.put others) refl) h1 (m2.again others alike);
      }

  pub moved_prop : {ts : List Token} {p : PropNode} {rest : List Token} → ReadsProp ts p rest → Moves (λ us os. ReadsProp us p os) ts rest
  moved_prop (short_prop t ts x h1) = record { slot = behind t here; same = refl; again = λ others alike. short_prop t others x h1 }
  moved_prop (fixed_prop t c ts rest key a f h1 h2 d1) =
      let m1 = moved d1 in
      record {
        slot = behind t (behind c m1.slot);
        same = ap (λ z. t ∷ c ∷ z) m1.same;
        again = λ others alike. fixed_prop t c (m1.slot.put others) others key a f h1 h2 (m1.again others alike);
      }
  moved_prop (computed_prop t e c ts mid rest k a f g h1 d1 h2 h3 d2) =
      let m1 = moved d1 in
      let m2 = moved d2 in
      record {
        slot = behind t (after m1.slot (behind e (behind c m2.slot)));
        same = ap (λ z. t ∷ z) (m1.same ∙ ap (λ z. m1.slot.put (e ∷ c ∷ z)) m2.same);
        again = λ others alike. computed_prop t e c (m1.slot.put (e ∷ c ∷ m2.slot.put others)) (m2.slot.put others) others k a f g h1
            (m1.again (e ∷ c ∷ m2.slot.put others) refl) h2 h3 (m2.again others alike);
      }

  pub moved_arrow_body : {ts : List Token} {b : FnBody} {f : Form} {rest : List Token} → ReadsArrowBody ts b f rest
      → Moves (λ us os. ReadsArrowBody us b f os) ts rest
  moved_arrow_body (block_body ts rest items d1) =
      let m1 = moved_block d1 in
      record { slot = m1.slot; same = m1.same; again = λ others alike. block_body (m1.slot.put others) others items (m1.again others alike) }
  moved_arrow_body (value_body ts rest a f h1 d1) =
      let m1 = moved d1 in
      record {
        slot = m1.slot;
        same = m1.same;
        again = λ others alike. value_body (m1.slot.put others) others a f
            (not_mark mark.OpenBrace ts (m1.slot.put others) (still m1.slot others m1.same alike) h1) (m1.again others alike);
      }

  pub moved_function : {ts : List Token} {g : Function} {rest : List Token} → ReadsFunction ts g rest → Moves (λ us os. ReadsFunction us g os) ts rest
  moved_function (function t ts mid rest s items h1 h2 d1) =
      let m1 = moved_signature h2 in
      let m2 = moved_block d1 in
      record {
        slot = behind t (after m1.slot m2.slot);
        same = ap (λ z. t ∷ z) (m1.same ∙ ap (λ z. m1.slot.put z) m2.same);
        again = λ others alike. function t (m1.slot.put (m2.slot.put others)) (m2.slot.put others) others s items h1
            (m1.again (m2.slot.put others) (still m2.slot others m2.same alike)) (m2.again others alike);
      }

  pub moved_block : {ts : List Token} {items : List Stmt} {rest : List Token} → ReadsBlock ts items rest
      → Moves (λ us os. ReadsBlock us items os) ts rest
  moved_block (block t ts rest items h1 d1) =
      let m1 = moved_items d1 in
      record {
        slot = behind t m1.slot;
        same = ap (λ z. t ∷ z) m1.same;
        again = λ others alike. block t (m1.slot.put others) others items h1 (m1.again others alike);
      }

  pub moved_items : {ts : List Token} {items : List Stmt} {rest : List Token} → ReadsItems ts items rest
      → Moves (λ us os. ReadsItems us items os) ts rest
  moved_items (no_items t ts h1) = record { slot = behind t here; same = refl; again = λ others alike. no_items t others h1 }
  moved_items (more_items ts mid rest s items d1 d2) =
      let m1 = moved_item d1 in
      let m2 = moved_items d2 in
      record {
        slot = after m1.slot m2.slot;
        same = m1.same ∙ ap (λ z. m1.slot.put z) m2.same;
        again = λ others alike. more_items (m1.slot.put (m2.slot.put others)) (m2.slot.put others) others s items
            (m1.again (m2.slot.put others) (still m2.slot others m2.same alike)) (m2.again others alike);
      }

  pub moved_item : {ts : List Token} {s : Stmt} {rest : List Token} → ReadsItem ts s rest → Moves (λ us os. ReadsItem us s os) ts rest
  moved_item (statement ts rest s d1) =
      let m1 = moved_stmt d1 in
      record { slot = m1.slot; same = m1.same; again = λ others alike. statement (m1.slot.put others) others s (m1.again others alike) }
  moved_item (let_item t ts mid rest ds f h1 d1 h2) =
      let m1 = moved_decls d1 in
      let m2 = moved_end h2 in
      record {
        slot = behind t (after m1.slot m2.slot);
        same = ap (λ z. t ∷ z) (m1.same ∙ ap (λ z. m1.slot.put z) m2.same);
        again = λ others alike. let_item t (m1.slot.put (m2.slot.put others)) (m2.slot.put others) others ds f h1
            (m1.again (m2.slot.put others) (still m2.slot others m2.same alike)) (m2.again others alike);
      }
  moved_item (const_item t ts mid rest ds f h1 d1 h2) =
      let m1 = moved_decls d1 in
      let m2 = moved_end h2 in
      record {
        slot = behind t (after m1.slot m2.slot);
        same = ap (λ z. t ∷ z) (m1.same ∙ ap (λ z. m1.slot.put z) m2.same);
        again = λ others alike. const_item t (m1.slot.put (m2.slot.put others)) (m2.slot.put others) others ds f h1
            (m1.again (m2.slot.put others) (still m2.slot others m2.same alike)) (m2.again others alike);
      }
  moved_item (function_item ts rest g x d1 h1) =
      let m1 = moved_function d1 in
      record { slot = m1.slot; same = m1.same; again = λ others alike. function_item (m1.slot.put others) others g x (m1.again others alike) h1 }

  pub moved_decls : {ts : List Token} {ds : List Decl} {f : Form} {rest : List Token} → ReadsDecls ts ds f rest
      → Moves (λ us os. ReadsDecls us ds f os) ts rest
  moved_decls (last_decl ts rest d f d1) =
      let m1 = moved_decl d1 in
      record { slot = m1.slot; same = m1.same; again = λ others alike. last_decl (m1.slot.put others) others d f (m1.again others alike) }
  moved_decls (more_decls c ts mid rest d ds f g d1 h1 d2) =
      let m1 = moved_decl d1 in
      let m2 = moved_decls d2 in
      record {
        slot = after m1.slot (behind c m2.slot);
        same = m1.same ∙ ap (λ z. m1.slot.put (c ∷ z)) m2.same;
        again = λ others alike. more_decls c (m1.slot.put (c ∷ m2.slot.put others)) (m2.slot.put others) others d ds f g
            (m1.again (c ∷ m2.slot.put others) refl) h1 (m2.again others alike);
      }

  pub moved_decl : {ts : List Token} {d : Decl} {f : Form} {rest : List Token} → ReadsDecl ts d f rest → Moves (λ us os. ReadsDecl us d f os) ts rest
  moved_decl (decl_name t ts x h1) = record { slot = behind t here; same = refl; again = λ others alike. decl_name t others x h1 }
  moved_decl (decl_value t q ts rest x a f h1 h2 d1) =
      let m1 = moved d1 in
      record {
        slot = behind t (behind q m1.slot);
        same = ap (λ z. t ∷ q ∷ z) m1.same;
        again = λ others alike. decl_value t q (m1.slot.put others) others x a f h1 h2 (m1.again others alike);
      }
  moved_decl (decl_yield t q ts rest x a f h1 h2 d1) =
      let m1 = moved_yield d1 in
      record {
        slot = behind t (behind q m1.slot);
        same = ap (λ z. t ∷ q ∷ z) m1.same;
        again = λ others alike. decl_yield t q (m1.slot.put others) others x a f h1 h2 (m1.again others alike);
      }

  pub moved_yield : {ts : List Token} {a : Option Expr} {f : Form} {rest : List Token} → ReadsYield ts a f rest
      → Moves (λ us os. ReadsYield us a f os) ts rest
  moved_yield (yield_alone t ts h1) = record { slot = behind t here; same = refl; again = λ others alike. yield_alone t others h1 }
  moved_yield (yield_value t ts rest a f h1 h2 d1) =
      let m1 = moved d1 in
      record {
        slot = behind t m1.slot;
        same = ap (λ z. t ∷ z) m1.same;
        again = λ others alike. yield_value t (m1.slot.put others) others a f h1
            (on_line ts (m1.slot.put others) (still m1.slot others m1.same alike) h2) (m1.again others alike);
      }

  pub moved_stmt : {ts : List Token} {s : Stmt} {rest : List Token} → ReadsStmt ts s rest → Moves (λ us os. ReadsStmt us s os) ts rest
  moved_stmt (block_statement ts rest items d1) =
      let m1 = moved_block d1 in
      record { slot = m1.slot; same = m1.same; again = λ others alike. block_statement (m1.slot.put others) others items (m1.again others alike) }
  moved_stmt (empty t ts h1) = record { slot = behind t here; same = refl; again = λ others alike. empty t others h1 }
  moved_stmt (expression ts mid rest a f h1 h2 d1 h3) =
      let m1 = moved d1 in
      let m2 = moved_end h3 in
      record {
        slot = after m1.slot m2.slot;
        same = m1.same ∙ ap (λ z. m1.slot.put z) m2.same;
        again = λ others alike. expression (m1.slot.put (m2.slot.put others)) (m2.slot.put others) others a f
            (not_mark mark.OpenBrace ts (m1.slot.put (m2.slot.put others)) (still (after m1.slot m2.slot) others (m1.same ∙ ap (λ z. m1.slot.put z) m2.same) alike) h1)
            (not_word word.Function ts (m1.slot.put (m2.slot.put others)) (still (after m1.slot m2.slot) others (m1.same ∙ ap (λ z. m1.slot.put z) m2.same) alike) h2)
            (m1.again (m2.slot.put others) (still m2.slot others m2.same alike)) (m2.again others alike);
      }
  moved_stmt (yielded ts mid rest a f d1 h1) =
      let m1 = moved_yield d1 in
      let m2 = moved_end h1 in
      record {
        slot = after m1.slot m2.slot;
        same = m1.same ∙ ap (λ z. m1.slot.put z) m2.same;
        again = λ others alike. yielded (m1.slot.put (m2.slot.put others)) (m2.slot.put others) others a f
            (m1.again (m2.slot.put others) (still m2.slot others m2.same alike)) (m2.again others alike);
      }
  moved_stmt (yield_assigned t q ts mid rest x a f h1 h2 d1 h3) =
      let m1 = moved_yield d1 in
      let m2 = moved_end h3 in
      record {
        slot = behind t (behind q (after m1.slot m2.slot));
        same = ap (λ z. t ∷ q ∷ z) (m1.same ∙ ap (λ z. m1.slot.put z) m2.same);
        again = λ others alike. yield_assigned t q (m1.slot.put (m2.slot.put others)) (m2.slot.put others) others x a f h1 h2
            (m1.again (m2.slot.put others) (still m2.slot others m2.same alike)) (m2.again others alike);
      }
  moved_stmt (changed t n q ts mid rest x op a f h1 h2 h3 d1 h4) =
      let m1 = moved d1 in
      let m2 = moved_end h4 in
      record {
        slot = behind t (behind n (behind q (after m1.slot m2.slot)));
        same = ap (λ z. t ∷ n ∷ q ∷ z) (m1.same ∙ ap (λ z. m1.slot.put z) m2.same);
        again = λ others alike. changed t n q (m1.slot.put (m2.slot.put others)) (m2.slot.put others) others x op a f h1 h2 h3
            (m1.again (m2.slot.put others) (still m2.slot others m2.same alike)) (m2.again others alike);
      }
  moved_stmt (stepped t n q ts rest x op h1 h2 h3 h4 h5) =
      let m1 = moved_end h5 in
      record {
        slot = behind t (behind n (behind q m1.slot));
        same = ap (λ z. t ∷ n ∷ q ∷ z) m1.same;
        again = λ others alike. stepped t n q (m1.slot.put others) others x op h1 h2 h3 h4 (m1.again others alike);
      }
  moved_stmt (if_alone t ts mid rest a s h1 d1 d2 h2) =
      let m1 = moved_test d1 in
      let m2 = moved_stmt d2 in
      record {
        slot = behind t (after m1.slot m2.slot);
        same = ap (λ z. t ∷ z) (m1.same ∙ ap (λ z. m1.slot.put z) m2.same);
        again = λ others alike. if_alone t (m1.slot.put (m2.slot.put others)) (m2.slot.put others) others a s h1
            (m1.again (m2.slot.put others) (still m2.slot others m2.same alike)) (m2.again others alike) (not_word word.Else rest others alike h2);
      }
  moved_stmt (if_else t e ts mid next rest a s u h1 d1 d2 h2 d3) =
      let m1 = moved_test d1 in
      let m2 = moved_stmt d2 in
      let m3 = moved_stmt d3 in
      record {
        slot = behind t (after m1.slot (after m2.slot (behind e m3.slot)));
        same = ap (λ z. t ∷ z) (m1.same ∙ ap (λ z. m1.slot.put z) (m2.same ∙ ap (λ z. m2.slot.put (e ∷ z)) m3.same));
        again = λ others alike. if_else t e (m1.slot.put (m2.slot.put (e ∷ m3.slot.put others))) (m2.slot.put (e ∷ m3.slot.put others))
            (m3.slot.put others) others a s u h1
            (m1.again (m2.slot.put (e ∷ m3.slot.put others)) (still (after m2.slot (behind e m3.slot)) others (m2.same ∙ ap (λ z. m2.slot.put (e ∷ z)) m3.same) alike))
            (m2.again (e ∷ m3.slot.put others) refl) h2 (m3.again others alike);
      }
  moved_stmt (while_loop t ts mid rest a s h1 d1 d2) =
      let m1 = moved_test d1 in
      let m2 = moved_stmt d2 in
      record {
        slot = behind t (after m1.slot m2.slot);
        same = ap (λ z. t ∷ z) (m1.same ∙ ap (λ z. m1.slot.put z) m2.same);
        again = λ others alike. while_loop t (m1.slot.put (m2.slot.put others)) (m2.slot.put others) others a s h1
            (m1.again (m2.slot.put others) (still m2.slot others m2.same alike)) (m2.again others alike);
      }
  moved_stmt (do_loop t w ts mid rest s a h1 d1 h2 d2 h3) =
      let m1 = moved_stmt d1 in
      let m2 = moved_test d2 in
      record {
        slot = behind t (after m1.slot (behind w m2.slot));
        same = ap (λ z. t ∷ z) (m1.same ∙ ap (λ z. m1.slot.put (w ∷ z)) m2.same);
        again = λ others alike. do_loop t w (m1.slot.put (w ∷ m2.slot.put others)) (m2.slot.put others) others s a h1
            (m1.again (w ∷ m2.slot.put others) refl) h2 (m2.again others alike) (not_mark mark.Semicolon rest others alike h3);
      }
  moved_stmt (do_loop_ended t w e ts mid rest s a h1 d1 h2 d2 h3) =
      let m1 = moved_stmt d1 in
      let m2 = moved_test d2 in
      record {
        slot = behind t (after m1.slot (behind w (after m2.slot (behind e here))));
        same = ap (λ z. t ∷ z) (m1.same ∙ ap (λ z. m1.slot.put (w ∷ z)) m2.same);
        again = λ others alike. do_loop_ended t w e (m1.slot.put (w ∷ m2.slot.put (e ∷ others))) (m2.slot.put (e ∷ others)) others s a h1
            (m1.again (w ∷ m2.slot.put (e ∷ others)) refl) h2 (m2.again (e ∷ others) refl) h3;
      }
  moved_stmt (for_loop t p ts tested counted turn rest h a b s h1 h2 d1 d2 d3 d4) =
      let m1 = moved_head d1 in
      let m2 = moved_optional d2 in
      let m3 = moved_optional d3 in
      let m4 = moved_stmt d4 in
      record {
        slot = behind t (behind p (after m1.slot (after m2.slot (after m3.slot m4.slot))));
        same = ap (λ z. t ∷ p ∷ z)
            (m1.same ∙ ap (λ z. m1.slot.put z) (m2.same ∙ ap (λ z. m2.slot.put z) (m3.same ∙ ap (λ z. m3.slot.put z) m4.same)));
        again = λ others alike. for_loop t p (m1.slot.put (m2.slot.put (m3.slot.put (m4.slot.put others))))
            (m2.slot.put (m3.slot.put (m4.slot.put others))) (m3.slot.put (m4.slot.put others)) (m4.slot.put others) others h a b s h1 h2
            (m1.again (m2.slot.put (m3.slot.put (m4.slot.put others))) (still (after m2.slot (after m3.slot m4.slot)) others (m2.same ∙ ap (λ z. m2.slot.put z) (m3.same ∙ ap (λ z. m3.slot.put z) m4.same)) alike))
            (m2.again (m3.slot.put (m4.slot.put others)) (still (after m3.slot m4.slot) others (m3.same ∙ ap (λ z. m3.slot.put z) m4.same) alike))
            (m3.again (m4.slot.put others) (still m4.slot others m4.same alike)) (m4.again others alike);
      }
  moved_stmt (for_of t p d n o c ts mid rest constant x a f s h1 h2 h3 h4 h5 d1 h6 d2) =
      let m1 = moved d1 in
      let m2 = moved_stmt d2 in
      record {
        slot = behind t (behind p (behind d (behind n (behind o (after m1.slot (behind c m2.slot))))));
        same = ap (λ z. t ∷ p ∷ d ∷ n ∷ o ∷ z) (m1.same ∙ ap (λ z. m1.slot.put (c ∷ z)) m2.same);
        again = λ others alike. for_of t p d n o c (m1.slot.put (c ∷ m2.slot.put others)) (m2.slot.put others) others constant x a f s h1 h2 h3 h4 h5
            (m1.again (c ∷ m2.slot.put others) refl) h6 (m2.again others alike);
      }
  moved_stmt (break t ts rest h1 h2) =
      let m1 = moved_end h2 in
      record {
        slot = behind t m1.slot;
        same = ap (λ z. t ∷ z) m1.same;
        again = λ others alike. break t (m1.slot.put others) others h1 (m1.again others alike);
      }
  moved_stmt (continue t ts rest h1 h2) =
      let m1 = moved_end h2 in
      record {
        slot = behind t m1.slot;
        same = ap (λ z. t ∷ z) m1.same;
        again = λ others alike. continue t (m1.slot.put others) others h1 (m1.again others alike);
      }
  moved_stmt (return_alone t ts rest h1 h2) =
      let m1 = moved_end h2 in
      record {
        slot = behind t m1.slot;
        same = ap (λ z. t ∷ z) m1.same;
        again = λ others alike. return_alone t (m1.slot.put others) others h1 (m1.again others alike);
      }
  moved_stmt (return_value t ts mid rest a f h1 h2 d1 h3) =
      let m1 = moved d1 in
      let m2 = moved_end h3 in
      record {
        slot = behind t (after m1.slot m2.slot);
        same = ap (λ z. t ∷ z) (m1.same ∙ ap (λ z. m1.slot.put z) m2.same);
        again = λ others alike. return_value t (m1.slot.put (m2.slot.put others)) (m2.slot.put others) others a f h1
            (on_line ts (m1.slot.put (m2.slot.put others)) (still (after m1.slot m2.slot) others (m1.same ∙ ap (λ z. m1.slot.put z) m2.same) alike) h2)
            (m1.again (m2.slot.put others) (still m2.slot others m2.same alike)) (m2.again others alike);
      }
  moved_stmt (throw t ts mid rest a f h1 h2 d1 h3) =
      let m1 = moved d1 in
      let m2 = moved_end h3 in
      record {
        slot = behind t (after m1.slot m2.slot);
        same = ap (λ z. t ∷ z) (m1.same ∙ ap (λ z. m1.slot.put z) m2.same);
        again = λ others alike. throw t (m1.slot.put (m2.slot.put others)) (m2.slot.put others) others a f h1
            (on_line ts (m1.slot.put (m2.slot.put others)) (still (after m1.slot m2.slot) others (m1.same ∙ ap (λ z. m1.slot.put z) m2.same) alike) h2)
            (m1.again (m2.slot.put others) (still m2.slot others m2.same alike)) (m2.again others alike);
      }
  moved_stmt (try_catch t c ts mid rest items p h1 d1 h2 d2) =
      let m1 = moved_block d1 in
      let m2 = moved_catch d2 in
      record {
        slot = behind t (after m1.slot (behind c m2.slot));
        same = ap (λ z. t ∷ z) (m1.same ∙ ap (λ z. m1.slot.put (c ∷ z)) m2.same);
        again = λ others alike. try_catch t c (m1.slot.put (c ∷ m2.slot.put others)) (m2.slot.put others) others items p h1
            (m1.again (c ∷ m2.slot.put others) refl) h2 (m2.again others alike);
      }

  pub moved_test : {ts : List Token} {a : Expr} {rest : List Token} → ReadsTest ts a rest → Moves (λ us os. ReadsTest us a os) ts rest
  moved_test (test t c ts rest a f h1 d1 h2) =
      let m1 = moved d1 in
      record {
        slot = behind t (after m1.slot (behind c here));
        same = ap (λ z. t ∷ z) m1.same;
        again = λ others alike. test t c (m1.slot.put (c ∷ others)) others a f h1 (m1.again (c ∷ others) refl) h2;
      }

  pub moved_head : {ts : List Token} {h : ForHead} {rest : List Token} → ReadsHead ts h rest → Moves (λ us os. ReadsHead us h os) ts rest
  moved_head (no_head t ts h1) = record { slot = behind t here; same = refl; again = λ others alike. no_head t others h1 }
  moved_head (let_head t e ts rest ds f h1 d1 h2) =
      let m1 = moved_decls d1 in
      record {
        slot = behind t (after m1.slot (behind e here));
        same = ap (λ z. t ∷ z) m1.same;
        again = λ others alike. let_head t e (m1.slot.put (e ∷ others)) others ds f h1 (m1.again (e ∷ others) refl) h2;
      }
  moved_head (const_head t e ts rest ds f h1 d1 h2) =
      let m1 = moved_decls d1 in
      record {
        slot = behind t (after m1.slot (behind e here));
        same = ap (λ z. t ∷ z) m1.same;
        again = λ others alike. const_head t e (m1.slot.put (e ∷ others)) others ds f h1 (m1.again (e ∷ others) refl) h2;
      }
  moved_head (expr_head e ts rest a f d1 h1) =
      let m1 = moved d1 in
      record {
        slot = after m1.slot (behind e here);
        same = m1.same;
        again = λ others alike. expr_head e (m1.slot.put (e ∷ others)) others a f (m1.again (e ∷ others) refl) h1;
      }

  pub moved_optional : {close : Punctuator} {ts : List Token} {a : Option Expr} {rest : List Token} → ReadsOptional close ts a rest
      → Moves (λ us os. ReadsOptional close us a os) ts rest
  moved_optional (absent close t ts h1) = record { slot = behind t here; same = refl; again = λ others alike. absent close t others h1 }
  moved_optional (present close c ts rest a f d1 h1) =
      let m1 = moved d1 in
      record {
        slot = after m1.slot (behind c here);
        same = m1.same;
        again = λ others alike. present close c (m1.slot.put (c ∷ others)) others a f (m1.again (c ∷ others) refl) h1;
      }

  pub moved_catch : {ts : List Token} {p : CatchPart} {rest : List Token} → ReadsCatch ts p rest → Moves (λ us os. ReadsCatch us p os) ts rest
  moved_catch (catch_all ts rest items d1) =
      let m1 = moved_block d1 in
      record { slot = m1.slot; same = m1.same; again = λ others alike. catch_all (m1.slot.put others) others items (m1.again others alike) }
  moved_catch (catch_name t n c ts rest x items h1 h2 h3 d1) =
      let m1 = moved_block d1 in
      record {
        slot = behind t (behind n (behind c m1.slot));
        same = ap (λ z. t ∷ n ∷ c ∷ z) m1.same;
        again = λ others alike. catch_name t n c (m1.slot.put others) others x items h1 h2 h3 (m1.again others alike);
      }

pub items_move : ItemsMove
items_move front more others t s d =
    let m = moved_item d in
    let q : m.slot.front ≡ front = append_cancel_right m.slot.front front (t ∷ more) (sym (m.slot.is_front (t ∷ more)) ∙ sym m.same) in
    subst (λ us. ReadsItem us s (t ∷ others)) (m.slot.is_front (t ∷ others) ∙ ap (λ w. w ++ t ∷ others) q) (m.again (t ∷ others) refl)
