-- Declarations between commas, turn by turn: what is read is what was found and what the turns that are left read.
use Rattle.std.proofs.Common.{◌≡◌, ℕ, ◌+◌, ◌-◌, ◌<◌, ◌≤◌, List, [], ◌∷◌, ◌++◌, length, Some, None, refl, ap, sym, ◌∙◌, append_assoc}
use Rattle.ob_lex.specs.declared.token.Token.{Token}
use Rattle.ob_tree_types.specs.declared.tree.Decl.{Decl}
use Rattle.ob_grammar.specs.declared.piece.One.{One}
use Rattle.ob_grammar.specs.declared.piece.Several.{Several}
use Rattle.ob_grammar.specs.Reading.{also_declared, decl_of, decls_by, decls_from}
use Rattle.ob_grammar.specs.Taking.{Read, ◌>>=◌, mapped, take, is_comma}
use Rattle.ob_descent_rules.specs.Inside.{depth_limit, inner, nested}
use Rattle.ob_descent_rules.proofs.Counts.{one_more, no_more}

-- declarations with some in front
abbrev pub with_front : List Decl → Read Several → Read Several
with_front found r = mapped (λ s. record { decls = found ++ s.decls; form = s.form }) r

front_declared : (found : List Decl) (d : Decl) (r : Read Several) → with_front found (mapped (also_declared d) r) ≡ with_front (found ++ d ∷ []) r
front_declared found d None = refl
front_declared found d (Some p) = ap (λ xs. Some (record { decls = xs; form = p.0.form }, p.1)) (sym (append_assoc found (d ∷ []) p.0.decls))

none_in_front : (r : Read Several) → r ≡ with_front [] r
none_in_front None = refl
none_in_front (Some p) = refl

-- with the declarations that were found, what some turns read
abbrev pub decls_left : ℕ → List Decl → List Token → ℕ → Read Several
decls_left depth found ts n = with_front found (decls_from depth_limit (inner depth) (nested depth) n ts)

-- before the first turn nothing was found
pub decls_begin : (depth last : ℕ) (found : List Decl) (ts : List Token) → found ≡ [] → length ts ≡ last
    → decls_from depth_limit (inner depth) (nested depth) (length ts) ts ≡ decls_left depth found ts last
decls_begin depth last found ts none all = none_in_front (decls_from depth_limit (inner depth) (nested depth) (length ts) ts)
    ∙ ap (decls_left depth [] ts) all ∙ ap (λ xs. decls_left depth xs ts last) (sym none)

module _ (depth last at : ℕ) (found : List Decl) (ts : List Token) (whole : Read Several) (turn : at < last) (is : whole ≡ decls_left depth found ts (last - at)) where
  pub no_decl : decl_of depth_limit (inner depth) (nested depth) ts ≡ None → whole ≡ None
  unfolding decls_from
  no_decl none = one_more (decls_left depth found ts) last at turn is
      ∙ ap (λ r. with_front found (r >>= λ d mid. decls_by depth_limit (inner depth) (nested depth) (take is_comma mid) d (decls_from depth_limit (inner depth) (nested depth) (last - (at + 1))) mid)) none

  a_decl : (d : One) (mid : List Token) → decl_of depth_limit (inner depth) (nested depth) ts ≡ Some (d, mid)
      → whole ≡ with_front found (decls_by depth_limit (inner depth) (nested depth) (take is_comma mid) d (decls_from depth_limit (inner depth) (nested depth) (last - (at + 1))) mid)
  unfolding decls_from
  a_decl d mid read = one_more (decls_left depth found ts) last at turn is
      ∙ ap (λ r. with_front found (r >>= λ d mid. decls_by depth_limit (inner depth) (nested depth) (take is_comma mid) d (decls_from depth_limit (inner depth) (nested depth) (last - (at + 1))) mid)) read

  pub last_decl : (d : One) (mid rest : List Token) (more : List Decl) → decl_of depth_limit (inner depth) (nested depth) ts ≡ Some (d, mid) → more ≡ found ++ d.decl ∷ []
      → take is_comma mid ≡ None → rest ≡ mid → whole ≡ Some (record { decls = more; form = d.form }, rest)
  last_decl d mid rest more read pushed none same = a_decl d mid read
      ∙ ap (λ o. with_front found (decls_by depth_limit (inner depth) (nested depth) o d (decls_from depth_limit (inner depth) (nested depth) (last - (at + 1))) mid)) none
      ∙ ap (λ xs. Some (record { decls = xs; form = d.form }, mid)) (sym pushed) ∙ ap (λ ts. Some (record { decls = more; form = d.form }, ts)) (sym same)

  pub one_more_decl : (d : One) (mid rest : List Token) (more : List Decl) → decl_of depth_limit (inner depth) (nested depth) ts ≡ Some (d, mid) → more ≡ found ++ d.decl ∷ []
      → take is_comma mid ≡ Some rest → whole ≡ decls_left depth more rest (last - (at + 1))
  one_more_decl d mid rest more read pushed comma = a_decl d mid read
      ∙ ap (λ o. with_front found (decls_by depth_limit (inner depth) (nested depth) o d (decls_from depth_limit (inner depth) (nested depth) (last - (at + 1))) mid)) comma
      ∙ front_declared found d.decl (decls_from depth_limit (inner depth) (nested depth) (last - (at + 1)) rest)
      ∙ ap (λ xs. decls_left depth xs rest (last - (at + 1))) (sym pushed)

-- no turn is left
pub no_decl_left : (depth last at : ℕ) (found : List Decl) (ts : List Token) (whole : Read Several) → last ≤ at → whole ≡ decls_left depth found ts (last - at) → whole ≡ None
unfolding decls_from
no_decl_left depth last at found ts whole over is = no_more (decls_left depth found ts) last at over is
