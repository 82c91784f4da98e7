-- What the descent reads as the head of a function is one.
use Rattle.std.proofs.Common.{◌≡◌, ℕ, Bool, true, false, not, ◌&&◌, List, [], ◌∷◌, Option, Some, None, refl, if◌then◌else◌, option_map}
use Rattle.std.proofs.lemmas.Bool.{and_parts}
use Rattle.ob_lex.specs.declared.token.Token.{Token}
use Rattle.ob_lex.specs.declared.punctuator.Punctuator.TheVariants as mark
use Rattle.ob_grammar.specs.Marks.{IsMark, IsName, SameLine}
use Rattle.ob_grammar.specs.Lists.{ReadsNames, no_names, last_name, more_names, ReadsParams, params, ReadsArrowHead, one_param, all_params, ReadsStar, star, no_star, own_name, no_name, ReadsSignature, signature}
use Rattle.ob_grammar.specs.Taking.{◌>>=◌, mapped, opens_parenthesis, closes_parenthesis, is_comma, is_arrow, is_star, name_of, one, first_name, names, names_after, parameters, arrow_sign, with_arrow, head_by, arrow_head, signature_by, after_star, signature_of}
use Rattle.ob_grammar.proofs.Statements.{OnRead}
use Rattle.ob_grammar.proofs.SoundTokens.{after, on_mapped, on_weaker, is_false, only_name, only_opens_parenthesis, only_closes_parenthesis, only_is_comma, only_is_arrow, only_is_star, by_take, on_taken}

sound_after_name : (t c : Token) (ts : List Token) (x : List ℕ) → IsName x t → OnRead (names ts) (ReadsNames ts) → (b : Bool) → closes_parenthesis c.kind ≡ b → (m : Bool) → is_comma c.kind ≡ m
    → OnRead (if b then Some (x ∷ [], ts) else if m then mapped (λ xs. x ∷ xs) (names ts) else None) (ReadsNames (t ∷ c ∷ ts))
sound_after_name t c ts x h more true hb m hm = last_name t c ts x h (only_closes_parenthesis c.kind hb)
sound_after_name t c ts x h more false hb true hm = on_mapped (ReadsNames ts) (ReadsNames (t ∷ c ∷ ts)) _ (names ts) more
    (λ xs rest d. more_names t c ts rest x xs h (only_is_comma c.kind hm) d)
sound_after_name t c ts x h more false hb false hm = tt

sound_no_names : (t : Token) (ts : List Token) (b : Bool) → closes_parenthesis t.kind ≡ b → OnRead (if b then Some ([], ts) else None) (ReadsNames (t ∷ ts))
sound_no_names t ts true h = no_names t ts (only_closes_parenthesis t.kind h)
sound_no_names t ts false h = tt

sound_first_alone : (t : Token) (o : Option (List ℕ)) → name_of t.kind ≡ o → OnRead (first_name o t.kind [] (λ x. names_after x [])) (ReadsNames (t ∷ []))
unfolding names_after
sound_first_alone t None h = sound_no_names t [] (closes_parenthesis t.kind) refl
sound_first_alone t (Some x) h = tt

sound_first : (t c : Token) (ts : List Token) → OnRead (names ts) (ReadsNames ts) → (o : Option (List ℕ)) → name_of t.kind ≡ o
    → OnRead (first_name o t.kind (c ∷ ts) (λ x. names_after x (c ∷ ts))) (ReadsNames (t ∷ c ∷ ts))
unfolding names_after
sound_first t c ts more None h = sound_no_names t (c ∷ ts) (closes_parenthesis t.kind) refl
sound_first t c ts more (Some x) h = sound_after_name t c ts x (only_name t.kind x h) more (closes_parenthesis c.kind) refl (is_comma c.kind) refl

pub sound_names : (ts : List Token) → OnRead (names ts) (ReadsNames ts)
unfolding names
sound_names [] = tt
sound_names (t ∷ []) = sound_first_alone t (name_of t.kind) refl
sound_names (t ∷ c ∷ ts) = sound_first t c ts (sound_names ts) (name_of t.kind) refl

pub sound_parameters : (ts : List Token) → OnRead (parameters ts) (ReadsParams ts)
unfolding parameters
sound_parameters ts = on_taken opens_parenthesis _ only_opens_parenthesis ReadsParams names
    (λ t inside h. on_weaker (ReadsNames inside) (ReadsParams (t ∷ inside)) (names inside) (sound_names inside) (λ xs rest d. params t inside rest xs h d)) ts

-- the parameters before an arrow on their line, and what follows it
pub record BeginsArrow (ts : List Token) (xs : List (List ℕ)) (rest : List Token) : Type 0 where
  pub sign : Token
  pub head : ReadsArrowHead ts xs (sign ∷ rest)
  pub kind : IsMark mark.Arrow sign
  pub line : SameLine sign

sound_with_arrow : (ts mid : List Token) (xs : List (List ℕ)) → ReadsArrowHead ts xs mid → OnRead (with_arrow xs mid) (BeginsArrow ts)
unfolding arrow_sign
sound_with_arrow ts [] xs d = tt
sound_with_arrow ts (a ∷ mid) xs d = go (is_arrow a.kind && not a.break_before) refl
  where
    go : (b : Bool) → (is_arrow a.kind && not a.break_before) ≡ b → OnRead (option_map (λ rest. (xs, rest)) (if b then Some mid else None)) (BeginsArrow ts)
    go true h = let p = and_parts _ _ h in record { sign = a; head = d; kind = only_is_arrow a.kind p.0; line = is_false _ p.1 }
    go false h = tt

sound_head_by : (t : Token) (ts : List Token) (o : Option (List ℕ)) → name_of t.kind ≡ o → OnRead (head_by o t.kind ts) (BeginsArrow (t ∷ ts))
sound_head_by t ts (Some x) h = sound_with_arrow (t ∷ ts) ts (x ∷ []) (one_param t ts x (only_name t.kind x h))
sound_head_by t ts None h = go (opens_parenthesis t.kind) refl
  where
    go : (b : Bool) → opens_parenthesis t.kind ≡ b → OnRead (if b then names ts >>= with_arrow else None) (BeginsArrow (t ∷ ts))
    go true e = after (ReadsNames ts) (BeginsArrow (t ∷ ts)) (names ts) with_arrow (sound_names ts)
        (λ xs mid d. sound_with_arrow (t ∷ ts) mid xs (all_params (t ∷ ts) mid xs (params t ts mid xs (only_opens_parenthesis t.kind e) d)))
    go false e = tt

pub sound_arrow_head : (ts : List Token) → OnRead (arrow_head ts) (BeginsArrow ts)
unfolding arrow_head
sound_arrow_head [] = tt
sound_arrow_head (t ∷ ts) = sound_head_by t ts (name_of t.kind) refl

sound_signature_by : (ts named : List Token) (g : Bool) → ReadsStar ts g named → OnRead (signature_by g (one name_of named) named) (ReadsSignature ts)
unfolding one
sound_signature_by ts [] g s = on_mapped (ReadsParams []) (ReadsSignature ts) _ (parameters []) (sound_parameters [])
    (λ xs rest d. signature ts [] [] rest g None xs s (no_name []) d)
sound_signature_by ts (t ∷ list) g s = go (name_of t.kind) refl
  where
    go : (o : Option (List ℕ)) → name_of t.kind ≡ o → OnRead (signature_by g (option_map (λ x. (x, list)) o) (t ∷ list)) (ReadsSignature ts)
    go (Some x) h = on_mapped (ReadsParams list) (ReadsSignature ts) _ (parameters list) (sound_parameters list)
        (λ xs rest d. signature ts (t ∷ list) list rest g (Some x) xs s (own_name t list x (only_name t.kind x h)) d)
    go None h = on_mapped (ReadsParams (t ∷ list)) (ReadsSignature ts) _ (parameters (t ∷ list)) (sound_parameters (t ∷ list))
        (λ xs rest d. signature ts (t ∷ list) (t ∷ list) rest g None xs s (no_name (t ∷ list)) d)

pub sound_signature : (ts : List Token) → OnRead (signature_of ts) (ReadsSignature ts)
unfolding signature_of
sound_signature ts = by_take is_star _ only_is_star (λ ts o. OnRead (after_star o ts) (ReadsSignature ts))
    (λ t rest h. sound_signature_by (t ∷ rest) rest true (star t rest h)) (λ ts h. sound_signature_by ts ts false (no_star ts)) ts
