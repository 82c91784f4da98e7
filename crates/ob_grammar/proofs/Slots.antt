-- Lists of tokens with a place at their end for what follows.
use Rattle.std.proofs.Common.{◌≡◌, List, [], ◌∷◌, ◌++◌, Option, Some, None, refl, ap, sym, ◌∙◌, append_assoc}
use Rattle.ob_lex.specs.declared.token.Token.{Token}

-- the same first token, or both none
abbrev pub first_of : List Token → Option Token
first_of [] = None
first_of (t ∷ ts) = Some t

abbrev pub Alike : List Token → List Token → Type 0
Alike ts us = first_of ts ≡ first_of us

pub record Slot : Type 0 where
  pub put : List Token → List Token
  pub front : List Token
  pub is_front : (ts : List Token) → put ts ≡ front ++ ts

abbrev pub here : Slot
here = record { put = λ ts. ts; front = []; is_front = λ ts. refl }

abbrev pub behind : Token → Slot → Slot
behind t s = record { put = λ ts. t ∷ s.put ts; front = t ∷ s.front; is_front = λ ts. ap (λ us. t ∷ us) (s.is_front ts) }

abbrev pub after : Slot → Slot → Slot
after s u = record {
  put = λ ts. s.put (u.put ts);
  front = s.front ++ u.front;
  is_front = λ ts. s.is_front (u.put ts) ∙ ap (λ us. s.front ++ us) (u.is_front ts) ∙ sym (append_assoc s.front u.front ts);
}

alike_behind : (front ts us : List Token) → Alike ts us → Alike (front ++ ts) (front ++ us)
alike_behind [] ts us h = h
alike_behind (t ∷ front) ts us h = refl

pub alike_in : (s : Slot) (ts us : List Token) → Alike ts us → Alike (s.put ts) (s.put us)
alike_in s ts us h = ap first_of (s.is_front ts) ∙ alike_behind s.front ts us h ∙ sym (ap first_of (s.is_front us))

-- what stands there keeps its first token where the end is exchanged
pub still : (s : Slot) {ts rest : List Token} (others : List Token) → ts ≡ s.put rest → Alike rest others → Alike ts (s.put others)
still s {ts} {rest} others is h = ap first_of is ∙ alike_in s rest others h

-- the same derivation before any other rest that has the same first token
pub record Moves (P : List Token → List Token → Type 0) (ts rest : List Token) : Type 0 where
  pub slot : Slot
  pub same : ts ≡ slot.put rest
  pub again : (others : List Token) → Alike rest others → P (slot.put others) others
