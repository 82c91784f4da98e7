-- The head of a function: its star, its name and its parameters.
use Rattle.std.specs.Prelude.{ℕ, Bool, true, false, List, [], ◌∷◌, Option, Some, None}
use Rattle.ob_lex.specs.declared.punctuator.Punctuator.TheVariants as mark
use Rattle.ob_lex.specs.declared.token.Token.{Token}
use Rattle.ob_grammar.specs.declared.piece.Signature.{Signature}
use Rattle.ob_grammar.specs.Marks.{IsMark, IsName}

-- what follows the "(" of: Params = "(" [Name {"," Name}* [","]] ")"  (ECMA-262, "Parameter Lists")
pub data ReadsNames : List Token → List (List ℕ) → List Token → Type 0 where
  no_names : (t : Token) (ts : List Token) → IsMark mark.CloseParenthesis t → ReadsNames (t ∷ ts) [] ts
  last_name : (t c : Token) (ts : List Token) (x : List ℕ) → IsName x t → IsMark mark.CloseParenthesis c → ReadsNames (t ∷ c ∷ ts) (x ∷ []) ts
  more_names : (t c : Token) (ts rest : List Token) (x : List ℕ) (xs : List (List ℕ)) → IsName x t → IsMark mark.Comma c → ReadsNames ts xs rest
      → ReadsNames (t ∷ c ∷ ts) (x ∷ xs) rest

pub data ReadsParams : List Token → List (List ℕ) → List Token → Type 0 where
  params : (t : Token) (ts rest : List Token) (xs : List (List ℕ)) → IsMark mark.OpenParenthesis t → ReadsNames ts xs rest → ReadsParams (t ∷ ts) xs rest

-- Name | Params, before "=>"
pub data ReadsArrowHead : List Token → List (List ℕ) → List Token → Type 0 where
  one_param : (t : Token) (ts : List Token) (x : List ℕ) → IsName x t → ReadsArrowHead (t ∷ ts) (x ∷ []) ts
  all_params : (ts rest : List Token) (xs : List (List ℕ)) → ReadsParams ts xs rest → ReadsArrowHead ts xs rest

-- ["*"]
pub data ReadsStar : List Token → Bool → List Token → Type 0 where
  star : (t : Token) (ts : List Token) → IsMark mark.Star t → ReadsStar (t ∷ ts) true ts
  no_star : (ts : List Token) → ReadsStar ts false ts

-- [Name]
pub data ReadsOwnName : List Token → Option (List ℕ) → List Token → Type 0 where
  own_name : (t : Token) (ts : List Token) (x : List ℕ) → IsName x t → ReadsOwnName (t ∷ ts) (Some x) ts
  no_name : (ts : List Token) → ReadsOwnName ts None ts

-- what follows "function": ["*"] [Name] Params  (ECMA-262, "Function Definitions" and "Generator Function Definitions")
pub data ReadsSignature : List Token → Signature → List Token → Type 0 where
  signature : (ts named list rest : List Token) (g : Bool) (x : Option (List ℕ)) (xs : List (List ℕ)) → ReadsStar ts g named → ReadsOwnName named x list
      → ReadsParams list xs rest → ReadsSignature ts (record { generator = g; name = x; params = xs }) rest
