-- What a function that reads ensures: what the descent gives, unless memory fails.
use Rattle.std.specs.Prelude.{◌≡◌, ◌≢◌, List, Option, Some, None, Result, Ok, Err}
use Rattle.ob_lex.specs.declared.token.Token.{Token}
use Rattle.ob_grammar.specs.Taking.{Read}
use Rattle.ob_descent_tokens.specs.declared.error.ParseError.{ParseError}
use Rattle.ob_descent_tokens.specs.declared.error.ParseError.TheVariants as errors

abbrev pub Gives : {A : Type 0} → Read A → Result A ParseError → List Token → Type 0
Gives read (Ok a) new = read ≡ Some (a, new)
Gives read (Err e) new = e ≢ errors.NoMemory → read ≡ None

-- the same of what follows a token that is taken
abbrev pub Takes : {A : Type 0} → Option (List Token) → Result A ParseError → List Token → Type 0
Takes taken (Ok a) new = taken ≡ Some new
Takes taken (Err e) new = e ≢ errors.NoMemory → taken ≡ None

-- the same of a whole text, which gives the answer or none
abbrev pub Answers : {A : Type 0} → Option A → Result A ParseError → Type 0
Answers read (Ok a) = read ≡ Some a
Answers read (Err e) = e ≢ errors.NoMemory → read ≡ None
