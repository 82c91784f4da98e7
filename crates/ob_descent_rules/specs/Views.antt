-- The words of the rules for the grammar's.
use Rattle.std.specs.Prelude.{◌≡◌, List, ◌∷◌}
use Rattle.ob_base.specs.declared.reserved.ReservedWord.{ReservedWord}
use Rattle.ob_lex.specs.declared.token.Token.{Token}
use Rattle.ob_lex.specs.declared.token.TokenKind.TheVariants as kind
use Rattle.ob_grammar.specs.Grammar as grammar
use Rattle.ob_descent_rules.specs.declared.nesting.Nested.{Nested}
use Rattle.ob_descent_rules.specs.declared.nesting.Nested.TheVariants as deeper

abbrev pub rule_of : Nested → grammar.Rule
rule_of deeper.Whole = grammar.whole
rule_of deeper.Power = grammar.power
rule_of deeper.Prefixed = grammar.prefixed
rule_of (deeper.Operand n) = grammar.tighter n

-- the reserved word stands first, and then the rest
abbrev pub StartsWith : ReservedWord → List Token → List Token → Type 0
StartsWith w ts rest = (t : Token) × (ts ≡ t ∷ rest) × (t.kind ≡ kind.Reserved w)
