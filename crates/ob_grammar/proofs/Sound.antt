-- What the descent reads is in the grammar.
use Rattle.std.proofs.Common.{ℕ, zero, suc, List}
use Rattle.ob_lex.specs.declared.token.Token.{Token}
use Rattle.ob_grammar.specs.declared.form.Level.TheVariants as level
use Rattle.ob_grammar.specs.Grammar.{Rule, ReadsItem, ReadsStmt}
use Rattle.ob_grammar.specs.Reading.{reads, reads_statement}
use Rattle.ob_grammar.proofs.Statements.{OnRead, ExpressionsAreSound, ItemsAreSound, StatementsAreSound}
use Rattle.ob_grammar.proofs.SoundBlocks.{As}
use Rattle.ob_grammar.proofs.SoundExpressions.{sound_at}
use Rattle.ob_grammar.proofs.SoundStatements.{sound_item, sound_statement}

mutual
  unfolding reads reads_statement

  sound : (limit n : ℕ) (r : Rule) (ts : List Token) → OnRead (reads limit n r ts) (As r ts)
  sound limit zero r ts = tt
  sound limit (suc n) r ts = sound_at limit (reads limit n) (reads_statement limit n) (sound limit n) (sound_items limit n) r ts

  sound_items : (limit n : ℕ) (ts : List Token) → OnRead (reads_statement limit n level.Item ts) (ReadsItem ts)
  sound_items limit zero ts = tt
  sound_items limit (suc n) ts = sound_item limit (reads limit n) (reads_statement limit n) (sound limit n) (sound_items limit n) (sound_statements limit n) ts

  sound_statements : (limit n : ℕ) (ts : List Token) → OnRead (reads_statement limit n level.Statement ts) (ReadsStmt ts)
  sound_statements limit zero ts = tt
  sound_statements limit (suc n) ts = sound_statement limit (reads limit n) (reads_statement limit n) (sound limit n) (sound_items limit n) (sound_statements limit n) ts

pub expressions_are_sound : ExpressionsAreSound
expressions_are_sound limit n r ts = sound limit n r ts

pub items_are_sound : ItemsAreSound
items_are_sound limit n ts = sound_items limit n ts

pub statements_are_sound : StatementsAreSound
statements_are_sound limit n ts = sound_statements limit n ts
