use Rattle.std.proofs.Common.{length, ap, sym, ◌∙◌}
use Rattle.std.specs.Prelude.{chars}
use Rattle.ob_lex.specs.declared.token.TokenKind.TheVariants as kind
use Rattle.ob_lex.specs.Reading.{read_map, inside, text_at}
use Rattle.ob_lex.proofs.Cutting.{chars_within}
use Rattle.ob_lex.proofs.Texts.{inside_enough}
use Rattle.ob_lex.proofs.Steps.{error_passes}
use Rattle.ob_lex.proofs.quoted.quoted.Goals as goal

pub returns-in-Ok : goal.returns-in-Ok
returns-in-Ok c =
    let after = c.args.after.now in
    ap (read_map (λ units. kind.Text units)) (sym (inside_enough (length after) c.args.quote (chars after) (chars_within after c.utf8.after)) ∙ c.in-Ok.ensures)

pub returns-in-Err : goal.returns-in-Err
returns-in-Err c =
    let after = c.args.after.now in
    error_passes c.in-Err.error (inside (length after) c.args.quote (chars after)) (text_at c.args.quote (chars after)) c.in-Err.ensures
    (λ b. ap (read_map (λ units. kind.Text units)) (sym (inside_enough (length after) c.args.quote (chars after) (chars_within after c.utf8.after)) ∙ b))
