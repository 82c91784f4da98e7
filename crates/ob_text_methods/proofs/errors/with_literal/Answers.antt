use Rattle.ob_values.specs.Sound.{AsText}
use Rattle.ob_values.proofs.FixedLemmas.{KeepsFixed-then}
use Rattle.ob_text_methods.proofs.ErrorLemmas.{message_sound_if}
use Rattle.ob_text_methods.proofs.errors.with_literal.Goals as goal

pub returns-clause-sound : goal.returns-clause-sound
returns-clause-sound c =
    message_sound_if c.made_error.result c.args.regions.now c.literal.new.regions c.made_error.new.regions (AsText, c.in_ok-message.message) c.in_ok-message.ensures.sound
    c.made_error.ensures.sound

pub returns-clause-fixed : goal.returns-clause-fixed
returns-clause-fixed c = KeepsFixed-then c.args.regions.now c.literal.new.regions c.made_error.new.regions c.literal.ensures.fixed c.made_error.ensures.fixed
