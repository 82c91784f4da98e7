use Rattle.ob_values.specs.Sound.{AsText}
use Rattle.ob_text_methods.proofs.ErrorLemmas.{text_is_sound, message_sound_if}
use Rattle.ob_text_methods.proofs.errors.with_text.Goals as goal

pub returns-clause-sound : goal.returns-clause-sound
returns-clause-sound c =
    let s = c.args.regions.now in
    message_sound_if c.made_error.result s s c.made_error.new.regions (AsText, c.args.message) (text_is_sound s c.args.message c.requires.text) c.made_error.ensures.sound
