-- A function as the rules look at it, behind the references of the code.
use Rattle.ob_code.specs.Code as code
use Rattle.ob_code.specs.declared.site.Site.{Site}

abbrev pub of_site : Site → code.Site
of_site s = record {
  ops = s.ops.now;
  texts = s.texts.now;
  methods = s.methods.now;
  locals = s.locals;
  operands = s.operands;
  boxes = s.boxes;
  asked = s.asked.now;
}
