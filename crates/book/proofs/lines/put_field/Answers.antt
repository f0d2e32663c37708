use mathlib.Core.Path.{sym}
use Rattle.types.specs.Answer.{error_told, answer_told}
use Rattle.text.proofs.Pens.{written_nothing}
use Rattle.book.proofs.Fields.{other_error}
use Rattle.book.proofs.lines.put_field.Goals as goal

pub returns-in-UnsupportedCardType : goal.returns-in-UnsupportedCardType
unfolding error_told answer_told
returns-in-UnsupportedCardType c = rw (c.in-UnsupportedCardType.is, ← c.number.ensures) c.put_named.ensures

pub returns-in_default : goal.returns-in_default
unfolding answer_told
returns-in_default c = rw (other_error c.args.error c.in_default.not-UnsupportedCardType) (sym (written_nothing _))
