use mathlib.Core.Path.{sym}
use Rattle.text.proofs.Pens.{and_written, written_nothing}
use Rattle.book.proofs.Fields.{not_refused}
use Rattle.book.proofs.lines.put_answer.Goals as goal

pub returns-in-Refused : goal.returns-in-Refused
returns-in-Refused c =
    let number = rw c.number.ensures at c.put_named.ensures in
    let field = rw (← c.in-Refused.is) at c.put_field.ensures in
    and_written _ _ _ number field

pub returns-in_default : goal.returns-in_default
returns-in_default c =
    let number = rw c.number.ensures at c.put_named.ensures in
    rw (not_refused c.args.answer c.in_default.not-Refused) (and_written _ _ _ number (sym (written_nothing _)))
