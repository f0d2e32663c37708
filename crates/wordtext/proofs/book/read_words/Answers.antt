use Rattle.std.proofs.Common.{Result, Err, ap, sym, ◌∙◌}
use Rattle.wordtext.specs.declared.place.Place.{Place}
use Rattle.wordtext.specs.declared.token.Cause.{Cause}
use Rattle.wordtext.specs.Text.{answer_by, place_of}
use Rattle.wordtext.proofs.Answers.{held-answer}
use Rattle.wordtext.proofs.book.read_words.Goals as goal

pub returns-in-Ok-clause-answer : goal.returns-in-Ok-clause-answer
returns-in-Ok-clause-answer c = let a = c.args in
    let s = c.scan_text-s.result in
    ap (λ (v : Result (Unit {0}) Cause). answer_by v (place_of a.text.now s.start) s.count) (sym c.in-Ok.is ∙ c.verdict.ensures)
    ∙ held-answer a.text.now a.words.now _ s c.scan_text-s.ensures

pub returns-in-Err-clause-answer : goal.returns-in-Err-clause-answer
returns-in-Err-clause-answer c = let a = c.args in
    let s = c.scan_text-s.result in
    ap (λ (p : Place). answer_by (Err c.in-Err.cause) p s.count) c.place_at.ensures
    ∙ ap (λ (v : Result (Unit {0}) Cause). answer_by v (place_of a.text.now s.start) s.count) (sym c.in-Err.is ∙ c.verdict.ensures)
    ∙ held-answer a.text.now a.words.now _ s c.scan_text-s.ensures
