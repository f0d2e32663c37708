use Rattle.std.proofs.Common.{List, ℕ, ap, sym, ◌∙◌, take}
use Rattle.types.specs.Words.{filled}
use Rattle.wordtext.specs.Text.{read_of}
use Rattle.wordtext.proofs.Answers.{words_count, first-words}
use Rattle.wordtext.proofs.book.read_book.Goals as goal

pub returns-clause-bytes : goal.returns-clause-bytes
returns-clause-bytes c = let text = c.args.text.now in
    let n = c.in_ok-count.count in
    let e = c.in_ok-count.ensures in
    let words = ap (take n) e.list ∙ first-words (read_of 4096 text).words _ n (words_count 4096 text n (sym e.answer)) in
    c.fill.ensures ∙ ap (λ (l : List ℕ). filled l c.args.bytes.now) words
