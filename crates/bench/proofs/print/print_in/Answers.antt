use mathlib.Core.Path.{sym, ◌∙◌}
use native.Mathlib.Omega.{arith}
use lib.ListN.{length, length-take}
use Rattle.book.proofs.Opening.{opened-none, opened_some}
use Rattle.bench.proofs.Opens.{words_lie, words-good, words-fit}
use Rattle.bench.proofs.print.print_in.Goals as goal

pub slice_bounds-serve_book-end : goal.slice_bounds-serve_book-end
slice_bounds-serve_book-end c =
    words-fit c.args.bytes.now c.args.words.now _ _ (sym c.open.ensures.answered ∙ c.in-Some.is) c.open.ensures.laid

pub slice_bounds-serve_book-end-in-Some : goal.slice_bounds-serve_book-end-in-Some
slice_bounds-serve_book-end-in-Some c =
    let fits = words-fit c.args.bytes.now c.args.words.now _ _ (sym c.open.ensures.answered ∙ c.in-Some.is) c.open.ensures.laid in
    rw length-take (omega (arith, fits))

pub serve_book-requires : goal.serve_book-requires
serve_book-requires c =
    words-good c.args.bytes.now c.args.words.now _ _ (sym c.open.ensures.answered ∙ c.in-Some.is) c.open.ensures.laid

pub returns-in-Some : goal.returns-in-Some
returns-in-Some c =
    let bytes = c.args.bytes.now in
    let words = c.args.words.now in
    let good = sym c.open.ensures.answered ∙ c.in-Some.is in
    let same = words_lie bytes words _ _ good c.open.ensures.laid in
    rw (opened_some bytes (length words) _ good).0 (rw same at c.serve_book.ensures)

pub returns-in-None : goal.returns-in-None
returns-in-None c =
    rw (opened-none c.args.bytes.now (length c.args.words.now) c.requires (sym c.open.ensures.answered ∙ c.in-None.is)) (rw c.number.ensures at c.put_host.ensures)
