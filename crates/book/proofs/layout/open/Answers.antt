use Prim.Native.Nat.{◌/◌}
use mathlib.Core.Path.{◌≡◌, sym, ap, ◌∙◌}
use native.Mathlib.Omega.{arith}
use lib.ListN.{length, length-take}
use Rattle.book.specs.Layout.{bad_words}
use Rattle.book.proofs.Load.{counted, kept, book-words}
use Rattle.book.proofs.Opening.{open_odd, open_over, open_bad, open_good}
use Rattle.book.proofs.layout.open.Goals as goal

pub returns-then-bytes-ne0 : goal.returns-then-bytes-ne0
returns-then-bytes-ne0 c = let load = c.load-n in
    let args = c.args in
    let bytes = args.bytes.now in
    let words = args.words.now in
    record { answered = sym (open_odd bytes (length words) c.if-bytes-ne0.true); laid = load.ensures.laid }

pub returns-then-n-bytes : goal.returns-then-n-bytes
returns-then-n-bytes c = let load = c.load-n in
    let args = c.args in
    let bytes = args.bytes.now in
    let words = args.words.now in
    let n = counted bytes words load.new.words load.result load.ensures.placed load.ensures.laid in
    record { answered = sym (open_over bytes (length words) (omega arith)); laid = load.ensures.laid }

pub slice_bounds-is_bad-end : goal.slice_bounds-is_bad-end
slice_bounds-is_bad-end c = let load = c.load-n in
    let args = c.args in
    let bytes = args.bytes.now in
    let words = args.words.now in
    let n = counted bytes words load.new.words load.result load.ensures.placed load.ensures.laid in
    let l = kept bytes words load.new.words load.result load.ensures.placed load.ensures.laid in
    omega arith

pub slice_bounds-is_bad-end-2 : goal.slice_bounds-is_bad-end-2
slice_bounds-is_bad-end-2 c = let load = c.load-n in
    let args = c.args in
    let bytes = args.bytes.now in
    let words = args.words.now in
    let n = counted bytes words load.new.words load.result load.ensures.placed load.ensures.laid in
    let l = kept bytes words load.new.words load.result load.ensures.placed load.ensures.laid in
    rw length-take (omega arith)

pub returns-then-is_bad : goal.returns-then-is_bad
returns-then-is_bad c = let load = c.load-n in
    let args = c.args in
    let bytes = args.bytes.now in
    let words = args.words.now in
    let all = book-words bytes words load.new.words load.result load.ensures.placed load.ensures.laid (omega arith) in
    record { answered = sym (open_bad bytes (length words) (ap bad_words (sym all) ∙ sym c.is_bad.ensures ∙ c.if-is_bad.true)); laid = load.ensures.laid }

pub returns : goal.returns
returns c = let load = c.load-n in
    let args = c.args in
    let bytes = args.bytes.now in
    let words = args.words.now in
    let n = counted bytes words load.new.words load.result load.ensures.placed load.ensures.laid in
    let all = book-words bytes words load.new.words load.result load.ensures.placed load.ensures.laid (omega arith) in
    let count : load.result ≡ length bytes / 4 = omega arith in
    let good = ap bad_words (sym all) ∙ sym c.is_bad.ensures ∙ c.if-is_bad.false in
    record { answered = rw count (sym (open_good bytes (length words) (omega arith) good (omega arith))); laid = load.ensures.laid }
