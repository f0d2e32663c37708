use Prim.Native.Nat.{ℕ}
use mathlib.Core.Path.{sym, ap, ◌∙◌}
use native.Mathlib.Omega.{arith}
use lib.ListN.{drop}
use Rattle.book.specs.Layout.{bad_rows}
use Rattle.book.proofs.Causes as cause
use Rattle.book.proofs.layout.is_bad.Goals as goal

pub returns-then-words-gt4096 : goal.returns-then-words-gt4096
returns-then-words-gt4096 c = sym (cause.too_long c.args.words.now (omega arith))

pub returns-then-words-rest_at : goal.returns-then-words-rest_at
returns-then-words-rest_at c = sym (cause.cut_short c.args.words.now (omega arith))

pub returns-then-flags-gt3 : goal.returns-then-flags-gt3
returns-then-flags-gt3 c = sym (cause.over-flags c.args.words.now (omega arith))

pub returns-then-attempts-gt65535 : goal.returns-then-attempts-gt65535
returns-then-attempts-gt65535 c = sym (cause.over-attempts c.args.words.now (omega arith))

pub returns-then-calls-eq0 : goal.returns-then-calls-eq0
returns-then-calls-eq0 c = sym (cause.no_calls c.args.words.now (omega arith))

pub returns-then-calls-gt64 : goal.returns-then-calls-gt64
returns-then-calls-gt64 c = sym (cause.over-calls c.args.words.now (omega arith))

pub returns-then-rows_are_bad : goal.returns-then-rows_are_bad
returns-then-rows_are_bad c = let words = c.args.words.now in
    let calls = c.word-calls.ensures in
    sym (cause.bad-row words (ap (λ (n : ℕ). bad_rows n (drop 7 words)) (sym calls) ∙ sym c.rows_are_bad.ensures ∙ c.if-rows_are_bad.true))

pub returns : goal.returns
returns c = let words = c.args.words.now in
    let calls = c.word-calls.ensures in
    let rows = ap (λ (n : ℕ). bad_rows n (drop 7 words)) (sym calls) ∙ sym c.rows_are_bad.ensures ∙ c.if-rows_are_bad.false in
    sym
    (cause.fills words (omega arith) (omega arith) (omega arith) (omega arith) (omega arith) (omega arith) rows
    ∙ rw (c.body_words.ensures, c.contents-rest_at.ensures, calls))
