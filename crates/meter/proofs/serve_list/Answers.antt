use mathlib.Core.Path.{◌≡◌, ap, ◌∙◌}
use native.Mathlib.Omega.{arith}
use Rattle.types.specs.Answer.{answer_told}
use Rattle.tape.specs.Layout.{rows_in}
use Rattle.host.specs.Calls.{made}
use Rattle.book.specs.declared.layout.Heading.{Heading}
use Rattle.book.specs.Readers.{heading_of}
use Rattle.bench.specs.Bench.{settings_in}
use Rattle.meter.specs.Metered.{Served}
use Rattle.meter.proofs.Served.{no_book, on-host}
use Rattle.meter.proofs.serve_list.Goals as goal

pub returns-then-heading-gt65535 : goal.returns-then-heading-gt65535
unfolding answer_told
returns-then-heading-gt65535 g c = let attempts = ap (λ (h : Heading). h.ready_attempts) c.head-heading.ensures in
    let none = no_book c.args.words.now (rows_in c.args.rows.now) c.args.buffer.now (omega (arith, attempts, c.if-heading-gt65535.true)) in
    record { told = (rw c.number.ensures at c.told.ensures) ∙ ap (λ (x : Served). x.told) none; listed = ap (λ (x : Served). x.list) none; filled = ap (λ (x : Served). x.buffer) none }

pub returns : goal.returns
returns g c = let ws = c.args.words.now in
    let heading = c.head-heading.ensures in
    let attempts = ap (λ (h : Heading). h.ready_attempts) heading in
    let host : c.new-made.result ≡ made (settings_in (heading_of ws)) =
    c.new-made.ensures ∙ ap made (c.settings.ensures ∙ ap settings_in heading) in
    let on = on-host ws (rows_in c.args.rows.now) c.args.buffer.now (omega (arith, attempts, c.if-heading-gt65535.false)) in
    let number = c.number-2.ensures in
    let done = rw (c.served-calls.ensures, c.told-before.ensures, number, host, ap (λ (h : Heading). h.calls) heading) at c.serve_calls.ensures in
    record { told = done.told ∙ ap (λ (x : Served). x.told) on; listed = done.listed ∙ ap (λ (x : Served). x.list) on; filled = done.filled ∙ ap (λ (x : Served). x.buffer) on }
