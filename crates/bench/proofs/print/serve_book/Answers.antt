use mathlib.Core.Path.{ap, sym, ◌∙◌}
use native.Mathlib.Omega.{arith}
use Rattle.host.specs.Calls.{made}
use Rattle.book.specs.declared.layout.Heading.{Heading}
use Rattle.book.specs.Layout.{book_in}
use Rattle.book.proofs.Causes.{good-words}
use Rattle.bench.specs.Bench.{settings_in}
use Rattle.bench.proofs.Hosts.{with-host, without_host}
use Rattle.bench.proofs.print.serve_book.Goals as goal

pub settings-requires : goal.settings-requires
settings-requires c = let attempts = ap (λ (h : Heading). h.ready_attempts) c.head.ensures in
    let good = good-words c.args.words.now c.requires in
    omega (arith, attempts, good.attempts)

pub returns-in-Accepted : goal.returns-in-Accepted
unfolding book_in
returns-in-Accepted c = with-host (book_in c.args.words.now) c.new-made.result (sym (c.new-made.ensures ∙ ap made (c.settings.ensures ∙ ap settings_in c.head.ensures))) _
    (rw c.number.ensures at c.put_host.ensures) c.in-Accepted.is c.serve_calls.ensures

pub returns-in_default : goal.returns-in_default
unfolding book_in
returns-in_default c = without_host (book_in c.args.words.now) c.new-made.result (sym (c.new-made.ensures ∙ ap made (c.settings.ensures ∙ ap settings_in c.head.ensures))) _
    (rw c.number.ensures at c.put_host.ensures) c.in_default.not-Accepted
