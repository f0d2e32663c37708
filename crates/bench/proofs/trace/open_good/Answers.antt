use Prim.Native.Nat.{ℕ, ◌≤◌}
use mathlib.Core.Path.{◌≡◌, refl, ap, ◌∙◌}
use native.Mathlib.Omega.{arith}
use Rattle.types.specs.declared.error.Answer.{Answer}
use Rattle.types.specs.declared.error.Answer.TheVariants as Answered
use Rattle.host.specs.declared.host.Made.{Made}
use Rattle.host.specs.Calls.{made}
use Rattle.book.specs.declared.layout.Heading.{Heading}
use Rattle.book.specs.Layout.{book_in}
use Rattle.book.proofs.Causes.{good-words}
use Rattle.bench.specs.Bench.{settings_of, settings_in}
use Rattle.bench.specs.Trace.{calls_served}
use Rattle.bench.proofs.trace.open_good.Goals as goal

pub settings-requires : goal.settings-requires
settings-requires c = let attempts = ap (λ (h : Heading). h.ready_attempts) c.head.ensures in
    let good = good-words c.args.words.now c.requires in
    omega (arith, attempts, good.attempts)

no_more : (answer : Answer) (n : ℕ) → calls_served answer n ≤ n
unfolding calls_served
no_more Answered.Accepted n = omega arith
no_more (Answered.Refused e) n = omega arith
no_more Answered.ScriptEnded n = omega arith
no_more Answered.TraceFull n = omega arith
no_more Answered.BadBook n = omega arith

pub overflow_cast-result : goal.overflow_cast-result
overflow_cast-result c = let good = good-words c.args.words.now c.requires in
    omega (arith, c.served.ensures, no_more c.new-made.result.answer c.word.result, c.word.ensures, good.most)

pub returns : goal.returns
unfolding book_in
returns c = let ws = c.args.words.now in
    let host : c.new-made.result ≡ made (settings_of (book_in ws)) = c.new-made.ensures ∙ ap made (c.settings.ensures ∙ ap settings_in c.head.ensures) in record {
      opened = record {
        host = ap (λ (m : Made). m.host) host;
        calls = rw (host, c.word.ensures) at c.served.ensures;
        words = refl;
        place = c.contents.ensures;
      };
      printed = rw host at c.put_head.ensures;
    }
