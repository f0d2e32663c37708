use mathlib.Core.Path.{ap, ◌∙◌}
use Rattle.std.specs.Prelude.{Some, None}
use Rattle.tape.specs.Layout.{rows_in}
use Rattle.host.specs.Calls.{called_of}
use Rattle.calls.specs.Serve as S
use Rattle.calls.specs.Serve.{comes}
use Rattle.book.specs.declared.layout.Kind.TheVariants.{Initialise, Read, Status, Write}
use Rattle.book.specs.Readers.{call_asked}
use Rattle.book.proofs.Numbers.{its_number}
use Rattle.bench.specs.Bench.{buffer_after}
use Rattle.bench.proofs.Asks.{initialises, reads, writes, asks-status, asks-other}
use Rattle.meter.proofs.feed_call.Goals as goal

pub returns-in-Some-Initialise : goal.returns-in-Some-Initialise
unfolding comes buffer_after
returns-in-Some-Initialise c =
    let args = c.args in
    let host = args.host in
    let buffer = args.buffer.now in
    let number = its_number args.asked.kind c.of.ensures (Some Initialise) (c.in-Some-Initialise.is ∙ ap Some c.in-Some-Initialise.field-0-is) in
    let call = initialises (rows_in args.rows.now) buffer (call_asked args.words.now args.asked) number in
    let done = rw (c.script_of-script.ensures) at c.init_card.ensures in
    record { answered = done.answered ∙ ap (λ (x : S.Call). called_of (comes host x)) call; listed = done.listed ∙ ap (λ (x : S.Call). (comes host x).list) call; filled = ap (λ (x : S.Call). buffer_after x (comes host x) buffer) call }

pub returns-in-Some-Read : goal.returns-in-Some-Read
unfolding comes buffer_after
returns-in-Some-Read c =
    let args = c.args in
    let host = args.host in
    let buffer = args.buffer.now in
    let number = its_number args.asked.kind c.of.ensures (Some Read) (c.in-Some-Read.is ∙ ap Some c.in-Some-Read.field-0-is) in
    let call = reads (rows_in args.rows.now) buffer (call_asked args.words.now args.asked) number in
    let done = rw (c.script_of-script.ensures) at c.read_blocks.ensures in
    record { answered = done.answered ∙ ap (λ (x : S.Call). called_of (comes host x)) call; listed = done.listed ∙ ap (λ (x : S.Call). (comes host x).list) call; filled = done.filled ∙ ap (λ (x : S.Call). buffer_after x (comes host x) buffer) call }

pub returns-in-Some-Write : goal.returns-in-Some-Write
unfolding comes buffer_after
returns-in-Some-Write c =
    let args = c.args in
    let host = args.host in
    let buffer = args.buffer.now in
    let number = its_number args.asked.kind c.of.ensures (Some Write) (c.in-Some-Write.is ∙ ap Some c.in-Some-Write.field-0-is) in
    let call = writes (rows_in args.rows.now) buffer (call_asked args.words.now args.asked) number in
    let done = rw (c.script_of-script.ensures, c.data_of.ensures) at c.feed_write.ensures in
    record { answered = done.answered ∙ ap (λ (x : S.Call). called_of (comes host x)) call; listed = done.listed ∙ ap (λ (x : S.Call). (comes host x).list) call; filled = done.filled ∙ ap (λ (x : S.Call). buffer_after x (comes host x) buffer) call }

pub returns-in-Some-Status : goal.returns-in-Some-Status
unfolding comes buffer_after
returns-in-Some-Status c =
    let args = c.args in
    let host = args.host in
    let buffer = args.buffer.now in
    let number = its_number args.asked.kind c.of.ensures (Some Status) (c.in-Some-Status.is ∙ ap Some c.in-Some-Status.field-0-is) in
    let call = asks-status (rows_in args.rows.now) buffer (call_asked args.words.now args.asked) number in
    let done = rw (c.script_of-script.ensures) at c.feed_status.ensures in
    record { answered = done.answered ∙ ap (λ (x : S.Call). called_of (comes host x)) call; listed = done.listed ∙ ap (λ (x : S.Call). (comes host x).list) call; filled = ap (λ (x : S.Call). buffer_after x (comes host x) buffer) call }

pub returns-in-None : goal.returns-in-None
unfolding comes buffer_after
returns-in-None c =
    let args = c.args in
    let host = args.host in
    let buffer = args.buffer.now in
    let number = its_number args.asked.kind c.of.ensures (None) c.in-None.is in
    let call = asks-other (rows_in args.rows.now) buffer (call_asked args.words.now args.asked) number in
    let done = rw (c.script_of-script.ensures) at c.feed_status-in-None.ensures in
    record { answered = done.answered ∙ ap (λ (x : S.Call). called_of (comes host x)) call; listed = done.listed ∙ ap (λ (x : S.Call). (comes host x).list) call; filled = ap (λ (x : S.Call). buffer_after x (comes host x) buffer) call }
