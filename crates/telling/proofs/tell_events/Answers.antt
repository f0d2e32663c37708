use mathlib.Core.List.{[]}
use Rattle.types.specs.Words.{words_of}
use Rattle.tape.specs.Layout.{rows_in}
use Rattle.host.specs.Calls.{blocks_filled}
use Rattle.feed.specs.Turns.{lent}
use Rattle.book.specs.Readers.{call_asked}
use Rattle.telling.proofs.ByKind.{as_called, as_told}
use Rattle.telling.proofs.tell_events.Goals as goal

pub take_turns-requires : goal.take_turns-requires
take_turns-requires g c = c.requires

pub returns : goal.returns
returns g c = let a = c.args in
    let said = rw (c.fill_blocks.ensures, c.data_of.ensures) at c.take_turns.ensures in
    let script = c.script_of-script.ensures in
    let plan = c.begin.ensures (lent (words_of (blocks_filled (call_asked a.words.now a.asked).«data» a.buffer.now)) []) in record { answered = as_called a.host a.words.now (rows_in a.rows.now) a.asked a.buffer.now script plan said.answered; fits = said.fits; told = as_told a.host a.words.now (rows_in a.rows.now) a.asked a.buffer.now script plan _ said.told }
