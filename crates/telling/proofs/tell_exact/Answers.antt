use mathlib.Core.Path.{ap}
use Rattle.tape.specs.Layout.{rows_in}
use Rattle.host.specs.declared.host.Called.{Called}
use Rattle.telling.proofs.Lines.{still-fits}
use Rattle.telling.proofs.Books.{call-out}
use borrow.Author.Rules.{rules}
use Rattle.telling.proofs.tell_exact.Goals as goal

pub tell_events-told-requires : goal.tell_events-told-requires
tell_events-told-requires g c = still-fits c.tell_begins-begins.ensures (search rules, c.requires)

pub tell_end-sheet-requires : goal.tell_end-sheet-requires
tell_end-sheet-requires g c = c.tell_events-told.ensures.fits

pub returns-in_err-sheet-clause-told : goal.returns-in_err-sheet-clause-told
returns-in_err-sheet-clause-told g c = let a = c.args in
    let said = c.tell_events-told.ensures in
    call-out a.number a.host a.words.now a.asked a.buffer.now (rows_in a.rows.now) c.tell_begins-begins.ensures said.answered said.told c.tell_end-sheet.ensures

pub returns : goal.returns
returns g c = let a = c.args in
    let said = c.tell_events-told.ensures in record {
      next = (ap (λ (x : Called). x.host) said.answered, c.behind.ensures);
      told = call-out a.number a.host a.words.now a.asked a.buffer.now (rows_in a.rows.now) c.tell_begins-begins.ensures said.answered said.told
          c.tell_end-sheet.ensures;
    }
