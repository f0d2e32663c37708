use mathlib.Core.Path.{◌≡◌}
use lib.ListN.{length}
use Rattle.tape.specs.Layout.{rows_in}
use Rattle.book.specs.Layout.{contents_of}
use Rattle.meter.specs.Metered.{served_from}
use Rattle.meter.proofs.Served.{Serving}
use Rattle.meter.proofs.serve_calls.Given as goal

abbrev pub invariant-loop-k : goal.invariant-loop-k
invariant-loop-k g l =
    Serving l.words l.calls (served_from l.calls l.words 0 (contents_of l.words) (record { host = l.initial.turn.host; list = rows_in l.initial.rows; buffer = l.initial.buffer; told = l.before })) l.k l.turn.place
    (record { host = l.turn.host; list = rows_in l.rows; buffer = l.buffer; told = l.turn.told })
    × ((length l.rows ≡ length l.initial.rows) × (length l.buffer ≡ length l.initial.buffer))
