-- What a call begins with, as its plan; what is asked then, and what the host holds from the start.
use Rattle.std.specs.Prelude.{ℕ, List}
use Rattle.tape.specs.declared.progress.Line.{Line}
use Rattle.tape.specs.Plan.{Plan, failed}
use Rattle.bus.specs.Transfer.{incoming, outgoing}
use Rattle.host.specs.declared.host.Sdmmc.{Sdmmc}
use Rattle.host.specs.Calls.{fresh_line}
use Rattle.step.specs.Transfer.{blocks_of}
use Rattle.stepping.specs.Closing.{Closing, keeping}
use Rattle.stepping.specs.declared.call.Asked.{Asked}
use Rattle.stepping.specs.declared.call.Asked.TheVariants as Q
use Rattle.underway.specs.Whole.{init_from, blocks_from, status_from}
use Rattle.underway.specs.declared.begin.First.{First}
use Rattle.underway.specs.declared.begin.First.TheVariants as F

-- `sent` are the words that it is to send
unfoldable pub first_plan : Sdmmc → List ℕ → First → Plan Closing
first_plan host sent (F.Refused e) = keeping host (failed e)
first_plan host sent (F.Resets c f) = init_from host c f
first_plan host sent (F.Reads a n) = blocks_from host incoming a (blocks_of n)
first_plan host sent (F.Sends a n) = blocks_from host (outgoing sent) a (blocks_of n)
first_plan host sent F.App = status_from host

unfoldable pub asked_by : First → Asked
asked_by (F.Refused e) = Q.Status
asked_by (F.Resets c f) = Q.Card c f
asked_by (F.Reads a n) = Q.Blocks a n
asked_by (F.Sends a n) = Q.Sends a n
asked_by F.App = Q.Status

unfoldable pub line_by : First → Line → Line
line_by (F.Refused e) h = h
line_by (F.Resets c f) h = fresh_line c.frequency
line_by (F.Reads a n) h = h
line_by (F.Sends a n) h = h
line_by F.App h = h
