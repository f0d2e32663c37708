-- The line of an event: `read KIND WORD` or `row REGISTER VALUE`, and its meaning.
use Rattle.std.specs.Prelude.{ℕ, List, ◌++◌}
use Rattle.text.specs.Digits.{decimal_of, hex_of}
use Rattle.text.specs.Typed.{typed}
use Rattle.tape.specs.declared.rows.Row.{Row}
use Rattle.tape.specs.declared.script.Reading.{Reading}
use Rattle.tape.specs.declared.script.Reading.TheVariants.{Status, RespCmd, Response, Dma, DCount, Data}
use Rattle.report.specs.Report.{row_text}
use Rattle.events.specs.declared.event.Event.{Event}
use Rattle.events.specs.declared.event.Event.TheVariants.{Read, Missed, Wrote}
use Rattle.events.specs.Meaning.{says, row_meaning, reading_meaning}

abbrev pub kind_text : Reading → List ℕ
kind_text Status = typed "status"
kind_text RespCmd = typed "respcmd"
kind_text (Response n) = typed "response " ++ decimal_of n
kind_text Dma = typed "dma"
kind_text DCount = typed "dcount"
kind_text (Data k) = typed "data " ++ decimal_of k

-- 0x and eight digits
abbrev pub word_text : ℕ → List ℕ
word_text word = typed " 0x" ++ hex_of 8 word

abbrev pub read_text : Reading → ℕ → List ℕ
read_text reading word = (typed "read " ++ kind_text reading) ++ word_text word ++ reading_meaning reading word ++ typed "\n"

-- where the script ended
abbrev pub missed_text : Reading → List ℕ
missed_text reading = (typed "read " ++ kind_text reading) ++ (typed " none" ++ says (typed "the script ended") ++ typed "\n")

-- the row as `cardtrace` prints it
abbrev pub wrote_text : Row → List ℕ
wrote_text row = row_text row.register row.value ++ row_meaning row.register row.value ++ typed "\n"

unfoldable pub event_text : Event → List ℕ
event_text (Read reading word) = read_text reading word
event_text (Missed reading) = missed_text reading
event_text (Wrote row) = wrote_text row
