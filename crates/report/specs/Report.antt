-- What happened in a call, as text: the lines that `cardtrace` prints below a call's own line.
use Rattle.std.specs.Prelude.{ℕ, zero, suc, ◌+◌, ◌*◌, Bool, cond, List, [], ◌++◌, eqb, get_or}
use Rattle.text.specs.Digits.{decimal_of, hex_of}
use Rattle.text.specs.Typed.{typed}
use Rattle.types.specs.Answer.{answer_told, carried, flag}
use Rattle.types.specs.Leaf.{protect_number}
use Rattle.types.specs.Sd.{wide_of}
use Rattle.types.specs.declared.card.Card.{Card}
use Rattle.types.specs.declared.card.CardCapacity.{CardCapacity}
use Rattle.types.specs.declared.card.CardCapacity.TheVariants.{SDSC, SDHC}
use Rattle.types.specs.declared.card.Signalling.{Signalling}
use Rattle.types.specs.declared.card.Signalling.TheVariants.{SDR12, SDR25}
use Rattle.types.specs.declared.error.Answer.{Answer}
use Rattle.tape.specs.declared.progress.Line.{Line}
use Rattle.tape.specs.declared.rows.Row.{Row}
use Rattle.tape.specs.Layout.{row_of}
use Rattle.host.specs.declared.host.Sdmmc.{Sdmmc}

-- row REGISTER VALUE: every row, in order, decimal
abbrev pub row_text : ℕ → ℕ → List ℕ
row_text register value = (typed "row " ++ decimal_of register) ++ (typed " " ++ decimal_of value)

abbrev pub row_line : ℕ → ℕ → List ℕ
row_line register value = row_text register value ++ typed "\n"

-- the first n rows of a row list; one that is not there reads as 0 0
unfoldable pub rows_text : ℕ → List Row → List ℕ
rows_text zero rows = []
rows_text (suc n) rows = rows_text n rows ++ row_line (get_or rows n (row_of 0)).register (get_or rows n (row_of 0)).value

-- carried XXXXXXXX: only at answer 10, its word
abbrev pub carried_text : Answer → List ℕ
carried_text answer =
    cond (eqb (answer_told answer).number 10)
    (typed "carried " ++ hex_of 8 (carried (answer_told answer)) ++ typed "\n")
    []

-- W0:...:Wn
unfoldable pub words_text : ℕ → List ℕ → List ℕ
words_text zero words = hex_of 8 (get_or words 0 0)
words_text (suc n) words = words_text n words ++ (typed ":" ++ hex_of 8 (get_or words (suc n) 0))

-- status W0:...:W15
abbrev pub status_text : List ℕ → List ℕ
status_text status = typed "status " ++ words_text 15 status ++ typed "\n"

abbrev pub class_text : CardCapacity → List ℕ
class_text SDSC = typed "SDSC"
class_text SDHC = typed "SDHC"

abbrev pub comma : List ℕ → List ℕ
comma text = typed "," ++ text

-- class,ocr,rca,cid,csd,scr,status,blocks,protect=N
unfoldable pub record_text : Card → List ℕ
record_text card =
    (class_text card.card_type ++ comma (hex_of 8 card.ocr) ++ comma (hex_of 4 card.rca))
    ++ (comma (hex_of 32 (wide_of card.cid)) ++ comma (hex_of 32 (wide_of card.csd)) ++ comma (hex_of 16 card.scr.0))
    ++ (comma (words_text 15 card.status) ++ comma (decimal_of card.block_count.0))
    ++ (typed ",protect=" ++ decimal_of (protect_number card.protection))

abbrev pub signalling_text : Signalling → List ℕ
signalling_text SDR12 = typed "SDR12"
signalling_text SDR25 = typed "SDR25"

-- state clock=HZ signalling=SDR12|SDR25 gated=0|1 clkcr=VALUE
abbrev pub line_text : Line → List ℕ
line_text line =
    (typed "state clock=" ++ decimal_of line.clock.0)
    ++ (typed " signalling=" ++ signalling_text line.signalling)
    ++ (typed " gated=" ++ decimal_of (flag line.gated))
    ++ (typed " clkcr=" ++ decimal_of line.clkcr)

-- record=none|RECORD
abbrev pub held_text : Bool → Card → List ℕ
held_text known card = typed " record=" ++ cond known (record_text card) (typed "none")

-- the two as one line
unfoldable pub state_text : Sdmmc → List ℕ
state_text host = line_text host.line ++ held_text host.known host.card ++ typed "\n"

-- n bytes from a place on, two digits each; a byte that is not there reads as 0
unfoldable pub bytes_text : ℕ → ℕ → List ℕ → List ℕ
bytes_text zero at bytes = []
bytes_text (suc n) at bytes = bytes_text n at bytes ++ hex_of 2 (get_or bytes (at + n) 0)

-- block HEX: a block of 512 bytes
abbrev pub block_line : ℕ → List ℕ → List ℕ
block_line k bytes = typed "block " ++ bytes_text 512 (512 * k) bytes ++ typed "\n"

-- the first n blocks
unfoldable pub blocks_text : ℕ → List ℕ → List ℕ
blocks_text zero bytes = []
blocks_text (suc n) bytes = blocks_text n bytes ++ block_line n bytes
