-- THE TABLE: what each event of a call means for people, in document 01's and request P5's words. A meaning is true of the register and the
-- value, or of the kind and the word, wherever in a call they come: an index after CMD55 is an ACMD's, and still `CMDn` here.
use Rattle.std.specs.Prelude.{ℕ, ◌%◌, ◌^◌, Bool, true, false, cond, not, ◌&&◌, List, [], ◌∷◌, ◌++◌, eqb, get_or}
use Prim.Native.String.{String}
use Rattle.text.specs.Digits.{decimal_of, hex_of}
use Rattle.text.specs.Typed.{typed}
use Rattle.types.specs.Bits.{bits, bit, clear}
use Rattle.tape.specs.declared.script.Reading.{Reading}
use Rattle.tape.specs.declared.script.Reading.TheVariants.{Status, RespCmd, Response, Dma, DCount, Data}
use Rattle.tape.specs.Rows.{POWER, CLKCR, ARG, CMD, DTIMER, DLEN, DCTRL, ICR, MASK, DELAY, FIFO}

-- behind two spaces
abbrev pub says : List ℕ → List ℕ
says text = typed "  " ++ text

-- so many of a noun: 1 byte, 2 bytes
abbrev pub plural : ℕ → List ℕ
plural n = cond (eqb n 1) [] (typed "s")

abbrev pub counted : ℕ → List ℕ → List ℕ
counted n noun = decimal_of n ++ noun ++ plural n

-- how a command waits for its response
abbrev pub waits : ℕ → List ℕ
waits kind =
    cond (eqb kind 0) (typed ", no response")
    (cond (eqb kind 1) (typed ", short response")
    (cond (eqb kind 3) (typed ", long response")
    []))

-- ROWS: a register, when, and what it means; the first line that fits, and nothing where none does
pub record Line : Type 0 where
  pub register : ℕ
  pub fits : Bool
  pub text : List ℕ

abbrev pub line : ℕ → Bool → List ℕ → Line
line register fits text = record { register = register; fits = fits; text = text }

abbrev pub always : Bool
always = true

unfoldable pub row_table : ℕ → List Line
row_table value =
    line POWER (eqb value 3) (typed "power on")
    ∷ line POWER (eqb value 0) (typed "power off")
    ∷ line CLKCR (bit value 8) (typed "clock on")
    ∷ line CLKCR always (typed "clock off")
    ∷ line ARG always (typed "argument 0x" ++ hex_of 8 value)
    ∷ line CMD (bit value 10) (typed "CMD" ++ decimal_of (value % 64) ++ waits (bits value 7 6))
    ∷ line CMD always (typed "no command")
    ∷ line DTIMER always (typed "data timeout")
    ∷ line DLEN always (counted value (typed " byte"))
    ∷ line DCTRL (not (bit value 0)) (typed "data path off")
    ∷ line DCTRL (bit value 1) (typed "reads blocks of " ++ counted (2 ^ bits value 7 4) (typed " byte"))
    ∷ line DCTRL always (typed "writes blocks of " ++ counted (2 ^ bits value 7 4) (typed " byte"))
    ∷ line ICR always (typed "flags cleared")
    ∷ line MASK (eqb value 0) (typed "interrupts off")
    ∷ line DELAY always (typed "waits " ++ counted value (typed " spin"))
    ∷ line FIFO always (typed "data to the card")
    ∷ []

unfoldable pub first_line : ℕ → List Line → List ℕ
first_line register [] = []
first_line register (l ∷ ls) = cond (eqb register l.register && l.fits) (says l.text) (first_line register ls)

unfoldable pub row_meaning : ℕ → ℕ → List ℕ
row_meaning register value = first_line register (row_table value)

-- STATUS WORDS: a mask, and what it means that the word has a bit of it. All that it has are told, in this order. The checksum
-- of a response R3 never matches, for it has none: document 01 lets that pass.
pub record Flag : Type 0 where
  pub mask : ℕ
  pub text : List ℕ

abbrev pub flag : ℕ → String → Flag
flag mask text = record { mask = mask; text = typed text }

unfoldable pub flags : List Flag
flags =
    flag 0x4 "no response in time"
    ∷ flag 0x1 "response whose checksum does not match"
    ∷ flag 0x40 "response came"
    ∷ flag 0x80 "command sent"
    ∷ flag 0x8 "data not in time"
    ∷ flag 0x2 "data whose checksum does not match"
    ∷ flag 0x20 "data came faster than it was taken"
    ∷ flag 0x10 "data to send was not there in time"
    ∷ flag 0x200 "no start bit on a data line"
    ∷ flag 0x100 "all data transferred"
    ∷ flag 0x800 "command under way"
    ∷ flag 0x3000 "data under way"
    ∷ []

-- line i; no bits and no text past the last
unfoldable pub flag_at : ℕ → Flag
flag_at i = get_or flags i (flag 0 "")

-- joined by commas; where the word has none, that
abbrev pub joint : Bool → List ℕ
joint said = cond said (typed ", ") []

abbrev pub none_left : Bool → List ℕ
none_left said = cond said [] (typed "idle")

-- `said`: something was said before
unfoldable pub flags_text : Bool → List Flag → ℕ → List ℕ
flags_text said [] status = none_left said
flags_text said (f ∷ fs) status =
    cond (clear f.mask status) (flags_text said fs status) (joint said ++ f.text ++ flags_text true fs status)

-- DMA WORDS: bit 31 error, bit 30 running; the words that remain, where some do
abbrev pub channel : ℕ → List ℕ
channel word =
    cond (not (clear 0x8000_0000 word)) (typed "channel error")
    (cond (not (clear 0x4000_0000 word)) (typed "channel running")
    (typed "channel stopped"))

abbrev pub remain : ℕ → List ℕ
remain n = cond (eqb n 0) [] (typed ", " ++ counted n (typed " word") ++ typed " left")

-- READINGS: the kind, and what its word means
unfoldable pub reading_meaning : Reading → ℕ → List ℕ
reading_meaning Status word = says (flags_text false flags word)
reading_meaning RespCmd word = says (typed "answers CMD" ++ decimal_of (word % 64))
reading_meaning (Response n) word = []
reading_meaning Dma word = says (channel word ++ remain (word % 2 ^ 16))
reading_meaning DCount word = cond (eqb word 0) [] (says (counted word (typed " byte") ++ typed " left"))
reading_meaning (Data k) word = []
