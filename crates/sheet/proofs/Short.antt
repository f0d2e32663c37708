-- No line of a call is longer than 512 bytes, so each stands on its sheet whole.
use Prim.Native.Nat.{ℕ, zero, suc, ◌+◌, ◌*◌, ◌%◌, ◌^◌, ◌≤◌, ◌<◌}
use mathlib.Core.Path.{◌≡◌}
use mathlib.Core.Bool.{Bool, true, false, cond, not, ◌&&◌}
use mathlib.Core.List.{List, [], ◌∷◌, ◌++◌}
use native.Mathlib.Omega.{arith}
use lib.Dec.{eqb}
use lib.ListN.{length, length-append}
use lib.Pow.{pow-lt}
use Rattle.text.specs.Digits.{decimal_of}
use Rattle.text.specs.Typed.{typed}
use Rattle.text.proofs.Decimal.{digits-at-most, ten-digits}
use Rattle.text.proofs.Hex.{hex_length}
use Rattle.types.specs.Bits.{bits, clear}
use Rattle.tape.specs.declared.script.Reading.{Reading}
use Rattle.tape.specs.declared.script.Reading.TheVariants.{Status, RespCmd, Response, Dma, DCount, Data}
use Rattle.tape.proofs.Laws.{by_cases}
use Rattle.types.specs.Answer.{flag}
use Rattle.types.specs.Leaf.{protect_number}
use Rattle.types.specs.declared.card.Card.{Card}
use Rattle.types.specs.declared.error.Answer.{Answer}
use Rattle.types.specs.declared.register.Protection.{Protection}
use Rattle.types.specs.declared.card.CardCapacity.{CardCapacity}
use Rattle.types.specs.declared.card.CardCapacity.TheVariants.{SDSC, SDHC}
use Rattle.types.specs.declared.card.Signalling.{Signalling}
use Rattle.types.specs.declared.card.Signalling.TheVariants.{SDR12, SDR25}
use Rattle.host.specs.declared.host.Sdmmc.{Sdmmc}
use Rattle.book.specs.declared.layout.Asked.{Asked}
use Rattle.book.specs.Lines.{answer_text, call_line}
use Rattle.book.proofs.Short.{answer-short, protect-most, protect-short}
use Rattle.report.specs.Report.{words_text, class_text, record_text, signalling_text, held_text, state_text}
use Rattle.sheet.specs.Lines.{begins_text}
use Rattle.events.specs.declared.event.Event.{Event}
use Rattle.events.specs.declared.event.Event.TheVariants.{Read, Missed, Wrote}
use Rattle.events.specs.Event.{kind_text, event_text}
use Rattle.events.specs.Meaning.{says, plural, counted, waits, Line, row_table, first_line, row_meaning, Flag, flags, joint, flags_text, channel, remain, reading_meaning}

-- a text of two, either of which is short
one_of : (b : Bool) (xs ys : List ℕ) {n : ℕ} → length xs ≤ n → length ys ≤ n → length (cond b xs ys) ≤ n
one_of b xs ys {n} p q = by_cases (λ (x : List ℕ). length x ≤ n) b xs ys p q

plural-short : (n : ℕ) → length (plural n) ≤ 1
plural-short n = one_of (eqb n 1) [] (typed "s") (omega arith) (omega arith)

counted-short : (n : ℕ) (noun : List ℕ) {m : ℕ} → n < 2 ^ 32 → length noun ≤ m → length (counted n noun) ≤ 10 + m + 1
counted-short n noun small p = rw (length-append, length-append) (omega (arith, ten-digits n small, p, plural-short n))

-- ROWS. Each line of the table
waits-short : (kind : ℕ) → length (waits kind) ≤ 16
waits-short kind =
    one_of (eqb kind 0) _ _ (omega arith) (one_of (eqb kind 1) _ _ (omega arith) (one_of (eqb kind 3) _ _ (omega arith) (omega arith)))

unfoldable Short : List Line → Type 0
Short [] = Unit {0}
Short (l ∷ ls) = (length l.text ≤ 60) × Short ls

first_short : (register : ℕ) (ls : List Line) → Short ls → length (first_line register ls) ≤ 62
unfolding first_line Short
first_short register [] h = omega arith
first_short register (l ∷ ls) h =
    one_of (eqb register l.register && l.fits) (says l.text) (first_line register ls) (rw length-append (omega (arith, h.0)))
    (first_short register ls h.1)

small_power : (value : ℕ) → 2 ^ bits value 7 4 < 2 ^ 32
small_power value = pow-lt {j = 32} (omega arith)

table-short : (value : ℕ) → value < 2 ^ 32 → Short (row_table value)
unfolding row_table Short
table-short value small = (
  omega arith,
  (
    omega arith,
    (
      omega arith,
      (
        omega arith,
        (
          rw (length-append, hex_length) (omega arith),
          (
            rw (length-append, length-append) (omega (arith, ten-digits (value % 64) (omega arith), waits-short (bits value 7 6))),
            (
              omega arith,
              (
                omega arith,
                (
                  rw (length-append, length-append) (omega (arith, ten-digits value small, plural-short value)),
                  (
                    omega arith,
                    (
                      rw (length-append, length-append, length-append) (omega (arith, ten-digits (2 ^ bits value 7 4) (small_power value), plural-short (2 ^ bits value 7 4))),
                      (
                        rw (length-append, length-append, length-append) (omega (arith, ten-digits (2 ^ bits value 7 4) (small_power value), plural-short (2 ^ bits value 7 4))),
                        (
                          omega arith,
                          (
                            omega arith,
                            (
                              rw (length-append, length-append, length-append) (omega (arith, ten-digits value small, plural-short value)),
                              (omega arith, tt),
                            ),
                          ),
                        ),
                      ),
                    ),
                  ),
                ),
              ),
            ),
          ),
        ),
      ),
    ),
  ),
)

row-short : (register value : ℕ) → value < 2 ^ 32 → length (row_meaning register value) ≤ 62
unfolding row_meaning
row-short register value small = first_short register (row_table value) (table-short value small)

-- STATUS WORDS: all that the table has, with what joins them
total : List Flag → ℕ
total [] = 4
total (f ∷ fs) = 2 + length f.text + total fs

joint-short : (said : Bool) → length (joint said) ≤ 2
joint-short true = omega arith
joint-short false = omega arith

flags-short : (said : Bool) (fs : List Flag) (status : ℕ) → length (flags_text said fs status) ≤ total fs
unfolding flags_text total
flags-short true [] status = omega arith
flags-short false [] status = omega arith
flags-short said (f ∷ fs) status =
    one_of (clear f.mask status) (flags_text said fs status) (joint said ++ f.text ++ flags_text true fs status) (omega (arith, flags-short said fs status))
    (rw (length-append, length-append) (omega (arith, joint-short said, flags-short true fs status)))

status-short : (status : ℕ) → length (flags_text false flags status) ≤ 400
unfolding flags total
status-short status = omega (arith, flags-short false flags status)

-- READINGS
channel-short : (word : ℕ) → length (channel word) ≤ 15
channel-short word =
    one_of (not (clear 0x8000_0000 word)) _ _ (omega arith) (one_of (not (clear 0x4000_0000 word)) _ _ (omega arith) (omega arith))

remain-short : (n : ℕ) → n < 2 ^ 32 → length (remain n) ≤ 40
remain-short n small =
    one_of (eqb n 0) [] (typed ", " ++ counted n (typed " word") ++ typed " left") (omega arith)
    (rw (length-append, length-append) (omega (arith, counted-short n (typed " word") {m = 5} small (omega arith))))

meaning_short : (reading : Reading) (word : ℕ) → word < 2 ^ 32 → length (reading_meaning reading word) ≤ 402
unfolding reading_meaning
meaning_short Status word small = rw length-append (omega (arith, status-short word))
meaning_short RespCmd word small = rw (length-append, length-append) (omega (arith, ten-digits (word % 64) (omega arith)))
meaning_short (Response n) word small = omega arith
meaning_short Dma word small = rw (length-append, length-append) (omega (arith, channel-short word, remain-short (word % 2 ^ 16) (omega arith)))
meaning_short DCount word small =
    one_of (eqb word 0) [] (says (counted word (typed " byte") ++ typed " left")) (omega arith)
    (rw (length-append, length-append) (omega (arith, counted-short word (typed " byte") {m = 5} small (omega arith))))
meaning_short (Data k) word small = omega arith

-- THE LINES, of numbers that their types hold
abbrev pub SmallReading : Reading → Type 0
SmallReading Status = Unit {0}
SmallReading RespCmd = Unit {0}
SmallReading (Response n) = n < 2 ^ 32
SmallReading Dma = Unit {0}
SmallReading DCount = Unit {0}
SmallReading (Data k) = k < 2 ^ 32

abbrev pub Small : Event → Type 0
Small (Read reading word) = SmallReading reading × (word < 2 ^ 32)
Small (Missed reading) = SmallReading reading
Small (Wrote row) = (row.register < 2 ^ 32) × (row.value < 2 ^ 32)

kind-short : (reading : Reading) → SmallReading reading → length (kind_text reading) ≤ 19
kind-short Status small = omega arith
kind-short RespCmd small = omega arith
kind-short (Response n) small = rw length-append (omega (arith, ten-digits n small))
kind-short Dma small = omega arith
kind-short DCount small = omega arith
kind-short (Data k) small = rw length-append (omega (arith, ten-digits k small))

pub event-short : (event : Event) → Small event → length (event_text event) ≤ 512
unfolding event_text
event-short (Read reading word) small =
    rw (length-append, length-append, length-append, length-append, length-append, hex_length)
    (omega (arith, kind-short reading small.0, meaning_short reading word small.1))
event-short (Missed reading) small = rw (length-append, length-append, length-append) (omega (arith, kind-short reading small))
event-short (Wrote row) small =
    rw (length-append, length-append, length-append, length-append, length-append)
    (omega (arith, ten-digits row.register small.0, ten-digits row.value small.1, row-short row.register row.value small.1))

pub begins-short : (number : ℕ) (asked : Asked) → number < 2 ^ 32 → asked.kind < 2 ^ 32 → asked.a < 2 ^ 32 → asked.b < 2 ^ 32
    → length (begins_text number asked) ≤ 512
begins-short number asked n k a b =
    rw (length-append, length-append, length-append, length-append, length-append, length-append, length-append)
    (omega (arith, ten-digits number n, ten-digits asked.kind k, ten-digits asked.a a, ten-digits asked.b b))

twenty_digits : (n : ℕ) → n < 2 ^ 64 → length (decimal_of n) ≤ 20
twenty_digits n h = digits-at-most 19 n (omega arith)

pub called-short : (number kind : ℕ) (answer : Answer) (words rows : ℕ) (protection : Protection) → number < 2 ^ 64 → words < 2 ^ 64 → rows < 2 ^ 64
    → length (call_line number kind answer words rows protection) ≤ 512
called-short number kind answer words rows protection n w r =
    let few : length (answer_text answer) ≤ 18 = answer-short answer in
    rw (length-append, length-append, length-append, length-append, length-append, length-append, length-append, length-append, length-append)
    (omega (arith, twenty_digits number n, rw (length-append, length-append) at few, twenty_digits words w, twenty_digits rows r, protect-short kind answer protection))

-- THE STATE: all but the clock, CLKCR and the blocks has digits of one number
words-length : (n : ℕ) (words : List ℕ) → length (words_text n words) ≡ 9 * n + 8
unfolding words_text
words-length zero words = hex_length 8 _
words-length (suc n) words = rw (length-append, length-append, hex_length, words-length n words) (omega arith)

class_short : (class : CardCapacity) → length (class_text class) ≤ 4
class_short SDSC = omega arith
class_short SDHC = omega arith

signalling-short : (signalling : Signalling) → length (signalling_text signalling) ≤ 5
signalling-short SDR12 = omega arith
signalling-short SDR25 = omega arith

flag-short : (on : Bool) → flag on < 2 ^ 32
flag-short true = omega arith
flag-short false = omega arith

record_short : (card : Card) → card.block_count.0 < 2 ^ 64 → length (record_text card) ≤ 320
unfolding record_text
record_short card blocks =
    rw (length-append, length-append, length-append, length-append, length-append, length-append, length-append, length-append, length-append, length-append, length-append, length-append, length-append, length-append, hex_length, hex_length, hex_length, hex_length, hex_length, words-length)
    (omega (arith, class_short card.card_type, twenty_digits card.block_count.0 blocks, digits-at-most 0 (protect_number card.protection) (omega (arith, protect-most card.protection))))

pub state-short : (host : Sdmmc) → host.line.clock.0 < 2 ^ 32 → host.line.clkcr < 2 ^ 32 → host.card.block_count.0 < 2 ^ 64
    → length (state_text host) ≤ 512
unfolding state_text
state-short host clock clkcr blocks =
    let held : length (held_text host.known host.card) ≤ 328 =
    rw length-append
    (omega (arith, one_of host.known (record_text host.card) (typed "none") {n = 320} (record_short host.card blocks) (omega arith)))
    in
    rw (length-append, length-append, length-append, length-append, length-append, length-append, length-append, length-append, length-append)
    (omega (arith, held, ten-digits host.line.clock.0 clock, signalling-short host.line.signalling, ten-digits (flag host.line.gated) (flag-short host.line.gated), ten-digits host.line.clkcr clkcr))
