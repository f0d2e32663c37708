-- Document 01, 'Script and rows', and P5 of document 02: the rows by number, and how their values are packed.
use Rattle.std.specs.Prelude.{ℕ, ◌+◌, ◌*◌, ◌/◌, ◌%◌, ◌≡◌, Bool, true, false, cond}
use Rattle.std.proofs.Common.{arith}
use Rattle.types.specs.declared.clock.Clock.{Clock}

abbrev pub POWER : ℕ
POWER = 1

abbrev pub CLKCR : ℕ
CLKCR = 2

abbrev pub ARG : ℕ
ARG = 3

abbrev pub CMD : ℕ
CMD = 4

abbrev pub DTIMER : ℕ
DTIMER = 5

abbrev pub DLEN : ℕ
DLEN = 6

abbrev pub DCTRL : ℕ
DCTRL = 7

abbrev pub ICR : ℕ
ICR = 8

abbrev pub MASK : ℕ
MASK = 9

abbrev pub DCTRL2 : ℕ
DCTRL2 = 10

-- the spin count of a delay
abbrev pub DELAY : ℕ
DELAY = 11

-- a word sent to the card
abbrev pub FIFO : ℕ
FIFO = 12

-- CLKCR = divisor field + 256 if enabled + 2048 if wide + 1024 and 16384 (flow control) if bypass
abbrev pub clkcr_of : Clock → Bool → Bool → ℕ
clkcr_of clock wide on = clock.divisor + cond on 256 0 + cond wide 2048 0 + cond clock.bypass (1024 + 16384) 0

-- a CLKCR value, its bit of 256 as asked
abbrev pub clken_of : ℕ → Bool → ℕ
clken_of value on = value / 512 * 512 + value % 256 + cond on 256 0

-- the bits below it and above it are as they were
pub clken_alone : (value : ℕ) (on : Bool)
    → (clken_of value on % 256 ≡ value % 256) × (clken_of value on / 256 % 2 ≡ cond on 1 0) × (clken_of value on / 512 ≡ value / 512)
clken_alone value true = omega arith
clken_alone value false = omega arith

-- CMD = index + 64 * wait kind + 1024
abbrev pub cmd_of : ℕ → ℕ → ℕ
cmd_of index wait = index + 64 * wait + 1024

-- DCTRL = 9 + 2 if reading + 16 * block size
abbrev pub dctrl_of : Bool → ℕ → ℕ
dctrl_of reading size = 9 + cond reading 2 0 + 16 * size
