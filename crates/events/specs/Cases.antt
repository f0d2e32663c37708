-- Lines, computed from the definitions.
use Rattle.std.specs.Prelude.{true, false, ◌≡◌, refl, []}
use Rattle.text.specs.Digits.{decimal_in, decimal_of, hex_of}
use Rattle.text.specs.Typed.{typed}
use Rattle.tape.specs.Rows.{CMD, DCTRL, DCTRL2, FIFO, cmd_of, dctrl_of}
use Rattle.tape.specs.declared.script.Reading.TheVariants as Reading
use Rattle.events.specs.declared.event.Event.TheVariants.{Read, Missed, Wrote}
use Rattle.events.specs.Event.{event_text}
use Rattle.events.specs.Meaning.{row_table, first_line, row_meaning, flags, flags_text, reading_meaning}

command : event_text (Wrote (record { register = 4; value = 1101 })) ≡ typed "row 4 1101  CMD13, short response\n"
unfolding event_text row_table first_line row_meaning decimal_in decimal_of
command = refl

-- the values of document 01's packing
long : row_meaning CMD (cmd_of 2 3) ≡ typed "  CMD2, long response"
unfolding row_table first_line row_meaning decimal_in decimal_of
long = refl

blocks : row_meaning DCTRL (dctrl_of true 9) ≡ typed "  reads blocks of 512 bytes"
unfolding row_table first_line row_meaning decimal_in decimal_of
blocks = refl

-- a write's, and a word of its data
written : row_meaning DCTRL (dctrl_of false 9) ≡ typed "  writes blocks of 512 bytes"
unfolding row_table first_line row_meaning decimal_in decimal_of
written = refl

sent : event_text (Wrote (record { register = FIFO; value = 1101 })) ≡ typed "row 12 1101  data to the card\n"
unfolding event_text row_table first_line row_meaning decimal_in decimal_of
sent = refl

unsaid : row_meaning DCTRL2 0 ≡ []
unfolding row_table first_line row_meaning
unsaid = refl

late : event_text (Read Reading.Status 4) ≡ typed "read status 0x00000004  no response in time\n"
unfolding event_text flags flags_text reading_meaning hex_of
late = refl

several : reading_meaning Reading.Status 0x2140 ≡ typed "  response came, all data transferred, data under way"
unfolding flags flags_text reading_meaning
several = refl

idle : reading_meaning Reading.Status 0x400 ≡ typed "  idle"
unfolding flags flags_text reading_meaning
idle = refl

response : event_text (Read (Reading.Response 0) 0x900) ≡ typed "read response 0 0x00000900\n"
unfolding event_text reading_meaning hex_of decimal_in decimal_of
response = refl

echo : reading_meaning Reading.RespCmd 77 ≡ typed "  answers CMD13"
unfolding reading_meaning decimal_in decimal_of
echo = refl

stopped : reading_meaning Reading.Dma 0 ≡ typed "  channel stopped"
unfolding reading_meaning
stopped = refl

running : reading_meaning Reading.Dma 0x4000_0001 ≡ typed "  channel running, 1 word left"
unfolding reading_meaning decimal_in decimal_of
running = refl

missed : event_text (Missed (Reading.Data 127)) ≡ typed "read data 127 none  the script ended\n"
unfolding event_text decimal_in decimal_of
missed = refl
