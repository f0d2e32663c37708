-- Lines, computed from the definitions.
use Rattle.std.specs.Prelude.{true, false, [], ◌∷◌, ◌≡◌, refl}
use Rattle.text.specs.Digits.{decimal_in, decimal_of, hex_of}
use Rattle.text.specs.Typed.{typed}
use Rattle.types.specs.Answer.{error_told, answer_told}
use Rattle.types.specs.declared.card.Signalling.TheVariants.{SDR25}
use Rattle.types.specs.declared.card.CardCapacity.TheVariants.{SDHC}
use Rattle.types.specs.declared.error.Answer.TheVariants.{Accepted, Refused}
use Rattle.types.specs.declared.error.Error.TheVariants.{CardStatus, Timeout}
use Rattle.tape.specs.Layout.{rows_in}
use Rattle.report.specs.Report.{rows_text, carried_text, words_text, record_text, line_text, held_text, bytes_text}

two_rows : rows_text 2 (rows_in (0x34_0000_0000 ∷ 0x4_0000_0100 ∷ [])) ≡ typed "row 52 0\nrow 4 256\n"
unfolding rows_text rows_in decimal_in decimal_of
two_rows = refl

-- the list ends before the rows do
row_cut : rows_text 2 (rows_in (0x34_0000_0007 ∷ [])) ≡ typed "row 52 7\nrow 0 0\n"
unfolding rows_text rows_in decimal_in decimal_of
row_cut = refl

carries : carried_text (Refused (CardStatus 0x80000900)) ≡ typed "carried 80000900\n"
unfolding error_told answer_told hex_of
carries = refl

timeout : carried_text (Refused Timeout) ≡ []
unfolding error_told answer_told
timeout = refl

accepted : carried_text Accepted ≡ []
unfolding answer_told
accepted = refl

joined : words_text 2 (1 ∷ 0x20 ∷ 0xabc ∷ []) ≡ typed "00000001:00000020:00000abc"
unfolding words_text hex_of
joined = refl

line : line_text (record { clkcr = 16640; gated = true; clock = record { 0 = 400 }; signalling = SDR25 }) ≡ typed "state clock=400 signalling=SDR25 gated=1 clkcr=16640"
unfolding decimal_in decimal_of
line = refl

bytes : bytes_text 3 1 (0 ∷ 0x12 ∷ 0xab ∷ []) ≡ typed "12ab00"
unfolding bytes_text hex_of
bytes = refl

none : held_text false (record {
  card_type = SDHC;
  ocr = 0;
  rca = 0;
  cid = record { high = 0; low = 0 };
  csd = record { high = 0; low = 0 };
  scr = record { 0 = 0 };
  status = [];
  block_count = record { 0 = 0 };
  protection = record { permanent = true; temporary = true };
}) ≡ typed " record=none"
none = refl

held : record_text (record {
  card_type = SDHC;
  ocr = 0xc0ff8000;
  rca = 0xaaaa;
  cid = record { high = 0x0123456789abcdef; low = 1 };
  csd = record { high = 0x400e00325b590000; low = 0x0edc7f800a406001 };
  scr = record { 0 = 0x0235800000000000 };
  status = 0x80000000 ∷ 2 ∷ [];
  block_count = record { 0 = 3904 };
  protection = record { permanent = true; temporary = false };
}) ≡ typed "SDHC,c0ff8000,aaaa,0123456789abcdef0000000000000001,400e00325b5900000edc7f800a406001,0235800000000000,80000000:00000002:00000000:00000000:00000000:00000000:00000000:00000000:00000000:00000000:00000000:00000000:00000000:00000000:00000000:00000000,3904,protect=2"
unfolding record_text words_text hex_of decimal_in decimal_of
held = refl
