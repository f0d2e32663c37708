-- Calls that the original driver was run on, computed here from the definitions: the scripts, rows, words used
-- and hosts are the driver's. The last case is of what the driver does not have, write protection.
use Rattle.std.specs.Prelude.{ℕ, Bool, true, false, List, [], ◌∷◌, ◌++◌, map, ◌≡◌, refl, replicate, take}
use Rattle.types.specs.declared.card.CardCapacity.TheVariants.{SDSC, SDHC}
use Rattle.types.specs.declared.card.Signalling.TheVariants.{SDR12, SDR25}
use Rattle.types.specs.declared.error.Answer.{Answer}
use Rattle.types.specs.declared.error.Answer.TheVariants.{Accepted, Refused, ScriptEnded, TraceFull}
use Rattle.types.specs.declared.error.Error.TheVariants.{UnsupportedCardType, InvalidBufferLength, AddressOutOfRange, WriteProtected}
use Rattle.types.specs.declared.error.Field.{Field}
use Rattle.types.specs.declared.error.Field.TheVariants.{BlockLength, CsdAndOcr}
use Rattle.types.specs.Leaf.{protection_of, divisor_of, clock_of, first_match, data_of, count_of, rate_of, units_of, address_of}
use Rattle.types.specs.Settings.{made_of}
use Rattle.types.specs.Words.{bytes_of, counted, sd_status_of, halves_of, scr_of}
use Rattle.tape.specs.declared.rows.Row.{Row}
use Rattle.tape.specs.Layout.{row_of, rows_of_pairs}
use Rattle.tape.specs.Plan.{handle, ensure, until}
use Rattle.tape.specs.Run.{noted, run}
use Rattle.tape.specs.Steps.{word, row, hold_gated, hold_clock, hold_signalling, wait_idle, reset_controller, stop_data, set_clken, data_from}
use Rattle.bus.specs.Clock.{configure_clock, clock_delay}
use Rattle.bus.specs.Command.{form_of, issue, poll_completion, wait_completion, echo, response_words, judge, answer, complete, command_inner, command, app_command}
use Rattle.bus.specs.Ready.{retry_delay, read_status, try_ready, wait_ready}
use Rattle.bus.specs.Transfer.{arm, ready_data, order_data, before_command, after_command, landed, start_data, clean, poll_transfer, drained, settle, data_complete, wait_data, receive, close_gate, stop_transmission, end_data, transfer_data, blocking_data}
use Rattle.init.specs.declared.settings.Settings.{Settings}
use Rattle.init.specs.Initialise.{no_card, version, timed_out, late, card_version, power_on, begin_init, power_up, try_power_up, wait_power_up, select, publish, identify, block_length, read_scr, set_width, set_clock, transfer_clock, take_switch, ask_switch, switch_speed, settle_card, init_card, initialise}
use Rattle.host.specs.declared.host.Sdmmc.{Sdmmc}
use Rattle.host.specs.Calls.{Came, host_of, ends, init_from, initialised, transferred, approached, served, blocks_from, blocks_judged, blocks_came, read_came, write_came, status_came, clocked_host, judged_host, made}

-- a list of zeros, with room for this many rows
abbrev empty : ℕ → List Row
empty n = replicate n (row_of 0)

abbrev narrow_settings : Settings
narrow_settings =
    record {
      source = record { 0 = 73720748 };
      config = record { data_transfer_timeout = 36338; software_timeout_ms = 2384408; poll_limit = 1; card_ready_attempts = 1; allow_clock_bypass = false };
      wide = false;
    }

-- a card of high capacity; its OCR, and the second word of its CSD, which has the block length
abbrev narrow_with : ℕ → ℕ → List ℕ
narrow_with ocr word = 0 ∷ 0 ∷ 269549760 ∷ 606076928 ∷ 9437444 ∷ 73662976 ∷ 64 ∷ 55 ∷ 3875 ∷ 671089312 ∷ 0 ∷ 0 ∷ 157828762 ∷ 65 ∷ ocr ∷ 0 ∷ 0 ∷ 2133073423 ∷ 0 ∷ 64 ∷ 1363105886 ∷ 3602674092 ∷ 278691089 ∷ 2484127850 ∷ 0 ∷ 608 ∷ 3 ∷ 225443840 ∷ 0 ∷ 0 ∷ 0 ∷ 679772240 ∷ 16777410 ∷ 1199719474 ∷ word ∷ 2033905322 ∷ 3972122997 ∷ 0 ∷ 64 ∷ 7 ∷ 385 ∷ 3657112394 ∷ 0 ∷ 3280782271 ∷ 131072 ∷ 10485824 ∷ 13 ∷ 2304 ∷ 1075904528 ∷ 4214143995 ∷ 8388608 ∷ 286261512 ∷ 337643584 ∷ 55 ∷ 32 ∷ 0 ∷ 2033306392 ∷ 0 ∷ 0 ∷ 0 ∷ 64 ∷ 51 ∷ 0 ∷ 0 ∷ 100728832 ∷ 0 ∷ 8388672 ∷ 2114560 ∷ 268501248 ∷ 2065563648 ∷ 0 ∷ 971834752 ∷ 606907149 ∷ 329105589 ∷ 2126491346 ∷ 13 ∷ 2304 ∷ 335545344 ∷ 0 ∷ 11018240 ∷ 670975128 ∷ 64 ∷ 55 ∷ 96 ∷ 0 ∷ 0 ∷ 982172944 ∷ 268517504 ∷ 64 ∷ 6 ∷ 7904 ∷ 0 ∷ 3388999808 ∷ 1380566294 ∷ 0 ∷ []

abbrev narrow_script : List ℕ
narrow_script = narrow_with 3260648877 0x7cc9_8f18

abbrev narrow_rows : List Row
narrow_rows = rows_of_pairs (9 ∷ 0 ∷ 10 ∷ 0 ∷ 7 ∷ 0 ∷ 4 ∷ 0 ∷ 1 ∷ 0 ∷ 2 ∷ 0 ∷ 3 ∷ 0 ∷ 5 ∷ 0 ∷ 6 ∷ 0 ∷ 8 ∷ 12584959 ∷ 2 ∷ 183 ∷ 1 ∷ 3 ∷ 2 ∷ 439 ∷ 11 ∷ 14880 ∷ 8 ∷ 197 ∷ 3 ∷ 0 ∷ 4 ∷ 1024 ∷ 8 ∷ 197 ∷ 3 ∷ 426 ∷ 4 ∷ 1096 ∷ 8 ∷ 197 ∷ 3 ∷ 0 ∷ 4 ∷ 1143 ∷ 8 ∷ 197 ∷ 3 ∷ 3145728 ∷ 4 ∷ 1129 ∷ 8 ∷ 197 ∷ 3 ∷ 0 ∷ 4 ∷ 1218 ∷ 8 ∷ 197 ∷ 3 ∷ 0 ∷ 4 ∷ 1091 ∷ 8 ∷ 197 ∷ 3 ∷ 225443840 ∷ 4 ∷ 1225 ∷ 8 ∷ 197 ∷ 3 ∷ 225443840 ∷ 4 ∷ 1095 ∷ 8 ∷ 197 ∷ 3 ∷ 225443840 ∷ 4 ∷ 1101 ∷ 8 ∷ 197 ∷ 3 ∷ 225443840 ∷ 4 ∷ 1143 ∷ 10 ∷ 0 ∷ 9 ∷ 0 ∷ 7 ∷ 0 ∷ 8 ∷ 1850 ∷ 5 ∷ 36338 ∷ 6 ∷ 8 ∷ 7 ∷ 59 ∷ 2 ∷ 439 ∷ 8 ∷ 197 ∷ 3 ∷ 0 ∷ 4 ∷ 1139 ∷ 9 ∷ 0 ∷ 7 ∷ 0 ∷ 8 ∷ 1850 ∷ 8 ∷ 197 ∷ 3 ∷ 225443840 ∷ 4 ∷ 1101 ∷ 8 ∷ 197 ∷ 3 ∷ 225443840 ∷ 4 ∷ 1143 ∷ 8 ∷ 197 ∷ 3 ∷ 0 ∷ 4 ∷ 1094 ∷ 2 ∷ 1 ∷ [])

pub narrow : initialised (made narrow_settings).host 39172822 narrow_script (empty 68)
    ≡ record {
      answer = Accepted;
      words = 95;
      rows = 68;
      list = narrow_rows;
      taken = [];
      host = host_of narrow_settings (record { clkcr = 1; gated = true; clock = record { 0 = 24573582 }; signalling = SDR12 }) true
          (record { card_type = SDHC; ocr = 3260648877; rca = 3440; cid = record { high = 5854495204957778348; low = 1196969115425753194 }; csd = record { high = 5152755907297906456; low = 8735556845122472309 }; scr = record { 0 = 9225040241036569636 }; status = 0 ∷ 0 ∷ 0 ∷ 0 ∷ 0 ∷ 0 ∷ 0 ∷ 0 ∷ 0 ∷ 0 ∷ 0 ∷ 0 ∷ 0 ∷ 0 ∷ 0 ∷ 0 ∷ []; block_count = record { 0 = 1642392576 }; protection = record { permanent = false; temporary = false } });
    }
unfolding rows_of_pairs ensure word timed_out divisor_of clock_of first_match data_of count_of rate_of protection_of made_of bytes_of halves_of scr_of handle until noted run row hold_gated hold_clock hold_signalling wait_idle reset_controller stop_data set_clken data_from configure_clock clock_delay form_of issue poll_completion wait_completion echo response_words judge answer complete command_inner command app_command retry_delay read_status try_ready wait_ready arm ready_data order_data before_command after_command landed start_data clean poll_transfer drained settle data_complete wait_data receive close_gate stop_transmission end_data transfer_data blocking_data version late card_version power_on begin_init power_up try_power_up wait_power_up select publish identify block_length read_scr set_width set_clock transfer_clock take_switch ask_switch switch_speed settle_card init_card initialise ends init_from initialised transferred approached served blocks_from blocks_judged blocks_came status_came units_of address_of counted sd_status_of clocked_host judged_host made
narrow = refl

abbrev switched_settings : Settings
switched_settings =
    record {
      source = record { 0 = 5 };
      config = record { data_transfer_timeout = 23775819; software_timeout_ms = 40; poll_limit = 1; card_ready_attempts = 1; allow_clock_bypass = false };
      wide = true;
    }

abbrev switched_script : List ℕ
switched_script = 2552234084 ∷ 75563008 ∷ 128 ∷ 0 ∷ 3554326775 ∷ 2097447562 ∷ 1669036914 ∷ 55 ∷ 32 ∷ 0 ∷ 782059907 ∷ 2533536431 ∷ 953779295 ∷ 366659 ∷ 3214741106 ∷ 0 ∷ 0 ∷ 0 ∷ 0 ∷ 64 ∷ 2055419976 ∷ 2379520113 ∷ 1391429628 ∷ 177193069 ∷ 1467515379 ∷ 222924002 ∷ 3932735299 ∷ 1068433408 ∷ 0 ∷ 0 ∷ 0 ∷ 2765488229 ∷ 64 ∷ 287562618 ∷ 3318376448 ∷ 3375662575 ∷ 1266198107 ∷ 2878521557 ∷ 64 ∷ 7 ∷ 0 ∷ 1028515100 ∷ 0 ∷ 0 ∷ 151650560 ∷ 64 ∷ 13 ∷ 2368 ∷ 165411545 ∷ 0 ∷ 0 ∷ 0 ∷ 201855426 ∷ 16 ∷ 4096 ∷ 0 ∷ 0 ∷ 0 ∷ 0 ∷ 1664111074 ∷ 16778423 ∷ 32 ∷ 0 ∷ 0 ∷ 67108896 ∷ 0 ∷ 2149580802 ∷ 3541210314 ∷ 717731827 ∷ 0 ∷ 1395849412 ∷ 0 ∷ 0 ∷ 3765795972 ∷ 4194432 ∷ 704643329 ∷ 131072 ∷ 0 ∷ 165836267 ∷ 1907432668 ∷ 3397649457 ∷ 1890219378 ∷ 4248687821 ∷ 2515 ∷ 0 ∷ 32 ∷ 1839104 ∷ 337657857 ∷ 64 ∷ 55 ∷ 180 ∷ 0 ∷ 1699384612 ∷ 0 ∷ 0 ∷ 64 ∷ 274989190 ∷ 0 ∷ 541067328 ∷ 0 ∷ 1570407964 ∷ 0 ∷ 514 ∷ 0 ∷ 64 ∷ 6 ∷ 8182 ∷ 0 ∷ 35930661 ∷ 269008905 ∷ 0 ∷ 0 ∷ 256 ∷ 1081081856 ∷ 0 ∷ 1310938 ∷ 143558144 ∷ 2080 ∷ 512 ∷ 2833511424 ∷ 1073762816 ∷ 26 ∷ 8060945 ∷ 0 ∷ 11862170 ∷ 6946917 ∷ 0 ∷ 32 ∷ 53504 ∷ 0 ∷ 3424845824 ∷ 1024 ∷ 64 ∷ 8413197 ∷ 2304 ∷ 3636281121 ∷ 201326668 ∷ 3288339072 ∷ 0 ∷ 0 ∷ 64 ∷ 2218163270 ∷ 1028 ∷ 0 ∷ 0 ∷ 115880 ∷ 0 ∷ 0 ∷ 256 ∷ 2133983232 ∷ 0 ∷ 3180568 ∷ 178 ∷ 0 ∷ 0 ∷ 3221225473 ∷ 5767205 ∷ 1527793856 ∷ 3909091476 ∷ 1718943744 ∷ 0 ∷ 1078132736 ∷ 12060936 ∷ 134217920 ∷ 83996416 ∷ 12582912 ∷ 40960 ∷ 29589738 ∷ 64 ∷ 1735389965 ∷ 2304 ∷ 1424255887 ∷ 536887360 ∷ 0 ∷ 2555938309 ∷ []

abbrev switched_rows : List Row
switched_rows = rows_of_pairs (9 ∷ 0 ∷ 10 ∷ 0 ∷ 7 ∷ 0 ∷ 4 ∷ 0 ∷ 1 ∷ 0 ∷ 2 ∷ 0 ∷ 3 ∷ 0 ∷ 5 ∷ 0 ∷ 6 ∷ 0 ∷ 8 ∷ 12584959 ∷ 2 ∷ 0 ∷ 1 ∷ 3 ∷ 2 ∷ 256 ∷ 11 ∷ 240 ∷ 8 ∷ 197 ∷ 3 ∷ 0 ∷ 4 ∷ 1024 ∷ 8 ∷ 197 ∷ 3 ∷ 426 ∷ 4 ∷ 1096 ∷ 8 ∷ 197 ∷ 3 ∷ 0 ∷ 4 ∷ 1143 ∷ 8 ∷ 197 ∷ 3 ∷ 3145728 ∷ 4 ∷ 1129 ∷ 8 ∷ 197 ∷ 3 ∷ 0 ∷ 4 ∷ 1218 ∷ 8 ∷ 197 ∷ 3 ∷ 0 ∷ 4 ∷ 1091 ∷ 8 ∷ 197 ∷ 3 ∷ 1068433408 ∷ 4 ∷ 1225 ∷ 8 ∷ 197 ∷ 3 ∷ 1068433408 ∷ 4 ∷ 1095 ∷ 8 ∷ 197 ∷ 3 ∷ 1068433408 ∷ 4 ∷ 1101 ∷ 8 ∷ 197 ∷ 3 ∷ 512 ∷ 4 ∷ 1104 ∷ 8 ∷ 197 ∷ 3 ∷ 1068433408 ∷ 4 ∷ 1143 ∷ 10 ∷ 0 ∷ 9 ∷ 0 ∷ 7 ∷ 0 ∷ 8 ∷ 1850 ∷ 5 ∷ 23775819 ∷ 6 ∷ 8 ∷ 7 ∷ 59 ∷ 2 ∷ 256 ∷ 8 ∷ 197 ∷ 3 ∷ 0 ∷ 4 ∷ 1139 ∷ 9 ∷ 0 ∷ 7 ∷ 0 ∷ 8 ∷ 1850 ∷ 8 ∷ 197 ∷ 3 ∷ 1068433408 ∷ 4 ∷ 1101 ∷ 8 ∷ 197 ∷ 3 ∷ 1068433408 ∷ 4 ∷ 1143 ∷ 8 ∷ 197 ∷ 3 ∷ 2 ∷ 4 ∷ 1094 ∷ 2 ∷ 2048 ∷ 10 ∷ 0 ∷ 9 ∷ 0 ∷ 7 ∷ 0 ∷ 8 ∷ 1850 ∷ 5 ∷ 23775819 ∷ 6 ∷ 64 ∷ 7 ∷ 107 ∷ 2 ∷ 2304 ∷ 8 ∷ 197 ∷ 3 ∷ 16777201 ∷ 4 ∷ 1094 ∷ 9 ∷ 0 ∷ 7 ∷ 0 ∷ 8 ∷ 1850 ∷ 2 ∷ 2048 ∷ 2 ∷ 2304 ∷ 8 ∷ 197 ∷ 3 ∷ 1068433408 ∷ 4 ∷ 1101 ∷ 2 ∷ 2048 ∷ 10 ∷ 0 ∷ 9 ∷ 0 ∷ 7 ∷ 0 ∷ 8 ∷ 1850 ∷ 5 ∷ 23775819 ∷ 6 ∷ 64 ∷ 7 ∷ 107 ∷ 2 ∷ 2304 ∷ 8 ∷ 197 ∷ 3 ∷ 2164260849 ∷ 4 ∷ 1094 ∷ 9 ∷ 0 ∷ 7 ∷ 0 ∷ 8 ∷ 1850 ∷ 2 ∷ 2048 ∷ 2 ∷ 2304 ∷ 8 ∷ 197 ∷ 3 ∷ 1068433408 ∷ 4 ∷ 1101 ∷ 2 ∷ 2048 ∷ 11 ∷ 24 ∷ 2 ∷ 2048 ∷ [])

pub switched : initialised (made switched_settings).host 36134534 switched_script (empty 113)
    ≡ record {
      answer = Accepted;
      words = 175;
      rows = 113;
      list = switched_rows;
      taken = [];
      host = host_of switched_settings (record { clkcr = 2048; gated = true; clock = record { 0 = 2 }; signalling = SDR25 }) true
          (record { card_type = SDSC; ocr = 3214741106; rca = 16303; cid = record { high = 8827961578844625009; low = 5976144747122638957 }; csd = record { high = 1235072043180517376; low = 14498360363222345307 }; scr = record { 0 = 16966715703163662705 }; status = 0 ∷ 0 ∷ 0 ∷ 0 ∷ 0 ∷ 0 ∷ 0 ∷ 0 ∷ 0 ∷ 0 ∷ 0 ∷ 0 ∷ 0 ∷ 0 ∷ 0 ∷ 0 ∷ []; block_count = record { 0 = 64 }; protection = record { permanent = true; temporary = false } });
    }
unfolding rows_of_pairs ensure word timed_out divisor_of clock_of first_match data_of count_of rate_of protection_of made_of bytes_of halves_of scr_of handle until noted run row hold_gated hold_clock hold_signalling wait_idle reset_controller stop_data set_clken data_from configure_clock clock_delay form_of issue poll_completion wait_completion echo response_words judge answer complete command_inner command app_command retry_delay read_status try_ready wait_ready arm ready_data order_data before_command after_command landed start_data clean poll_transfer drained settle data_complete wait_data receive close_gate stop_transmission end_data transfer_data blocking_data version late card_version power_on begin_init power_up try_power_up wait_power_up select publish identify block_length read_scr set_width set_clock transfer_clock take_switch ask_switch switch_speed settle_card init_card initialise ends init_from initialised transferred approached served blocks_from blocks_judged blocks_came status_came units_of address_of counted sd_status_of clocked_host judged_host made
switched = refl

abbrev blocks_settings : Settings
blocks_settings =
    record {
      source = record { 0 = 1000 };
      config = record { data_transfer_timeout = 114; software_timeout_ms = 4294967295; poll_limit = 1; card_ready_attempts = 1; allow_clock_bypass = true };
      wide = true;
    }

-- with its card protected so, or not
abbrev protected_host : Bool → Bool → Sdmmc
protected_host permanent temporary =
    host_of blocks_settings (record { clkcr = 19456; gated = true; clock = record { 0 = 1000 }; signalling = SDR12 }) true
    (record { card_type = SDHC; ocr = 3676744920; rca = 1773; cid = record { high = 10614031905992611897; low = 13894537552128486370 }; csd = record { high = 5480212461539388992; low = 11985426724129564805 }; scr = record { 0 = 2496479927581758801 }; status = 0 ∷ 0 ∷ 0 ∷ 0 ∷ 0 ∷ 0 ∷ 0 ∷ 0 ∷ 0 ∷ 0 ∷ 0 ∷ 0 ∷ 0 ∷ 0 ∷ 0 ∷ 0 ∷ []; block_count = record { 0 = 43602944 }; protection = record { permanent = permanent; temporary = temporary } })

-- protected for good: a read of it is served
abbrev blocks_host : Sdmmc
blocks_host = protected_host true false

abbrev blocks_script : List ℕ
blocks_script = 536870912 ∷ 4718656 ∷ 34099213 ∷ 2304 ∷ 2010450368 ∷ 1073742080 ∷ 0 ∷ 2097356 ∷ 1135723072 ∷ 64 ∷ 34095122 ∷ 0 ∷ 0 ∷ 402833410 ∷ 0 ∷ 351610309 ∷ 0 ∷ 33554692 ∷ 0 ∷ 0 ∷ 616166049 ∷ 4247591980 ∷ 4152002046 ∷ 698015880 ∷ 401217510 ∷ 2124789352 ∷ 1325054517 ∷ 2257699607 ∷ 4110541088 ∷ 2863434047 ∷ 3454668120 ∷ 3618512794 ∷ 22838825 ∷ 500574806 ∷ 1015369264 ∷ 340735073 ∷ 4159854794 ∷ 2397310325 ∷ 2959560163 ∷ 3172367913 ∷ 111962116 ∷ 745997488 ∷ 313046986 ∷ 2887376903 ∷ 3097070418 ∷ 3600675178 ∷ 3143531385 ∷ 1304050832 ∷ 3869221326 ∷ 1637410623 ∷ 3322564342 ∷ 953030149 ∷ 2831777008 ∷ 3832721625 ∷ 2231569865 ∷ 4115888930 ∷ 2116264299 ∷ 3543076842 ∷ 937181514 ∷ 2539328246 ∷ 3184948801 ∷ 1453649278 ∷ 2723623530 ∷ 3431657852 ∷ 3253668484 ∷ 2136053586 ∷ 3697929051 ∷ 725638102 ∷ 3684472462 ∷ 2394604973 ∷ 1908172433 ∷ 3886691048 ∷ 923044338 ∷ 3781697230 ∷ 1086343212 ∷ 1636561967 ∷ 2423115988 ∷ 1632796583 ∷ 3644737540 ∷ 3583593392 ∷ 64781301 ∷ 326645906 ∷ 3299207379 ∷ 3371805191 ∷ 4140269917 ∷ 3929373638 ∷ 175759973 ∷ 13258056 ∷ 2174983431 ∷ 1861853261 ∷ 3890303079 ∷ 1091759144 ∷ 2876601675 ∷ 1142683337 ∷ 420394268 ∷ 778558187 ∷ 3617797771 ∷ 970111157 ∷ 3686147207 ∷ 3614862414 ∷ 2196005657 ∷ 3228579338 ∷ 696577735 ∷ 2740963630 ∷ 2945762987 ∷ 2301927339 ∷ 784506322 ∷ 688285468 ∷ 2609635124 ∷ 1585360291 ∷ 128377365 ∷ 3174999214 ∷ 334149151 ∷ 3260890560 ∷ 2732272832 ∷ 3373870657 ∷ 1022736599 ∷ 2493325519 ∷ 3374182393 ∷ 581558553 ∷ 2655936289 ∷ 121645759 ∷ 2961589783 ∷ 812427668 ∷ 3440773665 ∷ 3393547483 ∷ 2968582959 ∷ 2005655791 ∷ 1896862879 ∷ 3273317504 ∷ 3858327460 ∷ 1505331135 ∷ 1207608174 ∷ 964423361 ∷ 3693941189 ∷ 1730324229 ∷ 1182646354 ∷ 3170134024 ∷ 1778003681 ∷ 1899674801 ∷ 149097224 ∷ 3339235970 ∷ 2122173386 ∷ 1380759711 ∷ 3299875137 ∷ 2986357657 ∷ 1885116221 ∷ 2953435810 ∷ 3997653237 ∷ 2604483577 ∷ 1446427094 ∷ 733906121 ∷ 3051996549 ∷ 2374073608 ∷ 3645953930 ∷ 232723752 ∷ 3005474937 ∷ 3276793855 ∷ 3445967103 ∷ 306735699 ∷ 4109540193 ∷ 2620926416 ∷ 1954307917 ∷ 3677519270 ∷ 3056984934 ∷ 4004783012 ∷ 1604813513 ∷ 2564290527 ∷ 2947381998 ∷ 1233774133 ∷ 2311616046 ∷ 1965881451 ∷ 3628061212 ∷ 2327180751 ∷ 3975237276 ∷ 1858577170 ∷ 2510850156 ∷ 2707742689 ∷ 2933449154 ∷ 1195885289 ∷ 2032156828 ∷ 2031452898 ∷ 925346543 ∷ 3917319488 ∷ 3265324649 ∷ 2343353502 ∷ 82937728 ∷ 765412911 ∷ 1741668629 ∷ 2289911891 ∷ 1847166627 ∷ 3468047157 ∷ 3888146499 ∷ 136177834 ∷ 3458059588 ∷ 3358566068 ∷ 1982675480 ∷ 2324633104 ∷ 4057097105 ∷ 2592216811 ∷ 2688273718 ∷ 2574012191 ∷ 2145678853 ∷ 380138782 ∷ 3864845956 ∷ 1820311445 ∷ 4193576726 ∷ 2672480496 ∷ 3425492365 ∷ 3803880042 ∷ 2221522962 ∷ 2108532021 ∷ 1074557813 ∷ 4162884519 ∷ 157770578 ∷ 2384136643 ∷ 1419277832 ∷ 933431371 ∷ 3808005655 ∷ 2456595523 ∷ 224216312 ∷ 3321675559 ∷ 62204310 ∷ 2006499576 ∷ 1608177944 ∷ 2594993780 ∷ 2644159577 ∷ 3686404242 ∷ 3956198908 ∷ 555441186 ∷ 2018331691 ∷ 986240336 ∷ 2090077053 ∷ 150627961 ∷ 2978301172 ∷ 2473945227 ∷ 2817487181 ∷ 2013969450 ∷ 1523741191 ∷ 1719654157 ∷ 3760392841 ∷ 3422721902 ∷ 1838686250 ∷ 128792430 ∷ 1813491250 ∷ 3846259086 ∷ 2170409975 ∷ 2236816153 ∷ 2409285864 ∷ 3669604124 ∷ 1683010330 ∷ 55717233 ∷ 1389649145 ∷ 1460665931 ∷ 1779092609 ∷ 2937703810 ∷ 2100365284 ∷ 2800954305 ∷ 525176271 ∷ 1355931267 ∷ 1294377624 ∷ 1597880217 ∷ 3622679704 ∷ 2494638679 ∷ 1697132966 ∷ 1448134124 ∷ 3009019772 ∷ 1478609303 ∷ 3298163514 ∷ 3277719369 ∷ 4079365087 ∷ 1822307382 ∷ 3537587394 ∷ 2338666244 ∷ 83148097 ∷ 3559456579 ∷ 2181070883 ∷ 42156352 ∷ 134217740 ∷ 7568 ∷ 0 ∷ 33088 ∷ 673253880 ∷ 210158685 ∷ 2218783082 ∷ 13 ∷ 2304 ∷ 33589260 ∷ 0 ∷ 0 ∷ []

abbrev blocks_rows : List Row
blocks_rows = rows_of_pairs (2 ∷ 19712 ∷ 8 ∷ 197 ∷ 3 ∷ 116195328 ∷ 4 ∷ 1101 ∷ 2 ∷ 19456 ∷ 10 ∷ 0 ∷ 9 ∷ 0 ∷ 7 ∷ 0 ∷ 8 ∷ 1850 ∷ 5 ∷ 114 ∷ 6 ∷ 1024 ∷ 7 ∷ 155 ∷ 2 ∷ 19712 ∷ 8 ∷ 197 ∷ 3 ∷ 33730825 ∷ 4 ∷ 1106 ∷ 9 ∷ 0 ∷ 7 ∷ 0 ∷ 8 ∷ 1850 ∷ 2 ∷ 19456 ∷ 2 ∷ 19712 ∷ 8 ∷ 197 ∷ 3 ∷ 0 ∷ 4 ∷ 1100 ∷ 2 ∷ 19456 ∷ 2 ∷ 19712 ∷ 8 ∷ 197 ∷ 3 ∷ 116195328 ∷ 4 ∷ 1101 ∷ 2 ∷ 19456 ∷ [])

pub blocks : read_came blocks_host 33730825 1024 blocks_script (empty 30)
    ≡ record {
      answer = Accepted;
      words = 290;
      rows = 30;
      list = blocks_rows;
      taken = 616166049 ∷ 4247591980 ∷ 4152002046 ∷ 698015880 ∷ 401217510 ∷ 2124789352 ∷ 1325054517 ∷ 2257699607 ∷ 4110541088 ∷ 2863434047 ∷ 3454668120 ∷ 3618512794 ∷ 22838825 ∷ 500574806 ∷ 1015369264 ∷ 340735073 ∷ 4159854794 ∷ 2397310325 ∷ 2959560163 ∷ 3172367913 ∷ 111962116 ∷ 745997488 ∷ 313046986 ∷ 2887376903 ∷ 3097070418 ∷ 3600675178 ∷ 3143531385 ∷ 1304050832 ∷ 3869221326 ∷ 1637410623 ∷ 3322564342 ∷ 953030149 ∷ 2831777008 ∷ 3832721625 ∷ 2231569865 ∷ 4115888930 ∷ 2116264299 ∷ 3543076842 ∷ 937181514 ∷ 2539328246 ∷ 3184948801 ∷ 1453649278 ∷ 2723623530 ∷ 3431657852 ∷ 3253668484 ∷ 2136053586 ∷ 3697929051 ∷ 725638102 ∷ 3684472462 ∷ 2394604973 ∷ 1908172433 ∷ 3886691048 ∷ 923044338 ∷ 3781697230 ∷ 1086343212 ∷ 1636561967 ∷ 2423115988 ∷ 1632796583 ∷ 3644737540 ∷ 3583593392 ∷ 64781301 ∷ 326645906 ∷ 3299207379 ∷ 3371805191 ∷ 4140269917 ∷ 3929373638 ∷ 175759973 ∷ 13258056 ∷ 2174983431 ∷ 1861853261 ∷ 3890303079 ∷ 1091759144 ∷ 2876601675 ∷ 1142683337 ∷ 420394268 ∷ 778558187 ∷ 3617797771 ∷ 970111157 ∷ 3686147207 ∷ 3614862414 ∷ 2196005657 ∷ 3228579338 ∷ 696577735 ∷ 2740963630 ∷ 2945762987 ∷ 2301927339 ∷ 784506322 ∷ 688285468 ∷ 2609635124 ∷ 1585360291 ∷ 128377365 ∷ 3174999214 ∷ 334149151 ∷ 3260890560 ∷ 2732272832 ∷ 3373870657 ∷ 1022736599 ∷ 2493325519 ∷ 3374182393 ∷ 581558553 ∷ 2655936289 ∷ 121645759 ∷ 2961589783 ∷ 812427668 ∷ 3440773665 ∷ 3393547483 ∷ 2968582959 ∷ 2005655791 ∷ 1896862879 ∷ 3273317504 ∷ 3858327460 ∷ 1505331135 ∷ 1207608174 ∷ 964423361 ∷ 3693941189 ∷ 1730324229 ∷ 1182646354 ∷ 3170134024 ∷ 1778003681 ∷ 1899674801 ∷ 149097224 ∷ 3339235970 ∷ 2122173386 ∷ 1380759711 ∷ 3299875137 ∷ 2986357657 ∷ 1885116221 ∷ 2953435810 ∷ 3997653237 ∷ 2604483577 ∷ 1446427094 ∷ 733906121 ∷ 3051996549 ∷ 2374073608 ∷ 3645953930 ∷ 232723752 ∷ 3005474937 ∷ 3276793855 ∷ 3445967103 ∷ 306735699 ∷ 4109540193 ∷ 2620926416 ∷ 1954307917 ∷ 3677519270 ∷ 3056984934 ∷ 4004783012 ∷ 1604813513 ∷ 2564290527 ∷ 2947381998 ∷ 1233774133 ∷ 2311616046 ∷ 1965881451 ∷ 3628061212 ∷ 2327180751 ∷ 3975237276 ∷ 1858577170 ∷ 2510850156 ∷ 2707742689 ∷ 2933449154 ∷ 1195885289 ∷ 2032156828 ∷ 2031452898 ∷ 925346543 ∷ 3917319488 ∷ 3265324649 ∷ 2343353502 ∷ 82937728 ∷ 765412911 ∷ 1741668629 ∷ 2289911891 ∷ 1847166627 ∷ 3468047157 ∷ 3888146499 ∷ 136177834 ∷ 3458059588 ∷ 3358566068 ∷ 1982675480 ∷ 2324633104 ∷ 4057097105 ∷ 2592216811 ∷ 2688273718 ∷ 2574012191 ∷ 2145678853 ∷ 380138782 ∷ 3864845956 ∷ 1820311445 ∷ 4193576726 ∷ 2672480496 ∷ 3425492365 ∷ 3803880042 ∷ 2221522962 ∷ 2108532021 ∷ 1074557813 ∷ 4162884519 ∷ 157770578 ∷ 2384136643 ∷ 1419277832 ∷ 933431371 ∷ 3808005655 ∷ 2456595523 ∷ 224216312 ∷ 3321675559 ∷ 62204310 ∷ 2006499576 ∷ 1608177944 ∷ 2594993780 ∷ 2644159577 ∷ 3686404242 ∷ 3956198908 ∷ 555441186 ∷ 2018331691 ∷ 986240336 ∷ 2090077053 ∷ 150627961 ∷ 2978301172 ∷ 2473945227 ∷ 2817487181 ∷ 2013969450 ∷ 1523741191 ∷ 1719654157 ∷ 3760392841 ∷ 3422721902 ∷ 1838686250 ∷ 128792430 ∷ 1813491250 ∷ 3846259086 ∷ 2170409975 ∷ 2236816153 ∷ 2409285864 ∷ 3669604124 ∷ 1683010330 ∷ 55717233 ∷ 1389649145 ∷ 1460665931 ∷ 1779092609 ∷ 2937703810 ∷ 2100365284 ∷ 2800954305 ∷ 525176271 ∷ 1355931267 ∷ 1294377624 ∷ 1597880217 ∷ 3622679704 ∷ 2494638679 ∷ 1697132966 ∷ 1448134124 ∷ 3009019772 ∷ 1478609303 ∷ 3298163514 ∷ 3277719369 ∷ 4079365087 ∷ 1822307382 ∷ 3537587394 ∷ 2338666244 ∷ 83148097 ∷ 3559456579 ∷ [];
      host = host_of blocks_settings (record { clkcr = 19456; gated = true; clock = record { 0 = 1000 }; signalling = SDR12 }) true
          (record { card_type = SDHC; ocr = 3676744920; rca = 1773; cid = record { high = 10614031905992611897; low = 13894537552128486370 }; csd = record { high = 5480212461539388992; low = 11985426724129564805 }; scr = record { 0 = 2496479927581758801 }; status = 0 ∷ 0 ∷ 0 ∷ 0 ∷ 0 ∷ 0 ∷ 0 ∷ 0 ∷ 0 ∷ 0 ∷ 0 ∷ 0 ∷ 0 ∷ 0 ∷ 0 ∷ 0 ∷ []; block_count = record { 0 = 43602944 }; protection = record { permanent = true; temporary = false } });
    }
unfolding rows_of_pairs ensure word timed_out divisor_of clock_of first_match data_of count_of rate_of protection_of made_of bytes_of halves_of scr_of handle until noted run row hold_gated hold_clock hold_signalling wait_idle reset_controller stop_data set_clken data_from configure_clock clock_delay form_of issue poll_completion wait_completion echo response_words judge answer complete command_inner command app_command retry_delay read_status try_ready wait_ready arm ready_data order_data before_command after_command landed start_data clean poll_transfer drained settle data_complete wait_data receive close_gate stop_transmission end_data transfer_data blocking_data version late card_version power_on begin_init power_up try_power_up wait_power_up select publish identify block_length read_scr set_width set_clock transfer_clock take_switch ask_switch switch_speed settle_card init_card initialise ends init_from initialised transferred approached served blocks_from blocks_judged blocks_came status_came units_of address_of counted sd_status_of clocked_host judged_host made
blocks = refl

abbrev status_settings : Settings
status_settings =
    record {
      source = record { 0 = 24999999 };
      config = record { data_transfer_timeout = 154506; software_timeout_ms = 3995949; poll_limit = 1; card_ready_attempts = 1; allow_clock_bypass = false };
      wide = false;
    }

abbrev status_host : Sdmmc
status_host =
    host_of status_settings (record { clkcr = 0; gated = true; clock = record { 0 = 12499999 }; signalling = SDR12 }) true
    (record { card_type = SDHC; ocr = 3493256252; rca = 15833; cid = record { high = 4941702262230667832; low = 5771362673349281307 }; csd = record { high = 6837660891894876713; low = 10659667017040492165 }; scr = record { 0 = 91623397732611020 }; status = 0 ∷ 0 ∷ 0 ∷ 0 ∷ 0 ∷ 0 ∷ 0 ∷ 0 ∷ 0 ∷ 0 ∷ 0 ∷ 0 ∷ 0 ∷ 0 ∷ 0 ∷ 0 ∷ []; block_count = record { 0 = 2790243328 }; protection = record { permanent = true; temporary = true } })

abbrev status_script : List ℕ
status_script = 67371538 ∷ 69208128 ∷ 33816887 ∷ 32 ∷ 4082364139 ∷ 0 ∷ 0 ∷ 0 ∷ 1659453973 ∷ 64 ∷ 1949563661 ∷ 6453 ∷ 841 ∷ 0 ∷ 2500830845 ∷ 0 ∷ 131080 ∷ 256 ∷ 1073741824 ∷ 0 ∷ 2575485925 ∷ 319871482 ∷ 3860256998 ∷ 3310270114 ∷ 2561809264 ∷ 403508418 ∷ 443932073 ∷ 797294158 ∷ 1587950690 ∷ 4143161677 ∷ 1712240975 ∷ 2639666831 ∷ 2068070786 ∷ 1703953298 ∷ 2824245035 ∷ 3671831187 ∷ 0 ∷ 64 ∷ 13 ∷ 2304 ∷ 905083664 ∷ 1981223200 ∷ 2151649242 ∷ []

abbrev status_rows : List Row
status_rows = rows_of_pairs (2 ∷ 256 ∷ 8 ∷ 197 ∷ 3 ∷ 1037631488 ∷ 4 ∷ 1143 ∷ 2 ∷ 0 ∷ 10 ∷ 0 ∷ 9 ∷ 0 ∷ 7 ∷ 0 ∷ 8 ∷ 1850 ∷ 5 ∷ 154506 ∷ 6 ∷ 64 ∷ 7 ∷ 107 ∷ 2 ∷ 256 ∷ 8 ∷ 197 ∷ 3 ∷ 0 ∷ 4 ∷ 1101 ∷ 9 ∷ 0 ∷ 7 ∷ 0 ∷ 8 ∷ 1850 ∷ 2 ∷ 0 ∷ 2 ∷ 256 ∷ 8 ∷ 197 ∷ 3 ∷ 1037631488 ∷ 4 ∷ 1101 ∷ 2 ∷ 0 ∷ [])

pub status : status_came status_host status_script (empty 25)
    ≡ record {
      answer = Accepted;
      words = 43;
      rows = 25;
      list = status_rows;
      taken = 2575485925 ∷ 319871482 ∷ 3860256998 ∷ 3310270114 ∷ 2561809264 ∷ 403508418 ∷ 443932073 ∷ 797294158 ∷ 1587950690 ∷ 4143161677 ∷ 1712240975 ∷ 2639666831 ∷ 2068070786 ∷ 1703953298 ∷ 2824245035 ∷ 3671831187 ∷ [];
      host = host_of status_settings (record { clkcr = 0; gated = true; clock = record { 0 = 12499999 }; signalling = SDR12 }) true
          (record { card_type = SDHC; ocr = 3493256252; rca = 15833; cid = record { high = 4941702262230667832; low = 5771362673349281307 }; csd = record { high = 6837660891894876713; low = 10659667017040492165 }; scr = record { 0 = 91623397732611020 }; status = 2477972442 ∷ 730814120 ∷ 2453901413 ∷ 2185315451 ∷ 2401130141 ∷ 1337527910 ∷ 1302459382 ∷ 1647617630 ∷ 1321108783 ∷ 2849862938 ∷ 3255569688 ∷ 1880863384 ∷ 2729856709 ∷ 3872921318 ∷ 4208529427 ∷ 3855319705 ∷ []; block_count = record { 0 = 2790243328 }; protection = record { permanent = true; temporary = true } });
    }
unfolding rows_of_pairs ensure word timed_out divisor_of clock_of first_match data_of count_of rate_of protection_of made_of bytes_of halves_of scr_of handle until noted run row hold_gated hold_clock hold_signalling wait_idle reset_controller stop_data set_clken data_from configure_clock clock_delay form_of issue poll_completion wait_completion echo response_words judge answer complete command_inner command app_command retry_delay read_status try_ready wait_ready arm ready_data order_data before_command after_command landed start_data clean poll_transfer drained settle data_complete wait_data receive close_gate stop_transmission end_data transfer_data blocking_data version late card_version power_on begin_init power_up try_power_up wait_power_up select publish identify block_length read_scr set_width set_clock transfer_clock take_switch ask_switch switch_speed settle_card init_card initialise ends init_from initialised transferred approached served blocks_from blocks_judged blocks_came status_came units_of address_of counted sd_status_of clocked_host judged_host made
status = refl

abbrev reset_rows : List Row
reset_rows = rows_of_pairs (9 ∷ 0 ∷ 10 ∷ 0 ∷ 7 ∷ 0 ∷ 4 ∷ 0 ∷ 1 ∷ 0 ∷ 2 ∷ 0 ∷ 3 ∷ 0 ∷ 5 ∷ 0 ∷ 6 ∷ 0 ∷ 8 ∷ 12584959 ∷ [])

-- A bargain card, which the driver would take: its block length is 10. It is refused after CMD9 for that, or, where its OCR says
-- standard capacity, for disagreeing with it: no row of CMD7, the reset rows, no record.
abbrev turned_away : Field → Came
turned_away field =
    record {
      answer = Refused (UnsupportedCardType field);
      words = 37;
      rows = 45;
      list = take 35 narrow_rows ++ reset_rows;
      taken = [];
      host = host_of narrow_settings (record { clkcr = 0; gated = false; clock = record { 0 = 398490 }; signalling = SDR12 }) false no_card;
    }

pub bargain : map (λ ocr. initialised (made narrow_settings).host 39172822 (narrow_with ocr 0x7cca_8f18) (empty 45)) (3260648877 ∷ 2186907053 ∷ [])
    ≡ turned_away BlockLength ∷ turned_away CsdAndOcr ∷ []
unfolding rows_of_pairs ensure word timed_out divisor_of clock_of first_match data_of count_of rate_of protection_of made_of bytes_of halves_of scr_of handle until noted run row hold_gated hold_clock hold_signalling wait_idle reset_controller stop_data set_clken data_from configure_clock clock_delay form_of issue poll_completion wait_completion echo response_words judge answer complete command_inner command app_command retry_delay read_status try_ready wait_ready arm ready_data order_data before_command after_command landed start_data clean poll_transfer drained settle data_complete wait_data receive close_gate stop_transmission end_data transfer_data blocking_data version late card_version power_on begin_init power_up try_power_up wait_power_up select publish identify block_length read_scr set_width set_clock transfer_clock take_switch ask_switch switch_speed settle_card init_card initialise ends init_from initialised transferred approached served blocks_from blocks_judged blocks_came status_came units_of address_of counted sd_status_of clocked_host judged_host made
bargain = refl

-- A card pulled out: the same call cut short. Before initialisation's first reading: the ten reset rows, and ten more, no record;
-- with room for one row less it is 22, and the host as before.
pub pulled_at_once : initialised status_host 25_000_000 [] (empty 20) ∷ initialised status_host 25_000_000 [] (empty 19) ∷ []
    ≡ record {
      answer = ScriptEnded;
      words = 0;
      rows = 20;
      list = reset_rows ++ reset_rows;
      taken = [];
      host = host_of status_settings (record { clkcr = 0; gated = false; clock = record { 0 = 396825 }; signalling = SDR12 }) false no_card;
    }
    ∷ record { answer = TraceFull; words = 0; rows = 19; list = reset_rows ++ take 9 reset_rows; taken = []; host = status_host }
    ∷ []
unfolding rows_of_pairs ensure word timed_out divisor_of clock_of first_match data_of count_of rate_of protection_of made_of bytes_of halves_of scr_of handle until noted run row hold_gated hold_clock hold_signalling wait_idle reset_controller stop_data set_clken data_from configure_clock clock_delay form_of issue poll_completion wait_completion echo response_words judge answer complete command_inner command app_command retry_delay read_status try_ready wait_ready arm ready_data order_data before_command after_command landed start_data clean poll_transfer drained settle data_complete wait_data receive close_gate stop_transmission end_data transfer_data blocking_data version late card_version power_on begin_init power_up try_power_up wait_power_up select publish identify block_length read_scr set_width set_clock transfer_clock take_switch ask_switch switch_speed settle_card init_card initialise ends init_from initialised transferred approached served blocks_from blocks_judged blocks_came status_came units_of address_of counted sd_status_of clocked_host judged_host made
pulled_at_once = refl

-- Among the data words of initialisation's CMD51: the reset rows of the data phase, and initialisation's own; with room for one
-- row less it is 22, and the host as before.
pub pulled_inside :
    initialised (made narrow_settings).host 39172822 (take 72 narrow_script) (empty 75)
    ∷ initialised (made narrow_settings).host 39172822 (take 72 narrow_script) (empty 74)
    ∷ []
    ≡ record {
      answer = ScriptEnded;
      words = 72;
      rows = 75;
      list = take 55 narrow_rows ++ reset_rows ++ reset_rows;
      taken = [];
      host = host_of narrow_settings (record { clkcr = 0; gated = false; clock = record { 0 = 398490 }; signalling = SDR12 }) false no_card;
    }
    ∷ record {
      answer = TraceFull;
      words = 72;
      rows = 74;
      list = take 55 narrow_rows ++ reset_rows ++ take 9 reset_rows;
      taken = [];
      host = (made narrow_settings).host;
    }
    ∷ []
unfolding rows_of_pairs ensure word timed_out divisor_of clock_of first_match data_of count_of rate_of protection_of made_of bytes_of halves_of scr_of handle until noted run row hold_gated hold_clock hold_signalling wait_idle reset_controller stop_data set_clken data_from configure_clock clock_delay form_of issue poll_completion wait_completion echo response_words judge answer complete command_inner command app_command retry_delay read_status try_ready wait_ready arm ready_data order_data before_command after_command landed start_data clean poll_transfer drained settle data_complete wait_data receive close_gate stop_transmission end_data transfer_data blocking_data version late card_version power_on begin_init power_up try_power_up wait_power_up select publish identify block_length read_scr set_width set_clock transfer_clock take_switch ask_switch switch_speed settle_card init_card initialise ends init_from initialised transferred approached served blocks_from blocks_judged blocks_came status_came units_of address_of counted sd_status_of clocked_host judged_host made
pulled_inside = refl

-- At a status call's CMD55: the clock off, the record kept. At the last word of its closing ready wait: the clock off, and the
-- reset rows; no record. With room for nine of these: 22, and the host as before.
pub pulled : status_came status_host [] (empty 2) ∷ status_came status_host (take 42 status_script) (empty 35) ∷ status_came status_host (take 42 status_script) (empty 34) ∷ []
    ≡ record { answer = ScriptEnded; words = 0; rows = 2; list = rows_of_pairs (2 ∷ 256 ∷ 2 ∷ 0 ∷ []); taken = []; host = status_host }
    ∷ record {
      answer = ScriptEnded;
      words = 42;
      rows = 35;
      list = status_rows ++ reset_rows;
      taken = [];
      host = host_of status_settings (record { clkcr = 0; gated = true; clock = record { 0 = 12499999 }; signalling = SDR12 }) false no_card;
    }
    ∷ record { answer = TraceFull; words = 42; rows = 34; list = status_rows ++ take 9 reset_rows; taken = []; host = status_host }
    ∷ []
unfolding rows_of_pairs ensure word timed_out divisor_of clock_of first_match data_of count_of rate_of protection_of made_of bytes_of halves_of scr_of handle until noted run row hold_gated hold_clock hold_signalling wait_idle reset_controller stop_data set_clken data_from configure_clock clock_delay form_of issue poll_completion wait_completion echo response_words judge answer complete command_inner command app_command retry_delay read_status try_ready wait_ready arm ready_data order_data before_command after_command landed start_data clean poll_transfer drained settle data_complete wait_data receive close_gate stop_transmission end_data transfer_data blocking_data version late card_version power_on begin_init power_up try_power_up wait_power_up select publish identify block_length read_scr set_width set_clock transfer_clock take_switch ask_switch switch_speed settle_card init_card initialise ends init_from initialised transferred approached served blocks_from blocks_judged blocks_came status_came units_of address_of counted sd_status_of clocked_host judged_host made
pulled = refl

-- Writes of a block, of none and of one past the card, with each pair of flags, on no script: 26 before 19 and before 20.
abbrev written : Bool → Bool → List Answer
written permanent temporary =
    (write_came (protected_host permanent temporary) 0 (replicate 512 0) [] (empty 2)).answer
    ∷ (write_came (protected_host permanent temporary) 0 [] [] (empty 2)).answer
    ∷ (write_came (protected_host permanent temporary) 43602944 (replicate 512 0) [] (empty 2)).answer
    ∷ []

abbrev barred : List Answer
barred = replicate 3 (Refused WriteProtected)

pub protected : written false false ∷ written false true ∷ written true false ∷ written true true ∷ []
    ≡ (ScriptEnded ∷ Refused InvalidBufferLength ∷ Refused AddressOutOfRange ∷ []) ∷ barred ∷ barred ∷ barred ∷ []
unfolding rows_of_pairs ensure word timed_out divisor_of clock_of first_match data_of count_of rate_of protection_of made_of bytes_of halves_of scr_of handle until noted run row hold_gated hold_clock hold_signalling wait_idle reset_controller stop_data set_clken data_from configure_clock clock_delay form_of issue poll_completion wait_completion echo response_words judge answer complete command_inner command app_command retry_delay read_status try_ready wait_ready arm ready_data order_data before_command after_command landed start_data clean poll_transfer drained settle data_complete wait_data receive close_gate stop_transmission end_data transfer_data blocking_data version late card_version power_on begin_init power_up try_power_up wait_power_up select publish identify block_length read_scr set_width set_clock transfer_clock take_switch ask_switch switch_speed settle_card init_card initialise ends init_from initialised transferred approached served blocks_from blocks_judged blocks_came status_came units_of address_of counted sd_status_of clocked_host judged_host made
protected = refl
