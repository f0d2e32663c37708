-- Document 01's worked example, end to end: what is printed of its book's bytes, computed from the definitions.
use Rattle.std.specs.Prelude.{◌≡◌, refl}
use Rattle.types.specs.Answer.{error_told, answer_told}
use Rattle.types.specs.Leaf.{divisor_of, clock_of}
use Rattle.types.specs.Settings.{made_of}
use Rattle.types.specs.Words.{bytes_of, words_of}
use Rattle.text.specs.Digits.{decimal_in, decimal_of}
use Rattle.text.specs.Typed.{typed}
use Rattle.tape.specs.Layout.{rows_in}
use Rattle.tape.specs.Plan.{handle, until}
use Rattle.tape.specs.Run.{noted, run}
use Rattle.tape.specs.Steps.{word, row, hold_gated, hold_clock, hold_signalling, wait_idle, reset_controller, set_clken}
use Rattle.bus.specs.Clock.{configure_clock, clock_delay}
use Rattle.bus.specs.Command.{issue, complete, command_inner, command}
use Rattle.init.specs.Initialise.{power_on, begin_init, init_card, initialise}
use Rattle.host.specs.Calls.{ends, init_from, initialised, blocks_from, blocks_judged, blocks_came, clocked_host, judged_host, made}
use Rattle.calls.specs.Serve.{comes, serve}
use Rattle.book.specs.Cases.{words}
use Rattle.book.specs.Layout.{data_count, calls_of, book_in, bad_row, bad_rows, body_words, bad_words, bad_book, book_of}
use Rattle.bench.specs.Bench.{kind_of, lines_from, where_accepted, book_lines, printed}

pub worked : printed (bytes_of words)
    ≡ typed "host answer 0\n1 answer 17 words 0 rows 0\n2 answer 16 words 0 rows 0\n3 answer 2 words 1 rows 20\n"
unfolding rows_in error_told answer_told divisor_of clock_of made_of bytes_of decimal_in decimal_of handle until noted run word row hold_gated hold_clock hold_signalling wait_idle reset_controller set_clken configure_clock clock_delay issue complete command_inner command power_on begin_init init_card initialise ends init_from initialised blocks_from blocks_judged blocks_came clocked_host judged_host made comes serve words_of data_count calls_of book_in bad_row bad_rows body_words bad_words bad_book book_of kind_of lines_from where_accepted book_lines
worked = refl
