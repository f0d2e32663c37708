-- What is said where a program's arguments are wrong: its name, and the cause.
use Rattle.std.specs.Prelude.{ℕ, List, ◌++◌}
use Rattle.text.specs.Typed.{typed}
use Rattle.desk.specs.declared.room.ArgumentError.{ArgumentError}
use Rattle.desk.specs.declared.room.ArgumentError.TheVariants.{TooMany, NoRoom}
use Rattle.desk.specs.declared.room.Program.{Program}
use Rattle.desk.specs.declared.room.Program.TheVariants.{Cardtrace, Cardpile, Cardsteps}

abbrev pub name_text : Program → List ℕ
name_text Cardtrace = typed "cardtrace"
name_text Cardpile = typed "cardpile"
name_text Cardsteps = typed "cardsteps"

abbrev pub error_text : ArgumentError → List ℕ
error_text TooMany = typed ": at most one argument, the rows of room for a call\n"
error_text NoRoom = typed ": room must be a number from 0 to 4096\n"

unfoldable pub refusal_text : Program → ArgumentError → List ℕ
refusal_text program error = name_text program ++ error_text error
