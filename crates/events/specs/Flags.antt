-- The lines of a table of status words as the code has it.
use Rattle.std.specs.Prelude.{List, map}
use Rattle.events.specs.declared.flags.Flag as Held
use Rattle.events.specs.Meaning.{Flag}

abbrev pub line_of : Held.Flag → Flag
line_of f = record { mask = f.mask; text = f.text.now }

abbrev pub lines_of : List Held.Flag → List Flag
lines_of table = map line_of table
