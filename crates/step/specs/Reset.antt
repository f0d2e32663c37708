-- The reset rows from each of them on.
use Rattle.std.specs.Prelude.{◌≡◌, refl, List, [], ◌∷◌, Option, Some, None}
use Rattle.tape.specs.declared.rows.Row.{Row}
use Rattle.tape.specs.Rows.{MASK, DCTRL, ICR, DTIMER, DLEN, DCTRL2, CMD, POWER, CLKCR, ARG}
use Rattle.step.specs.Rows.{reset_rows}
use Rattle.step.specs.declared.reset.Reset.{Reset}
use Rattle.step.specs.declared.reset.Reset.TheVariants as R

unfoldable pub reset_row : Reset → Row
reset_row R.Mask = record { register = MASK; value = 0 }
reset_row R.Dctrl2 = record { register = DCTRL2; value = 0 }
reset_row R.Dctrl = record { register = DCTRL; value = 0 }
reset_row R.Cmd = record { register = CMD; value = 0 }
reset_row R.Power = record { register = POWER; value = 0 }
reset_row R.Clkcr = record { register = CLKCR; value = 0 }
reset_row R.Arg = record { register = ARG; value = 0 }
reset_row R.Dtimer = record { register = DTIMER; value = 0 }
reset_row R.Dlen = record { register = DLEN; value = 0 }
reset_row R.Icr = record { register = ICR; value = 0x00c0_07ff }

-- the rows after each of them
unfoldable pub rest_left : Reset → List Row
rest_left R.Mask = reset_row R.Dctrl2 ∷ reset_row R.Dctrl ∷ reset_row R.Cmd ∷ reset_row R.Power ∷ reset_row R.Clkcr ∷ reset_row R.Arg ∷ reset_row R.Dtimer ∷ reset_row R.Dlen ∷ reset_row R.Icr ∷ []
rest_left R.Dctrl2 = reset_row R.Dctrl ∷ reset_row R.Cmd ∷ reset_row R.Power ∷ reset_row R.Clkcr ∷ reset_row R.Arg ∷ reset_row R.Dtimer ∷ reset_row R.Dlen ∷ reset_row R.Icr ∷ []
rest_left R.Dctrl = reset_row R.Cmd ∷ reset_row R.Power ∷ reset_row R.Clkcr ∷ reset_row R.Arg ∷ reset_row R.Dtimer ∷ reset_row R.Dlen ∷ reset_row R.Icr ∷ []
rest_left R.Cmd = reset_row R.Power ∷ reset_row R.Clkcr ∷ reset_row R.Arg ∷ reset_row R.Dtimer ∷ reset_row R.Dlen ∷ reset_row R.Icr ∷ []
rest_left R.Power = reset_row R.Clkcr ∷ reset_row R.Arg ∷ reset_row R.Dtimer ∷ reset_row R.Dlen ∷ reset_row R.Icr ∷ []
rest_left R.Clkcr = reset_row R.Arg ∷ reset_row R.Dtimer ∷ reset_row R.Dlen ∷ reset_row R.Icr ∷ []
rest_left R.Arg = reset_row R.Dtimer ∷ reset_row R.Dlen ∷ reset_row R.Icr ∷ []
rest_left R.Dtimer = reset_row R.Dlen ∷ reset_row R.Icr ∷ []
rest_left R.Dlen = reset_row R.Icr ∷ []
rest_left R.Icr = []

abbrev pub rows_left : Reset → List Row
rows_left r = reset_row r ∷ rest_left r

pub all_rows : rows_left R.Mask ≡ reset_rows
unfolding rest_left reset_row
all_rows = refl

unfoldable pub step_left : Option Reset → List Row
step_left (Some r) = rows_left r
step_left None = []
