-- Blocks of rows, one row after the other: those that reset the controller, that ready the data path, and that stop it.
use Rattle.std.specs.Prelude.{ℕ, ◌*◌, List, [], ◌∷◌}
use Rattle.tape.specs.declared.rows.Row.{Row}
use Rattle.tape.specs.Plan.{Nothing, Plan, give, write}
use Rattle.tape.specs.Rows.{MASK, DCTRL, ICR, DTIMER, DLEN, DCTRL2, CMD, POWER, CLKCR, ARG}
use Rattle.bus.specs.declared.transfer.Transfer.{Transfer}

abbrev pub row_of : ℕ → ℕ → Row
row_of register value = record { register = register; value = value }

unfoldable pub rows_from : List Row → Plan Nothing
rows_from [] = give tt
rows_from (r ∷ rs) = write r (rows_from rs)

abbrev pub reset_rows : List Row
reset_rows =
    row_of MASK 0 ∷ row_of DCTRL2 0 ∷ row_of DCTRL 0 ∷ row_of CMD 0 ∷ row_of POWER 0 ∷ row_of CLKCR 0 ∷ row_of ARG 0 ∷ row_of DTIMER 0
    ∷ row_of DLEN 0 ∷ row_of ICR 0x00c0_07ff ∷ []

abbrev pub arm_rows : ℕ → Transfer → List Row
arm_rows timeout transfer =
    row_of DCTRL2 0 ∷ row_of MASK 0 ∷ row_of DCTRL 0 ∷ row_of ICR 0x73a ∷ row_of DTIMER timeout ∷ row_of DLEN (4 * transfer.words)
    ∷ []

abbrev pub stop_rows : List Row
stop_rows = row_of MASK 0 ∷ row_of DCTRL 0 ∷ row_of ICR 0x73a ∷ []
