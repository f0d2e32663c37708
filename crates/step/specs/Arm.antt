-- The rows that ready the data path, and the rows that stop it, from each of them on.
use Rattle.std.specs.Prelude.{ℕ, ◌*◌, ◌≡◌, List, [], ◌∷◌, Option, Some, None}
use Rattle.std.proofs.Math.Path.{refl}
use Rattle.tape.specs.declared.rows.Row.{Row}
use Rattle.tape.specs.Rows.{MASK, DCTRL, ICR, DTIMER, DLEN, DCTRL2}
use Rattle.bus.specs.declared.transfer.Transfer.{Transfer}
use Rattle.step.specs.Rows.{arm_rows, stop_rows}
use Rattle.step.specs.declared.arm.Arm.{Arm}
use Rattle.step.specs.declared.arm.Arm.TheVariants as A
use Rattle.step.specs.declared.arm.Stop.{Stop}
use Rattle.step.specs.declared.arm.Stop.TheVariants as S

module _ (timeout : ℕ) (transfer : Transfer) where
  unfoldable pub arm_row : Arm → Row
  arm_row A.Dctrl2 = record { register = DCTRL2; value = 0 }
  arm_row A.Mask = record { register = MASK; value = 0 }
  arm_row A.Off = record { register = DCTRL; value = 0 }
  arm_row A.Icr = record { register = ICR; value = 0x73a }
  arm_row A.Dtimer = record { register = DTIMER; value = timeout }
  arm_row A.Dlen = record { register = DLEN; value = 4 * transfer.words }

  unfoldable pub arm_rest : Arm → List Row
  arm_rest A.Dctrl2 = arm_row A.Mask ∷ arm_row A.Off ∷ arm_row A.Icr ∷ arm_row A.Dtimer ∷ arm_row A.Dlen ∷ []
  arm_rest A.Mask = arm_row A.Off ∷ arm_row A.Icr ∷ arm_row A.Dtimer ∷ arm_row A.Dlen ∷ []
  arm_rest A.Off = arm_row A.Icr ∷ arm_row A.Dtimer ∷ arm_row A.Dlen ∷ []
  arm_rest A.Icr = arm_row A.Dtimer ∷ arm_row A.Dlen ∷ []
  arm_rest A.Dtimer = arm_row A.Dlen ∷ []
  arm_rest A.Dlen = []

  abbrev pub arm_left : Arm → List Row
  arm_left a = arm_row a ∷ arm_rest a

  unfoldable pub arm_next : Option Arm → List Row
  arm_next (Some a) = arm_left a
  arm_next None = []

  pub all_arm : arm_left A.Dctrl2 ≡ arm_rows timeout transfer
  unfolding arm_row arm_rest
  all_arm = refl

unfoldable pub stop_row : Stop → Row
stop_row S.Mask = record { register = MASK; value = 0 }
stop_row S.Dctrl = record { register = DCTRL; value = 0 }
stop_row S.Icr = record { register = ICR; value = 0x73a }

unfoldable pub stop_rest : Stop → List Row
stop_rest S.Mask = stop_row S.Dctrl ∷ stop_row S.Icr ∷ []
stop_rest S.Dctrl = stop_row S.Icr ∷ []
stop_rest S.Icr = []

abbrev pub stop_left : Stop → List Row
stop_left s = stop_row s ∷ stop_rest s

unfoldable pub stop_next : Option Stop → List Row
stop_next (Some s) = stop_left s
stop_next None = []

pub all_stop : stop_left S.Mask ≡ stop_rows
unfolding stop_row stop_rest
all_stop = refl
