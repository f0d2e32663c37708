-- What is made of a CSD beside an OCR, before CMD7, computed as one table: the comparison comes first (field 6), then the CSD's
-- version (field 1) and its block length (field 2), which SD fixes at 9 in structure 1 (P6).
use Prim.Native.Nat.{ℕ, ◌*◌, ◌^◌}
use mathlib.Core.Bool.{Bool, true, false, cond}
use mathlib.Core.List.{List, [], ◌∷◌, map}
use mathlib.Core.Path.{◌≡◌, refl}
use Rattle.types.specs.declared.card.Signalling.TheVariants.{SDR12}
use Rattle.types.specs.declared.error.Error.TheVariants.{UnsupportedCardType}
use Rattle.types.specs.declared.error.Field.{Field}
use Rattle.types.specs.declared.error.Field.TheVariants.{CsdVersion, BlockLength, CsdAndOcr}
use Rattle.types.specs.Leaf.{count_of}
use Rattle.types.specs.Words.{halves_of}
use Rattle.tape.specs.declared.progress.Halt.TheVariants.{Refused, ScriptEnded}
use Rattle.tape.specs.declared.progress.Line.{Line}
use Rattle.tape.specs.Pace.{Pace}
use Rattle.tape.specs.Pace.{Stopped}
use Rattle.tape.specs.Plan.{handle, ensure, until}
use Rattle.tape.specs.Run.{run}
use Rattle.tape.specs.Steps.{word, wait_idle}
use Rattle.bus.specs.Command.{command_inner, command}
use Rattle.init.specs.Initialise.{no_card, select}

abbrev line : Line
line = record { clkcr = 0; gated = false; clock = record { 0 = 400_000 }; signalling = SDR12 }

-- an OCR of a card that has powered up, of high capacity or not; a CSD of this structure and block length, no other bit set
pub record Case : Type 0 where
  pub high : Bool
  pub structure : ℕ
  pub length : ℕ
  pub due : Pace

-- how the judging of such a card ends, on a script without a word and a list without room: refused, or at CMD7's first reading
abbrev pub judged : Case → Pace
judged c =
    (run [] no_card
    (select 1 (cond c.high 0xc0ff_8000 0x80ff_8000) 1 [] (c.structure * 2 ^ 30 ∷ c.length * 2 ^ 16 ∷ 0 ∷ 0 ∷ []))
    0 0 line []).state.progress.pace

abbrev case : Bool → ℕ → ℕ → Pace → Case
case high structure length due = record { high = high; structure = structure; length = length; due = due }

abbrev at : Field → Pace
at field = Stopped (Refused (UnsupportedCardType field))

abbrev selected : Pace
selected = Stopped ScriptEnded

abbrev pub table : List Case
table =
    case true 0 9 (at CsdAndOcr)
    ∷ case true 0 12 (at CsdAndOcr)
    ∷ case true 1 8 (at BlockLength)
    ∷ case true 1 9 selected
    ∷ case true 1 10 (at BlockLength)
    ∷ case true 1 11 (at BlockLength)
    ∷ case true 1 12 (at BlockLength)
    ∷ case true 2 9 (at CsdAndOcr)
    ∷ case true 3 10 (at CsdAndOcr)
    ∷ case false 0 8 (at BlockLength)
    ∷ case false 0 9 selected
    ∷ case false 0 10 selected
    ∷ case false 0 11 selected
    ∷ case false 0 12 (at BlockLength)
    ∷ case false 1 9 (at CsdAndOcr)
    ∷ case false 1 10 (at CsdAndOcr)
    ∷ case false 2 9 (at CsdVersion)
    ∷ case false 2 10 (at CsdVersion)
    ∷ case false 3 9 (at CsdVersion)
    ∷ []

pub cases : map judged table ≡ map (λ (c : Case). c.due) table
unfolding ensure count_of halves_of handle until run word wait_idle command_inner command select
cases = refl
